use mathlib.Core.Path.{◌∙◌, ap, sym}
use lib.IntN.{ℤ}
use lib.ListN.{length}
use mir.Syntax.{w32}
use mir.ValLaws.{to_z-of_z}
use Rattle.corrector.specs.Corrector.{apply_basic_corrector}
use Rattle.calls.specs.Calls.{corrector_answer, written}
use Rattle.calls.proofs.Accepted.{corrector_fits_lem, done_writes}
use Rattle.calls.proofs.apply_basic_corrector.Goals as goal
use Rattle.types.specs.Refusals.{Answer}

pub returns-in-Ok-clause-buffer : goal.returns-in-Ok-clause-buffer
returns-in-Ok-clause-buffer c = let a = c.args in
    let d = sym c.corrector_answer-answer.ensures ∙ c.in-Ok.is in
    let w = done_writes _ _ _ _ _ d (corrector_fits_lem a.shingle_size a.base a.gap a.point.now a.has_anomaly a.last_expected.now a.last_anomalous.now (length a.out.now) d) c.write_corrected_point.ensures in
    w ∙ ap (λ (z : ℤ). written (corrector_answer a.shingle_size a.base a.gap a.point.now a.has_anomaly a.last_expected.now a.last_anomalous.now (length a.out.now)) (apply_basic_corrector a.point.now a.gap a.shingle_size a.base a.has_anomaly a.last_expected.now a.last_anomalous.now z a.use_difference a.time_augmented) a.out.now) (to_z-of_z w32 a.relative_index c.ranges.relative_index)

pub returns-in-Err-clause-buffer : goal.returns-in-Err-clause-buffer
unfolding written
returns-in-Err-clause-buffer c = let a = c.args in
    let d = sym c.in-Err.is ∙ c.corrector_answer-answer.ensures in
    ap (λ (x : Answer). written x (apply_basic_corrector a.point.now a.gap a.shingle_size a.base a.has_anomaly a.last_expected.now a.last_anomalous.now a.relative_index a.use_difference a.time_augmented) a.out.now) d
