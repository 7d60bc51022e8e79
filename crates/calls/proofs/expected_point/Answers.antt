use mathlib.Core.Path.{◌∙◌, ap, sym}
use lib.ListN.{length}
use Rattle.corrector.specs.Corrector.{expected_point}
use Rattle.calls.specs.Calls.{written}
use Rattle.calls.proofs.Accepted.{expected_fits_lem, done_writes}
use Rattle.calls.proofs.expected_point.Goals as goal
use Rattle.types.specs.Refusals.{Answer}

pub returns-in-Ok-clause-buffer : goal.returns-in-Ok-clause-buffer
returns-in-Ok-clause-buffer c = let a = c.args in
    let d = sym c.expected_answer-answer.ensures ∙ c.in-Ok.is in
    done_writes _ _ _ _ _ d (expected_fits_lem a.shingle_size a.base a.position a.point.now a.high.now a.low.now a.median.now (length a.out.now) d) c.write_expected_point.ensures

pub returns-in-Err-clause-buffer : goal.returns-in-Err-clause-buffer
unfolding written
returns-in-Err-clause-buffer c = let a = c.args in
    let d = sym c.in-Err.is ∙ c.expected_answer-answer.ensures in
    ap (λ (x : Answer). written x (expected_point a.high.now a.low.now a.position a.base a.point.now a.median.now) a.out.now) d
