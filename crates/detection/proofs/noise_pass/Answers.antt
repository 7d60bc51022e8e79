use mathlib.Core.Path.{◌≡◌, ◌∙◌, ap, ap₂, sym}
use native.Mathlib.Omega.{arith}
use lib.IntN.{ℤ}
use lib.ListN.{length, take}
use lib.Seq.{length-take-le}
use mir.Syntax.{w32}
use mir.ValLaws.{to_z-of_z}
use Rattle.uncertainty_box.specs.Pass.{centered_transform_pass}
use Rattle.corrector.specs.Steps.{Correcting}
use Rattle.corrector.specs.Corrector.{apply_basic_corrector}
use Rattle.descriptor.specs.Lent.{lists_of}
use Rattle.detection.proofs.Stages.{pass_is}
use Rattle.detection.proofs.Work.{not_recent, front_is, corrected_is}
use mathlib.Core.Bool.{Bool}
use Rattle.types.specs.Codes.{is_differenced}
use borrow.Author.Rules.{rules}
use Rattle.detection.proofs.noise_pass.Goals as goal

pub returns-then-not-is_recent : goal.returns-then-not-is_recent
returns-then-not-is_recent c =
    let a = c.args in
    let b = lists_of a.b in
    let g = c.gap-gap in
    pass_is a.r a.l b g.result _ g.ensures
    (c.pass_factor.ensures
    ∙ ap (centered_transform_pass a.r.base_dimension b.scale b.shift b.difference_deviations)
    (not_recent b.point g.result a.r.shingle_size a.r.base_dimension a.l.has_anomaly b.last_expected b.last_anomalous a.l.anomaly.relative_index (is_differenced a.r.transform_method) a.r.time_augmented (sym c.is_recent.ensures ∙ c.if-not-is_recent.true)))

pub returns : goal.returns
returns c =
    let a = c.args in
    let b = lists_of a.b in
    let g = c.gap-gap in
    let l : length c.zeros-work.result ≡ 1024 = search rules in
    let k = c.requires.point_most in
    let short : length (take (length b.point) c.zeros-work.result) ≡ length b.point = length-take-le (length b.point) c.zeros-work.result (omega arith) in
    let long = c.write_corrected_point.auto.out ∙ short in
    let i = to_z-of_z w32 a.l.anomaly.relative_index (search rules) in
    let correcting : Correcting (length b.point) g.result a.r.shingle_size a.r.base_dimension a.l.has_anomaly (length b.last_expected) (length b.last_anomalous) (length b.point) = rw g.ensures c.requires.correcting in
    pass_is a.r a.l b g.result _ g.ensures
    (c.pass_factor-2.ensures
    ∙ ap (centered_transform_pass a.r.base_dimension b.scale b.shift b.difference_deviations)
    (front_is c.zeros-work.result c.write_corrected_point.new.out _ (length b.point) long
    (corrected_is (length b.point) g.result a.r.shingle_size a.r.base_dimension a.l.has_anomaly (length b.last_expected) (length b.last_anomalous) (take (length b.point) c.zeros-work.result) _ _ short correcting c.write_corrected_point.ensures
    ∙ ap₂ (λ (z : ℤ) (u : Bool). apply_basic_corrector b.point g.result a.r.shingle_size a.r.base_dimension a.l.has_anomaly b.last_expected b.last_anomalous z u a.r.time_augmented) i c.is_differenced.ensures)))
