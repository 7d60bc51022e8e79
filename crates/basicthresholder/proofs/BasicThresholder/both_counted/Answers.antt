use Rattle.std.proofs.Common.{ap, ◌∙◌, w32, rules}
use mir.ValLaws.{to_z-of_z}
use Rattle.deviation.specs.declared.Deviation.{Deviation}
use Rattle.deviation.specs.Statistics.{one_more, counted}
use Rattle.basicthresholder.specs.Updates.{both_counted, with_counted, counted_over}
use Rattle.basicthresholder.proofs.BasicThresholder.both_counted.Goals as goal

pub returns : goal.returns
unfolding both_counted
returns c =
    let s = c.args.self in
    let x = c.args.primary in
    let p = c.counted-first.ensures ∙ ap (counted s.primary_deviation) c.f32_to_f64_with_nan.ensures in
    let q = c.counted-second.ensures ∙ ap (counted s.secondary_deviation) c.f32_to_f64_with_nan-2.ensures in
    let t = c.counted_over-third.ensures ∙ ap (λ (d : Deviation). counted_over s.threshold_deviation d x) p in
    let n = to_z-of_z w32 c.one_more-count.result (record { sfits = c.one_more-count.type_inv }) ∙ c.one_more-count.ensures ∙ ap one_more (to_z-of_z w32 s.count (search rules)) in
    λ i. with_counted s x (p i) (q i) (t i) (n i)
