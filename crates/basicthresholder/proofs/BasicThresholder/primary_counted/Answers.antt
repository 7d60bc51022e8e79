use Rattle.std.proofs.Common.{ap, ◌∙◌, ap₂, w32, rules}
use mir.ValLaws.{to_z-of_z}
use lib.Ieee.{Float}
use Rattle.deviation.specs.declared.Deviation.{Deviation}
use Rattle.deviation.specs.Statistics.{one_more}
use Rattle.basicthresholder.specs.Updates.{primary_counted, with_counted, counted_over}
use Rattle.basicthresholder.proofs.BasicThresholder.primary_counted.Goals as goal

pub returns : goal.returns
unfolding primary_counted
returns c =
    let s = c.args.self in
    let x = c.narrow-last_score.ensures in
    let p = c.counted-primary.ensures in
    let t = c.counted_over-third.ensures ∙ ap₂ (λ (d : Deviation) (f : Float). counted_over s.threshold_deviation d f) p x in
    let n = to_z-of_z w32 c.one_more-count.result (record { sfits = c.one_more-count.type_inv }) ∙ c.one_more-count.ensures ∙ ap one_more (to_z-of_z w32 s.count (search rules)) in
    λ i. with_counted s (x i) (p i) s.secondary_deviation (t i) (n i)
