use Rattle.std.proofs.Common.{◌&&◌, ap, ◌∙◌, w32, rules}
use mir.ValLaws.{to_z-of_z}
use Rattle.deviation.specs.Statistics.{countable}
use Rattle.basicthresholder.specs.Updates.{counts_ok}
use Rattle.basicthresholder.proofs.BasicThresholder.counts_ok.Goals as goal

pub returns : goal.returns
unfolding counts_ok
returns c =
    let s = c.args.self in
    let a = c.countable.ensures ∙ ap countable (to_z-of_z w32 s.count (search rules)) in
    let b = c.countable-2.ensures ∙ ap countable (to_z-of_z w32 s.primary_deviation.count (search rules)) in
    let d = c.countable-3.ensures ∙ ap countable (to_z-of_z w32 s.secondary_deviation.count (search rules)) in
    let e = c.countable-4.ensures ∙ ap countable (to_z-of_z w32 s.threshold_deviation.count (search rules)) in
    λ i. a i && (b i && (d i && e i))
