use Rattle.std.proofs.Common.{ℤ, ◌∙◌, ap₂, w32, rules}
use mir.ValLaws.{to_z-of_z}
use Rattle.basicthresholder.specs.Grades.{is_deviation_ready, counts_ready}
use Rattle.basicthresholder.proofs.BasicThresholder.is_deviation_ready.Goals as goal

pub returns : goal.returns
unfolding is_deviation_ready
returns c =
    let s = c.args.self in
    c.counts_ready.ensures
    ∙ ap₂ (λ (a b : ℤ). counts_ready a s.score_differencing b) (to_z-of_z w32 s.count (search rules)) (to_z-of_z w32 s.primary_deviation.count (search rules))
