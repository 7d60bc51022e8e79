use mathlib.Core.Path.{◌∙◌, ap, ap₂}
use lib.IntN.{ℤ, pos, ◌+ℤ◌}
use mir.Syntax.{w32}
use mir.ValLaws.{to_z-of_z}
use Rattle.deviation.specs.Statistics.{grown, factor, next}
use borrow.Author.Rules.{rules}
use Rattle.deviation.proofs.Deviation.next.Goals as goal

pub returns : goal.returns
unfolding next
returns c =
    let d = c.args.self in
    let n = to_z-of_z w32 d.count (search rules) in
    ap₂ (grown d c.args.score) (c.factor-factor.ensures ∙ ap (factor d.discount) n) (to_z-of_z w32 c.plus_one.result (record { sfits = c.plus_one.type_inv }) ∙ c.plus_one.ensures ∙ ap (λ (z : ℤ). z +ℤ pos 1) n)
