use Rattle.std.proofs.Common.{sym, ◌∙◌, arith, rules}
use Rattle.divector.specs.DiVector.{assign}
use Rattle.divector.proofs.Laws.{done, one_length_lem}
use Rattle.divector.proofs.Loops.{taken_over}
use Rattle.divector.proofs.assign.Goals as goal

pub returns-then-one_length : goal.returns-then-one_length
unfolding assign
returns-then-one_length c =
    let fit = sym c.one_length.ensures ∙ c.if-one_length.true in
    let all = one_length_lem _ _ _ _ fit in
    simp fit (done (c.change_each.ensures _ (λ x y r e. search rules) ∙ taken_over _ _ (omega arith)) (c.change_each-then-one_length.ensures _ (λ x y r e. search rules) ∙ taken_over _ _ (omega arith)))
