use Rattle.std.proofs.Common.{sym, ◌∙◌, arith, rules}
use Rattle.divector.proofs.Laws.{done, shared, rescaled, one_length_lem}
use Rattle.divector.proofs.Loops.{scaled_over}
use Rattle.divector.specs.DiVector.{normalize_into}
use Rattle.divector.proofs.normalize_into.Goals as goal

pub returns-then-current : goal.returns-then-current
unfolding normalize_into
returns-then-current c =
    let fit = sym c.one_length.ensures ∙ c.if-one_length.true in
    let total = c.total_of-current.ensures in
    let low = c.if-current.true in
    let all = one_length_lem _ _ _ _ fit in
    simp fit (done (shared _ _ _ _ total low all.third c.share-v.ensures (c.fill.ensures.after (λ y e. e))) (shared _ _ _ _ total low all.fourth c.share-v.ensures (c.fill-then-current.ensures.after (λ y e. e))))

pub returns-then-one_length : goal.returns-then-one_length
unfolding normalize_into
returns-then-one_length c =
    let fit = sym c.one_length.ensures ∙ c.if-one_length.true in
    let all = one_length_lem _ _ _ _ fit in
    let total = c.total_of-current.ensures in
    let above = c.if-current.false in
    simp fit (done (rescaled _ _ _ _ total above (c.change_each.ensures _ (λ x y r e. search rules) ∙ scaled_over _ _ _ (omega arith))) (rescaled _ _ _ _ total above (c.change_each-then-one_length.ensures _ (λ x y r e. search rules) ∙ scaled_over _ _ _ (omega arith))))
