use Rattle.std.proofs.Common.{sym, refl, eq-eqb}
use Rattle.divector.proofs.Laws.{done, shared, rescaled}
use Rattle.divector.specs.DiVector.{normalize}
use Rattle.divector.proofs.normalize.Goals as goal

pub returns-then-current : goal.returns-then-current
unfolding normalize
returns-then-current c =
    let same = c.if-high-low.false in
    let total = c.total_of-current.ensures in
    let low = c.if-current.true in
    simp (eq-eqb _ _ same) (done (shared _ _ _ _ total low refl c.share-v.ensures (c.fill.ensures.after (λ y e. e))) (shared _ _ _ _ total low (sym same) c.share-v.ensures (c.fill-then-current.ensures.after (λ y e. e))))

pub returns : goal.returns
unfolding normalize
returns c =
    let total = c.total_of-current.ensures in
    let above = c.if-current.false in
    simp (eq-eqb _ _ c.if-high-low.false) (done (rescaled _ _ _ _ total above c.scale_one.ensures) (rescaled _ _ _ _ total above c.scale_one-2.ensures))
