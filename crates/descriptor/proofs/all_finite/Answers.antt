use mathlib.Core.Path.{refl, sym, ◌∙◌, ap}
use mathlib.Core.Bool.{Bool, ◌&&◌}
use mathlib.Core.List.{[], ◌∷◌}
use Prim.Native.Nat.{◌+◌}
use lib.ListN.{length}
use Rattle.descriptor.proofs.Finite.{ahead, step, end}
use Rattle.descriptor.proofs.all_finite.Goals as goal

pub loop-x-preserved : goal.loop-x-preserved
loop-x-preserved g c =
    let xs = c.args.xs.now in
    let x = c.x-item in
    c.loop-x.invariant
    ∙ step g.N.Number.finite c.loop-x.ok (xs ∷ []) (x.result ∷ []) (length xs) c.loop-x.x-index (refl, x.is, tt) c.loop-x-test.true
    ∙ ap (λ (b : Bool). ahead g.N.Number.finite (c.loop-x.ok && b) (xs ∷ []) (c.loop-x.x-index + 1)) (sym c.is_finite-ok.ensures)

pub returns : goal.returns
returns g c =
    let xs = c.args.xs.now in
    sym (c.loop-x.invariant ∙ end g.N.Number.finite c.loop-x.ok (xs ∷ []) (length xs) c.loop-x.x-index (refl, tt) c.loop-x-test.false)
