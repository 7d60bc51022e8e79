use mathlib.Core.Path.{refl, sym, ◌∙◌}
use mathlib.Core.List.{[], ◌∷◌}
use lib.ListN.{length}
use Rattle.descriptor.proofs.Finite.{step, end}
use Rattle.descriptor.proofs.pair_finite.Goals as goal

pub loop-i-preserved : goal.loop-i-preserved
loop-i-preserved g c =
    let xs = c.args.xs.now in
    let ys = c.args.ys.now in
    let x = c.index-xs-i in
    let y = c.index-ys-i in
    rw (c.is_finite.ensures, c.is_finite-in-loop-i.ensures) (
    c.loop-i.invariant
    ∙ step g.N.Number.finite c.loop-i.ok (xs ∷ ys ∷ []) (x.result ∷ y.result ∷ []) (length xs) c.loop-i.i (refl, x.is, (c.requires, y.is, tt)) c.loop-i-test.true)

pub returns : goal.returns
returns g c =
    let xs = c.args.xs.now in
    let ys = c.args.ys.now in
    sym (c.loop-i.invariant ∙ end g.N.Number.finite c.loop-i.ok (xs ∷ ys ∷ []) (length xs) c.loop-i.i (refl, (c.requires, tt)) c.loop-i-test.false)
