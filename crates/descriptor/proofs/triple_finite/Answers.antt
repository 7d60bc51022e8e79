use mathlib.Core.Path.{refl, sym, ◌∙◌}
use mathlib.Core.List.{[], ◌∷◌}
use lib.ListN.{length}
use Rattle.descriptor.proofs.Finite.{step, end}
use Rattle.descriptor.proofs.triple_finite.Goals as goal

pub loop-i-preserved : goal.loop-i-preserved
loop-i-preserved g c =
    let xs = c.args.xs.now in
    let ys = c.args.ys.now in
    let zs = c.args.zs.now in
    let x = c.index-xs-i in
    let y = c.index-ys-i in
    let z = c.index-zs-i in
    rw (c.is_finite.ensures, c.is_finite-in-loop-i.ensures, c.is_finite-in-loop-i-2.ensures) (
    c.loop-i.invariant
    ∙ step g.N.Number.finite c.loop-i.ok (xs ∷ ys ∷ zs ∷ []) (x.result ∷ y.result ∷ z.result ∷ []) (length xs) c.loop-i.i (refl, x.is, (c.requires.ys_len, y.is, (c.requires.zs_len, z.is, tt))) c.loop-i-test.true)

pub returns : goal.returns
returns g c =
    let xs = c.args.xs.now in
    let ys = c.args.ys.now in
    let zs = c.args.zs.now in
    sym (c.loop-i.invariant ∙ end g.N.Number.finite c.loop-i.ok (xs ∷ ys ∷ zs ∷ []) (length xs) c.loop-i.i (refl, (c.requires.ys_len, (c.requires.zs_len, tt))) c.loop-i-test.false)
