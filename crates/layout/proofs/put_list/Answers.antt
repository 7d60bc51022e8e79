use Rattle.std.proofs.Common.{◌≡◌, length, refl, arith, rules}
use Rattle.layout.specs.Chain.{list_over}
use Rattle.layout.proofs.Rows.{over_next}
use Rattle.layout.proofs.put_list.Goals as goal

pub loop-i-init : goal.loop-i-init
unfolding list_over
loop-i-init c = refl

pub loop-i-preserved : goal.loop-i-preserved
loop-i-preserved c =
    let long : length c.args.list ≡ 16 = search rules in
    over_next _ _ c.args.list c.loop-i.i c.loop-i.out _ _ c.loop-i.invariant c.put_deviation.ensures (omega arith)
