use Rattle.std.proofs.Common.{refl, subst, arith}
use Rattle.deviation.specs.declared.Deviation.{Deviation}
use Rattle.layout.specs.Chain.{list_over}
use Rattle.layout.proofs.InPlace.{still, turn}
use Rattle.layout.proofs.change_list.Goals as goal

pub loop-i-init : goal.loop-i-init
unfolding list_over
loop-i-init g c ds h = refl

pub loop-i-preserved : goal.loop-i-preserved
loop-i-preserved g c ds h =
    let i = c.loop-i.i in
    let was = c.loop-i.invariant ds h in
    let d = still c.args.out.now c.args.at i ds c.loop-i.out was c.deviation_at-d.result (omega arith) c.deviation_at-d.ensures in
    turn c.args.out.now c.args.at i ds c.loop-i.out was c.put_deviation.new.out c.f.result
    (h i c.f.result c.loop-i-test.true (subst (λ (x : Deviation). g.F.Fn.post c.args.f (i, (x, tt)) c.f.result) d c.f.ensures))
    c.put_deviation.ensures
