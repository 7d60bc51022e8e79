use mathlib.Core.Path.{◌≡◌, ◌∙◌}
use Prim.Native.Nat.{◌+◌, ◌-◌}
use native.Mathlib.Omega.{arith}
use Rattle.attributors.proofs.Laws.{reaching_more, reaching_few, count_is}
use Rattle.attributors.proofs.reaching.Goals as goal

pub push-found-requires : goal.push-found-requires
push-found-requires c =
    let a = c.args in
    let few = reaching_few a.high.now a.low.now a.limit a.position (c.loop-at.at - a.position) in
    let e = count_is _ _ c.loop-at.invariant in
    omega arith

pub loop-at-preserved : goal.loop-at-preserved
loop-at-preserved c =
    let a = c.args in
    let n = c.loop-at.at - a.position in
    let more : c.loop-at.at + 1 - a.position ≡ n + 1 = omega arith in
    let here : a.position + n ≡ c.loop-at.at = omega arith in
    let step = reaching_more a.high.now a.low.now a.limit a.position n c.loop-at.found c.loop-at.invariant in
    rw more (c.push-found.ensures ∙ rw here at step)
