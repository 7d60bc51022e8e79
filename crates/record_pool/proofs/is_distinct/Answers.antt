use mathlib.Core.Path.{◌≡◌, refl}
use lib.ListN.{length}
use borrow.Author.Rules.{rules}
use Rattle.record_pool.proofs.Apart.{so_far_more, twice, all_apart}
use native.Mathlib.Omega.{arith}
use Rattle.record_pool.proofs.is_distinct.Goals as goal

pub returns-then-is_taken : goal.returns-then-is_taken
returns-then-is_taken c = let long : length c.args.numbers ≡ 30 = search rules in twice c.loop-k.taken _ _ _ _ _ c.loop-k-test.true c.requires long refl c.is_taken.ensures c.if-is_taken.true

pub loop-k-preserved : goal.loop-k-preserved
loop-k-preserved c =
    let long : length c.args.numbers ≡ 30 = search rules in
    (search rules, so_far_more c.loop-k.taken _ _ _ _ _ c.loop-k.invariant.0 (omega arith) refl refl c.loop-k.invariant.1 c.is_taken.ensures c.if-is_taken.false)

pub returns : goal.returns
returns c = all_apart _ _ _ _ c.loop-k.auto.k-end c.loop-k-test.false c.loop-k.invariant.1
