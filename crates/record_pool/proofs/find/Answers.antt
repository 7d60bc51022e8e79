use borrow.Author.Rules.{rules}
use Rattle.record_pool.proofs.Searching.{left_first, at_range, left_next, ahead_less, found_here, found_nowhere}
use Rattle.record_pool.proofs.find.Goals as goal

pub loop-at-init : goal.loop-at-init
loop-at-init c = left_first _ _ _ c.requires.sound c.index_at-at.ensures

pub returns-then-number_at-drawer : goal.returns-then-number_at-drawer
returns-then-number_at-drawer c = found_here _ _ _ _ _ c.loop-at-test.true c.number_at.ensures c.if-number_at-drawer.true c.loop-at.invariant

pub loop-at-smaller : goal.loop-at-smaller
loop-at-smaller c = ahead_less _ _ _ _ _ c.loop-at-test.true c.next_at-at.ensures c.loop-at.invariant

pub loop-at-preserved : goal.loop-at-preserved
loop-at-preserved c = left_next _ _ _ _ _ _ c.loop-at-test.true c.number_at.ensures c.if-number_at-drawer.false c.next_at-at.ensures c.loop-at.invariant

pub returns : goal.returns
returns c = found_nowhere _ _ _ _ c.loop-at-test.false c.loop-at.invariant

pub number_at-requires-clause-most : goal.number_at-requires-clause-most
number_at-requires-clause-most c = let b = at_range _ _ _ _ c.loop-at-test.true c.loop-at.invariant in search rules

pub next_at-at-requires-clause-most : goal.next_at-at-requires-clause-most
next_at-at-requires-clause-most c = let b = at_range _ _ _ _ c.loop-at-test.true c.loop-at.invariant in search rules
