use Rattle.record_pool.proofs.Walking.{fresh_is, used_first, used_again, used_broken, used_unsound, free_again, free_broken, told_broken, fresh_bounds}
use mathlib.Core.Path.{sym, ◌∙◌}
use native.Mathlib.Omega.{arith}
use borrow.Author.Rules.{rules}
use Rattle.record_pool.proofs.walks.Goals as goal

pub loop-at-init : goal.loop-at-init
loop-at-init c = (search rules, search rules, omega arith, used_first _ _ _ _ c.index_at-at.ensures c.no_marks-seen.ensures c.no_numbers-numbers.ensures)

pub returns-then-not-is_unmarked : goal.returns-then-not-is_unmarked
returns-then-not-is_unmarked c = let w = c.loop-at.invariant.3 in told_broken _ _ _ _ _ c.broken.ensures (used_broken _ _ _ _ _ w.0 (omega arith) w.1 (sym (fresh_is c.loop-at.seen c.loop-at.at c.loop-at.used _ _ c.mark_place.ensures.0 c.is_unmarked.ensures) ∙ c.if-not-is_unmarked.true))

pub returns-then-not-is_sound : goal.returns-then-not-is_sound
returns-then-not-is_sound c = let w = c.loop-at.invariant.3 in told_broken _ _ _ _ _ c.broken-then-not-is_sound.ensures (used_unsound _ _ _ _ _ w.0 (omega arith) w.1 (sym c.is_sound.ensures ∙ c.if-not-is_sound.true))

pub bounds-seen-at : goal.bounds-seen-at
bounds-seen-at c = let b = fresh_bounds _ _ _ _ (fresh_is c.loop-at.seen c.loop-at.at c.loop-at.used _ _ c.mark_place.ensures.0 c.is_unmarked.ensures) c.if-not-is_unmarked.false in search rules

pub bounds-numbers-used : goal.bounds-numbers-used
bounds-numbers-used c = let b = fresh_bounds _ _ _ _ (fresh_is c.loop-at.seen c.loop-at.at c.loop-at.used _ _ c.mark_place.ensures.0 c.is_unmarked.ensures) c.if-not-is_unmarked.false in search rules

pub loop-at-smaller : goal.loop-at-smaller
loop-at-smaller c = let b = fresh_bounds _ _ _ _ (fresh_is c.loop-at.seen c.loop-at.at c.loop-at.used _ _ c.mark_place.ensures.0 c.is_unmarked.ensures) c.if-not-is_unmarked.false in omega arith

pub loop-at-preserved : goal.loop-at-preserved
loop-at-preserved c = let b = fresh_bounds _ _ _ _ (fresh_is c.loop-at.seen c.loop-at.at c.loop-at.used _ _ c.mark_place.ensures.0 c.is_unmarked.ensures) c.if-not-is_unmarked.false in (search rules, search rules, omega arith, used_again _ _ _ _ _ _ _ _ _ c.loop-at.invariant.0 c.loop-at.invariant.1 (omega arith) (fresh_is c.loop-at.seen c.loop-at.at c.loop-at.used _ _ c.mark_place.ensures.0 c.is_unmarked.ensures) c.if-not-is_unmarked.false c.is_sound.ensures c.if-not-is_sound.false c.next_at-at.ensures c.number_at.ensures c.loop-at.invariant.3)

pub returns-then-not-is_unmarked-2 : goal.returns-then-not-is_unmarked-2
returns-then-not-is_unmarked-2 c = let w = c.loop-at-2.invariant.2 in told_broken _ _ _ _ _ c.broken-then-not-is_unmarked-2.ensures (free_broken _ _ _ _ _ _ _ w.0 w.1 (omega arith) w.2 w.3 (sym (fresh_is c.loop-at-2.seen c.loop-at-2.at c.loop-at-2.free _ _ c.mark_place-in-loop-at-2.ensures.0 c.is_unmarked-in-loop-at-2.ensures) ∙ c.if-not-is_unmarked-2.true))

pub bounds-seen-at-in-loop-at-2 : goal.bounds-seen-at-in-loop-at-2
bounds-seen-at-in-loop-at-2 c = let b = fresh_bounds _ _ _ _ (fresh_is c.loop-at-2.seen c.loop-at-2.at c.loop-at-2.free _ _ c.mark_place-in-loop-at-2.ensures.0 c.is_unmarked-in-loop-at-2.ensures) c.if-not-is_unmarked-2.false in search rules

pub loop-at-2-smaller : goal.loop-at-2-smaller
loop-at-2-smaller c = let b = fresh_bounds _ _ _ _ (fresh_is c.loop-at-2.seen c.loop-at-2.at c.loop-at-2.free _ _ c.mark_place-in-loop-at-2.ensures.0 c.is_unmarked-in-loop-at-2.ensures) c.if-not-is_unmarked-2.false in omega arith

pub loop-at-2-preserved : goal.loop-at-2-preserved
loop-at-2-preserved c = let b = fresh_bounds _ _ _ _ (fresh_is c.loop-at-2.seen c.loop-at-2.at c.loop-at-2.free _ _ c.mark_place-in-loop-at-2.ensures.0 c.is_unmarked-in-loop-at-2.ensures) c.if-not-is_unmarked-2.false in (search rules, omega arith, free_again _ _ _ _ _ _ _ _ _ c.loop-at-2.invariant.0 (omega arith) (fresh_is c.loop-at-2.seen c.loop-at-2.at c.loop-at-2.free _ _ c.mark_place-in-loop-at-2.ensures.0 c.is_unmarked-in-loop-at-2.ensures) c.if-not-is_unmarked-2.false c.next_at-at-in-loop-at-2.ensures c.loop-at-2.invariant.2)

pub is_sound-requires-clause-most : goal.is_sound-requires-clause-most
is_sound-requires-clause-most c = let b = fresh_bounds _ _ _ _ (fresh_is c.loop-at.seen c.loop-at.at c.loop-at.used _ _ c.mark_place.ensures.0 c.is_unmarked.ensures) c.if-not-is_unmarked.false in search rules

pub number_at-requires-clause-most : goal.number_at-requires-clause-most
number_at-requires-clause-most c = let b = fresh_bounds _ _ _ _ (fresh_is c.loop-at.seen c.loop-at.at c.loop-at.used _ _ c.mark_place.ensures.0 c.is_unmarked.ensures) c.if-not-is_unmarked.false in search rules

pub next_at-at-requires-clause-most : goal.next_at-at-requires-clause-most
next_at-at-requires-clause-most c = let b = fresh_bounds _ _ _ _ (fresh_is c.loop-at.seen c.loop-at.at c.loop-at.used _ _ c.mark_place.ensures.0 c.is_unmarked.ensures) c.if-not-is_unmarked.false in search rules

pub next_at-at-requires-in-loop-at-2-clause-most : goal.next_at-at-requires-in-loop-at-2-clause-most
next_at-at-requires-in-loop-at-2-clause-most c = let b = fresh_bounds _ _ _ _ (fresh_is c.loop-at-2.seen c.loop-at-2.at c.loop-at-2.free _ _ c.mark_place-in-loop-at-2.ensures.0 c.is_unmarked-in-loop-at-2.ensures) c.if-not-is_unmarked-2.false in search rules
