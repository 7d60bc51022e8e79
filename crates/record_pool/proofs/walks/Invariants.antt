use mathlib.Core.Path.{◌≡◌}
use mathlib.Core.List.{List}
use Prim.Native.Nat.{ℕ, ◌≤◌, ◌-◌}
use lib.ListN.{length}
use Rattle.record_pool.specs.Steps.{UsedWalk, FreeWalk}
use Rattle.record_pool.proofs.walks.Given as goal

abbrev pub invariant-loop-at : goal.invariant-loop-at
invariant-loop-at l = (length l.seen ≡ 31) × (length l.numbers ≡ 30) × (l.used ≤ 30) × ((us : List ℕ) × UsedWalk l.pool l.at l.used l.seen l.numbers us)

abbrev pub decreases-loop-at : goal.decreases-loop-at
decreases-loop-at l = 30 - l.used

abbrev pub invariant-loop-at-2 : goal.invariant-loop-at-2
invariant-loop-at-2 l = (length l.seen ≡ 31) × (l.free ≤ 30) × ((us : List ℕ) × (fs : List ℕ) × UsedWalk l.pool 0 l.used l.initial.seen l.numbers us × FreeWalk l.pool l.at l.free l.seen us fs)

abbrev pub decreases-loop-at-2 : goal.decreases-loop-at-2
decreases-loop-at-2 l = 30 - l.free
