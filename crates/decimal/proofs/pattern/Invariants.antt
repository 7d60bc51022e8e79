use Prim.Native.Nat.{ℕ, ◌*◌, ◌^◌, ◌≤◌, ◌<◌}
use Rattle.decimal.proofs.Rounded.{Doubled}
use Rattle.decimal.proofs.pattern.Given as goal

-- In both loops: a is n doubled 157 - field times, and below 2 ^ 24 units.
abbrev pub Going : ℕ → ℕ → ℕ → ℕ → Type 0
Going n ten a field = (field ≤ 157) × Doubled n a field × (a < ten * 256 * 2 ^ 24)

abbrev pub invariant-loop-a : goal.invariant-loop-a
invariant-loop-a l = Going l.n l.ten l.a l.field

abbrev pub decreases-loop-a : goal.decreases-loop-a
decreases-loop-a l = l.field

abbrev pub invariant-loop-a-2 : goal.invariant-loop-a-2
invariant-loop-a-2 l = Going l.n l.ten l.a l.field

abbrev pub decreases-loop-a-2 : goal.decreases-loop-a-2
decreases-loop-a-2 l = l.field
