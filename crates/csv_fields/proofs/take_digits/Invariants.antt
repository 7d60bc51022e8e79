use Prim.Native.Nat.{◌≤◌, max}
use mathlib.Core.Path.{◌≡◌}
use lib.ListN.{length, drop}
use Rattle.csv_fields.specs.Pushing.{digits_from}
use Rattle.csv_fields.proofs.take_digits.Given as goal

abbrev pub invariant-loop-i : goal.invariant-loop-i
invariant-loop-i l = (l.i ≤ max l.from (length l.input)) × digits_from l.number l.i (drop l.i l.input) ≡ digits_from l.n l.from (drop l.from l.input)
