use Rattle.std.proofs.Common.{◌≡◌}
use lib.Ieee.{Float}
use Rattle.divector.specs.DiVector.{zipped}
use Rattle.divector.proofs.Loops.{Half}
use Rattle.divector.proofs.change_each.Given as goal

abbrev pub invariant-loop-i : goal.invariant-loop-i
invariant-loop-i g l = (h : Float → Float → Float) → ((x y r : Float) → goal.F-post g l.f x y r → r ≡ h x y) → Half l.initial.xs (zipped h l.initial.xs l.ys) l.xs l.i
