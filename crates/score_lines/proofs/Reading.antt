-- What a line that holds a score tells. Assumes nothing.
use mathlib.Core.Path.{◌≡◌, refl}
use mathlib.Core.Bool.{Bool, true, false, cond, ◌&&◌}
use Prim.Native.Nat.{ℕ, ◌<◌}
use native.Mathlib.Omega.{arith}
use lib.Dec.{ltb}
use lib.Ieee.{Float}
use borrow.Author.Tests.{ltb-true}
use Rattle.std.specs.Prelude.{Option, Some, None}
use Rattle.score_lines.specs.Feeding.{line_of}

first_true : (t u : Bool) (l : Option Float) {x : Float} → cond (t && u) l None ≡ Some x → t ≡ true
first_true true u l e = refl
first_true false u l e = absurd (let z : ◌≡◌ {A = ℕ} 0 1 = cc in omega arith)

-- Fewer than 65,536 lines are before it.
pub few : (lines part : ℕ) (x : Float) → line_of lines part ≡ Some x → lines < 65536
unfolding line_of
few lines part x e = ltb-true lines 65536 (first_true (ltb lines 65536) _ _ e)
