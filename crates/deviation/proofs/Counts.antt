-- What a countable number gives: a sum with a small number fits an i32. Assumes nothing.
use mathlib.Core.Path.{◌≡◌, refl}
use mathlib.Core.Bool.{true, false, true≢false}
use Prim.Native.Nat.{ℕ, ◌≤◌}
use native.Mathlib.Omega.{arith}
use lib.IntN.{ℤ, pos, negsuc, ◌+ℤ◌}
use lib.Dec.{T, leb→le}
use lib.Signed.{lt_z, le_z}
use borrow.Author.Tests.{ltb-true}
use mir.Syntax.{w32}
use mir.Val.{SFits}
use Rattle.deviation.specs.Statistics.{countable}

pub plus_fits : (k : ℕ) → k ≤ 2 → (z : ℤ) → T (countable z) → SFits w32 (z +ℤ pos k)
unfolding countable
plus_fits k h (pos n) t = let l : n ≤ 16777215 = leb→le n 16777215 t in record { sfits = omega arith }
plus_fits k h (negsuc n) t = absurd t

pub below : (z : ℤ) → lt_z z (pos 0) ≡ true → false ≡ countable z
unfolding countable
below (pos n) e = let h = ltb-true n 0 e in absurd (omega arith)
below (negsuc n) e = refl

pub above : (z : ℤ) → lt_z z (pos 0) ≡ false → le_z z (pos 16777215) ≡ countable z
unfolding countable
above (pos n) e = refl
above (negsuc n) e = absurd (true≢false e)
