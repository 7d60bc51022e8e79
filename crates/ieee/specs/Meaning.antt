-- What `sqrt`, `floor` and `narrow` of `Round.antt` are, without the way in which they are worked out there; `ieee::correctly_rounded` promises it. There are no real numbers:
-- every finite `f64` or `f32` is ±n / 2 ^ 1074 for a whole n, and distances are compared in this unit.
-- `HasValue x s a c` says that x is finite, has the sign s (true is minus) and is a / c in size; `fits f x` that the format f holds x. A NaN is `nan`, whichever its bits.
use Rattle.std.specs.Prelude.{◌≡◌, ℕ, zero, suc, ◌+◌, ◌-◌, ◌*◌, ◌%◌, ◌^◌, ◌<◌, ◌≤◌, Bool, true, false, cond, T, ◌≢◌, to_bits, Float}
use Rattle.std.specs.Bool.{beq}
use Rattle.std.specs.Float.{nan, inf, fin, binary32, binary64}
use Rattle.std.specs.Float.Ieee.{fits, le}
use Rattle.std.specs.Float.Ieee.Exact.{HasValue}
use Rattle.ieee.specs.Round as Round

-- x is ±n units.
abbrev pub Units : Float → Bool → ℕ → Type 0
Units x s n = HasValue x s n (2 ^ 1074)

-- ---- the root
-- r is nearer to the root of n than ±y: the root lies on r's side of the middle between the two, (r ± y) / 2, which is told by squares, 4 * n against (r ± y) ^ 2.
-- Every comparison is strict, so no tie occurs. (r - y is 0 where y is larger: a middle below zero is below the root.)
abbrev pub Nearer : ℕ → ℕ → Bool → ℕ → Type 0
Nearer n r false y = (r < y → 4 * n < (r + y) * (r + y)) × (y < r → (r + y) * (r + y) < 4 * n)
Nearer n r true y = (r - y) * (r - y) < 4 * n

-- x is n units squared, so its root is the root of n units. It is nearer to r, a value of the format, than to any other.
pub record NearestRoot (x r : Float) : Type 0 where
  pub n : ℕ
  pub units : ℕ
  pub square : HasValue x false n (2 ^ 1074 * 2 ^ 1074)
  pub root : Units r false units
  pub held : T (fits binary64 r)
  pub nearest : (y : Float) (s : Bool) (m : ℕ) → T (fits binary64 y) → Units y s m → Nearer n units s m

-- Zeros and the infinity are their own roots, and below zero there is none.
abbrev pub IsRoot : Float → Float → Type 0
IsRoot nan r = r ≡ nan
IsRoot (inf true) r = r ≡ nan
IsRoot (inf false) r = r ≡ inf false
IsRoot (fin s zero e) r = r ≡ fin s zero e
IsRoot (fin true (suc m) e) r = r ≡ nan
IsRoot (fin false (suc m) e) r = NearestRoot (fin false (suc m) e) r

-- ---- the floor
-- y is a whole number with the sign of x, which the format holds. It is not above x, and no whole number that is not above x is above y.
pub record LargestWhole (x : Float) (s : Bool) (y : Float) : Type 0 where
  pub whole : ℕ
  pub value : HasValue y s whole 1
  pub held : T (fits binary32 y)
  pub not_above : T (le y x)
  pub largest : (z : Float) (t : Bool) (m : ℕ) → HasValue z t m 1 → T (le z x) → T (le z y)

abbrev pub IsFloor : Float → Float → Type 0
IsFloor nan y = y ≡ nan
IsFloor (inf s) y = y ≡ inf s
IsFloor (fin s m e) y = LargestWhole (fin s m e) s y

-- ---- narrowing
-- How far ±a is from ±b.
abbrev pub gap : Bool → ℕ → Bool → ℕ → ℕ
gap s a t b = cond (beq s t) ((a - b) + (b - a)) (a + b)

-- ±n units, of which r is the nearest that the format holds; where another is as near, the last digit of r is even.
pub record NearestNarrow (n : ℕ) (s : Bool) (r : Float) : Type 0 where
  pub units : ℕ
  pub value : Units r s units
  pub held : T (fits binary32 r)
  pub nearest : (y : Float) (t : Bool) (m : ℕ) → T (fits binary32 y) → Units y t m → gap s n s units ≤ gap s n t m
  pub even : (y : Float) (t : Bool) (m : ℕ) → T (fits binary32 y) → Units y t m → gap s n s units ≡ gap s n t m → (m ≢ units) → to_bits binary32 r % 2 ≡ 0

-- From the middle between the largest `f32` and 2 ^ 128 on the result is an infinity.
unfoldable pub edge : ℕ
edge = (2 ^ 128 - 2 ^ 103) * 2 ^ 1074

pub record NarrowFinite (x : Float) (s : Bool) (r : Float) : Type 0 where
  pub units : ℕ
  pub value : Units x s units
  pub below : units < edge → NearestNarrow units s r
  pub beyond : edge ≤ units → r ≡ inf s

abbrev pub IsNarrow : Float → Float → Type 0
IsNarrow nan r = r ≡ nan
IsNarrow (inf s) r = r ≡ inf s
IsNarrow (fin s m e) r = NarrowFinite (fin s m e) s r

-- ---- all three, of every value of their format
pub record Meaning : Type 0 where
  pub sqrt : (x : Float) → T (fits binary64 x) → IsRoot x (Round.sqrt x)
  pub floor : (x : Float) → T (fits binary32 x) → IsFloor x (Round.floor x)
  pub narrow : (x : Float) → T (fits binary64 x) → IsNarrow x (Round.narrow x)
