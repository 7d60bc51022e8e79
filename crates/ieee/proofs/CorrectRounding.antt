-- `narrow`, `floor` and `sqrt` are what `specs/Meaning.antt` says. Assumes nothing.
use Rattle.std.proofs.Common.{◌≡◌, ℕ, zero, suc, ◌+◌, ◌-◌, ◌*◌, ◌/◌, ◌^◌, ◌<◌, ◌≤◌, Bool, true, false, cond, T, eqb, sym, refl, ap, ◌∙◌, subst, le_of_eq, lt_of_lt_of_le, lt_of_le_of_lt, mul-le-mul_right, zero-lt-suc, mul-le-mul_left, arith, lt→ltb, pow_pos, pow-add}
use lib.Ieee.{Float, nan, inf, fin, binary32, binary64, up, down, fits}
use lib.Ieee.Fits.{down_pos, round-fits}
use lib.Ieee.Exact.{HasValue}
use lib.Bits.{bit_and}
use lib.Ieee.Positive.{positive, num, den, own_value, value_pos, first_pos}
use Rattle.ieee.specs.Round.{narrow, floor, isqrt, sqrt}
use Rattle.ieee.specs.Meaning.{Nearer, NearestRoot, IsRoot, LargestWhole, IsFloor, NearestNarrow, NarrowFinite, IsNarrow, Meaning}
use Rattle.ieee.proofs.Narrowing.{narrow_at}
use Rattle.ieee.proofs.Flooring.{cut, floor_at}
use Rattle.ieee.proofs.Rooting as Rooting
use Rattle.ieee.proofs.Values.{in_units, same_value, four, leading, squared, le_of_fractions, fractions_of_le}
use Rattle.ieee.proofs.Whole.{whole_value, cut_under, cut_most}
use Rattle.ieee.proofs.Nearness.{nearer}
use Rattle.ieee.proofs.NearestNarrow.{rounded, under_edge, beyond}

-- ---- the floor
largest_whole : (x : Float) (s : Bool) (a c : ℕ) → T (fits binary32 x) → 0 < c → HasValue x s a c → LargestWhole x s (floor x)
largest_whole x s a c F C v =
    let n = cut s a c in
    let w : HasValue (floor x) s n 1 = whole_value x s a c F C v in
    record {
      whole = n;
      value = w;
      held = subst (λ (y : Float). T (fits binary32 y)) (sym (floor_at x s a c C v)) (round-fits binary32 s n 1);
      not_above = le_of_fractions (floor x) x s s n 1 a c (zero-lt-suc 0) C w v (cut_under s a c C);
      largest = λ z t k u h. le_of_fractions z (floor x) t s k 1 n 1 (zero-lt-suc 0) (zero-lt-suc 0) u w (cut_most t s k a c C (fractions_of_le z x t s k 1 a c (zero-lt-suc 0) C u v h));
    }

is_floor : (x : Float) → T (fits binary32 x) → IsFloor x (floor x)
unfolding floor
is_floor nan F = refl
is_floor (inf s) F = refl
is_floor (fin s m e) F = largest_whole (fin s m e) s (m * up e) (down e) F (down_pos e) (refl, refl)

-- ---- the root
-- In units of 2 ^ k / 2 ^ 1074, `sqrt x` is a whole number c of 53 digits (or 2 ^ 53), and x is a whole number M of units squared.
-- The exact root of M lies strictly between c - 1 / 2 and c + 1 / 2.
record RootDigits (x : Float) : Type 0 where
  pub c : ℕ
  pub k : ℕ
  pub M : ℕ
  pub root : HasValue (sqrt x) false (c * 2 ^ k) (2 ^ 1074)
  pub square : HasValue x false (M * 4 ^ k) (4 ^ 1074)
  pub c_low : 2 ^ 52 ≤ c
  pub M_low : 2 ^ 52 * 2 ^ 52 ≤ M
  pub over : (2 * c - 1) * (2 * c - 1) < 4 * M
  pub under : 4 * M < (2 * c + 1) * (2 * c + 1)

from_digits : (x : Float) (q j : ℕ) → 2 ^ 52 ≤ q → q < 2 ^ 53 → j ≤ 2097 → HasValue x false (q * 2 ^ j) (2 ^ 1126) → RootDigits x
from_digits x q j q-ge q-lt j-le v = let n = Rooting.sqrt_near x q j q-ge q-lt j-le v in go n.0 n.1.0 n.1.1 n.2
  where
    next : (a : ℕ) → a < a + 1
    next a = omega arith

    half : (b : ℕ) → 2 ^ 53 < 2 * (b + 1) + 1 → 2 ^ 52 ≤ b + 1
    half b h = omega arith

    wide : (W : ℕ) → 2 ^ 52 ≤ W → 2 ^ 53 * 2 ^ 53 ≤ 4 * (W * 2 ^ 52)
    wide W h = omega arith

    odd : (b : ℕ) → 2 * (b + 1) - 1 ≡ 2 * b + 1
    odd b = omega arith

    lower : (a M : ℕ) → a < M → 4 * a + 1 < 4 * M
    lower a M h = omega arith

    go : (b : ℕ) → b * b + b < q * 2 ^ bit_and j 1 * 2 ^ 52 → q * 2 ^ bit_and j 1 * 2 ^ 52 ≤ (b + 1) * (b + 1) + (b + 1) → HasValue (sqrt x) false ((b + 1) * 2 ^ (j / 2 + 485)) (2 ^ 1074) → RootDigits x
    go b lo hi root =
        let W = q * 2 ^ bit_and j 1 in
        let W-ge : 2 ^ 52 ≤ W = Rooting.w_ge q j q-ge q-lt j-le in
        let above : 4 * (W * 2 ^ 52) < (2 * (b + 1) + 1) * (2 * (b + 1) + 1) = lt_of_le_of_lt (mul-le-mul_left 4 hi) (lt_of_lt_of_le (next (4 * ((b + 1) * (b + 1) + (b + 1)))) (le_of_eq (sym (Rooting.sq_odd (b + 1))))) in
        record {
          c = b + 1;
          k = j / 2 + 485;
          M = W * 2 ^ 52;
          root = root;
          square = squared x q j v;
          c_low = half b (Rooting.sq_lt_back (2 ^ 53) (2 * (b + 1) + 1) (lt_of_le_of_lt (wide W W-ge) above));
          M_low = mul-le-mul_right (2 ^ 52) W-ge;
          over = lt_of_le_of_lt (le_of_eq (ap (λ (y : ℕ). y * y) (odd b) ∙ Rooting.sq_odd b)) (lower (b * b + b) (W * 2 ^ 52) lo);
          under = above;
        }

root_digits : (x : Float) → T (fits binary64 x) → T (positive x) → RootDigits x
root_digits x F P =
    let u = in_units binary64 x false (num x) (den x) F (own_value x P) in
    let l = leading x u.m u.i (first_pos u.m (2 ^ u.i) (value_pos x (u.m * 2 ^ u.i) (2 ^ 1074) P (pow_pos 1074) u.value)) u.digits u.under u.value in
    from_digits x l.0 l.1 l.2 l.3 l.4 l.5

sqrt_fits : (x : Float) → T (positive x) → T (fits binary64 (sqrt x))
unfolding sqrt
sqrt_fits nan P = absurd P
sqrt_fits (inf s) P = absurd P
sqrt_fits (fin true m e) P = absurd P
sqrt_fits (fin false zero e) P = absurd P
sqrt_fits (fin false (suc m) e) P =
    let n = suc m * up e * 2 ^ 1200 / down e in
    let r = isqrt 1112 n in
    round-fits binary64 false (2 * r + cond (eqb (r * r) n) 0 1) (2 ^ 601)

nearest_root : (x : Float) → T (fits binary64 x) → T (positive x) → NearestRoot x (sqrt x)
nearest_root x F P =
    let d = root_digits x F P in
    record {
      n = d.M * (2 ^ d.k * 2 ^ d.k);
      units = d.c * 2 ^ d.k;
      square = subst (λ (z : ℕ). HasValue x false (d.M * z) (2 ^ 1074 * 2 ^ 1074)) (four d.k ∙ pow-add 2 d.k d.k) d.square;
      root = d.root;
      held = sqrt_fits x P;
      nearest = λ y s m Fy v.
          let u = in_units binary64 y s m (2 ^ 1074) Fy v in
          subst (λ (z : ℕ). Nearer (d.M * (2 ^ d.k * 2 ^ d.k)) (d.c * 2 ^ d.k) s z) (same_value y s (u.m * 2 ^ u.i) m (2 ^ 1074) u.value v)
          (nearer d.c d.k d.M d.c_low d.M_low d.over d.under s u.m u.i u.digits);
    }

is_root : (x : Float) → T (fits binary64 x) → IsRoot x (sqrt x)
unfolding sqrt
is_root nan F = refl
is_root (inf true) F = refl
is_root (inf false) F = refl
is_root (fin s zero e) F = refl
is_root (fin true (suc m) e) F = refl
is_root (fin false (suc m) e) F = nearest_root (fin false (suc m) e) F (lt→ltb 0 (suc m) (zero-lt-suc m))

-- ---- narrowing
narrow_finite : (x : Float) (s : Bool) (a c : ℕ) → T (fits binary64 x) → HasValue x s a c → NarrowFinite x s (narrow x)
narrow_finite x s a c F v =
    let u = in_units binary64 x s a c F v in
    let X = u.m * 2 ^ u.i in
    let is : rounded X s ≡ narrow x = sym (narrow_at x s X (2 ^ 1074) (pow_pos 1074) u.value) in
    record {
      units = X;
      value = u.value;
      below = λ h. subst (NearestNarrow X s) is (under_edge X s h);
      beyond = λ h. sym is ∙ beyond X s h;
    }

is_narrow : (x : Float) → T (fits binary64 x) → IsNarrow x (narrow x)
unfolding narrow
is_narrow nan F = refl
is_narrow (inf s) F = refl
is_narrow (fin s m e) F = narrow_finite (fin s m e) s (m * up e) (down e) F (refl, refl)

pub meaning : Meaning
meaning = record { sqrt = is_root; floor = is_floor; narrow = is_narrow }
