-- The square of f64's correctly rounded root is within 4 parts in 2 ^ 53 of the number. Assumes nothing.
use mathlib.Core.Path.{◌≡◌, refl, sym, ap, ◌∙◌, subst}
use mathlib.Core.Logic.{inr}
use Prim.Native.Nat.{ℕ, zero, suc, ◌+◌, ◌-◌, ◌*◌, ◌/◌, ◌%◌, ◌^◌, ◌≤◌, ◌<◌, zero-le}
use native.Mathlib.Nat.{le_trans, le_of_eq, le_refl, le_of_lt, lt_of_lt_of_le, lt_of_not-le, not-le_of_lt, mul_right_comm, mul-le-mul_right, mul-le-mul, le_of_mul-le-mul_right, mul-pos, zero-mul, one-mul, le_of_suc-le-suc, div-lt_iff_lt-mul, le-div_iff_mul-le, pow-suc, mul-mul-mul_comm, mul-lt-mul_of_pos_right, div-mul-le_self}
use native.Mathlib.Omega.{arith}
use mathlib.Core.Bool.{Bool, true, false, not, cond, ◌&&◌}
use lib.Dec.{T, leb, ltb, eqb, lit≤, lit<, ltb→lt, leb→le, nleb→lt}
use lib.Pow.{pow_pos}
use lib.Ieee.{Float, nan, inf, fin, binary64, prec, emax, low, up, down, round, fits}
use lib.Ieee.Fits.{and_l, and_r}
use lib.Ieee.Positive.{num as num_of, den as den_of, den_pos}
use Rattle.ieee.specs.Round.{sqrt, isqrt}
use Rattle.ledger.specs.Fractions.{over, times, plain, fraction_of}
use Rattle.ledger.proofs.Absolute.{sq_le}
use Rattle.ledger.proofs.Relative.{Near, near_trans, near_times, near_weaken}
use Rattle.ledger.proofs.Values.{Range, About, P53, rounded, near_of_eq}

-- ---- a positive value of f64 lies between 2 ^ -1074 and 2 ^ 1024
den_le : (v : Float) → T (plain v) → T (fits binary64 v) → 0 < num_of v → den_of v ≤ 2 ^ 1074
unfolding fits
den_le nan p f h = absurd p
den_le (inf s) p f h = absurd p
den_le (fin true m e) p f h = absurd p
den_le (fin false zero e) p f h = absurd (let i : 0 * up e ≡ 0 = zero-mul (up e) in omega arith)
den_le (fin false (suc m) e) p f h =
    let A = eqb (suc m % 2) 1 in
    let B = ltb (suc m) (2 ^ prec binary64) in
    let C = leb (down e) (2 ^ low binary64) in
    let E = ltb (suc m * up e) (2 ^ suc (emax binary64) * down e) in
    leb→le (down e) (2 ^ 1074) (and_r (A && B) C (and_l (A && B && C) E f))

num_lt : (v : Float) → T (plain v) → T (fits binary64 v) → 0 < num_of v → num_of v < 2 ^ 1024 * den_of v
unfolding fits
num_lt nan p f h = absurd p
num_lt (inf s) p f h = absurd p
num_lt (fin true m e) p f h = absurd p
num_lt (fin false zero e) p f h = absurd (let i : 0 * up e ≡ 0 = zero-mul (up e) in omega arith)
num_lt (fin false (suc m) e) p f h =
    let A = eqb (suc m % 2) 1 in
    let B = ltb (suc m) (2 ^ prec binary64) in
    let C = leb (down e) (2 ^ low binary64) in
    let E = ltb (suc m * up e) (2 ^ suc (emax binary64) * down e) in
    ltb→lt (suc m * up e) (2 ^ 1024 * down e) (and_r (A && B && C) E f)

-- ---- `isqrt` is the whole part of the root
sq_next : (a : ℕ) → (a + 1) * (a + 1) ≡ a * a + 2 * a + 1
sq_next a = omega arith

isqrt_is : (k n : ℕ) → n < 4 ^ k → (isqrt k n * isqrt k n ≤ n) × (n < (isqrt k n + 1) * (isqrt k n + 1))
unfolding isqrt
isqrt_is zero n h = (zero-le, h)
isqrt_is (suc k) n h = go (isqrt k (n / 4)) (isqrt_is k (n / 4) ((div-lt_iff_lt-mul (lit< tt)).1 (lt_of_lt_of_le h (le_of_eq (pow-suc 4 k)))))
  where
    low : (n s t : ℕ) → s ≤ n / 4 → t ≡ 4 * s → t ≤ n
    low n s t h e = omega arith

    high : (n s r : ℕ) → n / 4 < s + 2 * r + 1 → n < 4 * s + 2 * (2 * r) + 1 + 2 * (2 * r + 1) + 1
    high n s r h = omega arith

    pick : (n r : ℕ) → r * r ≤ n → n < (r + 1 + 1) * (r + 1 + 1) → (b : Bool) → (T b → (r + 1) * (r + 1) ≤ n) → (T (not b) → n < (r + 1) * (r + 1)) → (cond b (r + 1) r * cond b (r + 1) r ≤ n) × (n < (cond b (r + 1) r + 1) * (cond b (r + 1) r + 1))
    pick n r a c true l g = (l tt, c)
    pick n r a c false l g = (a, g tt)

    double : (r : ℕ) → 2 * r * (2 * r) ≡ 4 * (r * r)
    double r = mul-mul-mul_comm 2 r 2 r

    go : (r : ℕ) → (r * r ≤ n / 4) × (n / 4 < (r + 1) * (r + 1)) → (cond (leb ((2 * r + 1) * (2 * r + 1)) n) (2 * r + 1) (2 * r) * cond (leb ((2 * r + 1) * (2 * r + 1)) n) (2 * r + 1) (2 * r) ≤ n) × (n < (cond (leb ((2 * r + 1) * (2 * r + 1)) n) (2 * r + 1) (2 * r) + 1) * (cond (leb ((2 * r + 1) * (2 * r + 1)) n) (2 * r + 1) (2 * r) + 1))
    go r z =
        pick n (2 * r) (low n (r * r) (2 * r * (2 * r)) z.0 (double r))
        (lt_of_lt_of_le (high n (r * r) r (lt_of_lt_of_le z.1 (le_of_eq (sq_next r))))
        (le_of_eq (sym (sq_next (2 * r + 1) ∙ ap (λ (x : ℕ). x + 2 * (2 * r + 1) + 1) (sq_next (2 * r) ∙ ap (λ (x : ℕ). x + 2 * (2 * r) + 1) (double r))))))
        (leb ((2 * r + 1) * (2 * r + 1)) n) (leb→le ((2 * r + 1) * (2 * r + 1)) n) (nleb→lt ((2 * r + 1) * (2 * r + 1)) n)

-- ---- the number is a / b; q / 2 ^ 600 is its root cut off: q² ≤ a / b * 2 ^ 1200 < (q + 1)²
record Cut (a b q : ℕ) : Type 0 where
  lo : q * q * b ≤ a * 2 ^ 1200
  hi : a * 2 ^ 1200 < suc q * suc q * b

cut_is : (a b : ℕ) → 0 < b → a < 2 ^ 1024 * b → Cut a b (isqrt 1112 (a * 2 ^ 1200 / b))
cut_is a b B h =
    let n = a * 2 ^ 1200 / b in
    let r = isqrt_is 1112 n ((div-lt_iff_lt-mul B).1 (lt_of_lt_of_le (mul-lt-mul_of_pos_right h (pow_pos 1200)) (le_of_eq (mul_right_comm (2 ^ 1024) b (2 ^ 1200))))) in
    record {
      lo = le_trans (mul-le-mul_right b r.0) (div-mul-le_self (a * 2 ^ 1200) b);
      hi = over_it n (isqrt 1112 n) r.1 (λ (i : (suc n) * b ≤ a * 2 ^ 1200). (le-div_iff_mul-le B).1 i);
    }
  where
    over_it : (n q : ℕ) → n < (q + 1) * (q + 1) → ((suc n) * b ≤ a * 2 ^ 1200 → suc n ≤ n) → a * 2 ^ 1200 < suc q * suc q * b
    over_it n q l k = lt_of_lt_of_le (lt_of_not-le (λ (i : (suc n) * b ≤ a * 2 ^ 1200). not-le_of_lt (k i) (le_refl n))) (mul-le-mul_right b (le_trans l (le_of_eq (re q))))
      where
        re : (q : ℕ) → (q + 1) * (q + 1) ≡ suc q * suc q
        re q = omega arith

module _ (a b q s : ℕ) (A : 0 < a) (B : 0 < b) (b_le : b ≤ 2 ^ 1074) (a_le : a ≤ 2 ^ 1024 * b) (c : Cut a b q) (S : s ≤ 1) where
  q_big : 2 * (2 * P53) ≤ q
  q_big = le_of_suc-le-suc (lt_of_not-le (λ (i : suc q ≤ 2 * (2 * P53)). not-le_of_lt c.hi (le_trans (mul-le-mul (mul-le-mul i i) b_le) (le_trans (lit≤ tt) (big (2 ^ 1200))))))
    where
      big : (x : ℕ) → x ≤ a * x
      big x = le_trans (le_of_eq (sym (one-mul x))) (mul-le-mul_right x A)

  -- over plain numbers: R + 1 is 2 ^ 53, EE is 2 ^ 1200
  up_in : (R q s EE : ℕ) → s ≤ 1 → q * q * b ≤ a * EE → 2 * (2 * suc R) ≤ q → (2 * q + s) * (2 * q + s) * b * R ≤ a * (4 * EE) * suc R
  up_in R q zero EE h k l =
      let x : q * q * b * (4 * suc R) ≤ a * EE * (4 * suc R) = mul-le-mul_right (4 * suc R) k in
      omega arith
  up_in R q (suc zero) EE h k l =
      let x : q * q * b * (4 * suc R) ≤ a * EE * (4 * suc R) = mul-le-mul_right (4 * suc R) k in
      let y : 2 * (2 * suc R) * (q * b) ≤ q * (q * b) = mul-le-mul_right (q * b) l in
      let z : 1 * (b * suc R) ≤ q * (b * suc R) = mul-le-mul_right (b * suc R) (le_trans (let i : 1 ≤ 2 * (2 * suc R) = omega arith in i) l) in
      omega arith
  up_in R q (suc (suc s)) EE h k l = absurd (omega arith)

  down_in : (R q s EE : ℕ) → a * EE < suc q * suc q * b → 2 * (2 * suc R) ≤ q → a * (4 * EE) * R ≤ (2 * q + s) * (2 * q + s) * b * suc R
  down_in R q s EE k l =
      let x : a * EE * (4 * R) ≤ suc q * suc q * b * (4 * R) = mul-le-mul_right (4 * R) (le_of_lt k) in
      let y : 2 * (2 * suc R) * (q * b) ≤ q * (q * b) = mul-le-mul_right (q * b) l in
      let z : 1 * (b * suc R) ≤ q * (b * suc R) = mul-le-mul_right (b * suc R) (le_trans (let i : 1 ≤ 2 * (2 * suc R) = omega arith in i) l) in
      omega arith

  near_cut : Near P53 1 (times (over (2 * q + s) (2 ^ 601)) (over (2 * q + s) (2 ^ 601))) (over a b)
  near_cut = record {
    lo = down_in (P53 - 1) q s (2 ^ 1200) c.hi q_big;
    hi = up_in (P53 - 1) q s (2 ^ 1200) S c.lo q_big;
  }

  q_le : q ≤ 2 ^ 1112
  q_le = sq_le q (2 ^ 1112) (le_of_mul-le-mul_right (le_trans c.lo (le_trans (mul-le-mul_right (2 ^ 1200) a_le) (le_of_eq (mul_right_comm (2 ^ 1024) b (2 ^ 1200))))) B)

  range_cut : Range 1021 1022 (over (2 * q + s) (2 ^ 601))
  range_cut = record {
    least = le_trans (lit≤ tt) (le_trans (le_of_eq (sym (one-mul (2 ^ 1021)))) (mul-le-mul_right (2 ^ 1021) (once q s (le_trans (lit≤ tt) q_big))));
    most = le_trans (twice q s (2 ^ 1112) S q_le) (lit≤ tt);
  }
    where
      once : (q s : ℕ) → 1 ≤ q → 1 ≤ 2 * q + s
      once q s h = omega arith

      twice : (q s L : ℕ) → s ≤ 1 → q ≤ L → 2 * q + s ≤ 2 * L + 1
      twice q s L h k = omega arith

-- ---- the law
sqrt_is : (v : Float) → T (plain v) → 0 < num_of v → (s : ℕ) × (s ≤ 1) × (sqrt v ≡ round binary64 false (2 * isqrt 1112 (num_of v * 2 ^ 1200 / den_of v) + s) (2 ^ 601))
unfolding sqrt
sqrt_is nan p h = absurd p
sqrt_is (inf s) p h = absurd p
sqrt_is (fin true m e) p h = absurd p
sqrt_is (fin false zero e) p h = absurd (let i : 0 * up e ≡ 0 = zero-mul (up e) in omega arith)
sqrt_is (fin false (suc m) e) p h =
    let n = suc m * up e * 2 ^ 1200 / down e in
    let r = isqrt 1112 n in
    (cond (eqb (r * r) n) 0 1, small (eqb (r * r) n), refl)
  where
    small : (b : Bool) → cond b 0 1 ≤ 1
    small true = lit≤ tt
    small false = lit≤ tt

pub root_law : (v : Float) → T (plain v) → T (fits binary64 v) → 0 < num_of v → T (plain (sqrt v)) × Near P53 4 (times (fraction_of (sqrt v)) (fraction_of (sqrt v))) (fraction_of v)
root_law v p f h =
    let a = num_of v in
    let b = den_of v in
    let q = isqrt 1112 (a * 2 ^ 1200 / b) in
    let t = sqrt_is v p h in
    let s = t.0 in
    let c = cut_is a b (den_pos v) (num_lt v p f h) in
    let e = over (2 * q + s) (2 ^ 601) in
    let k : About 1 (round binary64 false (2 * q + s) (2 ^ 601)) e =
    rounded 0 (2 * q + s) (2 ^ 601) e zero-le (pow_pos 601) (pow_pos 601) (near_of_eq P53 0 e e refl) (inr (range_cut a b q s h (den_pos v) (den_le v p f h) (le_of_lt (num_lt v p f h)) c t.1)) in
    let g : About 1 (sqrt v) e = subst (λ (x : Float). About 1 x e) (sym t.2) k in
    let r = fraction_of (sqrt v) in (
      g.plain,
      near_weaken P53 (pow_pos 53) 3 4 (times r r) (fraction_of v) (lit≤ tt)
          (near_trans P53 (pow_pos 53) 2 1 (times r r) (times e e) (fraction_of v) (mul-pos (pow_pos 601) (pow_pos 601)) (near_times P53 (pow_pos 53) 1 1 r e r e g.near g.near) (near_cut a b q s h (den_pos v) (den_le v p f h) (le_of_lt (num_lt v p f h)) c t.1)),
    )
