-- The opening grade in f32: 0 for a score under the watch's threshold, above 0 for one that is 2 ^ -41 or more over it. Assumes nothing.
use mathlib.Core.Path.{◌≡◌, refl, sym, ap, subst}
use Prim.Native.Nat.{ℕ, ◌-◌, ◌*◌, ◌^◌, ◌≤◌, ◌<◌}
use native.Mathlib.Nat.{le_trans, le_of_eq, mul_assoc, mul-le-mul_right, mul-le-mul_left, mul-le-mul, mul-pos, zero-lt-suc, mul-one, one-mul, sub-le}
use native.Mathlib.Omega.{arith}
use mathlib.Core.Bool.{Bool, true, false, cond}
use lib.IntN.{pos, negsuc}
use lib.Dec.{T, ltb, lit≤, lt→ltb, ltb→lt}
use lib.Pow.{pow_pos, pow_mono}
use lib.Ieee.{Float, nan, inf, fin, binary32, up, down, round, sub, div, lt, le, of_bits}
use lib.Ieee.Order.{round_mono}
use lib.Ieee.Fits.{up_pos}
use lib.Ieee.Positive.{num as num_of, den as den_of, den_pos, positive, above, above_of_le, between, le→cross}
use Rattle.util.specs.Util.{minf32}
use Rattle.basicthresholder.specs.Grades.{grade_over}
use Rattle.basicthresholder.specs.Const.{tenth32}
use Rattle.ledger.specs.Fractions.{Le, Lt, plain, fraction_of, plus_zero}
use Rattle.ledger.proofs.Factor.{sub_is}
use Rattle.ledger.proofs.Values.{div_is, plus_one}
use Rattle.ledger.proofs.Variance.{sub_neg, lt_zero}

-- ---- not above the threshold: grade 0
pub grade_zero : (x t dev : Float) → T (plain x) → T (plain t) → Lt (fraction_of x) (fraction_of t) → grade_over (sub binary32 x t) dev ≡ plus_zero
unfolding grade_over of_bits
grade_zero x t dev p q h = ap (λ (b : Bool). cond b (cond (lt plus_zero dev) (minf32 (div binary32 (sub binary32 x t) dev) plus_one) tenth32) plus_zero) (sub_neg binary32 x t p q h)

-- ---- a rounded result is above 0 where the fraction is at least 2 ^ -100
two_to : positive (round binary32 false 1 (2 ^ 100)) ≡ true
unfolding round
two_to = refl

above_round : (a c : ℕ) → 0 < c → c ≤ a * 2 ^ 100 → T (above (round binary32 false a c))
above_round a c C h =
    above_of_le (round binary32 false 1 (2 ^ 100)) (round binary32 false a c) (subst (λ (b : Bool). T b) (sym two_to) tt)
    (round_mono binary32 1 (2 ^ 100) a c (pow_pos 100) C (le_trans (le_of_eq (one-mul c)) h))

lt_above : (x : Float) → T (above x) → lt plus_zero x ≡ true
unfolding lt
lt_above nan h = absurd h
lt_above (inf true) h = absurd h
lt_above (inf false) h = refl
lt_above (fin true m e) h = absurd h
lt_above (fin false m e) h = true_of (ltb (0 * down e) (m * up e * 1)) (lt→ltb (0 * down e) (m * up e * 1) (le m (up e) (down e) (mul-pos (ltb→lt 0 m h) (up_pos e))))
  where
    true_of : (b : Bool) → T b → b ≡ true
    true_of true t = refl
    true_of false t = absurd t

    le : (m u d : ℕ) → 0 < m * u → 0 * d < m * u * 1
    le m u d h = omega arith

plain_of : (x : Float) → T (positive x) → T (plain x)
plain_of nan p = absurd p
plain_of (inf s) p = absurd p
plain_of (fin true m e) p = absurd p
plain_of (fin false m e) p = tt

above_of : (x : Float) → T (positive x) → T (above x)
above_of nan p = absurd p
above_of (inf s) p = absurd p
above_of (fin true m e) p = absurd p
above_of (fin false m e) p = p

-- ---- a / c from 2 ^ -41 to 2 ^ 31, rounded: above 0, and at least 2 ^ -41
low_is : round binary32 false 1 (2 ^ 41) ≡ fin false 1 (negsuc 40)
unfolding round
low_is = refl

high_is : round binary32 false (2 ^ 31) 1 ≡ fin false 1 (pos 31)
unfolding round
high_is = refl

mid_positive : (a c : ℕ) → 0 < c → c ≤ a * 2 ^ 41 → a ≤ 2 ^ 31 * c → T (positive (round binary32 false a c))
mid_positive a c C h k =
    between (fin false 1 (negsuc 40)) (round binary32 false a c) (fin false 1 (pos 31)) tt tt
    (subst (λ (x : Float). T (le x (round binary32 false a c))) low_is (round_mono binary32 1 (2 ^ 41) a c (pow_pos 41) C (le_trans (le_of_eq (one-mul c)) h)))
    (subst (λ (x : Float). T (le (round binary32 false a c) x)) high_is (round_mono binary32 a c (2 ^ 31) 1 C (zero-lt-suc 0) (le_trans (le_of_eq (mul-one a)) k)))

mid_least : (a c : ℕ) → 0 < c → c ≤ a * 2 ^ 41 → a ≤ 2 ^ 31 * c → den_of (round binary32 false a c) ≤ num_of (round binary32 false a c) * 2 ^ 41
mid_least a c C h k =
    le_trans (le_of_eq (sym (one-mul (den_of (round binary32 false a c)))))
    (le→cross (fin false 1 (negsuc 40)) (round binary32 false a c) tt (mid_positive a c C h k)
    (subst (λ (x : Float). T (le x (round binary32 false a c))) low_is (round_mono binary32 1 (2 ^ 41) a c (pow_pos 41) C (le_trans (le_of_eq (one-mul c)) h))))

quotient_in : (a b c d : ℕ) → b ≤ a * 2 ^ 41 → c ≤ 2 ^ 32 * d → b * c ≤ a * d * 2 ^ 100
quotient_in a b c d h k = le_trans (mul-le-mul h k) (le_trans (le_of_eq (re a d)) (mul-le-mul_left (a * d) (pow_mono {i = 73} {j = 100} (lit≤ tt))))
  where
    re : (a d : ℕ) → a * 2 ^ 41 * (2 ^ 32 * d) ≡ a * d * 2 ^ 73
    re a d = omega arith

smaller_above : (x y : Float) → T (above x) → T (above y) → T (above (minf32 x y))
unfolding minf32
smaller_above x y p q = go (lt x y)
  where
    go : (b : Bool) → T (above (cond b x y))
    go true = p
    go false = q

-- ---- above the threshold by 2 ^ -41 or more: a grade above 0
pub grade_above : (x t dev : Float) → T (plain x) → T (plain t) → T (plain dev) → Le (fraction_of t) (fraction_of x) → den_of x * den_of t ≤ (num_of x * den_of t - num_of t * den_of x) * 2 ^ 41 → num_of x ≤ 2 ^ 30 * den_of x → num_of dev ≤ 2 ^ 32 * den_of dev
    → T (lt plus_zero (grade_over (sub binary32 x t) dev))
unfolding grade_over of_bits
grade_above x t dev p q r l h k m =
    let a = num_of x * den_of t - num_of t * den_of x in
    let c = den_of x * den_of t in
    let C : 0 < c = mul-pos (den_pos x) (den_pos t) in
    let hi : a ≤ 2 ^ 31 * c = le_trans (sub-le (num_of x * den_of t) (num_of t * den_of x)) (le_trans (mul-le-mul_right (den_of t) (le_trans k (mul-le-mul_right (den_of x) (pow_mono {i = 30} {j = 31} (lit≤ tt))))) (le_of_eq (mul_assoc (2 ^ 31) (den_of x) (den_of t)))) in
    let w = round binary32 false a c in
    let wp : T (positive w) = mid_positive a c C h hi in
    let wl : den_of w ≤ num_of w * 2 ^ 41 = mid_least a c C h hi in
    subst T (sym (lt_above (grade_over (sub binary32 x t) dev) (subst (λ (i : Float). T (above (grade_over i dev))) (sym (sub_is binary32 x t p q l))
    (subst (λ (b : Bool). T (above (cond b (cond (lt plus_zero dev) (minf32 (div binary32 w dev) plus_one) tenth32) plus_zero))) (sym (lt_above w (above_of w wp)))
    (subst (λ (b : Bool). T (above (cond b (minf32 (div binary32 w dev) plus_one) tenth32))) (sym (lt_zero dev r)) (go w wp wl (ltb 0 (num_of dev)) (ltb→lt 0 (num_of dev)))))))) tt
  where
    go : (w : Float) → T (positive w) → den_of w ≤ num_of w * 2 ^ 41 → (b : Bool) → (T b → 0 < num_of dev) → T (above (cond b (minf32 (div binary32 w dev) plus_one) tenth32))
    go w wp wl false n = tt
    go w wp wl true n =
        smaller_above (div binary32 w dev) plus_one
        (subst (λ (i : Float). T (above i)) (sym (div_is binary32 w dev (plain_of w wp) r (n tt)))
        (above_round (num_of w * den_of dev) (den_of w * num_of dev) (mul-pos (den_pos w) (n tt)) (quotient_in (num_of w) (den_of w) (num_of dev) (den_of dev) wl m))) tt
