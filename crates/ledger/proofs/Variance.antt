-- What the watch takes for variance and deviation: a difference of two f64 values, 0 where it is not above 0, and its root. Assumes nothing.
use mathlib.Core.Path.{◌≡◌, refl, sym, ap, ◌∙◌, subst}
use mathlib.Core.Logic.{◌⊎◌, inl, inr}
use Prim.Native.Nat.{ℕ, zero, suc, ◌+◌, ◌-◌, ◌*◌, ◌/◌, ◌%◌, ◌^◌, ◌≤◌, ◌<◌, compare}
use native.Mathlib.Nat.{le_trans, le_of_eq, le_of_lt, not-le_of_lt, mul_assoc, mul-le-mul_right, mul-pos, zero-mul, mul-one, sub-le}
use mathlib.Core.Bool.{Bool, true, false, not, cond}
use lib.IntN.{ℤ}
use lib.Dec.{T, leb, ltb, leb→le, nleb→lt, ltb→lt, nltb→le}
use lib.Arith.{le-zero}
use lib.Ieee.{Float, nan, inf, fin, Format, binary64, prec, emax, low, up, down, size, nearest, odd, units, round, sum, sub, lt, fits, of_bits}
use lib.Ieee.Fits.{round_is, round-fits}
use lib.Ieee.Positive.{num as num_of, den as den_of, den_pos}
use Rattle.ieee.specs.Round.{sqrt}
use Rattle.deviation.specs.Statistics.{positive_root}
use Rattle.ledger.specs.Fractions.{over, times, Le, plain, fraction_of, plus_zero}
use Rattle.ledger.proofs.Factor.{sub_is}
use Rattle.ledger.proofs.Relative.{Near}
use Rattle.ledger.proofs.Root.{root_law}
use Rattle.ledger.proofs.Rounding.{round_abs}
use Rattle.ledger.proofs.Values.{plain_of_value, P53, near_of_eq}

-- ---- a negative result is not above zero
odd_neg : (d q k l : ℕ) → lt plus_zero (odd d true q k l) ≡ false
unfolding odd lt
odd_neg d zero k l = refl
odd_neg d (suc q) k l = refl

units_neg : (f : Format) (q k : ℕ) → lt plus_zero (units f true q k) ≡ false
unfolding units
units_neg f q k = go (ltb (q * 2 ^ k) (2 ^ (low f + suc (emax f))))
  where
    go : (b : Bool) → lt plus_zero (cond b (odd (suc (prec f)) true q k (low f)) (inf true)) ≡ false
    go true = odd_neg (suc (prec f)) q k (low f)
    go false = unfold lt in refl

round_neg : (f : Format) (a c : ℕ) → lt plus_zero (round f true a c) ≡ false
round_neg f a c = ap (λ (x : Float). lt plus_zero x) (round_is f true a c) ∙ units_neg f (nearest (a * 2 ^ low f / (c * 2 ^ (size (a * 2 ^ low f / c) - prec f))) (compare (a * 2 ^ low f % (c * 2 ^ (size (a * 2 ^ low f / c) - prec f)) * 2) (c * 2 ^ (size (a * 2 ^ low f / c) - prec f)))) (size (a * 2 ^ low f / c) - prec f)

pick_neg : (f : Format) (a b c : ℕ) → a < b → sum f false a true b c ≡ round f true (b - a) c
unfolding sum
pick_neg f a b c h = go (ltb a b) (nltb→le a b)
  where
    go : (t : Bool) → (T (not t) → b ≤ a) → cond t (round f true (b - a) c) (round f false (a - b) c) ≡ round f true (b - a) c
    go true k = refl
    go false k = absurd (not-le_of_lt h (k tt))

opened : (f : Format) (m : ℕ) (e : ℤ) (n : ℕ) (d : ℤ) → sub f (fin false m e) (fin false n d) ≡ sum f false (m * up e * down d) true (n * up d * down e) (down e * down d)
unfolding sub
opened f m e n d = refl

pub sub_neg : (f : Format) (x y : Float) → T (plain x) → T (plain y) → num_of x * den_of y < num_of y * den_of x → lt plus_zero (sub f x y) ≡ false
sub_neg f nan y p q h = absurd p
sub_neg f (inf s) y p q h = absurd p
sub_neg f (fin true m e) y p q h = absurd p
sub_neg f (fin false m e) nan p q h = absurd q
sub_neg f (fin false m e) (inf t) p q h = absurd q
sub_neg f (fin false m e) (fin true n d) p q h = absurd q
sub_neg f (fin false m e) (fin false n d) p q h =
    ap (λ (x : Float). lt plus_zero x) (opened f m e n d ∙ pick_neg f (m * up e * down d) (n * up d * down e) (down e * down d) h) ∙ round_neg f (n * up d * down e - m * up e * down d) (down e * down d)

-- ---- above zero
pub lt_zero : (x : Float) → T (plain x) → lt plus_zero x ≡ ltb 0 (num_of x)
unfolding lt
lt_zero nan p = absurd p
lt_zero (inf s) p = absurd p
lt_zero (fin true m e) p = absurd p
lt_zero (fin false m e) p = go (zero-mul (down e)) (mul-one (m * up e))
  where
    go : 0 * down e ≡ 0 → m * up e * 1 ≡ m * up e → ltb (0 * down e) (m * up e * 1) ≡ ltb 0 (m * up e)
    go a b = ap (λ (z : ℕ). ltb z (m * up e * 1)) a ∙ ap (λ (z : ℕ). ltb 0 z) b

-- ---- the deviation
-- v is x - y rounded, or 0 where y is the larger; r is its root
pub record Spread (x y v r : Float) : Type 0 where
  pub plain_v : T (plain v)
  pub plain_r : T (plain r)
  pub near : Near P53 4 (times (fraction_of r) (fraction_of r)) (fraction_of v)
  pub is : (Le (fraction_of y) (fraction_of x) × (v ≡ round binary64 false (num_of x * den_of y - num_of y * den_of x) (den_of x * den_of y))) ⊎ (Le (fraction_of x) (fraction_of y) × (v ≡ plus_zero))

root_near : (v : Float) → T (plain v) → T (fits binary64 v) → T (plain (positive_root v)) × Near P53 4 (times (fraction_of (positive_root v)) (fraction_of (positive_root v))) (fraction_of v)
unfolding positive_root of_bits
root_near v p f = subst (λ (t : Bool). T (plain (cond t (sqrt v) plus_zero)) × Near P53 4 (times (fraction_of (cond t (sqrt v) plus_zero)) (fraction_of (cond t (sqrt v) plus_zero))) (fraction_of v)) (sym (lt_zero v p)) (go (ltb 0 (num_of v)) (ltb→lt 0 (num_of v)) (nltb→le 0 (num_of v)))
  where
    go : (t : Bool) → (T t → 0 < num_of v) → (T (not t) → num_of v ≤ 0) → T (plain (cond t (sqrt v) plus_zero)) × Near P53 4 (times (fraction_of (cond t (sqrt v) plus_zero)) (fraction_of (cond t (sqrt v) plus_zero))) (fraction_of v)
    go true h k = root_law v p f (h tt)
    go false h k = (tt, near_of_eq P53 4 (over (0 * 0) (1 * 1)) (fraction_of v) (zero-mul (den_of v) ∙ sym (ap (λ (z : ℕ). z * 1) (le-zero (k tt)))))

less_cap : (a b c d h : ℕ) → a ≤ h * c → a * d - b ≤ h * (c * d)
less_cap a b c d h l = le_trans (sub-le (a * d) b) (le_trans (mul-le-mul_right d l) (le_of_eq (mul_assoc h c d)))

pub spread_of : (x y : Float) → T (plain x) → T (plain y) → num_of x ≤ 2 ^ 1023 * den_of x → (v : Float) × Spread x y v (positive_root (sub binary64 x y))
unfolding positive_root of_bits
spread_of x y p q cap = go (leb (num_of y * den_of x) (num_of x * den_of y)) (leb→le (num_of y * den_of x) (num_of x * den_of y)) (nleb→lt (num_of y * den_of x) (num_of x * den_of y))
  where
    a : ℕ
    a = num_of x * den_of y - num_of y * den_of x

    c : ℕ
    c = den_of x * den_of y

    go : (t : Bool) → (T t → num_of y * den_of x ≤ num_of x * den_of y) → (T (not t) → num_of x * den_of y < num_of y * den_of x) → (v : Float) × Spread x y v (positive_root (sub binary64 x y))
    go true h k =
        let e = sub_is binary64 x y p q (h tt) in
        let r = round_abs binary64 a c (mul-pos (den_pos x) (den_pos y)) (less_cap (num_of x) (num_of y * den_of x) (den_of x) (den_of y) (2 ^ 1023) cap) in
        let w : T (plain (round binary64 false a c)) = plain_of_value (round binary64 false a c) _ (2 ^ low binary64) r.value in
        let n = root_near (round binary64 false a c) w (round-fits binary64 false a c) in
        (round binary64 false a c, record { plain_v = w; plain_r = rw e n.0; near = rw e n.1; is = inl (h tt, refl) })
    go false h k =
        let e : positive_root (sub binary64 x y) ≡ plus_zero = ap (λ (t : Bool). cond t (sqrt (sub binary64 x y)) plus_zero) (sub_neg binary64 x y p q (k tt)) in
        (plus_zero, record { plain_v = tt; plain_r = rw e tt; near = rw e (near_of_eq P53 4 (over (0 * 0) (1 * 1)) (fraction_of plus_zero) refl); is = inr (le_of_lt (k tt), refl) })
