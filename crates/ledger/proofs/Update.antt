-- One update: each of the statistic's three numbers is about the ledger's, 6 parts in 2 ^ 53 for each score counted, and none underflows or overflows. Assumes nothing.
use mathlib.Core.Path.{◌≡◌, refl, sym, ap, ◌∙◌, subst, subst₂}
use mathlib.Core.Logic.{◌⊎◌, inl, inr}
use Prim.Native.Nat.{ℕ, suc, ◌+◌, ◌*◌, ◌^◌, ◌≤◌, ◌<◌, zero-le}
use native.Mathlib.Nat.{le_trans, le_of_eq, le_refl, mul_assoc, mul-le-mul_left, mul-le-mul_right, mul-le-mul, mul-pos, zero-mul, mul-one, one-mul, zero-lt-suc, suc-mul}
use native.Mathlib.Omega.{arith}
use lib.Dec.{T, lit≤}
use lib.Arith.{le-zero}
use lib.Pow.{pow-add}
use lib.Ieee.{Float, binary64, add, mul, of_bits}
use lib.Ieee.Positive.{num as num_of, den as den_of, den_pos}
use lib.IntN.{ℤ, pos, ◌+ℤ◌}
use native.Mathlib.Numerals.{add-one}
use Rattle.deviation.specs.declared.Deviation.{Deviation}
use Rattle.deviation.specs.Statistics as Statistics
use Rattle.ledger.specs.Fractions.{Fraction, over, times, plain, fraction_of, unit, plus_zero}
use Rattle.ledger.specs.Ledger.{factor, moved, Ledger, blank, enter}
use Rattle.ledger.specs.Statement.{Sized}
use Rattle.ledger.proofs.Factor.{factor_about, factor_range, factor_den, one_about, Discount}
use Rattle.ledger.proofs.Values.{Range, Fine, About, P53, mul_about, add_about, about_weaken, near_of_eq, range_weaken, range_times, sum_least, sum_most, plus_one}

-- ---- where one of the ledger's numbers lies after n scores: 0 for none, and else from 2 ^ -e to n times 2 ^ e
pub record Held (n e : ℕ) (v : Fraction) : Type 0 where
  pub apart : 0 < v.den
  pub most : v.num ≤ n * 2 ^ e * v.den
  pub least : (n ≡ 0) ⊎ (v.den ≤ v.num * 2 ^ e)

count_le : (n e : ℕ) → n ≤ 65537 → n * 2 ^ e ≤ 2 ^ (17 + e)
count_le n e h = rw (pow-add 2 17 e) (mul-le-mul_right (2 ^ e) (le_trans h (lit≤ tt)))

held_fine : (n e : ℕ) (v : Fraction) → n ≤ 65537 → Held n e v → (v.num ≡ 0) ⊎ Range e (17 + e) v
held_fine n e v h r = elim r.least [
  | inl z ↦ inl (none n v.num (2 ^ e) v.den z r.most)
  | inr l ↦ inr (record { least = l; most = le_trans r.most (mul-le-mul_right v.den (count_le n e h)) })
]
  where
    none : (n a x d : ℕ) → n ≡ 0 → a ≤ n * x * d → a ≡ 0
    none n a x d z l = le-zero (le_trans l (le_of_eq (ap (λ (y : ℕ). y * x * d) z ∙ ap (λ (y : ℕ). y * d) (zero-mul x) ∙ zero-mul d)))

-- times the factor
times_fine : (n e : ℕ) (v f : Fraction) → n ≤ 65537 → e ≤ 60 → Held n e v → Range 53 0 f → Fine 1021 1022 (times v f)
times_fine n e v f h k r s = elim (held_fine n e v h r) [
  | inl z ↦ inl (ap (λ (x : ℕ). x * f.num) z ∙ zero-mul f.num)
  | inr t ↦ inr (range_weaken (e + 53) 1021 (17 + e + 0) 1022 (times v f) (omega arith) (omega arith) (range_times e (17 + e) 53 0 v f t s))
]

held_step : (n e : ℕ) (v f w : Fraction) → Held n e v → 0 < f.den → Range 53 0 f → 0 < w.den → Range e e w → Held (suc n) e (moved f v w)
held_step n e v f w r F s W t = record {
  apart = mul-pos (mul-pos r.apart F) W;
  most = le_trans (sum_most (v.num * f.num) (v.den * f.den) w.num w.den (n * 2 ^ e) (2 ^ e) x t.most) (le_of_eq (ap (λ (z : ℕ). z * (v.den * f.den * w.den)) (sym (suc-mul n (2 ^ e)))));
  least = inr (sum_least (v.num * f.num) (v.den * f.den) w.num w.den (2 ^ e) t.least);
}
  where
    x : v.num * f.num ≤ n * 2 ^ e * (v.den * f.den)
    x = le_trans (mul-le-mul r.most s.most) (le_of_eq (ap (λ (z : ℕ). n * 2 ^ e * v.den * z) (one-mul f.den) ∙ mul_assoc (n * 2 ^ e) v.den f.den))

plus_fine : (n e : ℕ) (v : Fraction) → n ≤ 65537 → e ≤ 60 → Held n e v → Fine 1021 1022 v
plus_fine n e v h k r = elim (held_fine n e v h r) [
  | inl z ↦ inl z
  | inr t ↦ inr (range_weaken e 1021 (17 + e) 1022 v (omega arith) (omega arith) t)
]

-- ---- one number, one update
small_steps : (k n : ℕ) → k ≤ 6 * n → n ≤ 65536 → 2 * suc (k + 4) ≤ P53
small_steps k n h l = le_trans (x k n h l) (lit≤ tt)
  where
    x : (k n : ℕ) → k ≤ 6 * n → n ≤ 65536 → 2 * suc (k + 4) ≤ 1048576
    x k n h l = omega arith

pub moved_about : (n e : ℕ) (S f x : Float) (s r v : Fraction) → n ≤ 65536 → e ≤ 60 → About (6 * n) S s → Held n e s → About 4 f r → 0 < r.den → Range 53 0 r → About 1 x v → 0 < v.den → Range e e v
    → About (6 * suc n) (add binary64 (mul binary64 S f) x) (moved r s v) × Held (suc n) e (moved r s v)
moved_about n e S f x s r v N E a h b R q c D t =
    let k = 6 * n in
    let small : 2 * suc (k + 4) ≤ P53 = small_steps k n (le_refl k) N in
    let m = mul_about k 4 S f s r (le_trans (x2 (k + 4)) small) h.apart R a b (times_fine n e s r (le_trans N (lit≤ tt)) E h q) in
    let g = held_step n e s r v h R q D t in
    let p = add_about (suc (k + 4)) (mul binary64 S f) x (times s r) v small (mul-pos h.apart R) D m (about_weaken 1 (suc (k + 4)) x v (omega arith) c) (plus_fine (suc n) e (moved r s v) (omega arith) E g) in
    (about_weaken (suc (suc (k + 4))) (6 * suc n) (add binary64 (mul binary64 S f) x) (moved r s v) (omega arith) p, g)
  where
    x2 : (k : ℕ) → 2 * k ≤ 2 * suc k
    x2 k = omega arith

-- ---- all three
pub sized_range : (x : Float) → Sized x → Range 30 30 (fraction_of x)
sized_range x w = record {
  least = le_trans (le_of_eq (sym (one-mul (den_of x)))) (le_trans w.least (mul-le-mul_left (num_of x) (lit≤ tt)));
  most = le_trans (le_of_eq (sym (mul-one (num_of x)))) (le_trans w.most (mul-le-mul_right (den_of x) (lit≤ tt)));
}

-- the statistic s of discount d and the ledger b have both counted the same n scores
pub record Track (d : Float) (n : ℕ) (s : Deviation) (b : Ledger) : Type 0 where
  pub discount : s.discount ≡ d
  pub count : s.count ≡ pos n
  pub counted : b.n ≡ n
  pub sum : About (6 * n) s.sum b.sum
  pub sum_held : Held n 30 b.sum
  pub squares : About (6 * n) s.sum_squared b.squares
  pub squares_held : Held n 60 b.squares
  pub weight : About (6 * n) s.weight b.weight
  pub weight_held : Held n 0 b.weight

none_held : (e : ℕ) → Held 0 e (over 0 1)
none_held e = record { apart = zero-lt-suc 0; most = zero-le; least = inl refl }

none_about : About 0 plus_zero (over 0 1)
none_about = record { plain = tt; near = near_of_eq P53 0 (fraction_of plus_zero) (over 0 1) refl }

pub track_fresh : (d : Float) → Track d 0 (Statistics.fresh d) blank
unfolding of_bits
track_fresh d = record { discount = refl; count = refl; counted = refl; sum = none_about; sum_held = none_held 30; squares = none_about; squares_held = none_held 60; weight = none_about; weight_held = none_held 0 }

square_about : (x : Float) → Sized x → About 1 (mul binary64 x x) (times (fraction_of x) (fraction_of x))
square_about x z =
    mul_about 0 0 x x (fraction_of x) (fraction_of x) zero-le (den_pos x) (den_pos x) (self x z.plain) (self x z.plain)
    (inr (range_weaken 60 1021 60 1022 (times (fraction_of x) (fraction_of x)) (lit≤ tt) (lit≤ tt) (range_times 30 30 30 30 (fraction_of x) (fraction_of x) (sized_range x z) (sized_range x z))))
  where
    self : (x : Float) → T (plain x) → About 0 x (fraction_of x)
    self x p = record { plain = p; near = near_of_eq P53 0 (fraction_of x) (fraction_of x) refl }

pub track_step : (d : Float) (n : ℕ) (s : Deviation) (b : Ledger) (x : Float) → Discount d → n ≤ 65536 → Sized x → Track d n s b → Track d (suc n) (Statistics.next s x) (enter (fraction_of d) b (fraction_of x))
unfolding Statistics.next of_bits
track_step d n s b x D N z t =
    let f = Statistics.factor s.discount s.count in
    let r = factor (fraction_of d) b.n in
    let a : About 4 f r =
    subst (λ (i : ℕ). About 4 f (factor (fraction_of d) i)) (sym t.counted) (subst₂ (λ (i : Float) (j : ℤ). About 4 (Statistics.factor i j) (factor (fraction_of d) n)) (sym t.discount) (sym t.count) (factor_about d n D N)) in
    let q : Range 53 0 r = factor_range d b.n D in
    let e : 0 < r.den = factor_den d b.n in
    let v = fraction_of x in
    let w = sized_range x z in
    let self : About 1 x v = record { plain = z.plain; near = near_of_eq P53 1 v v refl } in
    let one : Range 0 0 unit = record { least = lit≤ tt; most = lit≤ tt } in
    let i = moved_about n 30 s.sum f x b.sum r v N (lit≤ tt) t.sum t.sum_held a e q self (den_pos x) w in
    let j = moved_about n 60 s.sum_squared f (mul binary64 x x) b.squares r (times v v) N (lit≤ tt) t.squares t.squares_held a e q (square_about x z) (mul-pos (den_pos x) (den_pos x)) (range_times 30 30 30 30 v v w w) in
    let k = moved_about n 0 s.weight f plus_one b.weight r unit N (lit≤ tt) t.weight t.weight_held a e q (one_about 1) (zero-lt-suc 0) one in
    record {
      discount = t.discount;
      count = ap (λ (c : ℤ). c +ℤ pos 1) t.count ∙ ap pos (add-one n);
      counted = ap suc t.counted;
      sum = i.0;
      sum_held = i.1;
      squares = j.0;
      squares_held = j.1;
      weight = k.0;
      weight_held = k.1;
    }
