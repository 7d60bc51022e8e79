-- Part (a): the watch's opening threshold and the ledger's differ by at most M / 2048, for a statistic that tracks a ledger. Assumes nothing.
use mathlib.Core.Path.{◌≡◌, refl, sym, subst}
use mathlib.Core.Logic.{inl, inr}
use mathlib.Core.List.{List, [], ◌∷◌}
use Prim.Native.Nat.{ℕ, suc, ◌+◌, ◌*◌, ◌^◌, ◌≤◌, ◌<◌}
use native.Mathlib.Nat.{le_trans, le_of_eq, mul-le-mul_right, mul-le-mul, mul-pos, zero-lt-suc}
use native.Mathlib.Omega.{arith}
use mathlib.Core.Bool.{Bool, true, false, ◌&&◌, ◌||◌}
use lib.Dec.{T, ltb, eqb, lit≤, ltb→lt, eqb→eq}
use lib.Pow.{pow_pos, pow_mono}
use lib.Ieee.{Float, nan, inf, fin, binary32, binary64, up, down, add, sub, mul, div, le, of_bits}
use lib.Ieee.Positive.{num as num_of, den as den_of, den_pos}
use Rattle.ieee.specs.Round.{narrow}
use Rattle.deviation.specs.declared.Deviation.{Deviation}
use Rattle.deviation.specs.Statistics as Statistics
use Rattle.basicthresholder.specs.Grades.{threshold_by}
use Rattle.ledger.specs.Fractions.{Fraction, over, plus, times, divided_by, minus, Le, plain, fraction_of, unit, plus_zero, part}
use Rattle.ledger.specs.Ledger.{moved, Ledger, enter, mean, variance, AtOrUnder, AtOrOver}
use Rattle.ledger.proofs.CommonUnit.{unit_of, In, here, there, share, share_at}
use Rattle.ledger.proofs.Threshold.{Setting, Within, within, added}
use Rattle.ledger.proofs.Update.{Held, Track}
use Rattle.ledger.proofs.Values.{Range, About, P53, range_near, range_weaken, range_by, range_times, num_pos, div_about, mul_about}
use Rattle.ledger.proofs.Variance.{Spread, spread_of}

-- ---- the largest score bounds mean and mean square
pub record Capped (M : Fraction) (b : Ledger) : Type 0 where
  pub sum : Le b.sum (times M b.weight)
  pub squares : Le b.squares (times (times M M) b.weight)

cap_in : (a a' b b' m m' c c' e e' : ℕ) → a * (m' * b') ≤ m * b * a' → e * m' ≤ m * e'
    → (a * c * e' + e * (a' * c')) * (m' * (b' * c' * 1)) ≤ m * (b * c * 1 + 1 * (b' * c')) * (a' * c' * e')
cap_in a a' b b' m m' c c' e e' h l =
    let x : a * (m' * b') * (c * e' * c') ≤ m * b * a' * (c * e' * c') = mul-le-mul_right (c * e' * c') h in
    let y : e * m' * (a' * c' * (b' * c')) ≤ m * e' * (a' * c' * (b' * c')) = mul-le-mul_right (a' * c' * (b' * c')) l in
    omega arith

cap_step : (M s w f v : Fraction) → Le s (times M w) → Le v M → Le (moved f s v) (times M (moved f w unit))
cap_step M s w f v h l = cap_in s.num s.den w.num w.den M.num M.den f.num f.den v.num v.den h l

square_le : (v M : Fraction) → Le v M → Le (times v v) (times M M)
square_le v M h = go v.num v.den M.num M.den h
  where
    go : (a a' b b' : ℕ) → a * b' ≤ b * a' → a * a * (b' * b') ≤ b * b * (a' * a')
    go a a' b b' h = (let x : a * b' * (a * b') ≤ b * a' * (b * a') = mul-le-mul h h in omega arith)

pub capped_step : (M d v : Fraction) (b : Ledger) → Le v M → Capped M b → Capped M (enter d b v)
capped_step M d v b l c = record {
  sum = cap_step M b.sum b.weight _ v c.sum l;
  squares = cap_step (times M M) b.squares b.weight _ (times v v) c.squares (square_le v M l);
}

by_le : (s w M : Fraction) → Le s (times M w) → Le (divided_by s w) M
by_le s w M h = go s.num s.den w.num w.den M.num M.den h
  where
    go : (a a' b b' m m' : ℕ) → a * (m' * b') ≤ m * b * a' → a * b' * m' ≤ m * (a' * b)
    go a a' b b' m m' h = omega arith

-- ---- a weight above zero is not empty
le_zero_false : (x : Float) → T (plain x) → 0 < num_of x → le x plus_zero ≡ false
unfolding le
le_zero_false nan p h = absurd p
le_zero_false (inf s) p h = absurd p
le_zero_false (fin true m e) p h = absurd p
le_zero_false (fin false m e) p h = both (ltb (m * up e * 1) (0 * down e)) (eqb (m * up e * 1) (0 * down e)) true a b
  where
    a : T (ltb (m * up e * 1) (0 * down e)) → ⊥
    a t = (let i : m * up e * 1 < 0 * down e = ltb→lt (m * up e * 1) (0 * down e) t in omega arith)

    b : T (eqb (m * up e * 1) (0 * down e)) → ⊥
    b t = (let i : m * up e * 1 ≡ 0 * down e = eqb→eq (m * up e * 1) (0 * down e) t in omega arith)

    both : (x y z : Bool) → (T x → ⊥) → (T y → ⊥) → x || (y && z) ≡ false
    both true y z p q = absurd (p tt)
    both false true z p q = absurd (q tt)
    both false false z p q = refl

held_range : (n e : ℕ) (v : Fraction) → 1 ≤ n → n ≤ 65536 → Held n e v → Range e (17 + e) v
held_range n e v h l r = elim r.least [
  | inl z ↦ absurd (omega arith)
  | inr i ↦ record { least = i; most = le_trans r.most (mul-le-mul_right v.den (le_trans (mul-le-mul_right (2 ^ e) (le_trans l (lit≤ tt))) (le_of_eq (sym (lib.Pow.pow-add 2 17 e))))) }
]

small_k : (n : ℕ) → n ≤ 65536 → 2 * (6 * n + 6 * n) ≤ P53
small_k n h = le_trans (x n h) (lit≤ tt)
  where
    x : (n : ℕ) → n ≤ 65536 → 2 * (6 * n + 6 * n) ≤ 2097152
    x n h = omega arith

small_j : (n : ℕ) → n ≤ 65536 → 2 * (suc (6 * n + 6 * n) + suc (6 * n + 6 * n)) ≤ P53
small_j n h = le_trans (x n h) (lit≤ tt)
  where
    x : (n : ℕ) → n ≤ 65536 → 2 * (suc (6 * n + 6 * n) + suc (6 * n + 6 * n)) ≤ 4194304
    x n h = omega arith

-- ---- the watch's opening threshold, from its z factor and its primary statistic
abbrev pub opening : Float → Deviation → Float
opening z s = threshold_by (narrow (Statistics.mean s)) z (narrow (Statistics.deviation s))

module _ (d : Float) (n : ℕ) (s : Deviation) (b : Ledger) (z : Float) (M : Fraction) (n-one : 1 ≤ n) (n-le : n ≤ 65536) (t : Track d n s b) (c : Capped M b)
    (M_den : 0 < M.den) (M_range : Range 30 30 M) (z_plain : T (plain z)) (z_le : Le (fraction_of z) (over 16 1)) where
  wr : Range 0 17 b.weight
  wr = held_range n 0 b.weight n-one n-le t.weight_held

  w_pos : 0 < b.weight.num
  w_pos = num_pos b.weight.num b.weight.den (2 ^ 0) t.weight_held.apart wr.least

  W_pos : 0 < num_of s.weight
  W_pos = num_pos (num_of s.weight) (den_of s.weight) (2 ^ 1) (den_pos s.weight) (range_near P53 (6 * n) 0 17 (fraction_of s.weight) b.weight (pow_pos 53) (le_trans (x n) (small_k n n-le)) t.weight_held.apart t.weight.near wr).least
    where
      x : (n : ℕ) → 2 * (6 * n) ≤ 2 * (6 * n + 6 * n)
      x n = omega arith

  x_f : Float
  x_f = div binary64 s.sum_squared s.weight

  k_f : Float
  k_f = div binary64 s.sum s.weight

  y_f : Float
  y_f = mul binary64 (div binary64 s.sum s.weight) (div binary64 s.sum s.weight)

  X_range : Range 77 77 (divided_by b.squares b.weight)
  X_range = range_by 60 77 0 17 b.squares b.weight (held_range n 60 b.squares n-one n-le t.squares_held) wr

  u_range : Range 47 47 (mean b)
  u_range = range_by 30 47 0 17 b.sum b.weight (held_range n 30 b.sum n-one n-le t.sum_held) wr

  x_about : About (suc (6 * n + 6 * n)) (div binary64 s.sum_squared s.weight) (divided_by b.squares b.weight)
  x_about = div_about (6 * n) (6 * n) s.sum_squared s.weight b.squares b.weight (small_k n n-le) t.squares_held.apart w_pos W_pos t.squares t.weight (inr (range_weaken 77 1021 77 1022 (divided_by b.squares b.weight) (lit≤ tt) (lit≤ tt) X_range))

  k_about : About (suc (6 * n + 6 * n)) (div binary64 s.sum s.weight) (mean b)
  k_about = div_about (6 * n) (6 * n) s.sum s.weight b.sum b.weight (small_k n n-le) t.sum_held.apart w_pos W_pos t.sum t.weight (inr (range_weaken 47 1021 47 1022 (mean b) (lit≤ tt) (lit≤ tt) u_range))

  u_den : 0 < (mean b).den
  u_den = mul-pos t.sum_held.apart w_pos

  X_den : 0 < (divided_by b.squares b.weight).den
  X_den = mul-pos t.squares_held.apart w_pos

  y_about : About (suc (suc (6 * n + 6 * n) + suc (6 * n + 6 * n))) (mul binary64 (div binary64 s.sum s.weight) (div binary64 s.sum s.weight)) (times (mean b) (mean b))
  y_about = mul_about (suc (6 * n + 6 * n)) (suc (6 * n + 6 * n)) (div binary64 s.sum s.weight) (div binary64 s.sum s.weight) (mean b) (mean b) (small_j n n-le) u_den u_den k_about k_about
      (inr (range_weaken 94 1021 94 1022 (times (mean b) (mean b)) (lit≤ tt) (lit≤ tt) (range_times 47 47 47 47 (mean b) (mean b) u_range u_range)))

  x_cap : num_of (div binary64 s.sum_squared s.weight) ≤ 2 ^ 1023 * den_of (div binary64 s.sum_squared s.weight)
  x_cap =
      let r = range_near P53 (suc (6 * n + 6 * n)) 77 77 (fraction_of (div binary64 s.sum_squared s.weight)) (divided_by b.squares b.weight) (pow_pos 53) (le_trans (x n) (small_j n n-le)) X_den x_about.near X_range in
      le_trans r.most (mul-le-mul_right (den_of (div binary64 s.sum_squared s.weight)) (pow_mono {i = 78} {j = 1023} (lit≤ tt)))
    where
      x : (n : ℕ) → 2 * suc (6 * n + 6 * n) ≤ 2 * (suc (6 * n + 6 * n) + suc (6 * n + 6 * n))
      x n = omega arith

  sp : (v : Float) × Spread (div binary64 s.sum_squared s.weight) (mul binary64 (div binary64 s.sum s.weight) (div binary64 s.sum s.weight)) v
      (Statistics.positive_root (sub binary64 (div binary64 s.sum_squared s.weight) (mul binary64 (div binary64 s.sum s.weight) (div binary64 s.sum s.weight))))
  sp = spread_of (div binary64 s.sum_squared s.weight) (mul binary64 (div binary64 s.sum s.weight) (div binary64 s.sum s.weight)) x_about.plain y_about.plain x_cap

  s_f : Float
  s_f = Statistics.positive_root (sub binary64 (div binary64 s.sum_squared s.weight) (mul binary64 (div binary64 s.sum s.weight) (div binary64 s.sum s.weight)))

  setting : Setting (divided_by b.squares b.weight) (mean b) M z x_f y_f sp.0 s_f k_f (suc (6 * n + 6 * n)) (suc (suc (6 * n + 6 * n) + suc (6 * n + 6 * n)))
  unfolding x_f y_f k_f s_f
  setting = record {
    X_den = X_den;
    u_den = u_den;
    M_den = M_den;
    X_le = by_le b.squares b.weight (times M M) c.squares;
    u_le = by_le b.sum b.weight M c.sum;
    M_range = M_range;
    z_plain = z_plain;
    z_le = z_le;
    few = omega arith;
    few' = omega arith;
    x_about = x_about;
    y_about = y_about;
    k_about = k_about;
    spread = sp.1;
  }

  -- ---- all the fractions over one unit
  a_f : Float
  a_f = narrow k_f

  d_f : Float
  d_f = narrow s_f

  p_f : Float
  p_f = mul binary32 z (narrow s_f)

  t_f : Float
  t_f = add binary32 (narrow k_f) (mul binary32 z (narrow s_f))

  vs : List Fraction
  vs = divided_by b.squares b.weight ∷ mean b ∷ M ∷ fraction_of z ∷ fraction_of x_f ∷ fraction_of y_f ∷ fraction_of sp.0 ∷ fraction_of s_f ∷ fraction_of k_f ∷ fraction_of a_f ∷ fraction_of d_f ∷ fraction_of p_f ∷ fraction_of t_f ∷ []

  D_pos : 0 < unit_of vs
  unfolding vs unit_of
  D_pos =
      mul-pos X_den (mul-pos u_den (mul-pos M_den (mul-pos (den_pos z) (mul-pos (den_pos x_f) (mul-pos (den_pos y_f) (mul-pos (den_pos sp.0) (mul-pos (den_pos s_f) (mul-pos (den_pos k_f)
      (mul-pos (den_pos a_f) (mul-pos (den_pos d_f) (mul-pos (den_pos p_f) (mul-pos (den_pos t_f) (zero-lt-suc 0)))))))))))))

  i0 : In (divided_by b.squares b.weight) vs
  unfolding vs
  i0 = here

  i1 : In (mean b) vs
  unfolding vs
  i1 = there here

  i2 : In M vs
  unfolding vs
  i2 = there (there here)

  i3 : In (fraction_of z) vs
  unfolding vs
  i3 = there (there (there here))

  i4 : In (fraction_of x_f) vs
  unfolding vs
  i4 = there (there (there (there here)))

  i5 : In (fraction_of y_f) vs
  unfolding vs
  i5 = there (there (there (there (there here))))

  i6 : In (fraction_of sp.0) vs
  unfolding vs
  i6 = there (there (there (there (there (there here)))))

  i7 : In (fraction_of s_f) vs
  unfolding vs
  i7 = there (there (there (there (there (there (there here))))))

  i8 : In (fraction_of k_f) vs
  unfolding vs
  i8 = there (there (there (there (there (there (there (there here)))))))

  i9 : In (fraction_of a_f) vs
  unfolding vs
  i9 = there (there (there (there (there (there (there (there (there here))))))))

  i10 : In (fraction_of d_f) vs
  unfolding vs
  i10 = there (there (there (there (there (there (there (there (there (there here)))))))))

  i11 : In (fraction_of p_f) vs
  unfolding vs
  i11 = there (there (there (there (there (there (there (there (there (there (there here))))))))))

  i12 : In (fraction_of t_f) vs
  unfolding vs
  i12 = there (there (there (there (there (there (there (there (there (there (there (there here)))))))))))

  x_cap' : num_of x_f ≤ 2 ^ 1023 * den_of x_f
  unfolding x_f
  x_cap' = x_cap

  within_all : Within (divided_by b.squares b.weight) (mean b) M z s_f k_f
  unfolding a_f d_f p_f t_f
  within_all =
      within (divided_by b.squares b.weight) (mean b) M z x_f y_f sp.0 s_f k_f (suc (6 * n + 6 * n)) (suc (suc (6 * n + 6 * n) + suc (6 * n + 6 * n))) setting x_cap'
      (unit_of vs) (share i0) (share i1) (share i2) (share i3) (share i4) (share i5) (share i6) (share i7) (share i8) D_pos
      (share_at i0) (share_at i1) (share_at i2) (share_at i3) (share_at i4) (share_at i5) (share_at i6) (share_at i7) (share_at i8)
      (share i9) (share i10) (share_at i9) (share_at i10) (share i11) (share_at i11) (share i12) (share_at i12)

  not_empty : Statistics.is_empty s ≡ false
  unfolding Statistics.is_empty of_bits
  not_empty = le_zero_false s.weight t.weight.plain W_pos

  mean_is : k_f ≡ Statistics.mean s
  unfolding k_f Statistics.mean
  mean_is = rw not_empty refl

  deviation_is : s_f ≡ Statistics.deviation s
  unfolding s_f Statistics.deviation
  deviation_is = rw not_empty refl

  threshold_is : added z s_f k_f ≡ opening z s
  unfolding threshold_by
  threshold_is = rw (mean_is, deviation_is) refl

  -- ---- part (a)
  pub close : AtOrUnder (fraction_of z) b (minus (fraction_of (opening z s)) (part M 2048)) × AtOrOver (fraction_of z) b (plus (fraction_of (opening z s)) (part M 2048))
  close = subst (λ (w : Float). AtOrUnder (fraction_of z) b (minus (fraction_of w) (part M 2048)) × AtOrOver (fraction_of z) b (plus (fraction_of w) (part M 2048))) threshold_is (within_all.not_over, (within_all.mean_most, within_all.not_under))

  pub threshold_plain : T (plain (opening z s))
  threshold_plain = subst (λ (w : Float). T (plain w)) threshold_is within_all.number

  pub deviation_plain : T (plain (narrow (Statistics.deviation s)))
  deviation_plain = subst (λ (w : Float). T (plain (narrow w))) deviation_is within_all.spread_number

  pub deviation_cap : num_of (narrow (Statistics.deviation s)) ≤ 2 ^ 32 * den_of (narrow (Statistics.deviation s))
  deviation_cap = subst (λ (w : Float). num_of (narrow w) ≤ 2 ^ 32 * den_of (narrow w)) deviation_is within_all.spread_most

  pub mean_den : 0 < (mean b).den
  mean_den = u_den

  pub variance_den : 0 < (variance b).den
  variance_den = mul-pos X_den (mul-pos u_den u_den)
