-- Before ten scores, what a score earns is its share of the absolute threshold, and it rises with the score. Assumes nothing.
use mathlib.Core.Path.{◌≡◌, refl, sym, ap, ◌∙◌, subst}
use mathlib.Core.Bool.{Bool, true, false, not, cond, ◌&&◌}
use Prim.Native.Nat.{ℕ, zero, suc, ◌+◌, ◌-◌, ◌*◌, ◌%◌, ◌^◌, ◌≤◌, ◌<◌}
use native.Mathlib.Nat.{le_trans, le_of_eq, le_antisymm, zero-mul, one-mul, mul-pos, suc-mul, mul-le-mul_right}
use native.Mathlib.Omega.{arith}
use lib.IntN.{ℤ, negsuc}
use lib.Dec.{T, ltb, eqb, eqb-suc-zero, leb, leb→le}
use lib.Pow.{pow_pos}
use lib.Ieee.{Float, nan, inf, fin, binary32, prec, emax, fits, up, down, round, sub, div, lt, le, eq, is_nan, of_bits}
use lib.Ieee.Fits.{down_pos, up_pos, and_l, and_r}
use Rattle.util.specs.Util.{maxf32, minf32}
use Rattle.grading.specs.Const.{zero32, one32}
use Rattle.grading.specs.Grading.{surprise_index}
use Rattle.grade_order.specs.Sixteenths.{earned}
use Rattle.grade_order.specs.Statement.{Scores}
use Rattle.grade_order.proofs.Signed.{AtMost, at_least}
use Rattle.grade_order.proofs.Comparing.{first_number, second_number, below_most, below_number, later, reaches, endless_reached, not_under_itself}
use Rattle.grade_order.proofs.Rising.{plus, signed, signed_number, round_signed, Above, endless, some, of_le, above_then, first_plus, second_plus, rounds, quotients, max_plus}
use Rattle.grade_order.proofs.Differences.{difference_is, difference_signed, from_finite, number_over, no_zero}
use Rattle.grade_order.proofs.Sixteenths.{count, count_most, counts, count_nan, count_endless, count_one, count_zero, count_minus, earned_le}
use Rattle.grade_order.proofs.Surprises.{surprise_not_below}

-- ---- a share, cut to 0 and 1
abbrev cut : Float → Float
cut v = minf32 one32 (maxf32 v zero32)

one_plus : T (plus one32)
unfolding of_bits
one_plus = tt

over_one : (v : Float) → T (plus v) → T (lt one32 v) → count one32 ≤ count v
over_one v p h = counts (of_le one32 v one_plus p (below_most one32 v h))

cut_plus : (v : Float) → T (plus v) → count (cut v) ≡ count v
unfolding minf32
cut_plus v p = ap (λ (w : Float). count (cond (lt one32 w) one32 w)) (max_plus v p) ∙ go (lt one32 v) (over_one v p)
  where
    go : (b : Bool) → (T b → count one32 ≤ count v) → count (cond b one32 v) ≡ count v
    go true k = le_antisymm (k tt) (le_trans (count_most v) (le_of_eq (sym count_one)))
    go false k = refl

under_one : (m : ℕ) (e : ℤ) → minf32 one32 (fin true m e) ≡ fin true m e
unfolding minf32 lt of_bits
under_one m e = refl

zero_under_one : minf32 one32 zero32 ≡ zero32
unfolding minf32 lt of_bits
zero_under_one = refl

bottom_cut : cut (inf true) ≡ zero32
unfolding minf32 maxf32 lt of_bits
bottom_cut = refl

cut_minus : (v : Float) → T (signed true v) → count (cut v) ≡ 0
unfolding maxf32
cut_minus nan p = absurd p
cut_minus (inf false) p = absurd p
cut_minus (inf true) p = ap count bottom_cut ∙ count_zero
cut_minus (fin false m e) p = absurd p
cut_minus (fin true m e) p = go (lt (fin true m e) zero32) refl
  where
    go : (b : Bool) → lt (fin true m e) zero32 ≡ b → count (minf32 one32 (cond b zero32 (fin true m e))) ≡ 0
    go true h = ap count zero_under_one ∙ count_zero
    go false h = ap count (under_one m e) ∙ count_minus m e (subst (λ (c : Bool). T (not c)) (sym h) tt)

-- what is over the absolute threshold a, as a part of it
abbrev share : Float → Float → ℕ
share z a = count (cut (div binary32 (sub binary32 z a) a))

-- ---- an absolute threshold above 0
some_above : (x y : Float) (n : ℕ) (g : ℤ) → T (not (is_nan x)) → T (not (is_nan y)) → T (le x y) → 0 < n → T (not (lt x (fin false n g))) → share x (fin false n g) ≤ share y (fin false n g)
some_above x y n g a b l N h =
    let r = quotients (from_finite false n g x y a b l N h) (fin false n g) (some N) in
    le_trans (le_of_eq (cut_plus _ (first_plus r))) (le_trans (counts r) (le_of_eq (sym (cut_plus _ (second_plus r)))))

-- ---- one below 0: nothing
by_negative : (w : Float) (n : ℕ) (g : ℤ) → T (signed false w) → T (signed true (div binary32 w (fin true (suc n) g)))
unfolding div
by_negative nan n g p = absurd p
by_negative (inf true) n g p = absurd p
by_negative (inf false) n g p = tt
by_negative (fin true m e) n g p = absurd p
by_negative (fin false m e) n g p = rw (eqb-suc-zero n) (round_signed binary32 true (m * up e * down g) (suc n * up g * down e))

negative_share : (z : Float) (n : ℕ) (g : ℤ) → T (not (is_nan z)) → T (not (lt z (fin true (suc n) g))) → share z (fin true (suc n) g) ≡ 0
negative_share z n g a h = cut_minus _ (by_negative _ n g (number_over true (suc n) g z a (omega arith) h))

-- ---- minus infinity: all of it
bottom_share : (z : Float) → T (not (is_nan z)) → share z (inf true) ≡ 16
unfolding sub div is_nan
bottom_share nan a = absurd a
bottom_share (inf true) a = cut_plus nan tt ∙ count_nan
bottom_share (inf false) a = cut_plus nan tt ∙ count_nan
bottom_share (fin s m e) a = cut_plus nan tt ∙ count_nan

-- ---- infinity: one score alone reaches it
top_share : (x y : Float) → T (not (is_nan x)) → T (not (is_nan y)) → T (le x y) → T (not (lt x (inf false))) → share x (inf false) ≤ share y (inf false)
unfolding is_nan lt le eq
top_share nan y a b l h = absurd a
top_share (inf true) y a b l h = absurd h
top_share (fin s m e) y a b l h = absurd h
top_share (inf false) nan a b l h = absurd b
top_share (inf false) (inf true) a b l h = absurd l
top_share (inf false) (inf false) a b l h = le_of_eq refl
top_share (inf false) (fin s m e) a b l h = absurd l

-- ---- zero: a score that reaches a threshold above it is above 0
over_some : (v : Bool) (a b p q : ℕ) → 0 < b → 0 < p → AtMost false b q v a p → (v ≡ false) × (0 < a)
over_some false zero b p q B P h = absurd (let l : 0 < b * p = mul-pos B P in omega arith)
over_some false (suc a) b p q B P h = (refl, omega arith)
over_some true a b p q B P h = absurd (let l : 0 < b * p = mul-pos B P in omega arith)

not_negative : (u w : Bool) (b q r : ℕ) → 0 < b → 0 < r → AtMost w 0 r u b q → u ≡ false
not_negative false w b q r B R h = refl
not_negative true false b q r B R h = absurd (let l : 0 < b * r = mul-pos B R in omega arith)
not_negative true true b q r B R h = absurd (let l : 0 < b * r = mul-pos B R in omega arith)

size_some : (m : ℕ) (e : ℤ) → 0 < m * up e → 0 < m
size_some zero e h = absurd (omega arith)
size_some (suc m) e h = omega arith

above_of : (s : Bool) (m : ℕ) (e : ℤ) → s ≡ false → 0 < m → Above (fin s m e)
above_of s m e p h = subst (λ (t : Bool). Above (fin t m e)) (sym p) (some h)

over_zero : (z t : Float) (w : Bool) (g : ℤ) → T (not (is_nan z)) → T (not (is_nan t)) → T (not (lt z t)) → T (not (lt t (fin w 0 g))) → T (not (eq t zero32)) → Above z
unfolding lt is_nan
over_zero z nan w g a c h k i = absurd c
over_zero z (inf true) w g a c h k i = absurd k
over_zero nan (inf false) w g a c h k i = absurd a
over_zero nan (fin u p r) w g a c h k i = absurd a
over_zero (inf true) (inf false) w g a c h k i = absurd h
over_zero (inf false) (inf false) w g a c h k i = endless
over_zero (fin s m e) (inf false) w g a c h k i = absurd h
over_zero (inf true) (fin u p r) w g a c h k i = absurd h
over_zero (inf false) (fin u p r) w g a c h k i = endless
over_zero (fin s m e) (fin u p r) w g a c h k i =
    let P = mul-pos (no_zero u p r i) (up_pos r) in
    let plain = not_negative u w (p * up r) (down r) (down g) P (down_pos g)
    (subst (λ (z : ℕ). AtMost w z (down g) u (p * up r) (down r)) (zero-mul (up g)) (at_least u (p * up r) (down r) w (0 * up g) (down g) k)) in
    let o = over_some s (m * up e) (p * up r) (down e) (down r) P (down_pos e) (subst (λ (v : Bool). AtMost v (p * up r) (down r) s (m * up e) (down e)) plain (at_least s (m * up e) (down e) u (p * up r) (down r) h)) in
    above_of s m e o.0 (size_some m e o.1)

-- by plus zero: all of it
by_zero : (w : Float) (g : ℤ) → T (signed false w) → count (cut (div binary32 w (fin false 0 g))) ≡ 16
unfolding div
by_zero nan g p = absurd p
by_zero (inf true) g p = absurd p
by_zero (inf false) g p = cut_plus (inf false) tt ∙ count_endless
by_zero (fin true m e) g p = absurd p
by_zero (fin false m e) g p = go (eqb m 0)
  where
    go : (b : Bool) → count (cut (cond b nan (inf false))) ≡ 16
    go true = cut_plus nan tt ∙ count_nan
    go false = cut_plus (inf false) tt ∙ count_endless

less_zero : (z : Float) (g : ℤ) → Above z → T (signed false (sub binary32 z (fin false 0 g)))
unfolding sub
less_zero nan g s = elim s [ ]
less_zero (inf true) g s = elim s [ ]
less_zero (fin true m e) g s = elim s [ ]
less_zero (inf false) g endless = tt
less_zero (fin false m e) g (some M) =
    difference_signed false m e false 0 g tt (omega arith)

zero_share : (z : Float) (g : ℤ) → Above z → share z (fin false 0 g) ≡ 16
zero_share z g s = by_zero (sub binary32 z (fin false 0 g)) g (less_zero z g s)

-- by minus zero: nothing, since the difference is not rounded to 0
by_minus_zero : (w : Float) (g : ℤ) → Above w → count (cut (div binary32 w (fin true 0 g))) ≡ 0
unfolding div
by_minus_zero nan g s = elim s [ ]
by_minus_zero (inf true) g s = elim s [ ]
by_minus_zero (fin true m e) g s = elim s [ ]
by_minus_zero (inf false) g endless = cut_minus (inf true) tt
by_minus_zero (fin false (suc n) e) g (some N) = rw (eqb-suc-zero n) (cut_minus (inf true) tt)
by_minus_zero (fin false zero e) g (some N) = absurd (let l = N in omega arith)

fine : (m : ℕ) (e : ℤ) → T (fits binary32 (fin false (suc m) e)) → down e ≤ 2 ^ 149
unfolding fits
fine m e h =
    leb→le (down e) (2 ^ 149)
    (and_r (eqb (suc m % 2) 1 && ltb (suc m) (2 ^ prec binary32)) (leb (down e) (2 ^ 149))
    (and_l (eqb (suc m % 2) 1 && ltb (suc m) (2 ^ prec binary32) && leb (down e) (2 ^ 149)) (ltb (suc m * up e) (2 ^ suc (emax binary32) * down e)) h))

smallest : round binary32 false 1 (2 ^ 149) ≡ fin false 1 (negsuc 148)
unfolding round
smallest = refl

at_least_smallest : (a c : ℕ) → 0 < c → c ≤ a * 2 ^ 149 → Above (round binary32 false a c)
at_least_smallest a c C h =
    above_then (rounds binary32 1 (2 ^ 149) a c (pow_pos 149) C (le_trans (le_of_eq (one-mul c)) h)) (subst Above (sym smallest) (some (omega arith)))
    (signed_number false (round binary32 false a c) (round_signed binary32 false a c))

less_minus_zero : (z : Float) (g : ℤ) → T (fits binary32 z) → Above z → Above (sub binary32 z (fin true 0 g))
unfolding sub
less_minus_zero nan g F s = elim s [ ]
less_minus_zero (inf true) g F s = elim s [ ]
less_minus_zero (fin true m e) g F s = elim s [ ]
less_minus_zero (inf false) g F endless = endless
less_minus_zero (fin false zero e) g F (some M) = absurd (let l = M in omega arith)
less_minus_zero (fin false (suc m) e) g F (some M) =
    subst Above (sym (difference_is false (suc m) e true 0 g tt (omega arith)))
    (at_least_smallest _ (down e * down g) (mul-pos (down_pos e) (down_pos g)) (enough (suc m * up e) (0 * up g) (down e) (down g) (2 ^ 149) (mul-pos M (up_pos e)) (fine m e F)))
  where
    enough : (a z d g k : ℕ) → 0 < a → d ≤ k → d * g ≤ (a * g + z * d - (0 * d + 0 * g)) * k
    enough zero z d g k A h = absurd (omega arith)
    enough (suc a) z d g k A h =
        let i : d * g ≤ k * g = mul-le-mul_right g h in
        let j : suc a * g ≡ a * g + g = suc-mul a g in
        let l : suc a * g * k ≡ (a * g + g) * k = ap (λ (x : ℕ). x * k) j in
        let n : d * g ≤ suc a * g * k = omega arith in
        le_trans n (mul-le-mul_right k (omega arith))

minus_zero_share : (z : Float) (g : ℤ) → T (fits binary32 z) → Above z → share z (fin true 0 g) ≡ 0
minus_zero_share z g F s = by_minus_zero (sub binary32 z (fin true 0 g)) g (less_minus_zero z g F s)

-- ---- NaN: all of it
nan_share : (z : Float) → share z nan ≡ 16
unfolding sub div
nan_share nan = cut_plus nan tt ∙ count_nan
nan_share (inf s) = cut_plus nan tt ∙ count_nan
nan_share (fin s m e) = cut_plus nan tt ∙ count_nan

-- ---- whatever the absolute threshold is
module _ (x y : Float) (o : Scores x y) where
  number_x : T (not (is_nan x))
  number_x = first_number x y o.order

  number_y : T (not (is_nan y))
  number_y = second_number x y o.order

  -- over a threshold t that is at least it
  over : (t a : Float) → T (not (is_nan t)) → T (not (lt x t)) → T (not (lt t a)) → T (not (eq t zero32)) → share x a ≤ share y a
  over t nan c h k z = le_of_eq (nan_share x ∙ sym (nan_share y))
  over t (inf true) c h k z = le_of_eq (bottom_share x number_x ∙ sym (bottom_share y number_y))
  over t (inf false) c h k z = top_share x y number_x number_y o.order (endless_reached x t c h k)
  over t (fin false (suc n) g) c h k z = some_above x y (suc n) g number_x number_y o.order (omega arith) (reaches x t false (suc n) g c h k)
  over t (fin false zero g) c h k z =
      le_of_eq (zero_share x g (over_zero x t false g number_x c h k z) ∙ sym (zero_share y g (over_zero y t false g number_y c (later x y t o.order h) k z)))
  over t (fin true zero g) c h k z =
      le_of_eq (minus_zero_share x g o.first (over_zero x t true g number_x c h k z)
      ∙ sym (minus_zero_share y g o.second (over_zero y t true g number_y c (later x y t o.order h) k z)))
  over t (fin true (suc n) g) c h k z =
      let r = reaches x t true (suc n) g c h k in
      le_of_eq (negative_share x n g number_x r ∙ sym (negative_share y n g number_y (later x y (fin true (suc n) g) o.order r)))

  shares : (i a : Float) → T (not (is_nan i)) → T (not (lt x (maxf32 i a))) → T (not (eq (maxf32 i a) zero32)) → share x a ≤ share y a
  unfolding maxf32
  shares i a c h z = go (lt i a) refl h z
    where
      go : (b : Bool) → lt i a ≡ b → T (not (lt x (cond b a i))) → T (not (eq (cond b a i) zero32)) → share x a ≤ share y a
      go true e h z = over a a (below_number i a (subst T (sym e) tt)) h (not_under_itself a) z
      go false e h z = over i a c h (subst (λ (v : Bool). T (not v)) (sym e) tt) z

  pub early : (i a : Float) → T (not (is_nan i)) → T (not (lt x (maxf32 i a))) → T (not (eq (maxf32 i a) zero32))
      → (k d : Float) → T (le (earned (surprise_index false x (maxf32 i a) k d a)) (earned (surprise_index false y (maxf32 i a) k d a)))
  unfolding surprise_index
  early i a c h z k d =
      earned_le (surprise_index false x (maxf32 i a) k d a) (surprise_index false y (maxf32 i a) k d a)
      (surprise_not_below false x (maxf32 i a) k d a) (surprise_not_below false y (maxf32 i a) k d a) (shares i a c h z)
