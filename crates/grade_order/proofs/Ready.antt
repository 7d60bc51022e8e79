-- With statistics, what a score earns rises with it. Assumes nothing.
use mathlib.Core.Path.{◌≡◌, refl, sym, ap, ◌∙◌, subst}
use mathlib.Core.Bool.{Bool, true, false, not, cond}
use Prim.Native.Nat.{ℕ, zero, suc, ◌+◌, ◌*◌, ◌≤◌, ◌<◌}
use native.Mathlib.Nat.{le_of_eq}
use native.Mathlib.Omega.{arith}
use lib.IntN.{ℤ, pos}
use lib.Dec.{T, nltb→le}
use lib.Ieee.{Float, nan, inf, fin, binary32, up, down, sub, mul, div, lt, le, eq, is_nan, of_bits, unlike}
use lib.Ieee.Bits.{is_true}
use lib.Ieee.Fits.{down_pos}
use Rattle.util.specs.Util.{maxf32, minf32}
use Rattle.grading.specs.Const.{zero32, two32}
use Rattle.grading.specs.Grading.{at_least_minimum, surprise_index}
use Rattle.grade_order.specs.Sixteenths.{earned}
use Rattle.grade_order.proofs.Comparing.{first_number, second_number}
use Rattle.grade_order.proofs.Rising.{some, above, Rising, first_plus, second_plus, quotients, limits, max_plus}
use Rattle.grade_order.proofs.Differences.{from_threshold}
use Rattle.grade_order.proofs.Sixteenths.{count, counts, earned_le}
use Rattle.grade_order.proofs.Surprises.{surprise_not_below}

-- ---- the factor behind a deviation above 0 is finite and above 0
data Factor : Float → Type 0 where
  factor : {n : ℕ} {g : ℤ} → 0 < n → Factor (fin false n g)

no_nan : T (lt zero32 nan) → ⊥
unfolding lt of_bits
no_nan h = h

no_zero : (c : Bool) → T (lt zero32 (fin c 0 (pos 0))) → ⊥
unfolding lt of_bits
no_zero true h = h
no_zero false h = h

by_nan : (w : Float) → T (lt zero32 (div binary32 w nan)) → ⊥
unfolding div
by_nan nan h = no_nan h
by_nan (inf t) h = no_nan h
by_nan (fin t m e) h = no_nan h

by_endless : (w : Float) (t : Bool) → T (lt zero32 (div binary32 w (inf t))) → ⊥
unfolding div
by_endless nan t h = no_nan h
by_endless (inf u) t h = no_nan h
by_endless (fin u m e) t h = no_zero (unlike u t) h

two_is : two32 ≡ fin false 1 (pos 1)
unfolding of_bits
two_is = refl

large_enough : (s : Bool) (m : ℕ) (e : ℤ) → T (not (lt (fin s m e) two32)) → Factor (fin s m e)
unfolding lt of_bits
large_enough true m e h = absurd (let l = nltb→le 0 (m * up e * 1 + 1 * 2 * down e) h in omega (arith, down_pos e))
large_enough false zero e h = absurd (let l = nltb→le (0 * up e * 1) (1 * 2 * down e) h in omega (arith, down_pos e))
large_enough false (suc m) e h = factor {n = suc m} (omega arith)

finite_factor : (c w : Float) → T (lt zero32 (div binary32 w (at_least_minimum c))) → Factor (at_least_minimum c)
unfolding at_least_minimum
finite_factor c w = go (lt c two32) refl
  where
    own : (c : Float) → T (not (lt c two32)) → T (lt zero32 (div binary32 w c)) → Factor c
    own nan e h = absurd (by_nan w h)
    own (inf t) e h = absurd (by_endless w t h)
    own (fin t m g) e h = large_enough t m g e

    go : (b : Bool) → lt c two32 ≡ b → T (lt zero32 (div binary32 w (cond b two32 c))) → Factor (cond b two32 c)
    go true e h = subst Factor (sym two_is) (factor {n = 1} (omega arith))
    go false e h = own c (subst (λ (b : Bool). T (not b)) (sym e) tt) h

-- ---- the surprise
larger : {u v : Float} → Rising u v → Rising (maxf32 u zero32) (maxf32 v zero32)
larger {u} {v} r =
    subst (λ (x : Float). Rising x (maxf32 v zero32)) (sym (max_plus u (first_plus r)))
    (subst (Rising u) (sym (max_plus v (second_plus r))) r)

surprises : {k : Float} → Factor k → (x y t d a : Float) → T (lt zero32 d) → Rising (sub binary32 x t) (sub binary32 y t)
    → Rising (surprise_index true x t k d a) (surprise_index true y t k d a)
unfolding surprise_index
surprises (factor {n} {g} N) x y t d a s r =
    rw (is_true (lt zero32 d) s) (larger (quotients (limits n g (quotients r d (above d s))) (fin false n g) (some N)))

-- a NaN for a threshold: every score is the same surprise
less_nan : (x : Float) → sub binary32 x nan ≡ nan
unfolding sub
less_nan nan = refl
less_nan (inf s) = refl
less_nan (fin s m e) = refl

at_nan : (x y k d a : Float) → surprise_index true x nan k d a ≡ surprise_index true y nan k d a
unfolding surprise_index
at_nan x y k d a =
    ap (λ (z : Float). maxf32 (div binary32 (cond (lt zero32 d) (minf32 (div binary32 z d) k) (mul binary32 two32 k)) k) zero32) (less_nan x ∙ sym (less_nan y))

-- no deviation above 0: the same
at_flat : (x y t k d a : Float) → lt zero32 d ≡ false → surprise_index true x t k d a ≡ surprise_index true y t k d a
unfolding surprise_index
at_flat x y t k d a e = rw e

inf_number : (u : Bool) → T (not (is_nan (inf u)))
unfolding is_nan
inf_number u = tt

fin_number : (u : Bool) (m : ℕ) (e : ℤ) → T (not (is_nan (fin u m e)))
unfolding is_nan
fin_number u m e = tt

module _ (x y : Float) (l : T (le x y)) where
  with_deviation : (t k d a : Float) → Factor k → T (lt zero32 d) → T (not (lt x t)) → T (not (eq t zero32)) → count (surprise_index true x t k d a) ≤ count (surprise_index true y t k d a)
  with_deviation nan k d a F s h z = le_of_eq (ap count (at_nan x y k d a))
  with_deviation (inf u) k d a F s h z = counts (surprises F x y (inf u) d a s (from_threshold x y (inf u) (first_number x y l) (second_number x y l) l (inf_number u) h z))
  with_deviation (fin u m e) k d a F s h z = counts (surprises F x y (fin u m e) d a s (from_threshold x y (fin u m e) (first_number x y l) (second_number x y l) l (fin_number u m e) h z))

  pub ready : (t c w a : Float) → T (not (lt x t)) → T (not (eq t zero32))
      → T (le (earned (surprise_index true x t (at_least_minimum c) (div binary32 w (at_least_minimum c)) a)) (earned (surprise_index true y t (at_least_minimum c) (div binary32 w (at_least_minimum c)) a)))
  ready t c w a h z =
      earned_le (surprise_index true x t k d a) (surprise_index true y t k d a) (surprise_not_below true x t k d a) (surprise_not_below true y t k d a) (go (lt zero32 d) refl)
    where
      k : Float
      k = at_least_minimum c

      d : Float
      d = div binary32 w k

      go : (b : Bool) → lt zero32 d ≡ b → count (surprise_index true x t k d a) ≤ count (surprise_index true y t k d a)
      go true e = let s = subst T (sym e) tt in with_deviation t k d a (finite_factor c w s) s h z
      go false e = le_of_eq (ap count (at_flat x y t k d a e))
