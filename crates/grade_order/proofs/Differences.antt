-- A difference, from the second number on, rises with the first number. Assumes nothing.
use mathlib.Core.Path.{◌≡◌, sym, subst}
use mathlib.Core.Bool.{Bool, true, false, not, cond}
use Prim.Native.Nat.{ℕ, zero, suc, ◌+◌, ◌-◌, ◌*◌, ◌≤◌, ◌<◌}
use native.Mathlib.Nat.{mul-pos}
use native.Mathlib.Omega.{arith}
use lib.IntN.{ℤ}
use lib.Dec.{T, ltb, ltb→lt, nltb→le}
use lib.Ieee.{Float, nan, inf, fin, binary32, up, down, round, sum, sub, lt, le, eq, is_nan, of_bits, level}
use lib.Ieee.Fits.{up_pos, down_pos}
use Rattle.grading.specs.Const.{zero32}
use Rattle.grade_order.proofs.Signed.{upper, lower, upper_times, lower_times, AtMost, Less, at_most, at_least, at_most_then, less_then, gap, Clear, difference, gap_rises}
use Rattle.grade_order.proofs.Rising.{plus, signed, signed_plus, signed_number, round_signed, Above, endless, above, minus_not_above, above_some, Rising, to_nan, to_endless, above_then, rounds}

-- ---- finite numbers
module _ (s : Bool) (m : ℕ) (e : ℤ) (t : Bool) (n : ℕ) (d : ℤ) where
  -- t is at most s
  abbrev Reached : Type 0
  Reached = AtMost t (n * up d) (down d) s (m * up e) (down e)

  pub difference_is : Clear s t → Reached → sub binary32 (fin s m e) (fin t n d) ≡ round binary32 false (gap s (m * up e) (down e) t (n * up d) (down d)) (down e * down d)
  unfolding sub
  difference_is C h = difference s (m * up e) (down e) t (n * up d) (down d) binary32 C h

  pub difference_signed : Clear s t → Reached → T (signed false (sub binary32 (fin s m e) (fin t n d)))
  difference_signed C h = subst (λ (x : Float). T (signed false x)) (sym (difference_is C h)) (round_signed binary32 false _ _)

  reached : T (not (lt (fin s m e) (fin t n d))) → Reached
  unfolding lt
  reached h = at_least s (m * up e) (down e) t (n * up d) (down d) h

-- x at most y
module _ (s : Bool) (m : ℕ) (e : ℤ) (s' : Bool) (m' : ℕ) (e' : ℤ) where
  ordered : T (le (fin s m e) (fin s' m' e')) → AtMost s (m * up e) (down e) s' (m' * up e') (down e')
  unfolding le lt eq
  ordered h = at_most s (m * up e) (down e) s' (m' * up e') (down e') h

  differences : (t : Bool) (n : ℕ) (d : ℤ) → Clear s t → Clear s' t → Reached s m e t n d → AtMost s (m * up e) (down e) s' (m' * up e') (down e')
      → Rising (sub binary32 (fin s m e) (fin t n d)) (sub binary32 (fin s' m' e') (fin t n d))
  differences t n d C C' h k =
      let later = at_most_then t (n * up d) (down d) s (m * up e) (down e) s' (m' * up e') (down e') (down_pos e) h k in
      subst (λ (x : Float). Rising x (sub binary32 (fin s' m' e') (fin t n d))) (sym (difference_is s m e t n d C h))
      (subst (λ (x : Float). Rising (round binary32 false (gap s (m * up e) (down e) t (n * up d) (down d)) (down e * down d)) x) (sym (difference_is s' m' e' t n d C' later))
      (rounds binary32 _ (down e * down d) _ (down e' * down d) (mul-pos (down_pos e) (down_pos d)) (mul-pos (down_pos e') (down_pos d))
      (gap_rises s (m * up e) (down e) s' (m' * up e') (down e') t (n * up d) (down d) k)))

-- a second number that is not 0, or that is below the first
clear_of_size : (s t : Bool) (a b p q : ℕ) → 0 < b → 0 < p → AtMost t b q s a p → Clear s t
clear_of_size false t a b p q B P h = tt
clear_of_size true false a b p q B P h = absurd (let l : 0 < b * p = mul-pos B P in omega arith)
clear_of_size true true a b p q B P h = tt

clear_of_less : (s t : Bool) (a b p q : ℕ) → Less t b q s a p → Clear s t
clear_of_less false t a b p q h = tt
clear_of_less true false a b p q h = absurd (omega arith)
clear_of_less true true a b p q h = tt

-- ---- from a threshold on that is not 0
zero_level : (t : Bool) (a b : ℕ) → a ≡ 0 → b ≡ 0 → T (not (level t a false b)) → ⊥
zero_level t a b p q h = go t (subst (λ (x : ℕ). T (not (level t x false 0))) p (subst (λ (x : ℕ). T (not (level t a false x))) q h))
  where
    go : (t : Bool) → T (not (level t 0 false 0)) → ⊥
    go true k = k
    go false k = k

pub no_zero : (t : Bool) (n : ℕ) (d : ℤ) → T (not (eq (fin t n d) zero32)) → 0 < n
unfolding eq of_bits
no_zero t zero d h = absurd (zero_level t (0 * up d * 1) (0 * 1 * down d) (omega arith) (omega arith) h)
no_zero t (suc n) d h = omega arith

-- from minus infinity on there is only the top
bottom_plus : (x : Float) → T (not (is_nan x)) → T (plus (sub binary32 x (inf true)))
unfolding sub is_nan
bottom_plus nan a = absurd a
bottom_plus (inf true) a = tt
bottom_plus (inf false) a = tt
bottom_plus (fin s m e) a = tt

from_bottom : (x y : Float) → T (not (is_nan x)) → T (not (is_nan y)) → Rising (sub binary32 x (inf true)) (sub binary32 y (inf true))
unfolding sub is_nan
from_bottom x nan a b = absurd b
from_bottom x (inf true) a b = to_nan (bottom_plus x a)
from_bottom x (inf false) a b = to_endless (bottom_plus x a)
from_bottom x (fin s m e) a b = to_endless (bottom_plus x a)

from_top : (x y : Float) → T (not (is_nan x)) → T (not (is_nan y)) → T (le x y) → T (not (lt x (inf false))) → Rising (sub binary32 x (inf false)) (sub binary32 y (inf false))
unfolding sub is_nan lt le eq
from_top nan y a b l h = absurd a
from_top (inf true) y a b l h = absurd h
from_top (fin s m e) y a b l h = absurd h
from_top (inf false) nan a b l h = absurd b
from_top (inf false) (inf true) a b l h = absurd l
from_top (inf false) (inf false) a b l h = to_nan tt
from_top (inf false) (fin s m e) a b l h = absurd l

module _ (t : Bool) (n : ℕ) (d : ℤ) where
  finite_over : (s : Bool) (m : ℕ) (e : ℤ) → 0 < n → T (not (lt (fin s m e) (fin t n d))) → T (signed false (sub binary32 (fin s m e) (fin t n d)))
  finite_over s m e N h =
      let r = reached s m e t n d h in
      difference_signed s m e t n d (clear_of_size s t (m * up e) (n * up d) (down e) (down d) (mul-pos N (up_pos d)) (down_pos e) r) r

  pub number_over : (z : Float) → T (not (is_nan z)) → 0 < n → T (not (lt z (fin t n d))) → T (signed false (sub binary32 z (fin t n d)))
  unfolding sub is_nan lt
  number_over nan a N h = absurd a
  number_over (inf true) a N h = absurd h
  number_over (inf false) a N h = tt
  number_over (fin s m e) a N h = finite_over s m e N h

  pub from_finite : (x y : Float) → T (not (is_nan x)) → T (not (is_nan y)) → T (le x y) → 0 < n → T (not (lt x (fin t n d))) → Rising (sub binary32 x (fin t n d)) (sub binary32 y (fin t n d))
  unfolding sub is_nan lt le eq
  from_finite nan y a b l N h = absurd a
  from_finite (inf true) y a b l N h = absurd h
  from_finite (inf false) nan a b l N h = absurd b
  from_finite (inf false) (inf true) a b l N h = absurd l
  from_finite (inf false) (inf false) a b l N h = to_endless tt
  from_finite (inf false) (fin s m e) a b l N h = absurd l
  from_finite (fin s m e) nan a b l N h = absurd b
  from_finite (fin s m e) (inf true) a b l N h = absurd l
  from_finite (fin s m e) (inf false) a b l N h =
      to_endless (signed_plus (sub binary32 (fin s m e) (fin t n d)) (finite_over s m e N h))
  from_finite (fin s m e) (fin s' m' e') a b l N h =
      let r = reached s m e t n d h in
      let k = ordered s m e s' m' e' l in
      differences s m e s' m' e' t n d (clear_of_size s t (m * up e) (n * up d) (down e) (down d) (mul-pos N (up_pos d)) (down_pos e) r)
      (clear_of_size s' t (m' * up e') (n * up d) (down e') (down d) (mul-pos N (up_pos d)) (down_pos e')
      (at_most_then t (n * up d) (down d) s (m * up e) (down e) s' (m' * up e') (down e') (down_pos e) r k)) r k

pub from_threshold : (x y t : Float) → T (not (is_nan x)) → T (not (is_nan y)) → T (le x y) → T (not (is_nan t)) → T (not (lt x t)) → T (not (eq t zero32)) → Rising (sub binary32 x t) (sub binary32 y t)
unfolding is_nan
from_threshold x y nan a b l c h z = absurd c
from_threshold x y (inf true) a b l c h z = from_bottom x y a b
from_threshold x y (inf false) a b l c h z = from_top x y a b l h
from_threshold x y (fin t n d) a b l c h z = from_finite t n d x y a b l (no_zero t n d z) h

-- ---- from a threshold on that the first number is over
positive_sum : (s t : Bool) (a b c : ℕ) → 0 < c → T (lt zero32 (sum binary32 s a (not t) b c)) → upper t b + lower s a < upper s a + lower t b
unfolding sum
positive_sum false false a b c C = go (ltb a b)
  where
    go : (x : Bool) → T (lt zero32 (cond x (round binary32 true (b - a) c) (round binary32 false (a - b) c))) → b + 0 < a + 0
    go true h = absurd (minus_not_above (round binary32 true (b - a) c) (round_signed binary32 true (b - a) c) h)
    go false h = let l = above_some (a - b) c C h in omega arith
positive_sum false true a b c C = λ h. let l = above_some (a + b) c C h in omega arith
positive_sum true false a b c C = λ h. absurd (minus_not_above (round binary32 true (a + b) c) (round_signed binary32 true (a + b) c) h)
positive_sum true true a b c C = go (ltb a b) (ltb b a) (ltb→lt a b) (nltb→le b a)
  where
    go : (x y : Bool) → (T x → a < b) → (T (not y) → a ≤ b) → T (lt zero32 (cond x (round binary32 false (b - a) c) (round binary32 y (a - b) c))) → 0 + a < 0 + b
    go true y k l h = let i = k tt in omega arith
    go false true k l h = absurd (minus_not_above (round binary32 true (a - b) c) (round_signed binary32 true (a - b) c) h)
    go false false k l h = absurd (let i = l tt in let j = above_some (a - b) c C h in omega arith)

-- the gap x - t, above 0, and y - t
pub record Over (a b : Float) : Type 0 where
  pub rising : Rising a b
  pub above : Above b

over_top : {a : Float} → T (plus a) → Over a (inf false)
over_top p = record { rising = to_endless p; above = endless }

module _ (s : Bool) (m : ℕ) (e : ℤ) (t : Bool) (n : ℕ) (d : ℤ) where
  less_by : T (lt zero32 (sub binary32 (fin s m e) (fin t n d))) → Less t (n * up d) (down d) s (m * up e) (down e)
  unfolding sub
  less_by h =
      let l = positive_sum s t (m * up e * down d) (n * up d * down e) (down e * down d) (mul-pos (down_pos e) (down_pos d)) h in
      omega (arith, upper_times s (m * up e) (down d), lower_times t (n * up d) (down e), upper_times t (n * up d) (down e), lower_times s (m * up e) (down d))

  less_clear : Less t (n * up d) (down d) s (m * up e) (down e) → Clear s t
  less_clear h = clear_of_less s t (m * up e) (n * up d) (down e) (down d) h

  less_signed : Less t (n * up d) (down d) s (m * up e) (down e) → T (signed false (sub binary32 (fin s m e) (fin t n d)))
  less_signed h = difference_signed s m e t n d (less_clear h) (let l = h in omega arith)

module _ (s : Bool) (m : ℕ) (e : ℤ) (s' : Bool) (m' : ℕ) (e' : ℤ) (t : Bool) (n : ℕ) (d : ℤ) where
  over_finite : T (le (fin s m e) (fin s' m' e')) → T (lt zero32 (sub binary32 (fin s m e) (fin t n d))) → Over (sub binary32 (fin s m e) (fin t n d)) (sub binary32 (fin s' m' e') (fin t n d))
  over_finite l h =
      let k = less_by s m e t n d h in
      let o = ordered s m e s' m' e' l in
      let k' = less_then t (n * up d) (down d) s (m * up e) (down e) s' (m' * up e') (down e') (down_pos e') k o in
      let r = differences s m e s' m' e' t n d (less_clear s m e t n d k) (less_clear s' m' e' t n d k') (let i = k in omega arith) o in
      record { rising = r; above = above_then r (above _ h) (signed_number false _ (less_signed s' m' e' t n d k')) }

pub over_gap : (x y t : Float) → T (not (is_nan x)) → T (not (is_nan y)) → T (le x y) → T (lt zero32 (sub binary32 x t)) → Over (sub binary32 x t) (sub binary32 y t)
unfolding sub is_nan lt le eq of_bits
over_gap nan y t a b l h = absurd a
over_gap (inf s) y nan a b l h = absurd h
over_gap (fin s m e) y nan a b l h = absurd h
over_gap (inf true) y (inf true) a b l h = absurd h
over_gap (inf true) y (inf false) a b l h = absurd h
over_gap (inf true) y (fin t n d) a b l h = absurd h
over_gap (inf false) y (inf false) a b l h = absurd h
over_gap (fin s m e) y (inf false) a b l h = absurd h
over_gap (inf false) nan (inf true) a b l h = absurd b
over_gap (inf false) (inf true) (inf true) a b l h = absurd l
over_gap (inf false) (inf false) (inf true) a b l h = over_top tt
over_gap (inf false) (fin s m e) (inf true) a b l h = absurd l
over_gap (fin s m e) nan (inf true) a b l h = absurd b
over_gap (fin s m e) (inf true) (inf true) a b l h = absurd l
over_gap (fin s m e) (inf false) (inf true) a b l h = over_top tt
over_gap (fin s m e) (fin s' m' e') (inf true) a b l h = over_top tt
over_gap (inf false) nan (fin t n d) a b l h = absurd b
over_gap (inf false) (inf true) (fin t n d) a b l h = absurd l
over_gap (inf false) (inf false) (fin t n d) a b l h = over_top tt
over_gap (inf false) (fin s m e) (fin t n d) a b l h = absurd l
over_gap (fin s m e) nan (fin t n d) a b l h = absurd b
over_gap (fin s m e) (inf true) (fin t n d) a b l h = absurd l
over_gap (fin s m e) (inf false) (fin t n d) a b l h = over_top (signed_plus (sub binary32 (fin s m e) (fin t n d)) (less_signed s m e t n d (less_by s m e t n d h)))
over_gap (fin s m e) (fin s' m' e') (fin t n d) a b l h = over_finite s m e s' m' e' t n d l h
