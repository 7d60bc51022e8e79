-- Comparisons of any values, one after the other. Assumes nothing.
use mathlib.Core.Bool.{Bool, true, false, not, ◌||◌}
use Prim.Native.Nat.{ℕ, ◌*◌, ◌<◌}
use mathlib.Core.Path.{◌≡◌, refl, sym, ap, ◌∙◌, subst}
use native.Mathlib.Nat.{le_of_eq, zero-mul}
use native.Mathlib.Omega.{arith}
use lib.IntN.{ℤ, pos}
use lib.Dec.{T, not_T, T_not}
use lib.Ieee.{Float, nan, inf, fin, up, down, lt, le, eq, below, level, is_nan, of_bits}
use lib.Ieee.Fits.{down_pos}
use Rattle.grading.specs.Const.{zero32}
use Rattle.grade_order.proofs.Signed.{AtMost, less, is_less, at_most, at_least, is_at_least, at_most_then, then_less}

-- what compares is no NaN
pub first_number : (x y : Float) → T (le x y) → T (not (is_nan x))
unfolding le lt eq is_nan
first_number nan y h = absurd h
first_number (inf s) y h = tt
first_number (fin s m e) y h = tt

pub second_number : (x y : Float) → T (le x y) → T (not (is_nan y))
unfolding le lt eq is_nan
second_number nan y h = absurd h
second_number (inf s) nan h = absurd h
second_number (fin s m e) nan h = absurd h
second_number (inf s) (inf t) h = tt
second_number (inf s) (fin t n d) h = tt
second_number (fin s m e) (inf t) h = tt
second_number (fin s m e) (fin t n d) h = tt

or_left : (b c : Bool) → T b → T (b || c)
or_left true c t = tt
or_left false c t = absurd t

or_right : (b c : Bool) → T c → T (b || c)
or_right true c t = tt
or_right false c t = t

pub below_most : (x y : Float) → T (lt x y) → T (le x y)
unfolding le
below_most x y h = or_left (lt x y) (eq x y) h

pub below_number : (x y : Float) → T (lt x y) → T (not (is_nan y))
below_number x y h = second_number x y (below_most x y h)

-- x ≤ y < t
pub before : (x y t : Float) → T (le x y) → T (lt y t) → T (lt x t)
unfolding le lt eq
before nan y t h k = absurd h
before (inf s) nan t h k = absurd h
before (fin s m e) nan t h k = absurd h
before (inf true) (inf true) t h k = k
before (inf true) (inf false) nan h k = absurd k
before (inf true) (inf false) (inf u) h k = absurd k
before (inf true) (inf false) (fin u n d) h k = absurd k
before (inf true) (fin s m e) nan h k = absurd k
before (inf true) (fin s m e) (inf u) h k = k
before (inf true) (fin s m e) (fin u n d) h k = tt
before (inf false) (inf true) t h k = absurd h
before (inf false) (inf false) t h k = k
before (inf false) (fin s m e) t h k = absurd h
before (fin s m e) (inf true) t h k = absurd h
before (fin s m e) (inf false) nan h k = absurd k
before (fin s m e) (inf false) (inf u) h k = absurd k
before (fin s m e) (inf false) (fin u n d) h k = absurd k
before (fin s m e) (fin s' m' e') nan h k = absurd k
before (fin s m e) (fin s' m' e') (inf u) h k = k
before (fin s m e) (fin s' m' e') (fin u n d) h k =
    is_less s (m * up e) (down e) u (n * up d) (down d)
    (then_less s (m * up e) (down e) s' (m' * up e') (down e') u (n * up d) (down d) (down_pos e)
    (at_most s (m * up e) (down e) s' (m' * up e') (down e') h) (less s' (m' * up e') (down e') u (n * up d) (down d) k))

-- x ≤ y, x not below t
pub later : (x y t : Float) → T (le x y) → T (not (lt x t)) → T (not (lt y t))
later x y t l h = not_T (lt y t) (λ k. T_not (lt x t) h (before x y t l k))

-- x not below t, t not below a: a finite, then infinity
pub reaches : (x t : Float) (u : Bool) (n : ℕ) (d : ℤ) → T (not (is_nan t)) → T (not (lt x t)) → T (not (lt t (fin u n d))) → T (not (lt x (fin u n d)))
unfolding lt is_nan
reaches x nan u n d c h k = absurd c
reaches x (inf true) u n d c h k = absurd k
reaches nan (inf false) u n d c h k = tt
reaches (inf true) (inf false) u n d c h k = absurd h
reaches (inf false) (inf false) u n d c h k = tt
reaches (fin s m e) (inf false) u n d c h k = absurd h
reaches nan (fin t p g) u n d c h k = tt
reaches (inf true) (fin t p g) u n d c h k = absurd h
reaches (inf false) (fin t p g) u n d c h k = tt
reaches (fin s m e) (fin t p g) u n d c h k =
    is_at_least s (m * up e) (down e) u (n * up d) (down d)
    (at_most_then u (n * up d) (down d) t (p * up g) (down g) s (m * up e) (down e) (down_pos g)
    (at_least t (p * up g) (down g) u (n * up d) (down d) k) (at_least s (m * up e) (down e) t (p * up g) (down g) h))

pub endless_reached : (x t : Float) → T (not (is_nan t)) → T (not (lt x t)) → T (not (lt t (inf false))) → T (not (lt x (inf false)))
unfolding lt is_nan
endless_reached x nan c h k = absurd c
endless_reached x (inf true) c h k = absurd k
endless_reached x (inf false) c h k = h
endless_reached x (fin t p g) c h k = absurd k

-- no value is below itself
pub not_under_itself : (a : Float) → T (not (lt a a))
unfolding lt
not_under_itself nan = tt
not_under_itself (inf true) = tt
not_under_itself (inf false) = tt
not_under_itself (fin s m e) = is_at_least s (m * up e) (down e) s (m * up e) (down e) (le_of_eq refl)

-- ---- 0 ≤ g ≤ h == 0
zero_is : zero32 ≡ fin false 0 (pos 0)
unfolding of_bits
zero_is = refl

level_zero : (s : Bool) (m : ℕ) (e : ℤ) → m * up e ≡ 0 → T (eq (fin s m e) (fin false 0 (pos 0)))
unfolding eq
level_zero s m e h = subst (λ (a : ℕ). T (level s a false (0 * 1 * down e))) (sym (ap (λ (a : ℕ). a * 1) h ∙ zero-mul 1)) (subst (λ (b : ℕ). T (level s 0 false b)) (sym (zero-mul (down e))) (both s))
  where
    both : (s : Bool) → T (level s 0 false 0)
    both false = tt
    both true = tt

nothing : (s t : Bool) (a p b q : ℕ) → 0 < p → 0 < q → AtMost false 0 1 s a p → AtMost s a p t b q → AtMost t b q false 0 1 → a ≡ 0
nothing s t a p b q P Q h k l = go s (at_most_then s a p t b q false 0 1 Q k l) h
  where
    go : (s : Bool) → AtMost s a p false 0 1 → AtMost false 0 1 s a p → a ≡ 0
    go false i j = omega arith
    go true i j = omega arith

none : (g h : Float) → T (le (fin false 0 (pos 0)) g) → T (le g h) → T (eq h (fin false 0 (pos 0))) → T (eq g (fin false 0 (pos 0)))
unfolding le lt eq
none nan h i j k = absurd i
none (inf true) h i j k = absurd i
none (inf false) nan i j k = absurd j
none (inf false) (inf t) i j k = absurd k
none (inf false) (fin t n d) i j k = absurd j
none (fin s m e) nan i j k = absurd j
none (fin s m e) (inf t) i j k = absurd k
none (fin s m e) (fin t n d) i j k =
    level_zero s m e
    (nothing s t (m * up e) (down e) (n * up d) (down d) (down_pos e) (down_pos d) (at_most false 0 1 s (m * up e) (down e) i) (at_most s (m * up e) (down e) t (n * up d) (down d) j)
    (at_most t (n * up d) (down d) false 0 1 (or_right (below t (n * up d * 1) false (0 * down d)) (level t (n * up d * 1) false (0 * down d)) k)))

pub none_between : (g h : Float) → T (le zero32 g) → T (le g h) → T (eq h zero32) → T (eq g zero32)
none_between g h = subst (λ (z : Float). T (le z g) → T (le g h) → T (eq h z) → T (eq g z)) (sym zero_is) (none g h)
