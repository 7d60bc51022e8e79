-- Finite numbers of either sign over two denominators: their order without signs, and their difference as one fraction. Assumes nothing.
use mathlib.Core.Path.{◌≡◌, refl, sym, ap, ◌∙◌}
use mathlib.Core.Bool.{Bool, true, false, not, cond, ◌&&◌, ◌||◌}
use Prim.Native.Nat.{ℕ, ◌+◌, ◌-◌, ◌*◌, ◌≤◌, ◌<◌}
use native.Mathlib.Nat.{le_trans, le_of_eq, zero-mul, mul_comm, mul-sub, mul-le-mul_right, le_of_mul-le-mul_right, mul-lt-mul_of_pos_right, lt_of_mul-lt-mul_right}
use native.Mathlib.Omega.{arith}
use lib.Dec.{T, ltb, eqb, ltb→lt, lt→ltb, nltb→le, eqb→eq, not_T}
use lib.Ieee.{Format, round, sum, below, level}
use lib.Ieee.Fits.{and_l, and_r}

-- A number of sign s and size a is upper s a - lower s a.
abbrev pub upper : Bool → ℕ → ℕ
upper false a = a
upper true a = 0

abbrev pub lower : Bool → ℕ → ℕ
lower false a = 0
lower true a = a

pub upper_times : (s : Bool) (a q : ℕ) → upper s (a * q) ≡ upper s a * q
upper_times false a q = refl
upper_times true a q = sym (zero-mul q)

pub lower_times : (s : Bool) (a q : ℕ) → lower s (a * q) ≡ lower s a * q
lower_times false a q = sym (zero-mul q)
lower_times true a q = refl

-- ---- the library's comparisons, on sizes
below_is : (s t : Bool) (a b : ℕ) → T (below s a t b) → upper s a + lower t b < upper t b + lower s a
below_is false false a b h = let l = ltb→lt a b h in omega arith
below_is false true a b h = absurd h
below_is true false a b h = let l = ltb→lt 0 (a + b) h in omega arith
below_is true true a b h = let l = ltb→lt b a h in omega arith

is_below : (s t : Bool) (a b : ℕ) → upper s a + lower t b < upper t b + lower s a → T (below s a t b)
is_below false false a b h = lt→ltb a b (omega arith)
is_below false true a b h = absurd (omega arith)
is_below true false a b h = lt→ltb 0 (a + b) (omega arith)
is_below true true a b h = lt→ltb b a (omega arith)

not_below_is : (s t : Bool) (a b : ℕ) → T (not (below s a t b)) → upper t b + lower s a ≤ upper s a + lower t b
not_below_is false false a b h = let l = nltb→le a b h in omega arith
not_below_is false true a b h = omega arith
not_below_is true false a b h = let l = nltb→le 0 (a + b) h in omega arith
not_below_is true true a b h = let l = nltb→le b a h in omega arith

level_is : (s t : Bool) (a b : ℕ) → T (level s a t b) → upper s a + lower t b ≤ upper t b + lower s a
level_is false false a b h = let l = eqb→eq a b (and_l (eqb a b) true h) in omega arith
level_is false true a b h = let l = eqb→eq a b (and_l (eqb a b) (eqb a 0) h) in let z = eqb→eq a 0 (and_r (eqb a b) (eqb a 0) h) in omega arith
level_is true false a b h = omega arith
level_is true true a b h = let l = eqb→eq a b (and_l (eqb a b) true h) in omega arith

-- ---- ±a / p and ±b / q
module _ (s : Bool) (a p : ℕ) (t : Bool) (b q : ℕ) where
  -- the first is at most the second, and below it
  abbrev pub AtMost : Type 0
  AtMost = upper s a * q + lower t b * p ≤ upper t b * p + lower s a * q

  abbrev pub Less : Type 0
  Less = upper s a * q + lower t b * p < upper t b * p + lower s a * q

  pub less : T (below s (a * q) t (b * p)) → Less
  less h = let l = below_is s t (a * q) (b * p) h in omega (arith, upper_times s a q, lower_times t b p, upper_times t b p, lower_times s a q)

  pub is_less : Less → T (below s (a * q) t (b * p))
  is_less h = is_below s t (a * q) (b * p) (omega (arith, upper_times s a q, lower_times t b p, upper_times t b p, lower_times s a q))

  pub at_most : T (below s (a * q) t (b * p) || level s (a * q) t (b * p)) → AtMost
  at_most h = go (below s (a * q) t (b * p)) less (λ k. equal k) h
    where
      equal : T (level s (a * q) t (b * p)) → AtMost
      equal k = let l = level_is s t (a * q) (b * p) k in omega (arith, upper_times s a q, lower_times t b p, upper_times t b p, lower_times s a q)

      go : (c : Bool) → (T c → Less) → (T (level s (a * q) t (b * p)) → AtMost) → T (c || level s (a * q) t (b * p)) → AtMost
      go true f g k = let l = f tt in omega arith
      go false f g k = g k

-- the second is at least the first
module _ (s : Bool) (a p : ℕ) (t : Bool) (b q : ℕ) where
  pub at_least : T (not (below s (a * q) t (b * p))) → AtMost t b q s a p
  at_least h = let l = not_below_is s t (a * q) (b * p) h in omega (arith, upper_times s a q, lower_times t b p, upper_times t b p, lower_times s a q)

  pub is_at_least : AtMost t b q s a p → T (not (below s (a * q) t (b * p)))
  is_at_least h = not_T (below s (a * q) t (b * p)) (λ k. let l = less s a p t b q k in omega arith)

-- ---- three of them
module _ (s : Bool) (a p : ℕ) (t : Bool) (b q : ℕ) (u : Bool) (c r : ℕ) where
  pub at_most_then : 0 < q → AtMost s a p t b q → AtMost t b q u c r → AtMost s a p u c r
  at_most_then Q h k = onwards (upper s a) (lower s a) (upper t b) (lower t b) (upper u c) (lower u c) p q r Q h k
    where
      onwards : (xp xm yp ym zp zm dx dy dz : ℕ) → 0 < dy → xp * dy + ym * dx ≤ yp * dx + xm * dy → yp * dz + zm * dy ≤ zp * dy + ym * dz → xp * dz + zm * dx ≤ zp * dx + xm * dz
      onwards xp xm yp ym zp zm dx dy dz D h k =
          let i : (xp * dy + ym * dx) * dz ≤ (yp * dx + xm * dy) * dz = mul-le-mul_right dz h in
          let j : (yp * dz + zm * dy) * dx ≤ (zp * dy + ym * dz) * dx = mul-le-mul_right dx k in
          le_of_mul-le-mul_right (let l : (xp * dz + zm * dx) * dy ≤ (zp * dx + xm * dz) * dy = omega arith in l) D

  pub less_then : 0 < r → Less s a p t b q → AtMost t b q u c r → Less s a p u c r
  less_then R h k = onwards (upper s a) (lower s a) (upper t b) (lower t b) (upper u c) (lower u c) p q r R h k
    where
      onwards : (xp xm yp ym zp zm dx dy dz : ℕ) → 0 < dz → xp * dy + ym * dx < yp * dx + xm * dy → yp * dz + zm * dy ≤ zp * dy + ym * dz → xp * dz + zm * dx < zp * dx + xm * dz
      onwards xp xm yp ym zp zm dx dy dz D h k =
          let i : (xp * dy + ym * dx) * dz < (yp * dx + xm * dy) * dz = mul-lt-mul_of_pos_right h D in
          let j : (yp * dz + zm * dy) * dx ≤ (zp * dy + ym * dz) * dx = mul-le-mul_right dx k in
          lt_of_mul-lt-mul_right dy (let l : (xp * dz + zm * dx) * dy < (zp * dx + xm * dz) * dy = omega arith in l)

  pub then_less : 0 < p → AtMost s a p t b q → Less t b q u c r → Less s a p u c r
  then_less P h k = onwards (upper s a) (lower s a) (upper t b) (lower t b) (upper u c) (lower u c) p q r P h k
    where
      onwards : (xp xm yp ym zp zm dx dy dz : ℕ) → 0 < dx → xp * dy + ym * dx ≤ yp * dx + xm * dy → yp * dz + zm * dy < zp * dy + ym * dz → xp * dz + zm * dx < zp * dx + xm * dz
      onwards xp xm yp ym zp zm dx dy dz D h k =
          let i : (xp * dy + ym * dx) * dz ≤ (yp * dx + xm * dy) * dz = mul-le-mul_right dz h in
          let j : (yp * dz + zm * dy) * dx < (zp * dy + ym * dz) * dx = mul-lt-mul_of_pos_right k D in
          lt_of_mul-lt-mul_right dy (let l : (xp * dz + zm * dx) * dy < (zp * dx + xm * dz) * dy = omega arith in l)

-- ---- a difference
-- ±a / p less ±b / q, the first being at least the second, over p * q
abbrev pub gap : Bool → ℕ → ℕ → Bool → ℕ → ℕ → ℕ
gap s a p t b q = upper s a * q + lower t b * p - (upper t b * p + lower s a * q)

-- The first has no minus where the second has none: -0 less 0 is -0.
abbrev pub Clear : Bool → Bool → Type 0
Clear s t = T (not (s && not t))

sum_is : (f : Format) (s t : Bool) (a b c : ℕ) → Clear s t → upper t b + lower s a ≤ upper s a + lower t b → sum f s a (not t) b c ≡ round f false (upper s a + lower t b - (upper t b + lower s a)) c
unfolding sum
sum_is f false false a b c C h = go (ltb a b) (ltb→lt a b)
  where
    go : (x : Bool) → (T x → a < b) → cond x (round f true (b - a) c) (round f false (a - b) c) ≡ round f false (a + 0 - (b + 0)) c
    go true k = absurd (let l = k tt in omega arith)
    go false k = ap (λ (n : ℕ). round f false n c) (omega arith)
sum_is f false true a b c C h = ap (λ (n : ℕ). round f false n c) (omega arith)
sum_is f true false a b c C h = absurd C
sum_is f true true a b c C h = go (ltb a b) (ltb b a) (nltb→le a b) (ltb→lt b a)
  where
    go : (x y : Bool) → (T (not x) → b ≤ a) → (T y → b < a) → cond x (round f false (b - a) c) (round f y (a - b) c) ≡ round f false (0 + b - (0 + a)) c
    go true y k l = ap (λ (n : ℕ). round f false n c) (omega arith)
    go false true k l = absurd (let m = l tt in omega arith)
    go false false k l = let m = k tt in ap (λ (n : ℕ). round f false n c) (omega arith)

module _ (s : Bool) (a p : ℕ) (t : Bool) (b q : ℕ) where
  pub difference : (f : Format) → Clear s t → AtMost t b q s a p → sum f s (a * q) (not t) (b * p) (p * q) ≡ round f false (gap s a p t b q) (p * q)
  difference f C h =
      sum_is f s t (a * q) (b * p) (p * q) C (omega (arith, upper_times s a q, lower_times t b p, upper_times t b p, lower_times s a q))
      ∙ ap (λ (n : ℕ). round f false n (p * q)) (omega (arith, upper_times s a q, lower_times t b p, upper_times t b p, lower_times s a q))

-- A larger first number has the larger gap.
pub gap_rises : (s : Bool) (a p : ℕ) (s' : Bool) (a' p' : ℕ) (t : Bool) (b q : ℕ) → AtMost s a p s' a' p' → gap s a p t b q * (p' * q) ≤ gap s' a' p' t b q * (p * q)
gap_rises s a p s' a' p' t b q k = grows (upper s a) (lower s a) (upper s' a') (lower s' a') (upper t b) (lower t b) p p' q k
  where
    grows : (xp xm yp ym zp zm dx dy dz : ℕ) → xp * dy + ym * dx ≤ yp * dx + xm * dy
        → (xp * dz + zm * dx - (zp * dx + xm * dz)) * (dy * dz) ≤ (yp * dz + zm * dy - (zp * dy + ym * dz)) * (dx * dz)
    grows xp xm yp ym zp zm dx dy dz k =
        let i : (xp * dy + ym * dx) * (dz * dz) ≤ (yp * dx + xm * dy) * (dz * dz) = mul-le-mul_right (dz * dz) k in
        let l : (xp * dz + zm * dx - (zp * dx + xm * dz)) * (dy * dz) ≡ dy * dz * (xp * dz + zm * dx) - dy * dz * (zp * dx + xm * dz) =
        mul_comm (xp * dz + zm * dx - (zp * dx + xm * dz)) (dy * dz) ∙ mul-sub (dy * dz) (xp * dz + zm * dx) (zp * dx + xm * dz) in
        let r : (yp * dz + zm * dy - (zp * dy + ym * dz)) * (dx * dz) ≡ dx * dz * (yp * dz + zm * dy) - dx * dz * (zp * dy + ym * dz) =
        mul_comm (yp * dz + zm * dy - (zp * dy + ym * dz)) (dx * dz) ∙ mul-sub (dx * dz) (yp * dz + zm * dy) (zp * dy + ym * dz) in
        le_trans (le_of_eq l) (le_trans (omega arith) (le_of_eq (sym r)))
