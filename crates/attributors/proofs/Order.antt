-- `<=` on floats is transitive, and of two floats that are not NaN one is `<=` the other. Assumes nothing.
use mathlib.Core.Path.{◌≡◌, refl, sym, ap, ◌∙◌}
use mathlib.Core.Bool.{Bool, true, false, not, ◌&&◌, ◌||◌, beq}
use mathlib.Core.Logic.{◌⊎◌, inl, inr}
use Prim.Native.Nat.{ℕ, zero, suc, ◌+◌, ◌*◌, ◌<◌, ◌≤◌}
use native.Mathlib.Nat.{le-mul_of_pos_right, le_of_mul-le-mul_right, mul-le-mul_right, mul_right_comm, zero-mul, le_refl, le_trans, le_of_eq, le_of_lt, eq-or-lt_of_le}
use native.Mathlib.Omega.{arith}
use borrow.Author.Tests.{leb-true, leb-false}
use lib.Dec.{T, leb, ltb, eqb, ltb→lt, lt→ltb, eqb→eq, eqb_refl}
use lib.Ieee.Fits.{and_i, and_l, and_r, down_pos}
use lib.Ieee.{Float, nan, inf, fin, up, down, below, level, lt, eq, le}

pub holds : (t : Bool) → t ≡ true → T t
holds true e = tt
holds false e = let z : ◌≡◌ {A = ℕ} 0 1 = cc in absurd (omega arith)

pub held : (t : Bool) → T t → t ≡ true
held true h = refl
held false h = absurd h

either : (t u : Bool) → T (t || u) → T t ⊎ T u
either true u h = inl tt
either false u h = inr h

or_l : (t u : Bool) → T t → T (t || u)
or_l true u h = tt
or_l false u h = absurd h

or_r : (t u : Bool) → T u → T (t || u)
or_r true u h = tt
or_r false u h = h

same : (a b : ℕ) → a ≡ b → T (eqb a b)
same a b e = rw e (eqb_refl b)

-- ±a ≤ ±b
abbrev within : Bool → ℕ → Bool → ℕ → Bool
within s a t b = below s a t b || level s a t b

module _ (a b : ℕ) where
  ups : T (within false a false b) → a ≤ b
  ups h = elim (either (ltb a b) (eqb a b && true) h) [ inl p ↦ le_of_lt (ltb→lt a b p) | inr p ↦ le_of_eq (eqb→eq a b (and_l (eqb a b) true p)) ]

  downs : T (within true a true b) → b ≤ a
  downs h = elim (either (ltb b a) (eqb a b && true) h) [ inl p ↦ le_of_lt (ltb→lt b a p) | inr p ↦ le_of_eq (sym (eqb→eq a b (and_l (eqb a b) true p))) ]

  zeros : T (within false a true b) → (a ≡ 0) × (b ≡ 0)
  zeros h =
      let p = eqb→eq a b (and_l (eqb a b) (eqb a 0) h) in
      let q = eqb→eq a 0 (and_r (eqb a b) (eqb a 0) h) in
      (q, sym p ∙ q)

  of_ups : a ≤ b → T (within false a false b)
  of_ups h = elim (eq-or-lt_of_le h) [ inl p ↦ or_r (ltb a b) (eqb a b && true) (and_i (eqb a b) true (same a b p) tt) | inr p ↦ or_l (ltb a b) (eqb a b && true) (lt→ltb a b p) ]

  of_downs : b ≤ a → T (within true a true b)
  of_downs h = elim (eq-or-lt_of_le h) [ inl p ↦ or_r (ltb b a) (eqb a b && true) (and_i (eqb a b) true (same a b (sym p)) tt) | inr p ↦ or_l (ltb b a) (eqb a b && true) (lt→ltb b a p) ]

  of_zeros : a ≡ 0 → b ≡ 0 → T (within false a true b)
  of_zeros p q = and_i (eqb a b) (eqb a 0) (same a b (p ∙ sym q)) (same a 0 p)

below_all : (a b : ℕ) → T (within true a false b)
below_all zero zero = tt
below_all zero (suc b) = or_l (ltb 0 (zero + suc b)) _ (lt→ltb 0 (zero + suc b) (omega arith))
below_all (suc a) b = or_l (ltb 0 (suc a + b)) _ (lt→ltb 0 (suc a + b) (omega arith))

chain : (x y z a b c : ℕ) → 0 < b → x * b ≤ y * a → y * c ≤ z * b → x * c ≤ z * a
chain x y z a b c B p q =
    le_of_mul-le-mul_right
    (le_trans (le_of_eq (mul_right_comm x c b))
    (le_trans (mul-le-mul_right c p)
    (le_trans (le_of_eq (mul_right_comm y a c))
    (le_trans (mul-le-mul_right a q) (le_of_eq (mul_right_comm z b a)))))) B

-- A factor is 0 where the product with a positive number is.
factor : (x b : ℕ) → 0 < b → x * b ≤ 0 → x ≡ 0
factor x b B h = let l = le-mul_of_pos_right x B in omega arith

nothing : (x c : ℕ) → x ≡ 0 → x * c ≡ 0
nothing x c e = ap (λ (n : ℕ). n * c) e ∙ zero-mul c

-- By the magnitudes x / a, y / b, z / c and their signs.
fractions : (s t u : Bool) (x y z a b c : ℕ) → 0 < a → 0 < b → 0 < c → T (within s (x * b) t (y * a)) → T (within t (y * c) u (z * b)) → T (within s (x * c) u (z * a))
fractions false false false x y z a b c A B C p q = of_ups (x * c) (z * a) (chain x y z a b c B (ups (x * b) (y * a) p) (ups (y * c) (z * b) q))
fractions true true true x y z a b c A B C p q = of_downs (x * c) (z * a) (chain z y x c b a B (downs (y * c) (z * b) q) (downs (x * b) (y * a) p))
fractions true t false x y z a b c A B C p q = below_all (x * c) (z * a)
fractions false false true x y z a b c A B C p q =
    let h = zeros (y * c) (z * b) q in
    let y0 = factor y c C (le_of_eq h.0) in
    let x0 = factor x b B (le_trans (ups (x * b) (y * a) p) (le_of_eq (nothing y a y0))) in
    of_zeros (x * c) (z * a) (nothing x c x0) (nothing z a (factor z b B (le_of_eq h.1)))
fractions false true false x y z a b c A B C p q =
    let e = nothing x c (factor x b B (le_of_eq (zeros (x * b) (y * a) p).0)) in
    of_ups (x * c) (z * a) (omega arith)
fractions false true true x y z a b c A B C p q =
    let h = zeros (x * b) (y * a) p in
    let y0 = factor y a A (le_of_eq h.1) in
    let z0 = factor z b B (le_trans (downs (y * c) (z * b) q) (le_of_eq (nothing y c y0))) in
    of_zeros (x * c) (z * a) (nothing x c (factor x b B (le_of_eq h.0))) (nothing z a z0)
fractions true false true x y z a b c A B C p q =
    let e = nothing z a (factor z b B (le_of_eq (zeros (y * c) (z * b) q).1)) in
    of_downs (x * c) (z * a) (omega arith)

-- ±infinity ≤ ±infinity
abbrev infinities : Bool → Bool → Bool
infinities s t = (s && not t) || beq s t

three : (s t u : Bool) → T (infinities s t) → T (infinities t u) → T (infinities s u)
three true t true p q = tt
three true t false p q = tt
three false false u p q = q
three false true u p q = absurd p

first_two : (s t : Bool) → T (infinities s t) → T (t || false) → T (s || false)
first_two true t p q = tt
first_two false false p q = absurd q
first_two false true p q = absurd p

outer_two : (s u : Bool) → T (s || false) → T (not u || false) → T (infinities s u)
outer_two true true p q = tt
outer_two true false p q = tt
outer_two false u p q = absurd p

last_two : (t u : Bool) → T (not t || false) → T (infinities t u) → T (not u || false)
last_two t false p q = tt
last_two true true p q = absurd p
last_two false true p q = absurd q

never : (t : Bool) → T (not t || false) → T (t || false) → ⊥
never true p q = p
never false p q = q

pub transitive : (x y z : Float) → T (le x y) → T (le y z) → T (le x z)
unfolding le lt eq
transitive nan y z p q = absurd p
transitive (inf s) nan z p q = absurd p
transitive (inf s) (inf t) nan p q = absurd q
transitive (inf s) (inf t) (inf u) p q = three s t u p q
transitive (inf s) (inf t) (fin u o f) p q = first_two s t p q
transitive (inf s) (fin t n d) nan p q = absurd q
transitive (inf s) (fin t n d) (inf u) p q = outer_two s u p q
transitive (inf s) (fin t n d) (fin u o f) p q = p
transitive (fin s m e) nan z p q = absurd p
transitive (fin s m e) (inf t) nan p q = absurd q
transitive (fin s m e) (inf t) (inf u) p q = last_two t u p q
transitive (fin s m e) (inf t) (fin u o f) p q = absurd (never t p q)
transitive (fin s m e) (fin t n d) nan p q = absurd q
transitive (fin s m e) (fin t n d) (inf u) p q = q
transitive (fin s m e) (fin t n d) (fin u o f) p q =
    fractions s t u (m * up e) (n * up d) (o * up f) (down e) (down d) (down f) (down_pos e) (down_pos d) (down_pos f) p q

same_sign : (t : Bool) → T (infinities t t)
same_sign true = tt
same_sign false = tt

itself : (t : Bool) (n : ℕ) → T (within t n t n)
itself true n = of_downs n n (le_refl n)
itself false n = of_ups n n (le_refl n)

-- What is `>=` anything is `>=` itself.
pub reflexive : (x y : Float) → T (le x y) → T (le y y)
unfolding le lt eq
reflexive nan y h = absurd h
reflexive (inf s) nan h = absurd h
reflexive (fin s m e) nan h = absurd h
reflexive (inf s) (inf t) h = same_sign t
reflexive (fin s m e) (inf t) h = same_sign t
reflexive (inf s) (fin t n d) h = itself t (n * up d * down d)
reflexive (fin s m e) (fin t n d) h = itself t (n * up d * down d)

-- Of two numbers one is `<=` the other.
either_way : (a b : ℕ) → (a ≤ b) ⊎ (b ≤ a)
either_way a b = by_test (leb a b) refl
  where
    by_test : (t : Bool) → leb a b ≡ t → (a ≤ b) ⊎ (b ≤ a)
    by_test true e = inl (leb-true a b e)
    by_test false e = inr (le_of_lt (leb-false a b e))

signed : (s t : Bool) (a b : ℕ) → T (within s a t b) ⊎ T (within t b s a)
signed true false a b = inl (below_all a b)
signed false true a b = inr (below_all b a)
signed false false a b = elim (either_way a b) [ inl p ↦ inl (of_ups a b p) | inr p ↦ inr (of_ups b a p) ]
signed true true a b = elim (either_way a b) [ inl p ↦ inr (of_downs b a p) | inr p ↦ inl (of_downs a b p) ]

above_or_below : (t : Bool) → T (t || false) ⊎ T (not t || false)
above_or_below true = inl tt
above_or_below false = inr tt

pub total : (x y : Float) → (x ≡ nan → ⊥) → (y ≡ nan → ⊥) → T (le x y) ⊎ T (le y x)
unfolding le lt eq
total nan y a b = absurd (a refl)
total (inf s) nan a b = absurd (b refl)
total (fin s m e) nan a b = absurd (b refl)
total (inf true) (inf true) a b = inl tt
total (inf true) (inf false) a b = inl tt
total (inf false) (inf true) a b = inr tt
total (inf false) (inf false) a b = inl tt
total (inf s) (fin t n d) a b = above_or_below s
total (fin s m e) (inf true) a b = inr tt
total (fin s m e) (inf false) a b = inl tt
total (fin s m e) (fin t n d) a b = signed s t (m * up e * down d) (n * up d * down e)
