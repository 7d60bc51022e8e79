-- How often a number stands in a list. Assumes nothing.
use mathlib.Core.Path.{◌≡◌, refl, sym, ap, ◌∙◌}
use mathlib.Core.Logic.{◌≢◌}
use mathlib.Core.Bool.{Bool, true, false, cond, ◌&&◌}
use mathlib.Core.List.{List, [], ◌∷◌, ◌++◌, map}
use Prim.Native.Nat.{ℕ, zero, suc, ◌+◌, ◌≤◌, ◌<◌}
use native.Mathlib.Omega.{arith}
use lib.Dec.{eqb}
use lib.ListN.{length}
use borrow.Author.Tests.{eqb-true, eqb-false, eq-eqb, ne_eqb}
use Rattle.record_pool.specs.Lists.{same, occ, every, distinct, down_from}

-- ---- two numbers.
-- Either the same, or not.
pub data Either (x i : ℕ) : Type 0 where
  equal : x ≡ i → same x i ≡ 1 → Either x i
  other : x ≢ i → same x i ≡ 0 → Either x i

pub either : (x i : ℕ) → Either x i
unfolding same
either x i = go (eqb x i) refl
  where
    go : (b : Bool) → eqb x i ≡ b → Either x i
    go true e = equal (eqb-true x i e) (ap (λ (b : Bool). cond b 1 0) e)
    go false e = other (eqb-false x i e) (ap (λ (b : Bool). cond b 1 0) e)

pub same_refl : (x : ℕ) → same x x ≡ 1
unfolding same
same_refl x = ap (λ (b : Bool). cond b 1 0) (eq-eqb x x refl)

pub same_other : (x i : ℕ) → x ≢ i → same x i ≡ 0
unfolding same
same_other x i n = ap (λ (b : Bool). cond b 1 0) (ne_eqb x i n)

pub same_le : (x i : ℕ) → same x i ≤ 1
same_le x i = go (either x i)
  where
    go : Either x i → same x i ≤ 1
    go (equal p e) = omega arith
    go (other p e) = omega arith

-- ---- lists.
pub occ_append : (i : ℕ) (xs ys : List ℕ) → occ i (xs ++ ys) ≡ occ i xs + occ i ys
occ_append i [] ys = omega arith
occ_append i (x ∷ xs) ys = omega (arith, occ_append i xs ys)

-- Where a number that is there stands.
pub split : (i : ℕ) (xs : List ℕ) → 0 < occ i xs → (ys : List ℕ) × (zs : List ℕ) × (xs ≡ ys ++ i ∷ zs)
split i [] h = absurd (omega arith)
split i (x ∷ xs) h = go (either x i) (λ (k : 0 < occ i xs). split i xs k)
  where
    go : Either x i → (0 < occ i xs → (ys : List ℕ) × (zs : List ℕ) × (xs ≡ ys ++ i ∷ zs)) → (ys : List ℕ) × (zs : List ℕ) × (x ∷ xs ≡ ys ++ i ∷ zs)
    go (equal p e) rest = ([], xs, ap (λ (n : ℕ). n ∷ xs) p)
    go (other p e) rest = let s = rest (omega arith) in (x ∷ s.0, s.1, ap (λ (l : List ℕ). x ∷ l) s.2)

-- A number that stands in a list has its image in the list of images.
pub occ_map : (f : ℕ → ℕ) (i : ℕ) (xs : List ℕ) → 0 < occ i xs → 0 < occ (f i) (map f xs)
occ_map f i [] h = absurd (omega arith)
occ_map f i (x ∷ xs) h = go (either x i) (λ (k : 0 < occ i xs). occ_map f i xs k)
  where
    go : Either x i → (0 < occ i xs → 0 < occ (f i) (map f xs)) → 0 < same (f x) (f i) + occ (f i) (map f xs)
    go (equal p e) rest = omega (arith, ap (λ (n : ℕ). same (f n) (f i)) p, same_refl (f i))
    go (other p e) rest = omega (arith, rest (omega arith))

-- Two functions that agree on a list's elements have the same images.
pub map_agree : (f g : ℕ → ℕ) (xs : List ℕ) → ((i : ℕ) → 0 < occ i xs → f i ≡ g i) → map f xs ≡ map g xs
map_agree f g [] h = refl
map_agree f g (x ∷ xs) h =
    λ j. h x (omega (arith, same_refl x)) j ∷ map_agree f g xs (λ i k. h i (omega arith)) j

-- ---- tests of every element.
pub and_left : (a b : Bool) → a && b ≡ true → a ≡ true
and_left true b h = refl
and_left false b h = h

pub and_right : (a b : Bool) → a && b ≡ true → b ≡ true
and_right true b h = h
and_right false b h = absurd (false_true h)
  where
    false_true : false ≡ true → ⊥
    false_true e = let z : ◌≡◌ {A = ℕ} 0 1 = cc in omega arith

pub and_both : (a b : Bool) → a ≡ true → b ≡ true → a && b ≡ true
and_both a b p q = rw (p, q)

pub every_true : (f : ℕ → Bool) (xs : List ℕ) → every f xs ≡ true → (i : ℕ) → 0 < occ i xs → f i ≡ true
every_true f [] h i k = absurd (omega arith)
every_true f (x ∷ xs) h i k = go (either x i) (λ (k : 0 < occ i xs). every_true f xs (and_right (f x) (every f xs) h) i k)
  where
    go : Either x i → (0 < occ i xs → f i ≡ true) → f i ≡ true
    go (equal p e) rest = sym (ap f p) ∙ and_left (f x) (every f xs) h
    go (other p e) rest = rest (omega arith)

pub true_every : (f : ℕ → Bool) (xs : List ℕ) → ((i : ℕ) → 0 < occ i xs → f i ≡ true) → every f xs ≡ true
true_every f [] h = refl
true_every f (x ∷ xs) h = and_both (f x) (every f xs) (h x (omega (arith, same_refl x))) (true_every f xs (λ i k. h i (omega arith)))

pub distinct_once : (xs : List ℕ) → distinct xs ≡ true → (i : ℕ) → occ i xs ≤ 1
distinct_once [] h i = omega arith
distinct_once (x ∷ xs) h i = go (either x i) (distinct_once xs (and_right (eqb (occ x xs) 0) (distinct xs) h) i)
  where
    go : Either x i → occ i xs ≤ 1 → same x i + occ i xs ≤ 1
    go (equal p e) rest = let z : occ x xs ≡ 0 = eqb-true _ _ (and_left (eqb (occ x xs) 0) (distinct xs) h) in omega (arith, ap (λ (n : ℕ). occ n xs) p)
    go (other p e) rest = omega arith

pub once_distinct : (xs : List ℕ) → ((i : ℕ) → occ i xs ≤ 1) → distinct xs ≡ true
once_distinct [] h = refl
once_distinct (x ∷ xs) h =
    and_both (eqb (occ x xs) 0) (distinct xs) (eq-eqb (occ x xs) 0 (omega (arith, h x, same_refl x))) (once_distinct xs (λ i. omega (arith, h i)))

-- ---- the numbers from 1 to n.
pub down_has : (n i : ℕ) → 1 ≤ i → i ≤ n → 0 < occ i (down_from n)
down_has zero i h k = absurd (omega arith)
down_has (suc n) i h k = go (either (suc n) i) (λ (l : i ≤ n). down_has n i h l)
  where
    go : Either (suc n) i → (i ≤ n → 0 < occ i (down_from n)) → 0 < same (suc n) i + occ i (down_from n)
    go (equal p e) rest = omega arith
    go (other p e) rest = omega (arith, rest (omega arith))

pub down_within : (n i : ℕ) → 0 < occ i (down_from n) → (1 ≤ i) × (i ≤ n)
down_within zero i h = absurd (omega arith)
down_within (suc n) i h = go (either (suc n) i) (λ (k : 0 < occ i (down_from n)). down_within n i k)
  where
    go : Either (suc n) i → (0 < occ i (down_from n) → (1 ≤ i) × (i ≤ n)) → (1 ≤ i) × (i ≤ suc n)
    go (equal p e) rest = omega arith
    go (other p e) rest = let r = rest (omega arith) in omega arith

-- ---- a list of numbers from 1 to n, each at most once, has at most n elements.
abbrev sum_to : ℕ → List ℕ → ℕ
sum_to zero xs = 0
sum_to (suc n) xs = sum_to n xs + occ (suc n) xs

sum_nil : (n : ℕ) → sum_to n [] ≡ 0
sum_nil zero = refl
sum_nil (suc n) = omega (arith, sum_nil n)

sum_above : (n x : ℕ) (xs : List ℕ) → n < x → sum_to n (x ∷ xs) ≡ sum_to n xs
sum_above zero x xs h = refl
sum_above (suc n) x xs h = omega (arith, sum_above n x xs (omega arith), same_other x (suc n) (λ e. omega arith))

sum_cons : (n x : ℕ) (xs : List ℕ) → 1 ≤ x → x ≤ n → sum_to n (x ∷ xs) ≡ suc (sum_to n xs)
sum_cons zero x xs h k = absurd (omega arith)
sum_cons (suc n) x xs h k = go (either x (suc n)) (λ (l : x ≤ n). sum_cons n x xs h l)
  where
    go : Either x (suc n) → (x ≤ n → sum_to n (x ∷ xs) ≡ suc (sum_to n xs)) → sum_to n (x ∷ xs) + (same x (suc n) + occ (suc n) xs) ≡ suc (sum_to n xs + occ (suc n) xs)
    go (equal p e) rest = omega (arith, sum_above n x xs (omega arith))
    go (other p e) rest = omega (arith, rest (omega arith))

sum_length : (n : ℕ) (xs : List ℕ) → ((i : ℕ) → 0 < occ i xs → (1 ≤ i) × (i ≤ n)) → sum_to n xs ≡ length xs
sum_length n [] h = sum_nil n
sum_length n (x ∷ xs) h =
    let w = h x (omega (arith, same_refl x)) in
    omega (arith, sum_cons n x xs w.0 w.1, sum_length n xs (λ i k. h i (omega arith)))

sum_le : (n : ℕ) (xs : List ℕ) → ((i : ℕ) → occ i xs ≤ 1) → sum_to n xs ≤ n
sum_le zero xs h = omega arith
sum_le (suc n) xs h = omega (arith, sum_le n xs h, h (suc n))

pub at_most : (n : ℕ) (xs : List ℕ) → ((i : ℕ) → 0 < occ i xs → (1 ≤ i) × (i ≤ n)) → ((i : ℕ) → occ i xs ≤ 1) → length xs ≤ n
at_most n xs within once = omega (arith, sum_length n xs within, sum_le n xs once)

-- With n of them each number from 1 to n is there.
sum_short : (n : ℕ) (xs : List ℕ) → ((i : ℕ) → occ i xs ≤ 1) → (i : ℕ) → 1 ≤ i → i ≤ n → occ i xs ≡ 0 → sum_to n xs < n
sum_short zero xs h i a b z = absurd (omega arith)
sum_short (suc n) xs h i a b z = go (either (suc n) i) (λ (q : i ≤ n). sum_short n xs h i a q z)
  where
    go : Either (suc n) i → (i ≤ n → sum_to n xs < n) → sum_to n xs + occ (suc n) xs < suc n
    go (equal p e) rest = omega (arith, sum_le n xs h, ap (λ (m : ℕ). occ m xs) p)
    go (other p e) rest = omega (arith, rest (omega arith), h (suc n))

pub sum_full : (n : ℕ) (xs : List ℕ) → ((i : ℕ) → 0 < occ i xs → (1 ≤ i) × (i ≤ n)) → ((i : ℕ) → occ i xs ≤ 1) → length xs ≡ n
    → (i : ℕ) → 1 ≤ i → i ≤ n → occ i xs ≡ 1
sum_full n xs within once l i a b = go (occ i xs) refl
  where
    go : (k : ℕ) → occ i xs ≡ k → occ i xs ≡ 1
    go zero e = absurd (omega (arith, sum_short n xs once i a b e, sum_length n xs within))
    go (suc k) e = omega (arith, once i)

-- And the other way round.
sum_all : (n : ℕ) (xs : List ℕ) → ((i : ℕ) → 1 ≤ i → i ≤ n → occ i xs ≡ 1) → sum_to n xs ≡ n
sum_all zero xs h = refl
sum_all (suc n) xs h = omega (arith, sum_all n xs (λ i a b. h i a (omega arith)), h (suc n) (omega arith) (omega arith))

pub full_length : (n : ℕ) (xs : List ℕ) → ((i : ℕ) → 0 < occ i xs → (1 ≤ i) × (i ≤ n)) → ((i : ℕ) → 1 ≤ i → i ≤ n → occ i xs ≡ 1) → length xs ≡ n
full_length n xs within all = sym (sum_length n xs within) ∙ sum_all n xs all
