-- Numbers held once. Assumes nothing.
use mathlib.Core.Path.{◌≡◌, refl, sym, ap, ◌∙◌}
use mathlib.Core.Logic.{◌≢◌}
use mathlib.Core.Bool.{Bool, true, false, cond, not, ◌||◌}
use Rattle.std.specs.List.{list_any}
use mathlib.Core.List.{List, [], ◌∷◌}
use Prim.Native.Nat.{ℕ, zero, suc, ◌+◌, ◌%◌, ◌≤◌, ◌<◌}
use native.Mathlib.Nat.{mod-lt, le_antisymm}
use native.Mathlib.Numerals.{add-one}
use native.Mathlib.Omega.{arith}
use lib.Dec.{eqb}
use lib.ListN.{length, get_or, take, set}
use lib.Seq.{take-suc, get_or-set_same, get_or-set_other}
use borrow.Author.Tests.{eqb-true, eq-eqb, ne_eqb}
use Rattle.record_pool.specs.Lists.{same, occ, distinct}
use Rattle.record_pool.specs.Steps.{is_before, is_taken}
use Rattle.record_pool.proofs.Occ.{Either, equal, other, either, same_refl, occ_append, distinct_once, once_distinct}
use Rattle.record_pool.proofs.Walking.{refuted, not_both}

pub occ_take_le : (j k n : ℕ) (l : List ℕ) → k ≤ n → occ j (take k l) ≤ occ j (take n l)
occ_take_le j zero n l h = omega arith
occ_take_le j (suc k) zero l h = absurd (omega arith)
occ_take_le j (suc k) (suc n) [] h = omega arith
occ_take_le j (suc k) (suc n) (x ∷ l) h = omega (arith, occ_take_le j k n l (omega arith))

pub occ_take_next : (j k : ℕ) (l : List ℕ) → k < length l → occ j (take (k + 1) l) ≡ occ j (take k l) + same (get_or l k 0) j
occ_take_next j k l h =
    rw add-one (ap (occ j) (take-suc l k 0 h)) ∙ occ_append j (take k l) (get_or l k 0 ∷ []) ∙ omega arith

-- ---- is_before.
pub any_same : (n : ℕ) (l : List ℕ) → list_any (λ (y : ℕ). eqb y n) l ≡ not (eqb (occ n l) 0)
unfolding same
any_same n [] = refl
any_same n (x ∷ l) = go (eqb x n) refl (any_same n l)
  where
    go : (b : Bool) → eqb x n ≡ b → list_any (λ (y : ℕ). eqb y n) l ≡ not (eqb (occ n l) 0) → (b || list_any (λ (y : ℕ). eqb y n) l) ≡ not (eqb (same x n + occ n l) 0)
    go true e less = rw e (sym (ap not (ne_eqb (1 + occ n l) 0 (λ z. omega arith))))
    go false e less = let none : occ n l ≡ 0 + occ n l = omega arith in rw e (less ∙ ap (λ (m : ℕ). not (eqb m 0)) none)

-- ---- is_distinct. The places of all numbers so far are taken.
pub record SoFar (taken l : List ℕ) (k : ℕ) : Type 0 where
  pub once : (j : ℕ) → occ j (take k l) ≤ 1
  pub places : (j : ℕ) → 0 < occ j (take k l) → 0 < get_or taken (j % 64) 0

pub so_far_none : (taken l : List ℕ) → SoFar taken l 0
so_far_none taken l = record { once = λ j. omega arith; places = λ j k. absurd (omega arith) }

-- Nothing is missed.
pub really_not : (taken l : List ℕ) (k n : ℕ) (b : Bool) → SoFar taken l k → b ≡ is_taken (get_or taken (n % 64) 0) l k n → b ≡ false → occ n (take k l) ≡ 0
unfolding is_taken is_before
really_not taken l k n b s e f = go (eqb (get_or taken (n % 64) 0) 0) refl
  where
    whole : is_taken (get_or taken (n % 64) 0) l k n ≡ false
    whole = sym e ∙ f

    go : (t : Bool) → eqb (get_or taken (n % 64) 0) 0 ≡ t → occ n (take k l) ≡ 0
    go true p = zero_of (occ n (take k l)) refl
      where
        zero_of : (m : ℕ) → occ n (take k l) ≡ m → occ n (take k l) ≡ 0
        zero_of zero q = q
        zero_of (suc m) q = absurd (omega (arith, s.places n (omega arith), eqb-true (get_or taken (n % 64) 0) 0 p))
    go false p = back (eqb (occ n (take k l)) 0) refl
      where
        back : (t : Bool) → eqb (occ n (take k l)) 0 ≡ t → occ n (take k l) ≡ 0
        back true q = eqb-true (occ n (take k l)) 0 q
        back false q =
            absurd (not_both (is_taken (get_or taken (n % 64) 0) l k n) (ap (λ (b : Bool). cond b false (is_before l k n)) p ∙ ap not q) whole)

pub really : (taken l : List ℕ) (k n : ℕ) (b : Bool) → b ≡ is_taken (get_or taken (n % 64) 0) l k n → b ≡ true → 0 < occ n (take k l)
unfolding is_taken is_before
really taken l k n b e t = go (eqb (get_or taken (n % 64) 0) 0) refl
  where
    whole : is_taken (get_or taken (n % 64) 0) l k n ≡ true
    whole = sym e ∙ t

    go : (t : Bool) → eqb (get_or taken (n % 64) 0) 0 ≡ t → 0 < occ n (take k l)
    go true p = absurd (not_both (is_taken (get_or taken (n % 64) 0) l k n) whole (ap (λ (b : Bool). cond b false (is_before l k n)) p))
    go false p = pos_of (occ n (take k l)) refl
      where
        pos_of : (m : ℕ) → occ n (take k l) ≡ m → 0 < occ n (take k l)
        pos_of zero q =
            absurd (not_both (is_taken (get_or taken (n % 64) 0) l k n) whole (ap (λ (b : Bool). cond b false (is_before l k n)) p ∙ ap not (eq-eqb (occ n (take k l)) 0 q)))
        pos_of (suc m) q = omega arith

pub so_far_more : (taken l : List ℕ) (k n at : ℕ) (b : Bool) → length taken ≡ 64 → k < length l → get_or l k 0 ≡ n → at ≡ n % 64 → SoFar taken l k
    → b ≡ is_taken (get_or taken (n % 64) 0) l k n → b ≡ false → SoFar (set taken at 1) l (k + 1)
so_far_more taken l k n at b lt lk e ea s t f = record { once = λ j. once_at j (either n j); places = λ j p. places_at j p (either (j % 64) at) }
  where
    zero_here : occ n (take k l) ≡ 0
    zero_here = really_not taken l k n b s t f

    next : (j : ℕ) → occ j (take (k + 1) l) ≡ occ j (take k l) + same n j
    next j = occ_take_next j k l lk ∙ ap (λ (m : ℕ). occ j (take k l) + same m j) e

    inside : at < 64
    inside = omega (arith, mod-lt n {m = 64} (omega arith))

    once_at : (j : ℕ) → Either n j → occ j (take (k + 1) l) ≤ 1
    once_at j (equal p q) = omega (arith, next j, ap (λ (m : ℕ). occ m (take k l)) p, zero_here)
    once_at j (other p q) = omega (arith, next j, s.once j)

    places_at : (j : ℕ) → 0 < occ j (take (k + 1) l) → Either (j % 64) at → 0 < get_or (set taken at 1) (j % 64) 0
    places_at j h (equal p q) = omega (arith, ap (λ (m : ℕ). get_or (set taken at 1) m 0) p, get_or-set_same taken at 1 0 (omega (arith, inside)))
    places_at j h (other p q) =
        let keep = get_or-set_other taken at (j % 64) 1 0 p in
        old j h p keep (either n j)
      where
        old : (j : ℕ) → 0 < occ j (take (k + 1) l) → j % 64 ≢ at → get_or (set taken at 1) (j % 64) 0 ≡ get_or taken (j % 64) 0 → Either n j
            → 0 < get_or (set taken at 1) (j % 64) 0
        old j h ne keep (equal p q) = absurd (ne (ap (λ (m : ℕ). m % 64) (sym p) ∙ sym ea))
        old j h ne keep (other p q) = omega (arith, keep, s.places j (omega (arith, next j)))

pub twice : (taken l : List ℕ) (k n m : ℕ) (b : Bool) → k < m → m ≤ 30 → length l ≡ 30 → get_or l k 0 ≡ n → b ≡ is_taken (get_or taken (n % 64) 0) l k n → b ≡ true
    → false ≡ distinct (take m l)
twice taken l k n m b h hm s e t f =
    sym (refuted (distinct (take m l)) (λ d.
    omega (
      arith,
      distinct_once (take m l) d n,
      occ_take_le n (k + 1) m l (omega arith),
      occ_take_next n k l (omega arith),
      ap (λ (a : ℕ). same a n) e,
      same_refl n,
      really taken l k n b t f,
    )))

pub all_apart : (taken l : List ℕ) (k n : ℕ) → k ≤ n → n ≤ k → SoFar taken l k → true ≡ distinct (take n l)
all_apart taken l k n a b s = sym (once_distinct (take n l) (λ j. omega (arith, s.once j, ap (λ (m : ℕ). occ j (take m l)) (le_antisymm a b))))
