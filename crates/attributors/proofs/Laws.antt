-- Turns of loops, what stands in a padded list, and where the indices lie. Assumes nothing.
use mathlib.Core.Path.{◌≡◌, refl, sym, ap, ◌∙◌}
use mathlib.Core.Bool.{Bool, true, false, cond, ◌&&◌}
use mathlib.Core.List.{List, [], ◌∷◌, ◌++◌}
use mathlib.Core.Logic.{inl, inr}
use Prim.Native.Nat.{ℕ, zero, suc, ◌+◌, ◌*◌, ◌<◌, ◌≤◌, ◌-◌}
use native.Mathlib.Nat.{le_of_suc-le-suc, eq-or-lt_of_le}
use native.Mathlib.Numerals.{add-one}
use native.Mathlib.Omega.{arith}
use lib.ListN.{length, get_or, set, take, length-append, get_or-append}
use lib.Seq.{get_or-append_seam}
use lib.Dec.{leb, ltb, eqb}
use borrow.Author.Tests.{ltb-true, leb-true, leb-false, eqb-true, eq-eqb, lt-ltb, le-leb, lt-leb, le-ltb}
use lib.Ieee.{Float}
use Rattle.attributors.specs.Attributors.{for_up_to, reaches, reaching, attribution_limit, likely_missing_indices, asked_indices, padded, missing, nothing, pushed, row_fits, asked}
use Rattle.attributors.specs.declared.Missing.{Missing}

-- A turn of a loop that counts from 0.
pub for_more : {A : Type 0} (step : A → ℕ → A) (a s : A) (n : ℕ) → s ≡ for_up_to step a n → step s n ≡ for_up_to step a (n + 1)
unfolding for_up_to
for_more {A = A} step a s n e = ap (λ (x : A). step x n) e ∙ ap (for_up_to step a) (sym (add-one n))

module _ {A : Type 0} (z : A) where
  pub length_padded : (n : ℕ) (xs : List A) → length (padded z n xs) ≡ n
  unfolding padded
  length_padded zero xs = refl
  length_padded (suc n) [] = ap suc (length_padded n [])
  length_padded (suc n) (x ∷ xs) = ap suc (length_padded n xs)

  -- A store behind the list appends to it, as far as there is room.
  pub padded_more : (n : ℕ) (xs : List A) (a : A) → set (padded z n xs) (length xs) a ≡ padded z n (xs ++ (a ∷ []))
  unfolding padded
  padded_more zero [] a = refl
  padded_more zero (x ∷ xs) a = refl
  padded_more (suc n) [] a = refl
  padded_more (suc n) (x ∷ xs) a = ap (λ (l : List A). x ∷ l) (padded_more n xs a)

  -- A store within the list.
  pub padded_set : (n : ℕ) (xs : List A) (i : ℕ) (a : A) → i < length xs → set (padded z n xs) i a ≡ padded z n (set xs i a)
  unfolding padded
  padded_set n [] i a h = absurd (omega arith)
  padded_set zero (x ∷ xs) zero a h = refl
  padded_set zero (x ∷ xs) (suc i) a h = refl
  padded_set (suc n) (x ∷ xs) zero a h = refl
  padded_set (suc n) (x ∷ xs) (suc i) a h = ap (λ (l : List A). x ∷ l) (padded_set n xs i a (le_of_suc-le-suc h))

  -- The list itself is its front.
  pub take_padded : (n : ℕ) (xs : List A) → length xs ≤ n → take (length xs) (padded z n xs) ≡ xs
  unfolding padded
  take_padded n [] h = refl
  take_padded zero (x ∷ xs) h = absurd (omega arith)
  take_padded (suc n) (x ∷ xs) h = ap (λ (l : List A). x ∷ l) (take_padded n xs (le_of_suc-le-suc h))

  pub get_d_padded : (n : ℕ) (xs : List A) (i : ℕ) → i < n → get_or (padded z n xs) i z ≡ get_or xs i z
  unfolding padded
  get_d_padded zero xs i h = absurd (omega arith)
  get_d_padded (suc n) [] zero h = refl
  get_d_padded (suc n) [] (suc i) h = get_d_padded n [] i (le_of_suc-le-suc h) ∙ refl
  get_d_padded (suc n) (x ∷ xs) zero h = refl
  get_d_padded (suc n) (x ∷ xs) (suc i) h = get_d_padded n xs i (le_of_suc-le-suc h)

-- A turn of the loop that finds indices.
pub pushed_is : (indices : List ℕ) (test : Bool) (index : ℕ) → pushed (missing indices) test index ≡ missing (cond test (indices ++ (index ∷ [])) indices)
unfolding missing
pushed_is indices true index = λ i. record { count = grown i; indices = padded_more 0 5 indices index i }
  where
    grown : length indices + 1 ≡ length (indices ++ (index ∷ []))
    grown = sym (length-append indices (index ∷ []))
pushed_is indices false index = refl

pub reaching_more : (high low : List Float) (limit : Float) (position i : ℕ) (found : Missing) → found ≡ missing (reaching high low limit position i)
    → pushed found (reaches high low limit (position + i)) (position + i) ≡ missing (reaching high low limit position (i + 1))
unfolding reaching
reaching_more high low limit position i found e =
    ap (λ (m : Missing). pushed m (reaches high low limit (position + i)) (position + i)) e
    ∙ pushed_is (reaching high low limit position i) (reaches high low limit (position + i)) (position + i)
    ∙ ap missing (for_more _ _ _ i refl)

pub count_is : (m : Missing) (indices : List ℕ) → m ≡ missing indices → m.count ≡ length indices
unfolding missing
count_is m indices e = ap (λ (n : Missing). n.count) e

-- No more indices than turns.
pub reaching_few : (high low : List Float) (limit : Float) (position n : ℕ) → length (reaching high low limit position n) ≤ n
unfolding reaching for_up_to
reaching_few high low limit position zero = omega arith
reaching_few high low limit position (suc n) = by_test (reaches high low limit (position + n)) (reaching high low limit position n) (reaching_few high low limit position n)
  where
    by_test : (t : Bool) (r : List ℕ) → length r ≤ n → length (cond t (r ++ ((position + n) ∷ [])) r) ≤ suc n
    by_test true r h = simp length-append (omega arith)
    by_test false r h = omega arith

module _ (high low : List Float) (position base : ℕ) where
  -- Those likely, where they are asked for, and none where they are not.
  module _ (found : Missing) (e : found ≡ missing (likely_missing_indices high low position base)) where
    pub asked_all : 2 * found.count < length high → found ≡ missing (asked_indices high low position base)
    unfolding asked_indices
    asked_all h = let n = count_is found (likely_missing_indices high low position base) e in rw (lt-ltb (2 * length (likely_missing_indices high low position base)) (length high) (omega arith)) e

    pub asked_none : length high ≤ 2 * found.count → nothing ≡ missing (asked_indices high low position base)
    unfolding asked_indices missing padded
    asked_none h = let n = count_is found (likely_missing_indices high low position base) e in rw (le-ltb (2 * length (likely_missing_indices high low position base)) (length high) (omega arith))

    pub likely_few : base ≤ 16 → found.count ≤ 16
    unfolding likely_missing_indices
    likely_few h = rw (count_is found (likely_missing_indices high low position base) e) (by_tests (eqb base 1) (leb (length indices) 5))
      where
        indices : List ℕ
        indices = reaching high low (attribution_limit high low position base) position base

        by_tests : (t u : Bool) → length (cond t (position ∷ []) (cond u indices [])) ≤ 16
        by_tests true u = omega arith
        by_tests false true = omega (arith, reaching_few high low (attribution_limit high low position base) position base)
        by_tests false false = omega arith

-- Every index lies from lo on, below hi.
abbrev pub Within : List ℕ → ℕ → ℕ → Type 0
Within indices lo hi = (k : ℕ) → k < length indices → (lo ≤ get_or indices k 0) × (get_or indices k 0 < hi)

reaching_within : (high low : List Float) (limit : Float) (position n : ℕ) → Within (reaching high low limit position n) position (position + n)
unfolding reaching for_up_to
reaching_within high low limit position zero = λ k h. absurd (omega arith)
reaching_within high low limit position (suc n) = by_test (reaches high low limit (position + n)) (reaching high low limit position n) (reaching_within high low limit position n)
  where
    by_test : (t : Bool) (r : List ℕ) → Within r position (position + n) → Within (cond t (r ++ ((position + n) ∷ [])) r) position (position + suc n)
    by_test false r w k h = let p = w k h in (p.0, omega arith)
    by_test true r w k h =
        let l : length (r ++ ((position + n) ∷ [])) ≡ length r + 1 = length-append r ((position + n) ∷ []) in
        let m : k ≤ length r = omega arith in
        elim (eq-or-lt_of_le m) [
          | inl q ↦ rw (q, get_or-append_seam r (position + n) [] 0) (omega arith, omega arith)
          | inr q ↦ let p = w k q in rw (get_or-append r ((position + n) ∷ []) 0 k q) (p.0, omega arith)
        ]

module _ (high low : List Float) (position base : ℕ) where
  none_within : Within [] position (position + base)
  none_within k h = absurd (omega arith)

  single : base ≡ 1 → Within (position ∷ []) position (position + base)
  single e zero h = (omega arith, omega arith)
  single e (suc k) h = absurd (omega arith)

  -- The indices are at most five, and lie in the row.
  pub asked_few : length (asked_indices high low position base) ≤ 5
  unfolding asked_indices likely_missing_indices
  asked_few = by_tests (eqb base 1) (ltb (2 * length (likely_missing_indices high low position base)) (length high)) (leb (length found) 5) refl
    where
      found : List ℕ
      found = reaching high low (attribution_limit high low position base) position base

      by_tests : (t u v : Bool) → leb (length found) 5 ≡ v → length (cond u (cond t (position ∷ []) (cond v found [])) []) ≤ 5
      by_tests t false v e = omega arith
      by_tests true true v e = omega arith
      by_tests false true true e = leb-true _ _ e
      by_tests false true false e = omega arith

  pub asked_within : Within (asked_indices high low position base) position (position + base)
  unfolding asked_indices likely_missing_indices
  asked_within = by_tests (eqb base 1) (ltb (2 * length (likely_missing_indices high low position base)) (length high)) (leb (length found) 5) refl
    where
      found : List ℕ
      found = reaching high low (attribution_limit high low position base) position base

      by_tests : (t u v : Bool) → eqb base 1 ≡ t → Within (cond u (cond t (position ∷ []) (cond v found [])) []) position (position + base)
      by_tests t false v e = none_within
      by_tests true true v e = single (eqb-true base 1 e)
      by_tests false true true e = reaching_within high low (attribution_limit high low position base) position base
      by_tests false true false e = none_within

-- A row's end, by its start.
pub row_end : (position base len : ℕ) → base ≤ len → leb position (len - base) ≡ leb (position + base) len
row_end position base len h = by_test (leb position (len - base)) refl
  where
    by_test : (t : Bool) → leb position (len - base) ≡ t → t ≡ leb (position + base) len
    by_test true e = sym (le-leb (position + base) len (omega (arith, leb-true position (len - base) e)))
    by_test false e = sym (lt-leb (position + base) len (omega (arith, leb-false position (len - base) e)))

-- What a row that fits says of its sizes.
pub record Row (high low position base : ℕ) : Type 0 where
  pub low_long : low ≡ high
  pub some : 0 < base
  pub few : base ≤ 16
  pub inside : position + base ≤ high

-- Both halves of a test that held.
pub both : (a b : Bool) → (a && b) ≡ true → (a ≡ true) × (b ≡ true)
both true b e = (refl, e)
both false b e = (e, cc)

pub row_of : (high low position base : ℕ) → row_fits high low position base ≡ true → Row high low position base
unfolding row_fits
row_of high low position base e =
    let a = both _ _ e in
    let b = both _ _ a.1 in
    let c = both _ _ b.1 in
    record { low_long = eqb-true _ _ a.0; some = ltb-true _ _ b.0; few = leb-true _ _ c.0; inside = leb-true _ _ c.1 }

pub row_fits_lem : (high low position base : ℕ) → Row high low position base → row_fits high low position base ≡ true
unfolding row_fits
row_fits_lem high low position base r = simp (eq-eqb _ _ r.low_long, lt-ltb _ _ r.some, le-leb _ _ r.few, le-leb _ _ r.inside)

-- A row that fits is asked for.
pub asked_row : (high low : List Float) (position base : ℕ) → Row (length high) (length low) position base → asked high low position base ≡ missing (asked_indices high low position base)
unfolding asked
asked_row high low position base r = rw (row_fits_lem (length high) (length low) position base r)
