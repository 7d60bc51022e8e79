-- The indices picked by a cutoff among the sorted sums are those whose sum reaches the limit. Assumes nothing.
use mathlib.Core.Path.{◌≡◌, refl, sym, ap, ◌∙◌}
use mathlib.Core.Bool.{Bool, true, false, not, cond, ◌&&◌}
use mathlib.Core.List.{List, [], ◌∷◌, ◌++◌}
use mathlib.Core.Logic.{◌⊎◌, inl, inr}
use Prim.Native.Nat.{ℕ, zero, suc, ◌+◌, ◌-◌, ◌<◌, ◌≤◌}
use native.Mathlib.Nat.{le_of_suc-le-suc, eq-or-lt_of_le}
use native.Mathlib.Omega.{arith}
use lib.ListN.{length, get_or, length-append}
use lib.Dec.{T, leb, ltb, eqb}
use borrow.Author.Tests.{leb-true, eqb-true, eqb-false, lt-ltb}
use lib.Ieee.{Float, nan}
use Rattle.ieee.specs.F64.{◌>=₆₄◌}
use Rattle.attributors.specs.Const.{max_attributors}
use Rattle.attributors.specs.Attributors.{for_up_to, high_low_sum, attribution_limit, reaches, reaching, likely_missing_indices}
use Rattle.attributors.specs.Sorted.{sums, how_many, Sorted, pick_of, from_cutoff, picked, SortedPick}
use Rattle.attributors.proofs.Order.{holds, held, transitive, reflexive, total}

clash : true ≡ false → ⊥
clash e = let z : ◌≡◌ {A = ℕ} 0 1 = cc in absurd (omega arith)

-- ---- how many pass
-- Two are counted in either order.
swapped : (t u : Bool) (n : ℕ) → cond t (suc (cond u (suc n) n)) (cond u (suc n) n) ≡ cond u (suc (cond t (suc n) n)) (cond t (suc n) n)
swapped true true n = refl
swapped true false n = refl
swapped false true n = refl
swapped false false n = refl

module _ (test : Float → Bool) where
  more : (xs : List Float) (x : Float) → how_many test (xs ++ (x ∷ [])) ≡ cond (test x) (suc (how_many test xs)) (how_many test xs)
  unfolding how_many
  more [] x = refl
  more (y ∷ ys) x = rw (more ys x) (swapped (test y) (test x) (how_many test ys))

  none : (xs : List Float) → ((k : ℕ) → k < length xs → test (get_or xs k nan) ≡ false) → how_many test xs ≡ 0
  unfolding how_many
  none [] h = refl
  none (x ∷ xs) h = rw (h 0 (omega arith)) (none xs (λ k l. h (suc k) (omega arith)))

  module _ (high low : List Float) (position : ℕ) where
    none_of_row : (n : ℕ) → how_many test (sums high low position n) ≡ 0 → (i : ℕ) → i < n → test (high_low_sum high low (position + i)) ≡ false
    unfolding sums for_up_to
    none_of_row zero e i h = absurd (omega arith)
    none_of_row (suc n) e i h = by_test (test (at n)) refl (sym (more (sums high low position n) (at n)) ∙ e) (none_of_row n)
      where
        at : ℕ → Float
        at j = high_low_sum high low (position + j)

        by_test : (t : Bool) → test (at n) ≡ t → cond t (suc (how_many test (sums high low position n))) (how_many test (sums high low position n)) ≡ 0
            → (how_many test (sums high low position n) ≡ 0 → (j : ℕ) → j < n → test (at j) ≡ false) → test (at i) ≡ false
        by_test true q z before = absurd (omega arith)
        by_test false q z before = elim (eq-or-lt_of_le (le_of_suc-le-suc h)) [ inl p ↦ ap (λ (j : ℕ). test (at j)) p ∙ q | inr p ↦ before z i p ]

-- ---- sorted values
module _ (values : List Float) (decreasing : (k : ℕ) → suc k < length values → (get_or values k nan >=₆₄ get_or values (suc k) nan) ≡ true) where
  ordered : (j k : ℕ) → j < k → k < length values → T (get_or values j nan >=₆₄ get_or values k nan)
  ordered j zero h l = absurd (omega arith)
  ordered j (suc k) h l = by_place (eq-or-lt_of_le (le_of_suc-le-suc h)) (ordered j k)
    where
      next : T (get_or values k nan >=₆₄ get_or values (suc k) nan)
      next = holds _ (decreasing k l)

      by_place : (j ≡ k) ⊎ (j < k) → (j < k → k < length values → T (get_or values j nan >=₆₄ get_or values k nan)) → T (get_or values j nan >=₆₄ get_or values (suc k) nan)
      by_place (inl p) before = rw p next
      by_place (inr p) before = transitive _ _ _ next (before p (omega arith))

-- Where a value reaches the limit, so does each before it.
abbrev Closed : Float → List Float → Type 0
Closed limit xs = (j k : ℕ) → j < k → k < length xs → (get_or xs k nan >=₆₄ limit) ≡ true → (get_or xs j nan >=₆₄ limit) ≡ true

module _ (limit : Float) where
  abbrev test : Float → Bool
  test x = x >=₆₄ limit

  behind : (x : Float) (xs : List Float) → Closed limit (x ∷ xs) → Closed limit xs
  behind x xs c j k h l = c (suc j) (suc k) (omega arith) (omega arith)

  later : (x : Float) (xs : List Float) → Closed limit (x ∷ xs) → test x ≡ false → (k : ℕ) → k < length xs → test (get_or xs k nan) ≡ false
  later x xs c e k h = by_test (test (get_or xs k nan)) refl
    where
      by_test : (t : Bool) → test (get_or xs k nan) ≡ t → t ≡ false
      by_test true q = absurd (clash (sym (c 0 (suc k) (omega arith) (omega arith) q) ∙ e))
      by_test false q = refl

  all_first : (xs : List Float) → Closed limit xs → pick_of limit xs ≡ how_many test xs
  unfolding pick_of how_many
  all_first [] c = refl
  all_first (x ∷ xs) c = by_test (test x) refl (all_first xs (behind x xs c))
    where
      by_test : (t : Bool) → test x ≡ t → pick_of limit xs ≡ how_many test xs → cond t (suc (pick_of limit xs)) 0 ≡ cond t (suc (how_many test xs)) (how_many test xs)
      by_test true q e = ap suc e
      by_test false q e = sym (none test xs (later x xs c q))

  -- A place is among the first exactly if its value reaches the limit.
  among : (xs : List Float) → Closed limit xs → (k : ℕ) → k < length xs → test (get_or xs k nan) ≡ true → k < pick_of limit xs
  unfolding pick_of
  among [] c k h e = absurd (omega arith)
  among (x ∷ xs) c zero h e = rw e (omega arith)
  among (x ∷ xs) c (suc k) h e =
      let ih : k < pick_of limit xs = among xs (behind x xs c) k (le_of_suc-le-suc h) e in
      rw (c 0 (suc k) (omega arith) h e) (omega arith)

  reached : (xs : List Float) (k : ℕ) → k < pick_of limit xs → (test (get_or xs k nan) ≡ true) × (k < length xs)
  unfolding pick_of
  reached [] k h = absurd (omega arith)
  reached (x ∷ xs) k h = by_test (test x) refl k h (reached xs)
    where
      by_test : (t : Bool) → test x ≡ t → (j : ℕ) → j < cond t (suc (pick_of limit xs)) 0 → ((i : ℕ) → i < pick_of limit xs → (test (get_or xs i nan) ≡ true) × (i < length xs))
          → (test (get_or (x ∷ xs) j nan) ≡ true) × (j < length (x ∷ xs))
      by_test false q j l before = absurd (omega arith)
      by_test true q zero l before = (q, omega arith)
      by_test true q (suc j) l before = let b = before j (le_of_suc-le-suc l) in (b.0, omega arith)

-- ---- the row
module _ (high low : List Float) (position : ℕ) where
  length_reaching : (limit : Float) (n : ℕ) → length (reaching high low limit position n) ≡ how_many (λ x. x >=₆₄ limit) (sums high low position n)
  unfolding reaching sums for_up_to how_many
  length_reaching limit zero = refl
  length_reaching limit (suc n) = by_test (reaches high low limit (position + n)) (reaching high low limit position n) _ (length_reaching limit n) ∙ sym (more (λ x. x >=₆₄ limit) (sums high low position n) (high_low_sum high low (position + n)))
    where
      by_test : (t : Bool) (r : List ℕ) (m : ℕ) → length r ≡ m → length (cond t (r ++ ((position + n) ∷ [])) r) ≡ cond t (suc m) m
      by_test true r m e = simp length-append (omega arith)
      by_test false r m e = e

  -- The room is enough, and a cutoff that tells the same indices finds them.
  room : (limit cutoff : Float) (n : ℕ) → ((i : ℕ) → i < n → reaches high low cutoff (position + i) ≡ reaches high low limit (position + i)) → length (reaching high low limit position n) ≤ 5
      → from_cutoff high low cutoff position n ≡ reaching high low limit position n
  unfolding reaching from_cutoff for_up_to
  room limit cutoff zero same few = refl
  room limit cutoff (suc n) same few = by_test (reaches high low limit (position + n)) (reaches high low cutoff (position + n)) (same n (omega arith)) _ _ few (room limit cutoff n (λ i h. same i (omega arith)))
    where
      by_test : (t u : Bool) → u ≡ t → (r f : List ℕ) → length (cond t (r ++ ((position + n) ∷ [])) r) ≤ 5 → (length r ≤ 5 → f ≡ r)
          → cond (u && ltb (length f) max_attributors) (f ++ ((position + n) ∷ [])) f ≡ cond t (r ++ ((position + n) ∷ [])) r
      by_test true false e r f l before = absurd (clash (sym e))
      by_test false true e r f l before = absurd (clash e)
      by_test false false e r f l before = before l
      by_test true true e r f l before =
          let g : length (r ++ ((position + n) ∷ [])) ≡ length r + 1 = length-append r ((position + n) ∷ []) in
          rw (before (omega arith), lt-ltb (length r) 5 (omega arith))

module _ (values high low : List Float) (position base : ℕ) (s : Sorted values (sums high low position base)) (limit : Float) where
  closed : Closed limit values
  closed j k h l e = held _ (transitive _ _ _ (holds _ e) (ordered values s.decreasing j k h l))

  -- As many of the first values reach the limit as indices do.
  as_many : pick_of limit values ≡ length (reaching high low limit position base)
  as_many = all_first limit values closed ∙ s.rearranged (λ x. x >=₆₄ limit) ∙ sym (length_reaching high low position limit base)

  -- Of the values that reach the limit the last is the least: the sums that reach it are those that reach the limit.
  module _ (some : 0 < pick_of limit values) where
    abbrev cutoff : Float
    cutoff = get_or values (pick_of limit values - 1) nan

    last : (cutoff >=₆₄ limit ≡ true) × (pick_of limit values - 1 < length values)
    last = reached limit values (pick_of limit values - 1) (omega arith)

    least : (k : ℕ) → k < length values → get_or values k nan >=₆₄ limit ≡ true → get_or values k nan >=₆₄ cutoff ≡ true
    least k h e = by_place (eq-or-lt_of_le below)
      where
        below : k ≤ pick_of limit values - 1
        below = let a = among limit values closed k h e in omega arith

        by_place : (k ≡ pick_of limit values - 1) ⊎ (k < pick_of limit values - 1) → get_or values k nan >=₆₄ cutoff ≡ true
        by_place (inl p) = ap (λ (j : ℕ). get_or values j nan >=₆₄ cutoff) p ∙ held _ (reflexive _ _ (holds _ last.0))
        by_place (inr p) = held _ (ordered values s.decreasing k (pick_of limit values - 1) p last.1)

    abbrev missed : Float → Bool
    missed x = (x >=₆₄ limit) && not (x >=₆₄ cutoff)

    none_missed : (k : ℕ) → k < length values → missed (get_or values k nan) ≡ false
    none_missed k h = by_tests (get_or values k nan >=₆₄ limit) (get_or values k nan >=₆₄ cutoff) (least k h)
      where
        by_tests : (t u : Bool) → (t ≡ true → u ≡ true) → (t && not u) ≡ false
        by_tests false u l = refl
        by_tests true true l = refl
        by_tests true false l = sym (l refl)

    same_reach : (i : ℕ) → i < base → reaches high low cutoff (position + i) ≡ reaches high low limit (position + i)
    same_reach i h = by_tests (x >=₆₄ cutoff) (x >=₆₄ limit) (λ e. held _ (transitive _ _ _ (holds _ last.0) (holds _ e))) not_missed
      where
        x : Float
        x = high_low_sum high low (position + i)

        not_missed : missed x ≡ false
        not_missed = none_of_row missed high low position base (sym (s.rearranged missed) ∙ none missed values none_missed) i h

        by_tests : (t u : Bool) → (t ≡ true → u ≡ true) → (u && not t) ≡ false → t ≡ u
        by_tests true true f g = refl
        by_tests false false f g = refl
        by_tests true false f g = sym (f refl)
        by_tests false true f g = sym g

none_found : (r : List ℕ) → length r ≡ 0 → (t : Bool) → [] ≡ cond t r []
none_found [] e true = refl
none_found [] e false = refl
none_found (i ∷ r) e t = absurd (omega arith)

pub same_pick : (values high low : List Float) (position base : ℕ) → Sorted values (sums high low position base) → picked values high low position base ≡ likely_missing_indices high low position base
unfolding picked likely_missing_indices
same_pick values high low position base s =
    ap (cond (eqb base 1) (position ∷ [])) (by_tests (eqb pick 0) (leb pick max_attributors) refl refl ∙ ap (λ (n : ℕ). cond (leb n max_attributors) found []) many)
  where
    limit : Float
    limit = attribution_limit high low position base

    pick : ℕ
    pick = pick_of limit values

    found : List ℕ
    found = reaching high low limit position base

    many : pick ≡ length found
    many = as_many values high low position base s limit

    by_tests : (t u : Bool) → eqb pick 0 ≡ t → leb pick max_attributors ≡ u → cond (not t && u) (from_cutoff high low (get_or values (pick - 1) nan) position base) [] ≡ cond u found []
    by_tests true u e f = none_found found (sym many ∙ eqb-true pick 0 e) u
    by_tests false false e f = refl
    by_tests false true e f =
        room high low position limit _ base (same_reach values high low position base s limit (omega (arith, eqb-false pick 0 e))) (omega (arith, many, leb-true pick 5 f))

-- ---- there are sorted values
-- The first, if there is one, is not above x.
Under : Float → List Float → Type 0
Under x [] = Unit {0}
Under x (y ∷ ys) = x >=₆₄ y ≡ true

-- No value is NaN, and none is below the next.
Falling : List Float → Type 0
Falling [] = Unit {0}
Falling (x ∷ xs) = (x ≡ nan → ⊥) × Under x xs × Falling xs

decreases : (xs : List Float) → Falling xs → (k : ℕ) → suc k < length xs → (get_or xs k nan >=₆₄ get_or xs (suc k) nan) ≡ true
unfolding Falling Under
decreases [] f k h = absurd (omega arith)
decreases (x ∷ []) f k h = absurd (omega arith)
decreases (x ∷ y ∷ ys) f zero h = f.1
decreases (x ∷ y ∷ ys) f (suc k) h = decreases (y ∷ ys) f.2 k (le_of_suc-le-suc h)

insert : Float → List Float → List Float
insert x [] = x ∷ []
insert x (y ∷ ys) = cond (x >=₆₄ y) (x ∷ y ∷ ys) (y ∷ insert x ys)

insert_under : (z x : Float) (ys : List Float) → Under z ys → z >=₆₄ x ≡ true → Under z (insert x ys)
unfolding Under insert
insert_under z x [] u e = e
insert_under z x (y ∷ ys) u e = by_test (x >=₆₄ y)
  where
    by_test : (t : Bool) → Under z (cond t (x ∷ y ∷ ys) (y ∷ insert x ys))
    by_test true = e
    by_test false = u

insert_falls : (x : Float) (ys : List Float) → (x ≡ nan → ⊥) → Falling ys → Falling (insert x ys)
unfolding Falling Under insert
insert_falls x [] a f = (a, tt, tt)
insert_falls x (y ∷ ys) a f = by_test (x >=₆₄ y) refl (insert_falls x ys a f.2)
  where
    other : x >=₆₄ y ≡ false → y >=₆₄ x ≡ true
    other e = elim (total x y a f.0) [ inl p ↦ held _ p | inr p ↦ absurd (clash (sym (held _ p) ∙ e)) ]

    by_test : (t : Bool) → x >=₆₄ y ≡ t → Falling (insert x ys) → Falling (cond t (x ∷ y ∷ ys) (y ∷ insert x ys))
    by_test true e i = (a, e, f)
    by_test false e i = (f.0, insert_under y x ys f.1 (other e), i)

insert_many : (test : Float → Bool) (x : Float) (ys : List Float) → how_many test (insert x ys) ≡ cond (test x) (suc (how_many test ys)) (how_many test ys)
unfolding how_many insert
insert_many test x [] = refl
insert_many test x (y ∷ ys) = by_test (x >=₆₄ y) (insert_many test x ys)
  where
    by_test : (t : Bool) → how_many test (insert x ys) ≡ cond (test x) (suc (how_many test ys)) (how_many test ys)
        → how_many test (cond t (x ∷ y ∷ ys) (y ∷ insert x ys)) ≡ cond (test x) (suc (how_many test (y ∷ ys))) (how_many test (y ∷ ys))
    by_test true e = refl
    by_test false e = rw e (swapped (test y) (test x) (how_many test ys))

module _ (high low : List Float) (position : ℕ) where
  sort : ℕ → List Float
  sort zero = []
  sort (suc n) = insert (high_low_sum high low (position + n)) (sort n)

  sort_falls : (n : ℕ) → ((i : ℕ) → i < n → high_low_sum high low (position + i) ≡ nan → ⊥) → Falling (sort n)
  unfolding sort Falling
  sort_falls zero a = tt
  sort_falls (suc n) a = insert_falls (high_low_sum high low (position + n)) (sort n) (a n (omega arith)) (sort_falls n (λ i h. a i (omega arith)))

  sort_many : (n : ℕ) (test : Float → Bool) → how_many test (sort n) ≡ how_many test (sums high low position n)
  unfolding sort sums for_up_to
  sort_many zero test = refl
  sort_many (suc n) test =
      let x = high_low_sum high low (position + n) in
      insert_many test x (sort n) ∙ ap (λ (m : ℕ). cond (test x) (suc m) m) (sort_many n test) ∙ sym (more test (sums high low position n) x)

pub sorted_pick : SortedPick
sorted_pick = record {
  same = same_pick;
  sorted = λ high low position base a. (
    sort high low position base,
    record {
      decreasing = decreases (sort high low position base) (sort_falls high low position base a);
      rearranged = sort_many high low position base;
    },
  );
}
