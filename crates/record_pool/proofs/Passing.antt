-- The test of a pool and the rules in words. Assumes nothing.
use mathlib.Core.Path.{◌≡◌, refl, sym, ap, ◌∙◌}
use mathlib.Core.Bool.{Bool, true}
use mathlib.Core.List.{List, [], ◌∷◌, ◌++◌}
use Prim.Native.Nat.{ℕ, zero, suc, ◌+◌, ◌≤◌, ◌<◌}
use native.Mathlib.Omega.{arith}
use lib.Dec.{eqb}
use lib.ListN.{length, length-append}
use borrow.Author.Tests.{eqb-true, eq-eqb}
use Rattle.record_pool.specs.Lists.{occ}
use Rattle.record_pool.specs.Chains.{Chained, Rules}
use Rattle.record_pool.specs.Pool.{count_of, first_used, first_free, next_at, number_at, flags_at, used_of, free_of, rules_ok}
use Rattle.record_pool.proofs.Occ.{same_refl, and_left, and_right, and_both, occ_append, full_length}
use Rattle.record_pool.proofs.Meaning.{means, tested, used_is, free_is, Told, used_short}

-- The rules of a pool with the chains us and fs.
abbrev pub RulesAt : List ℕ → List ℕ → List ℕ → Type 0
RulesAt xs us fs = Rules (count_of xs) (first_used xs) (first_free xs) (next_at xs) (number_at xs) (flags_at xs) us fs

-- ---- the test and the words.
pub passes_size : (xs : List ℕ) → rules_ok xs ≡ true → length xs ≡ 61472
unfolding rules_ok
passes_size xs h = eqb-true (length xs) 61472 (and_left (eqb (length xs) 61472) _ h)

pub passes : (xs : List ℕ) → rules_ok xs ≡ true → RulesAt xs (used_of xs) (free_of xs)
unfolding rules_ok used_of free_of
passes xs h = means (count_of xs) (first_used xs) (first_free xs) (next_at xs) (number_at xs) (flags_at xs) (and_right (eqb (length xs) 61472) _ h)

module _ (xs us fs : List ℕ) (size : length xs ≡ 61472) (r : RulesAt xs us fs) where
  pub used_of_lem : used_of xs ≡ us
  unfolding used_of
  used_of_lem = used_is (count_of xs) (first_used xs) (first_free xs) (next_at xs) (number_at xs) (flags_at xs) us fs r

  pub free_of_lem : free_of xs ≡ fs
  unfolding free_of
  free_of_lem = free_is (count_of xs) (first_used xs) (first_free xs) (next_at xs) (number_at xs) (flags_at xs) us fs r

  pub passing : rules_ok xs ≡ true
  unfolding rules_ok used_of free_of
  passing =
      and_both (eqb (length xs) 61472) _ (eq-eqb (length xs) 61472 size)
      (tested (count_of xs) (first_used xs) (first_free xs) (next_at xs) (number_at xs) (flags_at xs) us fs r)

-- Each record stands at most once.
pub once_only : {count used free : ℕ} {next number : ℕ → ℕ} {flags : ℕ → Bool} {us fs : List ℕ} → Rules count used free next number flags us fs
    → (i : ℕ) → occ i us + occ i fs ≤ 1
once_only {us} {fs} r i = go (occ i us + occ i fs) refl
  where
    go : (n : ℕ) → occ i us + occ i fs ≡ n → occ i us + occ i fs ≤ 1
    go zero e = omega arith
    go (suc n) e = let w : (1 ≤ i) × (i ≤ 30) = r.within i (omega arith) in omega (arith, r.once i w.0 w.1)

-- ---- small numbers.
module _ {c u f : ℕ} {next number : ℕ → ℕ} {flags : ℕ → Bool} {us fs : List ℕ} (r : Rules c u f next number flags us fs) where
  pub within_used : (j : ℕ) → 0 < occ j us → (1 ≤ j) × (j ≤ 30)
  within_used j k = r.within j (omega arith)

  pub within_free : (j : ℕ) → 0 < occ j fs → (1 ≤ j) × (j ≤ 30)
  within_free j k = r.within j (omega arith)

  pub count_small : c ≤ 30
  count_small =
      let t : Told c number flags us fs = record { counted = r.counted; once = r.once; within = r.within; ranged = r.ranged; apart = r.apart; flagged = r.flagged } in
      omega (arith, used_short c number flags us fs t, r.counted)

pub start_small : (f : ℕ → ℕ) (s : ℕ) (xs : List ℕ) → Chained f s xs → ((j : ℕ) → 0 < occ j xs → (1 ≤ j) × (j ≤ 30)) → s ≤ 30
start_small f s [] c h = omega arith
start_small f s (x ∷ xs) c h = let w : (1 ≤ x) × (x ≤ 30) = h x (omega (arith, same_refl x)) in let e : s ≡ x = c.0 in omega arith

pub not_empty : (f : ℕ → ℕ) (s : ℕ) (xs : List ℕ) → Chained f s xs → 0 < s → (t : List ℕ) × (xs ≡ s ∷ t)
not_empty f s [] c h = absurd (omega arith)
not_empty f s (x ∷ xs) c h = (xs, ap (λ (n : ℕ). n ∷ xs) (sym c.0))

-- A pool that has a free record has fewer than thirty drawers.
pub count_below : {c u f : ℕ} {next number : ℕ → ℕ} {flags : ℕ → Bool} {us fs : List ℕ} → Rules c u f next number flags us fs → 0 < f → c ≤ 29
count_below {us} {fs} r h =
    let all = full_length 30 (us ++ fs) (λ i k. r.within i (omega (arith, occ_append i us fs))) (λ i a b. occ_append i us fs ∙ r.once i a b) in
    let t = not_empty _ _ fs r.walk_free h in
    omega (arith, all, length-append us fs, ap length t.1, r.counted)
