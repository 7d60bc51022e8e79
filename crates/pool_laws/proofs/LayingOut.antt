-- The empty pool passes 13. Assumes nothing.
use mathlib.Core.Path.{◌≡◌, refl, sym, ap, ◌∙◌}
use mathlib.Core.Logic.{◌≢◌}
use mathlib.Core.Bool.{Bool, true, false, cond}
use mathlib.Core.List.{List, [], ◌∷◌}
use Prim.Native.Nat.{ℕ, zero, suc, ◌+◌, ◌≤◌, ◌<◌}
use native.Mathlib.Omega.{arith}
use lib.Dec.{eqb}
use lib.ListN.{length, replicate, length-replicate}
use borrow.Author.Tests.{eqb-false, eq-eqb, ne_eqb}
use Rattle.record_pool.specs.Lists.{same, occ}
use Rattle.record_pool.specs.Chains.{Chained}
use Rattle.record_pool.specs.Pool.{next_at, used_of, free_of, rules_ok, with_header, with_next}
use Rattle.pool_laws.specs.Rules.{up_from}
use Rattle.pool_drawers.specs.Drawers.{laid_records, laid_out}
use Rattle.record_pool.proofs.Occ.{Either, equal, other, either, same_other}
use Rattle.record_pool.proofs.Bytes.{Agree, agree_trans, next_agrees}
use Rattle.record_pool.proofs.Writes.{count_agrees, used_agrees, free_agrees, header_length, header_count, header_used, header_free, next_length, next_next, next_others, next_header}
use Rattle.record_pool.proofs.Passing.{RulesAt, used_of_lem, free_of_lem, passing}

-- What the first k records lead to once they are laid.
abbrev led : ℕ → ℕ
led i = cond (eqb i 30) 0 (suc i)

led_small : (i : ℕ) → i ≤ 30 → led i ≤ 30
led_small i h = go (eqb i 30) refl
  where
    go : (b : Bool) → eqb i 30 ≡ b → cond b 0 (suc i) ≤ 30
    go true e = omega arith
    go false e = let n : i ≢ 30 = eqb-false i 30 e in omega arith

module _ (xs : List ℕ) (size : length xs ≡ 61472) where
  pub laid_size : (k : ℕ) → k ≤ 30 → length (laid_records k xs) ≡ 61472
  unfolding laid_records
  laid_size zero h = size
  laid_size (suc k) h = next_length (laid_records k xs) (suc k) (led (suc k)) (laid_size k (omega arith)) (omega arith) h

  laid_header : (k : ℕ) → k ≤ 30 → Agree 0 32 xs (laid_records k xs)
  unfolding laid_records
  laid_header zero h = λ n a b. refl
  laid_header (suc k) h =
      agree_trans 0 32 xs (laid_records k xs) (laid_records (suc k) xs) (laid_header k (omega arith))
      (next_header (laid_records k xs) (suc k) (led (suc k)) (laid_size k (omega arith)) (omega arith) h)

  pub laid_next : (k i : ℕ) → k ≤ 30 → 1 ≤ i → i ≤ k → next_at (laid_records k xs) i ≡ led i
  unfolding laid_records
  laid_next zero i h l m = absurd (omega arith)
  laid_next (suc k) i h l m = go (either (suc k) i) (λ (q : i ≤ k). laid_next k i (omega arith) l q)
    where
      go : Either (suc k) i → (i ≤ k → next_at (laid_records k xs) i ≡ led i) → next_at (with_next (laid_records k xs) (suc k) (led (suc k))) i ≡ led i
      go (equal p e) rest =
          ap (next_at (with_next (laid_records k xs) (suc k) (led (suc k)))) (sym p)
          ∙ next_next (laid_records k xs) (suc k) (led (suc k)) (laid_size k (omega arith)) (omega arith) h (omega (arith, led_small (suc k) h)) ∙ ap led p
      go (other p e) rest =
          next_agrees (laid_records k xs) (with_next (laid_records k xs) (suc k) (led (suc k))) i
          (next_others (laid_records k xs) (suc k) (led (suc k)) (laid_size k (omega arith)) (omega arith) h i l (λ s. p (sym s)))
          ∙ rest (omega arith)

-- ---- the chain from 1 to 30.
up_chained : (f : ℕ → ℕ) → ((i : ℕ) → 1 ≤ i → i ≤ 30 → f i ≡ led i) → (k i : ℕ) → 1 ≤ i → i + k ≡ 30 → Chained f i (up_from (suc k) i)
up_chained f h zero i l e = (refl, l, h i l (omega arith) ∙ ap (λ (b : Bool). cond b 0 (suc i)) (eq-eqb i 30 (omega arith)))
up_chained f h (suc k) i l e =
    (refl, l, rw (h i l (omega arith) ∙ ap (λ (b : Bool). cond b 0 (suc i)) (ne_eqb i 30 (λ q. omega arith))) (up_chained f h k (suc i) (omega arith) (omega arith)))

up_none : (k i j : ℕ) → j < i → occ j (up_from k i) ≡ 0
up_none zero i j h = refl
up_none (suc k) i j h = omega (arith, same_other i j (λ e. omega arith), up_none k (suc i) j (omega arith))

up_occ : (k i j : ℕ) → i ≤ j → j < i + k → occ j (up_from k i) ≡ 1
up_occ zero i j h l = absurd (omega arith)
up_occ (suc k) i j h l = go (either i j) (λ (q : suc i ≤ j). up_occ k (suc i) j q (omega arith))
  where
    go : Either i j → (suc i ≤ j → occ j (up_from k (suc i)) ≡ 1) → same i j + occ j (up_from k (suc i)) ≡ 1
    go (equal p e) rest = omega (arith, up_none k (suc i) j (omega arith))
    go (other p e) rest = omega (arith, rest (omega arith))

up_within : (k i j : ℕ) → 0 < occ j (up_from k i) → (i ≤ j) × (j < i + k)
up_within zero i j h = absurd (omega arith)
up_within (suc k) i j h = go (either i j) (λ (q : 0 < occ j (up_from k (suc i))). up_within k (suc i) j q)
  where
    go : Either i j → (0 < occ j (up_from k (suc i)) → (suc i ≤ j) × (j < suc i + k)) → (i ≤ j) × (j < i + suc k)
    go (equal p e) rest = omega arith
    go (other p e) rest = let w : (suc i ≤ j) × (j < suc i + k) = rest (omega arith) in omega arith

-- ---- laid over any bytes.
module _ (zs : List ℕ) (size : length zs ≡ 61472) where
  room : 32 ≤ length zs
  room = omega arith

  abbrev headed : List ℕ
  headed = with_header zs 0 0 1

  headed_size : length headed ≡ 61472
  headed_size = header_length zs 0 0 1 room ∙ size

  abbrev laid : List ℕ
  laid = laid_records 30 headed

  header : Agree 0 32 headed laid
  header = laid_header headed headed_size 30 (omega arith)

  pub laid_rules : RulesAt laid [] (up_from 30 1)
  laid_rules = record {
    walk_used = used_agrees headed laid header ∙ header_used zs 0 0 1 room (omega arith);
    walk_free =
        rw (free_agrees headed laid header ∙ header_free zs 0 0 1 room (omega arith))
        (up_chained (next_at laid) (λ i h k. laid_next headed headed_size 30 i (omega arith) h k) 29 1 (omega arith) (omega arith));
    counted = count_agrees headed laid header ∙ header_count zs 0 0 1 room (omega arith);
    once = λ j h k. omega (arith, up_occ 30 1 j h (omega arith));
    within = λ j k. let w : (1 ≤ j) × (j < 1 + 30) = up_within 30 1 j (omega arith) in omega arith;
    ranged = λ j k. absurd (omega arith);
    apart = λ n. omega arith;
    flagged = λ j k. absurd (omega arith);
  }

  pub laid_passes : rules_ok laid ≡ true
  laid_passes = passing laid [] (up_from 30 1) (laid_size headed headed_size 30 (omega arith)) laid_rules

  pub laid_used : used_of laid ≡ []
  laid_used = used_of_lem laid [] (up_from 30 1) (laid_size headed headed_size 30 (omega arith)) laid_rules

  pub laid_free : free_of laid ≡ up_from 30 1
  laid_free = free_of_lem laid [] (up_from 30 1) (laid_size headed headed_size 30 (omega arith)) laid_rules

-- ---- the empty pool.
pub empty_passes : rules_ok laid_out ≡ true
unfolding laid_out
empty_passes = laid_passes (replicate 61472 0) (length-replicate {A = ℕ} 61472 0)

pub empty_used : used_of laid_out ≡ []
unfolding laid_out
empty_used = laid_used (replicate 61472 0) (length-replicate {A = ℕ} 61472 0)

pub empty_free : free_of laid_out
    ≡ 1 ∷ 2 ∷ 3 ∷ 4 ∷ 5 ∷ 6 ∷ 7 ∷ 8 ∷ 9 ∷ 10 ∷ 11 ∷ 12 ∷ 13 ∷ 14 ∷ 15 ∷ 16 ∷ 17 ∷ 18 ∷ 19 ∷ 20 ∷ 21 ∷ 22 ∷ 23 ∷ 24 ∷ 25 ∷ 26 ∷ 27 ∷ 28 ∷ 29 ∷ 30 ∷ []
unfolding laid_out
empty_free = laid_free (replicate 61472 0) (length-replicate {A = ℕ} 61472 0)
