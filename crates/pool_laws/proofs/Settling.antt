-- A pool that passes 13 still passes it after state bytes were put over those of a used record, which leaves the other drawers. Assumes nothing.
use mathlib.Core.Path.{◌≡◌, sym, ap, ◌∙◌}
use mathlib.Core.Logic.{◌≢◌}
use mathlib.Core.Bool.{true}
use mathlib.Core.List.{List}
use Prim.Native.Nat.{ℕ, ◌+◌, ◌≤◌, ◌<◌}
use lib.ListN.{length}
use Rattle.record_pool.specs.Lists.{occ}
use Rattle.record_pool.specs.Chains.{holder}
use Rattle.record_pool.specs.Pool.{place, count_of, first_used, first_free, next_at, number_at, flags_at, state_at, used_of, free_of, rules_ok, record_of, with_state}
use Rattle.record_pool.proofs.Occ.{Either, equal, other, either}
use Rattle.pool_laws.proofs.Kept.{kept_still}
use Rattle.record_pool.proofs.Bytes.{Agree, behind_next, next_agrees, number_agrees, flags_agree, state_agrees}
use Rattle.record_pool.proofs.Finding.{holder_agrees}
use Rattle.record_pool.proofs.Writes.{flags_in, count_agrees, used_agrees, free_agrees, state_length_lem, state_others, state_header, state_next, state_number, state_flags}
use Rattle.record_pool.proofs.Passing.{RulesAt, passes_size, passes, used_of_lem, free_of_lem, passing, within_used}

module _ (xs : List ℕ) (i : ℕ) (ys : List ℕ) (ok : rules_ok xs ≡ true) (used : 0 < occ i (used_of xs)) (low : 150 ≤ length ys) (high : length ys ≤ 2040) (fine : flags_in ys ≡ true) where
  abbrev settled : List ℕ
  settled = with_state xs i ys

  settled_range : (1 ≤ i) × (i ≤ 30)
  settled_range = within_used (passes xs ok) i used

  pub settled_size : length settled ≡ 61472
  settled_size = state_length_lem xs i ys (passes_size xs ok) settled_range.0 settled_range.1 high

  pub settled_others : (j : ℕ) → 1 ≤ j → j ≢ i → Agree (place j) (place j + 2048) xs settled
  settled_others j h n = state_others xs i ys (passes_size xs ok) settled_range.0 settled_range.1 high j h n

  settled_header : Agree 0 32 xs settled
  settled_header = state_header xs i ys (passes_size xs ok) settled_range.0 settled_range.1 high

  settled_next : (j : ℕ) → 1 ≤ j → j ≤ 30 → next_at settled j ≡ next_at xs j
  settled_next j h k = go (either i j)
    where
      go : Either i j → next_at settled j ≡ next_at xs j
      go (equal p e) = ap (next_at settled) (sym p) ∙ state_next xs i ys (passes_size xs ok) settled_range.0 settled_range.1 high ∙ ap (next_at xs) p
      go (other p e) = next_agrees xs settled j (settled_others j h (λ s. p (sym s)))

  pub settled_number : (j : ℕ) → 1 ≤ j → j ≤ 30 → number_at settled j ≡ number_at xs j
  settled_number j h k = go (either i j)
    where
      go : Either i j → number_at settled j ≡ number_at xs j
      go (equal p e) = ap (number_at settled) (sym p) ∙ state_number xs i ys (passes_size xs ok) settled_range.0 settled_range.1 high ∙ ap (number_at xs) p
      go (other p e) = number_agrees xs settled j (behind_next xs settled j (settled_others j h (λ s. p (sym s))))

  settled_flags : (j : ℕ) → 1 ≤ j → j ≤ 30 → flags_at xs j ≡ true → flags_at settled j ≡ true
  settled_flags j h k t = go (either i j)
    where
      go : Either i j → flags_at settled j ≡ true
      go (equal p e) = ap (flags_at settled) (sym p) ∙ state_flags xs i ys (passes_size xs ok) settled_range.0 settled_range.1 high low ∙ fine
      go (other p e) = flags_agree xs settled j (behind_next xs settled j (settled_others j h (λ s. p (sym s)))) ∙ t

  settled_rules : RulesAt settled (used_of xs) (free_of xs)
  settled_rules =
      rw (count_agrees xs settled settled_header) (rw (used_agrees xs settled settled_header) (rw (free_agrees xs settled settled_header)
      (kept_still (count_of xs) (first_used xs) (first_free xs) (next_at xs) (number_at xs) (flags_at xs) (used_of xs) (free_of xs) (next_at settled) (number_at settled) (flags_at settled)
      (passes xs ok) settled_next settled_number settled_flags)))

  pub settled_passes : rules_ok settled ≡ true
  settled_passes = passing settled (used_of xs) (free_of xs) settled_size settled_rules

  pub settled_used : used_of settled ≡ used_of xs
  settled_used = used_of_lem settled (used_of xs) (free_of xs) settled_size settled_rules

  pub settled_free : free_of settled ≡ free_of xs
  settled_free = free_of_lem settled (used_of xs) (free_of xs) settled_size settled_rules

  -- Every drawer is where it was, and every other drawer's state stays.
  pub settled_records : (e : ℕ) → record_of settled e ≡ record_of xs e
  unfolding record_of
  settled_records e =
      ap (holder (number_at settled) e) settled_used
      ∙ holder_agrees (number_at xs) (number_at settled) e (used_of xs) (λ j k. let w = within_used (passes xs ok) j k in settled_number j w.0 w.1)

  pub settled_states : (j : ℕ) → 1 ≤ j → j ≢ i → state_at settled j ≡ state_at xs j
  settled_states j h n = state_agrees xs settled j (behind_next xs settled j (settled_others j h n)) (settled_size ∙ sym (passes_size xs ok))
