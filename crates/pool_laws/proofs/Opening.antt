-- A pool that passes 13 still passes it after an opening, which leaves the other drawers. Assumes nothing.
use mathlib.Core.Path.{◌≡◌, sym, ap, ◌∙◌}
use mathlib.Core.Logic.{◌≢◌}
use mathlib.Core.Bool.{true}
use mathlib.Core.List.{List, ◌∷◌, map}
use Prim.Native.Nat.{ℕ, ◌+◌, ◌≤◌, ◌<◌}
use native.Mathlib.Omega.{arith}
use lib.ListN.{length}
use Rattle.record_pool.specs.Lists.{same, occ}
use Rattle.record_pool.specs.Chains.{Rules, holder}
use Rattle.record_pool.specs.Pool.{place, count_of, first_used, first_free, next_at, number_at, flags_at, state_at, used_of, free_of, rules_ok, record_of, with_header, with_record, opened}
use Rattle.record_pool.proofs.Occ.{same_refl}
use Rattle.pool_laws.proofs.Kept.{open_kept}
use Rattle.record_pool.proofs.Bytes.{Agree, agree_trans, behind_next, next_agrees, number_agrees, flags_agree, state_agrees}
use Rattle.record_pool.proofs.Finding.{not_held, holder_agrees, passed_first, found_first}
use Rattle.record_pool.proofs.Writes.{flags_in, count_agrees, used_agrees, free_agrees, header_length, header_count, header_used, header_free, header_leaves, record_length, record_next, record_number, record_flags, record_others, record_header}
use Rattle.record_pool.proofs.Passing.{once_only, RulesAt, passes_size, passes, used_of_lem, free_of_lem, passing, within_used, count_small, start_small, not_empty}

-- ---- opening.
module _ (xs : List ℕ) (d : ℕ) (rest : List ℕ) (ok : rules_ok xs ≡ true) (spare : 0 < first_free xs) (low : 1 ≤ d) (high : d ≤ 65535)
    (new : record_of xs d ≡ 0) (len : length rest ≡ 2040) (fine : flags_in rest ≡ true) where
  abbrev i : ℕ
  i = first_free xs

  size : length xs ≡ 61472
  size = passes_size xs ok

  room : 32 ≤ length xs
  room = omega (arith, size)

  rules : RulesAt xs (used_of xs) (free_of xs)
  rules = passes xs ok

  free_split : (t : List ℕ) × (free_of xs ≡ i ∷ t)
  free_split = not_empty (next_at xs) i (free_of xs) rules.walk_free spare

  abbrev others : List ℕ
  others = free_split.0

  rules' : RulesAt xs (used_of xs) (i ∷ others)
  rules' = rw free_split.1 at rules

  i_range : (1 ≤ i) × (i ≤ 30)
  i_range = rules'.within i (omega (arith, same_refl i))

  used_small : first_used xs ≤ 30
  used_small = start_small (next_at xs) (first_used xs) (used_of xs) rules'.walk_used (within_used rules')

  next_small : next_at xs i ≤ 30
  next_small = start_small (next_at xs) (next_at xs i) others rules'.walk_free.2 (λ j k. rules'.within j (omega arith))

  abbrev headed : List ℕ
  headed = with_header xs (count_of xs + 1) i (next_at xs i)

  headed_size : length headed ≡ 61472
  headed_size = header_length xs (count_of xs + 1) i (next_at xs i) room ∙ size

  abbrev after : List ℕ
  after = with_record headed i (first_used xs) d rest

  pub opened_size : length (opened xs d rest) ≡ 61472
  unfolding opened
  opened_size = record_length headed i (first_used xs) d rest headed_size i_range.0 i_range.1 len

  -- Every other record's bytes stay.
  after_others : (j : ℕ) → 1 ≤ j → j ≢ i → Agree (place j) (place j + 2048) xs after
  after_others j h n =
      agree_trans (place j) (place j + 2048) xs headed after (header_leaves xs (count_of xs + 1) i (next_at xs i) room j)
      (record_others headed i (first_used xs) d rest headed_size i_range.0 i_range.1 len j h n)

  after_rests : (j : ℕ) → 1 ≤ j → j ≢ i → Agree (place j + 4) (place j + 2048) xs after
  after_rests j h n = behind_next xs after j (after_others j h n)

  after_header : Agree 0 32 headed after
  after_header = record_header headed i (first_used xs) d rest headed_size i_range.0 i_range.1 len

  new_there : occ d (map (number_at xs) (used_of xs)) ≡ 0
  unfolding record_of
  new_there = not_held (number_at xs) d (used_of xs) (λ j k. (within_used rules' j k).0) new

  kept : Rules (count_of xs + 1) i (next_at xs i) (next_at after) (number_at after) (flags_at after) (i ∷ used_of xs) others
  kept = open_kept (count_of xs) (first_used xs) i d (next_at xs) (number_at xs) (flags_at xs) (used_of xs) others rules' (next_at after) (number_at after) (flags_at after)
      (record_next headed i (first_used xs) d rest headed_size i_range.0 i_range.1 len (omega (arith, used_small)))
      (record_number headed i (first_used xs) d rest headed_size i_range.0 i_range.1 len (omega arith))
      (record_flags headed i (first_used xs) d rest headed_size i_range.0 i_range.1 len ∙ fine)
      (λ j h k n. next_agrees xs after j (after_others j h n))
      (λ j h k n. number_agrees xs after j (after_rests j h n))
      (λ j h k n. flags_agree xs after j (after_rests j h n))
      low high new_there

  opened_rules : RulesAt (opened xs d rest) (i ∷ used_of xs) others
  unfolding opened
  opened_rules =
      rw (count_agrees headed after after_header ∙ header_count xs (count_of xs + 1) i (next_at xs i) room (omega (arith, count_small rules')))
      (rw (used_agrees headed after after_header ∙ header_used xs (count_of xs + 1) i (next_at xs i) room (omega (arith, i_range.1)))
      (rw (free_agrees headed after after_header ∙ header_free xs (count_of xs + 1) i (next_at xs i) room (omega (arith, next_small))) kept))

  -- The opened pool passes 13; the first free record has become the first used.
  pub opened_passes : rules_ok (opened xs d rest) ≡ true
  opened_passes = passing (opened xs d rest) (i ∷ used_of xs) others opened_size opened_rules

  pub opened_used : used_of (opened xs d rest) ≡ first_free xs ∷ used_of xs
  opened_used = used_of_lem (opened xs d rest) (i ∷ used_of xs) others opened_size opened_rules

  pub opened_free : free_of xs ≡ first_free xs ∷ free_of (opened xs d rest)
  opened_free = free_split.1 ∙ ap (λ (l : List ℕ). i ∷ l) (sym (free_of_lem (opened xs d rest) (i ∷ used_of xs) others opened_size opened_rules))

  -- ---- the drawers.
  not_first : (j : ℕ) → 0 < occ j (used_of xs) → j ≢ i
  not_first j k e = omega (arith, once_only rules' j, ap (λ (n : ℕ). same n j) e, same_refl j)

  pub opened_number : number_at (opened xs d rest) i ≡ d
  unfolding opened
  opened_number = record_number headed i (first_used xs) d rest headed_size i_range.0 i_range.1 len (omega arith)

  pub opened_record : record_of (opened xs d rest) d ≡ first_free xs
  unfolding record_of
  opened_record = ap (holder (number_at (opened xs d rest)) d) opened_used ∙ found_first (number_at (opened xs d rest)) d i (used_of xs) opened_number

  pub opened_others : (e : ℕ) → e ≢ d → record_of (opened xs d rest) e ≡ record_of xs e
  unfolding record_of opened
  opened_others e n =
      ap (holder (number_at after) e) opened_used ∙ passed_first (number_at after) e i (used_of xs) (λ q. n (sym q ∙ opened_number))
      ∙ holder_agrees (number_at xs) (number_at after) e (used_of xs) (λ j k. number_agrees xs after j (after_rests j (within_used rules' j k).0 (not_first j k)))

  -- No other drawer's state changes.
  pub opened_states : (j : ℕ) → 0 < occ j (used_of xs) → state_at (opened xs d rest) j ≡ state_at xs j
  unfolding opened
  opened_states j k = state_agrees xs after j (after_rests j (within_used rules' j k).0 (not_first j k)) (opened_size ∙ sym size)
