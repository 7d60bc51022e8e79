-- A pool that passes 13 still passes it after a removal, which leaves the other drawers. Assumes nothing.
use mathlib.Core.Path.{◌≡◌, refl, sym, ap, ◌∙◌}
use mathlib.Core.Logic.{◌≢◌}
use mathlib.Core.Bool.{Bool, true, false, cond}
use mathlib.Core.List.{List, [], ◌∷◌, ◌++◌, map}
use Prim.Native.Nat.{ℕ, zero, suc, ◌+◌, ◌-◌, ◌≤◌, ◌<◌}
use native.Mathlib.Omega.{arith}
use lib.Dec.{leb}
use lib.ListN.{length, get_or, replicate, length-append, length-replicate, get_or-replicate}
use borrow.Author.Tests.{ne_eqb, leb-true, leb-false}
use Rattle.layout.specs.Numbers.{bytes4}
use Rattle.record_pool.specs.Lists.{same, occ}
use Rattle.record_pool.specs.Chains.{Chained, Rules, holder}
use Rattle.record_pool.specs.Pool.{place, count_of, first_used, first_free, next_at, number_at, flags_at, state_at, used_of, free_of, rules_ok, record_of, front_of, with_header, with_next, with_record, unlinked, removed}
use Rattle.record_pool.proofs.Occ.{Either, equal, other, either, same_refl, occ_append}
use Rattle.record_pool.proofs.Chaining.{last_or, last_in, link_front, taken_out, chain_frame}
use Rattle.pool_laws.proofs.Kept.{remove_kept}
use Rattle.record_pool.proofs.Bytes.{Agree, agree_trans, byte_at, length_bytes4, place_high, behind_next, next_agrees, number_agrees, flags_agree, state_agrees}
use Rattle.record_pool.proofs.Finding.{Found, held, holder_agrees, passed, none_holds}
use Rattle.record_pool.proofs.Writes.{count_agrees, used_agrees, free_agrees, header_length, header_count, header_used, header_free, header_leaves, next_length, next_next, next_others, next_rest, next_header, record_length, record_next, record_byte, record_others, record_header}
use Rattle.record_pool.proofs.Passing.{once_only, RulesAt, passes_size, passes, used_of_lem, free_of_lem, passing, within_used, within_free, count_small, start_small}

-- ---- removing, whatever unlinked the record. us is ys, then the record i, then zs; mid is the pool with i unlinked.
module _ (xs mid : List ℕ) (i u' : ℕ) (rest ys zs fs : List ℕ) (size : length xs ≡ 61472) (r : RulesAt xs (ys ++ i ∷ zs) fs) (len : length rest ≡ 2040)
    (mid-size : length mid ≡ 61472) (mid-count : count_of mid ≡ count_of xs - 1) (mid-used : first_used mid ≡ u') (mid-free : first_free mid ≡ i)
    (mid-rests : (j : ℕ) → 1 ≤ j → j ≢ i → Agree (place j + 4) (place j + 2048) xs mid)
    (mid-next : (j : ℕ) → 0 < occ j fs → next_at mid j ≡ next_at xs j) (mid-walk : Chained (next_at mid) u' (ys ++ zs)) where
  mid_parts : (j : ℕ) → occ j (ys ++ i ∷ zs) ≡ same i j + occ j (ys ++ zs)
  mid_parts j = omega (arith, occ_append j ys (i ∷ zs), occ_append j ys zs)

  pub gone_range : (1 ≤ i) × (i ≤ 30)
  gone_range = r.within i (omega (arith, mid_parts i, same_refl i))

  free_small : first_free xs ≤ 30
  free_small = start_small (next_at xs) (first_free xs) fs r.walk_free (within_free r)

  pub stays : (j : ℕ) → 0 < occ j (ys ++ zs) + occ j fs → (1 ≤ j) × (j ≢ i)
  stays j k = (
    (r.within j (omega (arith, mid_parts j))).0,
    λ e. omega (arith, once_only r j, mid_parts j, ap (λ (n : ℕ). same n j) e, same_refl j),
  )

  abbrev gone : List ℕ
  gone = with_record mid i (first_free xs) 0 rest

  gone_others : (j : ℕ) → 1 ≤ j → j ≢ i → Agree (place j) (place j + 2048) mid gone
  gone_others j h n = record_others mid i (first_free xs) 0 rest mid-size gone_range.0 gone_range.1 len j h n

  pub gone_rests : (j : ℕ) → 1 ≤ j → j ≢ i → Agree (place j + 4) (place j + 2048) xs gone
  gone_rests j h n = agree_trans (place j + 4) (place j + 2048) xs mid gone (mid-rests j h n) (behind_next mid gone j (gone_others j h n))

  gone_next : (j : ℕ) → 1 ≤ j → j ≢ i → next_at gone j ≡ next_at mid j
  gone_next j h n = next_agrees mid gone j (gone_others j h n)

  gone_header : Agree 0 32 mid gone
  gone_header = record_header mid i (first_free xs) 0 rest mid-size gone_range.0 gone_range.1 len

  gone_kept : Rules (count_of xs - 1) u' i (next_at gone) (number_at gone) (flags_at gone) (ys ++ zs) (i ∷ fs)
  gone_kept = remove_kept (count_of xs) (first_used xs) u' (first_free xs) i (next_at xs) (number_at xs) (flags_at xs) ys zs fs r (next_at gone) (number_at gone) (flags_at gone)
      (record_next mid i (first_free xs) 0 rest mid-size gone_range.0 gone_range.1 len (omega (arith, free_small)))
      (chain_frame (next_at mid) (next_at gone) u' (ys ++ zs) (λ j k. let s = stays j (omega arith) in gone_next j s.0 s.1) mid-walk)
      (λ j k. let s = stays j (omega arith) in gone_next j s.0 s.1 ∙ mid-next j k)
      (λ j h k n. number_agrees xs gone j (gone_rests j h n))
      (λ j h k n. flags_agree xs gone j (gone_rests j h n))

  pub gone_size : length gone ≡ 61472
  gone_size = record_length mid i (first_free xs) 0 rest mid-size gone_range.0 gone_range.1 len

  pub gone_rules : RulesAt gone (ys ++ zs) (i ∷ fs)
  gone_rules =
      rw (count_agrees mid gone gone_header ∙ mid-count) (rw (used_agrees mid gone gone_header ∙ mid-used) (rw (free_agrees mid gone gone_header ∙ mid-free) gone_kept))

-- ---- the two ways of unlinking.
-- The first of the used chain.
module _ (xs : List ℕ) (i : ℕ) (rest zs fs : List ℕ) (size : length xs ≡ 61472) (r : RulesAt xs (i ∷ zs) fs) (len : length rest ≡ 2040) where
  abbrev first_mid : List ℕ
  first_mid = with_header xs (count_of xs - 1) (next_at xs i) i

  room1 : 32 ≤ length xs
  room1 = omega (arith, size)

  i_in : (1 ≤ i) × (i ≤ 30)
  i_in = r.within i (omega (arith, same_refl i))

  second_small : next_at xs i ≤ 30
  second_small = start_small (next_at xs) (next_at xs i) zs r.walk_used.2 (λ j k. r.within j (omega arith))

  first_leaves : (j : ℕ) → Agree (place j) (place j + 2048) xs first_mid
  first_leaves j = header_leaves xs (count_of xs - 1) (next_at xs i) i room1 j

  pub first_size : length first_mid ≡ 61472
  first_size = header_length xs (count_of xs - 1) (next_at xs i) i room1 ∙ size

  pub first_rests : (j : ℕ) → 1 ≤ j → j ≢ i → Agree (place j + 4) (place j + 2048) xs first_mid
  first_rests j h n = behind_next xs first_mid j (first_leaves j)

  pub first_count : count_of first_mid ≡ count_of xs - 1
  first_count = header_count xs (count_of xs - 1) (next_at xs i) i room1 (omega (arith, count_small r))

  pub first_used_lem : first_used first_mid ≡ next_at xs i
  first_used_lem = header_used xs (count_of xs - 1) (next_at xs i) i room1 (omega (arith, second_small))

  pub first_free_lem : first_free first_mid ≡ i
  first_free_lem = header_free xs (count_of xs - 1) (next_at xs i) i room1 (omega (arith, i_in.1))

  pub first_next : (j : ℕ) → next_at first_mid j ≡ next_at xs j
  first_next j = next_agrees xs first_mid j (first_leaves j)

  pub first_walk : Chained (next_at first_mid) (next_at xs i) zs
  first_walk = chain_frame (next_at xs) (next_at first_mid) (next_at xs i) zs (λ j k. first_next j) r.walk_used.2

-- A later one: p, the last of y ∷ ys, stands in front of it.
module _ (xs : List ℕ) (i y : ℕ) (rest ys zs fs : List ℕ) (size : length xs ≡ 61472) (r : RulesAt xs ((y ∷ ys) ++ i ∷ zs) fs) (len : length rest ≡ 2040) where
  abbrev p : ℕ
  p = last_or y ys

  abbrev later_head : List ℕ
  later_head = with_header xs (count_of xs - 1) (first_used xs) i

  abbrev later_mid : List ℕ
  later_mid = with_next later_head p (next_at xs i)

  room2 : 32 ≤ length xs
  room2 = omega (arith, size)

  later_parts : (j : ℕ) → occ j ((y ∷ ys) ++ i ∷ zs) ≡ occ j (y ∷ ys) + (same i j + occ j zs)
  later_parts j = occ_append j (y ∷ ys) (i ∷ zs)

  i_inside : (1 ≤ i) × (i ≤ 30)
  i_inside = r.within i (omega (arith, later_parts i, same_refl i))

  pub p_in : (1 ≤ p) × (p ≤ 30)
  p_in = r.within p (omega (arith, later_parts p, last_in y ys))

  pub p_not : p ≢ i
  p_not e = omega (arith, once_only r p, later_parts p, last_in y ys, ap (λ (n : ℕ). same n p) e, same_refl p)

  behind_small : next_at xs i ≤ 30
  behind_small =
      start_small (next_at xs) (next_at xs i) zs (link_front (next_at xs) (first_used xs) i (y ∷ ys) zs r.walk_used) (λ j k. r.within j (omega (arith, later_parts j)))

  front_small : first_used xs ≤ 30
  front_small = start_small (next_at xs) (first_used xs) ((y ∷ ys) ++ i ∷ zs) r.walk_used (within_used r)

  head_size : length later_head ≡ 61472
  head_size = header_length xs (count_of xs - 1) (first_used xs) i room2 ∙ size

  head_leaves : (j : ℕ) → Agree (place j) (place j + 2048) xs later_head
  head_leaves j = header_leaves xs (count_of xs - 1) (first_used xs) i room2 j

  pub later_size : length later_mid ≡ 61472
  later_size = next_length later_head p (next_at xs i) head_size p_in.0 p_in.1

  later_others : (j : ℕ) → 1 ≤ j → j ≢ p → Agree (place j) (place j + 2048) xs later_mid
  later_others j h n =
      agree_trans (place j) (place j + 2048) xs later_head later_mid (head_leaves j) (next_others later_head p (next_at xs i) head_size p_in.0 p_in.1 j h n)

  p_rest : Agree (place p + 4) (place p + 2048) xs later_mid
  p_rest =
      agree_trans (place p + 4) (place p + 2048) xs later_head later_mid (behind_next xs later_head p (head_leaves p))
      (next_rest later_head p (next_at xs i) head_size p_in.0 p_in.1)

  pub later_rests : (j : ℕ) → 1 ≤ j → j ≢ i → Agree (place j + 4) (place j + 2048) xs later_mid
  later_rests j h n = go (either p j)
    where
      go : Either p j → Agree (place j + 4) (place j + 2048) xs later_mid
      go (equal q e) = λ n a b. p_rest n (omega (arith, ap place q)) (omega (arith, ap place q))
      go (other q e) = behind_next xs later_mid j (later_others j h (λ s. q (sym s)))

  later_header : Agree 0 32 later_head later_mid
  later_header = next_header later_head p (next_at xs i) head_size p_in.0 p_in.1

  pub later_count : count_of later_mid ≡ count_of xs - 1
  later_count = count_agrees later_head later_mid later_header ∙ header_count xs (count_of xs - 1) (first_used xs) i room2 (omega (arith, count_small r))

  pub later_used : first_used later_mid ≡ first_used xs
  later_used = used_agrees later_head later_mid later_header ∙ header_used xs (count_of xs - 1) (first_used xs) i room2 (omega (arith, front_small))

  pub later_free : first_free later_mid ≡ i
  later_free = free_agrees later_head later_mid later_header ∙ header_free xs (count_of xs - 1) (first_used xs) i room2 (omega (arith, i_inside.1))

  pub later_next : (j : ℕ) → 1 ≤ j → j ≢ p → next_at later_mid j ≡ next_at xs j
  later_next j h n = next_agrees xs later_mid j (later_others j h n)

  pub later_next_free : (j : ℕ) → 0 < occ j fs → next_at later_mid j ≡ next_at xs j
  later_next_free j k =
      later_next j (within_free r j k).0 (λ e. omega (arith, once_only r j, later_parts j, ap (λ (n : ℕ). occ n (y ∷ ys)) e, last_in y ys))

  pub later_walk : Chained (next_at later_mid) (first_used xs) ((y ∷ ys) ++ zs)
  later_walk =
      taken_out (next_at xs) (next_at later_mid) (first_used xs) i y ys zs
      (λ j k n. later_next j (r.within j (omega (arith, later_parts j))).0 n)
      (next_next later_head p (next_at xs i) head_size p_in.0 p_in.1 (omega (arith, behind_small)))
      (λ j. omega (arith, once_only r j)) r.walk_used

-- ---- both ways. `out` is the pool afterwards.
no_number : (f : ℕ) (rest : List ℕ) (m : ℕ) → m < 4 → get_or (bytes4 f ++ (bytes4 0 ++ rest)) (4 + m) 0 ≡ 0
unfolding bytes4
no_number f rest zero l = refl
no_number f rest (suc zero) l = refl
no_number f rest (suc (suc zero)) l = refl
no_number f rest (suc (suc (suc zero))) l = refl
no_number f rest (suc (suc (suc (suc m)))) l = absurd (omega arith)

pub record Removal (xs out : List ℕ) (i : ℕ) (ys zs fs : List ℕ) : Type 0 where
  pub sized : length out ≡ 61472
  pub ruled : RulesAt out (ys ++ zs) (i ∷ fs)
  pub rests : (j : ℕ) → 1 ≤ j → j ≢ i → Agree (place j + 4) (place j + 2048) xs out
  pub zeros : (n : ℕ) → place i + 4 ≤ n → n < place i + 2048 → get_or out n 0 ≡ 0

module _ (xs : List ℕ) (i : ℕ) (zs fs : List ℕ) (size : length xs ≡ 61472) where
  abbrev nothing : List ℕ
  nothing = replicate 2040 0

  nothing_length : length nothing ≡ 2040
  nothing_length = length-replicate {A = ℕ} 2040 0

  -- The number's four bytes, and those behind it.
  zero_number : (mid : List ℕ) → length mid ≡ 61472 → 1 ≤ i → i ≤ 30 → (m n : ℕ) → m < 4 → place i + (4 + m) ≡ n → get_or (with_record mid i (first_free xs) 0 nothing) n 0 ≡ 0
  unfolding with_record
  zero_number mid ms h k m n l e =
      byte_at mid (place i) (bytes4 (first_free xs) ++ (bytes4 0 ++ nothing)) (4 + m) n (omega (arith, place_high i h k))
      (omega (arith, length-append (bytes4 (first_free xs)) (bytes4 0 ++ nothing), length-append (bytes4 0) nothing, length_bytes4 (first_free xs), length_bytes4 0, nothing_length)) e
      ∙ no_number (first_free xs) nothing m l

  zero_bytes : (mid : List ℕ) → length mid ≡ 61472 → 1 ≤ i → i ≤ 30
      → (n : ℕ) → place i + 4 ≤ n → n < place i + 2048 → get_or (with_record mid i (first_free xs) 0 nothing) n 0 ≡ 0
  zero_bytes mid ms h k n a b = go (leb (place i + 8) n) refl
    where
      go : (c : Bool) → leb (place i + 8) n ≡ c → get_or (with_record mid i (first_free xs) 0 nothing) n 0 ≡ 0
      go true e =
          let l : place i + 8 ≤ n = leb-true (place i + 8) n e in
          record_byte mid i (first_free xs) 0 nothing ms h k nothing_length (n - (place i + 8)) n (omega arith) (omega arith)
          ∙ get_or-replicate {A = ℕ} 2040 (n - (place i + 8)) 0 0 (omega arith)
      go false e = let l : n < place i + 8 = leb-false (place i + 8) n e in zero_number mid ms h k (n - (place i + 4)) n (omega arith) (omega arith)

  first_removal : RulesAt xs (i ∷ zs) fs → Removal xs (removed xs 0 i) i [] zs fs
  unfolding removed unlinked
  first_removal r =
      let mid : List ℕ = with_header xs (count_of xs - 1) (next_at xs i) i in
      let ms = first_size xs i nothing zs fs size r nothing_length in
      let mc = first_count xs i nothing zs fs size r nothing_length in
      let mu = first_used_lem xs i nothing zs fs size r nothing_length in
      let mf = first_free_lem xs i nothing zs fs size r nothing_length in
      let mr = first_rests xs i nothing zs fs size r nothing_length in
      let mn : (j : ℕ) → 0 < occ j fs → next_at mid j ≡ next_at xs j = λ j k. first_next xs i nothing zs fs size r nothing_length j in
      let mw = first_walk xs i nothing zs fs size r nothing_length in
      let w = gone_range xs mid i (next_at xs i) nothing [] zs fs size r nothing_length ms mc mu mf mr mn mw in
      record {
        sized = gone_size xs mid i (next_at xs i) nothing [] zs fs size r nothing_length ms mc mu mf mr mn mw;
        ruled = gone_rules xs mid i (next_at xs i) nothing [] zs fs size r nothing_length ms mc mu mf mr mn mw;
        rests = gone_rests xs mid i (next_at xs i) nothing [] zs fs size r nothing_length ms mc mu mf mr mn mw;
        zeros = zero_bytes mid ms w.0 w.1;
      }

  later_removal : (y : ℕ) (ys : List ℕ) → RulesAt xs ((y ∷ ys) ++ i ∷ zs) fs
      → Removal xs (with_record (with_next (with_header xs (count_of xs - 1) (first_used xs) i) (last_or y ys) (next_at xs i)) i (first_free xs) 0 nothing) i (y ∷ ys) zs fs
  later_removal y ys r =
      let mid : List ℕ = with_next (with_header xs (count_of xs - 1) (first_used xs) i) (last_or y ys) (next_at xs i) in
      let ms = later_size xs i y nothing ys zs fs size r nothing_length in
      let mc = later_count xs i y nothing ys zs fs size r nothing_length in
      let mu = later_used xs i y nothing ys zs fs size r nothing_length in
      let mf = later_free xs i y nothing ys zs fs size r nothing_length in
      let mr = later_rests xs i y nothing ys zs fs size r nothing_length in
      let mn = later_next_free xs i y nothing ys zs fs size r nothing_length in
      let mw = later_walk xs i y nothing ys zs fs size r nothing_length in
      let w = gone_range xs mid i (first_used xs) nothing (y ∷ ys) zs fs size r nothing_length ms mc mu mf mr mn mw in
      record {
        sized = gone_size xs mid i (first_used xs) nothing (y ∷ ys) zs fs size r nothing_length ms mc mu mf mr mn mw;
        ruled = gone_rules xs mid i (first_used xs) nothing (y ∷ ys) zs fs size r nothing_length ms mc mu mf mr mn mw;
        rests = gone_rests xs mid i (first_used xs) nothing (y ∷ ys) zs fs size r nothing_length ms mc mu mf mr mn mw;
        zeros = zero_bytes mid ms w.0 w.1;
      }

  later_is : (p : ℕ) → p ≢ 0
      → with_record (with_next (with_header xs (count_of xs - 1) (first_used xs) i) p (next_at xs i)) i (first_free xs) 0 nothing ≡ removed xs p i
  unfolding removed unlinked
  later_is p n =
      ap (λ (b : Bool). with_record (cond b (with_header xs (count_of xs - 1) (next_at xs i) i)
      (with_next (with_header xs (count_of xs - 1) (first_used xs) i) p (next_at xs i))) i (first_free xs) 0 nothing) (sym (ne_eqb p 0 n))

  pub removal : (p : ℕ) (ys : List ℕ) → p ≡ last_or 0 ys → RulesAt xs (ys ++ i ∷ zs) fs → Removal xs (removed xs p i) i ys zs fs
  removal p [] e r = rw e (first_removal r)
  removal p (y ∷ ys) e r =
      let n : last_or y ys ≢ 0 = λ q. omega (arith, (p_in xs i y nothing ys zs fs size r nothing_length).0) in
      rw e (rw (later_is (last_or y ys) n) at (later_removal y ys r))

-- ---- removing drawer d.
module _ (xs : List ℕ) (d : ℕ) (ok : rules_ok xs ≡ true) (there : 0 < record_of xs d) where
  abbrev it : ℕ
  it = record_of xs d

  abbrev out : List ℕ
  out = removed xs (front_of xs d) it

  found : Found (number_at xs) d 0 (used_of xs) it
  unfolding record_of
  found = held (number_at xs) d 0 (used_of xs) there

  fronts : front_of xs d ≡ last_or 0 found.before
  unfolding front_of
  fronts = found.front

  pool_rules : RulesAt xs (found.before ++ it ∷ found.behind) (free_of xs)
  pool_rules = rw found.whole at (passes xs ok)

  all_of_it : Removal xs out it found.before found.behind (free_of xs)
  all_of_it = removal xs it found.behind (free_of xs) (passes_size xs ok) (front_of xs d) found.before fronts pool_rules

  -- The pool passes 13; the record has become the first free, and the used chain is what it was without it.
  pub removed_passes : rules_ok out ≡ true
  removed_passes = passing out (found.before ++ found.behind) (it ∷ free_of xs) all_of_it.sized all_of_it.ruled

  pub removed_free : free_of out ≡ record_of xs d ∷ free_of xs
  removed_free = free_of_lem out (found.before ++ found.behind) (it ∷ free_of xs) all_of_it.sized all_of_it.ruled

  used_after : used_of out ≡ found.before ++ found.behind
  used_after = used_of_lem out (found.before ++ found.behind) (it ∷ free_of xs) all_of_it.sized all_of_it.ruled

  pub removed_used : (ys : List ℕ) × (zs : List ℕ) × (used_of xs ≡ ys ++ record_of xs d ∷ zs) × (used_of out ≡ ys ++ zs)
  removed_used =
      (found.before, found.behind, found.whole, used_after)

  pub removed_zeros : (n : ℕ) → place it + 4 ≤ n → n < place it + 2048 → get_or out n 0 ≡ 0
  removed_zeros = all_of_it.zeros

  -- No other drawer's record or state changes.
  other_record : (j : ℕ) → 0 < occ j (found.before ++ found.behind) → (1 ≤ j) × (j ≢ it)
  other_record j k =
      let a = occ_append j found.before (it ∷ found.behind) in
      let b = occ_append j found.before found.behind in
      ((pool_rules.within j (omega arith)).0, λ e. omega (arith, once_only pool_rules j, ap (λ (n : ℕ). same n j) e, same_refl j))

  pub removed_others : (e : ℕ) → e ≢ d → record_of out e ≡ record_of xs e
  unfolding record_of
  removed_others e n =
      ap (holder (number_at out) e) used_after
      ∙ holder_agrees (number_at xs) (number_at out) e (found.before ++ found.behind)
      (λ j k. let o = other_record j k in number_agrees xs out j (all_of_it.rests j o.0 o.1))
      ∙ sym (passed (number_at xs) e it found.before found.behind (λ q. n (sym q ∙ found.has)))
      ∙ ap (holder (number_at xs) e) (sym found.whole)

  pub removed_states : (j : ℕ) → 0 < occ j (used_of xs) → j ≢ it → state_at out j ≡ state_at xs j
  removed_states j k n =
      state_agrees xs out j (all_of_it.rests j ((passes xs ok).within j (omega arith)).0 n) (all_of_it.sized ∙ sym (passes_size xs ok))

  -- The drawer is no longer there.
  occ_mid_map : (f : ℕ → ℕ) (n i : ℕ) (ys zs : List ℕ) → occ n (map f (ys ++ i ∷ zs)) ≡ same (f i) n + occ n (map f (ys ++ zs))
  occ_mid_map f n i [] zs = refl
  occ_mid_map f n i (y ∷ ys) zs = omega (arith, occ_mid_map f n i ys zs)

  pub removed_gone : record_of out d ≡ 0
  unfolding record_of
  removed_gone =
      ap (holder (number_at out) d) used_after
      ∙ holder_agrees (number_at xs) (number_at out) d (found.before ++ found.behind)
      (λ j k. let o = other_record j k in number_agrees xs out j (all_of_it.rests j o.0 o.1))
      ∙ none_holds (number_at xs) d (found.before ++ found.behind)
      (omega (arith, pool_rules.apart d, occ_mid_map (number_at xs) d it found.before found.behind, ap (λ (n : ℕ). same n d) found.has, same_refl d))
