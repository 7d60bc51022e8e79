-- What the header and a record say after each write. Assumes nothing.
use mathlib.Core.Path.{◌≡◌, refl, sym, ap, ap₂, ◌∙◌}
use mathlib.Core.Logic.{◌≢◌}
use mathlib.Core.Bool.{Bool, ◌&&◌}
use mathlib.Core.List.{List, [], ◌++◌}
use Prim.Native.Nat.{ℕ, ◌+◌, ◌≤◌, ◌<◌}
use native.Mathlib.Omega.{arith}
use lib.Dec.{leb}
use lib.ListN.{length, get_or, take, drop, length-append, length-take, length-drop}
use lib.Seq.{get_or-append-add, get_or-take, get_or-drop, ext_get_or}
use Rattle.layout.specs.Places.{state_length, auto_threshold_at, auto_adjust_at}
use Rattle.layout.specs.Numbers.{le4, bytes4, pasted}
use Rattle.layout.proofs.Pasting.{pasted_length}
use Rattle.record_pool.specs.Pool.{place, count_of, first_used, first_free, next_at, number_at, flags_at, with_header, with_next, with_record, with_state}
use Rattle.record_pool.proofs.Bytes.{Agree, byte_before, byte_behind, le4_agree, le4_within, byte_at, first_number, second_number, third_number, length_bytes4, place_high, others_agree, header_agrees, records_agree}

-- Of bytes that begin with a state's: its two yes/no bytes are 0 or 1. (`flags_at` says the same of a record of a pool.)
unfoldable pub flags_in : List ℕ → Bool
flags_in ys = leb (get_or ys auto_threshold_at 0) 1 && leb (get_or ys auto_adjust_at 0) 1

-- The three numbers of the header agree where its bytes do.
module _ (xs ys : List ℕ) (h : Agree 0 32 xs ys) where
  pub count_agrees : count_of ys ≡ count_of xs
  count_agrees = le4_agree 0 xs ys (λ n a b. h n (omega arith) (omega arith))

  pub used_agrees : first_used ys ≡ first_used xs
  used_agrees = le4_agree 4 xs ys (λ n a b. h n (omega arith) (omega arith))

  pub free_agrees : first_free ys ≡ first_free xs
  free_agrees = le4_agree 8 xs ys (λ n a b. h n (omega arith) (omega arith))

-- ---- the header.
module _ (xs : List ℕ) (c u f : ℕ) (size : 32 ≤ length xs) where
  header_bytes : length (bytes4 c ++ (bytes4 u ++ bytes4 f)) ≡ 12
  unfolding bytes4
  header_bytes = refl

  pub header_length : length (with_header xs c u f) ≡ length xs
  unfolding with_header
  header_length = pasted_length xs 0 (bytes4 c ++ (bytes4 u ++ bytes4 f)) (omega (arith, header_bytes))

  pub header_count : c < 0x1_0000_0000 → count_of (with_header xs c u f) ≡ c
  unfolding with_header
  header_count h = le4_within xs 0 (bytes4 c ++ (bytes4 u ++ bytes4 f)) 0 0 (omega arith) (omega (arith, header_bytes)) refl ∙ first_number c (bytes4 u ++ bytes4 f) h

  pub header_used : u < 0x1_0000_0000 → first_used (with_header xs c u f) ≡ u
  unfolding with_header
  header_used h = le4_within xs 0 (bytes4 c ++ (bytes4 u ++ bytes4 f)) 4 4 (omega arith) (omega (arith, header_bytes)) refl ∙ second_number c u (bytes4 f) h

  pub header_free : f < 0x1_0000_0000 → first_free (with_header xs c u f) ≡ f
  unfolding with_header
  header_free h = le4_within xs 0 (bytes4 c ++ (bytes4 u ++ bytes4 f)) 8 8 (omega arith) (omega (arith, header_bytes)) refl ∙ third_number c u f h

  pub header_leaves : (j : ℕ) → Agree (place j) (place j + 2048) xs (with_header xs c u f)
  unfolding with_header
  header_leaves j = records_agree xs (bytes4 c ++ (bytes4 u ++ bytes4 f)) (omega (arith, header_bytes)) j

-- ---- a record's next.
module _ (xs : List ℕ) (i next : ℕ) (size : length xs ≡ 61472) (low : 1 ≤ i) (high : i ≤ 30) where
  pub next_length : length (with_next xs i next) ≡ 61472
  unfolding with_next
  next_length = pasted_length xs (place i) (bytes4 next) (omega (arith, length_bytes4 next, place_high i low high)) ∙ size

  pub next_next : next < 0x1_0000_0000 → next_at (with_next xs i next) i ≡ next
  unfolding with_next next_at le4 bytes4
  next_next h = le4_within xs (place i) (bytes4 next) 0 (place i) (omega (arith, place_high i low high)) (omega arith) (omega arith) ∙ first_number next [] h

  pub next_others : (j : ℕ) → 1 ≤ j → j ≢ i → Agree (place j) (place j + 2048) xs (with_next xs i next)
  unfolding with_next
  next_others j h n = others_agree xs (place i) (bytes4 next) i size low high (omega arith) (omega (arith, length_bytes4 next)) j h n

  -- All of the record itself but its next stays.
  pub next_rest : Agree (place i + 4) (place i + 2048) xs (with_next xs i next)
  unfolding with_next
  next_rest n a b = byte_behind xs (place i) (bytes4 next) (omega (arith, place_high i low high)) n (omega (arith, length_bytes4 next))

  pub next_header : Agree 0 32 xs (with_next xs i next)
  unfolding with_next
  next_header = header_agrees xs (place i) (bytes4 next) i size low high (omega arith) (omega (arith, length_bytes4 next))

-- ---- a whole record.
behind_eight : (ps qs cs : List ℕ) (k : ℕ) → length ps ≡ 4 → length qs ≡ 4 → get_or (ps ++ (qs ++ cs)) (8 + k) 0 ≡ get_or cs k 0
behind_eight ps qs cs k p q =
    ap (λ (n : ℕ). get_or (ps ++ (qs ++ cs)) n 0) (omega arith)
    ∙ get_or-append-add ps (qs ++ cs) (length qs + k) 0 ∙ get_or-append-add qs cs k 0

module _ (xs : List ℕ) (i next d : ℕ) (rest : List ℕ) (size : length xs ≡ 61472) (low : 1 ≤ i) (high : i ≤ 30) (len : length rest ≡ 2040) where
  abbrev record_bytes : List ℕ
  record_bytes = bytes4 next ++ (bytes4 d ++ rest)

  bytes_length : length record_bytes ≡ 2048
  bytes_length = omega (arith, length-append (bytes4 next) (bytes4 d ++ rest), length-append (bytes4 d) rest, length_bytes4 next, length_bytes4 d)

  at_fits : place i ≤ length xs
  at_fits = omega (arith, place_high i low high)

  pub record_length : length (with_record xs i next d rest) ≡ 61472
  unfolding with_record
  record_length = pasted_length xs (place i) record_bytes (omega (arith, bytes_length, place_high i low high)) ∙ size

  pub record_next : next < 0x1_0000_0000 → next_at (with_record xs i next d rest) i ≡ next
  unfolding with_record next_at
  record_next h = le4_within xs (place i) record_bytes 0 (place i) at_fits (omega (arith, bytes_length)) (omega arith) ∙ first_number next (bytes4 d ++ rest) h

  pub record_number : d < 0x1_0000_0000 → number_at (with_record xs i next d rest) i ≡ d
  unfolding with_record number_at
  record_number h = le4_within xs (place i) record_bytes 4 (place i + 4) at_fits (omega (arith, bytes_length)) refl ∙ second_number next d rest h

  -- What stands behind the number.
  pub record_byte : (k j : ℕ) → k < 2040 → place i + 8 + k ≡ j → get_or (with_record xs i next d rest) j 0 ≡ get_or rest k 0
  unfolding with_record
  record_byte k j h e =
      byte_at xs (place i) record_bytes (8 + k) j at_fits (omega (arith, bytes_length)) (omega arith)
      ∙ behind_eight (bytes4 next) (bytes4 d) rest k (length_bytes4 next) (length_bytes4 d)

  -- The state's bytes.
  pub record_state : take state_length (drop (place i + 8) (with_record xs i next d rest)) ≡ take state_length rest
  record_state =
      let room = place_high i low high in
      let size' = record_length in
      ext_get_or 0 (take state_length (drop (place i + 8) (with_record xs i next d rest))) (take state_length rest)
      (omega (arith, length-take state_length (drop (place i + 8) (with_record xs i next d rest)), length-drop (place i + 8) (with_record xs i next d rest), length-take state_length rest))
      (λ k l. let b : k < state_length = omega (arith, length-take state_length (drop (place i + 8) (with_record xs i next d rest))) in
      get_or-take state_length (drop (place i + 8) (with_record xs i next d rest)) k 0 b ∙ get_or-drop (place i + 8) (with_record xs i next d rest) k 0
      ∙ record_byte k (place i + 8 + k) (omega arith) refl ∙ sym (get_or-take state_length rest k 0 b))

  pub record_flags : flags_at (with_record xs i next d rest) i ≡ flags_in rest
  unfolding flags_at flags_in
  record_flags =
      ap₂ (λ (a b : ℕ). leb a 1 && leb b 1) (record_byte 124 (place i + 132) (omega arith) (omega arith)) (record_byte 149 (place i + 157) (omega arith) (omega arith))

  pub record_others : (j : ℕ) → 1 ≤ j → j ≢ i → Agree (place j) (place j + 2048) xs (with_record xs i next d rest)
  unfolding with_record
  record_others j h n = others_agree xs (place i) record_bytes i size low high (omega arith) (omega (arith, bytes_length)) j h n

  pub record_header : Agree 0 32 xs (with_record xs i next d rest)
  unfolding with_record
  record_header = header_agrees xs (place i) record_bytes i size low high (omega arith) (omega (arith, bytes_length))

-- ---- state bytes: at most 2,040.
module _ (xs : List ℕ) (i : ℕ) (ys : List ℕ) (size : length xs ≡ 61472) (low : 1 ≤ i) (high : i ≤ 30) (len : length ys ≤ 2040) where
  pub state_length_lem : length (with_state xs i ys) ≡ 61472
  unfolding with_state
  state_length_lem = pasted_length xs (place i + 8) ys (omega (arith, place_high i low high)) ∙ size

  pub state_others : (j : ℕ) → 1 ≤ j → j ≢ i → Agree (place j) (place j + 2048) xs (with_state xs i ys)
  unfolding with_state
  state_others j h n = others_agree xs (place i + 8) ys i size low high (omega arith) (omega arith) j h n

  pub state_header : Agree 0 32 xs (with_state xs i ys)
  unfolding with_state
  state_header = header_agrees xs (place i + 8) ys i size low high (omega arith) (omega arith)

  fits_here : place i + 8 ≤ length xs
  fits_here = omega (arith, place_high i low high)

  pub state_next : next_at (with_state xs i ys) i ≡ next_at xs i
  unfolding with_state next_at
  state_next = le4_agree (place i) xs (pasted xs (place i + 8) ys) (λ n a b. byte_before xs (place i + 8) ys fits_here n (omega arith))

  pub state_number : number_at (with_state xs i ys) i ≡ number_at xs i
  unfolding with_state number_at
  state_number = le4_agree (place i + 4) xs (pasted xs (place i + 8) ys) (λ n a b. byte_before xs (place i + 8) ys fits_here n (omega arith))

  pub state_flags : 150 ≤ length ys → flags_at (with_state xs i ys) i ≡ flags_in ys
  unfolding with_state flags_at flags_in
  state_flags h =
      ap₂ (λ (a b : ℕ). leb a 1 && leb b 1)
      (byte_at xs (place i + 8) ys 124 (place i + 132) fits_here (omega arith) (omega arith))
      (byte_at xs (place i + 8) ys 149 (place i + 157) fits_here (omega arith) (omega arith))
