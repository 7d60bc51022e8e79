-- A record's state among the bytes of a pool. Assumes nothing.
use mathlib.Core.Path.{◌≡◌, sym, ap, subst, ◌∙◌}
use mathlib.Core.Bool.{true, ◌&&◌}
use mathlib.Core.List.{List, ◌++◌}
use Prim.Native.Nat.{ℕ, ◌+◌, ◌*◌, ◌≤◌, ◌<◌}
use native.Mathlib.Omega.{arith}
use lib.Dec.{leb}
use lib.ListN.{length, get_or, take, drop, length-drop, take-append-drop}
use lib.Seq.{length-take-le, get_or-take, get_or-drop, drop-drop}
use lib.Ieee.{of_bits, binary32}
use borrow.Author.Tests.{eq-eqb}
use Rattle.layout.specs.Places.{state_length}
use Rattle.layout.specs.Numbers.{le4, f32_at, pasted}
use Rattle.layout.specs.Chain.{state_codes_ok}
use Rattle.c_chain.specs.States.{chain_refusal}
use Rattle.record_pool.specs.Pool.{place, record_of, flags_at, state_at, with_state}
use Rattle.record_pool.specs.declared.Slot.{Slot}
use Rattle.record_pool.proofs.Passing.{passes}
use Rattle.record_pool.proofs.Locating.{Occupied, its_used}

-- ---- record i.
module _ (xs : List ℕ) (i : ℕ) where
  pub state_byte : (k : ℕ) → k < state_length → get_or (state_at xs i) k 0 ≡ get_or xs (place i + 8 + k) 0
  unfolding state_at
  state_byte k h = get_or-take state_length (drop (place i + 8) xs) k 0 h ∙ get_or-drop (place i + 8) xs k 0

  pub state_number : (k : ℕ) → k + 4 ≤ state_length → le4 (state_at xs i) k ≡ le4 xs (place i + 8 + k)
  unfolding le4
  state_number k h =
      let b : (m : ℕ) → m < 4 → get_or (state_at xs i) (k + m) 0 ≡ get_or xs (place i + 8 + k + m) 0 =
      λ m l. state_byte (k + m) (omega arith) ∙ ap (λ (n : ℕ). get_or xs n 0) (omega arith) in
      let a : get_or (state_at xs i) k 0 ≡ get_or xs (place i + 8 + k) 0 = state_byte k (omega arith) in
      λ t. a t + 0x100 * b 1 (omega arith) t + 0x1_0000 * b 2 (omega arith) t + 0x100_0000 * b 3 (omega arith) t

  pub state_single : (k : ℕ) → k + 4 ≤ state_length → f32_at (state_at xs i) k ≡ f32_at xs (place i + 8 + k)
  unfolding f32_at
  state_single k h = ap (of_bits binary32) (state_number k h)

  module _ (fits : place i + 8 + state_length ≤ length xs) where
    pub state_long : length (state_at xs i) ≡ state_length
    unfolding state_at
    state_long = length-take-le state_length (drop (place i + 8) xs) (omega (arith, length-drop (place i + 8) xs))

    joins : state_at xs i ++ drop (place i + 8 + state_length) xs ≡ drop (place i + 8) xs
    unfolding state_at
    joins =
        ap (λ (l : List ℕ). take state_length (drop (place i + 8) xs) ++ l) (sym (drop-drop state_length (place i + 8) xs))
        ∙ take-append-drop state_length (drop (place i + 8) xs)

    -- Its own bytes put over a state change nothing.
    pub state_kept : with_state xs i (state_at xs i) ≡ xs
    unfolding with_state pasted
    state_kept =
        ap (λ (n : ℕ). take (place i + 8) xs ++ (state_at xs i ++ drop (place i + 8 + n) xs)) state_long
        ∙ ap (λ (l : List ℕ). take (place i + 8) xs ++ l) joins ∙ take-append-drop (place i + 8) xs

    module _ (flags : flags_at xs i ≡ true) where
      codes : state_codes_ok (state_at xs i) ≡ true
      unfolding state_codes_ok flags_at
      codes =
          let a : get_or (state_at xs i) 124 0 ≡ get_or xs (place i + 132) 0 = state_byte 124 (omega arith) ∙ ap (λ (n : ℕ). get_or xs n 0) (omega arith) in
          let b : get_or (state_at xs i) 149 0 ≡ get_or xs (place i + 157) 0 = state_byte 149 (omega arith) ∙ ap (λ (n : ℕ). get_or xs n 0) (omega arith) in
          rw (eq-eqb (length (state_at xs i)) state_length state_long) ((λ t. leb (a t) 1 && leb (b t) 1) ∙ flags)

      -- The calls of the crate c_chain do not refuse it.
      pub state_ready : chain_refusal (state_at xs i) ≡ 0
      unfolding chain_refusal
      state_ready = rw (eq-eqb (length (state_at xs i)) state_length state_long, codes)

-- ---- the record of a drawer that is there.
module _ (xs : List ℕ) (d : ℕ) (s : Slot) (k : Occupied xs d s) where
  pub occupied_fits : place s.index + 8 + state_length ≤ length xs
  occupied_fits = omega (arith, k.place, k.room, k.size)

  pub occupied_ready : chain_refusal (state_at xs s.index) ≡ 0
  occupied_ready =
      let i : s.index ≡ record_of xs d = ap (λ (s : Slot). s.index) k.same in
      let flags = (passes xs k.ok).flagged (record_of xs d) (its_used xs d k.ok k.there) in
      state_ready xs s.index occupied_fits (subst (λ (j : ℕ). flags_at xs j ≡ true) (sym i) flags)
