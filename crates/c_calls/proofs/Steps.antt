-- The calls' shapes over plain variables. Assumes nothing.
use Rattle.std.specs.Prelude.{Result, Ok, Err, is_ok}
use Rattle.std.specs.Result.{result_unwrap_or}
use mathlib.Core.Path.{◌≡◌, refl, sym, ap, ◌∙◌}
use mathlib.Core.Bool.{Bool, true, false, cond, ◌&&◌, true≢false}
use mathlib.Core.List.{List, ◌∷◌}
use Prim.Native.Nat.{ℕ}
use lib.Dec.{eqb, leb}
use lib.IntN.{ℤ}
use lib.ListN.{length}
use lib.Ieee.{Float}
use Rattle.types.specs.Refusals.{number, answered, Answer}
use Rattle.types.specs.declared.Refusal.{Refusal}
use Rattle.types.specs.declared.Refusal.TheVariants.{Range, Length}
use Rattle.descriptor.specs.Checks.{sizes_ok}
use Rattle.predictorcorrector.specs.declared.PredictorCorrector.{PredictorCorrector}
use Rattle.layout.specs.Numbers.{written_of}
use Rattle.layout.specs.Places.{state_length}
use Rattle.layout.specs.Chain.{decode_state, encode_state_over, state_codes_ok, read_state}
use Rattle.layout.specs.Left.{left}
use Rattle.corrector.specs.Corrector as Corrector
use Rattle.calls.specs.declared.Missing.{Missing}
use Rattle.calls.specs.Calls as Calls
use Rattle.c_calls.specs.Buffers.{filled, filled_by, placed_by, likely_missing_indices, apply_basic_corrector, corrector_answer, updated_by, update_auto_adjust}
use Rattle.layout.specs.InPlace.{stored_by}
use Rattle.types.specs.declared.Updated.{Updated}

-- A call that was passed on, answered by n.
pub passed_on : (a b : Answer) (n : ℕ) (new out out' : List Float) → b ≡ a → n ≡ answered b → out' ≡ Calls.written a new out → filled n out' ≡ filled_by a new out
unfolding filled_by
passed_on a b n new out out' p q w = λ i. filled ((q ∙ ap answered p) i) (w i)

-- ---- likely_missing_indices.
module _ (shingle base gap : ℕ) (high low : List Float) (out : List ℕ) where
  pub missing_range : sizes_ok shingle base ≡ false → left 2 out ≡ likely_missing_indices shingle base gap high low out
  unfolding likely_missing_indices
  missing_range s = rw s

  module _ (s : sizes_ok shingle base ≡ true) where
    pub missing_length : eqb (length out) 8 ≡ false → left 3 out ≡ likely_missing_indices shingle base gap high low out
    unfolding likely_missing_indices
    missing_length l = rw (s, l)

    module _ (l : eqb (length out) 8 ≡ true) (m : Result Missing Refusal) (e : m ≡ Calls.likely_missing_indices shingle base gap high low) where
      found : placed_by m out ≡ likely_missing_indices shingle base gap high low out
      unfolding likely_missing_indices
      found = ap (λ (u : Result Missing Refusal). placed_by u out) e ∙ rw (s, l)

      pub missing_placed : (u : Missing) (out' : List ℕ) → m ≡ Ok u → out' ≡ u.block ∷ u.start ∷ u.count ∷ u.indices → left 0 out' ≡ likely_missing_indices shingle base gap high low out
      unfolding placed_by
      missing_placed u out' d w =
          let done : left 0 out' ≡ placed_by m out = ap (left 0) w ∙ rw d in
          done ∙ found

      pub missing_refused : (why : Refusal) (n : ℕ) → m ≡ Err why → n ≡ number why → left n out ≡ likely_missing_indices shingle base gap high low out
      unfolding placed_by
      missing_refused why n d h =
          let kept : left n out ≡ placed_by m out = rw (h, d) in
          kept ∙ found

-- ---- apply_basic_corrector: its yes/no bytes.
module _ (point : List Float) (gap shingle base has : ℕ) (expected anomalous : List Float) (index : ℤ) (difference time : ℕ) (out : List Float) where
  pub bad_bytes : leb has 1 && (leb difference 1 && leb time 1) ≡ false
      → filled 2 out ≡ apply_basic_corrector point gap shingle base has expected anomalous index difference time out
  unfolding apply_basic_corrector corrector_answer filled_by Calls.written
  bad_bytes h = rw h

  pub corrected : leb has 1 && (leb difference 1 && leb time 1) ≡ true → (index' : ℤ) → index' ≡ index → (b : Answer) (n : ℕ) (out' : List Float)
      → b ≡ Calls.corrector_answer shingle base gap point (eqb has 1) expected anomalous (length out) → n ≡ answered b
      → out' ≡ Calls.written (Calls.corrector_answer shingle base gap point (eqb has 1) expected anomalous (length out))
      (Corrector.apply_basic_corrector point gap shingle base (eqb has 1) expected anomalous index' (eqb difference 1) (eqb time 1)) out
      → filled n out' ≡ apply_basic_corrector point gap shingle base has expected anomalous index difference time out
  unfolding apply_basic_corrector corrector_answer
  corrected h index' e b n out' p q w = passed_on _ b n _ out out' p q (rw e at w) ∙ rw h

-- ---- update_auto_adjust.
module _ (state : List ℕ) (shingle : ℕ) (point : List Float) where
  pub bad_codes : state_codes_ok state ≡ false → left 2 state ≡ update_auto_adjust state shingle point
  unfolding update_auto_adjust
  bad_codes c = rw c

  module _ (c : state_codes_ok state ≡ true) where
    -- Whether its length is that of a state is what is read of it.
    unread : (why : Refusal) → read_state state ≡ Err why → eqb (length state) state_length ≡ false
    unfolding read_state
    unread why = go (eqb (length state) state_length) (state_codes_ok state) c
      where
        go : (long codes : Bool) → codes ≡ true → cond long (cond codes (Ok (decode_state state)) (Err Range)) (Err Length) ≡ Err why → long ≡ false
        go true true p e = absurd (true≢false (ap is_ok e))
        go true false p e = absurd (true≢false (sym p))
        go false codes p e = refl

    module _ (why : Refusal) (e : read_state state ≡ Err why) where
      pub bad_length : sizes_ok shingle 1 ≡ true → left 3 state ≡ update_auto_adjust state shingle point
      unfolding update_auto_adjust
      bad_length s = rw (c, unread why e, s)

      pub bad_size : sizes_ok shingle 1 ≡ false → left 2 state ≡ update_auto_adjust state shingle point
      unfolding update_auto_adjust
      bad_size s = rw (c, unread why e, s)

    module _ (s : PredictorCorrector) (r : read_state state ≡ Ok s) (made : Updated PredictorCorrector) (m : made ≡ Calls.update_auto_adjust s shingle point) where
      read : (eqb (length state) state_length ≡ true) × (s ≡ decode_state state)
      unfolding read_state
      read = go (eqb (length state) state_length) (state_codes_ok state) r
        where
          go : (long codes : Bool) → cond long (cond codes (Ok (decode_state state)) (Err Range)) (Err Length) ≡ Ok s → (long ≡ true) × (s ≡ decode_state state)
          go true true e = (refl, ap (λ (u : Result PredictorCorrector Refusal). result_unwrap_or u s) (sym e))
          go true false e = absurd (true≢false (ap is_ok (sym e)))
          go false codes e = absurd (true≢false (ap is_ok (sym e)))

      through : updated_by made state ≡ update_auto_adjust state shingle point
      unfolding update_auto_adjust
      through =
          let from : made ≡ Calls.update_auto_adjust (decode_state state) shingle point = m ∙ ap (λ (t : PredictorCorrector). Calls.update_auto_adjust t shingle point) read.1 in
          ap (λ (u : Updated PredictorCorrector). updated_by u state) from ∙ rw (c, read.0)

      pub adjusted : (state' : List ℕ) → made.answer ≡ Ok tt → state' ≡ written_of state_length state (encode_state_over state made.state) → left 0 state' ≡ update_auto_adjust state shingle point
      unfolding stored_by written_of
      adjusted state' d w =
          let whole : state' ≡ encode_state_over state made.state = w ∙ rw read.0 in
          let done : left 0 state' ≡ updated_by made state = ap (left 0) whole ∙ rw d in
          done ∙ through

      pub unadjusted : (why : Refusal) (n : ℕ) → made.answer ≡ Err why → n ≡ number why → left n state ≡ update_auto_adjust state shingle point
      unfolding stored_by
      unadjusted why n d e =
          let kept : left n state ≡ updated_by made state = rw (e, d) in
          kept ∙ through
