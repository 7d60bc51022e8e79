-- The stored state's round trip, both ways: what this crate proves. Definitions only.
use Rattle.std.specs.Prelude.{ℕ, ◌<◌, ◌≡◌, List, length, get_or}
use Rattle.predictorcorrector.specs.declared.PredictorCorrector.{PredictorCorrector}
use Rattle.layout.specs.Places.{state_length}
use Rattle.layout.specs.Chain.{decode_state, encode_state_over}
use Rattle.stored_state.specs.Fits.{StateFits}
use Rattle.stored_state.specs.Canonical.{canonical, Plain}

-- The bytes of a stored state.
pub record Stored (xs : List ℕ) : Type 0 where
  pub size : length xs ≡ state_length
  pub bytes : (i : ℕ) → get_or xs i 0 < 256

pub record RoundTrip : Type 0 where
  -- A state that fits comes back from its bytes, put over any; there are as many as before.
  pub back : (xs : List ℕ) (s : PredictorCorrector) → length xs ≡ state_length → StateFits s → decode_state (encode_state_over xs s) ≡ s
  pub size : (xs : List ℕ) (s : PredictorCorrector) → length xs ≡ state_length → length (encode_state_over xs s) ≡ state_length
  -- Stored bytes hold a state that fits. Written back over them it leaves their canonical form, which holds the same state; without a NaN or a yes/no above 1 no
  -- byte changes.
  pub fits : (xs : List ℕ) → Stored xs → StateFits (decode_state xs)
  pub again : (xs : List ℕ) → Stored xs → encode_state_over xs (decode_state xs) ≡ canonical xs
  pub same : (xs : List ℕ) → Stored xs → decode_state (canonical xs) ≡ decode_state xs
  pub kept : (xs : List ℕ) → Stored xs → Plain xs → encode_state_over xs (decode_state xs) ≡ xs
