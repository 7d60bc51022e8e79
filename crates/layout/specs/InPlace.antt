-- The bytes of a stored state after a call. A reading: its scores enter the thresholder, and the run and the two lists change. A state that the reading does not fit,
-- that has a yes/no byte above 1, or that refusal 6 is of, is left alone, whole.
use Rattle.std.specs.Prelude.{ℕ, Bool, cond, ◌&&◌, List, length, ◌==◌, nat_le, Float, Ok, Err}
use Rattle.types.specs.declared.Refusal.TheVariants.{Range, Length, Count}
use Rattle.descriptor.specs.Checks.{sizes_ok, range_ok}
use Rattle.descriptor.specs.declared.Reading.{Reading}
use Rattle.descriptor.specs.declared.LastDescriptor.{LastDescriptor}
use Rattle.predictorcorrector.specs.State.{state, with_thresholder, with_run, update_score, state_counts_ok, longer_run, run_ended, auto_adjusted, candidate_counted}
use Rattle.basicthresholder.specs.declared.BasicThresholder.{BasicThresholder}
use Rattle.predictorcorrector.specs.declared.PredictorCorrector.{PredictorCorrector}
use Rattle.layout.specs.Places.{state_length}
use Rattle.layout.specs.Chain.{state_codes_ok, decode_state, encode_state_over}
use Rattle.types.specs.Refusals.{Answer}

-- The smallest refusal of a reading that the bytes xs meet: their yes/no bytes, and its sizes, as far as the state can be read; lengths, of which the caller tests the
-- others; counts.
unfoldable pub reading_answer : List ℕ → Reading → Bool → Answer
reading_answer xs r lengths =
    cond (state_codes_ok xs)
    (cond (length xs == state_length)
    (cond (range_ok r.shingle_size r.base_dimension (decode_state xs).base_dimension)
    (cond lengths (cond (state_counts_ok (decode_state xs)) (Ok tt) (Err Count)) (Err Length))
    (Err Range))
    (cond (sizes_ok r.shingle_size r.base_dimension) (Err Length) (Err Range)))
    (Err Range)

-- The point has at least as many numbers as the base.
abbrev pub row_in_point : Reading → ℕ → Bool
row_in_point r point = nat_le r.base_dimension point

-- The candidate branch's two rows have at least as many numbers as the base.
unfoldable pub rows_fit : Reading → (newest expected : ℕ) → Bool
rows_fit r newest expected = nat_le r.base_dimension newest && nat_le r.base_dimension expected

-- The bytes xs after a call that leaves the state s; a refused one leaves them as they came.
unfoldable pub stored_by : Answer → List ℕ → PredictorCorrector → List ℕ
stored_by (Ok _) xs s = encode_state_over xs s
stored_by (Err why) xs s = xs

-- The run of a stored state; 0 of a slice of another length.
unfoldable pub stored_run : List ℕ → ℕ
stored_run xs = cond (length xs == state_length) (decode_state xs).run_length 0

-- The run after a reading: longer by one where it grows.
unfoldable pub run_after : Bool → ℕ → ℕ
run_after grows run = cond grows (longer_run run) run

-- The thresholder of s with a reading's scores entered, `corrected` being the corrected point's.
abbrev pub scored : PredictorCorrector → Reading → LastDescriptor → (corrected : Float) → BasicThresholder
scored s r l corrected = update_score s.basic_thresholder r.scoring_strategy r.score corrected l.scoring_strategy l.score

-- What a reading leaves of a state s, t being that thresholder.
module _ (s : PredictorCorrector) (t : BasicThresholder) where
  abbrev pub entered : Bool → PredictorCorrector
  entered grows = with_run (with_thresholder s t) (run_after grows s.run_length) s.deviations_actual s.deviations_expected

  abbrev pub ended : PredictorCorrector
  ended = run_ended (with_thresholder s t)

  abbrev pub adjusted : List Float → PredictorCorrector
  adjusted point = auto_adjusted (with_thresholder s t) point

  abbrev pub counted : Bool → List Float → List Float → PredictorCorrector
  counted grows newest expected = candidate_counted (entered grows) newest expected

-- What a setter leaves: another thresholder, and the run that it hands on.
abbrev pub kept : PredictorCorrector → BasicThresholder → ℕ → PredictorCorrector
kept s t run = state t s.auto_adjust run s.base_dimension s.deviations_actual s.deviations_expected
