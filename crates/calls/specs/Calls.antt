-- The calls on a reading's buffers that predictorcorrector.rs has public, and what its detect_and_modify asks the forest for: what each answers, and what it leaves
-- in its buffer or state.
use Rattle.std.specs.Prelude.{ℕ, ◌-◌, ◌*◌, ◌≡◌, Bool, true, false, cond, ◌&&◌, List, [], ◌∷◌, leb, ltb, eqb, length, take, ℤ, Float, Result, Ok, Err}
use Rattle.types.specs.Codes.{is_differenced}
use Rattle.types.specs.declared.Refusal.{Refusal}
use Rattle.types.specs.declared.Refusal.TheVariants.{Range, Length, NotFinite, ValuesSeen, Count}
use Rattle.descriptor.specs.Checks as Checks
use Rattle.descriptor.specs.Checks.{sizes_ok, dimension, range_ok, seen_ok, last_points_ok, numbers_finite, all_finite}
use Rattle.descriptor.specs.declared.Reading.{Reading}
use Rattle.descriptor.specs.declared.LastDescriptor.{LastDescriptor}
use Rattle.scoring.specs.Scores.{gap_of, is_recent}
unfoldable pub use Rattle.scoring.specs.Scores.{block_of}
use Rattle.attributors.specs.Attributors.{asked}
use Rattle.divector.specs.DiVector.{max_gap_contribution}
use Rattle.corrector.specs.Corrector.{predicted, expected_point, apply_basic_corrector}
use Rattle.predictorcorrector.specs.State.{auto_adjusted, state_counts_ok}
use Rattle.predictorcorrector.specs.declared.PredictorCorrector.{PredictorCorrector}
use Rattle.calls.specs.declared.Missing.{Missing}
use Rattle.calls.specs.declared.Asked.{Asked}
use Rattle.types.specs.declared.Updated.{Updated}
use Rattle.types.specs.Refusals.{Answer}

-- The first test that fails names the refusal: 2, 3, 4, then the call's own.
unfoldable pub first_refusal : Bool → Bool → Bool → Answer → Answer
first_refusal sizes lengths finite last =
    cond sizes (cond lengths (cond finite last (Err NotFinite)) (Err Length)) (Err Range)

-- What a buffer holds afterwards: the new contents of a call that was carried out.
unfoldable pub written : Answer → List Float → List Float → List Float
written (Ok _) new old = new
written (Err why) new old = old

-- ---- expected_point
-- A start position is not beyond D - base.
unfoldable pub start_ok : ℕ → ℕ → ℕ → Bool
start_ok position d base = leb position (d - base)

-- Every buffer is D long, and the row from position on lies within.
unfoldable pub expected_lengths : (d base position point high low median out : ℕ) → Bool
expected_lengths d base position point high low median out =
    eqb point d && (eqb high d && (eqb low d && (eqb median d && (eqb out d && start_ok position d base))))

unfoldable pub expected_finite : List Float → List Float → List Float → List Float → Bool
expected_finite point high low median = all_finite point && (all_finite high && (all_finite low && all_finite median))

unfoldable pub expected_answer : (shingle base position : ℕ) → (point high low median : List Float) → (out : ℕ) → Answer
expected_answer shingle base position point high low median out =
    first_refusal (sizes_ok shingle base)
    (expected_lengths (dimension shingle base) base position (length point) (length high) (length low) (length median) out)
    (expected_finite point high low median)
    (Ok tt)

-- The buffer afterwards.
abbrev pub expected_left : (shingle base position : ℕ) → (point high low median out : List Float) → List Float
expected_left shingle base position point high low median out =
    written (expected_answer shingle base position point high low median (length out)) (expected_point high low position base point median) out

-- ---- apply_basic_corrector
unfoldable pub corrector_lengths : (d point out : ℕ) → Bool → (expected anomalous : ℕ) → Bool
corrector_lengths d point out has_anomaly expected anomalous = eqb point d && (eqb out d && last_points_ok has_anomaly d expected anomalous)

-- Behind a no the last points are not looked at.
unfoldable pub last_finite : Bool → List Float → List Float → Bool
last_finite has_anomaly expected anomalous = cond has_anomaly (all_finite expected && all_finite anomalous) true

unfoldable pub corrector_finite : List Float → Bool → List Float → List Float → Bool
corrector_finite point has_anomaly expected anomalous = all_finite point && last_finite has_anomaly expected anomalous

-- Refusal 5 for gap 0.
unfoldable pub gap_answer : ℕ → Answer
gap_answer gap = cond (eqb gap 0) (Err ValuesSeen) (Ok tt)

unfoldable pub corrector_answer : (shingle base gap : ℕ) → (point : List Float) → Bool → (expected anomalous : List Float) → (out : ℕ) → Answer
corrector_answer shingle base gap point has_anomaly expected anomalous out =
    first_refusal (sizes_ok shingle base)
    (corrector_lengths (dimension shingle base) (length point) out has_anomaly (length expected) (length anomalous))
    (corrector_finite point has_anomaly expected anomalous)
    (gap_answer gap)

-- The buffer afterwards.
abbrev pub corrector_left : (shingle base gap : ℕ) → (point : List Float) → Bool → (expected anomalous : List Float) → ℤ → Bool → Bool → (out : List Float) → List Float
corrector_left shingle base gap point has_anomaly expected anomalous relative_index use_difference time_augmented out =
    written (corrector_answer shingle base gap point has_anomaly expected anomalous (length out))
    (apply_basic_corrector point gap shingle base has_anomaly expected anomalous relative_index use_difference time_augmented)
    out

-- ---- likely_missing_indices: what the forest's conditional field is asked for
unfoldable pub missing_answer : (shingle base gap : ℕ) → (high low : List Float) → Answer
missing_answer shingle base gap high low =
    let d = dimension shingle base in
    first_refusal (sizes_ok shingle base) (eqb (length high) d && eqb (length low) d) (all_finite high && all_finite low) (gap_answer gap)

-- The block, where its row starts and the indices asked for in the row.
unfoldable pub missing_at : (high low : List Float) → (base block start : ℕ) → Missing
missing_at high low base block start =
    record { block = block; start = start; count = (asked high low start base).count; indices = (asked high low start base).indices }

-- The same of the block that contributes most.
unfoldable pub missing_within : (high low : List Float) → (base gap : ℕ) → Missing
missing_within high low base gap =
    let block = block_of (max_gap_contribution high low base gap) in
    missing_at high low base block (block * base)

unfoldable pub missing_by : Answer → (base gap : ℕ) → (high low : List Float) → Result Missing Refusal
missing_by (Ok _) base gap high low = Ok (missing_within high low base gap)
missing_by (Err why) base gap high low = Err why

unfoldable pub likely_missing_indices : (shingle base gap : ℕ) → (high low : List Float) → Result Missing Refusal
likely_missing_indices shingle base gap high low = missing_by (missing_answer shingle base gap high low) base gap high low

-- What an accepted call is for: the expected point of the block's row is the point with the median at exactly these indices.
abbrev pub AskedIndicesAreExpected : Type 0
AskedIndicesAreExpected =
    (shingle base gap : ℕ) (high low point median : List Float) (m : Missing) → likely_missing_indices shingle base gap high low ≡ Ok m
    → expected_point high low m.start base point median ≡ predicted (take m.count m.indices) median point

-- ---- asked_of_forest: what the chain asks its forest for past an opening grade above 0
-- Refusal 5 for values_seen.
unfoldable pub seen_answer : Bool → Answer
seen_answer ok = cond ok (Ok tt) (Err ValuesSeen)

-- The tests of a reading, as far as no buffer is lent: the last anomaly's points are none.
unfoldable pub asked_answer : (state_base : ℕ) → Reading → LastDescriptor → Answer
asked_answer state_base r l =
    first_refusal (range_ok r.shingle_size r.base_dimension state_base) true (numbers_finite r l && Checks.last_finite l [] [])
    (seen_answer (seen_ok r.values_seen l.has_anomaly l.anomaly.values_seen))

-- The corrected point's score within a shingle of the last anomaly, the neighbours with auto adjust, the expected point's attribution at a gap below the shingle
-- size, with an anomaly or without.
unfoldable pub asked_after : (gap : ℕ) → Bool → Reading → LastDescriptor → Asked
asked_after gap auto_adjust r l = record {
  gap = gap;
  corrected_score = is_recent l.has_anomaly gap r.shingle_size;
  near_neighbor_list = auto_adjust;
  new_attribution = ltb gap r.shingle_size;
  use_difference = is_differenced r.transform_method;
}

unfoldable pub asked_by : Answer → Bool → Reading → LastDescriptor → Result Asked Refusal
asked_by (Ok _) auto_adjust r l = Ok (asked_after (gap_of r.values_seen l.has_anomaly l.anomaly.values_seen) auto_adjust r l)
asked_by (Err why) auto_adjust r l = Err why

unfoldable pub asked_of_forest : Bool → (state_base : ℕ) → Reading → LastDescriptor → Result Asked Refusal
asked_of_forest auto_adjust state_base r l = asked_by (asked_answer state_base r l) auto_adjust r l

-- ---- update_auto_adjust
-- Refusal 6 for counts that take no update.
unfoldable pub counts_answer : Bool → Answer
counts_answer ok = cond ok (Ok tt) (Err Count)

unfoldable pub adjust_answer : PredictorCorrector → ℕ → List Float → Answer
adjust_answer s shingle point =
    first_refusal (sizes_ok shingle s.base_dimension)
    (eqb (length point) (dimension shingle s.base_dimension))
    (all_finite point)
    (counts_answer (state_counts_ok s))

-- A refusal hands the state back as it came.
unfoldable pub adjusted_by : Answer → PredictorCorrector → List Float → PredictorCorrector
adjusted_by (Ok _) s point = auto_adjusted s point
adjusted_by (Err why) s point = s

unfoldable pub update_auto_adjust : PredictorCorrector → ℕ → List Float → Updated PredictorCorrector
update_auto_adjust s shingle point =
    record { answer = adjust_answer s shingle point; state = adjusted_by (adjust_answer s shingle point) s point }
