-- predictorcorrector.rs: the state, its construction and setters, and what a reading does to it. One definition for each, in the Rust's shape.
use Rattle.std.specs.Prelude.{ℕ, ◌+◌, ◌-◌, Bool, false, cond, ◌&&◌, List, replicate, nat_le, nat_lt, slice_index_or, Float, Ok, Err, Result}
use Rattle.types.specs.declared.Refusal.TheVariants.{Discount, Range}
use Rattle.types.specs.declared.ScoringStrategy.{ScoringStrategy}
use Rattle.types.specs.Codes.{is_height}
use Rattle.deviation.specs.Const.{zero64, count_limit}
use Rattle.deviation.specs.Statistics.{fresh, is_discount, counted, reset}
use Rattle.deviation.specs.declared.Deviation.{Deviation}
use Rattle.basicthresholder.specs.Const.{zero32}
use Rattle.basicthresholder.specs.Updates.{fresh_thresholder, counts_ok, update_primary, update, with_z_factor, with_absolute_threshold, with_initial_threshold, set_score_differencing}
use Rattle.basicthresholder.specs.declared.BasicThresholder.{BasicThresholder}
use Rattle.predictorcorrector.specs.Lists.{changed, stepped, row_fits, list_countable}
use Rattle.predictorcorrector.specs.declared.PredictorCorrector.{PredictorCorrector}
use Rattle.predictorcorrector.specs.declared.Standing.{Standing}
use Rattle.types.specs.declared.Updated.{Updated}
use Rattle.types.specs.Refusals.{Answer}
use Rattle.types.specs.declared.Refusal.{Refusal}

-- The state by its parts.
abbrev pub state : BasicThresholder → Bool → ℕ → ℕ → List Deviation → List Deviation → PredictorCorrector
state t auto run base actual expected = record {
  basic_thresholder = t;
  auto_adjust = auto;
  run_length = run;
  base_dimension = base;
  deviations_actual = actual;
  deviations_expected = expected;
}

-- A call's answer beside the state.
abbrev pub updated : Answer → PredictorCorrector → Updated PredictorCorrector
updated a s = record { answer = a; state = s }

-- The state with another thresholder.
abbrev pub with_thresholder : PredictorCorrector → BasicThresholder → PredictorCorrector
with_thresholder s t = state t s.auto_adjust s.run_length s.base_dimension s.deviations_actual s.deviations_expected

-- The state with another run length and lists.
abbrev pub with_run : PredictorCorrector → ℕ → List Deviation → List Deviation → PredictorCorrector
with_run s run actual expected = state s.basic_thresholder s.auto_adjust run s.base_dimension actual expected

-- How many entries of the lists exist.
abbrev pub existing : Bool → ℕ → ℕ
existing auto base = cond auto base 0

-- A new list: the entries that exist have no scores; those that do not are all zero.
unfoldable pub fresh_list : Float → ℕ → List Deviation
fresh_list d n = changed (λ (old : Deviation). fresh d) n (replicate 16 (fresh zero64))

unfoldable pub fresh_state : Float → Bool → ℕ → PredictorCorrector
fresh_state discount auto base =
    let row = fresh_list discount (existing auto base) in
    state (fresh_thresholder discount false) auto 0 base row row

-- Refusal 1, then refusal 2 for a base outside 1 to 16.
unfoldable pub new : Float → Bool → ℕ → Result PredictorCorrector Refusal
new discount auto base =
    cond (is_discount discount)
    (cond (nat_le 1 base && nat_le base 16) (Ok (fresh_state discount auto base)) (Err Range))
    (Err Discount)

-- ---- setters
abbrev pub z_factor_set : PredictorCorrector → Float → PredictorCorrector
z_factor_set s x = with_thresholder s (with_z_factor s.basic_thresholder x)

-- The chain's lower threshold is the thresholder's absolute threshold.
abbrev pub lower_threshold_set : PredictorCorrector → Float → PredictorCorrector
lower_threshold_set s x = with_thresholder s (with_absolute_threshold s.basic_thresholder x)

abbrev pub initial_threshold_set : PredictorCorrector → Float → PredictorCorrector
initial_threshold_set s x = with_thresholder s (with_initial_threshold s.basic_thresholder x)

-- Refusal 7 outside [0, 1].
unfoldable pub set_horizon : PredictorCorrector → Float → Updated PredictorCorrector
set_horizon s x =
    let u = set_score_differencing s.basic_thresholder x in
    updated u.answer (with_thresholder s u.state)

-- ---- refusal 6: run length, the thresholder's counts, and with auto adjust those of the entries that exist
unfoldable pub state_counts_ok : PredictorCorrector → Bool
state_counts_ok s =
    nat_le s.run_length count_limit
    && (counts_ok s.basic_thresholder
    && (list_countable (existing s.auto_adjust s.base_dimension) s.deviations_actual
    && list_countable (existing s.auto_adjust s.base_dimension) s.deviations_expected))

-- How a state stands: without its lists, but for the entry at base - 1 of each, which is the last that exists with auto adjust and is not looked at without it;
-- a new one past the end.
unfoldable pub standing : PredictorCorrector → Standing
standing s = record {
  basic_thresholder = s.basic_thresholder;
  auto_adjust = s.auto_adjust;
  run_length = s.run_length;
  base_dimension = s.base_dimension;
  counts_ok = state_counts_ok s;
  last_actual = slice_index_or s.deviations_actual (s.base_dimension - 1) (fresh zero64);
  last_expected = slice_index_or s.deviations_expected (s.base_dimension - 1) (fresh zero64);
}

-- ---- what a reading does
-- One more; a run that refusal 6 is of stays.
unfoldable pub longer_run : ℕ → ℕ
longer_run n = cond (nat_le n count_limit) (n + 1) n

-- Opening grade 0 with auto adjust: the run ends, and both lists are reset. Without auto adjust the run length never falls. A base over 16 leaves the state alone.
unfoldable pub run_ended : PredictorCorrector → PredictorCorrector
run_ended s =
    cond (s.auto_adjust && nat_le s.base_dimension 16)
    (with_run s 0 (changed reset s.base_dimension s.deviations_actual) (changed reset s.base_dimension s.deviations_expected))
    s

-- `update_auto_adjust`: within a run the oldest row, the first of the point, is counted, and the run is one longer. The state stays as it is, whole, where the run or
-- an entry is one that refusal 6 is of, or the row does not fit.
unfoldable pub auto_adjusted : PredictorCorrector → List Float → PredictorCorrector
auto_adjusted s point =
    cond (s.auto_adjust && (nat_lt 0 s.run_length && (nat_le s.run_length count_limit && row_fits s.base_dimension s.deviations_actual point)))
    (with_run s (longer_run s.run_length) (stepped counted s.base_dimension s.deviations_actual point) s.deviations_expected)
    s

-- The candidate branch: the newest rows of the point and of the expected point are counted; both or neither.
unfoldable pub candidate_counted : PredictorCorrector → List Float → List Float → PredictorCorrector
candidate_counted s newest expected =
    cond (s.auto_adjust && (row_fits s.base_dimension s.deviations_actual newest && row_fits s.base_dimension s.deviations_expected expected))
    (with_run s s.run_length
    (stepped counted s.base_dimension s.deviations_actual newest)
    (stepped counted s.base_dimension s.deviations_expected expected))
    s

-- A raised reading is one more of the run.
unfoldable pub run_grown : PredictorCorrector → PredictorCorrector
run_grown s = with_run s (longer_run s.run_length) s.deviations_actual s.deviations_expected

-- The score where it is a height, else 0.
unfoldable pub height_score : ScoringStrategy → Float → Float
height_score strategy score = cond (is_height strategy) score zero32

-- Every accepted reading with a score enters the statistics once. The height strategy caps the score at 2, DISTANCE does not.
unfoldable pub update_score : BasicThresholder → ScoringStrategy → Float → Float → ScoringStrategy → Float → BasicThresholder
update_score t strategy score corrected_score last_strategy last_score =
    cond (is_height strategy)
    (update t score corrected_score (height_score last_strategy last_score)).state
    (update_primary t score).state
