-- The candidate branch and its drift test.
use Rattle.std.specs.Prelude.{ℕ, zero, suc, ◌-◌, Bool, true, cond, not, ◌&&◌, ◌||◌, List, pos, nat_lt, slice_index_or, Float}
use Rattle.std.specs.Float.Ieee as Ieee
use Rattle.std.specs.Float.{binary32, binary64, nan}
use Rattle.ieee.specs.Round.{narrow}
use Rattle.util.specs.Util.{maxf32, absf32}
use Rattle.types.specs.Codes.{is_height}
use Rattle.types.specs.declared.ScoringStrategy.{ScoringStrategy}
use Rattle.deviation.specs.Statistics.{mean, deviation, fresh, counted}
use Rattle.deviation.specs.Const.{zero64}
use Rattle.deviation.specs.declared.Deviation.{Deviation}
use Rattle.descriptor.specs.declared.Reading.{Reading}
use Rattle.descriptor.specs.declared.LastDescriptor.{LastDescriptor}
use Rattle.predictorcorrector.specs.State.{candidate_counted}
use Rattle.predictorcorrector.specs.declared.PredictorCorrector.{PredictorCorrector}
use Rattle.candidate.specs.Const.{one32, two32, ten32, tenth32, fifth32, noise_factor}

-- strategy == last strategy
unfoldable pub same_strategy : ScoringStrategy → ScoringStrategy → Bool
same_strategy a b = cond (is_height a) (is_height b) (not (is_height b))

-- What a run allows a next candidate: the longer the run, the more.
unfoldable pub run_share : ℕ → ℕ → Float
run_share run shingle =
    maxf32 fifth32 (Ieee.div binary32 (Ieee.of_int binary32 (pos run)) (Ieee.mul binary32 two32 (maxf32 ten32 (Ieee.of_int binary32 (pos shingle)))))

-- The score is larger than the last, or it is over the larger threshold, with the run's allowance, by less than the last score was over its own.
unfoldable pub still_high : Float → Float → Float → Float → Float → Bool
still_high score threshold last_score last_threshold share =
    Ieee.lt last_score score
    || Ieee.lt (Ieee.sub binary32 score (Ieee.mul binary32 (maxf32 threshold last_threshold) (Ieee.add binary32 one32 share))) (Ieee.sub binary32 last_score last_threshold)

-- `candidate`.
unfoldable pub is_candidate : Reading → LastDescriptor → ℕ → ℕ → Float → Bool
is_candidate r l run shingle threshold =
    same_strategy r.scoring_strategy l.scoring_strategy && still_high r.score threshold l.score l.threshold (run_share run shingle)

-- One coordinate of the drift test: the newest value is near the run's mean, and the newest expected value near the mean of those.
unfoldable pub near_means : Deviation → Deviation → Float → Float → Float → Bool
near_means actual expected newest newest_expected noise =
    Ieee.lt (absf32 (Ieee.sub binary32 (narrow (mean actual)) newest))
    (maxf32 (Ieee.mul binary32 two32 (narrow (deviation actual))) (Ieee.mul binary32 noise_factor noise))
    && Ieee.lt (absf32 (Ieee.sub binary32 (narrow (mean expected)) newest_expected))
    (Ieee.add binary32
    (Ieee.mul binary32 two32 (maxf32 (narrow (deviation expected)) (narrow (deviation actual))))
    (Ieee.mul binary32 tenth32 (absf32 (narrow (Ieee.sub binary64 (mean actual) (mean expected))))))

-- The drift test over the first n coordinates. The Rust assigns `within` anew for each: the last alone decides.
unfoldable pub drift_within : ℕ → List Deviation → List Deviation → List Float → List Float → List Float → Bool
drift_within zero actual expected newest newest_expected noise = true
drift_within (suc y) actual expected newest newest_expected noise =
    near_means (slice_index_or actual y (fresh zero64)) (slice_index_or expected y (fresh zero64)) (slice_index_or newest y nan) (slice_index_or newest_expected y nan) (slice_index_or noise y nan)

-- The state with a candidate's newest rows counted.
unfoldable pub candidate_with : Bool → PredictorCorrector → List Float → List Float → PredictorCorrector
candidate_with candidate s newest newest_expected = cond candidate (candidate_counted s newest newest_expected) s

-- Data drift: a candidate with auto adjust whose run is longer than two, near the means of the run that it is counted in.
unfoldable pub is_drift : Bool → PredictorCorrector → PredictorCorrector → ℕ → List Float → List Float → List Float → Bool
is_drift candidate s counted base newest newest_expected noise =
    candidate
    && (s.auto_adjust
    && (nat_lt 2 s.run_length
    && drift_within base counted.deviations_actual counted.deviations_expected newest newest_expected noise))

-- The same by the last entries alone, as they came: each counts its row's last number first.
unfoldable pub near_next : ℕ → Deviation → Deviation → List Float → List Float → List Float → Bool
near_next base actual expected newest newest_expected noise =
    let y = base - 1 in
    near_means (counted actual (slice_index_or newest y nan)) (counted expected (slice_index_or newest_expected y nan)) (slice_index_or newest y nan) (slice_index_or newest_expected y nan) (slice_index_or noise y nan)

unfoldable pub drift_at : Bool → Bool → ℕ → ℕ → Deviation → Deviation → List Float → List Float → List Float → Bool
drift_at candidate auto run base actual expected newest newest_expected noise =
    candidate && (auto && (nat_lt 2 run && near_next base actual expected newest newest_expected noise))
