-- A higher score never opens with a lower grade: what this crate proves. Definitions only.
use Rattle.std.specs.Prelude.{◌≡◌, not, ◌||◌, T, Float, Ok}
use Rattle.std.specs.Float.Ieee.{le, is_nan}
use Rattle.basicthresholder.specs.Const.{zero32}
use Rattle.grade_order.specs.Statement.{Scores}
use Rattle.grades.specs.Reached.{Reached}
use Rattle.descriptor.specs.declared.Reading.{Reading}
use Rattle.predictorcorrector.specs.declared.PredictorCorrector.{PredictorCorrector}
use Rattle.detection.specs.declared.Verdict.{Verdict}
use Rattle.demand3.specs.Calls.{Judging, Contract, grade_of, opened}
use Rattle.demand3.specs.Calm.{made}
use Rattle.demand3.specs.Statement.{is_quiet, is_raised, is_skipped}
use Rattle.judged_grades.specs.Drawers.{ReachedDrawer}

-- The reading with another score.
abbrev pub with_score : Reading → Float → Reading
with_score r score = record {
  shingle_size = r.shingle_size;
  base_dimension = r.base_dimension;
  scoring_strategy = r.scoring_strategy;
  transform_method = r.transform_method;
  time_augmented = r.time_augmented;
  values_seen = r.values_seen;
  score = score;
  corrected_score = r.corrected_score;
}

-- What is said of the smaller score's verdict v and the larger's v'. A reading whose score is 0 is skipped; any other is quiet exactly where its opening grade is 0, and
-- a raised one carries its opening grade.
pub record Tells (v v' : Verdict) : Type 0 where
  pub quiet : T (is_quiet v') → T (is_quiet v || is_skipped v)
  pub raised : T (is_raised v) → T (is_raised v') → T (le (grade_of v) (grade_of v'))

pub record HigherJudged : Type 0 where
  -- The thresholder of a drawer that calls reach, judged ones among them, is one that calls reach; a new drawer is such a one.
  pub reached : (s : PredictorCorrector) → ReachedDrawer s → Reached s.basic_thresholder
  pub met : ReachedDrawer made
  -- A reading with its own score is itself.
  pub own : (r : Reading) → with_score r r.score ≡ r
  -- The opening grade is at least 0, and rises, by the height strategy and by DISTANCE.
  pub least : (s : PredictorCorrector) (r : Reading) → T (le zero32 (opened s r).grade)
  pub opening : (s : PredictorCorrector) → ReachedDrawer s → T (not (is_nan s.basic_thresholder.initial_threshold))
      → (r : Reading) (y : Float) → Scores r.score y → T (le (opened s r).grade (opened s (with_score r y)).grade)
  -- Two calls of `detect_and_modify` in that state, both accepted; what else they took may differ.
  pub judged : (s : PredictorCorrector) → ReachedDrawer s → T (not (is_nan s.basic_thresholder.initial_threshold))
      → (c c' : Judging) → Contract s c → Contract s c' → c'.reading ≡ with_score c.reading c'.reading.score → Scores c.reading.score c'.reading.score
      → (v v' : Verdict) → c.judgment.outcome ≡ Ok v → c'.judgment.outcome ≡ Ok v' → Tells v v'
