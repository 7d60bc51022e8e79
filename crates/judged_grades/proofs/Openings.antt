-- The opening grade rises with the score, and the verdict shows it. Assumes nothing.
use Rattle.std.specs.Prelude.{Result, Ok, Err}
use mathlib.Core.Path.{◌≡◌, refl, sym, ap, ◌∙◌, subst}
use mathlib.Core.Bool.{Bool, true, false, not, cond, ◌||◌, true≢false}
use lib.Dec.{T}
use lib.Ieee.{Float, le, eq, is_nan}
use Rattle.types.specs.Codes.{is_height}
use Rattle.basicthresholder.specs.Const.{zero32}
use Rattle.basicthresholder.specs.Grades.{is_deviation_ready, threshold_and_grade, primary_grade, primary_threshold_and_grade}
use Rattle.basicthresholder.specs.declared.BasicThresholder.{BasicThresholder}
use Rattle.grading.specs.Grading.{grade_over}
use Rattle.grade_order.specs.Statement.{Scores}
use Rattle.grade_order.proofs.Steps.{steps_rise}
use Rattle.grades.specs.Reached.{Reached}
use Rattle.grades.proofs.Whole.{higher_scores}
use Rattle.descriptor.specs.Lent.{Lent}
use Rattle.descriptor.specs.declared.Reading.{Reading}
use Rattle.descriptor.specs.declared.LastDescriptor.{LastDescriptor}
use Rattle.predictorcorrector.specs.declared.PredictorCorrector.{PredictorCorrector}
use Rattle.detection.specs.Judging.{opening, verdict}
use Rattle.detection.specs.Judged.{outcome, outcome_of}
use Rattle.detection.specs.declared.Verdict.{Verdict}
use Rattle.detection.specs.declared.Verdict.TheVariants.{Skipped}
use Rattle.demand3.specs.Calls.{Judging, Contract, grade_of, opened}
use Rattle.demand3.specs.Statement.{is_quiet, is_raised, is_skipped, Shows}
use Rattle.demand3.proofs.Opens.{verdict_shows, zero_skips}
use Rattle.judged_grades.specs.Statement.{with_score, Tells}
use Rattle.types.specs.declared.Refusal.{Refusal}
use Rattle.types.specs.Refusals.{Answer}

-- ---- the opening grade
height : (t : BasicThresholder) → Reached t → T (not (is_nan t.initial_threshold)) → (r : Reading) (x y : Float) → Scores x y
    → T (le (threshold_and_grade t x r.transform_method r.shingle_size).grade (threshold_and_grade t y r.transform_method r.shingle_size).grade)
unfolding threshold_and_grade
height t h n r x y o = higher_scores.rises t h n x y o t.z_factor r.transform_method r.shingle_size

distance : (t : BasicThresholder) (x y : Float) → T (le x y) → T (le (primary_threshold_and_grade t x).grade (primary_threshold_and_grade t y).grade)
unfolding primary_threshold_and_grade
distance t x y l = higher_scores.distance_rises t x y l

pub opening_rises : (t : BasicThresholder) → Reached t → T (not (is_nan t.initial_threshold)) → (r : Reading) (x y : Float) → Scores x y → T (le (opening t r x).grade (opening t (with_score r y) y).grade)
unfolding opening
opening_rises t h n r x y o = go (is_height r.scoring_strategy)
  where
    go : (c : Bool)
        → T (le (cond c (threshold_and_grade t x r.transform_method r.shingle_size) (primary_threshold_and_grade t x)).grade
        (cond c (threshold_and_grade t y r.transform_method r.shingle_size) (primary_threshold_and_grade t y)).grade)
    go true = height t h n r x y o
    go false = distance t x y o.order

-- at least 0
height_least : (t : BasicThresholder) (r : Reading) (x : Float) → T (le zero32 (threshold_and_grade t x r.transform_method r.shingle_size).grade)
unfolding threshold_and_grade
height_least t r x = steps_rise.least _ (higher_scores.sixteenths t x t.z_factor r.transform_method r.shingle_size)

distance_least : (t : BasicThresholder) (x : Float) → T (le zero32 (primary_threshold_and_grade t x).grade)
unfolding primary_threshold_and_grade primary_grade
distance_least t x = go (is_deviation_ready t) _ _
  where
    go : (c : Bool) (z d : Float) → T (le zero32 (cond c (grade_over z d) zero32))
    go true z d = steps_rise.distance_least z d
    go false z d = steps_rise.least zero32 steps_rise.nothing

pub opening_least : (t : BasicThresholder) (r : Reading) (x : Float) → T (le zero32 (opening t r x).grade)
unfolding opening
opening_least t r x = go (is_height r.scoring_strategy)
  where
    go : (c : Bool) → T (le zero32 (cond c (threshold_and_grade t x r.transform_method r.shingle_size) (primary_threshold_and_grade t x)).grade)
    go true = height_least t r x
    go false = distance_least t x

-- ---- the verdict of an accepted call
said_of : Result Verdict Refusal → Verdict
said_of (Ok v) = v
said_of (Err why) = Skipped

is_accepted : Result Verdict Refusal → Bool
is_accepted (Ok v) = true
is_accepted (Err why) = false

said : (u v : Verdict) (a : Answer) → outcome_of u a ≡ Ok v → u ≡ v
unfolding outcome_of said_of is_accepted
said u v (Ok _) e = ap said_of e
said u v (Err why) e = absurd (true≢false (sym (ap is_accepted e)))

module _ (s : PredictorCorrector) (c : Judging) (k : Contract s c) where
  verdict_is : (v : Verdict) → c.judgment.outcome ≡ Ok v → verdict c.reading c.last c.lent s ≡ v
  unfolding outcome
  verdict_is v e = said (verdict c.reading c.last c.lent s) v _ (sym k.says ∙ e)

-- ---- what it shows
-- A verdict is skipped, or shows its opening.
pub data Showing (s : PredictorCorrector) (r : Reading) : Verdict → Type 0 where
  skips : Showing s r Skipped
  shows : {v : Verdict} → Shows (opened s r) v → Showing s r v

showing : (s : PredictorCorrector) (r : Reading) (l : LastDescriptor) (b : Lent) → Showing s r (verdict r l b s)
showing s r l b = go (eq r.score zero32) refl
  where
    go : (z : Bool) → eq r.score zero32 ≡ z → Showing s r (verdict r l b s)
    go true e = subst (Showing s r) (sym (zero_skips s r l b e)) skips
    go false e = shows (verdict_shows s r l b e)

or_left : (b c : Bool) → T b → T (b || c)
or_left true c h = tt
or_left false c h = absurd h

module _ (s : PredictorCorrector) (r r' : Reading) (l : T (le (opened s r).grade (opened s r').grade)) where
  quiet : (v v' : Verdict) → Showing s r v → Showing s r' v' → T (is_quiet v') → T (is_quiet v || is_skipped v)
  quiet _ v' skips k h = tt
  quiet v _ (shows i) skips h = absurd h
  quiet v v' (shows i) (shows j) h =
      or_left (is_quiet v) (is_skipped v)
      (subst T (sym i.quiet) (steps_rise.none_between (opened s r).grade (opened s r').grade (opening_least s.basic_thresholder r r.score) l (subst T j.quiet h)))

  raised : (v v' : Verdict) → Showing s r v → Showing s r' v' → T (is_raised v) → T (is_raised v') → T (le (grade_of v) (grade_of v'))
  raised _ v' skips k h h' = absurd h
  raised v _ (shows i) skips h h' = absurd h'
  raised v v' (shows i) (shows j) h h' =
      subst (λ (g : Float). T (le g (grade_of v'))) (sym (i.raised h)) (subst (λ (g : Float). T (le (opened s r).grade g)) (sym (j.raised h')) l)

  pub tells : (v v' : Verdict) → Showing s r v → Showing s r' v' → Tells v v'
  tells v v' i j = record { quiet = quiet v v' i j; raised = raised v v' i j }

pub accepted_shows : (s : PredictorCorrector) (c : Judging) → Contract s c → (v : Verdict) → c.judgment.outcome ≡ Ok v → Showing s c.reading v
accepted_shows s c k v e = subst (Showing s c.reading) (verdict_is s c k v e) (showing s c.reading c.last c.lent)
