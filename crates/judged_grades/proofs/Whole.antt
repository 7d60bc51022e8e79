-- The statement. Assumes nothing.
use Rattle.std.specs.Prelude.{Ok}
use mathlib.Core.Path.{◌≡◌, refl, sym, ap, ◌∙◌, subst}
use mathlib.Core.Bool.{false, not}
use lib.Dec.{T}
use lib.Ieee.{Float, le, is_nan}
use Rattle.grade_order.specs.Statement.{Scores}
use Rattle.descriptor.specs.declared.Reading.{Reading}
use Rattle.predictorcorrector.specs.declared.PredictorCorrector.{PredictorCorrector}
use Rattle.detection.specs.declared.Verdict.{Verdict}
use Rattle.demand3.specs.Calls.{Judging, Contract, opened}
use Rattle.demand3.specs.Calm.{nought, made}
use Rattle.demand3.proofs.Demand3.{demand_3_of_calls}
use Rattle.judged_grades.specs.Drawers.{ReachedDrawer, new}
use Rattle.judged_grades.specs.Statement.{with_score, Tells, HigherJudged}
use Rattle.judged_grades.proofs.Reaching.{reaching}
use Rattle.judged_grades.proofs.Openings.{opening_least, opening_rises, tells, accepted_shows}

module _ (s : PredictorCorrector) (h : ReachedDrawer s) (n : T (not (is_nan s.basic_thresholder.initial_threshold))) where
  opening : (r : Reading) (y : Float) → Scores r.score y → T (le (opened s r).grade (opened s (with_score r y)).grade)
  opening r y o = opening_rises s.basic_thresholder (reaching s h) n r r.score y o

  judged : (c c' : Judging) → Contract s c → Contract s c' → c'.reading ≡ with_score c.reading c'.reading.score → Scores c.reading.score c'.reading.score
      → (v v' : Verdict) → c.judgment.outcome ≡ Ok v → c'.judgment.outcome ≡ Ok v' → Tells v v'
  judged c c' k k' e o v v' i i' =
      tells s c.reading c'.reading (subst (λ (r : Reading). T (le (opened s c.reading).grade (opened s r).grade)) (sym e) (opening c.reading c'.reading.score o))
      v v' (accepted_shows s c k v i) (accepted_shows s c' k' v' i')

met : ReachedDrawer made
met = new nought false 1 demand_3_of_calls.met.0.0.contract

own : (r : Reading) → with_score r r.score ≡ r
own r = refl

pub higher_judged : HigherJudged
higher_judged = record {
  reached = reaching;
  met = met;
  own = own;
  least = λ s r. opening_least s.basic_thresholder r r.score;
  opening = opening;
  judged = judged;
}
