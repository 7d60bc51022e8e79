-- The statement. Assumes nothing.
use Prim.Native.Nat.{ℕ}
use mathlib.Core.Path.{◌≡◌, sym, subst}
use mathlib.Core.Bool.{not}
use mathlib.Core.List.{List}
use lib.Dec.{T}
use lib.ListN.{length}
use lib.Ieee.{Float, le, is_nan, binary32, fits}
use Rattle.grade_order.specs.Statement.{Scores}
use Rattle.descriptor.specs.declared.Reading.{Reading}
use Rattle.layout.specs.Places.{state_length, initial_threshold_at}
use Rattle.layout.specs.Numbers.{f32_at}
use Rattle.layout.specs.States.{decode_thresholder}
use Rattle.layout.specs.Chain.{decode_state}
use Rattle.layout.specs.Readings.{decode_reading}
use Rattle.demand3.specs.Calls.{opened}
use Rattle.demand3_over_c.specs.Calls.{Judging, Contract, score_of}
use Rattle.demand3_over_c.specs.Calm.{nought, made}
use Rattle.demand3_over_c.proofs.OverC.{demand_3_over_c}
use Rattle.demand3_over_c.proofs.Simulation.{score_is, score_fits}
use Rattle.judged_grades.specs.Statement.{with_score}
use Rattle.judged_grades.proofs.Whole.{higher_judged}
use Rattle.judged_grades_over_c.specs.Stored.{ReachedStored, krcf_new}
use Rattle.judged_grades_over_c.specs.Statement.{TellsOverC, HigherJudgedOverC}
use Rattle.judged_grades_over_c.proofs.Holding.{held}
use Rattle.judged_grades_over_c.proofs.Verdicts.{showing, tells}

initial_number : (xs : List ℕ) → T (not (is_nan (f32_at xs initial_threshold_at))) → T (not (is_nan (decode_state xs).basic_thresholder.initial_threshold))
unfolding decode_state decode_thresholder
initial_number xs n = n

scores : (c c' : Judging) → T (le (score_of c) (score_of c')) → Scores (decode_reading c.reading).score (score_of c')
scores c c' l = record {
  order = subst (λ (x : Float). T (le x (score_of c'))) (sym (score_is c.reading)) l;
  first = score_fits c.reading;
  second = subst (λ (x : Float). T (fits binary32 x)) (score_is c'.reading) (score_fits c'.reading);
}

module _ (xs : List ℕ) (r : ReachedStored xs) (n : T (not (is_nan (f32_at xs initial_threshold_at)))) where
  openings : (c c' : Judging) → decode_reading c'.reading ≡ with_score (decode_reading c.reading) (score_of c') → T (le (score_of c) (score_of c'))
      → T (le (opened (decode_state xs) (decode_reading c.reading)).grade (opened (decode_state xs) (decode_reading c'.reading)).grade)
  openings c c' e l =
      subst (λ (u : Reading). T (le (opened (decode_state xs) (decode_reading c.reading)).grade (opened (decode_state xs) u).grade)) (sym e)
      (higher_judged.opening (decode_state xs) (held xs r) (initial_number xs n) (decode_reading c.reading) (score_of c') (scores c c' l))

  judged : (c c' : Judging) → Contract xs c → Contract xs c' → c.answer ≡ 0 → c'.answer ≡ 0
      → decode_reading c'.reading ≡ with_score (decode_reading c.reading) (score_of c') → T (le (score_of c) (score_of c')) → TellsOverC c.verdict' c'.verdict'
  judged c c' q q' z z' e l =
      tells _ _ c.verdict' c'.verdict' (higher_judged.least (decode_state xs) (decode_reading c.reading)) (openings c c' e l) (showing xs c q z) (showing xs c' q' z')

met : (out : List ℕ) → length out ≡ state_length → ReachedStored (made out)
met out h = let m = (demand_3_over_c.met out h).0.0 in krcf_new nought 0 1 out m.discount m.contract

pub higher_judged_over_c : HigherJudgedOverC
higher_judged_over_c = record { held = held; met = met; judged = judged }
