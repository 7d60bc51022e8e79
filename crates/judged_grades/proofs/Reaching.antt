-- The thresholder of a drawer that calls reach is one that calls reach. Assumes nothing.
use Rattle.std.specs.Prelude.{Result, Ok, Err, is_ok}
use Prim.Native.Nat.{ℕ}
use Rattle.std.specs.Result.{result_unwrap_or}
use mathlib.Core.Path.{◌≡◌, refl, sym, ap, subst}
use mathlib.Core.Bool.{Bool, true, false, cond, ◌&&◌, true≢false}
use mathlib.Core.List.{List}
use lib.Dec.{leb, ltb}
use lib.Ieee.{Float}
use Rattle.types.specs.Codes.{is_height}
use Rattle.types.specs.declared.Refusal.TheVariants.{Discount, Range}
use Rattle.types.specs.declared.ScoringStrategy.{ScoringStrategy}
use Rattle.deviation.specs.Const.{count_limit}
use Rattle.deviation.specs.Statistics.{is_discount}
use Rattle.basicthresholder.specs.Updates.{fresh_thresholder, new_adjustible, update, update_primary}
use Rattle.basicthresholder.specs.declared.BasicThresholder.{BasicThresholder}
use Rattle.grades.specs.Reached.{Reached, new_adjustible_call, default, update_primary_call, update_capped}
use Rattle.grades.specs.Reached as Thresholder
use Rattle.descriptor.specs.Lent.{Lent}
use Rattle.descriptor.specs.declared.Reading.{Reading}
use Rattle.descriptor.specs.declared.LastDescriptor.{LastDescriptor}
use Rattle.predictorcorrector.specs.State as State
use Rattle.predictorcorrector.specs.State.{updated, fresh_state, set_horizon, height_score, run_ended, auto_adjusted, candidate_counted, run_grown}
use Rattle.predictorcorrector.specs.Lists.{row_fits}
use Rattle.predictorcorrector.specs.declared.PredictorCorrector.{PredictorCorrector}
use Rattle.scoring.specs.Scores as Scores
use Rattle.detection.specs.Judging.{is_drift_mode, entered, corrected_score, candidate_with, candidate_state, newest_of, expected, after}
use Rattle.detection.specs.Judged.{state_after}
use Rattle.detection.specs.declared.Verdict.{Verdict}
use Rattle.detection.specs.declared.Verdict.TheVariants.{Quiet, Corrected, Raised, Skipped}
use Rattle.calls.specs.Calls.{adjust_answer, adjusted_by, update_auto_adjust}
use Rattle.judged_grades.specs.Drawers.{ReachedDrawer, new, set_z_factor, set_lower_threshold, set_initial_threshold, set_horizon_call, update_auto_adjust_call, judged}
use Rattle.types.specs.declared.Refusal.{Refusal}
use Rattle.types.specs.Refusals.{Answer}

abbrev Held : PredictorCorrector → Type 0
Held s = Reached s.basic_thresholder

-- ---- a construction
made : (d : Float) → is_discount d ≡ true → new_adjustible d false ≡ Ok (fresh_thresholder d false)
unfolding new_adjustible
made d e = rw e refl

fresh_held : (d : Float) (auto : Bool) (base : ℕ) → is_discount d ≡ true → Held (fresh_state d auto base)
unfolding fresh_state
fresh_held d auto base e = new_adjustible_call d false (made d e)

new_held : (d : Float) (auto : Bool) (base : ℕ) (s : PredictorCorrector) → State.new d auto base ≡ Ok s → Held s
unfolding State.new
new_held d auto base s = go (is_discount d) (leb 1 base && leb base 16) refl
  where
    go : (b c : Bool) → is_discount d ≡ b → cond b (cond c (Ok (fresh_state d auto base)) (Err Range)) (Err Discount) ≡ Ok s → Held s
    go true true e q = subst Held (ap (λ (r : Result PredictorCorrector Refusal). result_unwrap_or r s) q) (fresh_held d auto base e)
    go true false e q = absurd (true≢false (ap is_ok (sym q)))
    go false c e q = absurd (true≢false (ap is_ok (sym q)))

-- ---- what a reading does to the lists and the run leaves the thresholder
either_held : (c : Bool) (s s' : PredictorCorrector) → Held s → Held s' → Held (cond c s s')
either_held true s s' h k = h
either_held false s s' h k = k

ended_held : (s : PredictorCorrector) → Held s → Held (run_ended s)
unfolding run_ended
ended_held s h = either_held (s.auto_adjust && leb s.base_dimension 16) _ s h h

adjusted_held : (s : PredictorCorrector) (point : List Float) → Held s → Held (auto_adjusted s point)
unfolding auto_adjusted
adjusted_held s point h =
    either_held (s.auto_adjust && (ltb 0 s.run_length && (leb s.run_length count_limit && row_fits s.base_dimension s.deviations_actual point))) _ s h h

counted_held : (s : PredictorCorrector) (newest row : List Float) → Held s → Held (candidate_counted s newest row)
unfolding candidate_counted
counted_held s newest row h =
    either_held (s.auto_adjust && (row_fits s.base_dimension s.deviations_actual newest && row_fits s.base_dimension s.deviations_expected row)) _ s h h

candidate_held : (c : Bool) (s : PredictorCorrector) (newest row : List Float) → Held s → Held (candidate_with c s newest row)
unfolding candidate_with
candidate_held c s newest row h = either_held c (candidate_counted s newest row) s (counted_held s newest row h) h

grown_held : (s : PredictorCorrector) → Held s → Held (run_grown s)
unfolding run_grown
grown_held s h = h

-- ---- the score enters once
score_reached : (t : BasicThresholder) (k : ScoringStrategy) (x y : Float) (o : ScoringStrategy) (z : Float) → Reached t → Reached (State.update_score t k x y o z)
unfolding State.update_score
score_reached t k x y o z h = go (is_height k)
  where
    go : (c : Bool) → Reached (cond c (update t x y (height_score o z)).state (update_primary t x).state)
    go true = update_capped x y (height_score o z) h
    go false = update_primary_call x h

entered_held : (s : PredictorCorrector) (r : Reading) (l : LastDescriptor) (x : Float) → Held s → Held (entered s r l x)
unfolding entered Scores.update_score
entered_held s r l x h = score_reached s.basic_thresholder r.scoring_strategy r.score x l.scoring_strategy l.score h

module _ (r : Reading) (l : LastDescriptor) (b : Lent) where
  branch_held : (s : PredictorCorrector) (t : Float) → Held s → Held (candidate_state r l b s t)
  unfolding candidate_state
  branch_held s t h = candidate_held _ s (newest_of r l b b.point) (newest_of r l b (expected r l b)) h

  after_held : (s : PredictorCorrector) (v : Verdict) → Held s → Held (after r l b s v)
  unfolding after
  after_held s (Quiet t) h = entered_held (run_ended s) r l r.score (ended_held s h)
  after_held s (Corrected t m) h =
      entered_held (cond (is_drift_mode m) (candidate_state r l b s t) (auto_adjusted s b.point)) r l (corrected_score r l)
      (either_held (is_drift_mode m) (candidate_state r l b s t) (auto_adjusted s b.point) (branch_held s t h) (adjusted_held s b.point h))
  after_held s (Raised t g) h = entered_held (run_grown (candidate_state r l b s t)) r l (corrected_score r l) (grown_held (candidate_state r l b s t) (branch_held s t h))
  after_held s Skipped h = h

  outcome_held : (s : PredictorCorrector) (o : Result Verdict Refusal) → Held s → Held (state_after s r l b o)
  unfolding state_after
  outcome_held s (Ok v) h = after_held s v h
  outcome_held s (Err why) h = h

-- ---- the calls
horizon_held : (s : PredictorCorrector) (x : Float) → Held s → Held (set_horizon s x).state
unfolding set_horizon
horizon_held s x h = Thresholder.set_score_differencing_call x h

adjusting_held : (s : PredictorCorrector) (n : ℕ) (point : List Float) → Held s → Held (update_auto_adjust s n point).state
unfolding update_auto_adjust adjusted_by
adjusting_held s n point h = go (adjust_answer s n point)
  where
    go : (a : Answer) → Held (adjusted_by a s point)
    go (Ok tt) = adjusted_held s point h
    go (Err why) = h

pub reaching : (s : PredictorCorrector) → ReachedDrawer s → Reached s.basic_thresholder
reaching s (new d auto base e) = new_held d auto base s e
reaching _ (set_z_factor {s} x r) = Thresholder.set_z_factor x (reaching s r)
reaching _ (set_lower_threshold {s} x r) = Thresholder.set_absolute_threshold x (reaching s r)
reaching _ (set_initial_threshold {s} x r) = Thresholder.set_initial_threshold x (reaching s r)
reaching _ (set_horizon_call {s} x r) = horizon_held s x (reaching s r)
reaching _ (update_auto_adjust_call {s} n point r) = adjusting_held s n point (reaching s r)
reaching _ (judged {s} c k r) = subst Held (sym k.state) (outcome_held c.reading c.last c.lent s _ (reaching s r))
