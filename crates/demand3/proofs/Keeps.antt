-- What judging by DISTANCE keeps: the laws that the ledger's theorem asks of a judge. Assumes nothing.
use Rattle.std.specs.Prelude.{Result, Ok, Err}
use mathlib.Core.Path.{◌≡◌, refl, sym, ap, ◌∙◌, subst}
use mathlib.Core.Bool.{Bool, true, false, not, cond, ◌&&◌, true≢false}
use mathlib.Core.List.{List}
use lib.Dec.{T, leb, ltb}
use lib.ListN.{length}
use lib.Ieee.{Float, eq, of_bits}
use Rattle.types.specs.Codes.{is_height}
use Rattle.types.specs.declared.Refusal.TheVariants.{Range, Length, NotFinite, ValuesSeen, Count}
use Rattle.types.specs.declared.ScoringStrategy.{ScoringStrategy}
use Rattle.types.specs.declared.ScoringStrategy.TheVariants.{DISTANCE}
use Rattle.deviation.specs.Const.{count_limit}
use Rattle.basicthresholder.specs.Const.{zero32}
use Rattle.basicthresholder.specs.Grades.{primary_threshold_and_grade}
use Rattle.basicthresholder.specs.Updates.{update_primary, counts_ok}
use Rattle.basicthresholder.specs.declared.BasicThresholder.{BasicThresholder}
use Rattle.basicthresholder.specs.declared.Graded.{Graded}
use Rattle.basicthresholder.proofs.Laws.{primary_counted_lem}
use Rattle.ledger.specs.Statement.{Judge, Shown}
use Rattle.ledger.specs.Theorem.{Laws, Counts}
use Rattle.ledger.proofs.Laws.{primary_counts}
use Rattle.descriptor.specs.Checks.{answer_of, lengths_of, range_ok, lengths_ok, finite_ok, seen_ok}
use Rattle.descriptor.specs.Lent.{Lent}
use Rattle.descriptor.specs.declared.Reading.{Reading}
use Rattle.descriptor.specs.declared.LastDescriptor.{LastDescriptor}
use Rattle.predictorcorrector.specs.Lists.{row_fits}
use Rattle.predictorcorrector.specs.State as State
use Rattle.predictorcorrector.specs.State.{run_ended, auto_adjusted, candidate_counted, run_grown, state_counts_ok}
use Rattle.predictorcorrector.specs.declared.PredictorCorrector.{PredictorCorrector}
use Rattle.predictorcorrector.proofs.Rows.{thresholder_ok}
use Rattle.detection.specs.Judging.{opening, update_score, entered, candidate_with, candidate_state, is_drift_mode, verdict, after}
use Rattle.detection.specs.Judged.{outcome, outcome_of, state_after}
use Rattle.detection.specs.declared.Verdict.{Verdict}
use Rattle.detection.specs.declared.Verdict.TheVariants.{Quiet, Corrected, Raised, Skipped}
use Rattle.demand3.specs.Calls.{Judging, answer_at, is_refusal, opened, shown_by}
use Rattle.demand3.specs.Statement.{is_skipped, Shows, Returned}
use Rattle.demand3.proofs.Opens.{verdict_shows, zero_skips, quiet_ends}
use Rattle.types.specs.declared.Refusal.{Refusal}
use Rattle.types.specs.Refusals.{Answer}

-- ---- the watch as a judge of the ledger's theorem: a DISTANCE reading with all that it lends, its answer left out
pub record Lending : Type 0 where
  pub call : Judging
  pub distance : call.reading.scoring_strategy ≡ DISTANCE

abbrev pub outcome_at : PredictorCorrector → Judging → Result Verdict Refusal
outcome_at s c = outcome s c.reading c.last c.lent (length c.expected) (length c.high) (length c.low)

abbrev pub watch : Judge
watch = record {
  State = PredictorCorrector;
  Reading = Lending;
  refused = λ (s : PredictorCorrector) (r : Lending). is_refusal (answer_at s r.call);
  score = λ (r : Lending). r.call.reading.score;
  next = λ (s : PredictorCorrector) (r : Lending). state_after s r.call.reading r.call.last r.call.lent (outcome_at s r.call);
  shown = λ (s : PredictorCorrector) (r : Lending). shown_by s r.call.reading (outcome_at s r.call);
}

-- ---- small facts
true_of : (b : Bool) → T b → b ≡ true
true_of true t = refl
true_of false t = absurd t

pub false_of : (b : Bool) → T (not b) → b ≡ false
false_of true t = absurd t
false_of false t = refl

zero_is_zero : eq zero32 zero32 ≡ true
unfolding eq of_bits
zero_is_zero = refl

by_distance : (k : ScoringStrategy) → k ≡ DISTANCE → is_height k ≡ false
by_distance k e = ap is_height e

-- ---- what a run does leaves the thresholder alone
same_either : (c : Bool) (t : BasicThresholder) (a b : PredictorCorrector) → a.basic_thresholder ≡ t → b.basic_thresholder ≡ t → (cond c a b).basic_thresholder ≡ t
same_either true t a b p q = p
same_either false t a b p q = q

ended_keeps : (s : PredictorCorrector) → (run_ended s).basic_thresholder ≡ s.basic_thresholder
unfolding run_ended
ended_keeps s = same_either (s.auto_adjust && leb s.base_dimension 16) s.basic_thresholder _ _ refl refl

adjusted_keeps : (s : PredictorCorrector) (point : List Float) → (auto_adjusted s point).basic_thresholder ≡ s.basic_thresholder
unfolding auto_adjusted
adjusted_keeps s point =
    same_either (s.auto_adjust && (ltb 0 s.run_length && (leb s.run_length count_limit && row_fits s.base_dimension s.deviations_actual point)))
    s.basic_thresholder _ _ refl refl

counted_keeps : (s : PredictorCorrector) (newest expected : List Float) → (candidate_counted s newest expected).basic_thresholder ≡ s.basic_thresholder
unfolding candidate_counted
counted_keeps s newest expected =
    same_either (s.auto_adjust && (row_fits s.base_dimension s.deviations_actual newest && row_fits s.base_dimension s.deviations_expected expected))
    s.basic_thresholder _ _ refl refl

with_keeps : (c : Bool) (s : PredictorCorrector) (newest expected : List Float) → (candidate_with c s newest expected).basic_thresholder ≡ s.basic_thresholder
unfolding candidate_with
with_keeps c s newest expected = same_either c s.basic_thresholder (candidate_counted s newest expected) s (counted_keeps s newest expected) refl

grown_keeps : (s : PredictorCorrector) → (run_grown s).basic_thresholder ≡ s.basic_thresholder
unfolding run_grown
grown_keeps s = refl

-- ---- a verdict that is not "skipped" counts the score once, uncapped
module _ (s : PredictorCorrector) (r : Reading) (l : LastDescriptor) (b : Lent) where
  candidate_keeps : (threshold : Float) → (candidate_state r l b s threshold).basic_thresholder ≡ s.basic_thresholder
  unfolding candidate_state
  candidate_keeps threshold = with_keeps _ s _ _

  entered_counts : (u : PredictorCorrector) (corrected : Float) → is_height r.scoring_strategy ≡ false → u.basic_thresholder ≡ s.basic_thresholder
      → (entered u r l corrected).basic_thresholder ≡ (update_primary s.basic_thresholder r.score).state
  unfolding entered update_score State.update_score
  entered_counts u corrected d e = rw d (ap (λ (t : BasicThresholder). (update_primary t r.score).state) e)

  after_counts : (v : Verdict) → is_height r.scoring_strategy ≡ false → is_skipped v ≡ false → (after r l b s v).basic_thresholder ≡ (update_primary s.basic_thresholder r.score).state
  unfolding after
  after_counts (Quiet t) d k = entered_counts (run_ended s) _ d (ended_keeps s)
  after_counts (Corrected t m) d k = entered_counts (cond (is_drift_mode m) (candidate_state r l b s t) (auto_adjusted s b.point)) _ d (same_either (is_drift_mode m) s.basic_thresholder _ _ (candidate_keeps t) (adjusted_keeps s b.point))
  after_counts (Raised t g) d k = entered_counts (run_grown (candidate_state r l b s t)) _ d (grown_keeps (candidate_state r l b s t) ∙ candidate_keeps t)
  after_counts Skipped d k = absurd (true≢false k)

  -- ---- an accepted reading, a refused one
  accepted_outcome : (a : Answer) → T (not (is_refusal a)) → outcome_of (verdict r l b s) a ≡ Ok (verdict r l b s)
  unfolding outcome_of
  accepted_outcome (Ok tt) k = refl
  accepted_outcome (Err why) k = absurd k

  refused_state : (a : Answer) → T (is_refusal a) → state_after s r l b (outcome_of (verdict r l b s) a) ≡ s
  unfolding outcome_of state_after
  refused_state (Ok tt) k = absurd k
  refused_state (Err why) k = refl

  skipped_state : verdict r l b s ≡ Skipped → state_after s r l b (Ok (verdict r l b s)) ≡ s
  unfolding state_after after
  skipped_state e = rw e refl

  accepted_counts : is_height r.scoring_strategy ≡ false → eq r.score zero32 ≡ false
      → (state_after s r l b (Ok (verdict r l b s))).basic_thresholder ≡ (update_primary s.basic_thresholder r.score).state
  unfolding state_after
  accepted_counts d e = after_counts (verdict r l b s) d (verdict_shows s r l b e).skipped

-- The opening of a DISTANCE reading.
opening_is : (t : BasicThresholder) (r : Reading) (x : Float) → is_height r.scoring_strategy ≡ false → opening t r x ≡ primary_threshold_and_grade t x
unfolding opening
opening_is t r x d = rw d refl

module _ (s : PredictorCorrector) (c : Judging) where
  abbrev said : Verdict
  said = verdict c.reading c.last c.lent s

  accepted_at : T (not (is_refusal (answer_at s c))) → outcome_at s c ≡ Ok said
  unfolding outcome
  accepted_at k = accepted_outcome s c.reading c.last c.lent (answer_at s c) k

  refused_at : T (is_refusal (answer_at s c)) → state_after s c.reading c.last c.lent (outcome_at s c) ≡ s
  unfolding outcome
  refused_at k = refused_state s c.reading c.last c.lent (answer_at s c) k

  -- An accepted reading's counts take an update.
  counts_at : T (not (is_refusal (answer_at s c))) → counts_ok s.basic_thresholder ≡ true
  unfolding answer_of
  counts_at a =
      thresholder_ok s
      (pick (range_ok c.reading.shingle_size c.reading.base_dimension s.base_dimension)
      (lengths_ok c.reading c.last (lengths_of c.lent (length c.expected) (length c.high) (length c.low)))
      (finite_ok c.reading c.last c.lent) (seen_ok c.reading.values_seen c.last.has_anomaly c.last.anomaly.values_seen) (state_counts_ok s) a)
    where
      pick : (range lengths finite seen counts : Bool)
          → T (not (is_refusal (cond range (cond lengths (cond finite (cond seen (cond counts (Ok tt) (Err Count)) (Err ValuesSeen)) (Err NotFinite)) (Err Length)) (Err Range))))
          → counts ≡ true
      pick true true true true true a = refl
      pick true true true true false a = absurd a
      pick true true true false k a = absurd a
      pick true true false e k a = absurd a
      pick true false f e k a = absurd a
      pick false q f e k a = absurd a

  -- ---- what a call returns
  pub returned_at : Returned s c (outcome_at s c)
  unfolding outcome outcome_of
  returned_at = go (answer_at s c) refl
    where
      go : (a : Answer) → answer_at s c ≡ a → Returned s c (outcome_of said a)
      go (Ok tt) e = (ap is_refusal e, λ (z : T (not (eq c.reading.score zero32))). verdict_shows s c.reading c.last c.lent (false_of _ z))
      go (Err why) e = ap is_refusal e

  -- ---- the laws, of an accepted reading
  module _ (a : T (not (is_refusal (answer_at s c)))) where
    state_of : state_after s c.reading c.last c.lent (outcome_at s c) ≡ state_after s c.reading c.last c.lent (Ok said)
    state_of = ap (state_after s c.reading c.last c.lent) (accepted_at a)

    shown_of : shown_by s c.reading (outcome_at s c) ≡ shown_by s c.reading (Ok said)
    shown_of = ap (shown_by s c.reading) (accepted_at a)

    zeros : T (eq c.reading.score zero32) → state_after s c.reading c.last c.lent (outcome_at s c) ≡ s
    zeros z = state_of ∙ skipped_state s c.reading c.last c.lent (zero_skips s c.reading c.last c.lent (true_of _ z))

    module _ (d : c.reading.scoring_strategy ≡ DISTANCE) (z : T (not (eq c.reading.score zero32))) where
      shows : Shows (opened s c.reading) said
      shows = verdict_shows s c.reading c.last c.lent (false_of _ z)

      opens : opened s c.reading ≡ primary_threshold_and_grade s.basic_thresholder c.reading.score
      opens = opening_is s.basic_thresholder c.reading c.reading.score (by_distance _ d)

      counts : Counts s.basic_thresholder c.reading.score (state_after s c.reading c.last c.lent (outcome_at s c)).basic_thresholder
      counts =
          subst (λ (t : BasicThresholder). Counts s.basic_thresholder c.reading.score t)
          (sym (ap (λ (u : PredictorCorrector). u.basic_thresholder) state_of ∙ accepted_counts s c.reading c.last c.lent (by_distance _ d) (false_of _ z) ∙ primary_counted_lem s.basic_thresholder (counts_at a) c.reading.score))
          (primary_counts s.basic_thresholder c.reading.score)

      threshold_opens : (shown_by s c.reading (outcome_at s c)).threshold ≡ (primary_threshold_and_grade s.basic_thresholder c.reading.score).threshold
      threshold_opens = ap (λ (v : Shown). v.threshold) shown_of ∙ shows.threshold ∙ ap (λ (g : Graded). g.threshold) opens

      grade_opens : (shown_by s c.reading (outcome_at s c)).opening ≡ (primary_threshold_and_grade s.basic_thresholder c.reading.score).grade
      grade_opens = ap (λ (v : Shown). v.opening) shown_of ∙ ap (λ (g : Graded). g.grade) opens

      ends_quiet : (shown_by s c.reading (outcome_at s c)).opening ≡ zero32 → (shown_by s c.reading (outcome_at s c)).ends ≡ zero32
      ends_quiet g =
          let o : (opened s c.reading).grade ≡ zero32 = sym (ap (λ (v : Shown). v.opening) shown_of) ∙ g in
          ap (λ (v : Shown). v.ends) shown_of ∙ quiet_ends said (shows.quiet ∙ ap (λ (x : Float). eq x zero32) o ∙ zero_is_zero)

pub watch_keeps : Laws watch (λ (s : PredictorCorrector). s.basic_thresholder)
watch_keeps = record {
  refused_keeps = λ (s : PredictorCorrector) (r : Lending). refused_at s r.call;
  zero_keeps = λ (s : PredictorCorrector) (r : Lending). zeros s r.call;
  counts = λ (s : PredictorCorrector) (r : Lending) (a : T (not (is_refusal (answer_at s r.call)))). counts s r.call a r.distance;
  opens_threshold = λ (s : PredictorCorrector) (r : Lending) (a : T (not (is_refusal (answer_at s r.call)))). threshold_opens s r.call a r.distance;
  opens_grade = λ (s : PredictorCorrector) (r : Lending) (a : T (not (is_refusal (answer_at s r.call)))). grade_opens s r.call a r.distance;
  ends = λ (s : PredictorCorrector) (r : Lending) (a : T (not (is_refusal (answer_at s r.call)))). ends_quiet s r.call a r.distance;
}
