-- Judging by how a state stands, and what its verdict does to the state, is judging the state. Assumes nothing.
use Rattle.std.specs.Prelude.{Result, Ok, Err}
use mathlib.Core.Path.{◌≡◌, refl, sym, ap, ◌∙◌, subst}
use mathlib.Core.Bool.{Bool, true, false, cond}
use mathlib.Core.List.{List}
use Prim.Native.Nat.{ℕ, zero, suc, ◌-◌, ◌≤◌, ◌<◌}
use native.Mathlib.Nat.{not-suc-le-zero}
use native.Mathlib.Omega.{arith}
use lib.IntN.{ℤ}
use lib.ListN.{length, take, drop, get_or, length-drop}
use lib.Ieee.{Float}
use Rattle.attributors.specs.Attributors.{padded}
use Rattle.attributors.proofs.Laws.{take_padded}
use Rattle.deviation.specs.Const.{zero64}
use Rattle.deviation.specs.Statistics.{fresh}
use Rattle.corrector.proofs.Kept.{expected_length}
use Rattle.descriptor.specs.Checks.{answer_of, range_ok}
use Rattle.descriptor.specs.Lent.{Lent}
use Rattle.descriptor.specs.declared.Reading.{Reading}
use Rattle.descriptor.specs.declared.LastDescriptor.{LastDescriptor}
use Rattle.predictorcorrector.specs.State.{auto_adjusted, run_grown, state_counts_ok, standing}
use Rattle.predictorcorrector.specs.Lists.{first_countable}
use Rattle.predictorcorrector.specs.declared.PredictorCorrector.{PredictorCorrector}
use Rattle.predictorcorrector.proofs.Rows.{lists_ok}
use Rattle.candidate.specs.Candidate.{is_candidate, drift_at, candidate_with, is_drift}
use Rattle.candidate.proofs.Last.{drift_at_lem}
use Rattle.detection.specs.Const.{zero32}
use Rattle.detection.specs.Judging.{opening, start, expected, newest_of, candidate_state, is_data_drift, is_drift_mode, decided, verdict, corrected_score, entered, after}
use Rattle.detection.specs.Judged.{Judged, outcome, outcome_of, state_after}
use Rattle.detection.specs.Decided.{no_row, newest_expected, row_after, drift_of, decision, Decided}
use Rattle.detection.specs.Steps.{Branching, Fitting, rows_counted, after_rows, state_rows}
use Rattle.detection.specs.declared.Verdict.{Verdict}
use Rattle.detection.specs.declared.Verdict.TheVariants.{Quiet, Corrected, Raised, Skipped}
use Rattle.predictorcorrector.specs.declared.Standing.{Standing}
use Rattle.detection.specs.declared.Decision.{Decision}
use Rattle.detection.proofs.Entry.{branching, in_range, same_base, counts_ok}
use Rattle.types.specs.declared.Refusal.{Refusal}
use Rattle.types.specs.Refusals.{Answer}

module _ (r : Reading) (l : LastDescriptor) (b : Lent) where
  -- The newest rows are `base` long.
  row_inside : Branching r l b → r.base_dimension ≤ length b.point
  row_inside f = let p = f.expecting.inside in omega arith

  newest_long : Branching r l b → (xs : List Float) → length xs ≡ length b.point → length (newest_of r l b xs) ≡ r.base_dimension
  unfolding newest_of
  newest_long f xs e = let p = row_inside f in length-drop (length b.point - r.base_dimension) xs ∙ (let q : length xs - (length b.point - r.base_dimension) ≡ r.base_dimension = omega arith in q)

  expected_long : length (expected r l b) ≡ length b.point
  unfolding expected
  expected_long = expected_length b.high b.low (start r l b) r.base_dimension b.point b.median

  -- The front of the row that is handed on is the row.
  pub row_front : Branching r l b → take r.base_dimension (newest_expected r l b) ≡ newest_of r l b (expected r l b)
  unfolding newest_expected
  row_front f =
      let n = newest_long f (expected r l b) expected_long in
      let m = f.base_most in
      ap (λ (x : ℕ). take x (padded zero32 16 (newest_of r l b (expected r l b)))) (sym n) ∙ take_padded zero32 16 (newest_of r l b (expected r l b)) (omega arith)

  module _ (s : PredictorCorrector) (long : length s.deviations_actual ≡ 16) (long' : length s.deviations_expected ≡ 16) where
    -- ---- data drift by the last entries is data drift by the lists
    drift_by : Branching r l b → state_counts_ok s ≡ true → (base : ℕ) → s.base_dimension ≡ base → r.base_dimension ≡ base → 0 < base → (t : Float) → drift_of r l b (standing s) t ≡ is_data_drift r l b s t
    unfolding drift_of is_data_drift candidate_state standing
    drift_by f ok zero e q p t = absurd (not-suc-le-zero p)
    drift_by f ok (suc y) e q p t =
        let m = f.base_most in
        let n = newest_long f b.point refl in
        let x = newest_long f (expected r l b) expected_long in
        let at : s.base_dimension - 1 ≡ y = omega arith in
        let c = is_candidate r l s.run_length r.shingle_size t in
        let counts : s.auto_adjust ≡ true → (first_countable (suc y) s.deviations_actual ≡ true) × (first_countable (suc y) s.deviations_expected ≡ true)
        = λ h. subst (λ (i : ℕ). (first_countable i s.deviations_actual ≡ true) × (first_countable i s.deviations_expected ≡ true)) e (lists_ok s ok (omega arith) h) in
        let k = drift_at_lem s y e (omega arith) long long' (newest_of r l b b.point) (newest_of r l b (expected r l b)) b.difference_deviations (omega arith) (omega arith) counts c in
        (λ i. drift_at c s.auto_adjust s.run_length (q i) (get_or s.deviations_actual (at i) (fresh zero64)) (get_or s.deviations_expected (at i) (fresh zero64)) (newest_of r l b b.point) (newest_of r l b (expected r l b)) b.difference_deviations)
        ∙ k
        ∙ (λ i. is_drift c s (candidate_with c s (newest_of r l b b.point) (newest_of r l b (expected r l b))) (sym q i) (newest_of r l b b.point) (newest_of r l b (expected r l b)) b.difference_deviations)

    module _ (e h w : ℕ) where
      answer : Answer
      answer = answer_of r l b e h w s.base_dimension (state_counts_ok s)

      outcome_by : (a : Answer) → answer ≡ a
          → outcome_of (decided r l b s.basic_thresholder s.auto_adjust (drift_of r l b (standing s) (opening s.basic_thresholder r r.score).threshold)) a ≡ outcome_of (verdict r l b s) a
      unfolding outcome_of verdict answer
      outcome_by (Ok tt) q =
          let f = branching r l b s.base_dimension e h w (state_counts_ok s) q in
          let d = drift_by f (counts_ok r l b s.base_dimension e h w (state_counts_ok s) q) s.base_dimension refl (same_base r l b s.base_dimension e h w (state_counts_ok s) q) (subst (λ (n : ℕ). 0 < n) (same_base r l b s.base_dimension e h w (state_counts_ok s) q) f.expecting.some) (opening s.basic_thresholder r r.score).threshold in
          ap (λ (x : Bool). Ok (decided r l b s.basic_thresholder s.auto_adjust x)) d
      outcome_by (Err why) q = refl

      -- For the way a state stands, the decision is the outcome.
      pub decision_is : decision r l b (standing s) e h w ≡ outcome s r l b e h w
      unfolding decision outcome standing answer
      decision_is = outcome_by answer refl

  -- ---- the state after it
  module _ (k : Standing) (e h w : ℕ) where
    fitting_by : (v : Verdict) (a : Answer) → answer_of r l b e h w k.base_dimension k.counts_ok ≡ a → Fitting r (length b.point) (outcome_of v a)
    unfolding outcome_of
    fitting_by v (Ok tt) q =
        let f = branching r l b k.base_dimension e h w k.counts_ok q in
        record { shingle_most = f.shingle_most; base_most = f.base_most; inside = row_inside f }
    fitting_by v (Err why) q = tt

    -- What an outcome gives the change of the state.
    pub fitting : (o : Result Verdict Refusal) → o ≡ decision r l b k e h w → Fitting r (length b.point) o
    unfolding decision
    fitting o q = subst (Fitting r (length b.point)) (sym q) (fitting_by _ (answer_of r l b e h w k.base_dimension k.counts_ok) refl)

    accepted_by : (v x : Verdict) (a : Answer) → answer_of r l b e h w k.base_dimension k.counts_ok ≡ a → outcome_of v a ≡ Ok x
        → (range_ok r.shingle_size r.base_dimension k.base_dimension ≡ true) × (k.counts_ok ≡ true)
    unfolding outcome_of
    accepted_by v x (Ok tt) q o = (in_range r l b k.base_dimension e h w k.counts_ok q, counts_ok r l b k.base_dimension e h w k.counts_ok q)
    accepted_by v x (Err why) q o = absurd (let z : ◌≡◌ {A = ℕ} 0 1 = cc in omega arith)

    -- What an accepted reading gives the change of a stored state.
    pub accepted : (o : Result Verdict Refusal) (x : Verdict) → o ≡ decision r l b k e h w → o ≡ Ok x → (range_ok r.shingle_size r.base_dimension k.base_dimension ≡ true) × (k.counts_ok ≡ true)
    unfolding decision
    accepted o x q p = accepted_by _ x (answer_of r l b e h w k.base_dimension k.counts_ok) refl (sym q ∙ p)

    module _ (s : PredictorCorrector) (row : List Float) where
      counted_is : Branching r l b → row ≡ newest_expected r l b → (t : Float) → rows_counted s r l t b.point row ≡ candidate_state r l b s t
      unfolding rows_counted candidate_state newest_of
      counted_is f q t = ap (candidate_with (is_candidate r l s.run_length r.shingle_size t) s (drop (length b.point - r.base_dimension) b.point)) (ap (take r.base_dimension) q ∙ row_front f)

      mode_is : Branching r l b → (t : Float) (d : Bool) → row ≡ cond d (newest_expected r l b) no_row → cond d (rows_counted s r l t b.point row) (auto_adjusted s b.point) ≡ cond d (candidate_state r l b s t) (auto_adjusted s b.point)
      mode_is f t true q = counted_is f q t
      mode_is f t false q = refl

      after_is : Branching r l b → (v : Verdict) → row ≡ row_after r l b (Ok v) → after_rows s r l b.point row v ≡ after r l b s v
      unfolding after_rows after row_after
      after_is f (Quiet t) q = refl
      after_is f (Corrected t m) q = ap (λ (x : PredictorCorrector). entered x r l (corrected_score r l)) (mode_is f t (is_drift_mode m) q)
      after_is f (Raised t g) q = ap (λ (x : PredictorCorrector). entered (run_grown x) r l (corrected_score r l)) (counted_is f q t)
      after_is f Skipped q = refl

      state_by : (v : Verdict) (a : Answer) → answer_of r l b e h w k.base_dimension k.counts_ok ≡ a → row ≡ row_after r l b (outcome_of v a)
          → state_rows s r l b.point row (outcome_of v a) ≡ state_after s r l b (outcome_of v a)
      unfolding outcome_of state_rows state_after
      state_by v (Ok tt) q p = after_is (branching r l b k.base_dimension e h w k.counts_ok q) v p
      state_by v (Err why) q p = refl

      state_is : row ≡ row_after r l b (decision r l b k e h w) → state_rows s r l b.point row (decision r l b k e h w) ≡ state_after s r l b (decision r l b k e h w)
      unfolding decision
      state_is p = state_by _ (answer_of r l b e h w k.base_dimension k.counts_ok) refl p

-- ---- the contract of a judgment
module _ (s : PredictorCorrector) (long : length s.deviations_actual ≡ 16) (long' : length s.deviations_expected ≡ 16) (r : Reading) (l : LastDescriptor) (b : Lent) where
  pub judged : (k : Standing) → k ≡ standing s → (j : Decision) (i : ℤ) (t : PredictorCorrector) (e h w e' h' w' : List Float)
      → i ≡ j.relative_index
      → Decided r l b (decision r l b k (length e) (length h) (length w)) j e h w e' h' w' → t ≡ state_rows s r l b.point j.newest_expected j.outcome
      → Judged s r l b (record { outcome = j.outcome; relative_index = i; state = t }) e h w e' h' w'
  judged k stands j i t e h w e' h' w' n p q =
      let o = decision r l b k (length e) (length h) (length w) in
      let is : o ≡ outcome s r l b (length e) (length h) (length w) = ap (λ (x : Standing). decision r l b x (length e) (length h) (length w)) stands ∙ decision_is r l b s long long' (length e) (length h) (length w) in
      let c = subst (λ (x : Result Verdict Refusal). Decided r l b x j e h w e' h' w') is p in
      record {
        says = c.says;
        state = q ∙ ap (state_rows s r l b.point j.newest_expected) p.says ∙ state_is r l b k (length e) (length h) (length w) s j.newest_expected p.row ∙ ap (state_after s r l b) is;
        index = n ∙ c.index;
        point = c.point;
        highs = c.highs;
        lows = c.lows;
      }
