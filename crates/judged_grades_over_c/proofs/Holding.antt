-- Bytes that calls reach hold a state that calls reach. Assumes nothing.
use Rattle.std.specs.Prelude.{Result, Ok, Err}
use Prim.Native.Nat.{ℕ}
use mathlib.Core.Path.{◌≡◌, refl, sym, ap, ◌∙◌, subst}
use mathlib.Core.List.{List}
use lib.Dec.{eqb}
use lib.ListN.{length}
use lib.Ieee.{Float}
use Rattle.types.specs.Refusals.{answered, Answer}
use Rattle.divector.specs.DiVector.{normalized}
use Rattle.descriptor.specs.Lent.{Lent}
use Rattle.descriptor.specs.declared.Reading.{Reading}
use Rattle.descriptor.specs.declared.LastDescriptor.{LastDescriptor}
use Rattle.predictorcorrector.specs.State.{new, z_factor_set, lower_threshold_set, initial_threshold_set, set_horizon, auto_adjusted}
use Rattle.predictorcorrector.specs.declared.PredictorCorrector.{PredictorCorrector}
use Rattle.detection.specs.Judging.{expected, after}
use Rattle.detection.specs.Judged.{outcome, state_after, index_after, written, outcome_number}
use Rattle.detection.specs.declared.Verdict.{Verdict}
use Rattle.detection.specs.declared.Verdict.TheVariants.{Quiet, Corrected, Raised, Skipped}
use Rattle.calls.specs.Calls as Calls
use Rattle.calls.specs.Calls.{adjust_answer, adjusted_by}
use Rattle.layout.specs.Left.{Left, left}
use Rattle.layout.specs.Chain.{decode_state}
use Rattle.layout.specs.InPlace.{stored_by}
use Rattle.c_calls.specs.Buffers.{update_auto_adjust, updated_by}
use Rattle.c_judging.specs.Judging.{stored, state_left, changes_state, state_over}
use Rattle.demand3.specs.Calls as ByValue
use Rattle.demand3_over_c.specs.Calls.{Judging, Contract}
use Rattle.demand3_over_c.proofs.Held.{absolute_fits, initial_fits, with_thresholder_lem, adjusted_fits, after_fits}
use Rattle.demand3_over_c.proofs.Start.{Holds, put_holds, new_holds, set_holds, z_holds, horizon_holds, size_fits, codes_fit}
use Rattle.demand3_over_c.proofs.Simulation.{reading_of, last_of, over, Taken, taken, said, score_fits}
use Rattle.judged_grades.specs.Drawers as Drawers
use Rattle.judged_grades.specs.Drawers.{ReachedDrawer}
use Rattle.judged_grades_over_c.specs.Stored.{ReachedStored, krcf_new, krcf_chain_set_z_factor, krcf_chain_set_lower_threshold, krcf_chain_set_initial_threshold, krcf_chain_set_horizon, krcf_update_auto_adjust, krcf_detect_and_modify}
use Rattle.types.specs.declared.Refusal.{Refusal}

-- xs holds s, which calls reach.
record Kept (xs : List ℕ) : Type 0 where
  state : PredictorCorrector
  holds : Holds state xs
  reached : ReachedDrawer state

keep : {xs : List ℕ} (s : PredictorCorrector) → Holds s xs → ReachedDrawer s → Kept xs
keep s h r = record { state = s; holds = h; reached = r }

-- ---- a judgment by value, of any inputs
module _ (s : PredictorCorrector) (r : Reading) (l : LastDescriptor) (b : Lent) (e h w : List Float) where
  abbrev told : Result Verdict Refusal
  told = outcome s r l b (length e) (length h) (length w)

  judging : ByValue.Judging
  judging = record {
    reading = r;
    last = l;
    lent = b;
    judgment = record { outcome = told; state = state_after s r l b told; relative_index = index_after r l b told };
    expected = e;
    high = h;
    low = w;
    expected' = written told e (expected r l b);
    high' = written told h (normalized r.score b.high b.low b.high);
    low' = written told w (normalized r.score b.high b.low b.low);
  }

  contract : ByValue.Contract s judging
  unfolding judging
  contract = record { says = refl; state = refl; index = refl; point = refl; highs = refl; lows = refl }

  value_reached : ReachedDrawer s → ReachedDrawer (state_after s r l b told)
  unfolding judging
  value_reached k = Drawers.judged judging contract k

-- ---- a judgment over C
module _ (xs : List ℕ) (c : Judging) (q : Contract xs c) where
  put : (v : Verdict) → Holds (decode_state xs) xs → Taken xs c → Holds (after (reading_of xs c) (last_of xs c) c.lent (decode_state xs) v) (stored v xs (after (reading_of xs c) (last_of xs c) c.lent (decode_state xs) v))
  unfolding stored changes_state after
  put (Quiet t) h k = put_holds xs _ k.size (after_fits (reading_of xs c) (last_of xs c) c.lent (score_fits c.reading) (decode_state xs) (Quiet t) k.fits)
  put (Corrected t m) h k = put_holds xs _ k.size (after_fits (reading_of xs c) (last_of xs c) c.lent (score_fits c.reading) (decode_state xs) (Corrected t m) k.fits)
  put (Raised t g) h k = put_holds xs _ k.size (after_fits (reading_of xs c) (last_of xs c) c.lent (score_fits c.reading) (decode_state xs) (Raised t g) k.fits)
  put Skipped h k = h

  judged_kept : Kept xs → Kept c.state'
  unfolding state_left state_over state_after
  judged_kept m = go (over xs c) refl
    where
      holds : Holds (decode_state xs) xs
      holds = subst (λ (s : PredictorCorrector). Holds s xs) (sym m.holds.state) m.holds

      reached : ReachedDrawer (decode_state xs)
      reached = subst ReachedDrawer (sym m.holds.state) m.reached

      bytes : (o : Result Verdict Refusal) → over xs c ≡ o → c.state' ≡ state_left o xs (state_over xs c.reading c.last c.lent o)
      bytes o e = q.bytes ∙ ap (λ (o : Result Verdict Refusal). state_left o xs (state_over xs c.reading c.last c.lent o)) e

      accepted : Taken xs c → Kept c.state'
      accepted k =
          let v = said xs c k in
          let after-it = after (reading_of xs c) (last_of xs c) c.lent (decode_state xs) v in
          keep after-it (subst (Holds after-it) (sym (bytes (Ok v) k.says)) (put v holds k))
          (subst ReachedDrawer (ap (state_after (decode_state xs) (reading_of xs c) (last_of xs c) c.lent) k.says_by)
          (value_reached (decode_state xs) (reading_of xs c) (last_of xs c) c.lent c.expected c.high c.low reached))

      go : (o : Result Verdict Refusal) → over xs c ≡ o → Kept c.state'
      go (Ok v) e = accepted (taken xs c (ap outcome_number e))
      go (Err why) e = keep m.state (subst (Holds m.state) (sym (bytes (Err why) e)) m.holds) m.reached

-- ---- krcf_update_auto_adjust
module _ (xs : List ℕ) (m : Kept xs) (shingle : ℕ) (point : List Float) where
  answer : Answer
  answer = adjust_answer m.state shingle point

  adjusting : (n : ℕ) (ys : List ℕ) → left n ys ≡ update_auto_adjust xs shingle point → left n ys ≡ updated_by (Calls.update_auto_adjust m.state shingle point) xs
  unfolding update_auto_adjust
  adjusting n ys e =
      e ∙ rw (codes_fit m.state xs m.holds, size_fits m.state xs m.holds) refl
      ∙ ap (λ (s : PredictorCorrector). updated_by (Calls.update_auto_adjust s shingle point) xs) m.holds.state

  by_answer : (n : ℕ) (ys : List ℕ) (a : Answer) → answer ≡ a → left n ys ≡ left (answered a) (stored_by a xs (adjusted_by a m.state point)) → Kept ys
  unfolding stored_by adjusted_by Calls.update_auto_adjust answer
  by_answer n ys (Ok tt) p e =
      keep (auto_adjusted m.state point)
      (subst (Holds (auto_adjusted m.state point)) (sym (ap (λ (l : Left). l.bytes) e)) (put_holds xs (auto_adjusted m.state point) m.holds.size (adjusted_fits m.state point m.holds.fits)))
      (subst (λ (a : Answer). ReachedDrawer (adjusted_by a m.state point)) p (Drawers.update_auto_adjust_call shingle point m.reached))
  by_answer n ys (Err why) p e = keep m.state (subst (Holds m.state) (sym (ap (λ (l : Left). l.bytes) e)) m.holds) m.reached

  adjusted_kept : (n : ℕ) (ys : List ℕ) → left n ys ≡ update_auto_adjust xs shingle point → Kept ys
  unfolding Calls.update_auto_adjust answer
  adjusted_kept n ys e = by_answer n ys answer refl (adjusting n ys e)

-- ---- every call
kept : (xs : List ℕ) → ReachedStored xs → Kept xs
kept ys (krcf_new d auto base out h e) =
    let m = new_holds d (eqb auto 1) base auto out ys h e in keep m.0 m.2 (Drawers.new d (eqb auto 1) base m.1)
kept _ (krcf_chain_set_z_factor {xs} x n ys h e r) =
    let m = kept xs r in keep (z_factor_set m.state x) (z_holds m.state xs m.holds x n ys h e) (Drawers.set_z_factor x m.reached)
kept _ (krcf_chain_set_lower_threshold {xs} x n ys h e r) =
    let m = kept xs r in
    let f = m.holds.fits in
    keep (lower_threshold_set m.state x)
    (set_holds m.state xs m.holds (λ (s : PredictorCorrector). lower_threshold_set s x) n ys (with_thresholder_lem m.state _ f (absolute_fits m.state.basic_thresholder x h f.thresholder)) e)
    (Drawers.set_lower_threshold x m.reached)
kept _ (krcf_chain_set_initial_threshold {xs} x n ys h e r) =
    let m = kept xs r in
    let f = m.holds.fits in
    keep (initial_threshold_set m.state x)
    (set_holds m.state xs m.holds (λ (s : PredictorCorrector). initial_threshold_set s x) n ys (with_thresholder_lem m.state _ f (initial_fits m.state.basic_thresholder x h f.thresholder)) e)
    (Drawers.set_initial_threshold x m.reached)
kept _ (krcf_chain_set_horizon {xs} x n ys h e r) =
    let m = kept xs r in keep (set_horizon m.state x).state (horizon_holds m.state xs m.holds x n ys h e) (Drawers.set_horizon_call x m.reached)
kept _ (krcf_update_auto_adjust {xs} shingle point n ys e r) = adjusted_kept xs (kept xs r) shingle point n ys e
kept _ (krcf_detect_and_modify {xs} c q r) = judged_kept xs c q (kept xs r)

pub held : (xs : List ℕ) → ReachedStored xs → ReachedDrawer (decode_state xs)
held xs r = let m = kept xs r in subst ReachedDrawer (sym m.holds.state) m.reached
