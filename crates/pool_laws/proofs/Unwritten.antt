-- A judgment writes the state unless it is the same: a refusal and a skipped reading leave it, and every other reading counts one more. Assumes nothing.
use Rattle.std.specs.Prelude.{Result, Ok, Err}
use mathlib.Core.Path.{◌≡◌, refl, sym, ap, ◌∙◌}
use mathlib.Core.Bool.{Bool, true, false, cond, ◌&&◌, and-false, false≢true}
use mathlib.Core.List.{List}
use Prim.Native.Nat.{ℕ, ◌+◌}
use native.Mathlib.Omega.{arith}
use lib.Dec.{eqb, leb, ltb}
use lib.IntN.{ℤ, pos, negsuc}
use lib.ListN.{length}
use lib.Ieee.{Float}
use borrow.Author.Tests.{ne_eqb}
use Rattle.types.specs.Codes.{is_height}
use Rattle.types.specs.declared.Refusal.TheVariants.{Range, Length, NotFinite, ValuesSeen, Count}
use Rattle.deviation.specs.Const.{count_limit}
use Rattle.deviation.specs.Statistics.{countable, one_more}
use Rattle.basicthresholder.specs.Updates.{update_primary, update, counts_ok}
use Rattle.basicthresholder.specs.declared.BasicThresholder.{BasicThresholder}
use Rattle.basicthresholder.proofs.Laws.{primary_counted_lem, capped_counted, primary_count, both_count}
use Rattle.descriptor.specs.Checks.{answer_of, lengths_of, range_ok, lengths_ok, finite_ok, seen_ok}
use Rattle.descriptor.specs.Lent.{Lent}
use Rattle.descriptor.specs.declared.Reading.{Reading}
use Rattle.descriptor.specs.declared.LastDescriptor.{LastDescriptor}
use Rattle.predictorcorrector.specs.Lists.{row_fits}
use Rattle.predictorcorrector.specs.State as State
use Rattle.predictorcorrector.specs.State.{run_ended, auto_adjusted, candidate_counted, run_grown, state_counts_ok, height_score}
use Rattle.predictorcorrector.specs.declared.PredictorCorrector.{PredictorCorrector}
use Rattle.predictorcorrector.proofs.Rows.{both, thresholder_ok}
use Rattle.detection.specs.Judging.{is_drift_mode, update_score, entered, candidate_with, candidate_state, verdict, after}
use Rattle.detection.specs.Judged.{outcome, outcome_of, state_after}
use Rattle.detection.specs.declared.Verdict.{Verdict}
use Rattle.detection.specs.declared.Verdict.TheVariants.{Quiet, Corrected, Raised, Skipped}
use Rattle.layout.specs.Chain.{decode_state, encode_state_over}
use Rattle.layout.specs.Readings.{decode_reading, decode_last}
use Rattle.layout.specs.Places.{verdict_length}
use Rattle.verdict_bytes.specs.Bytes.{changes_state, stored, state_left}
use Rattle.c_judging.specs.Judging.{codes_ok, slices_ok, sizes_fit, outcome_over, state_over}
use Rattle.pool_settings.specs.Sameness.{same_whole, same_thresholder, same_state}
use Rattle.pool_settings.specs.Settings.{stored_unless_same}
use Rattle.pool_settings.proofs.Sameness.{state_same}
use Rattle.pool_laws.specs.Unwritten.{Unwritten}
use Rattle.types.specs.declared.Refusal.{Refusal}
use Rattle.types.specs.Refusals.{Answer}

-- ---- a count that is one more is another
count_differs : (n : ℤ) → countable n ≡ true → same_whole n (one_more n) ≡ false
unfolding same_whole one_more countable
count_differs (pos n) h = rw h (ne_eqb n (n + 1) (λ (e : n ≡ n + 1). omega (arith, e)))
count_differs (negsuc n) h = absurd (false≢true h)

-- Two states whose thresholders' counts differ are not the same.
states_differ : (a b : PredictorCorrector) → same_whole a.basic_thresholder.count b.basic_thresholder.count ≡ false → same_state a b ≡ false
unfolding same_state same_thresholder
states_differ a b h = simp (h, and-false)

-- ---- what is done to the run and the lists leaves the thresholder
either : (c : Bool) (t : BasicThresholder) (a b : PredictorCorrector) → a.basic_thresholder ≡ t → b.basic_thresholder ≡ t → (cond c a b).basic_thresholder ≡ t
either true t a b p q = p
either false t a b p q = q

ended : (s : PredictorCorrector) → (run_ended s).basic_thresholder ≡ s.basic_thresholder
unfolding run_ended
ended s = either (s.auto_adjust && leb s.base_dimension 16) s.basic_thresholder _ _ refl refl

adjusted : (s : PredictorCorrector) (point : List Float) → (auto_adjusted s point).basic_thresholder ≡ s.basic_thresholder
unfolding auto_adjusted
adjusted s point =
    either (s.auto_adjust && (ltb 0 s.run_length && (leb s.run_length count_limit && row_fits s.base_dimension s.deviations_actual point)))
    s.basic_thresholder _ _ refl refl

counted : (s : PredictorCorrector) (newest expected : List Float) → (candidate_counted s newest expected).basic_thresholder ≡ s.basic_thresholder
unfolding candidate_counted
counted s newest expected =
    either (s.auto_adjust && (row_fits s.base_dimension s.deviations_actual newest && row_fits s.base_dimension s.deviations_expected expected))
    s.basic_thresholder _ _ refl refl

with_candidate : (c : Bool) (s : PredictorCorrector) (newest expected : List Float) → (candidate_with c s newest expected).basic_thresholder ≡ s.basic_thresholder
unfolding candidate_with
with_candidate c s newest expected = either c s.basic_thresholder (candidate_counted s newest expected) s (counted s newest expected) refl

grown : (s : PredictorCorrector) → (run_grown s).basic_thresholder ≡ s.basic_thresholder
unfolding run_grown
grown s = refl

-- ---- a reading of a state that refusal 6 is not of
module _ (r : Reading) (l : LastDescriptor) (b : Lent) (s : PredictorCorrector) where
  abbrev t : BasicThresholder
  t = s.basic_thresholder

  candidate : (threshold : Float) → (candidate_state r l b s threshold).basic_thresholder ≡ t
  unfolding candidate_state
  candidate threshold = with_candidate _ s _ _

  module _ (ok : state_counts_ok s ≡ true) where
    counts : counts_ok t ≡ true
    counts = thresholder_ok s ok

    score_counts : (x : Float) → (update_score t r l x).count ≡ one_more t.count
    unfolding update_score State.update_score
    score_counts x = go (is_height r.scoring_strategy)
      where
        go : (h : Bool) → (cond h (update t r.score x (height_score l.scoring_strategy l.score)).state (update_primary t r.score).state).count ≡ one_more t.count
        go true = ap (λ (u : BasicThresholder). u.count) (capped_counted t counts r.score x (height_score l.scoring_strategy l.score)) ∙ both_count t _ _
        go false = ap (λ (u : BasicThresholder). u.count) (primary_counted_lem t counts r.score) ∙ primary_count t r.score

    entered_counts : (u : PredictorCorrector) (x : Float) → u.basic_thresholder ≡ t → (entered u r l x).basic_thresholder.count ≡ one_more t.count
    unfolding entered
    entered_counts u x e = ap (λ (t : BasicThresholder). (update_score t r l x).count) e ∙ score_counts x

    after_counts : (v : Verdict) → changes_state v ≡ true → (after r l b s v).basic_thresholder.count ≡ one_more t.count
    unfolding after changes_state
    after_counts (Quiet m) c = entered_counts (run_ended s) _ (ended s)
    after_counts (Corrected m k) c = entered_counts (cond (is_drift_mode k) (candidate_state r l b s m) (auto_adjusted s b.point)) _ (either (is_drift_mode k) t _ _ (candidate m) (adjusted s b.point))
    after_counts (Raised m g) c = entered_counts (run_grown (candidate_state r l b s m)) _ (grown (candidate_state r l b s m) ∙ candidate m)
    after_counts Skipped c = absurd (false≢true c)

    count_ok : countable t.count ≡ true
    unfolding counts_ok
    count_ok = (both (countable t.count) _ counts).0

    changed : (v : Verdict) → changes_state v ≡ true → same_state s (after r l b s v) ≡ false
    changed v c = states_differ s (after r l b s v) (ap (same_whole t.count) (after_counts v c) ∙ count_differs t.count count_ok)

-- ---- an accepted reading passed refusal 6
done_passes : (a c d e f : Bool)
    → cond {A = Answer} a (cond c (cond d (cond e (cond f (Ok tt) (Err Count)) (Err ValuesSeen)) (Err NotFinite)) (Err Length)) (Err Range) ≡ Ok tt
    → f ≡ true
done_passes true true true true true q = refl
done_passes true true true true false q = absurd (let z : ◌≡◌ {A = ℕ} 0 1 = cc in omega arith)
done_passes true true true false f q = absurd (let z : ◌≡◌ {A = ℕ} 0 1 = cc in omega arith)
done_passes true true false e f q = absurd (let z : ◌≡◌ {A = ℕ} 0 1 = cc in omega arith)
done_passes true false d e f q = absurd (let z : ◌≡◌ {A = ℕ} 0 1 = cc in omega arith)
done_passes false c d e f q = absurd (let z : ◌≡◌ {A = ℕ} 0 1 = cc in omega arith)

module _ (zs reading last : List ℕ) (b : Lent) (e h w v : ℕ) where
  abbrev s : PredictorCorrector
  s = decode_state zs

  abbrev r : Reading
  r = decode_reading reading

  abbrev l : LastDescriptor
  l = decode_last last

  abbrev asked : Answer
  asked = answer_of r l b e h w s.base_dimension (state_counts_ok s)

  passes_six : asked ≡ Ok tt → state_counts_ok s ≡ true
  unfolding answer_of
  passes_six =
      done_passes (range_ok r.shingle_size r.base_dimension s.base_dimension) (lengths_ok r l (lengths_of b e h w)) (finite_ok r l b)
      (seen_ok r.values_seen l.has_anomaly l.anomaly.values_seen) (state_counts_ok s)

  accepted_done : (x : Verdict) → outcome_over zs reading last b e h w v ≡ Ok x → asked ≡ Ok tt
  unfolding outcome_over outcome outcome_of
  accepted_done x = go (codes_ok zs reading last) (slices_ok (length zs) (length reading) (length last) (eqb v verdict_length)) (sizes_fit zs reading) asked
    where
      go : (p q f : Bool) (a : Answer) → cond p (cond q (outcome_of (verdict r l b s) a) (cond f (Err Length) (Err Range))) (Err Range) ≡ Ok x → a ≡ Ok tt
      go true true f (Ok tt) i = refl
      go true true f (Err why) i = absurd (let z : ◌≡◌ {A = ℕ} 0 1 = cc in omega arith)
      go true false true a i = absurd (let z : ◌≡◌ {A = ℕ} 0 1 = cc in omega arith)
      go true false false a i = absurd (let z : ◌≡◌ {A = ℕ} 0 1 = cc in omega arith)
      go false q f a i = absurd (let z : ◌≡◌ {A = ℕ} 0 1 = cc in omega arith)

  -- ---- the bytes afterwards
  by : (u : PredictorCorrector) (c : Bool) → same_state s u ≡ c → cond c zs (encode_state_over zs u) ≡ stored_unless_same zs u
  unfolding stored_unless_same
  by u c e = ap (λ (c : Bool). cond c zs (encode_state_over zs u)) (sym e)

  changed_by : (x : Verdict) → changes_state x ≡ true → outcome_over zs reading last b e h w v ≡ Ok x → encode_state_over zs (after r l b s x) ≡ stored_unless_same zs (after r l b s x)
  changed_by x c i = by (after r l b s x) false (changed r l b s (passes_six (accepted_done x i)) x c)

  unwritten : (o : Result Verdict Refusal) → outcome_over zs reading last b e h w v ≡ o → state_left o zs (state_over zs reading last b o) ≡ stored_unless_same zs (state_over zs reading last b o)
  unfolding state_left stored changes_state state_over state_after after
  unwritten (Err why) i = by s true (state_same s)
  unwritten (Ok Skipped) i = by s true (state_same s)
  unwritten (Ok (Quiet t)) i = changed_by (Quiet t) refl i
  unwritten (Ok (Corrected t m)) i = changed_by (Corrected t m) refl i
  unwritten (Ok (Raised t g)) i = changed_by (Raised t g) refl i

pub pool_unwritten : Unwritten
pool_unwritten = record {
  judged = λ zs reading last b n e h w v ys e' h' w' v' a. a.bytes ∙ unwritten zs reading last b (length e) (length h) (length w) (length v) _ refl;
}
