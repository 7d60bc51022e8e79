-- The calls' shapes over plain variables. Assumes nothing.
use Rattle.std.specs.Prelude.{Result, Ok, Err}
use mathlib.Core.Path.{◌≡◌, refl, sym, ap, ◌∙◌}
use mathlib.Core.Bool.{Bool, true, false, cond, ◌&&◌}
use mathlib.Core.List.{List}
use Prim.Native.Nat.{ℕ, ◌-◌}
use native.Mathlib.Omega.{arith}
use lib.Dec.{eqb, leb, ltb}
use lib.ListN.{length, take, drop, length-drop}
use lib.Seq.{length-take-le}
use lib.IntN.{ℤ}
use lib.Ieee.{Float}
use borrow.Author.Tests.{leb-true, eq-eqb, le-leb}
use Rattle.types.specs.Codes.{mode_code}
use Rattle.types.specs.Refusals.{number, answered, Answer}
use Rattle.types.specs.declared.CorrectionMode.{CorrectionMode}
use Rattle.types.specs.declared.Refusal.{Refusal}
use Rattle.types.specs.declared.Refusal.TheVariants as Why
use Rattle.deviation.specs.Const.{count_limit}
use Rattle.descriptor.specs.Checks.{sizes_ok, range_ok}
use Rattle.descriptor.proofs.Bounds.{both}
use Rattle.descriptor.specs.declared.Reading.{Reading}
use Rattle.descriptor.specs.declared.LastDescriptor.{LastDescriptor}
use Rattle.predictorcorrector.specs.Lists.{row_fits}
use Rattle.predictorcorrector.specs.State.{run_ended, auto_adjusted, candidate_counted, run_grown, state_counts_ok}
use Rattle.predictorcorrector.specs.declared.PredictorCorrector.{PredictorCorrector}
use Rattle.scoring.specs.Scores.{update_score, entered}
use Rattle.candidate.specs.Candidate.{is_candidate, candidate_with}
use Rattle.detection.specs.Const.{zero32}
use Rattle.detection.specs.Judging.{is_drift_mode, corrected_score}
use Rattle.detection.specs.Judged.{outcome_of, outcome_number}
use Rattle.detection.specs.Steps.{Counting}
use Rattle.detection.specs.Decided.{rows_counted, after_rows}
use Rattle.detection.specs.declared.Verdict.{Verdict}
use Rattle.detection.specs.declared.Verdict.TheVariants.{Quiet, Corrected, Raised, Skipped}
use Rattle.layout.specs.Places.{state_length, verdict_length}
use Rattle.layout.specs.Numbers.{written_of}
use Rattle.layout.specs.Chain.{state_codes_ok, decode_state, encode_state_over}
use Rattle.layout.specs.InPlace as InPlace
use Rattle.layout.specs.InPlace.{reading_answer, stored_by, stored_run, run_after, rows_fit}
use Rattle.layout.specs.Readings.{verdict_bytes}
use Rattle.layout.proofs.InPlace.{fitting}
use Rattle.verdict_bytes.specs.Bytes.{told, changes_state, stored, state_left, verdict_left}
use Rattle.verdict_bytes.specs.Put.{Put, put_outcome}
use Rattle.verdict_bytes.specs.Steps.{rows_after, put_over, change_of}
use Rattle.verdict_bytes.specs.declared.Change.TheVariants.{Ends, Adjusts, Counts, Stays}

-- ---- the verdict's bytes.
module _ (v : Verdict) (xs zs : List ℕ) where
  module _ (i k : ℤ) (f : k ≡ i) where
    pub told_quiet : (t : Float) → v ≡ Quiet t → zs ≡ written_of verdict_length xs (verdict_bytes 0 0 t zero32 k) → zs ≡ written_of verdict_length xs (told v i)
    unfolding told
    told_quiet t e p = p ∙ rw (e, f)

    pub told_corrected : (t : Float) (m : CorrectionMode) (n : ℕ) → v ≡ Corrected t m → n ≡ mode_code m → zs ≡ written_of verdict_length xs (verdict_bytes 1 n t zero32 k) → zs ≡ written_of verdict_length xs (told v i)
    unfolding told
    told_corrected t m n e c p = p ∙ rw (e, c, f)

    pub told_raised : (t g : Float) → v ≡ Raised t g → zs ≡ written_of verdict_length xs (verdict_bytes 2 0 t g k) → zs ≡ written_of verdict_length xs (told v i)
    unfolding told
    told_raised t g e p = p ∙ rw (e, f)

    pub told_skipped : v ≡ Skipped → zs ≡ written_of verdict_length xs (verdict_bytes 3 0 zero32 zero32 k) → zs ≡ written_of verdict_length xs (told v i)
    unfolding told
    told_skipped e p = p ∙ rw (e, f)

-- ---- run and lists do not look at the thresholder: the scores may enter first.
module _ (s : PredictorCorrector) (r : Reading) (l : LastDescriptor) (x : Float) where
  quiet_enters : InPlace.ended s (InPlace.scored s r l x) ≡ entered (run_ended s) r l x
  unfolding run_ended entered update_score
  quiet_enters = go (s.auto_adjust && leb s.base_dimension 16) refl
    where
      go : (b : Bool) → (s.auto_adjust && leb s.base_dimension 16) ≡ b → InPlace.ended s (InPlace.scored s r l x) ≡ entered (run_ended s) r l x
      go true h = rw h
      go false h = rw h

  adjusted_enters : (point : List Float) → InPlace.adjusted s (InPlace.scored s r l x) point ≡ entered (auto_adjusted s point) r l x
  unfolding auto_adjusted entered update_score
  adjusted_enters point = go (s.auto_adjust && (ltb 0 s.run_length && (leb s.run_length count_limit && row_fits s.base_dimension s.deviations_actual point))) refl
    where
      go : (b : Bool) → (s.auto_adjust && (ltb 0 s.run_length && (leb s.run_length count_limit && row_fits s.base_dimension s.deviations_actual point))) ≡ b
          → InPlace.adjusted s (InPlace.scored s r l x) point ≡ entered (auto_adjusted s point) r l x
      go true h = rw h
      go false h = rw h

  entered_enters : (grows : Bool) → InPlace.entered s (InPlace.scored s r l x) grows ≡ entered (cond grows (run_grown s) s) r l x
  unfolding entered update_score run_grown run_after
  entered_enters true = refl
  entered_enters false = refl

  module _ (newest row_expected : List Float) where
    abbrev fit : Bool
    fit = s.auto_adjust && (row_fits s.base_dimension s.deviations_actual newest && row_fits s.base_dimension s.deviations_expected row_expected)

    counted_enters : (grows : Bool) → InPlace.counted s (InPlace.scored s r l x) grows newest row_expected ≡ entered (cond grows (run_grown (candidate_counted s newest row_expected)) (candidate_counted s newest row_expected)) r l x
    unfolding candidate_counted entered update_score run_grown run_after
    counted_enters true = go fit refl
      where
        go : (b : Bool) → fit ≡ b → InPlace.counted s (InPlace.scored s r l x) true newest row_expected ≡ entered (run_grown (candidate_counted s newest row_expected)) r l x
        go true h = rw h
        go false h = rw h
    counted_enters false = go fit refl
      where
        go : (b : Bool) → fit ≡ b → InPlace.counted s (InPlace.scored s r l x) false newest row_expected ≡ entered (candidate_counted s newest row_expected) r l x
        go true h = rw h
        go false h = rw h

-- ---- the state's bytes.
stored_same : (a : Answer) (xs : List ℕ) (s t : PredictorCorrector) → (a ≡ Ok tt → s ≡ t) → stored_by a xs s ≡ stored_by a xs t
unfolding stored_by
stored_same (Ok _) xs s t e = ap (encode_state_over xs) (e refl)
stored_same (Err why) xs s t e = refl

module _ (xs : List ℕ) (r : Reading) (l : LastDescriptor) (threshold : Float) (point row : List Float) (grows : Bool) where
  abbrev newest : List Float
  newest = drop (length point - r.base_dimension) point

  abbrev expected : List Float
  expected = take r.base_dimension row

  after_counted : (s : PredictorCorrector) → is_candidate r l s.run_length r.shingle_size threshold ≡ true
      → InPlace.counted s (InPlace.scored s r l (corrected_score r l)) grows newest expected ≡ rows_after s r l threshold point row grows
  unfolding rows_after rows_counted candidate_with
  after_counted s h = rw h (counted_enters s r l (corrected_score r l) newest expected grows)

  after_entered : (s : PredictorCorrector) → is_candidate r l s.run_length r.shingle_size threshold ≡ false
      → InPlace.entered s (InPlace.scored s r l (corrected_score r l)) grows ≡ rows_after s r l threshold point row grows
  unfolding rows_after rows_counted candidate_with
  after_entered s h = rw h (entered_enters s r l (corrected_score r l) grows)

  rows_fit_lem : Counting r (length point) → length row ≡ 16 → rows_fit r (length newest) (length expected) ≡ true
  unfolding rows_fit
  rows_fit_lem f long =
      let n = length-drop (length point - r.base_dimension) point in
      let m = length-take-le r.base_dimension row (omega (arith, f.base_most)) in
      rw (le-leb r.base_dimension (length newest) (omega (arith, f.inside)), le-leb r.base_dimension (length expected) (omega arith))

  module _ (run : ℕ) (ran : run ≡ stored_run xs) (c : Bool) (e : c ≡ is_candidate r l run r.shingle_size threshold) where
    -- The run of bytes that take the reading is their own.
    candidate_is : reading_answer xs r true ≡ Ok tt → is_candidate r l (decode_state xs).run_length r.shingle_size threshold ≡ c
    unfolding stored_run
    candidate_is d =
        let long = (fitting xs r true d).taking.long in
        let q : run ≡ (decode_state xs).run_length = ran ∙ rw (eq-eqb (length xs) state_length long) in
        ap (λ (n : ℕ). is_candidate r l n r.shingle_size threshold) (sym q) ∙ sym e

    module _ (a : Answer) (zs : List ℕ) (x : Float) (used : x ≡ corrected_score r l) where
      abbrev Rows : Type 0
      Rows = (a ≡ reading_answer xs r true) × (zs ≡ stored_by (reading_answer xs r true) xs (rows_after (decode_state xs) r l threshold point row grows))

      pub rows_counted_lem : Counting r (length point) → length row ≡ 16 → c ≡ true → (n m : List Float) → n ≡ newest → m ≡ expected → a ≡ reading_answer xs r (rows_fit r (length n) (length m))
          → zs ≡ stored_by (reading_answer xs r (rows_fit r (length n) (length m))) xs (InPlace.counted (decode_state xs) (InPlace.scored (decode_state xs) r l x) grows n m) → Rows
      rows_counted_lem f long h n m p q o b =
          let t = (λ i. rows_fit r (length (p i)) (length (q i))) ∙ rows_fit_lem f long in (
            o ∙ ap (reading_answer xs r) t,
            b ∙ (λ i. stored_by (reading_answer xs r (t i)) xs (InPlace.counted (decode_state xs) (InPlace.scored (decode_state xs) r l (used i)) grows (p i) (q i)))
                ∙ stored_same (reading_answer xs r true) xs _ _ (λ (d : reading_answer xs r true ≡ Ok tt). after_counted (decode_state xs) (candidate_is d ∙ h)),
          )

      pub rows_entered : c ≡ false → a ≡ reading_answer xs r true → zs ≡ stored_by (reading_answer xs r true) xs (InPlace.entered (decode_state xs) (InPlace.scored (decode_state xs) r l x) grows) → Rows
      rows_entered h o b = (
        o,
        b ∙ (λ i. stored_by (reading_answer xs r true) xs (InPlace.entered (decode_state xs) (InPlace.scored (decode_state xs) r l (used i)) grows))
            ∙ stored_same (reading_answer xs r true) xs _ _ (λ (d : reading_answer xs r true ≡ Ok tt). after_entered (decode_state xs) (candidate_is d ∙ h)),
      )

put_same : (a : Answer) (v : Verdict) (xs : List ℕ) (s t : PredictorCorrector) → changes_state v ≡ true → s ≡ t → stored_by a xs s ≡ put_over a v xs t
unfolding stored_by put_over stored
put_same (Ok _) v xs s t c e = rw c (ap (encode_state_over xs) e)
put_same (Err why) v xs s t c e = refl

skip_over : (a : Answer) (xs : List ℕ) (s : PredictorCorrector) → xs ≡ put_over a Skipped xs s
unfolding put_over stored changes_state
skip_over (Ok _) xs s = refl
skip_over (Err why) xs s = refl

module _ (xs zs : List ℕ) (r : Reading) (l : LastDescriptor) (point row : List Float) (v : Verdict) (a : Answer) where
  abbrev s : PredictorCorrector
  s = decode_state xs

  abbrev PutState : Type 0
  PutState = (a ≡ reading_answer xs r true) × (zs ≡ put_over (reading_answer xs r true) v xs (after_rows s r l point row v))

  state_quiet : (t : Float) → v ≡ Quiet t → a ≡ reading_answer xs r true → zs ≡ stored_by (reading_answer xs r true) xs (InPlace.ended s (InPlace.scored s r l r.score)) → PutState
  unfolding changes_state after_rows
  state_quiet t e p o = (p, o ∙ put_same (reading_answer xs r true) v xs _ _ (rw e) (rw e (quiet_enters s r l r.score)))

  module _ (t : Float) (m : CorrectionMode) (e : v ≡ Corrected t m) (d : Bool) (q : d ≡ is_drift_mode m) where
    state_drift : d ≡ true → a ≡ reading_answer xs r true → zs ≡ stored_by (reading_answer xs r true) xs (rows_after s r l t point row false) → PutState
    unfolding changes_state after_rows rows_after
    state_drift h p o = (p, o ∙ put_same (reading_answer xs r true) v xs _ _ (rw e) (rw (e, sym q ∙ h)))

    state_adjusted : Counting r (length point) → (x : Float) → x ≡ corrected_score r l → d ≡ false → a ≡ reading_answer xs r (leb r.base_dimension (length point))
        → zs ≡ stored_by (reading_answer xs r (leb r.base_dimension (length point))) xs (InPlace.adjusted s (InPlace.scored s r l x) point) → PutState
    unfolding changes_state after_rows
    state_adjusted f x used h p o =
        let w = le-leb r.base_dimension (length point) f.inside in (
          p ∙ ap (reading_answer xs r) w,
          o ∙ (λ i. stored_by (reading_answer xs r (w i)) xs (InPlace.adjusted s (InPlace.scored s r l (used i)) point))
              ∙ put_same (reading_answer xs r true) v xs _ _ (rw e) (rw (e, sym q ∙ h) (adjusted_enters s r l (corrected_score r l) point)),
        )

  state_raised : (t g : Float) → v ≡ Raised t g → a ≡ reading_answer xs r true → zs ≡ stored_by (reading_answer xs r true) xs (rows_after s r l t point row true) → PutState
  unfolding changes_state after_rows rows_after
  state_raised t g e p o = (p, o ∙ put_same (reading_answer xs r true) v xs _ _ (rw e) (rw e))

  state_skipped : v ≡ Skipped → a ≡ reading_answer xs r true → zs ≡ xs → PutState
  state_skipped e p o = (p, o ∙ rw e (skip_over (reading_answer xs r true) xs _))

-- ---- by what it does to the run and the lists.
module _ (xs zs : List ℕ) (r : Reading) (l : LastDescriptor) (point row : List Float) (a : Answer) where
  pub at_ends : (v : Verdict) → change_of v ≡ Ends → a ≡ reading_answer xs r true → zs ≡ stored_by (reading_answer xs r true) xs (InPlace.ended (decode_state xs) (InPlace.scored (decode_state xs) r l r.score))
      → PutState xs zs r l point row v a
  unfolding change_of
  at_ends (Quiet t) c p o = state_quiet xs zs r l point row (Quiet t) a t refl p o
  at_ends (Corrected t m) c p o = go (is_drift_mode m) c
    where
      go : (d : Bool) → cond d (Counts t false) Adjusts ≡ Ends → PutState xs zs r l point row (Corrected t m) a
      go true h = absurd (let z : ◌≡◌ {A = ℕ} 0 1 = cc in omega arith)
      go false h = absurd (let z : ◌≡◌ {A = ℕ} 0 1 = cc in omega arith)
  at_ends (Raised t g) c p o = absurd (let z : ◌≡◌ {A = ℕ} 0 1 = cc in omega arith)
  at_ends Skipped c p o = absurd (let z : ◌≡◌ {A = ℕ} 0 1 = cc in omega arith)

  pub at_adjusts : (v : Verdict) → change_of v ≡ Adjusts → Counting r (length point) → (x : Float) → x ≡ corrected_score r l → a ≡ reading_answer xs r (leb r.base_dimension (length point))
      → zs ≡ stored_by (reading_answer xs r (leb r.base_dimension (length point))) xs (InPlace.adjusted (decode_state xs) (InPlace.scored (decode_state xs) r l x) point) → PutState xs zs r l point row v a
  unfolding change_of
  at_adjusts (Quiet t) c f x used p o = absurd (let z : ◌≡◌ {A = ℕ} 0 1 = cc in omega arith)
  at_adjusts (Corrected t m) c f x used p o = go (is_drift_mode m) refl c
    where
      go : (d : Bool) → d ≡ is_drift_mode m → cond d (Counts t false) Adjusts ≡ Adjusts → PutState xs zs r l point row (Corrected t m) a
      go true q h = absurd (let z : ◌≡◌ {A = ℕ} 0 1 = cc in omega arith)
      go false q h = state_adjusted xs zs r l point row (Corrected t m) a t m refl false q f x used refl p o
  at_adjusts (Raised t g) c f x used p o = absurd (let z : ◌≡◌ {A = ℕ} 0 1 = cc in omega arith)
  at_adjusts Skipped c f x used p o = absurd (let z : ◌≡◌ {A = ℕ} 0 1 = cc in omega arith)

  module _ (threshold : Float) (grows : Bool) (p : a ≡ reading_answer xs r true) (o : zs ≡ stored_by (reading_answer xs r true) xs (rows_after (decode_state xs) r l threshold point row grows)) where
    pub at_counts : (v : Verdict) → change_of v ≡ Counts threshold grows → PutState xs zs r l point row v a
    unfolding change_of
    at_counts (Quiet t) c = absurd (let z : ◌≡◌ {A = ℕ} 0 1 = cc in omega arith)
    at_counts (Corrected t m) c = go (is_drift_mode m) refl c
      where
        go : (d : Bool) → d ≡ is_drift_mode m → cond d (Counts t false) Adjusts ≡ Counts threshold grows → PutState xs zs r l point row (Corrected t m) a
        go true q h =
            let e : threshold ≡ t = cc in
            let f : grows ≡ false = cc in
            state_drift xs zs r l point row (Corrected t m) a t m refl true q refl p (o ∙ (λ i. stored_by (reading_answer xs r true) xs (rows_after (decode_state xs) r l (e i) point row (f i))))
        go false q h = absurd (let z : ◌≡◌ {A = ℕ} 0 1 = cc in omega arith)
    at_counts (Raised t g) c =
        let e : threshold ≡ t = cc in
        let f : grows ≡ true = cc in
        state_raised xs zs r l point row (Raised t g) a t g refl p (o ∙ (λ i. stored_by (reading_answer xs r true) xs (rows_after (decode_state xs) r l (e i) point row (f i))))
    at_counts Skipped c = absurd (let z : ◌≡◌ {A = ℕ} 0 1 = cc in omega arith)

  pub at_stays : (v : Verdict) → change_of v ≡ Stays → a ≡ reading_answer xs r true → zs ≡ xs → PutState xs zs r l point row v a
  unfolding change_of
  at_stays (Quiet t) c p o = absurd (let z : ◌≡◌ {A = ℕ} 0 1 = cc in omega arith)
  at_stays (Corrected t m) c p o = go (is_drift_mode m) c
    where
      go : (d : Bool) → cond d (Counts t false) Adjusts ≡ Stays → PutState xs zs r l point row (Corrected t m) a
      go true h = absurd (let z : ◌≡◌ {A = ℕ} 0 1 = cc in omega arith)
      go false h = absurd (let z : ◌≡◌ {A = ℕ} 0 1 = cc in omega arith)
  at_stays (Raised t g) c p o = absurd (let z : ◌≡◌ {A = ℕ} 0 1 = cc in omega arith)
  at_stays Skipped c p o = state_skipped xs zs r l point row Skipped a refl p o

-- ---- the whole call.
answer_number : (v : Verdict) (a : Answer) → answered a ≡ outcome_number (outcome_of v a)
unfolding outcome_of
answer_number v (Ok _) = refl
answer_number v (Err why) = refl

module _ (xs : List ℕ) (r : Reading) where
  short_state : (v : Verdict) (s : PredictorCorrector) → xs ≡ state_left (outcome_of v (reading_answer xs r false)) xs s
  unfolding reading_answer outcome_of state_left
  short_state v s = go (state_codes_ok xs) (eqb (length xs) state_length) (range_ok r.shingle_size r.base_dimension (decode_state xs).base_dimension) (sizes_ok r.shingle_size r.base_dimension)
    where
      go : (b a c d : Bool) → xs ≡ state_left (outcome_of v (cond b (cond a (cond c (cond false (cond (state_counts_ok (decode_state xs)) (Ok tt) (Err Why.Count)) (Err Why.Length)) (Err Why.Range)) (cond d (Err Why.Length) (Err Why.Range))) (Err Why.Range))) xs s
      go true true true d = refl
      go true true false d = refl
      go true false c true = refl
      go true false c false = refl
      go false a c d = refl

  short_verdict : (v : Verdict) (ys : List ℕ) (i : ℤ) → ys ≡ verdict_left (outcome_of v (reading_answer xs r false)) ys i
  unfolding reading_answer outcome_of verdict_left
  short_verdict v ys i = go (state_codes_ok xs) (eqb (length xs) state_length) (range_ok r.shingle_size r.base_dimension (decode_state xs).base_dimension) (sizes_ok r.shingle_size r.base_dimension)
    where
      go : (b a c d : Bool) → ys ≡ verdict_left (outcome_of v (cond b (cond a (cond c (cond false (cond (state_counts_ok (decode_state xs)) (Ok tt) (Err Why.Count)) (Err Why.Length)) (Err Why.Range)) (cond d (Err Why.Length) (Err Why.Range))) (Err Why.Range))) ys i
      go true true true d = refl
      go true true false d = refl
      go true false c true = refl
      go true false c false = refl
      go false a c d = refl

  -- Sizes out of their range are refused whatever else fits.
  no_size : (leb r.shingle_size 64 && leb r.base_dimension 16) ≡ false → sizes_ok r.shingle_size r.base_dimension ≡ false
  unfolding sizes_ok
  no_size h = go (leb 1 r.shingle_size) (leb r.shingle_size 64) (leb 1 r.base_dimension) (leb r.base_dimension 16) h
    where
      go : (a c d e : Bool) → (c && e) ≡ false → (a && (c && (d && e))) ≡ false
      go false c d e q = refl
      go true false d e q = refl
      go true true false e q = refl
      go true true true e q = q

  no_fit : (fit : Bool) → (leb r.shingle_size 64 && (leb r.base_dimension 16 && fit)) ≡ false → reading_answer xs r fit ≡ reading_answer xs r false
  unfolding reading_answer range_ok
  no_fit false h = refl
  no_fit true h =
      let q = no_size (go (leb r.shingle_size 64) (leb r.base_dimension 16) h) in
      rw q
    where
      go : (c e : Bool) → (c && (e && true)) ≡ false → (c && e) ≡ false
      go true true q = q
      go true false q = refl
      go false e q = refl

whole : (n : ℕ) (xs ys : List ℕ) → eqb (length xs) n ≡ true → written_of n xs ys ≡ ys
unfolding written_of
whole n xs ys h = rw h

module _ (r : Reading) (l : LastDescriptor) (v : Verdict) (index : ℤ) (point row : List Float) (state verdict : List ℕ) where
  abbrev fits : Bool
  fits = eqb (length verdict) verdict_length && leb r.base_dimension (length point)

  pub put_short : (leb r.shingle_size 64 && (leb r.base_dimension 16 && fits)) ≡ false → (n : ℕ) (a : Answer) → a ≡ reading_answer state r false → n ≡ answered a → Put r l v index point row n state verdict state verdict
  unfolding put_outcome
  put_short h n a e p =
      let q = no_fit state r fits h in
      record {
        answer = p ∙ ap answered e ∙ answer_number v (reading_answer state r false) ∙ ap (λ (x : Answer). outcome_number (outcome_of v x)) (sym q);
        bytes = short_state state r v (after_rows (decode_state state) r l point row v) ∙ ap (λ (x : Answer). state_left (outcome_of v x) state (after_rows (decode_state state) r l point row v)) (sym q);
        says = short_verdict state r v verdict index ∙ ap (λ (x : Answer). verdict_left (outcome_of v x) verdict index) (sym q);
      }

  module _ (h : (leb r.shingle_size 64 && (leb r.base_dimension 16 && fits)) ≡ true) where
    tests : (leb r.shingle_size 64 ≡ true) × (leb r.base_dimension 16 ≡ true) × (fits ≡ true)
    tests =
        let p = both (leb r.shingle_size 64) (leb r.base_dimension 16 && fits) h in
        let q = both (leb r.base_dimension 16) fits p.1 in
        (p.0, q.0, q.1)

    pub counting : Counting r (length point)
    counting =
        let t = tests in
        record {
          shingle_most = leb-true r.shingle_size 64 t.0;
          base_most = leb-true r.base_dimension 16 t.1;
          inside = leb-true r.base_dimension (length point) (both (eqb (length verdict) verdict_length) (leb r.base_dimension (length point)) t.2).1;
        }

    module _ (a : Answer) (state' : List ℕ) (p : (a ≡ reading_answer state r true) × (state' ≡ put_over (reading_answer state r true) v state (after_rows (decode_state state) r l point row v))) where
      outcome_is : outcome_of v a ≡ put_outcome state r v (length point) (length verdict)
      unfolding put_outcome
      outcome_is = ap (outcome_of v) (p.0 ∙ ap (reading_answer state r) (sym tests.2))

      pub put_done : a ≡ Ok tt → (verdict' : List ℕ) (i : ℤ) → i ≡ index → verdict' ≡ written_of verdict_length verdict (told v i) → Put r l v index point row 0 state verdict state' verdict'
      unfolding put_over state_left verdict_left outcome_of
      put_done d verdict' i f q =
          let o = ap (outcome_of v) (sym d) ∙ outcome_is in
          let e = sym p.0 ∙ d in
          record {
            answer = ap outcome_number o;
            bytes = p.1 ∙ ap (λ (x : Answer). put_over x v state (after_rows (decode_state state) r l point row v)) e ∙ (λ k. state_left (o k) state (after_rows (decode_state state) r l point row v));
            says = q ∙ whole verdict_length verdict (told v i) (both (eqb (length verdict) verdict_length) (leb r.base_dimension (length point)) tests.2).0 ∙ (λ k. verdict_left (o k) verdict (f k));
          }

      pub put_refused : (why : Refusal) (n : ℕ) → a ≡ Err why → n ≡ number why → Put r l v index point row n state verdict state' verdict
      unfolding put_over state_left verdict_left outcome_of
      put_refused why n d q =
          let o = ap (outcome_of v) (sym d) ∙ outcome_is in
          let e = sym p.0 ∙ d in
          record {
            answer = q ∙ ap outcome_number o;
            bytes = p.1 ∙ ap (λ (x : Answer). put_over x v state (after_rows (decode_state state) r l point row v)) e ∙ (λ k. state_left (o k) state (after_rows (decode_state state) r l point row v));
            says = ap (λ (x : Result Verdict Refusal). verdict_left x verdict index) o;
          }
