-- The calls' shapes over plain variables. Assumes nothing.
use Rattle.std.specs.Prelude.{Result, Ok, Err}
use Rattle.std.specs.Result.{result_unwrap_or}
use mathlib.Core.Path.{◌≡◌, refl, sym, ap, ◌∙◌, subst}
use mathlib.Core.Bool.{Bool, true, false, cond}
use mathlib.Core.List.{List}
use Prim.Native.Nat.{ℕ}
use native.Mathlib.Omega.{arith}
use lib.Dec.{eqb}
use lib.IntN.{ℤ}
use lib.ListN.{length}
use lib.Ieee.{Float}
use borrow.Author.Tests.{le-leb}
use Rattle.types.specs.Refusals.{number}
use Rattle.types.specs.declared.Refusal.{Refusal}
use Rattle.types.specs.declared.Refusal.TheVariants.{Range, Length}
use Rattle.descriptor.specs.Checks.{range_ok}
use Rattle.descriptor.specs.Lent.{Lent}
use Rattle.descriptor.proofs.Bounds.{both}
use Rattle.descriptor.specs.declared.Reading.{Reading}
use Rattle.descriptor.specs.declared.LastDescriptor.{LastDescriptor}
use Rattle.predictorcorrector.specs.State.{state_counts_ok, standing}
use Rattle.predictorcorrector.specs.declared.PredictorCorrector.{PredictorCorrector}
use Rattle.divector.specs.DiVector.{normalized}
use Rattle.detection.specs.Judging.{expected}
use Rattle.detection.specs.Judged.{Judged, outcome, outcome_of, outcome_number, state_after, index_after, written}
use Rattle.detection.specs.Decided.{Decided, decision}
use Rattle.detection.specs.Steps.{Counting, Fitting, state_rows}
use Rattle.detection.specs.Decided.{after_rows}
use Rattle.detection.specs.declared.Decision.{Decision}
use Rattle.predictorcorrector.specs.declared.Standing.{Standing}
use Rattle.detection.specs.declared.Verdict.{Verdict}
use Rattle.detection.proofs.ByState as ByState
use Rattle.layout.specs.Places.{state_length, reading_length, last_length, verdict_length, actual_at, expected_at, auto_adjust_at, base_dimension_at}
use Rattle.layout.specs.Numbers.{le4, flag_at}
use Rattle.layout.specs.Chain.{state_codes_ok, entries, decode_state}
use Rattle.layout.specs.InPlace.{reading_answer}
use Rattle.layout.specs.Call.{read_call}
use Rattle.layout.specs.Readings.{decode_reading, decode_last}
use Rattle.layout.proofs.InPlace.{list_length_lem}
use Rattle.verdict_bytes.specs.Put.{Put, put_outcome}
use Rattle.c_judging.specs.Judging.{codes_ok, slices_ok, sizes_fit, outcome_over, state_over, index_over, Answered, state_left, verdict_left}
use Rattle.layout.specs.declared.CallRead.{CallRead}

-- ---- what was read.
abbrev given : Standing → Reading → LastDescriptor → CallRead
given k r l = record { standing = k; reading = r; last = l }

module _ (state reading last : List ℕ) (v : ℕ) where
  pub record Taken (k : Standing) (r : Reading) (l : LastDescriptor) : Type 0 where
    pub codes : codes_ok state reading last ≡ true
    pub slices : slices_ok (length state) (length reading) (length last) (eqb v verdict_length) ≡ true
    pub standing_is : k ≡ standing (decode_state state)
    pub reading_is : r ≡ decode_reading reading
    pub last_is : l ≡ decode_last last

  taken_by : (a c d : Bool) → codes_ok state reading last ≡ a → slices_ok (length state) (length reading) (length last) (eqb v verdict_length) ≡ c → (k : Standing) (r : Reading) (l : LastDescriptor)
      → Ok (given k r l) ≡ cond a (cond c (Ok (given (standing (decode_state state)) (decode_reading reading) (decode_last last))) (cond d (Err Length) (Err Range))) (Err Range) → Taken k r l
  taken_by true true d p q k r l e = (
      let same = ap (λ (c : Result CallRead Refusal). result_unwrap_or c (given k r l)) e in record {
        codes = p;
        slices = q;
        standing_is = ap (λ (c : CallRead). c.standing) same;
        reading_is = ap (λ (c : CallRead). c.reading) same;
        last_is = ap (λ (c : CallRead). c.last) same;
      }
      )
  taken_by true false true p q k r l e = absurd (let z : ◌≡◌ {A = ℕ} 0 1 = cc in omega arith)
  taken_by true false false p q k r l e = absurd (let z : ◌≡◌ {A = ℕ} 0 1 = cc in omega arith)
  taken_by false c d p q k r l e = absurd (let z : ◌≡◌ {A = ℕ} 0 1 = cc in omega arith)

  pub was_taken : (c : Result CallRead Refusal) → c ≡ read_call state reading last (eqb v verdict_length) → (k : Standing) (r : Reading) (l : LastDescriptor) → c ≡ Ok (given k r l) → Taken k r l
  unfolding read_call
  was_taken c e k r l h =
      taken_by (codes_ok state reading last) (slices_ok (length state) (length reading) (length last) (eqb v verdict_length)) (sizes_fit state reading) refl refl k r l (sym h ∙ e)

-- ---- the whole call.
module _ (state reading last : List ℕ) (b : Lent) (e h w : List Float) (v : List ℕ) where
  abbrev over : Result Verdict Refusal
  over = outcome_over state reading last b (length e) (length h) (length w) (length v)

  -- Refused ahead of judging: nothing is written.
  turned_back : (why : Refusal) → over ≡ Err why → Answered state reading last b (number why) e h w v state e h w v
  unfolding state_left verdict_left written
  turned_back why o = record { answer = rw o; bytes = rw o; point = rw o; highs = rw o; lows = rw o; verdict = rw o }

  refused_by : (a c d : Bool) (o : Result Verdict Refusal) (why : Refusal)
      → Err why ≡ cond a (cond c (Ok (given (standing (decode_state state)) (decode_reading reading) (decode_last last))) (cond d (Err Length) (Err Range))) (Err Range)
      → cond a (cond c o (cond d (Err Length) (Err Range))) (Err Range) ≡ Err why
  refused_by true true d o why q = absurd (let z : ◌≡◌ {A = ℕ} 0 1 = cc in omega arith)
  refused_by true false true o why q = cc
  refused_by true false false o why q = cc
  refused_by false c d o why q = cc

  pub call_refused : (k : Result CallRead Refusal) → k ≡ read_call state reading last (eqb (length v) verdict_length) → (why : Refusal) (n : ℕ) → k ≡ Err why → n ≡ number why → Answered state reading last b n e h w v state e h w v
  unfolding outcome_over read_call
  call_refused k q why n p m =
      let t = turned_back why
      (refused_by (codes_ok state reading last) (slices_ok (length state) (length reading) (length last) (eqb (length v) verdict_length)) (sizes_fit state reading)
      (outcome (decode_state state) (decode_reading reading) (decode_last last) b (length e) (length h) (length w)) why (sym p ∙ q)) in
      subst (λ (x : ℕ). Answered state reading last b x e h w v state e h w v) (sym m) t

  module _ (c : codes_ok state reading last ≡ true) where
    module _ (s : slices_ok (length state) (length reading) (length last) (eqb (length v) verdict_length) ≡ true) where
      through : over ≡ outcome (decode_state state) (decode_reading reading) (decode_last last) b (length e) (length h) (length w)
      unfolding outcome_over
      through = rw (c, s)

      -- The judge's decision, taken over to the bytes.
      module _ (k : Standing) (j : Decision) (e' h' w' : List Float) (stands : k ≡ standing (decode_state state))
          (d : Decided (decode_reading reading) (decode_last last) b (decision (decode_reading reading) (decode_last last) b k (length e) (length h) (length w)) j e h w e' h' w') where
        lists : (length (decode_state state).deviations_actual ≡ 16) × (length (decode_state state).deviations_expected ≡ 16)
        unfolding decode_state
        lists =
            (list_length_lem state actual_at (entries (flag_at state auto_adjust_at) (le4 state base_dimension_at)), list_length_lem state expected_at (entries (flag_at state auto_adjust_at) (le4 state base_dimension_at)))

        abbrev after : PredictorCorrector
        after = state_rows (decode_state state) (decode_reading reading) (decode_last last) b.point j.newest_expected j.outcome

        judged : Judged (decode_state state) (decode_reading reading) (decode_last last) b (record { outcome = j.outcome; relative_index = j.relative_index; state = after }) e h w e' h' w'
        judged =
            ByState.judged (decode_state state) lists.0 lists.1 (decode_reading reading) (decode_last last) b k stands j j.relative_index after e h w e' h' w' refl d refl

        says : over ≡ j.outcome
        says = through ∙ sym judged.says

        -- Whatever is answered and put, by the outcome.
        taken : (n : ℕ) (state' v' : List ℕ) → n ≡ outcome_number j.outcome → state' ≡ state_left j.outcome state after → v' ≡ verdict_left j.outcome v j.relative_index
            → Answered state reading last b n e h w v state' e' h' w' v'
        unfolding state_over index_over
        taken n state' v' p q o =
            let r = decode_reading reading in
            let l = decode_last last in
            let same : after ≡ state_after (decode_state state) r l b over = judged.state ∙ ap (state_after (decode_state state) r l b) (sym through) in
            let place : j.relative_index ≡ index_after r l b over = judged.index ∙ ap (index_after r l b) (sym through) in
            record {
              answer = p ∙ ap outcome_number (sym says);
              bytes = q ∙ (λ i. state_left (sym says i) state (same i));
              point = judged.point ∙ ap (λ (x : Result Verdict Refusal). written x e (expected r l b)) (sym through);
              highs = judged.highs ∙ ap (λ (x : Result Verdict Refusal). written x h (normalized r.score b.high b.low b.high)) (sym through);
              lows = judged.lows ∙ ap (λ (x : Result Verdict Refusal). written x w (normalized r.score b.high b.low b.low)) (sym through);
              verdict = o ∙ (λ i. verdict_left (sym says i) v (place i));
            }

        refused_over : (why : Refusal) (n : ℕ) → j.outcome ≡ Err why → n ≡ number why → Answered state reading last b n e h w v state e' h' w' v
        unfolding state_left verdict_left
        refused_over why n o p = taken n state v (p ∙ rw o) (rw o) (rw o)

        module _ (said : Verdict) (o : j.outcome ≡ Ok said) where
          fits : Counting (decode_reading reading) (length b.point)
          fits =
              subst (Fitting (decode_reading reading) (length b.point)) o
              (ByState.fitting (decode_reading reading) (decode_last last) b k (length e) (length h) (length w) j.outcome d.says)

          range_counts : (range_ok (decode_reading reading).shingle_size (decode_reading reading).base_dimension k.base_dimension ≡ true) × (k.counts_ok ≡ true)
          range_counts = ByState.accepted (decode_reading reading) (decode_last last) b k (length e) (length h) (length w) j.outcome said d.says o

          lengths_are : (eqb (length state) state_length ≡ true) × (eqb (length v) verdict_length ≡ true)
          unfolding slices_ok
          lengths_are =
              let p = both (eqb (length state) state_length) _ s in
              let q = both (eqb (length reading) reading_length) _ p.1 in
              (p.0, (both (eqb (length last) last_length) (eqb (length v) verdict_length) q.1).1)

          put_is : put_outcome state (decode_reading reading) said (length b.point) (length v) ≡ Ok said
          unfolding put_outcome reading_answer outcome_of standing codes_ok
          put_is =
              let flags : state_codes_ok state ≡ true = (both (state_codes_ok state) _ c).0 in
              let q = lengths_are in
              let x = range_counts in
              let range : range_ok (decode_reading reading).shingle_size (decode_reading reading).base_dimension (decode_state state).base_dimension ≡ true
              = ap (λ (z : Standing). range_ok (decode_reading reading).shingle_size (decode_reading reading).base_dimension z.base_dimension) (sym stands) ∙ x.0 in
              let counts : state_counts_ok (decode_state state) ≡ true = ap (λ (z : Standing). z.counts_ok) (sym stands) ∙ x.1 in
              rw (flags, q.0, range, q.1, le-leb _ _ fits.inside, counts)

          after_is : after_rows (decode_state state) (decode_reading reading) (decode_last last) b.point j.newest_expected said ≡ after
          unfolding state_rows
          after_is = ap (state_rows (decode_state state) (decode_reading reading) (decode_last last) b.point j.newest_expected) (sym o)

          accepted_over : (i : ℤ) (n : ℕ) (state' v' : List ℕ) → i ≡ j.relative_index
              → Put (decode_reading reading) (decode_last last) said i b.point j.newest_expected n state v state' v'
              → Answered state reading last b n e h w v state' e' h' w' v'
          accepted_over i n state' v' f p =
              let q = put_is ∙ sym o in
              taken n state' v' (p.answer ∙ ap outcome_number q) (p.bytes ∙ (λ x. state_left (q x) state (after_is x))) (p.says ∙ (λ x. verdict_left (q x) v (f x)))

  -- The same for what was read.
  module _ (kc : Result CallRead Refusal) (ec : kc ≡ read_call state reading last (eqb (length v) verdict_length)) (k : Standing) (r : Reading) (l : LastDescriptor) (hc : kc ≡ Ok (given k r l))
      (j : Decision) (e' h' w' : List Float) (d : Decided r l b (decision r l b k (length e) (length h) (length w)) j e h w e' h' w') where
    read : Taken state reading last (length v) k r l
    read = was_taken state reading last (length v) kc ec k r l hc

    decided : Decided (decode_reading reading) (decode_last last) b (decision (decode_reading reading) (decode_last last) b k (length e) (length h) (length w)) j e h w e' h' w'
    decided = rw (← read.reading_is, ← read.last_is) d

    pub judged_refused : (why : Refusal) (n : ℕ) → j.outcome ≡ Err why → n ≡ number why → Answered state reading last b n e h w v state e' h' w' v
    judged_refused why n o p = refused_over read.codes read.slices k j e' h' w' read.standing_is decided why n o p

    pub judged_accepted : (said : Verdict) (i : ℤ) (n : ℕ) (state' v' : List ℕ) → j.outcome ≡ Ok said → i ≡ j.relative_index
        → Put r l said i b.point j.newest_expected n state v state' v' → Answered state reading last b n e h w v state' e' h' w' v'
    judged_accepted said i n state' v' o f p =
        let q : Put (decode_reading reading) (decode_last last) said i b.point j.newest_expected n state v state' v' = rw (← read.reading_is, ← read.last_is) p in
        accepted_over read.codes read.slices k j e' h' w' read.standing_is decided said o i n state' v' f q
