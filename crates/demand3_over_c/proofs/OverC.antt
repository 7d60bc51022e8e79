-- Demand 3 of the C functions: a construction, settings of z and horizon, then judgments in turn, over one lent state. Assumes nothing.
use Rattle.std.specs.Prelude.{Result, Ok}
use mathlib.Core.Path.{◌≡◌, refl, sym, ap, ◌∙◌, subst}
use mathlib.Core.Bool.{Bool, true, false, not, cond, ◌&&◌}
use mathlib.Core.List.{List, [], ◌∷◌}
use Prim.Native.Nat.{ℕ, ◌+◌, ◌*◌, ◌≤◌}
use native.Mathlib.Nat.{mul-one, zero-mul}
use native.Mathlib.Omega.{arith}
use lib.Dec.{T, eqb, eqb→eq, ltb→lt}
use lib.ListN.{get_or}
use lib.Ieee.{Float, nan, inf, fin, binary64, fits, eq, lt, up, down, of_bits}
use lib.Ieee.Bits.{is_false}
use lib.Ieee.Positive.{num as num_of}
use borrow.Author.Tests.{eq-eqb, ne_eqb, eqb-true, eqb-false}
use Rattle.types.specs.declared.ScoringStrategy.TheVariants.{EXPECTED_INVERSE_HEIGHT, DISTANCE}
use Rattle.basicthresholder.specs.Const.{zero32, one32, z_factor_default}
use Rattle.ledger.specs.Fractions.{Fraction, none, plus_zero, plain, fraction_of, plus, minus, part, larger}
use Rattle.ledger.specs.Ledger.{Ledger, blank, enter, AtOrUnder, AtOrOver, Over}
use Rattle.ledger.specs.Statement.{closeness, clearance, enough_scores, most_readings, Told, Shown, Judged, Either, Agree, Demand3, counted, accepted, Sizes, InBounds}
use Rattle.ledger.specs.Theorem.{New}
use Rattle.ledger.proofs.Laws.{new_z, new_horizon, by_default}
use Rattle.deviation.specs.Statistics.{is_discount}
use Rattle.predictorcorrector.specs.State.{new, z_factor_set, set_horizon}
use Rattle.predictorcorrector.specs.declared.PredictorCorrector.{PredictorCorrector}
use Rattle.divector.specs.DiVector.{normalized}
use Rattle.detection.specs.Judging.{expected}
use Rattle.detection.specs.Judged.{state_after, index_after, written}
use Rattle.detection.specs.declared.Judgment.{Judgment}
use Rattle.layout.specs.Chain.{decode_state}
use Rattle.layout.specs.Left.{left}
use Rattle.layout.specs.Readings.{decode_reading, strategy_from}
use Rattle.c_chain.specs.States.{chain_made}
use Rattle.demand3.specs.Calls.{opened, shown_by, is_refusal, answer_at, detect_and_modify}
use Rattle.demand3.specs.Calls as ByValue
use Rattle.demand3.proofs.Demand3.{judged_in_turn, fresh}
use Rattle.demand3_over_c.specs.Calls.{Judging, Call, krcf_new, krcf_chain_set_z_factor, krcf_chain_set_horizon, krcf_detect_and_modify, Kept, JudgedInTurn, SetInTurn, InTurn, z_after, z_of, ZUnset, is_refused, score_of, kind_in, threshold_in, grade_in, opening_in, told_of, shown_of}
use Rattle.demand3_over_c.specs.Statement.{Opens, Demand3OverC}
use Rattle.demand3_over_c.proofs.Simulation.{state_of, reading_of, last_of, by_value, Taken, taken, said, through, score_is, refused_keeps, accepted_reads, accepted_left, simulated, opens_over_c}
use Rattle.demand3_over_c.proofs.Start.{Holds, new_holds, z_holds, horizon_holds}
use Rattle.demand3_over_c.proofs.Witness.{calm_met}
use Rattle.detection.specs.declared.Verdict.{Verdict}
use Rattle.types.specs.declared.Refusal.{Refusal}

-- ---- small facts
zero_is : zero32 ≡ plus_zero
unfolding of_bits
zero_is = refl

one_above : T (lt plus_zero one32)
unfolding lt of_bits
one_above = tt

and_left : (a b : Bool) → T (a && b) → T a
and_left true b h = tt
and_left false b h = absurd h

-- A zero score is none that is counted.
zero_num : (x : Float) → T (eq x plus_zero) → num_of x ≡ 0
unfolding eq
zero_num nan h = absurd h
zero_num (inf s) h = absurd h
zero_num (fin s m e) h = sym (mul-one (m * up e)) ∙ eqb→eq (m * up e * 1) (0 * down e) (and_left (eqb (m * up e * 1) (0 * down e)) _ h) ∙ zero-mul (down e)

not_counted : (t : Told) → eq t.score zero32 ≡ true → T (counted t) → ⊥
not_counted t e h =
    let z : num_of t.score ≡ 0 = zero_num t.score (subst T (sym (ap (eq t.score) (sym zero_is) ∙ e)) tt) in
    go t.refused (subst (λ (n : ℕ). T (not t.refused && not (eqb n 0))) z h)
  where
    go : (r : Bool) → T (not r && false) → ⊥
    go true q = q
    go false q = q

-- A grade above 0 is not 0.
above_not_zero : (x : Float) → T (lt plus_zero x) → eq x plus_zero ≡ false
unfolding lt eq
above_not_zero nan h = absurd h
above_not_zero (inf s) h = refl
above_not_zero (fin true m e) h = absurd h
above_not_zero (fin false m e) h =
    let l = ltb→lt (0 * 1 * down e) (m * up e * 1) h in
    rw (ne_eqb (m * up e * 1) (0 * 1 * down e) (λ (q : m * up e * 1 ≡ 0 * 1 * down e). absurd (omega arith))) refl

-- ---- the statement of one score, by what was shown otherwise
judged_by : (z M : Fraction) (b : Ledger) (x : Float) (v w : Shown) → w.threshold ≡ v.threshold → w.ends ≡ v.ends → (T (lt plus_zero v.opening) → T (lt plus_zero w.opening))
    → Judged z M b x v → Judged z M b x w
judged_by z M b x v w p q o j = record {
  number = subst (λ (t : Float). T (plain t)) (sym p) j.number;
  not_over = subst (λ (t : Float). AtOrUnder z b (minus (fraction_of t) (part M closeness))) (sym p) j.not_over;
  not_under = subst (λ (t : Float). AtOrOver z b (plus (fraction_of t) (part M closeness))) (sym p) j.not_under;
  quiet = λ (h : AtOrUnder z b (plus (fraction_of x) (part M clearance))). q ∙ j.quiet h;
  raised = λ (h : Over z b (minus (fraction_of x) (part M clearance))). o (j.raised h);
}

either_by : (c : Bool) {A B C D : Type 0} → (T c → A → C) → (B → D) → Either c A B → Either c C D
either_by true f g h = f tt h
either_by false f g h = g h

-- ---- one accepted call, by value
module _ (xs : List ℕ) (c : Judging) (q : Kept xs c) (k : Taken xs c) where
  by_distance : (reading_of xs c).scoring_strategy ≡ DISTANCE
  unfolding decode_reading strategy_from
  by_distance =
      ap (λ (b : Bool). cond b EXPECTED_INVERSE_HEIGHT DISTANCE) (is_false (eqb (get_or c.reading 8 0) 0) (q.distance k.reading_size))

  abbrev judgment : Judgment
  judgment = record {
    outcome = by_value xs c;
    relative_index = index_after (reading_of xs c) (last_of xs c) c.lent (by_value xs c);
    state = state_after (state_of xs c) (reading_of xs c) (last_of xs c) c.lent (by_value xs c);
  }

  abbrev call_of : ByValue.Judging
  call_of = record {
    reading = reading_of xs c;
    last = last_of xs c;
    lent = c.lent;
    judgment = judgment;
    expected = c.expected;
    high = c.high;
    low = c.low;
    expected' = c.expected';
    high' = c.high';
    low' = c.low';
  }

  kept_by : ByValue.Kept (decode_state xs) call_of
  kept_by =
      let same = through xs c k.codes_ok_lem k.slices_ok_lem in
      record {
        contract = record {
          says = refl;
          state = refl;
          index = refl;
          point = q.contract.point ∙ ap (λ (o : Result Verdict Refusal). written o c.expected (expected (reading_of xs c) (last_of xs c) c.lent)) same;
          highs = q.contract.highs ∙ ap (λ (o : Result Verdict Refusal). written o c.high (normalized (reading_of xs c).score c.lent.high c.lent.low c.lent.high)) same;
          lows = q.contract.lows ∙ ap (λ (o : Result Verdict Refusal). written o c.low (normalized (reading_of xs c).score c.lent.high c.lent.low c.lent.low)) same;
        };
        distance = by_distance;
      }

  told_same : c.answer ≡ 0 → ◌≡◌ {A = Told} (record { refused = is_refusal (answer_at (decode_state xs) call_of); score = (reading_of xs c).score }) (record { refused = is_refused c; score = score_of c })
  told_same e =
      let a : is_refusal (answer_at (decode_state xs) call_of) ≡ is_refused c = ap is_refusal k.done ∙ sym (ap not (eq-eqb c.answer 0 e)) in
      let b : (reading_of xs c).score ≡ score_of c = score_is c.reading in
      λ i. record { refused = a i; score = b i }

  abbrev shown_by_value : Shown
  shown_by_value = shown_by (decode_state xs) (reading_of xs c) (by_value xs c)

  abbrev shown_by_bytes : Shown
  shown_by_bytes = record { threshold = threshold_in c.verdict'; opening = opening_in c.verdict'; ends = grade_in c.verdict' }

  shown_is : shown_by_value ≡ shown_by (decode_state xs) (reading_of xs c) (Ok (said xs c k))
  shown_is = ap (shown_by (decode_state xs) (reading_of xs c)) k.says_by

  opens_above : Opens (opened (decode_state xs) (reading_of xs c)) c.verdict' → T (lt plus_zero (opened (decode_state xs) (reading_of xs c)).grade) → T (lt plus_zero (opening_in c.verdict'))
  opens_above o h =
      let g = (opened (decode_state xs) (reading_of xs c)).grade in
      let z : eqb (kind_in c.verdict') 0 ≡ false = o.quiet ∙ ap (eq g) zero_is ∙ above_not_zero g h in
      subst (λ (b : Bool). T (lt plus_zero (cond b zero32 one32))) (sym z) one_above

  judged_same : (z M : Fraction) (b : Ledger) → c.answer ≡ 0 → T (not (eq (score_of c) zero32)) → Judged z M b (score_of c) shown_by_value → Judged z M b (score_of c) shown_by_bytes
  judged_same z M b e n j =
      let reads = accepted_reads xs c q.contract k in
      judged_by z M b (score_of c) (shown_by (decode_state xs) (reading_of xs c) (Ok (said xs c k))) shown_by_bytes reads.threshold reads.grade
      (opens_above (opens_over_c xs c q.contract e n)) (subst (Judged z M b (score_of c)) shown_is j)

-- ---- a list of calls over C, and the calls by value of its accepted ones: in turn, each with the state that the one before it returned
record Matched (s : PredictorCorrector) (cs : List Call) : Type 0 where
  calls : List ByValue.Call
  turn : ByValue.JudgedInTurn s calls
  many : accepted (ByValue.told_of s calls) ≡ accepted (told_of cs)
  sizes : Sizes (told_of cs) → Sizes (ByValue.told_of s calls)
  agree : (d z : Fraction) (b : Ledger) (M : Fraction) → Agree d z b M (ByValue.told_of s calls) (ByValue.shown_of s calls) → Agree d z b M (told_of cs) (shown_of cs)

step_refused : (s : PredictorCorrector) (c : Judging) (cs : List Call) → is_refused c ≡ true → Matched s cs → Matched s (krcf_detect_and_modify c ∷ cs)
step_refused s c cs e m = record {
  calls = m.calls;
  turn = m.turn;
  many = m.many ∙ sym (ap (λ (r : Bool). cond r 0 1 + accepted (told_of cs)) e ∙ omega arith);
  sizes = λ (h : Sizes (told_of (krcf_detect_and_modify c ∷ cs))). m.sizes h.1;
  agree = λ (d z : Fraction) (b : Ledger) (M : Fraction) (a : Agree d z b M (ByValue.told_of s m.calls) (ByValue.shown_of s m.calls)).
      skip d z b M (m.agree d z b M a);
}
  where
    skip : (d z : Fraction) (b : Ledger) (M : Fraction) → Agree d z b M (told_of cs) (shown_of cs) → Agree d z b M (told_of (krcf_detect_and_modify c ∷ cs)) (shown_of (krcf_detect_and_modify c ∷ cs))
    skip d z b M a = rw e a

module _ (xs : List ℕ) (c : Judging) (cs : List Call) (q : Kept xs c) (e : c.answer ≡ 0) (k : Taken xs c) (m : Matched (decode_state c.state') cs) where
  abbrev call : ByValue.Judging
  call = call_of xs c q k

  abbrev after : PredictorCorrector
  after = call.judgment.state

  rest : Matched after cs
  rest = subst (λ (s : PredictorCorrector). Matched s cs) (accepted_left xs c q.contract k) m

  told_is : ByValue.told_of (decode_state xs) (detect_and_modify call ∷ rest.calls) ≡ record { refused = is_refused c; score = score_of c } ∷ ByValue.told_of after rest.calls
  told_is = ap (λ (t : Told). t ∷ ByValue.told_of after rest.calls) (told_same xs c q k e)

  abbrev t : Told
  t = record { refused = is_refused c; score = score_of c }

  nonzero : T (counted t) → T (not (eq (score_of c) zero32))
  nonzero h = go (eq (score_of c) zero32) refl
    where
      go : (b : Bool) → eq (score_of c) zero32 ≡ b → T (not b)
      go true z = not_counted t z h
      go false z = tt

  agree_on : (f z : Fraction) (b : Ledger) (M : Fraction) → Agree f z b M (ByValue.told_of (decode_state xs) (detect_and_modify call ∷ rest.calls)) (ByValue.shown_of (decode_state xs) (detect_and_modify call ∷ rest.calls))
      → Agree f z b M (told_of (krcf_detect_and_modify c ∷ cs)) (shown_of (krcf_detect_and_modify c ∷ cs))
  agree_on f z b M a =
      either_by (counted t)
      (λ (h : T (counted t)) (p : (enough_scores ≤ b.n → Judged z M b (score_of c) (shown_by_value xs c q k)) × Agree f z (enter f b (fraction_of (score_of c))) (larger M (fraction_of (score_of c))) (ByValue.told_of after rest.calls) (ByValue.shown_of after rest.calls)). (
        λ (l : enough_scores ≤ b.n). judged_same xs c q k z M b e (nonzero h) (p.0 l),
        rest.agree f z (enter f b (fraction_of (score_of c))) (larger M (fraction_of (score_of c))) p.1,
      ))
      (rest.agree f z b M)
      (subst (λ (ts : List Told). Agree f z b M ts (ByValue.shown_of (decode_state xs) (detect_and_modify call ∷ rest.calls))) told_is a)

  step_accepted : Matched (decode_state xs) (krcf_detect_and_modify c ∷ cs)
  step_accepted = record {
    calls = detect_and_modify call ∷ rest.calls;
    turn = (kept_by xs c q k, rest.turn);
    many = ap accepted told_is ∙ ap (λ (n : ℕ). cond (is_refused c) 0 1 + n) rest.many;
    sizes = λ (h : Sizes (told_of (krcf_detect_and_modify c ∷ cs))). subst Sizes (sym told_is) (h.0, rest.sizes h.1);
    agree = agree_on;
  }

by : (xs : List ℕ) (c : Judging) (cs : List Call) → Kept xs c → Matched (decode_state c.state') cs → (b : Bool) → eqb c.answer 0 ≡ b → Matched (decode_state xs) (krcf_detect_and_modify c ∷ cs)
by xs c cs q m true e = (let z = eqb-true c.answer 0 e in step_accepted xs c cs q z (taken xs c (sym q.contract.answer ∙ z)) m)
by xs c cs q m false e =
    step_refused (decode_state xs) c cs (ap not e) (subst (λ (ys : List ℕ). Matched (decode_state ys) cs) (refused_keeps xs c q.contract (eqb-false c.answer 0 e)).0 m)

matched : (cs : List Call) (xs : List ℕ) → JudgedInTurn xs cs → Matched (decode_state xs) cs
matched [] xs t = record { calls = []; turn = tt; many = refl; sizes = λ (h : Unit). tt; agree = λ (d z : Fraction) (b : Ledger) (M : Fraction) (a : Unit). tt }
matched (krcf_new d auto base out n ys ∷ cs) xs t = absurd t
matched (krcf_chain_set_z_factor x n ys ∷ cs) xs t = absurd t
matched (krcf_chain_set_horizon x n ys ∷ cs) xs t = absurd t
matched (krcf_detect_and_modify c ∷ cs) xs t = by xs c cs t.0 (matched cs c.state' t.1) (eqb c.answer 0) refl

-- ---- judgments, settings before them, a construction before those
module _ (d : Float) (f : T (fits binary64 d)) (i : T (is_discount d)) where
  judged : (cs : List Call) (z : Float) (s : PredictorCorrector) (xs : List ℕ) → New d z s.basic_thresholder → Holds s xs → JudgedInTurn xs cs
      → InBounds z (told_of cs) → Demand3 d z (told_of cs) (shown_of cs)
  judged cs z s xs n h t b =
      let e : decode_state xs ≡ s = h.state in
      let m : Matched s cs = subst (λ (u : PredictorCorrector). Matched u cs) e (matched cs xs t) in
      m.agree (fraction_of d) (fraction_of z) blank none
      (judged_in_turn d z s m.calls f i n m.turn
      (record { z_above = b.z_above; z_most = b.z_most; readings = subst (λ (k : ℕ). k ≤ most_readings) (sym m.many) b.readings; scores = m.sizes b.scores }))

  z_stays : (cs : List Call) (xs : List ℕ) (z : Float) → JudgedInTurn xs cs → z_after z cs ≡ z
  z_stays [] xs z t = refl
  z_stays (krcf_new d auto base out n ys ∷ cs) xs z t = absurd t
  z_stays (krcf_chain_set_z_factor x n ys ∷ cs) xs z t = absurd t
  z_stays (krcf_chain_set_horizon x n ys ∷ cs) xs z t = absurd t
  z_stays (krcf_detect_and_modify c ∷ cs) xs z t = z_stays cs c.state' z t.1

  horizon_new : {z : Float} (s : PredictorCorrector) (x : Float) → New d z s.basic_thresholder → New d z (set_horizon s x).state.basic_thresholder
  unfolding set_horizon
  horizon_new {z} s x n = new_horizon d z x s.basic_thresholder n

  set : (cs : List Call) (z : Float) (s : PredictorCorrector) (xs : List ℕ) → New d z s.basic_thresholder → Holds s xs → SetInTurn xs cs
      → InBounds (z_after z cs) (told_of cs) → Demand3 d (z_after z cs) (told_of cs) (shown_of cs)
  set [] z s xs n h t b = tt
  set (krcf_new e auto base out k ys ∷ cs) z s xs n h t b = absurd t
  set (krcf_chain_set_z_factor x k ys ∷ cs) z s xs n h t b = set cs x (z_factor_set s x) ys (new_z d z x s.basic_thresholder n) (z_holds s xs h x k ys t.0 t.1) t.2 b
  set (krcf_chain_set_horizon x k ys ∷ cs) z s xs n h t b =
      set cs z (set_horizon s x).state ys (horizon_new s x n) (horizon_holds s xs h x k ys t.0 t.1) t.2 b
  set (krcf_detect_and_modify c ∷ cs) z s xs n h t b =
      let l = krcf_detect_and_modify c ∷ cs in
      let e = z_stays l xs z t in
      subst (λ (y : Float). Demand3 d y (told_of l) (shown_of l)) (sym e) (judged l z s xs n h t (subst (λ (y : Float). InBounds y (told_of l)) e b))

demand_3 : (d : Float) (auto base : ℕ) (out : List ℕ) (n : ℕ) (xs : List ℕ) (cs : List Call) → InTurn (krcf_new d auto base out n xs ∷ cs) → InBounds (z_of cs) (told_of cs) → Demand3 d (z_of cs) (told_of cs) (shown_of cs)
demand_3 d auto base out n xs cs t b =
    let m = t.0 in
    let h = new_holds d (eqb auto 1) base auto out xs m.discount (subst (λ (k : ℕ). left k xs ≡ chain_made (new d (eqb auto 1) base) auto out) m.accepted m.contract) in
    let w = fresh d (eqb auto 1) base h.0 h.1 in
    set d m.discount w.discount cs z_factor_default h.0 xs w.new h.2 t.1 b

z_unset : (z : Float) (cs : List Call) → ZUnset cs → z_after z cs ≡ z
z_unset z [] u = refl
z_unset z (krcf_new d auto base out n ys ∷ cs) u = z_unset z cs u
z_unset z (krcf_chain_set_z_factor x n ys ∷ cs) u = absurd u
z_unset z (krcf_chain_set_horizon x n ys ∷ cs) u = z_unset z cs u
z_unset z (krcf_detect_and_modify c ∷ cs) u = z_unset z cs u

default_z : (d : Float) (auto base : ℕ) (out : List ℕ) (n : ℕ) (xs : List ℕ) (cs : List Call) → InTurn (krcf_new d auto base out n xs ∷ cs) → ZUnset cs
    → accepted (told_of cs) ≤ most_readings → Sizes (told_of cs) → Demand3 d z_factor_default (told_of cs) (shown_of cs)
default_z d auto base out n xs cs t u = by_default d (z_of cs) (told_of cs) (shown_of cs) (z_unset z_factor_default cs u) (demand_3 d auto base out n xs cs t)

pub demand_3_over_c : Demand3OverC
demand_3_over_c = record { simulated = simulated; opens = opens_over_c; demand_3 = demand_3; default_z = default_z; met = calm_met }
