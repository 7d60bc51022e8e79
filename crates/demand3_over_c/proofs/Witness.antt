-- The premises can be met: `krcf_new` makes a state in any 1,310 bytes, and `krcf_detect_and_modify` accepts a calm DISTANCE reading eleven times in turn over it. Assumes nothing.
use Rattle.std.specs.Prelude.{Result, Ok}
use Rattle.std.specs.Result.{result_unwrap_or}
use mathlib.Core.Path.{◌≡◌, refl, sym, ap, ap₂, ◌∙◌, subst}
use mathlib.Core.Logic.{inr}
use mathlib.Core.Bool.{Bool, true, false, not, cond}
use mathlib.Core.List.{List, ◌∷◌}
use Prim.Native.Nat.{ℕ, zero, suc, ◌+◌, ◌≤◌}
use native.Mathlib.Omega.{arith}
use lib.Dec.{T, lit≤}
use lib.ListN.{length, get_or}
use lib.Ieee.{binary32, binary64, fits, round, add, sub, mul, div, lt, le, eq, ne, of_int, of_bits}
use borrow.Author.Tests.{eq-eqb, le-leb}
use Rattle.ieee.specs.Round.{narrow}
use Rattle.util.specs.Util.{minf32}
use Rattle.deviation.specs.Statistics.{countable, next, one_more}
use Rattle.deviation.specs.Statistics as Statistics
use Rattle.basicthresholder.specs.Updates.{counts_ok, updated, update_primary, primary_counted, counted_over, counted_gap}
use Rattle.basicthresholder.specs.Grades.{primary_threshold_and_grade, threshold, threshold_by, primary_grade, grade_over, is_deviation_ready, counts_ready}
use Rattle.ledger.specs.Statement.{most_readings, accepted, Sized, Sizes, InBounds}
use Rattle.ledger.proofs.Laws.{default_z}
use Rattle.descriptor.specs.Lent.{Lent}
use Rattle.descriptor.specs.Checks.{every, sizes_ok, dimension, range_ok, lengths_of, points_ok, rows_ok, neighbours_ok, last_points_ok, lengths_ok, numbers_finite, last_finite, finite_ok, is_later, seen_ok, answer_of}
use Rattle.descriptor.specs.declared.Reading.{Reading}
use Rattle.descriptor.specs.declared.LastDescriptor.{LastDescriptor}
use Rattle.predictorcorrector.specs.State as State
use Rattle.predictorcorrector.specs.State.{new, fresh_state, fresh_list, state_counts_ok, run_ended}
use Rattle.predictorcorrector.specs.Lists.{list_countable, first_countable}
use Rattle.predictorcorrector.specs.declared.PredictorCorrector.{PredictorCorrector}
use Rattle.detection.specs.Judging.{verdict, decided, opening, after, entered, update_score}
use Rattle.detection.specs.Judged.{outcome_number, state_after}
use Rattle.detection.specs.declared.Verdict.{Verdict}
use Rattle.detection.specs.declared.Verdict.TheVariants.{Quiet, Corrected, Raised, Skipped}
use Rattle.layout.specs.Places.{auto_threshold_at, state_length, auto_adjust_at}
use Rattle.layout.specs.Numbers.{le4, f32_at, i32_at, signed, flag_at}
use Rattle.layout.specs.Chain.{decode_state, state_codes_ok}
use Rattle.layout.specs.Left.{left}
use Rattle.layout.specs.Readings.{reading_codes_ok, last_codes_ok, decode_reading, decode_last, decode_anomaly, strategy_from, method_from}
use Rattle.verdict_bytes.specs.Bytes.{changes_state, stored, state_left}
use Rattle.c_chain.specs.States.{chain_made}
use Rattle.c_judging.specs.Judging.{codes_ok, slices_ok, state_over}
use Rattle.demand3_over_c.specs.Calls.{krcf_new, JudgedInTurn, InTurn, Made, z_of, ZUnset, told_of}
use Rattle.demand3_over_c.specs.Calm.{nought, one, reading, last, said, judging, judgings, made, eleven}
use Rattle.demand3.specs.Calm.{buffers}
use Rattle.demand3_over_c.proofs.Held.{after_fits}
use Rattle.demand3_over_c.proofs.Simulation.{score_fits, codes, slices, Taken, taken_by}
use Rattle.demand3_over_c.proofs.Start.{Holds, new_holds, put_holds}
use Rattle.types.specs.declared.Refusal.{Refusal}
use Rattle.types.specs.Refusals.{Answer}

none_fits : T (fits binary64 nought)
unfolding fits
none_fits = tt

new_is : new nought false 1 ≡ Ok (fresh_state nought false 1)
unfolding new lt le eq of_bits
new_is = refl

over_by : (out : List ℕ) → length out ≡ state_length → left 0 (made out) ≡ chain_made (new nought false 1) 0 out
unfolding chain_made
over_by out h = rw (new_is, eq-eqb (length out) state_length h) refl

made_is : (out : List ℕ) → length out ≡ state_length → Made nought 0 1 out 0 (made out)
made_is out h = record { discount = none_fits; contract = over_by out h; accepted = refl }

-- ---- the same reading again and again, each time over the bytes that the call before left
in_turn : (n : ℕ) (xs : List ℕ) → JudgedInTurn xs (judgings n xs)
in_turn zero xs = tt
in_turn (suc n) xs = (
  record { contract = record { answer = refl; bytes = refl; point = refl; highs = refl; lows = refl; verdict = refl }; distance = λ (h : length reading ≡ 23). tt },
  in_turn n (judging xs).state',
)

-- ---- by value
abbrev answer_from : PredictorCorrector → Answer
answer_from s = answer_of (decode_reading reading) (decode_last last) buffers 1 1 1 s.base_dimension (state_counts_ok s)

abbrev next_from : PredictorCorrector → PredictorCorrector
next_from s = after (decode_reading reading) (decode_last last) buffers s (verdict (decode_reading reading) (decode_last last) buffers s)

abbrev AllDone : ℕ → PredictorCorrector → Type 0
AllDone zero s = Unit
AllDone (suc n) s = (answer_from s ≡ Ok tt) × AllDone n (next_from s)

left_holds : (r : Reading) (l : LastDescriptor) (b : Lent) (s : PredictorCorrector) (xs : List ℕ) (v : Verdict) → T (fits binary32 r.score) → Holds s xs → Holds (after r l b s v) (stored v xs (after r l b s v))
unfolding stored changes_state after
left_holds r l b s xs (Quiet t) h k = put_holds xs _ k.size (after_fits r l b h s (Quiet t) k.fits)
left_holds r l b s xs (Corrected t m) h k = put_holds xs _ k.size (after_fits r l b h s (Corrected t m) k.fits)
left_holds r l b s xs (Raised t g) h k = put_holds xs _ k.size (after_fits r l b h s (Raised t g) k.fits)
left_holds r l b s xs Skipped h k = k

module _ (xs : List ℕ) (s : PredictorCorrector) (k : Holds s xs) (d : answer_from s ≡ Ok tt) where
  same : decode_state xs ≡ s
  same = k.state

  ok : (codes xs (judging xs) ≡ true) × (slices xs (judging xs) ≡ true)
  unfolding codes_ok state_codes_ok reading_codes_ok last_codes_ok slices_ok
  ok = (
    rw (eq-eqb (length xs) state_length k.size, le-leb (get_or xs auto_threshold_at 0) 1 k.first_flag, le-leb (get_or xs auto_adjust_at 0) 1 k.second_flag) refl,
    rw (eq-eqb (length xs) state_length k.size) refl,
  )

  taken_here : Taken xs (judging xs)
  taken_here = taken_by xs (judging xs) ok.0 ok.1 (ap answer_from same ∙ d)

  answer_zero : outcome_number (said xs) ≡ 0
  answer_zero = ap outcome_number taken_here.says

  next_holds : Holds (next_from s) (judging xs).state'
  unfolding state_left state_over state_after
  next_holds =
      let e : (judging xs).state' ≡ stored (verdict (decode_reading reading) (decode_last last) buffers (decode_state xs)) xs (next_from (decode_state xs)) =
      ap (λ (o : Result Verdict Refusal). state_left o xs (state_over xs reading last buffers o)) taken_here.says in
      let here : Holds (decode_state xs) xs = subst (λ (u : PredictorCorrector). Holds u xs) (sym same) k in
      let there = left_holds (decode_reading reading) (decode_last last) buffers (decode_state xs) xs (verdict (decode_reading reading) (decode_last last) buffers (decode_state xs)) score_fits_here here in
      subst (λ (u : PredictorCorrector). Holds (next_from u) (judging xs).state') same (subst (Holds (next_from (decode_state xs))) (sym e) there)
    where
      score_fits_here : T (fits binary32 (decode_reading reading).score)
      score_fits_here = score_fits reading

accepted_in_turn : (n : ℕ) (xs : List ℕ) (s : PredictorCorrector) → Holds s xs → AllDone n s → accepted (told_of (judgings n xs)) ≡ n
accepted_in_turn zero xs s k d = refl
accepted_in_turn (suc n) xs s k d =
    ap₂ (λ (b : Bool) (m : ℕ). cond (not b) 0 1 + m) (eq-eqb (outcome_number (said xs)) 0 (answer_zero xs s k d.0))
    (accepted_in_turn n (judging xs).state' (next_from s) (next_holds xs s k d.0) d.1)
    ∙ omega arith

eleven_done : AllDone 11 (fresh_state nought false 1)
unfolding answer_of range_ok sizes_ok lengths_of lengths_ok dimension points_ok rows_ok neighbours_ok last_points_ok finite_ok numbers_finite last_finite every seen_ok is_later
    state_counts_ok counts_ok countable list_countable first_countable new fresh_state fresh_list
    lt le eq ne of_bits round add sub mul div of_int
    decode_reading decode_last decode_anomaly f32_at i32_at signed le4 flag_at strategy_from method_from
    verdict decided opening after entered update_score run_ended State.update_score
    update_primary updated primary_counted counted_over counted_gap Statistics.update next one_more Statistics.factor Statistics.mean Statistics.deviation Statistics.is_empty Statistics.positive_root narrow
    primary_threshold_and_grade threshold threshold_by primary_grade grade_over is_deviation_ready counts_ready minf32
eleven_done = (refl, (refl, (refl, (refl, (refl, (refl, (refl, (refl, (refl, (refl, (refl, tt)))))))))))

-- ---- the statement's bounds
score_one : f32_at reading 15 ≡ one
unfolding f32_at le4 of_bits
score_one = refl

sized_one : Sized one
sized_one = record { plain = tt; least = lit≤ tt; most = lit≤ tt }

sizes : (n : ℕ) (xs : List ℕ) → Sizes (told_of (judgings n xs))
sizes zero xs = tt
sizes (suc n) xs = ((λ h. inr (subst Sized (sym score_one) sized_one)), sizes n (judging xs).state')

pub calm_met : (out : List ℕ) → length out ≡ state_length
    → InTurn (krcf_new nought 0 1 out 0 (made out) ∷ eleven (made out)) × ZUnset (eleven (made out)) × InBounds (z_of (eleven (made out))) (told_of (eleven (made out))) × (accepted (told_of (eleven (made out))) ≡ 11)
calm_met out h =
    let m = made_is out h in
    let xs = made out in
    let h = new_holds nought false 1 0 out xs none_fits m.contract in
    let held : Holds (fresh_state nought false 1) xs = subst (λ (s : PredictorCorrector). Holds s xs) (ap (λ (r : Result PredictorCorrector Refusal). result_unwrap_or r h.0) (sym h.1 ∙ new_is)) h.2 in
    let many : accepted (told_of (eleven xs)) ≡ 11 = accepted_in_turn 11 xs (fresh_state nought false 1) held eleven_done in (
      (m, in_turn 11 xs),
      tt,
      default_z (told_of (eleven xs)) (subst (λ (n : ℕ). n ≤ most_readings) (sym many) (lit≤ tt)) (sizes 11 xs),
      many,
    )
