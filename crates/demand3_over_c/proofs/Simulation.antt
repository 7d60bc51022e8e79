-- A judgment over C is the judgment by value of the decoded state: its answer, the state's bytes and the verdict's. Assumes nothing.
use Rattle.std.specs.Prelude.{Result, Ok, Err}
use mathlib.Core.Path.{◌≡◌, refl, sym, ap, ◌∙◌, subst}
use mathlib.Core.Bool.{Bool, true, false, not, cond, true≢false}
use mathlib.Core.List.{List}
use Prim.Native.Nat.{ℕ, ◌<◌, ◌≤◌}
use native.Mathlib.Omega.{arith}
use lib.Dec.{T, eqb}
use lib.IntN.{ℤ}
use lib.Signed.{mag}
use lib.ListN.{length}
use lib.Ieee.{Float, binary32, fits, eq}
use lib.Ieee.Bits.{of_bits-fits, is_false}
use borrow.Author.Tests.{eqb-true}
use Rattle.types.specs.Refusals.{number, Answer}
use Rattle.types.specs.declared.Refusal.{Refusal}
use Rattle.types.specs.declared.Refusal.TheVariants.{Discount, Range, Length, NotFinite, ValuesSeen, Count, Horizon, Blocks, Row, Field, Drawer, Full, Pool}
use Rattle.basicthresholder.specs.Const.{zero32}
use Rattle.divector.specs.DiVector.{normalized}
use Rattle.descriptor.specs.Checks.{answer_of, lengths_of, sizes_ok, range_ok, lengths_ok, finite_ok, seen_ok}
use Rattle.descriptor.specs.declared.Reading.{Reading}
use Rattle.descriptor.specs.declared.LastDescriptor.{LastDescriptor}
use Rattle.descriptor.proofs.Bounds.{both, sizes}
use Rattle.predictorcorrector.specs.State.{state_counts_ok}
use Rattle.predictorcorrector.specs.declared.PredictorCorrector.{PredictorCorrector}
use Rattle.detection.specs.Judging.{verdict, after, expected, relative_index}
use Rattle.detection.specs.Judged.{Judged, outcome, outcome_of, outcome_number, state_after, index_after, written}
use Rattle.detection.specs.declared.Verdict.{Verdict}
use Rattle.detection.specs.declared.Verdict.TheVariants.{Quiet, Corrected, Raised, Skipped}
use Rattle.detection.specs.declared.Judgment.{Judgment}
use Rattle.layout.specs.Places.{state_length, reading_length, verdict_length}
use Rattle.layout.specs.Numbers.{le4, f32_at}
use Rattle.layout.specs.Chain.{decode_state, encode_state_over}
use Rattle.layout.specs.Readings.{decode_reading, decode_last}
use Rattle.verdict_bytes.specs.Bytes.{told, changes_state, stored, state_left, verdict_left}
use Rattle.c_judging.specs.Judging.{codes_ok, slices_ok, sizes_fit, outcome_over, state_over, index_over}
use Rattle.stored_state.specs.Fits.{StateFits}
use Rattle.stored_state.proofs.Back.{state_back, state_length_lem}
use Rattle.stored_state.proofs.Decoded.{decoded_fits, counted_numbers}
use Rattle.demand3.specs.Calls.{opened}
use Rattle.demand3_over_c.specs.Calls.{Judging, Contract, score_of}
use Rattle.demand3_over_c.specs.Statement.{Reads, Opens, Says, Simulated}
use Rattle.demand3_over_c.proofs.Start.{number_above}
use Rattle.demand3_over_c.proofs.Held.{after_fits}
use Rattle.demand3_over_c.proofs.Index.{index_small}
use Rattle.demand3_over_c.proofs.Verdicts.{told_reads, verdict_fits, verdict_opens}

-- ---- the score that was read
pub score_is : (xs : List ℕ) → (decode_reading xs).score ≡ f32_at xs 15
unfolding decode_reading
score_is xs = refl

float_fits : (xs : List ℕ) (p : ℕ) → T (fits binary32 (f32_at xs p))
unfolding f32_at
float_fits xs p = of_bits-fits binary32 (le4 xs p)

pub score_fits : (xs : List ℕ) → T (fits binary32 (decode_reading xs).score)
unfolding decode_reading
score_fits xs = float_fits xs 15

-- ---- an answer of 0
abbrev refusing : Answer → Bool
refusing (Ok _) = false
refusing (Err why) = true

done_of : (v : Verdict) (a : Answer) → outcome_number (outcome_of v a) ≡ 0 → a ≡ Ok tt
unfolding outcome_of
done_of v (Ok _) e = refl
done_of v (Err why) e = absurd (number_above why e)

passed : (a c d e f : Bool)
    → cond {A = Answer} a (cond c (cond d (cond e (cond f (Ok tt) (Err Count)) (Err ValuesSeen)) (Err NotFinite)) (Err Length)) (Err Range) ≡ Ok tt
    → (a ≡ true) × ((c ≡ true) × (f ≡ true))
passed true true true true true q = (refl, (refl, refl))
passed true true true true false q = absurd (true≢false (ap refusing q))
passed true true true false f q = absurd (true≢false (ap refusing q))
passed true true false e f q = absurd (true≢false (ap refusing q))
passed true false d e f q = absurd (true≢false (ap refusing q))
passed false c d e f q = absurd (true≢false (ap refusing q))

-- ---- an accepted call
module _ (xs : List ℕ) (c : Judging) where
  abbrev pub state_of : PredictorCorrector
  state_of = decode_state xs

  abbrev pub reading_of : Reading
  reading_of = decode_reading c.reading

  abbrev pub last_of : LastDescriptor
  last_of = decode_last c.last

  abbrev pub over : Result Verdict Refusal
  over = outcome_over xs c.reading c.last c.lent (length c.expected) (length c.high) (length c.low) (length c.verdict)

  abbrev pub by_value : Result Verdict Refusal
  by_value = outcome state_of reading_of last_of c.lent (length c.expected) (length c.high) (length c.low)

  abbrev pub answer_by : Answer
  answer_by = answer_of reading_of last_of c.lent (length c.expected) (length c.high) (length c.low) state_of.base_dimension (state_counts_ok state_of)

  abbrev pub slices : Bool
  slices = slices_ok (length xs) (length c.reading) (length c.last) (eqb (length c.verdict) verdict_length)

  abbrev pub codes : Bool
  codes = codes_ok xs c.reading c.last

  -- Codes and lengths in order: the judge is asked.
  pub through : codes ≡ true → slices ≡ true → over ≡ by_value
  unfolding outcome_over
  through p q = rw (p, q)

  asked : outcome_number over ≡ 0 → (codes ≡ true) × (slices ≡ true)
  unfolding outcome_over
  asked e = go codes slices (sizes_fit xs c.reading) e
    where
      go : (p q f : Bool) → outcome_number (cond p (cond q by_value (cond f (Err Length) (Err Range))) (Err Range)) ≡ 0 → (p ≡ true) × (q ≡ true)
      go true true f n = (refl, refl)
      go true false true n = absurd (number_above Length n)
      go true false false n = absurd (number_above Range n)
      go false q f n = absurd (number_above Range n)

  long : slices ≡ true → (length xs ≡ state_length) × (length c.reading ≡ reading_length)
  unfolding slices_ok
  long q =
      let a = both (eqb (length xs) state_length) _ q in
      let b = both (eqb (length c.reading) reading_length) _ a.1 in
      (eqb-true (length xs) state_length a.0, eqb-true (length c.reading) reading_length b.0)

  done_at : outcome_number by_value ≡ 0 → answer_by ≡ Ok tt
  unfolding outcome
  done_at e = done_of (verdict reading_of last_of c.lent state_of) answer_by e

  accepted_at : answer_by ≡ Ok tt → by_value ≡ Ok (verdict reading_of last_of c.lent state_of)
  unfolding outcome outcome_of
  accepted_at e = rw e

  entry : answer_by ≡ Ok tt → (range_ok reading_of.shingle_size reading_of.base_dimension state_of.base_dimension ≡ true) × ((lengths_ok reading_of last_of (lengths_of c.lent (length c.expected) (length c.high) (length c.low)) ≡ true) × (state_counts_ok state_of ≡ true))
  unfolding answer_of
  entry e =
      passed (range_ok reading_of.shingle_size reading_of.base_dimension state_of.base_dimension)
      (lengths_ok reading_of last_of (lengths_of c.lent (length c.expected) (length c.high) (length c.low)))
      (finite_ok reading_of last_of c.lent)
      (seen_ok reading_of.values_seen last_of.has_anomaly last_of.anomaly.values_seen)
      (state_counts_ok state_of) e

  base_of : range_ok reading_of.shingle_size reading_of.base_dimension state_of.base_dimension ≡ true → state_of.base_dimension ≤ 16
  unfolding range_ok
  base_of e =
      let p = both (sizes_ok reading_of.shingle_size reading_of.base_dimension) (eqb reading_of.base_dimension state_of.base_dimension) e in
      let q = (sizes reading_of.shingle_size reading_of.base_dimension p.0).base_most in
      let r : reading_of.base_dimension ≡ state_of.base_dimension = eqb-true reading_of.base_dimension state_of.base_dimension p.1 in
      subst (λ (n : ℕ). n ≤ 16) r q

  -- What an accepted call's bytes are.
  pub record Taken : Type 0 where
    pub codes_ok_lem : codes ≡ true
    pub slices_ok_lem : slices ≡ true
    pub size : length xs ≡ state_length
    pub reading_size : length c.reading ≡ reading_length
    pub done : answer_by ≡ Ok tt
    pub says : over ≡ Ok (verdict reading_of last_of c.lent state_of)
    pub says_by : by_value ≡ Ok (verdict reading_of last_of c.lent state_of)
    pub fits : StateFits state_of
    pub index : mag (relative_index reading_of last_of c.lent (verdict reading_of last_of c.lent state_of)) < 0x8000_0000

  pub taken_by : codes ≡ true → slices ≡ true → answer_by ≡ Ok tt → Taken
  taken_by p q d =
      let l = long q in
      let f = entry d in
      let ok : state_counts_ok (decode_state xs) ≡ true = f.1.1 in
      let most : (decode_state xs).base_dimension ≤ 16 = base_of f.0 in
      record {
        codes_ok_lem = p;
        slices_ok_lem = q;
        size = l.0;
        reading_size = l.1;
        done = d;
        says = through p q ∙ accepted_at d;
        says_by = accepted_at d;
        fits = decoded_fits xs (counted_numbers (decode_state xs) ok most);
        index = index_small reading_of last_of c.lent state_of.base_dimension (length c.expected) (length c.high) (length c.low) f.0 f.1.0 (verdict reading_of last_of c.lent state_of);
      }

  pub taken : outcome_number over ≡ 0 → Taken
  taken e =
      let p = asked e in
      taken_by p.0 p.1 (done_at (ap outcome_number (sym (through p.0 p.1)) ∙ e))

  -- ---- the state that is left decodes to the state by value
  module _ (k : Taken) where
    abbrev pub said : Verdict
    said = verdict reading_of last_of c.lent state_of

    abbrev later : Verdict → PredictorCorrector
    later v = after reading_of last_of c.lent state_of v

    written_back : (v : Verdict) → (length (encode_state_over xs (later v)) ≡ state_length) × (decode_state (encode_state_over xs (later v)) ≡ later v)
    written_back v =
        (state_length_lem xs (later v) k.size, state_back xs (later v) k.size (after_fits reading_of last_of c.lent (score_fits c.reading) state_of v k.fits))

    put_back : (v : Verdict) → (length (stored v xs (later v)) ≡ state_length) × (decode_state (stored v xs (later v)) ≡ later v)
    unfolding stored changes_state after
    put_back (Quiet t) = written_back (Quiet t)
    put_back (Corrected t m) = written_back (Corrected t m)
    put_back (Raised t g) = written_back (Raised t g)
    put_back Skipped = (k.size, refl)

    read_back : (v : Verdict) → decode_state (stored v xs (later v)) ≡ later v
    read_back v = (put_back v).1

    accepted_state : decode_state (state_left over xs (state_over xs c.reading c.last c.lent over)) ≡ state_after state_of reading_of last_of c.lent by_value
    unfolding state_left state_over state_after
    accepted_state =
        ap (λ (o : Result Verdict Refusal). decode_state (state_left o xs (state_over xs c.reading c.last c.lent o))) k.says
        ∙ read_back said ∙ ap (state_after state_of reading_of last_of c.lent) (sym k.says_by)

    accepted_verdict : (n : ℤ) → n ≡ index_over xs c.reading c.last c.lent over
        → Reads said n (verdict_left over c.verdict (index_over xs c.reading c.last c.lent over))
    unfolding verdict_left index_over index_after
    accepted_verdict n e =
        let i : n ≡ relative_index reading_of last_of c.lent said = e ∙ ap (index_over xs c.reading c.last c.lent) k.says in
        subst (Reads said n)
        (ap (told said) e ∙ ap (λ (o : Result Verdict Refusal). verdict_left o c.verdict (index_over xs c.reading c.last c.lent over)) (sym k.says))
        (told_reads said n (verdict_fits state_of reading_of last_of c.lent k.fits.thresholder (score_fits c.reading)) (subst (λ (m : ℤ). mag m < 0x8000_0000) (sym i) k.index))

  -- ---- a refused call
  refused_by : (why : Refusal) → over ≡ Err why → Contract xs c → (c.state' ≡ xs) × (c.verdict' ≡ c.verdict)
  unfolding state_left verdict_left
  refused_by why e q = (
    q.bytes ∙ ap (λ (o : Result Verdict Refusal). state_left o xs (state_over xs c.reading c.last c.lent over)) e,
    q.verdict ∙ ap (λ (o : Result Verdict Refusal). verdict_left o c.verdict (index_over xs c.reading c.last c.lent over)) e,
  )

  -- An answer other than 0 leaves the bytes as they came.
  pub refused_keeps : Contract xs c → (c.answer ≡ 0 → ⊥) → (c.state' ≡ xs) × (c.verdict' ≡ c.verdict)
  refused_keeps q n = go over refl
    where
      go : (o : Result Verdict Refusal) → over ≡ o → (c.state' ≡ xs) × (c.verdict' ≡ c.verdict)
      go (Ok v) e = absurd (n (q.answer ∙ ap outcome_number e))
      go (Err why) e = refused_by why e q

  -- ---- the simulation: where the codes and the slices are in order, the call answers and leaves what the judgment by value says of the decoded state
  module _ (q : Contract xs c) (p : codes ≡ true) (f : slices ≡ true) (j : Judgment) (e h w : List Float)
      (d : Judged state_of reading_of last_of c.lent j c.expected c.high c.low e h w) where
    same : over ≡ by_value
    same = through p f

    says_refused : (why : Refusal) → answer_by ≡ Err why → by_value ≡ Err why
    unfolding outcome outcome_of
    says_refused why g = rw g

    state_by : (a : Answer) → answer_by ≡ a → decode_state c.state' ≡ j.state
    unfolding state_after
    state_by (Ok tt) g = ap decode_state q.bytes ∙ accepted_state (taken_by p f g) ∙ sym d.state
    state_by (Err why) g =
        ap decode_state (refused_by why (same ∙ says_refused why g) q).0 ∙ sym (d.state ∙ ap (state_after state_of reading_of last_of c.lent) (says_refused why g))

    verdict_by : (a : Answer) → answer_by ≡ a → Says j.outcome j.relative_index c.verdict c.verdict'
    unfolding index_over
    verdict_by (Ok tt) g =
        let k = taken_by p f g in
        let index : j.relative_index ≡ index_over xs c.reading c.last c.lent over = d.index ∙ ap (index_after reading_of last_of c.lent) (sym same) in
        subst (λ (o : Result Verdict Refusal). Says o j.relative_index c.verdict c.verdict') (sym (d.says ∙ k.says_by))
        (subst (Reads (said k) j.relative_index) (sym q.verdict) (accepted_verdict k j.relative_index index))
    verdict_by (Err why) g =
        subst (λ (o : Result Verdict Refusal). Says o j.relative_index c.verdict c.verdict') (sym (d.says ∙ says_refused why g))
        (refused_by why (same ∙ says_refused why g) q).1

    pub simulated : Simulated c j e h w
    simulated = record {
      answer = q.answer ∙ ap outcome_number (same ∙ sym d.says);
      state = state_by answer_by refl;
      verdict = verdict_by answer_by refl;
      point = q.point ∙ ap (λ (o : Result Verdict Refusal). written o c.expected (expected reading_of last_of c.lent)) same ∙ sym d.point;
      highs = q.highs ∙ ap (λ (o : Result Verdict Refusal). written o c.high (normalized reading_of.score c.lent.high c.lent.low c.lent.high)) same ∙ sym d.highs;
      lows = q.lows ∙ ap (λ (o : Result Verdict Refusal). written o c.low (normalized reading_of.score c.lent.high c.lent.low c.lent.low)) same ∙ sym d.lows;
    }

  -- ---- what an accepted call's verdict says of the opening
  pub accepted_reads : Contract xs c → (k : Taken) → Reads (said k) (index_over xs c.reading c.last c.lent over) c.verdict'
  accepted_reads q k = subst (Reads (said k) _) (sym q.verdict) (accepted_verdict k _ refl)

  pub accepted_left : Contract xs c → Taken → decode_state c.state' ≡ state_after state_of reading_of last_of c.lent by_value
  accepted_left q k = ap decode_state q.bytes ∙ accepted_state k

  pub opens_over_c : Contract xs c → c.answer ≡ 0 → T (not (eq (score_of c) zero32)) → Opens (opened state_of reading_of) c.verdict'
  opens_over_c q z n =
      let k = taken (sym q.answer ∙ z) in
      verdict_opens state_of reading_of last_of c.lent _ c.verdict' (accepted_reads q k)
      (ap (λ (x : Float). eq x zero32) (score_is c.reading) ∙ is_false (eq (score_of c) zero32) n)
