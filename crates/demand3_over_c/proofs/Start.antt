-- A state that `krcf_new` made and the two setters set, in its bytes. Assumes nothing.
use Rattle.std.specs.Prelude.{Result, Ok, Err, is_ok}
use Rattle.std.specs.Result.{result_unwrap_or}
use mathlib.Core.Path.{◌≡◌, refl, sym, ap, ◌∙◌, subst}
use mathlib.Core.Bool.{Bool, true, false, cond, ◌&&◌, true≢false}
use mathlib.Core.List.{List}
use Prim.Native.Nat.{ℕ, ◌<◌, ◌≤◌}
use native.Mathlib.Decide.{dec_lt}
use native.Mathlib.Omega.{arith}
use lib.Dec.{T, leb, eqb, leb→le}
use lib.ListN.{length, get_or, replicate, length-replicate, get_or-replicate, get_or-eq_default}
use lib.Ieee as Ieee
use lib.Ieee.{Float, binary32, binary64, fits}
use lib.Ieee.Bits.{of_bits-fits}
use lib.Ieee.Fits.{div-fits}
use borrow.Author.Tests.{eq-eqb, eqb-true, eqb-false, le-leb}
use Rattle.types.specs.Refusals.{number, answered}
use Rattle.types.specs.declared.Refusal.{Refusal}
use Rattle.types.specs.declared.Refusal.TheVariants as Refusals
use Rattle.deviation.specs.Const.{zero64}
use Rattle.deviation.specs.Statistics.{fresh, is_discount}
use Rattle.deviation.specs.declared.Deviation.{Deviation}
use Rattle.basicthresholder.specs.Const.{two64}
use Rattle.basicthresholder.specs.Updates.{fresh_thresholder, done, refused, is_horizon, with_score_differencing, set_score_differencing}
use Rattle.predictorcorrector.specs.State.{new, fresh_state, fresh_list, existing, z_factor_set, set_horizon, updated, with_thresholder}
use Rattle.predictorcorrector.specs.declared.PredictorCorrector.{PredictorCorrector}
use Rattle.layout.specs.Places.{auto_threshold_at, state_length, auto_adjust_at}
use Rattle.layout.specs.Numbers.{flag_byte, f32_bytes, f64_bytes, i32_bytes, flag_bytes, bytes4, bytes8}
use Rattle.layout.specs.States.{joined, encode_deviation, encode_thresholder}
use Rattle.layout.specs.Chain.{entries, decode_state, encode_head, encode_state_over, state_codes_ok}
use Rattle.layout.specs.Left.{Left, left}
use Rattle.layout.specs.Fits.{DeviationFits, ThresholderFits}
use Rattle.c_chain.specs.States.{chain_refusal, chain_set, horizon_set_in, chain_made}
use Rattle.stored_state.specs.Fits.{ListFits, StateFits}
use Rattle.stored_state.proofs.Windows.{part, first}
use Rattle.stored_state.proofs.Back.{state_back, state_length_lem, head_put}
use Rattle.demand3_over_c.proofs.Held.{fresh_fits, z_fits, differencing_fits, with_thresholder_lem, changed_length, changed_other, changed_held}
use Rattle.types.specs.declared.Updated.{Updated}

-- ---- bytes that hold a state, and whose two yes/no bytes no call refuses
pub record Holds (s : PredictorCorrector) (xs : List ℕ) : Type 0 where
  pub size : length xs ≡ state_length
  pub state : decode_state xs ≡ s
  pub fits : StateFits s
  pub first_flag : get_or xs auto_threshold_at 0 ≤ 1
  pub second_flag : get_or xs auto_adjust_at 0 ≤ 1

flag_most : (b : Bool) → flag_byte b ≤ 1
flag_most true = omega arith
flag_most false = omega arith

head_first : (s : PredictorCorrector) → get_or (encode_head s) auto_threshold_at 0 ≡ flag_byte s.basic_thresholder.auto_threshold
unfolding encode_head encode_thresholder encode_deviation joined f32_bytes f64_bytes i32_bytes flag_bytes bytes8 bytes4
head_first s = refl

head_second : (s : PredictorCorrector) → get_or (encode_head s) auto_adjust_at 0 ≡ flag_byte s.auto_adjust
unfolding encode_head encode_thresholder encode_deviation joined f32_bytes f64_bytes i32_bytes flag_bytes bytes8 bytes4
head_second s = refl

pub put_holds : (xs : List ℕ) (s : PredictorCorrector) → length xs ≡ state_length → StateFits s → Holds s (encode_state_over xs s)
put_holds xs s size f = record {
  size = state_length_lem xs s size;
  state = state_back xs s size f;
  fits = f;
  first_flag = subst (λ (n : ℕ). n ≤ 1) (sym (first (omega arith) (part (head_put xs s size) auto_threshold_at 1 (omega arith)) ∙ head_first s)) (flag_most s.basic_thresholder.auto_threshold);
  second_flag = subst (λ (n : ℕ). n ≤ 1) (sym (first (omega arith) (part (head_put xs s size) auto_adjust_at 1 (omega arith)) ∙ head_second s)) (flag_most s.auto_adjust);
}

-- ---- a new state
pub fresh_thresholder_lem : (d : Float) (adjust : Bool) → T (fits binary64 d) → ThresholderFits (fresh_thresholder d adjust)
fresh_thresholder_lem d adjust h = record {
  elasticity = of_bits-fits binary32 0x3C23_D70A;
  count = omega arith;
  differencing = of_bits-fits binary32 0x3F00_0000;
  last = of_bits-fits binary32 0;
  primary = fresh_fits d h;
  secondary = fresh_fits d h;
  third = fresh_fits (Ieee.div binary64 d two64) (div-fits binary64 d two64);
  absolute = of_bits-fits binary32 0x3F4C_CCCD;
  fraction = of_bits-fits binary32 0x3F00_0000;
  lower = of_bits-fits binary32 0x3F80_0000;
  adjustment = of_bits-fits binary32 0x3F66_6666;
  initial = of_bits-fits binary32 0x3FC0_0000;
  factor = of_bits-fits binary32 _;
}

empty : (k : ℕ) → Dec (k < 16) → get_or (replicate 16 (fresh zero64)) k (fresh zero64) ≡ fresh zero64
empty k (yes h) = get_or-replicate {A = Deviation} 16 k (fresh zero64) (fresh zero64) h
empty k (no h) = get_or-eq_default (replicate {A = Deviation} 16 (fresh zero64)) (fresh zero64) {n = k} (omega arith)

fresh_list_lem : (d : Float) (n : ℕ) → T (fits binary64 d) → ListFits n (fresh_list d n)
unfolding fresh_list
fresh_list_lem d n h = record {
  room = changed_length (fresh zero64) (λ (old : Deviation). fresh d) n (replicate 16 (fresh zero64));
  held = λ (k : ℕ) (l : k < n).
      changed_held (fresh zero64) DeviationFits (λ (old : Deviation). fresh d) (λ (old : Deviation) (p : DeviationFits old). fresh_fits d h) n (replicate 16 (fresh zero64)) k
      (subst DeviationFits (sym (empty k (dec_lt k 16))) (fresh_fits zero64 (of_bits-fits binary64 0)));
  rest = λ (k : ℕ) (l : n ≤ k). changed_other (fresh zero64) (λ (old : Deviation). fresh d) n (replicate 16 (fresh zero64)) k l ∙ empty k (dec_lt k 16);
}

entries_are : (auto : Bool) (base : ℕ) → base ≤ 16 → existing auto base ≡ entries auto base
unfolding entries
entries_are true base h = rw (le-leb base 16 h)
entries_are false base h = refl

fresh_state_lem : (d : Float) (auto : Bool) (base : ℕ) → T (fits binary64 d) → base ≤ 16 → StateFits (fresh_state d auto base)
unfolding fresh_state
fresh_state_lem d auto base h m =
    let l : ListFits (entries auto base) (fresh_list d (existing auto base)) = subst (λ (n : ℕ). ListFits n (fresh_list d (existing auto base))) (entries_are auto base m) (fresh_list_lem d (existing auto base) h) in
    record { thresholder = fresh_thresholder_lem d false h; run = omega arith; base = omega arith; actual = l; expected = l }

new_fits : (d : Float) (auto : Bool) (base : ℕ) (s : PredictorCorrector) → T (fits binary64 d) → new d auto base ≡ Ok s → StateFits s
unfolding new
new_fits d auto base s h = go (is_discount d) (leb 1 base) (leb base 16) (leb→le base 16)
  where
    go : (c i k : Bool) → (T k → base ≤ 16) → cond c (cond (i && k) (Ok (fresh_state d auto base)) (Err Refusals.Range)) (Err Refusals.Discount) ≡ Ok s → StateFits s
    go true true true m e = subst StateFits (ap (λ (r : Result PredictorCorrector Refusal). result_unwrap_or r s) e) (fresh_state_lem d auto base h (m tt))
    go true true false m e = absurd (true≢false (ap is_ok (sym e)))
    go true false k m e = absurd (true≢false (ap is_ok (sym e)))
    go false i k m e = absurd (true≢false (ap is_ok (sym e)))

pub number_above : (why : Refusal) → number why ≡ 0 → ⊥
number_above Refusals.Discount e = absurd (omega arith)
number_above Refusals.Range e = absurd (omega arith)
number_above Refusals.Length e = absurd (omega arith)
number_above Refusals.NotFinite e = absurd (omega arith)
number_above Refusals.ValuesSeen e = absurd (omega arith)
number_above Refusals.Count e = absurd (omega arith)
number_above Refusals.Horizon e = absurd (omega arith)
number_above Refusals.Blocks e = absurd (omega arith)
number_above Refusals.Row e = absurd (omega arith)
number_above Refusals.Field e = absurd (omega arith)
number_above Refusals.Drawer e = absurd (omega arith)
number_above Refusals.Full e = absurd (omega arith)
number_above Refusals.Pool e = absurd (omega arith)

-- `krcf_new` answered 0.
pub record MadeOver (made : Result PredictorCorrector Refusal) (out xs : List ℕ) : Type 0 where
  pub state : PredictorCorrector
  pub done : made ≡ Ok state
  pub size : length out ≡ state_length
  pub bytes : xs ≡ encode_state_over (replicate (length out) 0) state

pub made_over : (made : Result PredictorCorrector Refusal) (adjust : ℕ) (out xs : List ℕ) → left 0 xs ≡ chain_made made adjust out → MadeOver made out xs
unfolding chain_made
made_over (Ok s) adjust out xs e = go (leb adjust 1) (eqb (length out) state_length) refl e
  where
    go : (b c : Bool) → eqb (length out) state_length ≡ c
        → left 0 xs ≡ cond b (cond c (left 0 (encode_state_over (replicate (length out) 0) s)) (left (number Refusals.Length) out)) (left (number Refusals.Range) out)
        → MadeOver (Ok s) out xs
    go true true q e = record { state = s; done = refl; size = eqb-true (length out) state_length q; bytes = ap (λ (l : Left). l.bytes) e }
    go true false q e = (let n : ◌≡◌ {A = ℕ} 0 3 = ap (λ (l : Left). l.answer) e in absurd (omega arith))
    go false c q e = (let n : ◌≡◌ {A = ℕ} 0 2 = ap (λ (l : Left). l.answer) e in absurd (omega arith))
made_over (Err why) adjust out xs e = absurd (number_above why (sym (ap (λ (l : Left). l.answer) e)))

pub new_holds : (d : Float) (auto : Bool) (base adjust : ℕ) (out xs : List ℕ) → T (fits binary64 d) → left 0 xs ≡ chain_made (new d auto base) adjust out
    → ((s : PredictorCorrector) × (new d auto base ≡ Ok s) × Holds s xs)
new_holds d auto base adjust out xs h e =
    let m = made_over (new d auto base) adjust out xs e in (
      m.state,
      m.done,
      subst (Holds m.state) (sym m.bytes)
          (put_holds (replicate (length out) 0) m.state (length-replicate {A = ℕ} (length out) 0 ∙ m.size) (new_fits d auto base m.state h m.done)),
    )

-- ---- the setters
module _ (s : PredictorCorrector) (xs : List ℕ) (k : Holds s xs) where
  pub size_fits : eqb (length xs) state_length ≡ true
  size_fits = eq-eqb (length xs) state_length k.size

  pub codes_fit : state_codes_ok xs ≡ true
  unfolding state_codes_ok
  codes_fit = rw (size_fits, le-leb (get_or xs auto_threshold_at 0) 1 k.first_flag, le-leb (get_or xs auto_adjust_at 0) 1 k.second_flag)

  no_refusal : chain_refusal xs ≡ 0
  unfolding chain_refusal
  no_refusal = rw (size_fits, codes_fit)

  pub set_holds : (f : PredictorCorrector → PredictorCorrector) (n : ℕ) (ys : List ℕ) → StateFits (f s) → left n ys ≡ chain_set f xs → Holds (f s) ys
  unfolding chain_set
  set_holds f n ys h e =
      let done : left n ys ≡ left 0 (encode_state_over xs (f (decode_state xs))) = e ∙ rw (no_refusal) in
      subst (Holds (f s)) (sym (ap (λ (l : Left). l.bytes) done ∙ ap (λ (u : PredictorCorrector). encode_state_over xs (f u)) k.state)) (put_holds xs (f s) k.size h)

  pub z_holds : (x : Float) (n : ℕ) (ys : List ℕ) → T (fits binary32 x) → left n ys ≡ chain_set (λ (u : PredictorCorrector). z_factor_set u x) xs → Holds (z_factor_set s x) ys
  z_holds x n ys h e = set_holds (λ (u : PredictorCorrector). z_factor_set u x) n ys (with_thresholder_lem s _ k.fits (z_fits s.basic_thresholder x h k.fits.thresholder)) e

  -- What a horizon's setter leaves, and the state that it sets by its test.
  abbrev left_by : Updated PredictorCorrector → Left
  left_by u = cond (eqb (answered u.answer) 0) (left 0 (encode_state_over xs u.state)) (left (answered u.answer) xs)

  abbrev set_by : Float → Bool → Updated PredictorCorrector
  set_by x c =
      let t = s.basic_thresholder in
      let u = cond c (done (with_score_differencing t x)) (refused Refusals.Horizon t) in
      updated u.answer (with_thresholder s u.state)

  pub horizon_holds : (x : Float) (n : ℕ) (ys : List ℕ) → T (fits binary32 x) → left n ys ≡ horizon_set_in x xs → Holds (set_horizon s x).state ys
  unfolding horizon_set_in set_horizon set_score_differencing
  horizon_holds x n ys h e =
      let q : left n ys ≡ left_by (set_horizon (decode_state xs) x) = e ∙ rw (no_refusal) in
      go (is_horizon x) (q ∙ ap (λ (u : PredictorCorrector). left_by (set_horizon u x)) k.state)
    where
      go : (c : Bool) → left n ys ≡ left_by (set_by x c) → Holds (set_by x c).state ys
      go true q =
          subst (Holds (set_by x true).state) (sym (ap (λ (l : Left). l.bytes) q))
          (put_holds xs (set_by x true).state k.size (with_thresholder_lem s _ k.fits (differencing_fits s.basic_thresholder x h k.fits.thresholder)))
      go false q = subst (Holds s) (sym (ap (λ (l : Left). l.bytes) q)) k
