-- A decoded state can be stored again, and the round trip whole. Assumes nothing.
use mathlib.Core.Path.{◌≡◌, refl, sym, ap, ◌∙◌, subst}
use mathlib.Core.Bool.{Bool, true, false, cond, ◌&&◌, true≢false}
use mathlib.Core.List.{List, [], ◌∷◌}
use Prim.Native.Nat.{ℕ, zero, suc, ◌+◌, ◌-◌, ◌*◌, ◌<◌, ◌≤◌}
use native.Mathlib.Nat.{not-suc-le-zero}
use native.Mathlib.Decide.{dec_lt}
use native.Mathlib.Omega.{arith}
use lib.Dec.{T, leb, ltb, leb→le}
use lib.IntN.{ℤ, pos, negsuc}
use lib.Signed.{mag}
use lib.ListN.{length, get_or, replicate, get_or-replicate, get_or-eq_default}
use lib.Ieee.{binary32, binary64}
use lib.Ieee.Bits.{of_bits-fits}
use borrow.Author.Tests.{lt-ltb, le-ltb}
use Rattle.deviation.specs.Const.{zero64}
use Rattle.deviation.specs.Statistics.{fresh, countable}
use Rattle.deviation.specs.declared.Deviation.{Deviation}
use Rattle.basicthresholder.specs.Updates.{counts_ok}
use Rattle.predictorcorrector.specs.Lists.{first_countable, list_countable}
use Rattle.predictorcorrector.specs.State.{existing, state_counts_ok}
use Rattle.predictorcorrector.specs.declared.PredictorCorrector.{PredictorCorrector}
use Rattle.layout.specs.Places.{deviation_length, weight_at, sum_squared_at, sum_at, last_score_at, primary_at, secondary_at, third_at, absolute_threshold_at, absolute_score_fraction_at, lower_threshold_at, factor_adjustment_threshold_at, initial_threshold_at, z_factor_at, state_length, auto_adjust_at, base_dimension_at, actual_at, expected_at}
use Rattle.layout.specs.Numbers.{le4, le8, signed, f32_at, f64_at, i32_at, flag_at}
use Rattle.layout.specs.States.{deviation_at, decode_thresholder}
use Rattle.layout.specs.Chain.{entries, empty_list, list_at, decode_state}
use Rattle.layout.specs.Fits.{DeviationFits}
use Rattle.stored_state.specs.Fits.{ListFits, StateFits, NumbersFit}
use Rattle.stored_state.specs.Canonical.{canonical}
use Rattle.stored_state.specs.RoundTrip.{Stored, RoundTrip}
use Rattle.stored_state.proofs.Back.{entries_most, filled_length, filled_other, state_length_lem, state_back}
use Rattle.stored_state.proofs.Again.{le4_small}
use Rattle.stored_state.proofs.Whole.{held, state_again, state_kept}

deviation_decoded : (xs : List ℕ) (p : ℕ) → mag (deviation_at xs p).count < 0x8000_0000 → DeviationFits (deviation_at xs p)
unfolding deviation_at f64_at
deviation_decoded xs p h = record {
  discount = of_bits-fits binary64 (le8 xs p);
  weight = of_bits-fits binary64 (le8 xs (p + weight_at));
  squared = of_bits-fits binary64 (le8 xs (p + sum_squared_at));
  sum = of_bits-fits binary64 (le8 xs (p + sum_at));
  count = h;
}

module _ (xs : List ℕ) (at n : ℕ) (few : n ≤ 16) where
  room_of : length (list_at xs at n) ≡ 16
  unfolding list_at empty_list
  room_of = filled_length (λ (k : ℕ). deviation_at xs (at + deviation_length * k)) n (replicate 16 (fresh zero64))

  empty : (k : ℕ) → Dec (k < 16) → get_or (replicate 16 (fresh zero64)) k (fresh zero64) ≡ fresh zero64
  empty k (yes h) = get_or-replicate {A = Deviation} 16 k (fresh zero64) (fresh zero64) h
  empty k (no h) = get_or-eq_default (replicate {A = Deviation} 16 (fresh zero64)) (fresh zero64) {n = k} (omega arith)

  rest_of : (k : ℕ) → n ≤ k → get_or (list_at xs at n) k (fresh zero64) ≡ fresh zero64
  unfolding list_at empty_list
  rest_of k h = filled_other (λ (k : ℕ). deviation_at xs (at + deviation_length * k)) n (replicate 16 (fresh zero64)) k (fresh zero64) h ∙ empty k (dec_lt k 16)

  list_decoded : ((k : ℕ) → k < n → mag (get_or (list_at xs at n) k (fresh zero64)).count < 0x8000_0000) → ListFits n (list_at xs at n)
  list_decoded c = record {
    room = room_of;
    held = λ (k : ℕ) (h : k < n).
        let e = held xs at n few k h in
        subst DeviationFits (sym e) (deviation_decoded xs (at + deviation_length * k) (subst (λ (d : Deviation). mag d.count < 0x8000_0000) e (c k h)));
    rest = rest_of;
  }

pub decoded_fits : (xs : List ℕ) → NumbersFit (decode_state xs) → StateFits (decode_state xs)
unfolding decode_state decode_thresholder f32_at
decoded_fits xs c =
    let few = entries_most (flag_at xs auto_adjust_at) (le4 xs base_dimension_at) in
    record {
      thresholder = record {
        elasticity = of_bits-fits binary32 (le4 xs 0);
        count = c.count;
        differencing = of_bits-fits binary32 (le4 xs 8);
        last = of_bits-fits binary32 (le4 xs last_score_at);
        primary = deviation_decoded xs primary_at c.primary;
        secondary = deviation_decoded xs secondary_at c.secondary;
        third = deviation_decoded xs third_at c.third;
        absolute = of_bits-fits binary32 (le4 xs absolute_threshold_at);
        fraction = of_bits-fits binary32 (le4 xs absolute_score_fraction_at);
        lower = of_bits-fits binary32 (le4 xs lower_threshold_at);
        adjustment = of_bits-fits binary32 (le4 xs factor_adjustment_threshold_at);
        initial = of_bits-fits binary32 (le4 xs initial_threshold_at);
        factor = of_bits-fits binary32 (le4 xs z_factor_at);
      };
      run = c.run;
      base = c.base;
      actual = list_decoded xs actual_at (entries (flag_at xs auto_adjust_at) (le4 xs base_dimension_at)) few c.actual;
      expected = list_decoded xs expected_at (entries (flag_at xs auto_adjust_at) (le4 xs base_dimension_at)) few c.expected;
    }

-- ---- of bytes
signed_small : (n : ℕ) → n < 0x1_0000_0000 → mag (signed n) < 0x8000_0000
unfolding signed
signed_small n h = go (dec_lt n 0x8000_0000)
  where
    go : Dec (n < 0x8000_0000) → mag (cond (ltb n 0x8000_0000) (pos n) (negsuc (0xffff_ffff - n))) < 0x8000_0000
    go (yes l) = rw (lt-ltb n 0x8000_0000 l) l
    go (no l) = rw (le-ltb n 0x8000_0000 (omega arith)) (omega arith)

module _ (xs : List ℕ) (b : (i : ℕ) → get_or xs i 0 < 256) where
  count_small : (p : ℕ) → mag (i32_at xs p) < 0x8000_0000
  unfolding i32_at
  count_small p = signed_small (le4 xs p) (le4_small xs b p)

  entry_small : (at n : ℕ) → n ≤ 16 → (k : ℕ) → k < n → mag (get_or (list_at xs at n) k (fresh zero64)).count < 0x8000_0000
  unfolding deviation_at
  entry_small at n few k h = subst (λ (d : Deviation). mag d.count < 0x8000_0000) (sym (held xs at n few k h)) (count_small (at + deviation_length * k + 32))

  pub bytes_numbers : NumbersFit (decode_state xs)
  unfolding decode_state decode_thresholder deviation_at
  bytes_numbers =
      let few = entries_most (flag_at xs auto_adjust_at) (le4 xs base_dimension_at) in
      record {
        count = count_small 4;
        primary = count_small 48;
        secondary = count_small 84;
        third = count_small 120;
        run = le4_small xs b 150;
        base = le4_small xs b base_dimension_at;
        actual = entry_small actual_at (entries (flag_at xs auto_adjust_at) (le4 xs base_dimension_at)) few;
        expected = entry_small expected_at (entries (flag_at xs auto_adjust_at) (le4 xs base_dimension_at)) few;
      }

  -- A state of 1,310 bytes is the state of those in canonical form.
  pub canonical_same : length xs ≡ state_length → decode_state (canonical xs) ≡ decode_state xs
  canonical_same size = ap decode_state (sym (state_again xs size b)) ∙ state_back xs (decode_state xs) size (decoded_fits xs bytes_numbers)

-- ---- of a state whose counts take an update
split : (a b : Bool) → (a && b) ≡ true → (a ≡ true) × (b ≡ true)
split true b e = (refl, e)
split false b e = (e, absurd (true≢false (sym e)))

countable_small : (z : ℤ) → countable z ≡ true → mag z < 0x8000_0000
unfolding countable
countable_small (pos n) e = (let h = leb→le n 16777215 (subst T (sym e) tt) in omega arith)
countable_small (negsuc n) e = absurd (true≢false (sym e))

first_small : (n : ℕ) (ds : List Deviation) → first_countable n ds ≡ true → (k : ℕ) → k < n → mag (get_or ds k (fresh zero64)).count < 0x8000_0000
unfolding first_countable
first_small zero ds e k h = absurd (not-suc-le-zero h)
first_small (suc n) [] e k h = omega arith
first_small (suc n) (d ∷ ds) e zero h = countable_small d.count (split (countable d.count) (first_countable n ds) e).0
first_small (suc n) (d ∷ ds) e (suc k) h = first_small n ds (split (countable d.count) (first_countable n ds) e).1 k (omega arith)

listed_small : (auto : Bool) (base : ℕ) (ds : List Deviation) → list_countable (existing auto base) ds ≡ true → (k : ℕ) → k < entries auto base → mag (get_or ds k (fresh zero64)).count < 0x8000_0000
unfolding list_countable entries
listed_small true base ds e k h = first_small (cond (leb base 16) base 16) ds e k h
listed_small false base ds e k h = absurd (not-suc-le-zero h)

pub counted_numbers : (s : PredictorCorrector) → state_counts_ok s ≡ true → s.base_dimension ≤ 16 → NumbersFit s
unfolding state_counts_ok counts_ok
counted_numbers s e h =
    let auto = s.auto_adjust in
    let base = s.base_dimension in
    let t = s.basic_thresholder in
    let c1 = countable t.primary_deviation.count in
    let c2 = countable t.secondary_deviation.count in
    let c3 = countable t.threshold_deviation.count in
    let la = list_countable (existing auto base) s.deviations_actual in
    let le = list_countable (existing auto base) s.deviations_expected in
    let a = split (leb s.run_length 16777215) (counts_ok t && (la && le)) e in
    let b = split (counts_ok t) (la && le) a.1 in
    let c = split la le b.1 in
    let one = split (countable t.count) (c1 && (c2 && c3)) b.0 in
    let two = split c1 (c2 && c3) one.1 in
    let three = split c2 c3 two.1 in
    let run : s.run_length ≤ 16777215 = leb→le s.run_length 16777215 (subst T (sym a.0) tt) in
    record {
      count = countable_small t.count one.0;
      primary = countable_small t.primary_deviation.count two.0;
      secondary = countable_small t.secondary_deviation.count three.0;
      third = countable_small t.threshold_deviation.count three.1;
      run = omega arith;
      base = omega arith;
      actual = listed_small auto base s.deviations_actual c.0;
      expected = listed_small auto base s.deviations_expected c.1;
    }

-- ---- the round trip
pub round_trip : RoundTrip
round_trip = record {
  back = λ (xs : List ℕ) (s : PredictorCorrector) (size : length xs ≡ state_length). state_back xs s size;
  size = λ (xs : List ℕ) (s : PredictorCorrector) (size : length xs ≡ state_length). state_length_lem xs s size;
  fits = λ (xs : List ℕ) (h : Stored xs). decoded_fits xs (bytes_numbers xs h.bytes);
  again = λ (xs : List ℕ) (h : Stored xs). state_again xs h.size h.bytes;
  same = λ (xs : List ℕ) (h : Stored xs). canonical_same xs h.bytes h.size;
  kept = λ (xs : List ℕ) (h : Stored xs). state_kept xs h.size h.bytes;
}
