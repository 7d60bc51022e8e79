-- The chain's state comes back from its bytes, put over any 1,310. Assumes nothing.
use mathlib.Core.Path.{◌≡◌, refl, sym, ap, ap₂, ◌∙◌}
use mathlib.Core.Bool.{Bool, true, false, cond}
use mathlib.Core.List.{List}
use Prim.Native.Nat.{ℕ, zero, suc, ◌+◌, ◌*◌, ◌<◌, ◌≤◌, zero-le}
use native.Mathlib.Nat.{not-suc-le-zero}
use native.Mathlib.Decide.{dec_lt}
use native.Mathlib.Omega.{arith}
use lib.Dec.{leb, leb→le, T}
use lib.ListN.{length, get_or, set, replicate, length-set, get_or-replicate}
use lib.Seq.{ext_get_or, get_or-set_same, get_or-set_other}
use Rattle.deviation.specs.Const.{zero64}
use Rattle.deviation.specs.Statistics.{fresh}
use Rattle.deviation.specs.declared.Deviation.{Deviation}
use Rattle.predictorcorrector.specs.State.{state}
use Rattle.predictorcorrector.specs.declared.PredictorCorrector.{PredictorCorrector}
use Rattle.layout.specs.Places.{deviation_length, thresholder_length, state_length, auto_adjust_at, run_length_at, base_dimension_at, actual_at, expected_at}
use Rattle.layout.specs.Numbers.{le4, bytes4, bytes8, flag_at, f32_bytes, f64_bytes, i32_bytes, flag_bytes, pasted}
use Rattle.layout.specs.States.{joined, deviation_at, encode_deviation, decode_thresholder, encode_thresholder}
use Rattle.layout.specs.Chain.{entries, filled, empty_list, list_at, decode_state, list_over, encode_head, encode_state_over}
use Rattle.layout.specs.Fits.{DeviationFits, ThresholderFits}
use Rattle.layout.proofs.Laws.{deviation_length_lem, thresholder_length_lem, deviation_back, thresholder_back, le4_back, flag_back}
use Rattle.layout.proofs.Pasting.{pasted_length}
use Rattle.stored_state.specs.Fits.{ListFits, StateFits}
use Rattle.stored_state.proofs.Windows.{Alike, part, front, then, le4_alike, flag_alike, deviation_alike, thresholder_alike, joined_front, put, before, behind}

pub entries_most : (auto : Bool) (base : ℕ) → entries auto base ≤ 16
unfolding entries
entries_most false base = zero-le
entries_most true base = go (leb base 16) (leb→le base 16)
  where
    go : (c : Bool) → (T c → base ≤ 16) → cond c base 16 ≤ 16
    go true h = h tt
    go false h = omega arith

-- ---- a list put down
module _ (xs : List ℕ) (at : ℕ) (ds : List Deviation) where
  pub over_length : (n : ℕ) → at + deviation_length * n ≤ length xs → length (list_over xs at ds n) ≡ length xs
  unfolding list_over
  over_length zero h = refl
  over_length (suc n) h =
      let l = over_length n (omega arith) in
      let d = deviation_length_lem (get_or ds n (fresh zero64)) in
      pasted_length (list_over xs at ds n) (at + deviation_length * n) (encode_deviation (get_or ds n (fresh zero64))) (omega arith) ∙ l

  pub over_before : (n : ℕ) → at + deviation_length * n ≤ length xs → (i m : ℕ) → i + m ≤ at → Alike (list_over xs at ds n) i xs i m
  unfolding list_over
  over_before zero h i m b = record { at = λ (k : ℕ) (l : k < m). refl }
  over_before (suc n) h i m b =
      let l = over_length n (omega arith) in
      then (before (list_over xs at ds n) (at + deviation_length * n) (encode_deviation (get_or ds n (fresh zero64))) (omega arith) i m (omega arith)) (over_before n (omega arith) i m b)

  pub over_behind : (n : ℕ) → at + deviation_length * n ≤ length xs → (i m : ℕ) → at + deviation_length * n ≤ i → Alike (list_over xs at ds n) i xs i m
  unfolding list_over
  over_behind zero h i m b = record { at = λ (k : ℕ) (l : k < m). refl }
  over_behind (suc n) h i m b =
      let l = over_length n (omega arith) in
      let d = deviation_length_lem (get_or ds n (fresh zero64)) in
      then (behind (list_over xs at ds n) (at + deviation_length * n) (encode_deviation (get_or ds n (fresh zero64))) (omega arith) i m (omega arith)) (over_behind n (omega arith) i m (omega arith))

  over_entry : (n : ℕ) → at + deviation_length * n ≤ length xs → (k : ℕ) → k < n → Alike (list_over xs at ds n) (at + deviation_length * k) (encode_deviation (get_or ds k (fresh zero64))) 0 36
  unfolding list_over
  over_entry zero h k b = absurd (not-suc-le-zero b)
  over_entry (suc n) h k b = go (λ (l : k < n). over_entry n (omega arith) k l) (dec_lt k n)
    where
      whole : List ℕ
      whole = pasted (list_over xs at ds n) (at + deviation_length * n) (encode_deviation (get_or ds n (fresh zero64)))

      size : length (list_over xs at ds n) ≡ length xs
      size = over_length n (omega arith)

      newest : Alike whole (at + deviation_length * n) (encode_deviation (get_or ds n (fresh zero64))) 0 36
      newest =
          let d = deviation_length_lem (get_or ds n (fresh zero64)) in
          front (put (list_over xs at ds n) (at + deviation_length * n) (encode_deviation (get_or ds n (fresh zero64))) (omega (arith, size))) 36 (omega arith)

      go : (k < n → Alike (list_over xs at ds n) (at + deviation_length * k) (encode_deviation (get_or ds k (fresh zero64))) 0 36) → Dec (k < n) → Alike whole (at + deviation_length * k) (encode_deviation (get_or ds k (fresh zero64))) 0 36
      go f (yes l) =
          then (before (list_over xs at ds n) (at + deviation_length * n) (encode_deviation (get_or ds n (fresh zero64))) (omega (arith, size)) (at + deviation_length * k) 36 (omega arith)) (f l)
      go f (no l) =
          let e : k ≡ n = omega arith in
          rw e newest

  pub over_back : (n : ℕ) → at + deviation_length * n ≤ length xs → (k : ℕ) → k < n → DeviationFits (get_or ds k (fresh zero64)) → deviation_at (list_over xs at ds n) (at + deviation_length * k) ≡ get_or ds k (fresh zero64)
  over_back n h k b f = deviation_alike (over_entry n h k b) ∙ deviation_back (get_or ds k (fresh zero64)) f

-- ---- a list read
module _ {A : Type 0} (f : ℕ → A) where
  pub filled_length : (n : ℕ) (ds : List A) → length (filled f n ds) ≡ length ds
  unfolding filled
  filled_length zero ds = refl
  filled_length (suc n) ds = length-set (filled f n ds) n (f n) ∙ filled_length n ds

  pub filled_other : (n : ℕ) (ds : List A) (k : ℕ) (z : A) → n ≤ k → get_or (filled f n ds) k z ≡ get_or ds k z
  unfolding filled
  filled_other zero ds k z h = refl
  filled_other (suc n) ds k z h = get_or-set_other (filled f n ds) n k (f n) z (omega arith) ∙ filled_other n ds k z (omega arith)

  pub filled_held : (n : ℕ) (ds : List A) (k : ℕ) (z : A) → n ≤ length ds → k < n → get_or (filled f n ds) k z ≡ f k
  unfolding filled
  filled_held zero ds k z l h = absurd (not-suc-le-zero h)
  filled_held (suc n) ds k z l h = go (λ (b : k < n). filled_held n ds k z (omega arith) b) (dec_lt k n)
    where
      go : (k < n → get_or (filled f n ds) k z ≡ f k) → Dec (k < n) → get_or (set (filled f n ds) n (f n)) k z ≡ f k
      go q (yes b) = get_or-set_other (filled f n ds) n k (f n) z (omega arith) ∙ q b
      go q (no b) =
          let e : k ≡ n = omega arith in
          rw e (get_or-set_same (filled f n ds) n (f n) z (omega (arith, filled_length n ds)))

pub list_is : (f : ℕ → Deviation) (n : ℕ) (ds : List Deviation) → n ≤ 16 → length ds ≡ 16 → ((k : ℕ) → k < n → f k ≡ get_or ds k (fresh zero64))
    → ((k : ℕ) → n ≤ k → get_or ds k (fresh zero64) ≡ fresh zero64) → filled f n empty_list ≡ ds
unfolding empty_list
list_is f n ds m l held rest =
    ext_get_or (fresh zero64) (filled f n none) ds (size ∙ sym l) (λ (k : ℕ) (h : k < length (filled f n none)). go k (omega (arith, size)) (dec_lt k n))
  where
    none : List Deviation
    none = replicate 16 (fresh zero64)

    size : length (filled f n none) ≡ 16
    size = filled_length f n none

    go : (k : ℕ) → k < 16 → Dec (k < n) → get_or (filled f n none) k (fresh zero64) ≡ get_or ds k (fresh zero64)
    go k b (yes h) = filled_held f n none k (fresh zero64) m h ∙ held k h
    go k b (no h) =
        filled_other f n none k (fresh zero64) (omega arith) ∙ get_or-replicate {A = Deviation} 16 k (fresh zero64) (fresh zero64) b ∙ sym (rest k (omega arith))

-- ---- a state put down
pub head_length : (s : PredictorCorrector) → length (encode_head s) ≡ actual_at
unfolding encode_head encode_thresholder encode_deviation joined f32_bytes f64_bytes i32_bytes flag_bytes bytes8 bytes4
head_length s = refl

head_auto : (s : PredictorCorrector) → flag_at (encode_head s) auto_adjust_at ≡ s.auto_adjust
unfolding encode_head encode_thresholder encode_deviation joined f32_bytes f64_bytes i32_bytes flag_bytes bytes8 bytes4 flag_at
head_auto s = flag_back s.auto_adjust

head_run : (s : PredictorCorrector) → s.run_length < 0x1_0000_0000 → le4 (encode_head s) run_length_at ≡ s.run_length
unfolding encode_head encode_thresholder encode_deviation joined f32_bytes f64_bytes i32_bytes flag_bytes bytes8 bytes4 le4
head_run s h = le4_back s.run_length h

head_base : (s : PredictorCorrector) → s.base_dimension < 0x1_0000_0000 → le4 (encode_head s) base_dimension_at ≡ s.base_dimension
unfolding encode_head encode_thresholder encode_deviation joined f32_bytes f64_bytes i32_bytes flag_bytes bytes8 bytes4 le4
head_base s h = le4_back s.base_dimension h

module _ (xs : List ℕ) (s : PredictorCorrector) (size : length xs ≡ state_length) where
  abbrev pub n : ℕ
  n = entries s.auto_adjust s.base_dimension

  few : n ≤ 16
  few = entries_most s.auto_adjust s.base_dimension

  abbrev head : List ℕ
  head = pasted xs 0 (encode_head s)

  head_size : length head ≡ state_length
  head_size = pasted_length xs 0 (encode_head s) (omega (arith, head_length s)) ∙ size

  abbrev one : List ℕ
  one = list_over head actual_at s.deviations_actual n

  one_size : length one ≡ state_length
  one_size = over_length head actual_at s.deviations_actual n (omega (arith, head_size, few)) ∙ head_size

  pub state_length_lem : length (encode_state_over xs s) ≡ state_length
  unfolding encode_state_over
  state_length_lem = over_length one expected_at s.deviations_expected n (omega (arith, one_size, few)) ∙ one_size

  -- Its parts: what stands before the lists, the two lists, and what stays.
  pub head_put : Alike (encode_state_over xs s) 0 (encode_head s) 0 actual_at
  unfolding encode_state_over
  head_put =
      then (over_before one expected_at s.deviations_expected n (omega (arith, one_size, few)) 0 actual_at (omega arith))
      (then (over_before head actual_at s.deviations_actual n (omega (arith, head_size, few)) 0 actual_at (omega arith))
      (front (put xs 0 (encode_head s) (omega arith)) actual_at (omega (arith, head_length s))))

  pub actual_put : (k : ℕ) → k < n → Alike (encode_state_over xs s) (actual_at + deviation_length * k) (encode_deviation (get_or s.deviations_actual k (fresh zero64))) 0 36
  unfolding encode_state_over
  actual_put k h =
      then (over_before one expected_at s.deviations_expected n (omega (arith, one_size, few)) (actual_at + deviation_length * k) 36 (omega (arith, few)))
      (over_entry head actual_at s.deviations_actual n (omega (arith, head_size, few)) k h)

  pub expected_put : (k : ℕ) → k < n → Alike (encode_state_over xs s) (expected_at + deviation_length * k) (encode_deviation (get_or s.deviations_expected k (fresh zero64))) 0 36
  unfolding encode_state_over
  expected_put k h = over_entry one expected_at s.deviations_expected n (omega (arith, one_size, few)) k h

  -- ---- what is read from it
  pub thresholder_read_lem : ThresholderFits s.basic_thresholder → decode_thresholder (encode_state_over xs s) ≡ s.basic_thresholder
  unfolding encode_head joined
  thresholder_read_lem f =
      let t = encode_thresholder s.basic_thresholder in
      thresholder_alike (encode_state_over xs s) t
      (then (front head_put thresholder_length (omega arith)) (front (joined_front t _) thresholder_length (omega (arith, thresholder_length_lem s.basic_thresholder))))
      ∙ thresholder_back s.basic_thresholder f

  pub auto_read : flag_at (encode_state_over xs s) auto_adjust_at ≡ s.auto_adjust
  auto_read = flag_alike (part head_put auto_adjust_at 1 (omega arith)) ∙ head_auto s

  pub run_read : s.run_length < 0x1_0000_0000 → le4 (encode_state_over xs s) run_length_at ≡ s.run_length
  run_read h = le4_alike (part head_put run_length_at 4 (omega arith)) ∙ head_run s h

  pub base_read : s.base_dimension < 0x1_0000_0000 → le4 (encode_state_over xs s) base_dimension_at ≡ s.base_dimension
  base_read h = le4_alike (part head_put base_dimension_at 4 (omega arith)) ∙ head_base s h

  actual_read : ListFits n s.deviations_actual → list_at (encode_state_over xs s) actual_at n ≡ s.deviations_actual
  unfolding list_at
  actual_read f =
      list_is _ n s.deviations_actual few f.room
      (λ (k : ℕ) (h : k < n). deviation_alike (actual_put k h) ∙ deviation_back (get_or s.deviations_actual k (fresh zero64)) (f.held k h))
      f.rest

  expected_read : ListFits n s.deviations_expected → list_at (encode_state_over xs s) expected_at n ≡ s.deviations_expected
  unfolding list_at
  expected_read f =
      list_is _ n s.deviations_expected few f.room
      (λ (k : ℕ) (h : k < n). deviation_alike (expected_put k h) ∙ deviation_back (get_or s.deviations_expected k (fresh zero64)) (f.held k h))
      f.rest

  -- The round trip.
  pub state_back : StateFits s → decode_state (encode_state_over xs s) ≡ s
  unfolding decode_state
  state_back f =
      let run = run_read f.run in
      let base = base_read f.base in
      let many : entries (flag_at (encode_state_over xs s) auto_adjust_at) (le4 (encode_state_over xs s) base_dimension_at) ≡ n = ap₂ entries auto_read base in
      let actual = ap (list_at (encode_state_over xs s) actual_at) many ∙ actual_read f.actual in
      let expected = ap (list_at (encode_state_over xs s) expected_at) many ∙ expected_read f.expected in
      let thresholder = thresholder_read_lem f.thresholder in
      λ i. state (thresholder i) (auto_read i) (run i) (base i) (actual i) (expected i)
