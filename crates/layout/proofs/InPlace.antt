-- The entries of a stored list changed in place, one after the other: the entry that is read is still as it came, so the loop leaves the changed list. Assumes nothing.
use Rattle.std.proofs.Common.{◌≡◌, ℕ, zero, suc, ◌+◌, ◌-◌, ◌*◌, ◌<◌, ◌≤◌, Bool, true, false, cond, ◌&&◌, T, eqb, ltb, leb, List, [], ◌∷◌, ◌++◌, length, get_or, take, drop, set, replicate, sym, refl, ap, ◌∙◌, not-suc-le-zero, add-zero, add_assoc, add-one, arith, length-set, get_or-drop, get_or-set_other, get_or-set_same, drop-drop, drop_at, eq-eqb, ne_eqb, eqb-true, le-leb, leb-false, leb-true, Ok, Err}
use lib.ListN.{get_or-eq_default}
use Rattle.std.specs.List.{list_all, range_with_len}
use lib.Ieee.{Float, binary32, fits}
use lib.Ieee as Ieee
use borrow.Author.Tests.{eqb-false}
use Rattle.deviation.specs.Const.{zero64}
use Rattle.deviation.specs.Const.{count_limit}
use Rattle.deviation.specs.Statistics as Statistics
use Rattle.deviation.specs.Statistics.{fresh, countable, reset}
use Rattle.deviation.specs.declared.Deviation.{Deviation}
use Rattle.basicthresholder.specs.declared.BasicThresholder.{BasicThresholder}
use Rattle.predictorcorrector.specs.State.{state, with_thresholder, with_run, existing, state_counts_ok, longer_run, run_ended, auto_adjusted, candidate_counted, height_score, update_score, standing}
use Rattle.predictorcorrector.specs.declared.PredictorCorrector.{PredictorCorrector}
use Rattle.predictorcorrector.specs.Lists.{changed, stepped, row_fits, first_countable, list_countable}
use Rattle.predictorcorrector.proofs.Rows.{countable_next, countable_end, changed_at, stepped_at, none_left, row_fits_lem, lists_ok}
use Rattle.types.specs.declared.Refusal.TheVariants.{Range, Length, Count}
use Rattle.types.specs.Codes.{is_height}
use Rattle.types.specs.declared.ScoringStrategy.{ScoringStrategy}
use Rattle.descriptor.specs.declared.Reading.{Reading}
use Rattle.descriptor.specs.Checks.{range_ok, sizes_ok}
use Rattle.descriptor.proofs.Bounds.{sizes}
use Rattle.basicthresholder.specs.Updates.{counts_ok, updated, update, update_both, update_primary, both_counted, primary_counted}
use Rattle.descriptor.proofs.Bounds.{both}
use Rattle.layout.specs.Places.{deviation_length, state_length, auto_adjust_at, run_length_at, base_dimension_at, actual_at, expected_at, list_length}
use Rattle.layout.specs.Numbers.{le4, le8, f64_at, i32_at, flag_at, f32_bytes, f64_bytes, i32_bytes, flag_byte, flag_bytes, bytes8, bytes4, pasted, written_of}
use Rattle.layout.specs.States.{joined, deviation_at, encode_deviation, encode_thresholder, decode_thresholder}
use Rattle.layout.specs.Chain.{state_codes_ok, entries, filled, empty_list, list_at, list_over, encode_head, encode_state_over, decode_state}
use Rattle.predictorcorrector.specs.declared.Standing.{Standing}
use Rattle.layout.specs.InPlace.{reading_answer, run_after, entered, ended, adjusted, counted, kept}
use Rattle.layout.specs.Parts.{most, head, last_of, row_kept_over, Taking, scored, primary_score, second_after}
use Rattle.layout.proofs.Laws.{deviation_length_lem}
use Rattle.layout.proofs.Widened.{narrow_same}
use Rattle.layout.proofs.Pasting.{pasted_length, pasted_split, pasted_onwards, set_next, front}
use Rattle.types.specs.Refusals.{Answer}

-- ---- what is read behind a paste
drop_behind : (xs : List ℕ) (at : ℕ) (ys : List ℕ) (j : ℕ) → at ≤ length xs → at + length ys ≤ j → drop j (pasted xs at ys) ≡ drop j xs
drop_behind xs at ys j h k =
    let m = j - (at + length ys) in
    let e : j ≡ at + length ys + m = omega arith in
    let behind : drop (at + length ys) (pasted xs at ys) ≡ drop (at + length ys) xs =
    ap (drop (at + length ys)) (pasted_split xs at ys) ∙ drop_at (take at xs ++ ys) (drop (at + length ys) xs) (at + length ys) (front xs at ys h) in
    ap (λ (n : ℕ). drop n (pasted xs at ys)) e ∙ sym (drop-drop m (at + length ys) (pasted xs at ys)) ∙ ap (drop m) behind ∙ drop-drop m (at + length ys) xs ∙ ap (λ (n : ℕ). drop n xs) (sym e)

le4_drop : (xs : List ℕ) (j k : ℕ) → le4 (drop j xs) k ≡ le4 xs (j + k)
unfolding le4
le4_drop xs j k = simp (get_or-drop, add_assoc)

le8_drop : (xs : List ℕ) (j k : ℕ) → le8 (drop j xs) k ≡ le8 xs (j + k)
unfolding le8
le8_drop xs j k = simp (le4_drop, add_assoc)

deviation_drop : (xs : List ℕ) (j : ℕ) → deviation_at (drop j xs) 0 ≡ deviation_at xs j
unfolding deviation_at f64_at i32_at
deviation_drop xs j = simp (le8_drop, le4_drop, add-zero)

deviation_behind : (xs : List ℕ) (at : ℕ) (ys : List ℕ) (j : ℕ) → at ≤ length xs → at + length ys ≤ j → deviation_at (pasted xs at ys) j ≡ deviation_at xs j
deviation_behind xs at ys j h k = sym (deviation_drop (pasted xs at ys) j) ∙ ap (λ (l : List ℕ). deviation_at l 0) (drop_behind xs at ys j h k) ∙ deviation_drop xs j

module _ (xs : List ℕ) (at : ℕ) (ds : List Deviation) where
  pub over_length : (n : ℕ) → at + deviation_length * n ≤ length xs → length (list_over xs at ds n) ≡ length xs
  unfolding list_over
  over_length zero h = refl
  over_length (suc n) h =
      let s = over_length n (omega arith) in
      let l = deviation_length_lem (get_or ds n (fresh zero64)) in
      pasted_length (list_over xs at ds n) (at + deviation_length * n) (encode_deviation (get_or ds n (fresh zero64))) (omega arith) ∙ s

  pub over_behind : (n j : ℕ) → at + deviation_length * n ≤ length xs → at + deviation_length * n ≤ j → deviation_at (list_over xs at ds n) j ≡ deviation_at xs j
  unfolding list_over
  over_behind zero j h k = refl
  over_behind (suc n) j h k =
      let s = over_length n (omega arith) in
      let l = deviation_length_lem (get_or ds n (fresh zero64)) in
      deviation_behind (list_over xs at ds n) (at + deviation_length * n) (encode_deviation (get_or ds n (fresh zero64))) j (omega arith) (omega arith) ∙ over_behind n j (omega arith) (omega arith)

-- ---- the entries of a list that is read, and of the list changed
module _ {A : Type 0} (f : ℕ → A) (d : A) where
  pub filled_length : (n : ℕ) (ds : List A) → length (filled f n ds) ≡ length ds
  unfolding filled
  filled_length zero ds = refl
  filled_length (suc n) ds = length-set (filled f n ds) n (f n) ∙ filled_length n ds

  filled_at : (n i : ℕ) (ds : List A) → i < n → n ≤ length ds → get_or (filled f n ds) i d ≡ f i
  unfolding filled
  filled_at zero i ds h k = absurd (not-suc-le-zero h)
  filled_at (suc n) i ds h k = go (eqb i n) refl (λ (a : i < n) (b : n ≤ length ds). filled_at n i ds a b)
    where
      go : (t : Bool) → eqb i n ≡ t → (i < n → n ≤ length ds → get_or (filled f n ds) i d ≡ f i) → get_or (set (filled f n ds) n (f n)) i d ≡ f i
      go true e less =
          let q = eqb-true i n e in
          let s = filled_length n ds in
          ap (λ (m : ℕ). get_or (set (filled f n ds) n (f n)) m d) q ∙ get_or-set_same (filled f n ds) n (f n) d (omega arith) ∙ ap f (sym q)
      go false e less =
          let q = eqb-false i n e in
          get_or-set_other (filled f n ds) n i (f n) d q ∙ less (omega arith) (omega arith)

-- ---- what the entries hold
module _ (xs : List ℕ) (at n : ℕ) where
  pub list_length_lem : length (list_at xs at n) ≡ 16
  unfolding list_at empty_list
  list_length_lem = filled_length (λ (k : ℕ). deviation_at xs (at + deviation_length * k)) (fresh zero64) n (replicate 16 (fresh zero64))

  pub entry : n ≤ 16 → (i : ℕ) → i < n → get_or (list_at xs at n) i (fresh zero64) ≡ deviation_at xs (at + deviation_length * i)
  unfolding list_at empty_list
  entry few i h = filled_at (λ (k : ℕ). deviation_at xs (at + deviation_length * k)) (fresh zero64) n i (replicate 16 (fresh zero64)) h (omega arith)

module _ (xs : List ℕ) (at n : ℕ) (few : n ≤ 16) (i : ℕ) (h : i < n) where
  pub changed_entry : (f : Deviation → Deviation) → get_or (changed f n (list_at xs at n)) i (fresh zero64) ≡ f (deviation_at xs (at + deviation_length * i))
  changed_entry f =
      let s = list_length_lem xs at n in
      changed_at f (fresh zero64) n i (list_at xs at n) h (omega arith) ∙ ap f (entry xs at n few i h)

  pub stepped_entry : (f : Deviation → Float → Deviation) (row : List Float) (x₀ : Float) → n ≤ length row
      → get_or (stepped f n (list_at xs at n) row) i (fresh zero64) ≡ f (deviation_at xs (at + deviation_length * i)) (get_or row i x₀)
  stepped_entry f row x₀ wide =
      let s = list_length_lem xs at n in
      stepped_at f (fresh zero64) x₀ n i (list_at xs at n) row h (omega arith) (omega arith) ∙ ap (λ (d : Deviation). f d (get_or row i x₀)) (entry xs at n few i h)

-- ---- one turn of the loop, for the list ds that it leaves
module _ (xs : List ℕ) (at i : ℕ) (ds : List Deviation) (out : List ℕ) (was : out ≡ list_over xs at ds i) where
  pub still : (d : Deviation) → at + deviation_length * i ≤ length xs → d ≡ deviation_at out (at + deviation_length * i) → d ≡ deviation_at xs (at + deviation_length * i)
  still d h read = read ∙ ap (λ (l : List ℕ). deviation_at l (at + deviation_length * i)) was ∙ over_behind xs at ds i (at + deviation_length * i) h (omega arith)

  pub turn : (after : List ℕ) (v : Deviation) → v ≡ get_or ds i (fresh zero64) → after ≡ pasted out (at + deviation_length * i) (encode_deviation v) → after ≡ list_over xs at ds (i + 1)
  unfolding list_over
  turn after v e put = put ∙ rw (add-one, was, e)

-- ---- a list behind what is put before it
filled_same : {A : Type 0} (f g : ℕ → A) → ((k : ℕ) → f k ≡ g k) → (n : ℕ) (ds : List A) → filled f n ds ≡ filled g n ds
unfolding filled
filled_same f g h zero ds = refl
filled_same f g h (suc n) ds = λ i. set (filled_same f g h n ds i) n (h n i)

list_behind : (xs ys : List ℕ) (at n : ℕ) → ((k : ℕ) → deviation_at ys (at + deviation_length * k) ≡ deviation_at xs (at + deviation_length * k)) → list_at ys at n ≡ list_at xs at n
unfolding list_at
list_behind xs ys at n h = filled_same (λ (k : ℕ). deviation_at ys (at + deviation_length * k)) (λ (k : ℕ). deviation_at xs (at + deviation_length * k)) h n empty_list

most_few : (base : ℕ) → most base ≤ 16
most_few base = go (leb base 16) refl
  where
    go : (t : Bool) → leb base 16 ≡ t → cond t base 16 ≤ 16
    go true e = leb-true base 16 e
    go false e = omega arith

-- ---- both lists, behind what stands before them
module _ (xs ys : List ℕ) (base : ℕ) (long : length xs ≡ state_length) (size : length ys ≡ actual_at) (f g : List Deviation → List Deviation) where
  abbrev over : List ℕ → ℕ → (List Deviation → List Deviation) → List ℕ
  over zs at k = list_over zs at (k (list_at zs at (most base))) (most base)

  headed : length (pasted xs 0 ys) ≡ state_length
  headed = pasted_length xs 0 ys (omega arith) ∙ long

  first : list_at (pasted xs 0 ys) actual_at (most base) ≡ list_at xs actual_at (most base)
  first = list_behind xs (pasted xs 0 ys) actual_at (most base) (λ (k : ℕ). deviation_behind xs 0 ys (actual_at + deviation_length * k) (omega arith) (omega arith))

  second : (ds : List Deviation) → list_at (list_over (pasted xs 0 ys) actual_at ds (most base)) expected_at (most base) ≡ list_at xs expected_at (most base)
  second ds =
      let few = most_few base in
      let l = headed in
      list_behind (pasted xs 0 ys) (list_over (pasted xs 0 ys) actual_at ds (most base)) expected_at (most base) (λ (k : ℕ). over_behind (pasted xs 0 ys) actual_at ds (most base) (expected_at + deviation_length * k) (omega arith) (omega arith))
      ∙ list_behind xs (pasted xs 0 ys) expected_at (most base) (λ (k : ℕ). deviation_behind xs 0 ys (expected_at + deviation_length * k) (omega arith) (omega arith))

  both_over : over (over (pasted xs 0 ys) actual_at f) expected_at g
      ≡ list_over (list_over (pasted xs 0 ys) actual_at (f (list_at xs actual_at (most base))) (most base)) expected_at (g (list_at xs expected_at (most base))) (most base)
  both_over =
      ap (λ (l : List Deviation). list_over (over (pasted xs 0 ys) actual_at f) expected_at (g l) (most base)) (second (f (list_at (pasted xs 0 ys) actual_at (most base))))
      ∙ ap (λ (l : List Deviation). list_over (list_over (pasted xs 0 ys) actual_at (f l) (most base)) expected_at (g (list_at xs expected_at (most base))) (most base)) first

-- ---- what stands before the lists
pub head_pasted : (xs : List ℕ) (t : BasicThresholder) (auto : Bool) (run base : ℕ) → length xs ≡ state_length
    → pasted (pasted (set (pasted xs 0 (encode_thresholder t)) auto_adjust_at (flag_byte auto)) run_length_at (bytes4 run)) base_dimension_at (bytes4 base) ≡ pasted xs 0 (head t auto run base)
unfolding encode_head encode_thresholder encode_deviation joined f32_bytes f64_bytes i32_bytes flag_bytes bytes8 bytes4
head_pasted xs t auto run base h =
    let flag = flag_byte auto in
    let first = encode_thresholder t in
    ap (λ (l : List ℕ). pasted (pasted l run_length_at (bytes4 run)) base_dimension_at (bytes4 base)) (set_next xs 0 first flag (omega arith))
    ∙ pasted_onwards xs (first ++ (flag ∷ [])) (bytes4 run ∷ bytes4 base ∷ []) (omega arith)

pub head_same : (xs : List ℕ) (s : PredictorCorrector) (zs : List ℕ) → zs ≡ pasted xs 0 (head s.basic_thresholder s.auto_adjust s.run_length s.base_dimension) → zs ≡ pasted xs 0 (encode_head s)
unfolding encode_head
head_same xs s zs e = e

-- ---- a state over the bytes
abbrev state_over : List ℕ → PredictorCorrector → List ℕ
state_over xs s = written_of state_length xs (encode_state_over xs s)

head_length : (t : BasicThresholder) (auto : Bool) (run base : ℕ) → length (head t auto run base) ≡ actual_at
unfolding encode_head joined encode_thresholder encode_deviation f32_bytes f64_bytes i32_bytes flag_bytes bytes8 bytes4
head_length t auto run base = refl

module _ (xs : List ℕ) (t : BasicThresholder) (run : ℕ) (long : length xs ≡ state_length) (auto : Bool) (base : ℕ) (flagged : auto ≡ flag_at xs auto_adjust_at) (based : base ≡ le4 xs base_dimension_at) where
  -- Without auto adjust no entry exists.
  none_over : (ds es : List Deviation) → auto ≡ false → pasted xs 0 (head t auto run base) ≡ encode_state_over xs (state t (flag_at xs auto_adjust_at) run (le4 xs base_dimension_at) ds es)
  unfolding encode_state_over encode_head entries list_over
  none_over ds es h = rw (sym flagged, sym based, h)

  all_over : (ds es : List Deviation) → auto ≡ true
      → list_over (list_over (pasted xs 0 (head t auto run base)) actual_at ds (most base)) expected_at es (most base) ≡ encode_state_over xs (state t (flag_at xs auto_adjust_at) run (le4 xs base_dimension_at) ds es)
  unfolding encode_state_over encode_head entries
  all_over ds es h = rw (sym flagged, sym based, h)

  -- The lists changed by f and g, for the bytes after what stands before them and after each.
  lists_over : (f g : List Deviation → List Deviation) (hs ys zs : List ℕ) → auto ≡ true → hs ≡ pasted xs 0 (head t auto run base)
      → ys ≡ list_over hs actual_at (f (list_at hs actual_at (most base))) (most base) → zs ≡ list_over ys expected_at (g (list_at ys expected_at (most base))) (most base)
      → zs ≡ encode_state_over xs (state t (flag_at xs auto_adjust_at) run (le4 xs base_dimension_at) (f (list_at xs actual_at (entries (flag_at xs auto_adjust_at) (le4 xs base_dimension_at)))) (g (list_at xs expected_at (entries (flag_at xs auto_adjust_at) (le4 xs base_dimension_at)))))
  unfolding entries
  lists_over f g hs ys zs h o p q =
      q ∙ ap (λ (l : List ℕ). list_over l expected_at (g (list_at l expected_at (most base))) (most base)) (p ∙ ap (λ (l : List ℕ). list_over l actual_at (f (list_at l actual_at (most base))) (most base)) o)
      ∙ both_over xs (head t auto run base) base long (head_length t auto run base) f g
      ∙ all_over (f (list_at xs actual_at (most base))) (g (list_at xs expected_at (most base))) h
      ∙ rw (sym flagged, sym based, h)

  -- A setter.
  pub kept_none : (zs : List ℕ) → auto ≡ false → zs ≡ pasted xs 0 (head t auto run base) → zs ≡ state_over xs (kept (decode_state xs) t run)
  unfolding written_of decode_state
  kept_none zs h p = rw (eq-eqb (length xs) state_length long) (p ∙ none_over (decode_state xs).deviations_actual (decode_state xs).deviations_expected h)

  pub kept_written : (hs ys zs : List ℕ) → auto ≡ true → hs ≡ pasted xs 0 (head t auto run base) → ys ≡ row_kept_over hs actual_at base → zs ≡ row_kept_over ys expected_at base
      → zs ≡ state_over xs (kept (decode_state xs) t run)
  unfolding written_of decode_state row_kept_over
  kept_written hs ys zs h o p q = rw (eq-eqb (length xs) state_length long) (lists_over (λ (l : List Deviation). l) (λ (l : List Deviation). l) hs ys zs h o p q)

-- ---- what a reading leaves, by its tests
run_ok : (s : PredictorCorrector) → state_counts_ok s ≡ true → leb s.run_length count_limit ≡ true
unfolding state_counts_ok
run_ok s e = (both (leb s.run_length count_limit) _ e).0

module _ (s : PredictorCorrector) (t : BasicThresholder) where
  ended_is : s.auto_adjust ≡ true → s.base_dimension ≤ 16
      → with_run (with_thresholder s t) 0 (changed reset s.base_dimension s.deviations_actual) (changed reset s.base_dimension s.deviations_expected) ≡ ended s t
  unfolding run_ended
  ended_is h few = rw (h, le-leb s.base_dimension 16 few)

  ended_same : s.auto_adjust ≡ false → entered s t false ≡ ended s t
  unfolding run_ended run_after
  ended_same h = rw h

  adjusted_is : (point : List Float) → state_counts_ok s ≡ true → s.base_dimension ≤ 16 → s.base_dimension ≤ length point → s.auto_adjust ≡ true → ltb 0 s.run_length ≡ true
      → with_run (with_thresholder s t) (longer_run s.run_length) (stepped Statistics.counted s.base_dimension s.deviations_actual point) s.deviations_expected
      ≡ adjusted s t point
  unfolding auto_adjusted
  adjusted_is point counts few wide h due =
      let ok = lists_ok s counts few h in
      rw (h, due, run_ok s counts, row_fits_lem s.base_dimension s.deviations_actual point few wide ok.0)

  adjusted_same : (point : List Float) → (s.auto_adjust && ltb 0 s.run_length) ≡ false → entered s t false ≡ adjusted s t point
  unfolding auto_adjusted run_after
  adjusted_same point h =
      rw (sym (none_left s.auto_adjust (ltb 0 s.run_length) (leb s.run_length count_limit && row_fits s.base_dimension s.deviations_actual point) h))

  counted_is : (grows : Bool) (row row_expected : List Float) → state_counts_ok s ≡ true → s.base_dimension ≤ 16 → s.base_dimension ≤ length row → s.base_dimension ≤ length row_expected
      → s.auto_adjust ≡ true
      → with_run (entered s t grows) (run_after grows s.run_length) (stepped Statistics.counted s.base_dimension s.deviations_actual row)
      (stepped Statistics.counted s.base_dimension s.deviations_expected row_expected) ≡ counted s t grows row row_expected
  unfolding candidate_counted
  counted_is grows row row_expected counts few wide wide' h =
      let ok = lists_ok s counts few h in
      rw (h, row_fits_lem s.base_dimension s.deviations_actual row few wide ok.0, row_fits_lem s.base_dimension s.deviations_expected row_expected few wide' ok.1)

  counted_same : (grows : Bool) (row row_expected : List Float) → s.auto_adjust ≡ false → entered s t grows ≡ counted s t grows row row_expected
  unfolding candidate_counted
  counted_same grows row row_expected h = rw h

most_is : (base : ℕ) → base ≤ 16 → base ≡ most base
most_is base few = rw (le-leb base 16 few) refl

module _ (xs : List ℕ) (k : Taking xs) (t : BasicThresholder) (auto : Bool) (flagged : auto ≡ flag_at xs auto_adjust_at) where
  auto_is : (b : Bool) → auto ≡ b → (decode_state xs).auto_adjust ≡ b
  unfolding decode_state
  auto_is b h = sym flagged ∙ h

  few_is : (decode_state xs).base_dimension ≤ 16
  unfolding decode_state
  few_is = k.few

  wide_is : (m : ℕ) → le4 xs base_dimension_at ≤ m → (decode_state xs).base_dimension ≤ m
  unfolding decode_state
  wide_is m h = h

  run_is : (run : ℕ) → run ≡ le4 xs run_length_at → ltb 0 (decode_state xs).run_length ≡ ltb 0 run
  unfolding decode_state
  run_is run e = ap (ltb 0) (sym e)

  pub ended_entered : (zs : List ℕ) → auto ≡ false → zs ≡ encode_state_over xs (entered (decode_state xs) t false) → zs ≡ encode_state_over xs (ended (decode_state xs) t)
  ended_entered zs h o = o ∙ ap (encode_state_over xs) (ended_same (decode_state xs) t (auto_is false h))

  pub adjusted_entered : (run : ℕ) (point : List Float) (zs : List ℕ) → run ≡ le4 xs run_length_at → (auto && ltb 0 run) ≡ false → zs ≡ encode_state_over xs (entered (decode_state xs) t false)
      → zs ≡ encode_state_over xs (adjusted (decode_state xs) t point)
  unfolding decode_state
  adjusted_entered run point zs n h o = o ∙ ap (encode_state_over xs) (adjusted_same (decode_state xs) t point ((λ i. sym flagged i && ltb 0 (sym n i)) ∙ h))

  module _ (base : ℕ) (based : base ≡ le4 xs base_dimension_at) where
    -- The first `base` entries are those that a list has.
    lists_are : (f g : List Deviation → List Deviation) (run : ℕ) (hs ys zs : List ℕ) → auto ≡ true → hs ≡ pasted xs 0 (head t auto run base) → ys ≡ list_over hs actual_at (f (list_at hs actual_at base)) base
        → zs ≡ list_over ys expected_at (g (list_at ys expected_at base)) base
        → zs ≡ encode_state_over xs (state t (flag_at xs auto_adjust_at) run (le4 xs base_dimension_at) (f (list_at xs actual_at (entries (flag_at xs auto_adjust_at) (le4 xs base_dimension_at)))) (g (list_at xs expected_at (entries (flag_at xs auto_adjust_at) (le4 xs base_dimension_at)))))
    lists_are f g run hs ys zs h o p q =
        let few : base ≤ 16 = omega (arith, k.few) in
        let m = most_is base few in
        lists_over xs t run k.long auto base flagged based f g hs ys zs h o (p ∙ ap (λ (n : ℕ). list_over hs actual_at (f (list_at hs actual_at n)) n) m) (q ∙ ap (λ (n : ℕ). list_over ys expected_at (g (list_at ys expected_at n)) n) m)

    abbrev n : ℕ
    n = entries (flag_at xs auto_adjust_at) (le4 xs base_dimension_at)

    module _ (hs ys zs : List ℕ) (h : auto ≡ true) where
      ended_over : hs ≡ pasted xs 0 (head t auto 0 base) → ys ≡ list_over hs actual_at (changed reset base (list_at hs actual_at base)) base → zs ≡ list_over ys expected_at (changed reset base (list_at ys expected_at base)) base
          → zs ≡ encode_state_over xs (with_run (with_thresholder (decode_state xs) t) 0 (changed reset (decode_state xs).base_dimension (decode_state xs).deviations_actual) (changed reset (decode_state xs).base_dimension (decode_state xs).deviations_expected))
      unfolding decode_state
      ended_over o p q =
          lists_are (λ (ds : List Deviation). changed reset base ds) (λ (ds : List Deviation). changed reset base ds) 0 hs ys zs h o p q
          ∙ (λ i. encode_state_over xs (state t (flag_at xs auto_adjust_at) 0 (le4 xs base_dimension_at) (changed reset (based i) (list_at xs actual_at n)) (changed reset (based i) (list_at xs expected_at n))))

      pub ended_lists : hs ≡ pasted xs 0 (head t auto 0 base) → ys ≡ list_over hs actual_at (changed reset base (list_at hs actual_at base)) base → zs ≡ list_over ys expected_at (changed reset base (list_at ys expected_at base)) base
          → zs ≡ encode_state_over xs (ended (decode_state xs) t)
      ended_lists o p q = ended_over o p q ∙ ap (encode_state_over xs) (ended_is (decode_state xs) t (auto_is true h) few_is)

      module _ (run longer : ℕ) (point : List Float) (stored : run ≡ le4 xs run_length_at) (grown : longer ≡ longer_run run) (wide : le4 xs base_dimension_at ≤ length point) where
        adjusted_over : hs ≡ pasted xs 0 (head t auto longer base) → ys ≡ list_over hs actual_at (stepped Statistics.counted base (list_at hs actual_at base) point) base
            → zs ≡ list_over ys expected_at (list_at ys expected_at base) base
            → zs ≡ encode_state_over xs (with_run (with_thresholder (decode_state xs) t) (longer_run (decode_state xs).run_length) (stepped Statistics.counted (decode_state xs).base_dimension (decode_state xs).deviations_actual point) (decode_state xs).deviations_expected)
        unfolding decode_state
        adjusted_over o p q =
            lists_are (λ (ds : List Deviation). stepped Statistics.counted base ds point) (λ (ds : List Deviation). ds) longer hs ys zs h o p q
            ∙ (λ i. encode_state_over xs (state t (flag_at xs auto_adjust_at) ((grown ∙ ap longer_run stored) i) (le4 xs base_dimension_at) (stepped Statistics.counted (based i) (list_at xs actual_at n) point) (list_at xs expected_at n)))

        pub adjusted_lists : ltb 0 run ≡ true → hs ≡ pasted xs 0 (head t auto longer base) → ys ≡ list_over hs actual_at (stepped Statistics.counted base (list_at hs actual_at base) point) base
            → zs ≡ list_over ys expected_at (list_at ys expected_at base) base → zs ≡ encode_state_over xs (adjusted (decode_state xs) t point)
        adjusted_lists due o p q =
            adjusted_over o p q
            ∙ ap (encode_state_over xs) (adjusted_is (decode_state xs) t point k.counts few_is (wide_is (length point) wide) (auto_is true h) (run_is run stored ∙ due))

    module _ (grows : Bool) (run : ℕ) (after : run ≡ run_after grows (le4 xs run_length_at)) where
      pub entered_none : (zs : List ℕ) → auto ≡ false → zs ≡ pasted xs 0 (head t auto run base) → zs ≡ encode_state_over xs (entered (decode_state xs) t grows)
      unfolding decode_state
      entered_none zs h o =
          o ∙ none_over xs t run k.long auto base flagged based (list_at xs actual_at n) (list_at xs expected_at n) h
          ∙ (λ i. encode_state_over xs (state t (flag_at xs auto_adjust_at) (after i) (le4 xs base_dimension_at) (list_at xs actual_at n) (list_at xs expected_at n)))

      pub entered_lists : (hs ys zs : List ℕ) → auto ≡ true → hs ≡ pasted xs 0 (head t auto run base) → ys ≡ list_over hs actual_at (list_at hs actual_at base) base
          → zs ≡ list_over ys expected_at (list_at ys expected_at base) base → zs ≡ encode_state_over xs (entered (decode_state xs) t grows)
      unfolding decode_state
      entered_lists hs ys zs h o p q =
          lists_are (λ (ds : List Deviation). ds) (λ (ds : List Deviation). ds) run hs ys zs h o p q
          ∙ (λ i. encode_state_over xs (state t (flag_at xs auto_adjust_at) (after i) (le4 xs base_dimension_at) (list_at xs actual_at n) (list_at xs expected_at n)))

      module _ (row row_expected : List Float) where
        pub counted_none : (zs : List ℕ) → auto ≡ false → zs ≡ pasted xs 0 (head t auto run base) → zs ≡ encode_state_over xs (counted (decode_state xs) t grows row row_expected)
        counted_none zs h o = entered_none zs h o ∙ ap (encode_state_over xs) (counted_same (decode_state xs) t grows row row_expected (auto_is false h))

        module _ (hs ys zs : List ℕ) (h : auto ≡ true) (o : hs ≡ pasted xs 0 (head t auto run base)) (p : ys ≡ list_over hs actual_at (stepped Statistics.counted base (list_at hs actual_at base) row) base) (q : zs ≡ list_over ys expected_at (stepped Statistics.counted base (list_at ys expected_at base) row_expected) base) where
          counted_over_lem : zs ≡ encode_state_over xs (with_run (entered (decode_state xs) t grows) (run_after grows (decode_state xs).run_length) (stepped Statistics.counted (decode_state xs).base_dimension (decode_state xs).deviations_actual row) (stepped Statistics.counted (decode_state xs).base_dimension (decode_state xs).deviations_expected row_expected))
          unfolding decode_state
          counted_over_lem =
              lists_are (λ (ds : List Deviation). stepped Statistics.counted base ds row) (λ (ds : List Deviation). stepped Statistics.counted base ds row_expected) run hs ys zs h o p q
              ∙ (λ i. encode_state_over xs (state t (flag_at xs auto_adjust_at) (after i) (le4 xs base_dimension_at) (stepped Statistics.counted (based i) (list_at xs actual_at n) row) (stepped Statistics.counted (based i) (list_at xs expected_at n) row_expected)))

          pub counted_lists : le4 xs base_dimension_at ≤ length row → le4 xs base_dimension_at ≤ length row_expected → zs ≡ encode_state_over xs (counted (decode_state xs) t grows row row_expected)
          counted_lists wide wide' =
              counted_over_lem
              ∙ ap (encode_state_over xs) (counted_is (decode_state xs) t grows row row_expected k.counts few_is (wide_is (length row) wide) (wide_is (length row_expected) wide') (auto_is true h))

-- ---- a reading that is not refused: what the bytes hold
pub record Fitting (xs : List ℕ) (r : Reading) (lengths : Bool) : Type 0 where
  pub taking : Taking xs
  pub based : r.base_dimension ≡ le4 xs base_dimension_at
  pub fit : lengths ≡ true

passed : (b a c d e f : Bool) → cond {A = Answer} b (cond a (cond c (cond d (cond e (Ok tt) (Err Count)) (Err Length)) (Err Range)) (cond f (Err Length) (Err Range))) (Err Range) ≡ Ok tt
    → (a ≡ true) × (c ≡ true) × (d ≡ true) × (e ≡ true)
passed true true true true true f h = (refl, refl, refl, refl)
passed true true true true false f h = absurd (let z : ◌≡◌ {A = ℕ} 0 1 = cc in omega arith)
passed true true true false e f h = absurd (let z : ◌≡◌ {A = ℕ} 0 1 = cc in omega arith)
passed true true false d e f h = absurd (let z : ◌≡◌ {A = ℕ} 0 1 = cc in omega arith)
passed true false c d e true h = absurd (let z : ◌≡◌ {A = ℕ} 0 1 = cc in omega arith)
passed true false c d e false h = absurd (let z : ◌≡◌ {A = ℕ} 0 1 = cc in omega arith)
passed false a c d e f h = absurd (let z : ◌≡◌ {A = ℕ} 0 1 = cc in omega arith)

pub fitting : (xs : List ℕ) (r : Reading) (lengths : Bool) → reading_answer xs r lengths ≡ Ok tt → Fitting xs r lengths
unfolding reading_answer range_ok decode_state
fitting xs r lengths h =
    let p = passed (state_codes_ok xs) (eqb (length xs) state_length) (range_ok r.shingle_size r.base_dimension (decode_state xs).base_dimension) lengths (state_counts_ok (decode_state xs)) (sizes_ok r.shingle_size r.base_dimension) h in
    let q = both (sizes_ok r.shingle_size r.base_dimension) (eqb r.base_dimension (le4 xs base_dimension_at)) p.1 in
    let e = eqb-true r.base_dimension (le4 xs base_dimension_at) q.1 in
    let few = (sizes r.shingle_size r.base_dimension q.0).base_most in
    record { taking = record { long = eqb-true (length xs) state_length p.0; few = omega arith; counts = p.3 }; based = e; fit = p.2 }

pub base_is : (xs : List ℕ) → le4 xs base_dimension_at ≡ (decode_state xs).base_dimension
unfolding decode_state
base_is xs = refl

-- ---- update_score by its parts. Its score is an `f32`, so narrowing it changes nothing
module _ (t : BasicThresholder) (ok : counts_ok t ≡ true) (strategy : ScoringStrategy) (score corrected : Float) (last : ScoringStrategy) (before : Float) (single : T (fits binary32 (primary_score strategy score))) where
  abbrev ByParts : Type 0
  ByParts =
      scored t (primary_score strategy score) (primary_score strategy score) (second_after strategy t.secondary_deviation (Ieee.sub binary32 corrected (height_score last before)))
      ≡ update_score t strategy score corrected last before

  by_height : is_height strategy ≡ true → ByParts
  unfolding scored primary_score second_after update_score update update_both updated both_counted
  by_height h = rw (h, ok)

  by_distance : is_height strategy ≡ false → ByParts
  unfolding scored primary_score second_after update_score update_primary updated primary_counted
  by_distance h = rw (h, ok, narrow_same score (rw h at single))

  pub by_parts : ByParts
  by_parts = go (is_height strategy) refl
    where
      go : (b : Bool) → is_height strategy ≡ b → ByParts
      go true e = by_height e
      go false e = by_distance e

-- ---- refusal 6's test on the bytes
module _ (xs : List ℕ) (at n : ℕ) (few : n ≤ 16) (long : at + list_length ≤ length xs) where
  counts_next : (i : ℕ) → i < n → first_countable (n - i) (drop i (list_at xs at n)) ≡ (countable (i32_at xs (at + deviation_length * i + 32)) && first_countable (n - (i + 1)) (drop (i + 1) (list_at xs at n)))
  unfolding deviation_at
  counts_next i h =
      let s = list_length_lem xs at n in
      countable_next n i (list_at xs at n) (fresh zero64) h (omega arith)
      ∙ ap (λ (d : Deviation). countable d.count && first_countable (n - (i + 1)) (drop (i + 1) (list_at xs at n))) (entry xs at n few i h)

  abbrev taken_at : ℕ → Bool
  taken_at k = countable (i32_at xs (at + deviation_length * k + 32))

  counts_from : (m i : ℕ) → i + m ≡ n → list_all taken_at (range_with_len i m) ≡ first_countable (n - i) (drop i (list_at xs at n))
  counts_from zero i e = sym (countable_end n i (list_at xs at n) (omega arith))
  counts_from (suc m) i e = ap (λ (b : Bool). taken_at i && b) (counts_from m (i + 1) (omega arith)) ∙ sym (counts_next i (omega arith))

  pub counts_all : list_all taken_at (range_with_len 0 n) ≡ first_countable n (list_at xs at n)
  counts_all = let whole : n - 0 ≡ n = omega arith in counts_from n 0 (omega arith) ∙ ap (λ (m : ℕ). first_countable m (list_at xs at n)) whole

cap_is : (auto : Bool) (base : ℕ) → cond (leb (existing auto base) 16) (existing auto base) 16 ≡ entries auto base
unfolding entries
cap_is true base = refl
cap_is false base = refl

pub counts_are : (xs : List ℕ) (n run : ℕ) (t : BasicThresholder) → n ≡ entries (flag_at xs auto_adjust_at) (le4 xs base_dimension_at) → run ≡ le4 xs run_length_at → t ≡ decode_thresholder xs
    → (leb run 16777215 && (counts_ok t && (first_countable n (list_at xs actual_at n) && first_countable n (list_at xs expected_at n)))) ≡ state_counts_ok (decode_state xs)
unfolding state_counts_ok decode_state list_countable
counts_are xs n run t q o p =
    (λ i. leb (o i) 16777215 && (counts_ok (p i) && (first_countable (q i) (list_at xs actual_at (q i)) && first_countable (q i) (list_at xs expected_at (q i)))))
    ∙ ap (λ (m : ℕ). leb (le4 xs run_length_at) 16777215 && (counts_ok (decode_thresholder xs) && (first_countable m (list_at xs actual_at (entries (flag_at xs auto_adjust_at) (le4 xs base_dimension_at))) && first_countable m (list_at xs expected_at (entries (flag_at xs auto_adjust_at) (le4 xs base_dimension_at))))))
    (sym (cap_is (flag_at xs auto_adjust_at) (le4 xs base_dimension_at)))

-- ---- the last entries of the two lists
same_entry : {A : Type 0} (n i : ℕ) (x : A) → get_or (replicate n x) i x ≡ x
same_entry zero i x = refl
same_entry (suc n) zero x = refl
same_entry (suc n) (suc i) x = same_entry n i x

module _ (xs : List ℕ) (at : ℕ) where
  none_last : (n base : ℕ) → n ≡ 0 → last_of xs at n base ≡ get_or (list_at xs at n) (base - 1) (fresh zero64)
  unfolding last_of list_at filled empty_list
  none_last n base e = rw e (go (eqb 0 base))
    where
      go : (t : Bool) → cond (t && false) (deviation_at xs (at + deviation_length * (0 - 1))) (fresh zero64) ≡ get_or (replicate 16 (fresh zero64)) (base - 1) (fresh zero64)
      go true = sym (same_entry 16 (base - 1) (fresh zero64))
      go false = sym (same_entry 16 (base - 1) (fresh zero64))

  few_last : (base : ℕ) → base ≤ 16 → last_of xs at base base ≡ get_or (list_at xs at base) (base - 1) (fresh zero64)
  unfolding last_of
  few_last base few = go (leb 1 base) refl
    where
      go : (t : Bool) → leb 1 base ≡ t → cond (eqb base base && leb 1 base) (deviation_at xs (at + deviation_length * (base - 1))) (fresh zero64) ≡ get_or (list_at xs at base) (base - 1) (fresh zero64)
      go true e = let h = leb-true 1 base e in rw (eq-eqb base base refl, e) (sym (entry xs at base few (base - 1) (omega arith)))
      go false e = let h = leb-false 1 base e in none_last base base (omega arith)

  over_last : (base : ℕ) → 16 < base → last_of xs at 16 base ≡ get_or (list_at xs at 16) (base - 1) (fresh zero64)
  unfolding last_of
  over_last base h =
      let l = list_length_lem xs at 16 in
      rw (ne_eqb 16 base (omega arith)) (sym (get_or-eq_default (list_at xs at 16) (fresh zero64) (omega arith)))

  pub last_is : (auto : Bool) (base : ℕ) → last_of xs at (entries auto base) base ≡ get_or (list_at xs at (entries auto base)) (base - 1) (fresh zero64)
  unfolding entries
  last_is false base = none_last 0 base refl
  last_is true base = go (leb base 16) refl
    where
      go : (t : Bool) → leb base 16 ≡ t → last_of xs at (cond t base 16) base ≡ get_or (list_at xs at (cond t base 16)) (base - 1) (fresh zero64)
      go true e = few_last base (leb-true base 16 e)
      go false e = over_last base (leb-false base 16 e)

pub standing_is : (xs : List ℕ) (auto : Bool) (run base n : ℕ) (t : BasicThresholder) (ok : Bool) (a e : Deviation) → auto ≡ flag_at xs auto_adjust_at → run ≡ le4 xs run_length_at → base ≡ le4 xs base_dimension_at
    → n ≡ entries auto base → t ≡ decode_thresholder xs → ok ≡ state_counts_ok (decode_state xs) → a ≡ last_of xs actual_at n base → e ≡ last_of xs expected_at n base
    → ◌≡◌ {A = Standing} (record { basic_thresholder = t; auto_adjust = auto; run_length = run; base_dimension = base; counts_ok = ok; last_actual = a; last_expected = e }) (standing (decode_state xs))
unfolding standing decode_state
standing_is xs auto run base n t ok a e pauto prun pbase pn pt pok pa pe = λ i. record {
  basic_thresholder = pt i;
  auto_adjust = pauto i;
  run_length = prun i;
  base_dimension = pbase i;
  counts_ok = pok i;
  last_actual = last actual_at a pa i;
  last_expected = last expected_at e pe i;
}
  where
    last : (at : ℕ) (d : Deviation) → d ≡ last_of xs at n base → d ≡ get_or (list_at xs at (entries (flag_at xs auto_adjust_at) (le4 xs base_dimension_at))) (le4 xs base_dimension_at - 1) (fresh zero64)
    last at d p = p ∙ (λ i. last_of xs at (pn i) base) ∙ (λ i. last_of xs at (entries (pauto i) (pbase i)) (pbase i)) ∙ last_is xs at (flag_at xs auto_adjust_at) (le4 xs base_dimension_at)
