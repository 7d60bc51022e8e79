-- A decoded state written back over its own bytes: the bytes in canonical form. Assumes nothing.
use mathlib.Core.Path.{◌≡◌, refl, sym, ap, ap₂, ◌∙◌}
use mathlib.Core.List.{List, [], ◌∷◌}
use Prim.Native.Nat.{ℕ, zero, suc, ◌+◌, ◌*◌, ◌<◌, ◌≤◌}
use native.Mathlib.Omega.{arith}
use lib.ListN.{length, get_or, replicate, length-append}
use Rattle.deviation.specs.Const.{zero64}
use Rattle.deviation.specs.Statistics.{fresh}
use Rattle.deviation.specs.declared.Deviation.{Deviation}
use Rattle.layout.specs.Places.{deviation_length, state_length, auto_adjust_at, base_dimension_at, actual_at, expected_at}
use Rattle.layout.specs.Numbers.{le4, bytes4, bytes8, f32_at, i32_at, flag_at, f32_bytes, f64_bytes, i32_bytes, flag_bytes, pasted}
use Rattle.layout.specs.States.{joined, deviation_at, encode_deviation, decode_thresholder, encode_thresholder}
use Rattle.layout.specs.Chain.{entries, empty_list, list_at, decode_state, list_over, encode_head, encode_state_over}
use Rattle.layout.proofs.Laws.{deviation_length_lem}
use Rattle.layout.proofs.Pasting.{pasted_length, pasted_all, pasted_all_lem}
use Rattle.stored_state.specs.Canonical.{Field, single, count, number, flag, statistic, width, canonical_field, canonical_fields, head_fields, canonical_statistic, canonical_list, canonical, PlainStatistic, PlainField, PlainAll, Plain}
use Rattle.stored_state.proofs.Windows.{Alike, part, front, then, behind}
use Rattle.stored_state.proofs.Back.{entries_most, filled_held, over_length, over_behind, head_length}
use Rattle.stored_state.proofs.Again.{put_on, single_put, number_put, count_put, flag_put, statistic_put}

-- The bytes that a decoded field is written in.
abbrev bytes_of : List ℕ → ℕ → Field → List ℕ
bytes_of xs p single = f32_bytes (f32_at xs p)
bytes_of xs p count = i32_bytes (i32_at xs p)
bytes_of xs p number = bytes4 (le4 xs p)
bytes_of xs p flag = flag_bytes (flag_at xs p)
bytes_of xs p statistic = encode_deviation (deviation_at xs p)

abbrev all_of : List ℕ → ℕ → List Field → List (List ℕ)
all_of xs p [] = []
all_of xs p (f ∷ fs) = bytes_of xs p f ∷ all_of xs (p + width f) fs

abbrev span : List Field → ℕ
span [] = 0
span (f ∷ fs) = width f + span fs

field_long : (xs : List ℕ) (p : ℕ) (f : Field) → length (bytes_of xs p f) ≡ width f
unfolding f32_bytes i32_bytes flag_bytes bytes4
field_long xs p single = refl
field_long xs p count = refl
field_long xs p number = refl
field_long xs p flag = refl
field_long xs p statistic = deviation_length_lem (deviation_at xs p)

all_long : (xs : List ℕ) (fs : List Field) (p : ℕ) → length (joined (all_of xs p fs)) ≡ span fs
unfolding joined
all_long xs [] p = refl
all_long xs (f ∷ fs) p = length-append (bytes_of xs p f) (joined (all_of xs (p + width f) fs)) ∙ ap₂ (λ (a b : ℕ). a + b) (field_long xs p f) (all_long xs fs (p + width f))

module _ (xs : List ℕ) (b : (i : ℕ) → get_or xs i 0 < 256) where
  field_put : (cur : List ℕ) (p : ℕ) (f : Field) → p + width f ≤ length cur → Alike cur p xs p (width f) → pasted cur p (bytes_of xs p f) ≡ canonical_field f cur p
  field_put cur p single h w = single_put xs b cur p h w
  field_put cur p count h w = count_put xs b cur p h w
  field_put cur p number h w = number_put xs b cur p h w
  field_put cur p flag h w = flag_put xs b cur p h w
  field_put cur p statistic h w = statistic_put xs b cur p h w

  fields_put : (fs : List Field) (cur : List ℕ) (p : ℕ) → p + span fs ≤ length cur → Alike cur p xs p (span fs) → pasted_all cur p (all_of xs p fs) ≡ canonical_fields cur p fs
  fields_put [] cur p h w = refl
  fields_put (f ∷ fs) cur p h w =
      let c = bytes_of xs p f in
      let l : length c ≡ width f = field_long xs p f in
      let m = put_on xs cur p c (p + width f) (span fs) (omega arith) (omega arith) (part w (width f) (span fs) (omega arith)) in
      let size : length (pasted cur p c) ≡ length cur = m.0 in
      ap (λ (q : ℕ). pasted_all (pasted cur p c) q (all_of xs (p + width f) fs)) (omega arith)
      ∙ fields_put fs (pasted cur p c) (p + width f) (omega arith) m.1
      ∙ ap (λ (o : List ℕ). canonical_fields o (p + width f) fs) (field_put cur p f (omega arith) (front w (width f) (omega arith)))

  list_put : (cur : List ℕ) (at : ℕ) (ds : List Deviation) (n : ℕ) → ((k : ℕ) → k < n → get_or ds k (fresh zero64) ≡ deviation_at xs (at + 36 * k))
      → at + deviation_length * n ≤ length cur → Alike cur at xs at (deviation_length * n) → list_over cur at ds n ≡ canonical_list cur at n
  unfolding list_over
  list_put cur at ds zero e h w = refl
  list_put cur at ds (suc n) e h w =
      let l = list_over cur at ds n in
      let size : length l ≡ length cur = over_length cur at ds n (omega arith) in
      let ahead : Alike l (at + deviation_length * n) xs (at + deviation_length * n) 36 =
      then (over_behind cur at ds n (omega arith) (at + deviation_length * n) 36 (omega arith)) (part w (deviation_length * n) 36 (omega arith)) in
      ap (λ (d : Deviation). pasted l (at + deviation_length * n) (encode_deviation d)) (e n (omega arith))
      ∙ statistic_put xs b l (at + deviation_length * n) (omega arith) ahead
      ∙ ap (λ (o : List ℕ). canonical_statistic o (at + deviation_length * n)) (list_put cur at ds n (λ (k : ℕ) (m : k < n). e k (omega arith)) (omega arith) (front w (deviation_length * n) (omega arith)))

head_is : (xs : List ℕ) → encode_head (decode_state xs) ≡ joined (all_of xs 0 head_fields)
unfolding encode_head decode_state decode_thresholder encode_thresholder encode_deviation joined f32_bytes f64_bytes i32_bytes flag_bytes bytes8 bytes4
head_is xs = refl

pub held : (xs : List ℕ) (at n : ℕ) → n ≤ 16 → (k : ℕ) → k < n → get_or (list_at xs at n) k (fresh zero64) ≡ deviation_at xs (at + 36 * k)
unfolding list_at empty_list
held xs at n m k h = filled_held (λ (k : ℕ). deviation_at xs (at + 36 * k)) n (replicate 16 (fresh zero64)) k (fresh zero64) m h

-- Encoding over bytes the state decoded from them.
pub state_again : (xs : List ℕ) → length xs ≡ state_length → ((i : ℕ) → get_or xs i 0 < 256) → encode_state_over xs (decode_state xs) ≡ canonical xs
unfolding encode_state_over decode_state canonical
state_again xs size b =
    let n = entries (flag_at xs auto_adjust_at) (le4 xs base_dimension_at) in
    let few : n ≤ 16 = entries_most (flag_at xs auto_adjust_at) (le4 xs base_dimension_at) in
    let head = pasted xs 0 (encode_head (decode_state xs)) in
    let long : length (encode_head (decode_state xs)) ≡ actual_at = head_length (decode_state xs) in
    let head_size : length head ≡ state_length = pasted_length xs 0 (encode_head (decode_state xs)) (omega arith) ∙ size in
    let head-canonical : head ≡ canonical_fields xs 0 head_fields =
    ap (pasted xs 0) (head_is xs) ∙ sym (pasted_all_lem xs 0 (all_of xs 0 head_fields) (omega (arith, all_long xs head_fields 0)))
    ∙ fields_put xs b head_fields xs 0 (omega arith) (record { at = λ (k : ℕ) (l : k < actual_at). refl }) in
    let rest : (i m : ℕ) → actual_at ≤ i → Alike head i xs i m = λ (i m : ℕ) (h : actual_at ≤ i). behind xs 0 (encode_head (decode_state xs)) (omega arith) i m (omega arith) in
    let one = list_over head actual_at (list_at xs actual_at n) n in
    let one_size : length one ≡ state_length = over_length head actual_at (list_at xs actual_at n) n (omega arith) ∙ head_size in
    let one-canonical : one ≡ canonical_list head actual_at n = list_put xs b head actual_at (list_at xs actual_at n) n (held xs actual_at n few) (omega arith) (rest actual_at (deviation_length * n) (omega arith)) in
    let further : Alike one expected_at xs expected_at (deviation_length * n) = then (over_behind head actual_at (list_at xs actual_at n) n (omega arith) expected_at (deviation_length * n) (omega arith)) (rest expected_at (deviation_length * n) (omega arith)) in
    list_put xs b one expected_at (list_at xs expected_at n) n (held xs expected_at n few) (omega arith) further
    ∙ ap (λ (o : List ℕ). canonical_list o expected_at n) (one-canonical ∙ ap (λ (o : List ℕ). canonical_list o actual_at n) head-canonical)

-- ---- nothing to change
plain_statistic : (xs : List ℕ) (p : ℕ) → PlainStatistic xs p → canonical_statistic xs p ≡ xs
plain_statistic xs p h = rw (h.0, h.1.0, h.1.1.0, h.1.1.1) refl

plain_field : (f : Field) (xs : List ℕ) (p : ℕ) → PlainField f xs p → canonical_field f xs p ≡ xs
plain_field single xs p h = rw h refl
plain_field count xs p h = refl
plain_field number xs p h = refl
plain_field flag xs p h = rw h refl
plain_field statistic xs p h = plain_statistic xs p h

plain_all : (fs : List Field) (xs : List ℕ) (p : ℕ) → PlainAll xs p fs → canonical_fields xs p fs ≡ xs
plain_all [] xs p h = refl
plain_all (f ∷ fs) xs p h = ap (λ (o : List ℕ). canonical_fields o (p + width f) fs) (plain_field f xs p h.0) ∙ plain_all fs xs (p + width f) h.1

plain_list : (n : ℕ) (xs : List ℕ) (at : ℕ) → ((k : ℕ) → k < n → PlainStatistic xs (at + 36 * k)) → canonical_list xs at n ≡ xs
plain_list zero xs at h = refl
plain_list (suc n) xs at h =
    ap (λ (o : List ℕ). canonical_statistic o (at + deviation_length * n)) (plain_list n xs at (λ (k : ℕ) (l : k < n). h k (omega arith))) ∙ plain_statistic xs (at + deviation_length * n) (h n (omega arith))

pub plain_kept : (xs : List ℕ) → Plain xs → canonical xs ≡ xs
unfolding canonical
plain_kept xs h =
    let n = entries (flag_at xs auto_adjust_at) (le4 xs base_dimension_at) in
    ap (λ (o : List ℕ). canonical_list (canonical_list o actual_at n) expected_at n) (plain_all head_fields xs 0 h.head)
    ∙ ap (λ (o : List ℕ). canonical_list o expected_at n) (plain_list n xs actual_at h.actual) ∙ plain_list n xs expected_at h.expected

-- Without a NaN no byte changes.
pub state_kept : (xs : List ℕ) → length xs ≡ state_length → ((i : ℕ) → get_or xs i 0 < 256) → Plain xs → encode_state_over xs (decode_state xs) ≡ xs
state_kept xs size b h = state_again xs size b ∙ plain_kept xs h
