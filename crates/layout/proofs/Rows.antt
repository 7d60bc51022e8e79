-- One turn more of the loops over bytes and over the entries of a list. Assumes nothing.
use Rattle.std.proofs.Common.{◌≡◌, ℕ, ◌+◌, ◌*◌, ◌<◌, List, length, get_or, set, ◌∙◌, add-one, eq-eqb}
use Rattle.std.proofs.lemmas.List.{get_or_default}
use Rattle.deviation.specs.Const.{zero64}
use Rattle.deviation.specs.Statistics.{fresh}
use Rattle.deviation.specs.declared.Deviation.{Deviation}
use Rattle.predictorcorrector.specs.declared.PredictorCorrector.{PredictorCorrector}
use Rattle.layout.specs.Places.{deviation_length, state_length, actual_at, expected_at}
use Rattle.layout.specs.Numbers.{pasted, written_of}
use Rattle.layout.specs.Chain.{entries, filled, list_over, encode_head, encode_state_over}
use Rattle.layout.specs.States.{encode_deviation}

-- ---- a list read.
pub filled_next : {A : Type 0} (f : ℕ → A) (i : ℕ) (ds out : List A) (r : A) → out ≡ filled f i ds → r ≡ f i → set out i r ≡ filled f (i + 1) ds
unfolding filled
filled_next f i ds out r e p = rw (add-one, e, p)

-- ---- a list written.
pub over_next : (xs : List ℕ) (at : ℕ) (ds : List Deviation) (i : ℕ) (out after : List ℕ) (d : Deviation) → out ≡ list_over xs at ds i
    → after ≡ pasted out (at + deviation_length * i) (encode_deviation (get_or ds i d)) → i < length ds → after ≡ list_over xs at ds (i + 1)
unfolding list_over
over_next xs at ds i out after d e p h = p ∙ rw (add-one, e, get_or_default ds i d (fresh zero64) h)

-- ---- a state written: what stands before the lists, then the lists.
pub state_pasted : (xs head over all : List ℕ) (s : PredictorCorrector) (n : ℕ) → length xs ≡ state_length → n ≡ entries s.auto_adjust s.base_dimension
    → head ≡ pasted xs 0 (encode_head s) → over ≡ list_over head actual_at s.deviations_actual n → all ≡ list_over over expected_at s.deviations_expected n
    → all ≡ written_of state_length xs (encode_state_over xs s)
unfolding encode_state_over written_of
state_pasted xs head over all s n long e h o a =
    rw (eq-eqb (length xs) state_length long)
    (a ∙ (λ i. list_over (o i) expected_at s.deviations_expected n) ∙ (λ i. list_over (list_over (h i) actual_at s.deviations_actual (e i)) expected_at s.deviations_expected (e i)))
