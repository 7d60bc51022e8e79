-- The chain's stored state: the thresholder, auto adjust in 1 byte, run length and base dimension in 4 each, then the two lists of statistics with room for 16.
-- Of a list only the entries that exist are read and written.
use Rattle.std.specs.Prelude.{ℕ, zero, suc, ◌+◌, ◌*◌, Bool, true, false, cond, ◌&&◌, List, [], ◌∷◌, length, replicate, ◌==◌, nat_le, slice_index, slice_index_or, slice_set, Result, Ok, Err}
use Rattle.types.specs.declared.Refusal.{Refusal}
use Rattle.types.specs.declared.Refusal.TheVariants.{Range, Length}
use Rattle.deviation.specs.declared.Deviation.{Deviation}
use Rattle.deviation.specs.Statistics.{fresh}
use Rattle.deviation.specs.Const.{zero64}
use Rattle.predictorcorrector.specs.declared.PredictorCorrector.{PredictorCorrector}
use Rattle.predictorcorrector.specs.State.{state, new, standing}
use Rattle.layout.specs.Places.{deviation_length, auto_threshold_at, state_length, auto_adjust_at, run_length_at, base_dimension_at, actual_at, expected_at}
use Rattle.layout.specs.Numbers.{le4, flag_at, bytes4, flag_bytes, pasted}
use Rattle.layout.specs.States.{joined, deviation_at, encode_deviation, decode_thresholder, encode_thresholder}
use Rattle.predictorcorrector.specs.declared.Standing.{Standing}

-- How many entries of the lists exist: the first base (at most 16) with auto adjust, none without it.
unfoldable pub entries : Bool → ℕ → ℕ
entries auto base = cond auto (cond (nat_le base 16) base 16) 0

-- ds with f k at each place k below n.
unfoldable pub filled : {A : Type 0} → (ℕ → A) → ℕ → List A → List A
filled f zero ds = ds
filled f (suc n) ds = slice_set (filled f n ds) n (f n)

-- An entry that does not exist is all zero.
unfoldable pub empty_list : List Deviation
empty_list = replicate 16 (fresh zero64)

-- The list stored from place i on, of which the first n entries exist.
unfoldable pub list_at : List ℕ → ℕ → ℕ → List Deviation
list_at xs i n = filled (λ (k : ℕ). deviation_at xs (i + deviation_length * k)) n empty_list

unfoldable pub decode_state : List ℕ → PredictorCorrector
decode_state xs =
    let auto = flag_at xs auto_adjust_at in
    let base = le4 xs base_dimension_at in
    state (decode_thresholder xs) auto (le4 xs run_length_at) base (list_at xs actual_at (entries auto base)) (list_at xs expected_at (entries auto base))

-- The first n entries of a list put over xs from place i on.
unfoldable pub list_over : List ℕ → ℕ → List Deviation → ℕ → List ℕ
list_over xs i ds zero = xs
list_over xs i ds (suc n) = pasted (list_over xs i ds n) (i + deviation_length * n) (encode_deviation (slice_index_or ds n (fresh zero64)))

-- What stands before the lists.
unfoldable pub encode_head : PredictorCorrector → List ℕ
encode_head s =
    joined
    (encode_thresholder s.basic_thresholder ∷ flag_bytes s.auto_adjust ∷ bytes4 s.run_length ∷ bytes4 s.base_dimension ∷ [])

-- A state put over the bytes xs: those of entries that do not exist stay.
unfoldable pub encode_state_over : List ℕ → PredictorCorrector → List ℕ
encode_state_over xs s =
    let n = entries s.auto_adjust s.base_dimension in
    list_over (list_over (pasted xs 0 (encode_head s)) actual_at s.deviations_actual n) expected_at s.deviations_expected n

-- The two yes/no bytes hold 0 or 1. Nothing inside a slice of another length is looked at.
unfoldable pub state_codes_ok : List ℕ → Bool
state_codes_ok xs = cond (length xs == state_length) (nat_le (slice_index xs auto_threshold_at) 1 && nat_le (slice_index xs auto_adjust_at) 1) true

-- What is read of a slice: 3 for another length, then 2 for a yes/no byte above 1.
unfoldable pub read_state : List ℕ → Result PredictorCorrector Refusal
read_state xs = cond (length xs == state_length) (cond (state_codes_ok xs) (Ok (decode_state xs)) (Err Range)) (Err Length)

unfoldable pub read_standing : List ℕ → Result Standing Refusal
read_standing xs = cond (length xs == state_length) (cond (state_codes_ok xs) (Ok (standing (decode_state xs))) (Err Range)) (Err Length)
