-- What a call reads of a state's, a reading's and the last descriptor's bytes. Nothing inside a slice of another length is looked at. Sizes are tested here only where
-- some slice has another length, since 2 then comes before 3; otherwise the call behind tests them.
use Rattle.std.specs.Prelude.{ℕ, Bool, true, cond, ◌&&◌, List, length, ◌==◌, Result, Ok, Err}
use Rattle.types.specs.declared.Refusal.TheVariants.{Range, Length}
use Rattle.descriptor.specs.Checks.{sizes_ok, range_ok}
use Rattle.layout.specs.Places.{state_length, reading_length, last_length}
use Rattle.predictorcorrector.specs.State.{standing}
use Rattle.layout.specs.Chain.{decode_state, state_codes_ok}
use Rattle.layout.specs.Readings.{decode_reading, decode_last, reading_codes_ok, last_codes_ok}
use Rattle.types.specs.declared.Refusal.{Refusal}
use Rattle.layout.specs.declared.CallRead.{CallRead}

-- The codes and yes/no bytes of all three.
unfoldable pub codes_ok : (state reading last : List ℕ) → Bool
codes_ok state reading last = state_codes_ok state && (reading_codes_ok reading && last_codes_ok last)

-- Their lengths, and `out`: that of the slice which is written.
unfoldable pub slices_ok : (state reading last : ℕ) → (out : Bool) → Bool
slices_ok state reading last out = state == state_length && (reading == reading_length && (last == last_length && out))

-- The sizes, as far as the slices can be read: the reading's, with its base the state's; of a state alone its base.
unfoldable pub sizes_fit : (state reading : List ℕ) → Bool
sizes_fit state reading =
    let r = decode_reading reading in
    let base = (decode_state state).base_dimension in
    cond (length reading == reading_length)
    (cond (length state == state_length) (range_ok r.shingle_size r.base_dimension base) (sizes_ok r.shingle_size r.base_dimension))
    (cond (length state == state_length) (sizes_ok 1 base) true)

unfoldable pub read_call : (state reading last : List ℕ) → (out : Bool) → Result CallRead Refusal
read_call state reading last out =
    cond (codes_ok state reading last)
    (cond (slices_ok (length state) (length reading) (length last) out)
    (Ok (record { standing = standing (decode_state state); reading = decode_reading reading; last = decode_last last }))
    (cond (sizes_fit state reading) (Err Length) (Err Range)))
    (Err Range)
