-- Eleven calm readings by C calls that keep the contract: that the statement's premises can be met. Definitions only.
use Rattle.std.specs.Prelude.{ℕ, zero, suc, false, List, [], ◌∷◌, length, replicate, Result}
use Rattle.divector.specs.DiVector.{normalized}
use Rattle.predictorcorrector.specs.State.{fresh_state}
use Rattle.detection.specs.Judging as Exits
use Rattle.detection.specs.Judged.{outcome_number, written}
use Rattle.layout.specs.Places.{last_length, verdict_length}
use Rattle.layout.specs.Chain.{encode_state_over}
use Rattle.layout.specs.Readings.{decode_reading, decode_last}
use Rattle.c_judging.specs.Judging.{state_left, verdict_left, outcome_over, state_over, index_over}
pub use Rattle.demand3.specs.Calm.{nought, one}
use Rattle.demand3.specs.Calm.{ones, buffers}
use Rattle.demand3_over_c.specs.Calls.{Judging, Call, krcf_detect_and_modify}
use Rattle.detection.specs.declared.Verdict.{Verdict}
use Rattle.types.specs.declared.Refusal.{Refusal}

-- Shingle size 1, base 1, DISTANCE, no method, no time; the first value; score 1, corrected 1.
abbrev pub reading : List ℕ
reading = 1 ∷ 0 ∷ 0 ∷ 0 ∷ 1 ∷ 0 ∷ 0 ∷ 0 ∷ 1 ∷ 0 ∷ 0 ∷ 1 ∷ 0 ∷ 0 ∷ 0 ∷ 0 ∷ 0 ∷ 128 ∷ 63 ∷ 0 ∷ 0 ∷ 128 ∷ 63 ∷ []

abbrev pub last : List ℕ
last = replicate last_length 0

-- What the contract says of it over the state's bytes xs, and the call.
abbrev pub said : List ℕ → Result Verdict Refusal
said xs = outcome_over xs reading last buffers 1 1 1 verdict_length

abbrev pub judging : List ℕ → Judging
judging xs = record {
  reading = reading;
  last = last;
  lent = buffers;
  answer = outcome_number (said xs);
  expected = ones;
  high = ones;
  low = ones;
  verdict = replicate verdict_length 0;
  state' = state_left (said xs) xs (state_over xs reading last buffers (said xs));
  expected' = written (said xs) ones (Exits.expected (decode_reading reading) (decode_last last) buffers);
  high' = written (said xs) ones (normalized (decode_reading reading).score ones ones ones);
  low' = written (said xs) ones (normalized (decode_reading reading).score ones ones ones);
  verdict' = verdict_left (said xs) (replicate verdict_length 0) (index_over xs reading last buffers (said xs));
}

abbrev pub judgings : ℕ → List ℕ → List Call
judgings zero xs = []
judgings (suc n) xs = krcf_detect_and_modify (judging xs) ∷ judgings n (judging xs).state'

-- Discount 0, no auto adjust, base 1: the bytes that `krcf_new` leaves; then eleven of them in turn.
abbrev pub made : List ℕ → List ℕ
made out = encode_state_over (replicate (length out) 0) (fresh_state nought false 1)

abbrev pub eleven : List ℕ → List Call
eleven xs = judgings 11 xs
