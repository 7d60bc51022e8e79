-- Demand 3 of the C functions: what this crate proves. Definitions only.
use Rattle.std.specs.Prelude.{ℕ, ◌≤◌, ◌<◌, ◌≡◌, true, not, List, ◌∷◌, T, eqb, ℤ, length, get_or, Float, Result, Ok, Err}
use Rattle.std.specs.Float.Ieee.{eq}
use Rattle.types.specs.Codes.{mode_code}
use Rattle.basicthresholder.specs.Const.{zero32, z_factor_default}
use Rattle.basicthresholder.specs.declared.Graded.{Graded}
use Rattle.ledger.specs.Statement.{most_readings, accepted, Sizes, InBounds, Demand3}
use Rattle.detection.specs.declared.Verdict.{Verdict}
use Rattle.detection.specs.declared.Verdict.TheVariants.{Quiet, Corrected, Raised, Skipped}
use Rattle.detection.specs.declared.Judgment.{Judgment}
use Rattle.detection.specs.Judged.{Judged, outcome_number}
use Rattle.layout.specs.Places.{state_length, verdict_length, mode_at, relative_index_at}
use Rattle.layout.specs.Numbers.{i32_at}
use Rattle.layout.specs.Chain.{decode_state}
use Rattle.layout.specs.Readings.{decode_reading, decode_last}
use Rattle.c_judging.specs.Judging.{codes_ok, slices_ok}
use Rattle.demand3.specs.Calls.{threshold_of, grade_of, opened}
use Rattle.demand3_over_c.specs.Calls.{Judging, Call, krcf_new, Contract, InTurn, z_of, ZUnset, score_of, told_of, shown_of, kind_in, threshold_in, grade_in}
use Rattle.demand3_over_c.specs.Calm.{nought, made, eleven}
use Rattle.types.specs.declared.Refusal.{Refusal}

-- ---- a verdict in its 14 bytes
abbrev pub kind_of : Verdict → ℕ
kind_of (Quiet t) = 0
kind_of (Corrected t m) = 1
kind_of (Raised t g) = 2
kind_of Skipped = 3

abbrev pub mode_of : Verdict → ℕ
mode_of (Quiet t) = 0
mode_of (Corrected t m) = mode_code m
mode_of (Raised t g) = 0
mode_of Skipped = 0

-- The verdict v with its relative index n stands in the bytes ys.
pub record Reads (v : Verdict) (n : ℤ) (ys : List ℕ) : Type 0 where
  pub long : length ys ≡ verdict_length
  pub kind : kind_in ys ≡ kind_of v
  pub mode : get_or ys mode_at 0 ≡ mode_of v
  pub threshold : threshold_in ys ≡ threshold_of v
  pub grade : grade_in ys ≡ grade_of v
  pub index : i32_at ys relative_index_at ≡ n

-- ---- a call over C and a judgment by value
-- What a call leaves of the verdict's slice: an accepted reading's verdict with its relative index n, or what it was.
abbrev pub Says : Result Verdict Refusal → ℤ → List ℕ → List ℕ → Type 0
Says (Ok v) n ys ys' = Reads v n ys'
Says (Err why) n ys ys' = ys' ≡ ys

-- The call's answer, and the bytes and buffers that it left, are those of the judgment j, which left the buffers e, h and w.
pub record Simulated (c : Judging) (j : Judgment) (e h w : List Float) : Type 0 where
  pub answer : c.answer ≡ outcome_number j.outcome
  pub state : decode_state c.state' ≡ j.state
  pub verdict : Says j.outcome j.relative_index c.verdict c.verdict'
  pub point : c.expected' ≡ e
  pub highs : c.high' ≡ h
  pub lows : c.low' ≡ w

-- ---- what a verdict's bytes say of its opening o, the score not being 0: the opening threshold; quiet exactly where the opening grade is 0; never skipped; a raised
-- grade is the opening grade
pub record Opens (o : Graded) (ys : List ℕ) : Type 0 where
  pub threshold : threshold_in ys ≡ o.threshold
  pub quiet : eqb (kind_in ys) 0 ≡ eq o.grade zero32
  pub skipped : kind_in ys < 3
  pub raised : kind_in ys ≡ 2 → grade_in ys ≡ o.grade

-- ---- the statement
pub record Demand3OverC : Type 0 where
  -- Codes and lengths in order, a call is the judgment by value of the decoded state, whatever the strategy, accepted or refused.
  pub simulated : (xs : List ℕ) (c : Judging) → Contract xs c
      → codes_ok xs c.reading c.last ≡ true → slices_ok (length xs) (length c.reading) (length c.last) (eqb (length c.verdict) verdict_length) ≡ true
      → (j : Judgment) (e h w : List Float) → Judged (decode_state xs) (decode_reading c.reading) (decode_last c.last) c.lent j c.expected c.high c.low e h w
      → Simulated c j e h w
  pub opens : (xs : List ℕ) (c : Judging) → Contract xs c → c.answer ≡ 0 → T (not (eq (score_of c) zero32)) → Opens (opened (decode_state xs) (decode_reading c.reading)) c.verdict'
  -- "A single statement about the list of readings": a list of calls that begins with `krcf_new`, each over the bytes that the one before it left.
  pub demand_3 : (d : Float) (auto base : ℕ) (out : List ℕ) (n : ℕ) (xs : List ℕ) (cs : List Call)
      → InTurn (krcf_new d auto base out n xs ∷ cs) → InBounds (z_of cs) (told_of cs)
      → Demand3 d (z_of cs) (told_of cs) (shown_of cs)
  -- Where none sets z, by the new state's own: the bounds on the readings are left.
  pub default_z : (d : Float) (auto base : ℕ) (out : List ℕ) (n : ℕ) (xs : List ℕ) (cs : List Call)
      → InTurn (krcf_new d auto base out n xs ∷ cs) → ZUnset cs → accepted (told_of cs) ≤ most_readings → Sizes (told_of cs)
      → Demand3 d z_factor_default (told_of cs) (shown_of cs)
  -- Such lists exist, in any bytes of a state: eleven calm readings are accepted, and the last has ten counted before it.
  pub met : (out : List ℕ) → length out ≡ state_length
      → InTurn (krcf_new nought 0 1 out 0 (made out) ∷ eleven (made out)) × ZUnset (eleven (made out)) × InBounds (z_of (eleven (made out))) (told_of (eleven (made out))) × (accepted (told_of (eleven (made out))) ≡ 11)
