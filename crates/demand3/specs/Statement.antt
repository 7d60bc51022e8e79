-- Demand 3 of calls of the watch's functions: what this crate proves. The quoted words are document 01's. Definitions only.
use Rattle.std.specs.Prelude.{ℕ, ◌≤◌, ◌≡◌, Bool, true, false, not, List, ◌∷◌, T, Float, Result, Ok, Err}
use Rattle.std.specs.Float.Ieee.{eq}
use Rattle.basicthresholder.specs.Const.{zero32, z_factor_default}
use Rattle.basicthresholder.specs.declared.Graded.{Graded}
use Rattle.ledger.specs.Statement.{most_readings, accepted, Sizes, InBounds, Demand3}
use Rattle.predictorcorrector.specs.declared.PredictorCorrector.{PredictorCorrector}
use Rattle.detection.specs.declared.Verdict.{Verdict}
use Rattle.detection.specs.declared.Verdict.TheVariants.{Quiet, Corrected, Raised, Skipped}
use Rattle.demand3.specs.Calls.{Judging, Call, new, Contract, InTurn, z_of, ZUnset, answer_at, is_refusal, told_of, shown_of, threshold_of, grade_of, opened}
use Rattle.demand3.specs.Calm.{nought, made, eleven}
use Rattle.types.specs.declared.Refusal.{Refusal}

-- ---- what a call returned, beside its opening threshold and grade
abbrev pub is_quiet : Verdict → Bool
is_quiet (Quiet t) = true
is_quiet (Corrected t m) = false
is_quiet (Raised t g) = false
is_quiet Skipped = false

abbrev pub is_raised : Verdict → Bool
is_raised (Quiet t) = false
is_raised (Corrected t m) = false
is_raised (Raised t g) = true
is_raised Skipped = false

abbrev pub is_skipped : Verdict → Bool
is_skipped (Quiet t) = false
is_skipped (Corrected t m) = false
is_skipped (Raised t g) = false
is_skipped Skipped = true

-- Of a score that is not 0, with the opening o: the verdict carries the opening threshold, is quiet exactly where the opening grade is 0, is never skipped, and
-- a raised grade is the opening grade.
pub record Shows (o : Graded) (v : Verdict) : Type 0 where
  pub threshold : threshold_of v ≡ o.threshold
  pub quiet : is_quiet v ≡ eq o.grade zero32
  pub skipped : is_skipped v ≡ false
  pub raised : T (is_raised v) → grade_of v ≡ o.grade

-- The table's refusal is the one that was returned, and an accepted score that is not 0 shows its opening.
abbrev pub Returned : PredictorCorrector → Judging → Result Verdict Refusal → Type 0
Returned s c (Ok v) = (is_refusal (answer_at s c) ≡ false) × (T (not (eq c.reading.score zero32)) → Shows (opened s c.reading) v)
Returned s c (Err why) = is_refusal (answer_at s c) ≡ true

-- ---- the statement
pub record Demand3OfCalls : Type 0 where
  -- Of each judgment, whatever its strategy.
  pub returned : (s : PredictorCorrector) (c : Judging) → Contract s c → Returned s c c.judgment.outcome
  -- "A single statement about the list of readings": a list of calls that begins with `new`.
  pub demand_3 : (d : Float) (auto : Bool) (base : ℕ) (s : PredictorCorrector) (cs : List Call)
      → InTurn (new d auto base s ∷ cs) → InBounds (z_of cs) (told_of s cs)
      → Demand3 d (z_of cs) (told_of s cs) (shown_of s cs)
  -- Where none sets z, by the new state's own: the bounds on the readings are left.
  pub default_z : (d : Float) (auto : Bool) (base : ℕ) (s : PredictorCorrector) (cs : List Call)
      → InTurn (new d auto base s ∷ cs) → ZUnset cs → accepted (told_of s cs) ≤ most_readings → Sizes (told_of s cs)
      → Demand3 d z_factor_default (told_of s cs) (shown_of s cs)
  -- Such lists exist: the entry checks accept eleven calm readings, and the last has ten counted before it.
  pub met : InTurn (new nought false 1 made ∷ eleven) × ZUnset eleven × InBounds (z_of eleven) (told_of made eleven) × (accepted (told_of made eleven) ≡ 11)
