-- Calls of the watch's functions, each with what it took and what it returned, and what the ledger's statement is told and shown of them. The quoted words are
-- document 01's. Definitions only.
use Rattle.std.specs.Prelude.{ℕ, ◌≡◌, Bool, true, false, List, [], ◌∷◌, length, T, Float, Result, Ok, Err}
use Rattle.std.specs.Float.{binary64}
use Rattle.std.specs.Float.Ieee.{fits}
use Rattle.types.specs.declared.ScoringStrategy.TheVariants.{DISTANCE}
use Rattle.basicthresholder.specs.Const.{zero32, z_factor_default}
use Rattle.basicthresholder.specs.declared.Graded.{Graded}
use Rattle.ledger.specs.Statement.{Told, Shown}
use Rattle.descriptor.specs.Checks.{answer_of}
use Rattle.descriptor.specs.Lent.{Lent}
use Rattle.descriptor.specs.declared.Reading.{Reading}
use Rattle.descriptor.specs.declared.LastDescriptor.{LastDescriptor}
use Rattle.predictorcorrector.specs.State as State
use Rattle.predictorcorrector.specs.State.{z_factor_set, set_horizon, state_counts_ok}
use Rattle.predictorcorrector.specs.declared.PredictorCorrector.{PredictorCorrector}
use Rattle.detection.specs.Judging.{opening}
use Rattle.detection.specs.Judged.{Judged}
use Rattle.detection.specs.declared.Verdict.{Verdict}
use Rattle.detection.specs.declared.Verdict.TheVariants.{Quiet, Corrected, Raised, Skipped}
use Rattle.detection.specs.declared.Judgment.{Judgment}
use Rattle.types.specs.declared.Refusal.{Refusal}
use Rattle.types.specs.declared.Updated.{Updated}
use Rattle.types.specs.Refusals.{Answer}

-- ---- the calls
-- `detect_and_modify`: "each reading lends its own inputs". What it took beside the state, what it returned, and the three buffers that it may write, before
-- and after.
pub record Judging : Type 0 where
  pub reading : Reading
  pub last : LastDescriptor
  pub lent : Lent
  pub judgment : Judgment
  pub expected : List Float
  pub high : List Float
  pub low : List Float
  pub expected' : List Float
  pub high' : List Float
  pub low' : List Float

-- A call: what it took beside the state, and what it returned. `new` took the discount, auto adjust and the base dimension, and was accepted.
pub data Call : Type 0 where
  new : Float → Bool → ℕ → PredictorCorrector → Call
  set_z_factor : Float → PredictorCorrector → Call
  set_horizon_call : Float → Updated PredictorCorrector → Call
  detect_and_modify : Judging → Call

-- ---- calls in turn
-- The contract of `detect_and_modify`, for a call that began with the state s; and one that was on a DISTANCE reading.
abbrev pub Contract : PredictorCorrector → Judging → Type 0
Contract s c = Judged s c.reading c.last c.lent c.judgment c.expected c.high c.low c.expected' c.high' c.low'

pub record Kept (s : PredictorCorrector) (c : Judging) : Type 0 where
  pub contract : Contract s c
  pub distance : c.reading.scoring_strategy ≡ DISTANCE

-- "Each reading takes the state that the one before it returned; nothing else writes the state in between."
abbrev pub JudgedInTurn : PredictorCorrector → List Call → Type 0
JudgedInTurn s [] = Unit
JudgedInTurn s (new d auto base s' ∷ cs) = ⊥
JudgedInTurn s (set_z_factor x s' ∷ cs) = ⊥
JudgedInTurn s (set_horizon_call x r ∷ cs) = ⊥
JudgedInTurn s (detect_and_modify c ∷ cs) = Kept s c × JudgedInTurn c.judgment.state cs

-- "Only z and horizon may be set, before the first reading." A horizon that is refused is among them.
abbrev pub SetInTurn : PredictorCorrector → List Call → Type 0
SetInTurn s [] = Unit
SetInTurn s (new d auto base s' ∷ cs) = ⊥
SetInTurn s (set_z_factor x s' ∷ cs) = (s' ≡ z_factor_set s x) × SetInTurn s' cs
SetInTurn s (set_horizon_call x r ∷ cs) = (r ≡ set_horizon s x) × SetInTurn r.state cs
SetInTurn s (detect_and_modify c ∷ cs) = JudgedInTurn s (detect_and_modify c ∷ cs)

-- "Fresh here is a newly built state": a construction that was accepted, then settings, then judgments.
pub record Made (d : Float) (auto : Bool) (base : ℕ) (s : PredictorCorrector) : Type 0 where
  pub discount : T (fits binary64 d)
  pub contract : State.new d auto base ≡ Ok s

abbrev pub InTurn : List Call → Type 0
InTurn [] = ⊥
InTurn (new d auto base s ∷ cs) = Made d auto base s × SetInTurn s cs
InTurn (set_z_factor x s' ∷ cs) = ⊥
InTurn (set_horizon_call x r ∷ cs) = ⊥
InTurn (detect_and_modify c ∷ cs) = ⊥

-- The z factor that a list judges by: the last that it set, else the one before, z.
abbrev pub z_after : Float → List Call → Float
z_after z [] = z
z_after z (new d auto base r ∷ cs) = z_after z cs
z_after z (set_z_factor x s' ∷ cs) = z_after x cs
z_after z (set_horizon_call x r ∷ cs) = z_after z cs
z_after z (detect_and_modify c ∷ cs) = z_after z cs

abbrev pub z_of : List Call → Float
z_of cs = z_after z_factor_default cs

-- No call sets it.
abbrev pub ZUnset : List Call → Type 0
ZUnset [] = Unit
ZUnset (new d auto base r ∷ cs) = ZUnset cs
ZUnset (set_z_factor x s' ∷ cs) = ⊥
ZUnset (set_horizon_call x r ∷ cs) = ZUnset cs
ZUnset (detect_and_modify c ∷ cs) = ZUnset cs

-- ---- what the ledger is told of a judgment
-- The refusal table's answer to it, and whether that is a refusal.
abbrev pub answer_at : PredictorCorrector → Judging → Answer
answer_at s c =
    answer_of c.reading c.last c.lent (length c.expected) (length c.high) (length c.low) s.base_dimension (state_counts_ok s)

abbrev pub is_refusal : Answer → Bool
is_refusal (Ok _) = false
is_refusal (Err why) = true

-- "Whether the refusal table refuses it", and its score.
abbrev pub told_of : PredictorCorrector → List Call → List Told
told_of s [] = []
told_of s (new d auto base s' ∷ cs) = told_of s' cs
told_of s (set_z_factor x s' ∷ cs) = told_of s' cs
told_of s (set_horizon_call x r ∷ cs) = told_of r.state cs
told_of s (detect_and_modify c ∷ cs) = record { refused = is_refusal (answer_at s c); score = c.reading.score } ∷ told_of c.judgment.state cs

-- ---- what a judgment showed
abbrev pub threshold_of : Verdict → Float
threshold_of (Quiet t) = t
threshold_of (Corrected t m) = t
threshold_of (Raised t g) = t
threshold_of Skipped = zero32

-- "The grade that a reading ends with is the one that raised carries, otherwise 0."
abbrev pub grade_of : Verdict → Float
grade_of (Quiet t) = zero32
grade_of (Corrected t m) = zero32
grade_of (Raised t g) = g
grade_of Skipped = zero32

-- "The opening grade is the grade of the reading's own score against the state before it, ahead of every correction."
abbrev pub opened : PredictorCorrector → Reading → Graded
opened s r = opening s.basic_thresholder r r.score

-- By the state s that it took and the outcome that it returned. A verdict does not carry the opening grade; `Shows` ties the two.
abbrev pub shown_by : PredictorCorrector → Reading → Result Verdict Refusal → Shown
shown_by s r (Ok v) = record { threshold = threshold_of v; opening = (opened s r).grade; ends = grade_of v }
shown_by s r (Err why) = record { threshold = zero32; opening = zero32; ends = zero32 }

abbrev pub shown_of : PredictorCorrector → List Call → List Shown
shown_of s [] = []
shown_of s (new d auto base s' ∷ cs) = shown_of s' cs
shown_of s (set_z_factor x s' ∷ cs) = shown_of s' cs
shown_of s (set_horizon_call x r ∷ cs) = shown_of r.state cs
shown_of s (detect_and_modify c ∷ cs) = shown_by s c.reading c.judgment.outcome ∷ shown_of c.judgment.state cs
