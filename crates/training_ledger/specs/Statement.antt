-- "Its non-zero scores, at least 2^-24, meet the ledger comparison's size premise": a law in the ledger's terms, and demand 3 of a drawer that is fed with the load, for
-- every seed and every count up to 65,536. The quoted words are document 02's. Definitions only.
use Rattle.std.specs.Prelude.{ℕ, ◌+◌, ◌^◌, ◌≤◌, ◌<◌, ◌≡◌, Bool, ◌⊎◌, List, [], ◌∷◌, T, Float}
use Rattle.std.specs.Float.Ieee.{of_bits, lt, le}
use Rattle.std.specs.Float.{binary64}
use Rattle.basicthresholder.specs.Const.{zero32, sixteen32}
use Rattle.ledger.specs.Fractions.{over, unit, Le, Lt, fraction_of, plus_zero}
use Rattle.ledger.specs.Statement.{Told, most_readings, Sized, InBounds, Demand3}
use Rattle.demand3.specs.Calls.{Call, new, InTurn, z_of, told_of, shown_of}
use Rattle.score_kinds.specs.Watching.{settings, three32}
use Rattle.score_kinds.specs.Counting.{tally, lines}
use Rattle.score_rows.specs.Text.{bad_line}
use Rattle.score_rows.specs.Sheet.{Reading, Sheet, AllRead, kinds, text}
use Rattle.score_lines.specs.Output as ScoreWatch
use Rattle.watch_ledger.specs.Statement as Watch
use Rattle.training_scores.specs.Recurrence.{score, scores}
use Rattle.training_lines.specs.Output.{load, output}
use Rattle.predictorcorrector.specs.declared.PredictorCorrector.{PredictorCorrector}

-- A score that is not zero: at least 2 ^ -24, below 1, and so of the ledger's sizes.
pub record Positive (x : Float) : Type 0 where
  pub least : Le (over 1 (2 ^ 24)) (fraction_of x)
  pub below : Lt (fraction_of x) unit
  pub sized : Sized x

-- The scores that the ledger is told.
abbrev pub scores_told : List Told → List Float
scores_told [] = []
scores_told (t ∷ ts) = t.score ∷ scores_told ts

-- Scores as the score watch numbers their lines, from n on.
unfoldable pub numbered : ℕ → List Float → List Reading
numbered n [] = []
numbered n (x ∷ xs) = record { number = n; score = x } ∷ numbered (n + 1) xs

-- The score watch, fed with the load: the sheet has a line for each score, then the counts, which add up to the count; and what these lines show agrees with the ledger.
abbrev pub sheet_of : ℕ → ℕ → Sheet
sheet_of seed count = record { readings = numbered 1 (scores seed count); end = AllRead }

pub record OfScoreWatch (seed count : ℕ) : Type 0 where
  pub printed : ScoreWatch.output (load seed count) ≡ text (sheet_of seed count)
  pub all : lines (tally (kinds settings (sheet_of seed count).readings)) ≡ count
  pub agree : Demand3 (of_bits binary64 0) three32 (Watch.told_of (sheet_of seed count).readings) (Watch.shown_of (kinds settings (sheet_of seed count).readings))

-- A load of at most so many lines as demand 3 has readings.
pub record Loaded (text : List ℕ) : Type 0 where
  pub seed : ℕ
  pub count : ℕ
  pub most : count ≤ most_readings
  pub printed : text ≡ load seed count

pub record TrainingLedger : Type 0 where
  -- Whatever the input, it prints a bad line or such a load.
  pub of_inputs : (input : List ℕ) → (output input ≡ bad_line 1) ⊎ ((output input ≡ bad_line 2) ⊎ Loaded (output input))
  pub sizes : (state : ℕ) → state < 2 ^ 64 → (score state ≡ plus_zero) ⊎ Positive (score state)
  -- Whoever is told the load's scores, refused or not, is within demand 3's bounds on readings.
  pub in_bounds : (seed count : ℕ) → count ≤ most_readings → (z : Float) → T (lt zero32 z) → T (le z sixteen32)
      → (ts : List Told) → scores_told ts ≡ scores seed count → InBounds z ts
  pub of_score_watch : (seed count : ℕ) → count ≤ most_readings → OfScoreWatch seed count
  -- A drawer whose readings bring the load's scores, by calls of the watch's functions (`crates/demand3`).
  pub of_calls : (seed count : ℕ) → count ≤ most_readings
      → (d : Float) (auto : Bool) (base : ℕ) (s : PredictorCorrector) (cs : List Call) → InTurn (new d auto base s ∷ cs)
      → scores_told (told_of s cs) ≡ scores seed count → T (lt zero32 (z_of cs)) → T (le (z_of cs) sixteen32)
      → Demand3 d (z_of cs) (told_of s cs) (shown_of s cs)
