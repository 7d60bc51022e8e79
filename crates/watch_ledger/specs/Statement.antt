-- Demand 3's statement for what a watch of scores prints, of lists of scores within the ledger's bounds: what the ledgers of exports and of the training load share.
-- Definitions only.
use Rattle.std.specs.Prelude.{◌⊎◌, false, List, [], ◌∷◌, ◌≤◌, T, length, Float}
use Rattle.std.specs.Float.Ieee.{of_bits, eq}
use Rattle.std.specs.Float.{binary64}
use Rattle.basicthresholder.specs.Const.{zero32}
use Rattle.score_kinds.specs.declared.Kind.{Kind}
use Rattle.score_kinds.specs.declared.Kind.TheVariants.{Skipped, Quiet, Raised}
use Rattle.score_kinds.specs.Watching.{settings, three32}
use Rattle.score_rows.specs.Sheet.{Reading, kinds}
use Rattle.ledger.specs.Fractions.{plus_zero}
use Rattle.ledger.specs.Statement.{Told, Shown, most_readings, Sized, Demand3}

-- What the ledger is told of a sheet's lines: their scores, and that none is refused.
abbrev pub told_of : List Reading → List Told
told_of [] = []
told_of (r ∷ rs) = record { refused = false; score = r.score } ∷ told_of rs

-- What the lines show, by what their scores come to: a grade is the opening grade and the one that the reading ends with. A skipped line shows nothing; zeros stand for that here, and
-- the ledger asks for nothing there.
unfoldable pub shown_at : Kind → Shown
shown_at Skipped = record { threshold = zero32; opening = zero32; ends = zero32 }
shown_at (Quiet g) = record { threshold = g.threshold; opening = g.grade; ends = g.grade }
shown_at (Raised g) = record { threshold = g.threshold; opening = g.grade; ends = g.grade }

abbrev pub shown_of : List Kind → List Shown
shown_of [] = []
shown_of (k ∷ ks) = shown_at k ∷ shown_of ks

-- Each score is zero or of the ledger's sizes.
abbrev pub ZeroOrSized : Float → Type 0
ZeroOrSized x = T (eq x plus_zero) ⊎ Sized x

abbrev pub AllSized : List Reading → Type 0
AllSized [] = Unit
AllSized (r ∷ rs) = ZeroOrSized r.score × AllSized rs

-- Of at most 65,536 such readings: what the sheet prints of them (`kinds`, from the settings of a watch: discount 0 and z 3) agrees with the ledger.
abbrev pub Demand3OfScores : Type 0
Demand3OfScores =
    (rs : List Reading) → length rs ≤ most_readings → AllSized rs
    → Demand3 (of_bits binary64 0) three32 (told_of rs) (shown_of (kinds settings rs))
