-- "The ledger comparison covers CSV-fed drawers, every score read being of its sizes": demand 3's statement for every input of the export watch, without a premise on it.
use Rattle.std.specs.Prelude.{◌≡◌, List, ℕ}
use Rattle.std.specs.Float.Ieee.{of_bits}
use Rattle.std.specs.Float.{binary64}
use Rattle.score_kinds.specs.Watching.{settings, three32}
use Rattle.score_rows.specs.Sheet.{kinds, text}
use Rattle.export_rows.specs.Output.{sheet, output}
use Rattle.ledger.specs.Statement.{Demand3}
use Rattle.watch_ledger.specs.Statement.{told_of, shown_of}

-- Of an input: what is printed is its sheet, and what the sheet's rows show agrees with the ledger of their scores.
pub record OfExport (input : List ℕ) : Type 0 where
  pub printed : output input ≡ text (sheet input)
  pub agree : Demand3 (of_bits binary64 0) three32 (told_of (sheet input).readings) (shown_of (kinds settings (sheet input).readings))

abbrev pub Demand3OfExports : Type 0
Demand3OfExports = (input : List ℕ) → OfExport input
