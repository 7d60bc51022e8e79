-- The score watch's sheet of the load has a row for each score, and all is read. Assumes nothing.
use mathlib.Core.Path.{◌≡◌, refl, ap, ◌∙◌}
use mathlib.Core.List.{List, [], ◌∷◌}
use Prim.Native.Nat.{ℕ, ◌+◌, ◌≤◌}
use native.Mathlib.Omega.{arith}
use lib.ListN.{length}
use lib.Ieee.{Float}
use Rattle.score_rows.specs.Text.{bits}
use Rattle.score_rows.specs.Sheet.{AllRead, first}
use Rattle.score_lines.specs.Output.{lines_from, by_line, sheet_from}
use Rattle.training_lines.specs.Output as Load
use Rattle.training_ledger.specs.Statement.{numbered}
use Rattle.training_ledger.proofs.Scores.{Sound, AllSound}
use Rattle.training_ledger.proofs.Lines.{read, first_line}

first_row : (x : Float) (n : ℕ) (rest : List (List ℕ)) → Sound x → n ≤ 65536 → sheet_from n (bits x ∷ rest) ≡ first n x (sheet_from (n + 1) rest)
unfolding sheet_from by_line
first_row x n rest o h = simp (read x o n h)

pub sheet_from_lem : (xs : List Float) (n : ℕ) → n + length xs ≤ 65537 → AllSound xs → sheet_from n (lines_from [] (Load.lines xs)) ≡ record { readings = numbered n xs; end = AllRead }
unfolding Load.lines lines_from sheet_from numbered
sheet_from_lem [] n h a = refl
sheet_from_lem (x ∷ xs) n h a =
    ap (sheet_from n) (first_line x (Load.lines xs))
    ∙ first_row x n (lines_from [] (Load.lines xs)) a.0 (omega arith)
    ∙ ap (first n x) (sheet_from_lem xs (n + 1) (omega arith) a.1)
