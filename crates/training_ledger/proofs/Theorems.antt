-- The load within demand 3's bounds, and demand 3 of the score watch and of calls that are fed with it. Assumes nothing.
use mathlib.Core.Path.{ap, ◌∙◌}
use Prim.Native.Nat.{ℕ, ◌≤◌}
use native.Mathlib.Omega.{arith}
use Rattle.demand3.specs.Calls.{z_of, told_of}
use Rattle.demand3.proofs.Demand3 as Calls
use Rattle.score_kinds.specs.Watching.{settings}
use Rattle.score_rows.specs.Sheet.{text}
use Rattle.score_rows.proofs.Sheet as Sheets
use Rattle.score_lines.specs.Output.{sheet, output}
use Rattle.watch_ledger.proofs.Demand3 as Watch
use Rattle.training_scores.specs.Recurrence.{scores}
use Rattle.training_lines.specs.Output.{load}
use Rattle.training_ledger.specs.Statement.{numbered, OfScoreWatch, TrainingLedger}
use Rattle.training_ledger.proofs.Scores.{sizes, all_sound, as_many}
use Rattle.training_ledger.proofs.Bounds.{in_bounds, numbered_length, numbered_sized}
use Rattle.training_ledger.proofs.Printed.{sheet_from_lem}
use Rattle.training_ledger.proofs.Inputs.{of_inputs}

of_score_watch : (seed count : ℕ) → count ≤ 65536 → OfScoreWatch seed count
unfolding sheet output load
of_score_watch seed count h =
    let xs = scores seed count in
    let sound = all_sound seed count in
    record {
      printed = ap text (sheet_from_lem xs 1 (omega (arith, as_many seed count)) sound);
      all = Sheets.add_up settings (numbered 1 xs) ∙ numbered_length 1 xs ∙ as_many seed count;
      agree = Watch.demand_3 (numbered 1 xs) (omega (arith, numbered_length 1 xs, as_many seed count)) (numbered_sized 1 xs sound);
    }

pub training_ledger : TrainingLedger
training_ledger = record {
  of_inputs = of_inputs;
  sizes = λ state h. sizes state (omega arith);
  in_bounds = λ seed count h. in_bounds seed count (omega arith);
  of_score_watch = λ seed count h. of_score_watch seed count (omega arith);
  of_calls = λ seed count h d auto base s cs k e above most. Calls.demand_3 d auto base s cs k (in_bounds seed count (omega arith) (z_of cs) above most (told_of s cs) e);
}
