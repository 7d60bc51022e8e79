-- The ledger's theorem for the export watch. Assumes nothing.
use mathlib.Core.Path.{refl}
use native.Mathlib.Omega.{arith}
use Rattle.csv_rows.specs.Rows.{readings_of}
use Rattle.csv_rows.proofs.Sizes.{sized_scores}
use Rattle.watch_ledger.proofs.Demand3 as Watch
use Rattle.export_rows.specs.Output.{sheet, output}
use Rattle.export_ledger.specs.Statement.{Demand3OfExports}
use Rattle.export_ledger.proofs.Bounds.{fits_from}

pub demand_3 : Demand3OfExports
unfolding sheet output
demand_3 input =
    let f = fits_from (readings_of input) 1 0 0 (omega arith) (sized_scores input) in
    record { printed = refl; agree = Watch.demand_3 (sheet input).readings (omega (arith, f.short)) f.sized }
