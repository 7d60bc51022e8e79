use Rattle.drill_sheet.proofs.EveryRow.{every_row_holds}
use Rattle.drill_sheet.proofs.every_row_holds.Goals as goal

pub returns : goal.returns
returns c = every_row_holds
