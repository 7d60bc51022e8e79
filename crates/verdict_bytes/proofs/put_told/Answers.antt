use mir.Syntax.{w32}
use mir.ValLaws.{to_z-of_z}
use Rattle.verdict_bytes.proofs.Steps.{told_quiet, told_corrected, told_raised, told_skipped}
use Rattle.verdict_bytes.proofs.put_told.Goals as goal

pub returns-in-Quiet : goal.returns-in-Quiet
returns-in-Quiet c = told_quiet c.args.verdict c.args.out.now _ c.args.relative_index _ (to_z-of_z w32 c.args.relative_index c.ranges.relative_index) _ c.in-Quiet.is c.write_verdict.ensures

pub returns-in-Corrected : goal.returns-in-Corrected
returns-in-Corrected c = told_corrected c.args.verdict c.args.out.now _ c.args.relative_index _ (to_z-of_z w32 c.args.relative_index c.ranges.relative_index) _ _ _ c.in-Corrected.is c.from.ensures c.write_verdict-in-Corrected.ensures

pub returns-in-Raised : goal.returns-in-Raised
returns-in-Raised c = told_raised c.args.verdict c.args.out.now _ c.args.relative_index _ (to_z-of_z w32 c.args.relative_index c.ranges.relative_index) _ _ c.in-Raised.is c.write_verdict-in-Raised.ensures

pub returns-in-Skipped : goal.returns-in-Skipped
returns-in-Skipped c = told_skipped c.args.verdict c.args.out.now _ c.args.relative_index _ (to_z-of_z w32 c.args.relative_index c.ranges.relative_index) c.in-Skipped.is c.write_verdict-in-Skipped.ensures
