use Rattle.std.proofs.Common.{arith}
use Rattle.training_lines.proofs.Taken.{no_bytes, byte_taken}
use Rattle.training_load.proofs.read_lines.Goals as goal

pub loop-taken-preserved : goal.loop-taken-preserved
loop-taken-preserved g c = rw c.push-run.ensures (omega (arith, byte_taken c.loop-taken.run c.in-Some.b, c.loop-taken.invariant, c.loop-taken-test.true))

pub settled-requires-2 : goal.settled-requires-2
settled-requires-2 g c = no_bytes c.loop-taken.run (omega (arith, c.loop-taken.invariant, c.loop-taken-test.false))
