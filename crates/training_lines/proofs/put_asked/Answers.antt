use Rattle.std.proofs.Common.{arith, le-leb}
use borrow.Author.Tests.{lt-leb}
use Rattle.score_rows.proofs.Bytes.{with_room}
use Rattle.training_lines.specs.Feeding.{asked}
use Rattle.training_lines.proofs.put_asked.Goals as goal

pub returns-then-count-le-MOST_LINES : goal.returns-then-count-le-MOST_LINES
unfolding asked
returns-then-count-le-MOST_LINES c = simp (le-leb c.args.count 65536 c.if-count-le-MOST_LINES.true) c.put_load.ensures

pub returns : goal.returns
unfolding asked
returns c = simp (lt-leb c.args.count 65536 c.if-count-le-MOST_LINES.false) (with_room c.write_bad_line.ensures (omega arith))
