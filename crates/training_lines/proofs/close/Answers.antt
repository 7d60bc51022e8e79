use Rattle.std.proofs.Common.{arith, eq-eqb, ne_eqb, le-leb}
use borrow.Author.Tests.{lt-leb}
use Rattle.score_rows.proofs.Bytes.{with_room}
use Rattle.training_lines.specs.Feeding.{closing}
use Rattle.training_lines.proofs.close.Goals as goal

pub returns-then-digits-eq-SEED_DIGITS : goal.returns-then-digits-eq-SEED_DIGITS
unfolding closing
returns-then-digits-eq-SEED_DIGITS c = simp (c.in-Seed.is, eq-eqb _ 16 c.if-digits-eq-SEED_DIGITS.true) (with_room c.write_bad_line.ensures (omega arith))

pub returns-then-digits-ge1 : goal.returns-then-digits-ge1
unfolding closing
returns-then-digits-ge1 c = simp (c.in-Count.is, le-leb 1 _ c.if-digits-ge1.true) c.put_asked.ensures

pub returns-else-digits-eq-SEED_DIGITS : goal.returns-else-digits-eq-SEED_DIGITS
unfolding closing
returns-else-digits-eq-SEED_DIGITS c = simp (c.in-Seed.is, ne_eqb _ 16 c.if-digits-eq-SEED_DIGITS.false) (with_room c.write_bad_line-in-Seed.ensures (omega arith))

pub returns-else-digits-ge1 : goal.returns-else-digits-ge1
unfolding closing
returns-else-digits-ge1 c = simp (c.in-Count.is, lt-leb 1 _ c.if-digits-ge1.false) (with_room c.write_bad_line-in-Count.ensures (omega arith))

pub returns-in-Both : goal.returns-in-Both
unfolding closing
returns-in-Both c = simp c.in-Both.is c.put_asked-in-Both.ensures

pub returns-in-Bad : goal.returns-in-Bad
unfolding closing
returns-in-Bad c = simp c.in-Bad.is (with_room c.write_bad_line-in-Bad.ensures (omega arith))
