use native.Mathlib.Omega.{arith}
use Rattle.watched_rows.specs.Deciding.{next_number}
use Rattle.watched_rows.proofs.next_number.Goals as goal

pub returns-then-row-lt18446744073709551615 : goal.returns-then-row-lt18446744073709551615
unfolding next_number
returns-then-row-lt18446744073709551615 c = omega arith

pub returns : goal.returns
unfolding next_number
returns c = omega arith
