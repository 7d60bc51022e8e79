use Rattle.std.proofs.Common.{ℕ, sym, subst}
use Rattle.ieee.specs.Steps.{Floored}
use Rattle.ieee.proofs.Flooring.{way_whole, way_zero, way_small, code_lt, code_part}
use Rattle.ieee.proofs.floor_magnitude.Goals as goal

-- `ieee::floor_magnitude` meets its contract: `proofs/Flooring.antt` has the four ways. Assumes nothing.

pub returns-then-field-ge150-clause-floored : goal.returns-then-field-ge150-clause-floored
returns-then-field-ge150-clause-floored c = way_whole c.args.a c.args.up c.requires.a_bound c.if-field-ge150.true

pub returns-then-field-ge127-clause-bound : goal.returns-then-field-ge127-clause-bound
returns-then-field-ge127-clause-bound c = code_lt c.args.a c.args.up c.requires.up_bound c.if-field-ge127.true c.if-field-ge150.false

pub returns-then-field-ge127-clause-floored : goal.returns-then-field-ge127-clause-floored
returns-then-field-ge127-clause-floored c = code_part c.args.a c.args.up c.requires.up_bound c.if-field-ge127.true c.if-field-ge150.false

pub returns-then-a-eq0-clause-floored : goal.returns-then-a-eq0-clause-floored
returns-then-a-eq0-clause-floored c = subst (λ (x : ℕ). Floored x c.args.up 0) (sym c.if-a-eq0.true) (way_zero c.args.up)

pub returns-else-a-eq0-clause-floored : goal.returns-else-a-eq0-clause-floored
returns-else-a-eq0-clause-floored c = way_small c.args.a c.args.up c.if-field-ge127.false c.if-a-eq0.false
