use Rattle.ieee.proofs.Narrowing.{way_large, way_zero, low_lt, code_low, outside_low}
use Rattle.ieee.proofs.narrow_magnitude.Goals as goal

-- `ieee::narrow_magnitude` meets its contract: `proofs/Narrowing.antt` has its three ways. Assumes nothing.

pub returns-then-field-ge1151-clause-narrowed : goal.returns-then-field-ge1151-clause-narrowed
returns-then-field-ge1151-clause-narrowed c = way_large c.args.a c.requires.a_bound c.if-field-ge1151.true

pub returns-then-field-ge872-clause-bound : goal.returns-then-field-ge872-clause-bound
returns-then-field-ge872-clause-bound c = low_lt c.args.a _ c.half_even.ensures c.if-field-ge872.true (outside_low c.args.a c.requires.outside c.if-field-ge1151.false)

pub returns-then-field-ge872-clause-narrowed : goal.returns-then-field-ge872-clause-narrowed
returns-then-field-ge872-clause-narrowed c = code_low c.args.a _ c.half_even.ensures c.if-field-ge872.true (outside_low c.args.a c.requires.outside c.if-field-ge1151.false) c.requires.a_bound

pub returns-else-field-ge872-clause-narrowed : goal.returns-else-field-ge872-clause-narrowed
returns-else-field-ge872-clause-narrowed c = way_zero c.args.a c.requires.a_bound c.if-field-ge872.false
