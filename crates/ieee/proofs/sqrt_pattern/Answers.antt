use Rattle.std.proofs.Common.{arith}
use lib.Ieee.{binary64, of_bits}
use Rattle.ieee.proofs.Rooting.{zeros_ge, low_ge, low_lt, low_value, high_value}
use Rattle.ieee.proofs.sqrt_pattern.Goals as goal

-- `ieee::sqrt_pattern` meets its contract. Assumes nothing.

pub overflow_sub-z : goal.overflow_sub-z
overflow_sub-z c = zeros_ge c.args.b c.requires.b_nonzero c.if-field-eq0.true

pub overflow_add-q : goal.overflow_add-q
overflow_add-q c = record { fits = omega (arith, low_lt c.args.b c.requires.b_nonzero c.if-field-eq0.true) }

pub root_pattern-requires-clause-q_least : goal.root_pattern-requires-clause-q_least
root_pattern-requires-clause-q_least c = low_ge c.args.b c.requires.b_nonzero c.if-field-eq0.true

pub root_pattern-requires-clause-q_bound : goal.root_pattern-requires-clause-q_bound
root_pattern-requires-clause-q_bound c = low_lt c.args.b c.requires.b_nonzero c.if-field-eq0.true

pub root_pattern-requires-clause-p_bound : goal.root_pattern-requires-clause-p_bound
root_pattern-requires-clause-p_bound c = let l = low_lt c.args.b c.requires.b_nonzero c.if-field-eq0.true in omega (arith, l)

pub returns-then-field-eq0-clause-root : goal.returns-then-field-eq0-clause-root
returns-then-field-eq0-clause-root c = c.root_pattern.ensures.rooted (of_bits binary64 c.args.b) (low_value c.args.b c.requires.b_nonzero c.if-field-eq0.true)

pub returns-else-field-eq0-clause-root : goal.returns-else-field-eq0-clause-root
returns-else-field-eq0-clause-root c = c.root_pattern-else-field-eq0.ensures.rooted (of_bits binary64 c.args.b) (high_value c.args.b c.if-field-eq0.false c.requires.b_bound)
