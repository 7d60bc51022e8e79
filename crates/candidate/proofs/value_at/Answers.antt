use Rattle.std.proofs.Common.{sym, ◌∙◌}
use lib.ListN.{get_or-eq_default}
use lib.Ieee.{binary32, nan}
use Rattle.ieee.proofs.Nans.{quotient}
use Rattle.candidate.proofs.value_at.Goals as goal

pub returns : goal.returns
returns c = quotient binary32 ∙ sym (get_or-eq_default c.args.xs.now nan c.if-i-xs.false)
