use mathlib.Core.Path.{◌∙◌}
use lib.ListN.{take}
use Rattle.record_pool.specs.Steps.{is_before}
use Rattle.record_pool.proofs.Apart.{any_same}
use Rattle.record_pool.proofs.is_before.Goals as goal

pub returns : goal.returns
unfolding is_before
returns c = c.contains.ensures.value ∙ any_same c.args.n (take c.args.k c.args.numbers)
