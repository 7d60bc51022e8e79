use mathlib.Core.Path.{◌∙◌}
use Rattle.layout.proofs.Words.{flag_is}
use Rattle.c_calls.specs.Forest.{numbered}
use Rattle.c_calls.proofs.Stores.{stores_five}
use Rattle.c_calls.proofs.put_asked.Goals as goal

pub returns : goal.returns
unfolding numbered
returns c = stores_five _ _ _ _ _ c.args.out.now c.requires ∙ simp (c.from.ensures, c.from-2.ensures, c.from-3.ensures, c.from-4.ensures, flag_is)
