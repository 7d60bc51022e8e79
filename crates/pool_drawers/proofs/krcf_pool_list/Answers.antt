use mathlib.Core.Path.{sym, ◌∙◌}
use Rattle.pool_drawers.proofs.Calls.{list_done, list_broken, list_short}
use Rattle.pool_drawers.proofs.krcf_pool_list.Goals as goal

pub returns-in-Some : goal.returns-in-Some
returns-in-Some c = list_done _ c.args.numbers.now _ _ c.if-numbers-eq30.true (sym c.in-Some.is ∙ c.listing.ensures) c.copy_from_slice.ensures.after

pub returns-in-None : goal.returns-in-None
returns-in-None c = list_broken _ c.args.numbers.now (sym c.in-None.is ∙ c.listing.ensures)

pub returns : goal.returns
returns c = list_short _ c.args.numbers.now c.if-numbers-eq30.false
