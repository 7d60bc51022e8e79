use mathlib.Core.Path.{sym, ◌∙◌}
use Rattle.record_pool.proofs.Passing.{passes_size}
use Rattle.record_pool.proofs.Locating.{locate_broken, locate_absent, locate_there, slot_there}
use Rattle.record_pool.proofs.locate.Goals as goal

pub find-position-requires-clause-long : goal.find-position-requires-clause-long
find-position-requires-clause-long c = passes_size _ (sym c.rules_ok.ensures ∙ c.if-rules_ok.true)

pub returns-then-position-eq0 : goal.returns-then-position-eq0
returns-then-position-eq0 c = locate_absent _ _ _ c.rules_ok.ensures _ _ c.if-rules_ok.true c.find-position.ensures c.if-position-eq0.true

pub returns-then-rules_ok : goal.returns-then-rules_ok
returns-then-rules_ok c = locate_there _ _ _ c.rules_ok.ensures _ _ _ c.if-rules_ok.true c.find-position.ensures c.if-position-eq0.false c.slot_of.ensures

pub returns : goal.returns
returns c = locate_broken _ _ _ c.rules_ok.ensures c.if-rules_ok.false

pub slot_of-requires-clause-long : goal.slot_of-requires-clause-long
slot_of-requires-clause-long c = (slot_there _ _ _ _ _ c.rules_ok.ensures c.if-rules_ok.true c.find-position.ensures c.if-position-eq0.false).0

pub slot_of-requires-clause-most : goal.slot_of-requires-clause-most
slot_of-requires-clause-most c = (slot_there _ _ _ _ _ c.rules_ok.ensures c.if-rules_ok.true c.find-position.ensures c.if-position-eq0.false).1.1
