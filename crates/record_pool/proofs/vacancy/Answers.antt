use mathlib.Core.Path.{sym, ◌∙◌}
use Rattle.record_pool.proofs.Passing.{passes_size}
use Rattle.record_pool.proofs.Locating.{vacancy_broken, vacancy_unnumbered, vacancy_taken, vacancy_full, vacancy_there, slot_spare}
use borrow.Author.Rules.{rules}
use Rattle.record_pool.proofs.vacancy.Goals as goal

pub find-position-requires-clause-long : goal.find-position-requires-clause-long
find-position-requires-clause-long c = passes_size _ (sym c.rules_ok.ensures ∙ c.if-rules_ok.true)

pub index_at-index-requires : goal.index_at-index-requires
index_at-index-requires c = let s = passes_size _ (sym c.rules_ok.ensures ∙ c.if-rules_ok.true) in search rules

pub returns-then-index-eq0 : goal.returns-then-index-eq0
returns-then-index-eq0 c = vacancy_full _ _ _ c.rules_ok.ensures _ _ _ _ c.if-rules_ok.true c.is_number.ensures c.if-is_number.true c.find-position.ensures c.if-position-eq0.true c.index_at-index.ensures c.if-index-eq0.true

pub returns-then-position-eq0 : goal.returns-then-position-eq0
returns-then-position-eq0 c = vacancy_there _ _ _ c.rules_ok.ensures _ _ _ _ c.if-rules_ok.true c.is_number.ensures c.if-is_number.true c.find-position.ensures c.if-position-eq0.true c.index_at-index.ensures _ c.if-index-eq0.false c.slot_of.ensures

pub returns-else-position-eq0 : goal.returns-else-position-eq0
returns-else-position-eq0 c = vacancy_taken _ _ _ c.rules_ok.ensures _ _ _ c.if-rules_ok.true c.is_number.ensures c.if-is_number.true c.find-position.ensures c.if-position-eq0.false

pub returns-else-is_number : goal.returns-else-is_number
returns-else-is_number c = vacancy_unnumbered _ _ _ c.rules_ok.ensures _ c.if-rules_ok.true c.is_number.ensures c.if-is_number.false

pub returns : goal.returns
returns c = vacancy_broken _ _ _ c.rules_ok.ensures c.if-rules_ok.false

pub slot_of-requires-clause-long : goal.slot_of-requires-clause-long
slot_of-requires-clause-long c = (slot_spare _ _ _ c.rules_ok.ensures c.if-rules_ok.true c.index_at-index.ensures c.if-index-eq0.false).0

pub slot_of-requires-clause-most : goal.slot_of-requires-clause-most
slot_of-requires-clause-most c = (slot_spare _ _ _ c.rules_ok.ensures c.if-rules_ok.true c.index_at-index.ensures c.if-index-eq0.false).1.1
