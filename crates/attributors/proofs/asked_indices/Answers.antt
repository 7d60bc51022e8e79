use borrow.Author.Rules.{rules}
use mathlib.Core.Path.{◌∙◌, sym}
use native.Mathlib.Omega.{arith}
use Rattle.attributors.specs.Attributors.{asked}
use Rattle.attributors.proofs.Laws.{row_of, asked_all, asked_none, likely_few}
use Rattle.attributors.proofs.asked_indices.Goals as goal

pub likely_missing_indices-found-requires : goal.likely_missing_indices-found-requires
likely_missing_indices-found-requires c = let r = row_of _ _ _ _ (sym c.row_fits.ensures ∙ c.if-row_fits.true) in search rules

pub overflow_mul-found : goal.overflow_mul-found
overflow_mul-found c =
    let a = c.args in
    let r = row_of _ _ _ _ (sym c.row_fits.ensures ∙ c.if-row_fits.true) in
    let n = likely_few a.high.now a.low.now a.position a.base _ c.likely_missing_indices-found.ensures r.few in
    omega arith

pub returns-then-found-high : goal.returns-then-found-high
unfolding asked
returns-then-found-high c =
    let a = c.args in
    rw (sym c.row_fits.ensures ∙ c.if-row_fits.true) (asked_all a.high.now a.low.now a.position a.base _ c.likely_missing_indices-found.ensures c.if-found-high.true)

pub returns-then-row_fits : goal.returns-then-row_fits
unfolding asked
returns-then-row_fits c =
    let a = c.args in
    rw (sym c.row_fits.ensures ∙ c.if-row_fits.true) (c.nothing.ensures ∙ asked_none a.high.now a.low.now a.position a.base _ c.likely_missing_indices-found.ensures c.if-found-high.false)
