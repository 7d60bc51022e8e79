use mathlib.Core.Path.{sym, ◌∙◌}
use native.Mathlib.Nat.{zero-mul}
use Rattle.calls.specs.Calls.{missing_within, block_of}
use Rattle.calls.proofs.Indices.{block_inside}
use borrow.Author.Rules.{rules}
use Rattle.calls.proofs.missing_within.Goals as goal

pub overflow_mul-block : goal.overflow_mul-block
overflow_mul-block c =
    let a = c.args in
    let i = block_inside a.high.now a.low.now a.base a.gap (sym c.max_gap_contribution-found.ensures ∙ c.in-Ok.is) in
    search rules

pub returns-in-Ok : goal.returns-in-Ok
unfolding missing_within block_of
returns-in-Ok c = rw (sym c.max_gap_contribution-found.ensures ∙ c.in-Ok.is) c.missing_at.ensures

pub returns-in-Err : goal.returns-in-Err
unfolding missing_within block_of
returns-in-Err c = rw (sym c.max_gap_contribution-found.ensures ∙ c.in-Err.is, zero-mul) c.missing_at-in-Err.ensures
