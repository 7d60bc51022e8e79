use Rattle.std.proofs.Common.{Err}
use Rattle.std.proofs.lemmas.Result.{err_from_is_err_and}
use mathlib.Core.Path.{sym, ap, ◌∙◌}
use Rattle.types.specs.declared.Refusal.{Refusal}
use Rattle.c_calls.specs.Forest.{asked_by, asked_over}
use Rattle.c_calls.proofs.asked_over.Goals as goal

pub returns-in_err-call : goal.returns-in_err-call
unfolding asked_over asked_by
returns-in_err-call c =
    let e = err_from_is_err_and c.from_residual.result c.from_residual.ensures.1 in
    e.1 ∙ ap (λ (why : Refusal). Err why) e.2 ∙ ap asked_by (sym c.in_err-call.was ∙ c.read_call.ensures)

pub returns : goal.returns
unfolding asked_over asked_by
returns c = c.asked_of_forest.ensures ∙ ap asked_by (sym c.in_ok-call.was ∙ c.read_call.ensures)
