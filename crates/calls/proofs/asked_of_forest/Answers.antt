use Rattle.std.proofs.Common.{Ok, Err}
use Rattle.std.proofs.lemmas.Result.{err_from_is_err_and}
use mathlib.Core.Path.{sym, ap, ◌∙◌}
use Rattle.types.specs.declared.Refusal.{Refusal}
use Rattle.calls.specs.Calls.{asked_of_forest, asked_by}
use Rattle.calls.specs.declared.Asked.{Asked}
use Rattle.calls.proofs.asked_of_forest.Goals as goal

pub returns-in_err-asked_answer : goal.returns-in_err-asked_answer
unfolding asked_of_forest asked_by
returns-in_err-asked_answer c =
    let e = err_from_is_err_and c.from_residual.result c.from_residual.ensures.1 in
    rw (sym c.asked_answer.ensures ∙ c.in_err-asked_answer.was) (e.1 ∙ ap (λ (why : Refusal). Err why) e.2)

pub returns : goal.returns
unfolding asked_of_forest asked_by
returns c = rw (sym c.asked_answer.ensures ∙ c.in_ok-asked_answer.was) (ap (λ (a : Asked). Ok a) (rw c.gap.ensures at c.asked_after.ensures))
