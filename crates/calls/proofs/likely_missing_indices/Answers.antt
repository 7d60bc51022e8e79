use Rattle.std.proofs.Common.{Ok, Err}
use Rattle.std.proofs.lemmas.Result.{err_from_is_err_and}
use mathlib.Core.Path.{sym, ap, ◌∙◌}
use Rattle.types.specs.declared.Refusal.{Refusal}
use Rattle.calls.specs.Calls.{likely_missing_indices, missing_by}
use Rattle.calls.specs.declared.Missing.{Missing}
use Rattle.calls.proofs.likely_missing_indices.Goals as goal

pub returns-in_err-missing_answer : goal.returns-in_err-missing_answer
unfolding likely_missing_indices missing_by
returns-in_err-missing_answer c =
    let e = err_from_is_err_and c.from_residual.result c.from_residual.ensures.1 in
    rw (sym c.missing_answer.ensures ∙ c.in_err-missing_answer.was) (e.1 ∙ ap (λ (why : Refusal). Err why) e.2)

pub returns : goal.returns
unfolding likely_missing_indices missing_by
returns c = rw (sym c.missing_answer.ensures ∙ c.in_ok-missing_answer.was) (ap (λ (m : Missing). Ok m) c.missing_within.ensures)
