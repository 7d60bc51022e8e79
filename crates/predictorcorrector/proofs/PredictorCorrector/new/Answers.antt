use Rattle.std.proofs.Common.{false, sym, ap, ◌∙◌, Err}
use Rattle.std.proofs.lemmas.Result.{err_from_is_err_and}
use Rattle.types.specs.declared.Refusal.{Refusal}
use Rattle.basicthresholder.proofs.Laws.{made_ready, made_refused}
use Rattle.predictorcorrector.specs.State.{new}
use Rattle.predictorcorrector.proofs.PredictorCorrector.new.Goals as goal

pub fresh-requires-clause-fresh : goal.fresh-requires-clause-fresh
fresh-requires-clause-fresh c = (made_ready c.args.discount false _ (sym c.new.ensures ∙ c.in_ok-t.was)).1

pub returns-then-base_dimension : goal.returns-then-base_dimension
unfolding new
returns-then-base_dimension c = simp ((made_ready c.args.discount false _ (sym c.new.ensures ∙ c.in_ok-t.was)).0, c.if-base_dimension.true, c.fresh.ensures)

pub returns : goal.returns
unfolding new
returns c = simp ((made_ready c.args.discount false _ (sym c.new.ensures ∙ c.in_ok-t.was)).0, c.if-base_dimension.false)

pub returns-in_err-t : goal.returns-in_err-t
unfolding new
returns-in_err-t c =
    let e = err_from_is_err_and c.from_residual.result c.from_residual.ensures.1 in
    let m = made_refused c.args.discount false _ (sym c.new.ensures ∙ c.in_err-t.was) in
    rw m.0 (e.1 ∙ ap (λ (why : Refusal). Err why) (e.2 ∙ m.1))
