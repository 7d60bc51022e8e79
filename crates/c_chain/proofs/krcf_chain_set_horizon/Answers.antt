use mathlib.Core.Path.{sym, ◌∙◌}
use Rattle.c_chain.proofs.Steps.{horizon_set, horizon_refused, horizon_kept}
use Rattle.c_chain.proofs.krcf_chain_set_horizon.Goals as goal

pub returns-in-Ok-answer : goal.returns-in-Ok-answer
returns-in-Ok-answer c = horizon_set c.args.state.now _ (sym c.read_standing.ensures ∙ c.in-Ok.is) c.args.horizon _ c.set_score_differencing-set.ensures _ c.in-Ok-answer.is c.write_kept.ensures

pub returns-in-Err-answer : goal.returns-in-Err-answer
returns-in-Err-answer c = horizon_refused c.args.state.now _ (sym c.read_standing.ensures ∙ c.in-Ok.is) c.args.horizon _ c.set_score_differencing-set.ensures _ _ c.in-Err-answer.is c.number.ensures

pub returns-in-Err : goal.returns-in-Err
returns-in-Err c = horizon_kept c.args.state.now _ (sym c.read_standing.ensures ∙ c.in-Err.is) _ c.number-in-Err.ensures c.args.horizon
