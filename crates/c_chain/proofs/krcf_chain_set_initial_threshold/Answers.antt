use mathlib.Core.Path.{sym, ◌∙◌}
use Rattle.basicthresholder.specs.declared.BasicThresholder.{BasicThresholder}
use Rattle.basicthresholder.specs.Updates.{with_initial_threshold}
use Rattle.c_chain.proofs.Steps.{chain_set_lem, chain_kept}
use Rattle.c_chain.proofs.krcf_chain_set_initial_threshold.Goals as goal

pub returns-in-Ok : goal.returns-in-Ok
returns-in-Ok c = chain_set_lem c.args.state.now _ (sym c.read_standing.ensures ∙ c.in-Ok.is) (λ (t : BasicThresholder). with_initial_threshold t c.args.initial) _ _ c.set_initial_threshold.ensures c.write_kept.ensures

pub returns-in-Err : goal.returns-in-Err
returns-in-Err c = chain_kept c.args.state.now _ (sym c.read_standing.ensures ∙ c.in-Err.is) _ c.number.ensures _
