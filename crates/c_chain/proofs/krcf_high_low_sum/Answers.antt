use mathlib.Core.Path.{◌∙◌, sym}
use Rattle.c_chain.proofs.Steps.{number_put, number_refused}
use Rattle.c_chain.proofs.krcf_high_low_sum.Goals as goal

pub returns-in-Ok : goal.returns-in-Ok
returns-in-Ok c = number_put _ c.args.out.now _ _ (sym c.high_low_sum.ensures ∙ c.in-Ok.is) c.put_f64.ensures

pub returns-in-Err : goal.returns-in-Err
returns-in-Err c = number_refused _ c.args.out.now _ _ (sym c.high_low_sum.ensures ∙ c.in-Err.is) c.number.ensures
