use mathlib.Core.Path.{refl}
use native.Mathlib.Omega.{arith}
use Rattle.predictorcorrector.specs.declared.PredictorCorrector.{PredictorCorrector}
use Rattle.predictorcorrector.specs.State.{initial_threshold_set}
use Rattle.pool_settings.specs.Settings.{initial_threshold}
use Rattle.pool_settings.proofs.Sameness.{initial_threshold_compared}
use Rattle.pool_settings.proofs.Steps.{found_room, set_same, set_other, set_refused}
use Rattle.pool_settings.proofs.krcf_pool_set_initial_threshold.Goals as goal

pub overflow_add-upto : goal.overflow_add-upto
overflow_add-upto c = record { fits = omega (arith, (found_room _ _ _ _ _ c.find.ensures _ c.in-At.is).0) }

pub returns-in-At : goal.returns-in-At
returns-in-At c =
    let a = c.args in
    set_other a.pool.now a.drawer _ a.initial (omega arith) (initial_threshold a.initial) (λ (s : PredictorCorrector). initial_threshold_set s a.initial) (λ (s : PredictorCorrector). refl)
    (initial_threshold_compared a.initial) _ c.find.ensures _ c.in-At.is _ _ c.krcf_chain_set_initial_threshold.auto.state c.krcf_chain_set_initial_threshold.ensures

pub returns-in-Same : goal.returns-in-Same
returns-in-Same c =
    let a = c.args in
    set_same a.pool.now a.drawer _ a.initial (omega arith) (initial_threshold a.initial) (λ (s : PredictorCorrector). initial_threshold_set s a.initial) (λ (s : PredictorCorrector). refl)
    (initial_threshold_compared a.initial) _ c.find.ensures c.in-Same.is

pub returns-in-Refused : goal.returns-in-Refused
returns-in-Refused c = set_refused _ _ _ _ _ _ c.find.ensures _ _ c.in-Refused.is c.number.ensures

pub slice_bounds-krcf_chain_set_initial_threshold-end : goal.slice_bounds-krcf_chain_set_initial_threshold-end
slice_bounds-krcf_chain_set_initial_threshold-end c =
    let r = found_room _ _ _ _ _ c.find.ensures _ c.in-At.is in
    omega (arith, r.0, r.1)
