use mathlib.Core.Path.{refl}
use native.Mathlib.Omega.{arith}
use Rattle.predictorcorrector.specs.declared.PredictorCorrector.{PredictorCorrector}
use Rattle.predictorcorrector.specs.State.{z_factor_set}
use Rattle.pool_settings.specs.Settings.{z_factor}
use Rattle.pool_settings.proofs.Sameness.{z_factor_compared}
use Rattle.pool_settings.proofs.Steps.{found_room, set_same, set_other, set_refused}
use Rattle.pool_settings.proofs.krcf_pool_set_z_factor.Goals as goal

pub overflow_add-upto : goal.overflow_add-upto
overflow_add-upto c = record { fits = omega (arith, (found_room _ _ _ _ _ c.find.ensures _ c.in-At.is).0) }

pub returns-in-At : goal.returns-in-At
returns-in-At c =
    let a = c.args in
    set_other a.pool.now a.drawer _ a.factor (omega arith) (z_factor a.factor) (λ (s : PredictorCorrector). z_factor_set s a.factor) (λ (s : PredictorCorrector). refl)
    (z_factor_compared a.factor) _ c.find.ensures _ c.in-At.is _ _ c.krcf_chain_set_z_factor.auto.state c.krcf_chain_set_z_factor.ensures

pub returns-in-Same : goal.returns-in-Same
returns-in-Same c =
    let a = c.args in
    set_same a.pool.now a.drawer _ a.factor (omega arith) (z_factor a.factor) (λ (s : PredictorCorrector). z_factor_set s a.factor) (λ (s : PredictorCorrector). refl)
    (z_factor_compared a.factor) _ c.find.ensures c.in-Same.is

pub returns-in-Refused : goal.returns-in-Refused
returns-in-Refused c = set_refused _ _ _ _ _ _ c.find.ensures _ _ c.in-Refused.is c.number.ensures

pub slice_bounds-krcf_chain_set_z_factor-end : goal.slice_bounds-krcf_chain_set_z_factor-end
slice_bounds-krcf_chain_set_z_factor-end c =
    let r = found_room _ _ _ _ _ c.find.ensures _ c.in-At.is in
    omega (arith, r.0, r.1)
