use native.Mathlib.Omega.{arith}
use Rattle.pool_settings.proofs.Steps.{found_room, set_refused, horizon_same, horizon_other}
use Rattle.pool_settings.proofs.krcf_pool_set_horizon.Goals as goal

pub overflow_add-upto : goal.overflow_add-upto
overflow_add-upto c = record { fits = omega (arith, (found_room _ _ _ _ _ c.find.ensures _ c.in-At.is).0) }

pub returns-in-At : goal.returns-in-At
returns-in-At c =
    let a = c.args in
    horizon_other a.pool.now a.drawer a.horizon _ c.find.ensures _ c.in-At.is _ _ c.krcf_chain_set_horizon.auto.state c.krcf_chain_set_horizon.ensures

pub returns-in-Same : goal.returns-in-Same
returns-in-Same c = horizon_same c.args.pool.now c.args.drawer c.args.horizon _ c.find.ensures c.in-Same.is _ c.horizon_answer.ensures

pub returns-in-Refused : goal.returns-in-Refused
returns-in-Refused c = set_refused _ _ _ _ _ _ c.find.ensures _ _ c.in-Refused.is c.number.ensures

pub slice_bounds-krcf_chain_set_horizon-end : goal.slice_bounds-krcf_chain_set_horizon-end
slice_bounds-krcf_chain_set_horizon-end c =
    let r = found_room _ _ _ _ _ c.find.ensures _ c.in-At.is in
    omega (arith, r.0, r.1)
