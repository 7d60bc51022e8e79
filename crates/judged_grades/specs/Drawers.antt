-- The states of a drawer that calls reach. Definitions only.
use Rattle.std.specs.Prelude.{ℕ, ◌≡◌, Bool, List, Float, Ok}
use Rattle.predictorcorrector.specs.State as State
use Rattle.predictorcorrector.specs.State.{z_factor_set, lower_threshold_set, initial_threshold_set, set_horizon}
use Rattle.predictorcorrector.specs.declared.PredictorCorrector.{PredictorCorrector}
use Rattle.calls.specs.Calls.{update_auto_adjust}
use Rattle.demand3.specs.Calls.{Judging, Contract}

-- An accepted construction, the setters, `update_auto_adjust` and judging, each by what its contract says, with any inputs. A refused call leaves the state that it took.
pub data ReachedDrawer : PredictorCorrector → Type 0 where
  new : {s : PredictorCorrector} (discount : Float) (auto : Bool) (base : ℕ) → State.new discount auto base ≡ Ok s → ReachedDrawer s
  set_z_factor : {s : PredictorCorrector} (factor : Float) → ReachedDrawer s → ReachedDrawer (z_factor_set s factor)
  set_lower_threshold : {s : PredictorCorrector} (lower : Float) → ReachedDrawer s → ReachedDrawer (lower_threshold_set s lower)
  set_initial_threshold : {s : PredictorCorrector} (initial : Float) → ReachedDrawer s → ReachedDrawer (initial_threshold_set s initial)
  set_horizon_call : {s : PredictorCorrector} (horizon : Float) → ReachedDrawer s → ReachedDrawer (set_horizon s horizon).state
  update_auto_adjust_call : {s : PredictorCorrector} (shingle_size : ℕ) (point : List Float) → ReachedDrawer s → ReachedDrawer (update_auto_adjust s shingle_size point).state
  judged : {s : PredictorCorrector} (c : Judging) → Contract s c → ReachedDrawer s → ReachedDrawer c.judgment.state
