-- The states of a thresholder that calls reach. Definitions only.
use Rattle.std.specs.Prelude.{◌≡◌, Bool, false, Float, Ok}
use Rattle.deviation.specs.Const.{zero64}
use Rattle.basicthresholder.specs.Updates.{fresh_thresholder, new_adjustible, update_threshold, update_primary, update_both, update, with_z_factor, with_lower_threshold, with_absolute_threshold, with_initial_threshold, set_score_differencing}
use Rattle.basicthresholder.specs.declared.BasicThresholder.{BasicThresholder}

-- Every public construction, update and setter, each by the definition that its contract names, with any numbers. A refused update or setter hands its state back, and
-- that is reached too. `new` is `new_adjustible` without adjusting. Judging does no more to a thresholder than `update` or `update_primary` (crate judged_grades).
pub data Reached : BasicThresholder → Type 0 where
  new_adjustible_call : {s : BasicThresholder} (discount : Float) (adjust : Bool) → new_adjustible discount adjust ≡ Ok s → Reached s
  default : Reached (fresh_thresholder zero64 false)
  update_threshold_call : {s : BasicThresholder} (score : Float) → Reached s → Reached (update_threshold s score).state
  update_primary_call : {s : BasicThresholder} (score : Float) → Reached s → Reached (update_primary s score).state
  update_both_call : {s : BasicThresholder} (primary secondary : Float) → Reached s → Reached (update_both s primary secondary).state
  update_capped : {s : BasicThresholder} (primary secondary last : Float) → Reached s → Reached (update s primary secondary last).state
  set_z_factor : {s : BasicThresholder} (factor : Float) → Reached s → Reached (with_z_factor s factor)
  set_lower_threshold : {s : BasicThresholder} (lower : Float) → Reached s → Reached (with_lower_threshold s lower)
  set_absolute_threshold : {s : BasicThresholder} (value : Float) → Reached s → Reached (with_absolute_threshold s value)
  set_initial_threshold : {s : BasicThresholder} (initial : Float) → Reached s → Reached (with_initial_threshold s initial)
  set_score_differencing_call : {s : BasicThresholder} (horizon : Float) → Reached s → Reached (set_score_differencing s horizon).state
