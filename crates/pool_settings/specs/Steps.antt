-- What this crate's private functions promise each other. A reader need not read it: no public contract mentions it.
use Rattle.std.specs.Prelude.{ℕ, ◌+◌, cond, List, Float, Result, Ok, Err}
use Rattle.types.specs.Refusals.{number}
use Rattle.types.specs.declared.Refusal.TheVariants.{Horizon}
use Rattle.basicthresholder.specs.Updates.{is_horizon}
use Rattle.layout.specs.Numbers.{f32_at}
use Rattle.record_pool.specs.Pool.{locate}
use Rattle.pool_settings.specs.Sameness.{same_float}
use Rattle.pool_settings.specs.declared.Found.{Found}
use Rattle.pool_settings.specs.declared.Found.TheVariants.{At, Same, Refused}
use Rattle.record_pool.specs.declared.Slot.{Slot}
use Rattle.types.specs.declared.Refusal.{Refusal}

-- The number at place k of a drawer's state against x.
abbrev pub found_by : Result Slot Refusal → List ℕ → ℕ → Float → Found
found_by (Ok s) xs k x = cond (same_float (f32_at xs (s.state + k)) x) Same (At s.state)
found_by (Err why) xs k x = Refused why

unfoldable pub found : List ℕ → ℕ → ℕ → Float → Found
found xs d k x = found_by (locate xs d) xs k x

unfoldable pub horizon_answer : Float → ℕ
horizon_answer x = cond (is_horizon x) 0 (number Horizon)
