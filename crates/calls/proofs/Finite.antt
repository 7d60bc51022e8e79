-- A score whose anomaly lends no points. Assumes nothing.
use mathlib.Core.Path.{◌≡◌, refl}
use mathlib.Core.Bool.{Bool, true, false, ◌&&◌}

-- A test with nothing to follow it.
pub alone : (b : Bool) → b ≡ b && (true && true)
alone true = refl
alone false = refl
