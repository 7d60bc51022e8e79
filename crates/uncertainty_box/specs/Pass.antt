-- predictorcorrector.rs: centered_transform_pass. Definitions only.
use Rattle.std.specs.Prelude.{ℕ, zero, suc, ◌+◌, ◌-◌, ◌%◌, Bool, cond, ◌&&◌, List, length, nat_le, nat_lt, Float}
use Rattle.std.specs.Float.Ieee as Ieee
use Rattle.std.specs.Float.{binary32}
use Rattle.scan.specs.Read.{read_until}
use Rattle.util.specs.Util.{maxf32, minf32, absf32}
use Rattle.uncertainty_box.specs.Const.{zero32, one, three, precision, noise_factor}
use Rattle.uncertainty_box.specs.Scan.{nth, some}

-- Whether a coordinate is over its precision line.
unfoldable pub over_line : Float → Float → Float → Bool
over_line coordinate scale shift =
    Ieee.lt (Ieee.mul binary32 precision (Ieee.add binary32 one (absf32 shift))) (Ieee.mul binary32 (absf32 coordinate) scale)

-- The same at coordinate i of the point.
unfoldable pub over_at : ℕ → List Float → List Float → List Float → ℕ → Bool
over_at base scale shift point i = over_line (nth point i) (nth scale (i % base)) (nth shift (i % base))

-- One turn of the second loop: the factor against a coordinate z of the newest row and its deviation.
unfoldable pub noise_step : Float → Float → Float → Float
noise_step factor z dev =
    cond (Ieee.lt (Ieee.mul binary32 noise_factor dev) z)
    (minf32 one (maxf32 factor (Ieee.div binary32 z (Ieee.mul binary32 three dev))))
    factor

-- The factor after the first n turns of the second loop.
unfoldable pub noise_loop : ℕ → ℕ → List Float → List Float → List Float → Float → Float
noise_loop zero base scale deviations point factor = factor
noise_loop (suc i) base scale deviations point factor =
    noise_step
    (noise_loop i base scale deviations point factor)
    (Ieee.mul binary32 (absf32 (nth point (length point - base + i))) (nth scale i))
    (maxf32 zero32 (nth deviations i))

-- The second loop, run only where the first one left a factor above 0.
unfoldable pub noise_pass : ℕ → List Float → List Float → List Float → Float → Float
noise_pass base scale deviations point factor = cond (Ieee.lt zero32 factor) (noise_loop base base scale deviations point factor) factor

-- No index runs out: base is not 0, and nothing is shorter than it.
unfoldable pub passable : ℕ → ℕ → ℕ → ℕ → ℕ → Bool
passable base scales shifts deviations points = nat_lt 0 base && nat_le base scales && nat_le base shifts && nat_le base deviations && nat_le base points

-- centered_transform_pass: 0 unless a coordinate is over its line, then what the second loop makes of 1. 0 where an index would run out.
unfoldable pub centered_transform_pass : ℕ → List Float → List Float → List Float → List Float → Float
centered_transform_pass base scale shift deviations point =
    cond (passable base (length scale) (length shift) (length deviations) (length point))
    (noise_pass base scale deviations point (cond (some (length point) (over_at base scale shift point)) one zero32))
    zero32

-- How many coordinates its first loop reads: up to the first one over its line, else all. None unless `passable`.
unfoldable pub coordinates_read : ℕ → List Float → List Float → List Float → List Float → ℕ
coordinates_read base scale shift deviations point =
    cond (passable base (length scale) (length shift) (length deviations) (length point))
    (read_until (length point) (over_at base scale shift point))
    0
