-- predictorcorrector.rs: the uncertainty box, and what lies within it. Definitions only.
use Rattle.std.specs.Prelude.{ℕ, zero, suc, ◌+◌, ◌-◌, ◌*◌, ◌/◌, Bool, cond, not, ◌&&◌, ◌||◌, List, length, take, drop, pos, ◌==◌, nat_le, nat_lt, Float}
use Rattle.std.specs.Float.Ieee as Ieee
use Rattle.std.specs.Float.{binary32}
use Rattle.scan.specs.Read.{read_until}
use Rattle.util.specs.Util.{maxf32, absf32}
use Rattle.uncertainty_box.specs.Const.{zero32, precision, noise_factor, sampling_support}
use Rattle.uncertainty_box.specs.Scan.{nth, some, count, listed}

-- Strictly beyond an edge: a < b - edge or a > b + edge, of the scaled coordinates a and b. False where one of them is NaN.
unfoldable pub outside : Float → Float → Float → Float → Bool
outside edge scale p q =
    let a = Ieee.mul binary32 scale p in
    let b = Ieee.mul binary32 scale q in
    Ieee.lt a (Ieee.sub binary32 b edge) || Ieee.lt (Ieee.add binary32 b edge) a

-- The same at coordinate y of the box, which is coordinate start + y of the points.
unfoldable pub outside_at : List Float → ℕ → List Float → List Float → List Float → ℕ → Bool
outside_at box start scale point other y = outside (nth box y) (nth scale y) (nth point (start + y)) (nth other (start + y))

-- No coordinate is outside. False where scale, or a point from start on, is shorter than the box.
unfoldable pub within_unertainty_box : List Float → ℕ → List Float → List Float → List Float → Bool
within_unertainty_box box start scale point other =
    nat_le (length box) (length scale)
    && nat_le (length box) (length point - start)
    && nat_le (length box) (length other - start)
    && not (some (length box) (outside_at box start scale point other))

-- Neither scale nor a point from start on is shorter than the box.
unfoldable pub box_fits : ℕ → ℕ → ℕ → ℕ → ℕ → Bool
box_fits edges start scales points others = nat_le edges scales && nat_le edges (points - start) && nat_le edges (others - start)

-- How many coordinates of the box are read: up to the first one outside, else all. None unless `box_fits`.
unfoldable pub coordinates_read : List Float → ℕ → List Float → List Float → List Float → ℕ
coordinates_read box start scale point other =
    cond (box_fits (length box) start (length scale) (length point) (length other))
    (read_until (length box) (outside_at box start scale point other))
    0

-- What one row adds to the variation: how far the next row is from it, or, of differences, its own size.
unfoldable pub path_step : Bool → Float → Float → Float
path_step differenced here next = cond differenced (absf32 here) (absf32 (Ieee.sub binary32 here next))

-- variation / observation, and 0 of none.
unfoldable pub path_mean : Float → ℕ → Float
path_mean variation observation = cond (observation == 0) zero32 (Ieee.div binary32 variation (Ieee.of_int binary32 (pos observation)))

-- The loop of calculate_path_deviation from its three variables on, for at most `fuel` turns.
unfoldable pub path_loop : ℕ → List Float → ℕ → ℕ → Bool → ℕ → Float → ℕ → Float
path_loop zero point index base differenced position variation observation = path_mean variation observation
path_loop (suc fuel) point index base differenced position variation observation =
    cond (nat_lt (position + index + base) (length point))
    (path_loop fuel point index base differenced (position + base)
    (Ieee.add binary32 variation (path_step differenced (nth point (position + index)) (nth point (position + base + index))))
    (observation + 1))
    (path_mean variation observation)

-- calculate_path_deviation: a turn for each element is more than enough. 0 where base is 0, or the point has more than 65,536 coordinates.
unfoldable pub path_deviation : List Float → ℕ → ℕ → ℕ → Bool → Float
path_deviation point start index base differenced =
    cond (nat_lt 0 base && nat_le (length point) 65536)
    (path_loop (length point) point index base differenced start zero32 0)
    zero32

-- An edge of the box: the larger of path gap and noise gap, and the shift's share on top.
unfoldable pub edge_of : Float → Float → Float → Float → Float
edge_of scale path_gap shift deviation =
    Ieee.add binary32
    (maxf32 (Ieee.mul binary32 scale path_gap) (Ieee.mul binary32 noise_factor deviation))
    (Ieee.mul binary32 (Ieee.mul binary32 precision scale) (absf32 shift))

-- Edge y of a box of `base` edges.
unfoldable pub edge_at : ℕ → List Float → ℕ → List Float → List Float → List Float → Bool → ℕ → Float
edge_at base point start scale shift deviations differenced y =
    edge_of (nth scale y) (path_deviation point start y base differenced) (nth shift y) (nth deviations y)

-- construct_uncertainty_box: every edge, over a buffer of base elements. The buffer as it was where scale, shift or deviations is shorter than it.
unfoldable pub uncertainty_box : List Float → ℕ → List Float → List Float → List Float → Bool → List Float → List Float
uncertainty_box point start scale shift deviations differenced out =
    cond (nat_le (length out) (length scale) && nat_le (length out) (length shift) && nat_le (length out) (length deviations))
    (listed (length out) (edge_at (length out) point start scale shift deviations differenced))
    out

-- The point of neighbour k, of those that stand one after the other, each `dimension` long.
unfoldable pub point_at : ℕ → ℕ → List Float → List Float
point_at dimension k neighbours = take dimension (drop (k * dimension) neighbours)

-- Whether neighbour k has the point within its box.
unfoldable pub neighbour_within : List Float → List Float → ℕ → List Float → List Float → ℕ → ℕ → Bool
neighbour_within box point start scale neighbours dimension k = within_unertainty_box box start scale point (point_at dimension k neighbours)

-- weight >= 0.1 * total, as f32.
unfoldable pub supported : ℕ → ℕ → Bool
supported weight total = Ieee.le (Ieee.mul binary32 sampling_support (Ieee.of_int binary32 (pos total))) (Ieee.of_int binary32 (pos weight))

-- n elements are whole points of the dimension, and no more than 65,536 of them.
unfoldable pub whole_points : ℕ → ℕ → Bool
whole_points n dimension = nat_lt 0 dimension && nat_le (n / dimension) 65536 && n / dimension * dimension == n

-- explained_by_conditional_field: a tenth of the neighbours or more have the point within their box. False where they are no whole points, or too many.
unfoldable pub explained_by_conditional_field : List Float → List Float → ℕ → List Float → List Float → ℕ → Bool
explained_by_conditional_field box point start scale neighbours dimension =
    whole_points (length neighbours) dimension
    && supported
    (count (length neighbours / dimension) (neighbour_within box point start scale neighbours dimension))
    (length neighbours / dimension)
