-- The coordinates read are enough: they settle both scans, whatever stands at the others, and the last of them decides.
use Rattle.std.specs.Prelude.{◌≡◌, ℕ, ◌+◌, ◌-◌, ◌<◌, ◌≤◌, true, false, cond, not, List, length, Float}
use Rattle.uncertainty_box.specs.Const.{zero32, one}
use Rattle.uncertainty_box.specs.Scan.{nth}
use Rattle.uncertainty_box.specs.Box as Box
use Rattle.uncertainty_box.specs.Pass as Pass

-- Two points of one length that have the same coordinates where the scan of the first one reads get the same pass, by as many coordinates.
abbrev pub PassSettled : Type 0
PassSettled =
    (base : ℕ) (scale shift deviations point point' : List Float)
    → length point' ≡ length point
    → ((i : ℕ) → i < Pass.coordinates_read base scale shift deviations point → nth point' i ≡ nth point i)
    → (Pass.centered_transform_pass base scale shift deviations point' ≡ Pass.centered_transform_pass base scale shift deviations point)
    × (Pass.coordinates_read base scale shift deviations point' ≡ Pass.coordinates_read base scale shift deviations point)

-- The same of the box and the two points held against it.
abbrev pub BoxSettled : Type 0
BoxSettled =
    (box : List Float) (start : ℕ) (scale point other point' other' : List Float)
    → length point' ≡ length point
    → length other' ≡ length other
    → ((y : ℕ) → y < Box.coordinates_read box start scale point other → (nth point' (start + y) ≡ nth point (start + y)) × (nth other' (start + y) ≡ nth other (start + y)))
    → (Box.within_unertainty_box box start scale point' other' ≡ Box.within_unertainty_box box start scale point other)
    × (Box.coordinates_read box start scale point' other' ≡ Box.coordinates_read box start scale point other)

-- One is read at least, and all at most; none before the last one read is over its line, and the factor is 1 exactly where that one is.
abbrev pub PassDecided : Type 0
PassDecided =
    (base : ℕ) (scale shift deviations point : List Float)
    → Pass.passable base (length scale) (length shift) (length deviations) (length point) ≡ true
    → (0 < Pass.coordinates_read base scale shift deviations point)
    × (Pass.coordinates_read base scale shift deviations point ≤ length point)
    × ((i : ℕ) → i + 1 < Pass.coordinates_read base scale shift deviations point → Pass.over_at base scale shift point i ≡ false)
    × (Pass.centered_transform_pass base scale shift deviations point
    ≡ cond (Pass.over_at base scale shift point (Pass.coordinates_read base scale shift deviations point - 1)) one zero32)

-- The same of a box that is not empty: none before the last coordinate read is outside, and the point is within the box exactly where that one is not.
abbrev pub BoxDecided : Type 0
BoxDecided =
    (box : List Float) (start : ℕ) (scale point other : List Float)
    → Box.box_fits (length box) start (length scale) (length point) (length other) ≡ true
    → 0 < length box
    → (0 < Box.coordinates_read box start scale point other)
    × (Box.coordinates_read box start scale point other ≤ length box)
    × ((y : ℕ) → y + 1 < Box.coordinates_read box start scale point other → Box.outside_at box start scale point other y ≡ false)
    × (Box.within_unertainty_box box start scale point other ≡ not (Box.outside_at box start scale point other (Box.coordinates_read box start scale point other - 1)))
