-- What callers and readers may take from the definitions. Assumes nothing.
use Rattle.std.proofs.Common.{◌≡◌, ℕ, zero, suc, ◌-◌, ◌%◌, ◌<◌, ◌≤◌, Bool, true, false, cond, ◌&&◌, eqb, ltb, leb, List, length, sym, refl, ap, ◌∙◌, arith, ltb-true, leb-true}
use mathlib.Core.Bool.{and-false}
use lib.Ieee as Ieee
use lib.Ieee.{Float, binary32, of_bits}
use Rattle.scan.specs.Read.{read_until}
use Rattle.util.specs.Util.{maxf32, minf32}
use Rattle.uncertainty_box.specs.Const.{zero32, one, noise_factor}
use Rattle.uncertainty_box.specs.Scan.{nth, some, listed}
use Rattle.uncertainty_box.specs.Box.{outside_at, within_unertainty_box, box_fits, path_deviation, edge_of, edge_at, uncertainty_box, neighbour_within, supported, whole_points, explained_by_conditional_field}
use Rattle.uncertainty_box.specs.Box as Box
use Rattle.uncertainty_box.specs.Pass as Pass
use Rattle.uncertainty_box.specs.Pass.{over_line, over_at, noise_step, noise_loop, noise_pass, passable, centered_transform_pass}
use Rattle.uncertainty_box.proofs.Scans.{some_at, read_here, read_all, listed_length}

module _ (box : List Float) (start : ℕ) (scale point other : List Float) where
  -- One coordinate outside settles the full scan, whatever the others are: the first one may end it.
  pub within_outside : (y : ℕ) → y < length box → outside_at box start scale point other y ≡ true → within_unertainty_box box start scale point other ≡ false
  unfolding within_unertainty_box
  within_outside y h e = rw (some_at (outside_at box start scale point other) (length box) y h e, and-false)

  pub within_none : box_fits (length box) start (length scale) (length point) (length other) ≡ true → some (length box) (outside_at box start scale point other) ≡ false → within_unertainty_box box start scale point other ≡ true
  unfolding within_unertainty_box box_fits
  within_none p e = rw (p, e)

  pub within_unfit : box_fits (length box) start (length scale) (length point) (length other) ≡ false → within_unertainty_box box start scale point other ≡ false
  unfolding within_unertainty_box box_fits
  within_unfit e = rw e

  pub box_read_unfit : box_fits (length box) start (length scale) (length point) (length other) ≡ false → 0 ≡ Box.coordinates_read box start scale point other
  unfolding Box.coordinates_read
  box_read_unfit e = rw e

  module _ (p : box_fits (length box) start (length scale) (length point) (length other) ≡ true) where
    -- How many are read where the first coordinate outside is y, and where there is none.
    pub box_read_outside : (y r : ℕ) → y < length box → some y (outside_at box start scale point other) ≡ false → outside_at box start scale point other y ≡ true → r ≡ read_until (length box) (eqb y) → r ≡ Box.coordinates_read box start scale point other
    unfolding Box.coordinates_read
    box_read_outside y r h none e q = q ∙ rw p (read_here (outside_at box start scale point other) (length box) y h none e)

    pub box_read_all : some (length box) (outside_at box start scale point other) ≡ false → length box ≡ Box.coordinates_read box start scale point other
    unfolding Box.coordinates_read
    box_read_all none = rw p (sym (read_all (outside_at box start scale point other) (length box) none))

and_left : (a b : Bool) → (a && b) ≡ true → a ≡ true
and_left true b e = refl
and_left false b e = e

and_right : (a b : Bool) → (a && b) ≡ true → b ≡ true
and_right true b e = e
and_right false b e = cc

-- What `box_fits` says.
pub box_fits_holds : (edges start scales points others : ℕ) → box_fits edges start scales points others ≡ true → (edges ≤ scales) × (edges ≤ points - start) × (edges ≤ others - start)
unfolding box_fits
box_fits_holds edges start scales points others e =
    let a = and_left _ _ e in
    (leb-true edges scales (and_left _ _ a), leb-true edges (points - start) (and_right (leb edges scales) _ a), leb-true edges (others - start) (and_right (leb edges scales && leb edges (points - start)) _ e))

same : {A : Type 0} (a : A) (b : Bool) → cond b a a ≡ a
same a true = refl
same a false = refl

-- The smaller of a and the larger of a and x is a, of a NaN too.
pub min_max : (a x : Float) → minf32 a (maxf32 a x) ≡ a
unfolding minf32 maxf32
min_max a x = by_test (Ieee.lt a x) refl
  where
    by_test : (b : Bool) → Ieee.lt a x ≡ b → cond (Ieee.lt a (cond b x a)) a (cond b x a) ≡ a
    by_test true e = rw e
    by_test false e = same a (Ieee.lt a a)

-- The second loop leaves 1 as it is.
noise_step_lem : (z dev : Float) → noise_step one z dev ≡ one
unfolding noise_step
noise_step_lem z dev = rw min_max (same one (Ieee.lt (Ieee.mul binary32 noise_factor dev) z))

module _ (base : ℕ) (scale deviations point : List Float) where
  pub noise_loop_lem : (n : ℕ) → noise_loop n base scale deviations point one ≡ one
  unfolding noise_loop
  noise_loop_lem zero = refl
  noise_loop_lem (suc n) = rw (noise_loop_lem n) (noise_step_lem _ _)

  pub noise_pass_lem : (b : Bool) → noise_pass base scale deviations point (cond b one zero32) ≡ cond b one zero32
  unfolding noise_pass of_bits Ieee.lt
  noise_pass_lem true = noise_loop_lem base
  noise_pass_lem false = refl

module _ (base : ℕ) (scale shift deviations point : List Float) where
  -- So the first loop alone decides, and the answer is 0 or 1.
  pub centered_is :
      centered_transform_pass base scale shift deviations point
      ≡ cond (passable base (length scale) (length shift) (length deviations) (length point)) (cond (some (length point) (over_at base scale shift point)) one zero32) zero32
  unfolding centered_transform_pass
  centered_is = rw noise_pass_lem

  -- One coordinate over its line settles it, whatever the others are: the first one may end the scan.
  pub centered_over : (i : ℕ) → passable base (length scale) (length shift) (length deviations) (length point) ≡ true → i < length point → over_at base scale shift point i ≡ true → centered_transform_pass base scale shift deviations point ≡ one
  centered_over i p h e = centered_is ∙ rw (p, some_at (over_at base scale shift point) (length point) i h e)

  pub centered_none : some (length point) (over_at base scale shift point) ≡ false → centered_transform_pass base scale shift deviations point ≡ zero32
  centered_none e = centered_is ∙ rw e (same zero32 (passable base (length scale) (length shift) (length deviations) (length point)))

  pub centered_unfit : passable base (length scale) (length shift) (length deviations) (length point) ≡ false → centered_transform_pass base scale shift deviations point ≡ zero32
  centered_unfit e = centered_is ∙ rw e

  pub pass_read_unfit : passable base (length scale) (length shift) (length deviations) (length point) ≡ false → 0 ≡ Pass.coordinates_read base scale shift deviations point
  unfolding Pass.coordinates_read
  pass_read_unfit e = rw e

  module _ (p : passable base (length scale) (length shift) (length deviations) (length point) ≡ true) where
    -- How many are read where the first coordinate over its line is i, and where there is none.
    pub pass_read_over : (i r : ℕ) → i < length point → some i (over_at base scale shift point) ≡ false → over_at base scale shift point i ≡ true → r ≡ read_until (length point) (eqb i) → r ≡ Pass.coordinates_read base scale shift deviations point
    unfolding Pass.coordinates_read
    pass_read_over i r h none e q = q ∙ rw p (read_here (over_at base scale shift point) (length point) i h none e)

    pub pass_read_all : some (length point) (over_at base scale shift point) ≡ false → length point ≡ Pass.coordinates_read base scale shift deviations point
    unfolding Pass.coordinates_read
    pass_read_all none = rw p (sym (read_all (over_at base scale shift point) (length point) none))

-- What `passable` says.
pub passable_holds : (base scales shifts deviations points : ℕ) → passable base scales shifts deviations points ≡ true → (0 < base) × (base ≤ scales) × (base ≤ shifts)
unfolding passable
passable_holds base scales shifts deviations points e =
    let a = and_left _ _ (and_left _ _ e) in
    let b = and_left _ _ a in
    (ltb-true 0 base (and_left _ _ b), leb-true base scales (and_right (ltb 0 base) _ b), leb-true base shifts (and_right (ltb 0 base && leb base scales) _ a))

-- So a point that can be passed has a coordinate.
pub passable_points : (base scales shifts deviations points : ℕ) → passable base scales shifts deviations points ≡ true → 0 < points
unfolding passable
passable_points base scales shifts deviations points e =
    let positive = (passable_holds base scales shifts deviations points e).0 in
    omega (arith, positive, leb-true base points (and_right (ltb 0 base && leb base scales && leb base shifts && leb base deviations) _ e))

-- The test at coordinate i, read at its place y in the row.
pub over_at_lem : (base : ℕ) (scale shift point : List Float) (i y : ℕ) (b t : Bool) → y ≡ i % base → b ≡ over_line (nth point i) (nth scale y) (nth shift y) → b ≡ t → over_at base scale shift point i ≡ t
unfolding over_at
over_at_lem base scale shift point i y b t e q h = ap (λ (n : ℕ). over_line (nth point i) (nth scale n) (nth shift n)) (sym e) ∙ sym q ∙ h

module _ (point : List Float) (start : ℕ) (scale shift deviations : List Float) (differenced : Bool) where
  pub box_length : (out : List Float) → length (uncertainty_box point start scale shift deviations differenced out) ≡ length out
  unfolding uncertainty_box
  box_length out =
      either
      (leb (length out) (length scale) && leb (length out) (length shift) && leb (length out) (length deviations))
      (listed (length out) (edge_at (length out) point start scale shift deviations differenced))
      (listed_length (edge_at (length out) point start scale shift deviations differenced) (length out))
    where
      either : (b : Bool) (xs : List Float) → length xs ≡ length out → length (cond b xs out) ≡ length out
      either true xs e = e
      either false xs e = refl

  pub edge_is : (base y : ℕ) (v gap : Float) → gap ≡ path_deviation point start y base differenced → v ≡ edge_of (nth scale y) gap (nth shift y) (nth deviations y) →
      v ≡ edge_at base point start scale shift deviations differenced y
  unfolding edge_at
  edge_is base y v gap e q = q ∙ ap (λ (g : Float). edge_of (nth scale y) g (nth shift y) (nth deviations y)) e
