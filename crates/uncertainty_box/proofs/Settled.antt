-- The coordinates that a scan reads settle its answer and their number, and the last one decides. Assumes nothing.
use Rattle.std.proofs.Common.{◌≡◌, ℕ, ◌+◌, ◌%◌, ◌<◌, Bool, true, false, cond, not, ◌&&◌, List, length, sym, refl, ap, ◌∙◌, ap₂}
use lib.Ieee.{Float}
use Rattle.scan.specs.Read.{read_until}
use Rattle.scan.proofs.Laws.{laws}
use Rattle.uncertainty_box.specs.Const.{zero32, one}
use Rattle.uncertainty_box.specs.Scan.{nth, some}
use Rattle.uncertainty_box.specs.Box as Box
use Rattle.uncertainty_box.specs.Box.{outside, outside_at, within_unertainty_box, box_fits}
use Rattle.uncertainty_box.specs.Pass as Pass
use Rattle.uncertainty_box.specs.Pass.{over_line, over_at, passable}
use Rattle.uncertainty_box.specs.Settled.{PassSettled, PassDecided, BoxSettled, BoxDecided}
use Rattle.uncertainty_box.proofs.Scans.{some_settled, some_last}
use Rattle.uncertainty_box.proofs.Laws.{centered_is, passable_points}

-- Both scans at once: what is answered and how many are read, of the same lengths (`fits`), where the tests agree on the places read.
either : {A : Type 0} (answer : Bool → A) (unfit : A) (fits : Bool) (n : ℕ) (f g : ℕ → Bool)
    → ((i : ℕ) → i < cond fits (read_until n f) 0 → g i ≡ f i)
    → (cond fits (answer (some n g)) unfit ≡ cond fits (answer (some n f)) unfit) × (cond fits (read_until n g) 0 ≡ cond fits (read_until n f) 0)
either answer unfit true n f g h = (ap answer (some_settled n f g h), (laws n f).settled g h)
either answer unfit false n f g h = (refl, refl)

same_over : (base : ℕ) (scale shift point point' : List Float) (i : ℕ) → nth point' i ≡ nth point i → over_at base scale shift point' i ≡ over_at base scale shift point i
unfolding over_at
same_over base scale shift point point' i q = ap (λ (x : Float). over_line x (nth scale (i % base)) (nth shift (i % base))) q

pub pass_settled : PassSettled
unfolding Pass.coordinates_read
pass_settled base scale shift deviations point point' long agree =
    let fits : passable base (length scale) (length shift) (length deviations) (length point') ≡ passable base (length scale) (length shift) (length deviations) (length point) = ap (passable base (length scale) (length shift) (length deviations)) long in
    let both = either (λ (b : Bool). cond b one zero32) zero32 (passable base (length scale) (length shift) (length deviations) (length point)) (length point) (over_at base scale shift point) (over_at base scale shift point') (λ i h. same_over base scale shift point point' i (agree i h)) in
    (centered_is base scale shift deviations point' ∙ rw (fits, long) both.0 ∙ sym (centered_is base scale shift deviations point), rw (fits, long) both.1)

pub pass_decided : PassDecided
unfolding Pass.coordinates_read
pass_decided base scale shift deviations point p =
    let last = some_last (length point) (over_at base scale shift point) (passable_points base (length scale) (length shift) (length deviations) (length point) p) in
    let read = laws (length point) (over_at base scale shift point) in
    (rw p last.0, rw p read.most, rw p read.none, centered_is base scale shift deviations point ∙ rw p (ap (λ (b : Bool). cond b one zero32) last.1))

same_outside : (box : List Float) (start : ℕ) (scale point other point' other' : List Float) (y : ℕ) → nth point' (start + y) ≡ nth point (start + y) → nth other' (start + y) ≡ nth other (start + y) → outside_at box start scale point' other' y ≡ outside_at box start scale point other y
unfolding outside_at
same_outside box start scale point other point' other' y p q = ap₂ (outside (nth box y) (nth scale y)) p q

-- Within the box, where the slices are long enough.
within_is : (box : List Float) (start : ℕ) (scale point other : List Float) →
    within_unertainty_box box start scale point other
    ≡ cond (box_fits (length box) start (length scale) (length point) (length other)) (not (some (length box) (outside_at box start scale point other))) false
unfolding within_unertainty_box box_fits
within_is box start scale point other = and_cond (box_fits (length box) start (length scale) (length point) (length other)) (not (some (length box) (outside_at box start scale point other)))
  where
    and_cond : (a b : Bool) → (a && b) ≡ cond a b false
    and_cond true b = refl
    and_cond false b = refl

pub box_settled : BoxSettled
unfolding Box.coordinates_read
box_settled box start scale point other point' other' long long' agree =
    let both = either not false (box_fits (length box) start (length scale) (length point) (length other)) (length box) (outside_at box start scale point other) (outside_at box start scale point' other') (λ y h. same_outside box start scale point other point' other' y (agree y h).0 (agree y h).1) in
    (within_is box start scale point' other' ∙ rw (long, long') both.0 ∙ sym (within_is box start scale point other), rw (long, long') both.1)

pub box_decided : BoxDecided
unfolding Box.coordinates_read
box_decided box start scale point other p h =
    let last = some_last (length box) (outside_at box start scale point other) h in
    let read = laws (length box) (outside_at box start scale point other) in
    (rw p last.0, rw p read.most, rw p read.none, within_is box start scale point other ∙ rw p (ap not last.1))
