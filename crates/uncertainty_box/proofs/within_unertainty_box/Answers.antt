use Rattle.std.proofs.Common.{ℕ, sym, ap, ◌∙◌, le_antisymm}
use Rattle.uncertainty_box.specs.Scan.{some}
use Rattle.uncertainty_box.specs.Box.{outside_at}
use Rattle.uncertainty_box.proofs.Laws.{within_outside, within_none, within_unfit, box_read_unfit, box_read_outside, box_read_all}
use Rattle.uncertainty_box.proofs.within_unertainty_box.Goals as goal

pub returns-then-not-box_fits : goal.returns-then-not-box_fits
returns-then-not-box_fits c =
    let a = c.args in
    let unfit = rw c.box_fits.ensures at c.if-not-box_fits.true in (
      sym (within_unfit a.uncertainty_box.now a.start_position a.scale.now a.point.now a.other_point.now unfit),
      box_read_unfit a.uncertainty_box.now a.start_position a.scale.now a.point.now a.other_point.now unfit,
    )

pub returns-then-outside : goal.returns-then-outside
unfolding outside_at
returns-then-outside c =
    let a = c.args in
    let l = c.loop-y in
    let here = c.loop-y-test.true in
    let fit = rw c.box_fits.ensures at c.if-not-box_fits.false in
    let out = sym c.outside.ensures ∙ c.if-outside.true in (
      sym (within_outside a.uncertainty_box.now a.start_position a.scale.now a.point.now a.other_point.now l.y here out),
      box_read_outside a.uncertainty_box.now a.start_position a.scale.now a.point.now a.other_point.now fit l.y _ here l.invariant out c.places_read.ensures,
    )

pub returns : goal.returns
returns c =
    let a = c.args in
    let l = c.loop-y in
    let f = outside_at a.uncertainty_box.now a.start_position a.scale.now a.point.now a.other_point.now in
    let none = ap (λ (n : ℕ). some n f) (le_antisymm c.loop-y-test.false l.auto.y-end) ∙ l.invariant in
    let fit = rw c.box_fits.ensures at c.if-not-box_fits.false in (
      sym (within_none a.uncertainty_box.now a.start_position a.scale.now a.point.now a.other_point.now fit none),
      box_read_all a.uncertainty_box.now a.start_position a.scale.now a.point.now a.other_point.now fit none,
    )
