use Rattle.std.proofs.Common.{ℕ, true, false, sym, ap, ◌∙◌, le_antisymm}
use Rattle.uncertainty_box.specs.Scan.{some}
use Rattle.uncertainty_box.specs.Pass.{over_at}
use Rattle.uncertainty_box.proofs.Scans.{some_not}
use Rattle.uncertainty_box.proofs.Rows.{place_next}
use Rattle.uncertainty_box.proofs.Laws.{centered_unfit, centered_over, centered_none, over_at_lem, pass_read_unfit, pass_read_over, pass_read_all}
use Rattle.uncertainty_box.proofs.centered_transform_pass.Goals as goal

pub returns-then-not-passable : goal.returns-then-not-passable
returns-then-not-passable c =
    let a = c.args in
    let unfit = rw c.passable.ensures at c.if-not-passable.true in (
      sym (centered_unfit a.base_dimension a.scale.now a.shift.now a.difference_deviations.now a.point.now unfit),
      pass_read_unfit a.base_dimension a.scale.now a.shift.now a.difference_deviations.now a.point.now unfit,
    )

pub returns-then-over_line : goal.returns-then-over_line
returns-then-over_line c =
    let a = c.args in
    let l = c.loop-i in
    let here = c.loop-i-test.true in
    let fit = rw c.passable.ensures at c.if-not-passable.false in
    let over = over_at_lem a.base_dimension a.scale.now a.shift.now a.point.now l.i l.y _ true l.invariant.1 c.over_line.ensures c.if-over_line.true in (
      sym (centered_over a.base_dimension a.scale.now a.shift.now a.difference_deviations.now a.point.now l.i fit here over),
      pass_read_over a.base_dimension a.scale.now a.shift.now a.difference_deviations.now a.point.now fit l.i _ here l.invariant.2 over c.places_read.ensures,
    )

pub loop-i-preserved : goal.loop-i-preserved
loop-i-preserved c =
    let a = c.args in
    let l = c.loop-i in
    let under = over_at_lem a.base_dimension a.scale.now a.shift.now a.point.now l.i l.y _ false l.invariant.1 c.over_line.ensures c.if-over_line.false in (
      c.next_in_row-y.ensures.0,
      place_next l.i l.y a.base_dimension _ l.invariant.1 c.next_in_row-y.ensures.1,
      some_not (over_at a.base_dimension a.scale.now a.shift.now a.point.now) l.i l.invariant.2 under,
    )

pub returns : goal.returns
returns c =
    let a = c.args in
    let l = c.loop-i in
    let fit = rw c.passable.ensures at c.if-not-passable.false in
    let none = ap (λ (n : ℕ). some n (over_at a.base_dimension a.scale.now a.shift.now a.point.now)) (le_antisymm c.loop-i-test.false l.auto.i-end) ∙ l.invariant.2 in (
      sym (centered_none a.base_dimension a.scale.now a.shift.now a.difference_deviations.now a.point.now none),
      pass_read_all a.base_dimension a.scale.now a.shift.now a.difference_deviations.now a.point.now fit none,
    )
