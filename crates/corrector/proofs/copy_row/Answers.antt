use Rattle.std.proofs.Common.{◌≡◌, ◌+◌, ◌-◌, length, take, drop, arith, length-drop, length-take-le}
use Rattle.ieee.specs.F32.{zero32}
use Rattle.corrector.proofs.Rows.{padded_over}
use Rattle.corrector.proofs.copy_row.Goals as goal

pub returns : goal.returns
returns c =
    let a = c.args in
    let wide : a.start + a.base - a.start ≡ a.base = omega arith in
    let long : length (take a.base (drop a.start a.point.now)) ≡ a.base = length-take-le a.base (drop a.start a.point.now) (simp length-drop (omega arith)) in
    rw (c.no_row-row.ensures, rw wide at c.copy.ensures) (rw long at (padded_over zero32 16 (take a.base (drop a.start a.point.now)) (omega arith)))
