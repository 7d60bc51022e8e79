use Rattle.std.proofs.Common.{◌*◌, ◌≤◌, length, mul-le-mul, le-mul_of_pos_right, arith, le-ltb}
use Rattle.corrector.specs.Corrector.{trigger}
use Rattle.corrector.proofs.Laws.{triggering}
use Rattle.corrector.proofs.compare.Goals as goal

pub overflow_mul-difference : goal.overflow_mul-difference
overflow_mul-difference c =
    let t = triggering _ _ _ _ _ c.requires in
    let g : c.args.gap ≤ 65536 = omega arith in
    omega (arith, mul-le-mul g t.few)

pub returns : goal.returns
unfolding trigger
returns c =
    let a = c.args in
    let p = c.requires in
    let t = triggering _ _ _ _ _ (p) in
    simp (p, le-ltb (a.gap * a.base_dimension) (length a.high.now) (omega (arith, le-mul_of_pos_right a.gap t.some)))
