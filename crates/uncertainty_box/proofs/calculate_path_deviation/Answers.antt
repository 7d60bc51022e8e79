use Rattle.std.proofs.Common.{◌+◌, ◌-◌, ◌<◌, length, sym, ◌∙◌, arith}
use Rattle.uncertainty_box.proofs.Paths.{path_base, path_long, path_beyond, path_starts, path_next, path_stop}
use Rattle.uncertainty_box.proofs.calculate_path_deviation.Goals as goal

-- The loop knows that the definition's own loop, from the same variables on, still gives the answer. Assumes nothing.

pub returns-then-base_dimension-eq0 : goal.returns-then-base_dimension-eq0
returns-then-base_dimension-eq0 c =
    let a = c.args in
    sym (path_base a.point.now a.index a.base_dimension a.differenced a.start_position c.if-base_dimension-eq0.true)

pub returns-then-point-gt65536 : goal.returns-then-point-gt65536
returns-then-point-gt65536 c =
    let a = c.args in
    sym (path_long a.point.now a.index a.base_dimension a.differenced a.start_position c.if-point-gt65536.true)

pub returns-then-left-index : goal.returns-then-left-index
returns-then-left-index c =
    let a = c.args in
    sym (path_beyond a.point.now a.index a.base_dimension a.differenced a.start_position (omega arith) c.if-point-gt65536.false (omega arith))

pub loop-here-init : goal.loop-here-init
loop-here-init c =
    let a = c.args in
    let inside : a.start_position + a.index < length a.point.now = omega arith in
    (omega arith, inside, omega arith, omega arith, c.if-point-gt65536.false, path_starts a.point.now a.index a.base_dimension a.differenced a.start_position (omega arith) c.if-point-gt65536.false)

pub loop-here-preserved : goal.loop-here-preserved
loop-here-preserved c =
    let a = c.args in
    let l = c.loop-here in
    let turn = path_next a.point.now a.index a.base_dimension a.differenced l.here l.variation _ l.observation l.invariant.0 (omega arith) (omega arith) c.path_step-variation.ensures in
    (omega arith, omega arith, omega arith, l.invariant.3, l.invariant.4, l.invariant.5 ∙ turn)

pub returns : goal.returns
returns c =
    let a = c.args in
    let l = c.loop-here in
    let stop = path_stop a.point.now a.index a.base_dimension a.differenced (length a.point.now - l.observation) (l.here - a.index) l.variation l.observation (omega arith) in
    c.path_mean.ensures ∙ sym (l.invariant.5 ∙ stop)
