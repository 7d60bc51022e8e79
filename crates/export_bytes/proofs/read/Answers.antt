use Rattle.export_rows.specs.declared.Taken.{Taken}
use borrow.Author.Rules.{rules}
use mathlib.Core.List.{[]}
use mathlib.Core.Path.{refl, sym, ap, ◌∙◌}
use native.Mathlib.Omega.{arith}
use lib.Seq.{take_all}
use Rattle.csv_rows.specs.declared.Reached.{Reached}
use Rattle.score_rows.specs.Feeding as Feeding
use Rattle.score_rows.proofs.Bytes.{put_none}
use Rattle.score_rows.proofs.Feeding.{still_run, still_all}
use Rattle.export_bytes.specs.Feeding.{run_of, step, said}
use Rattle.export_bytes.proofs.Parts.{over_step, over_said, next_more, passed_over_lem, turn}
use Prim.Native.Nat.{ℕ}
use Rattle.export_rows.specs.declared.Line.TheVariants as Lines
use Rattle.export_rows.specs.Taking as Taking
use Rattle.export_bytes.proofs.read.Goals as goal

pub loop-i-init : goal.loop-i-init
unfolding Feeding.fed Feeding.printed
loop-i-init c = (refl, refl, search rules, put_none _ _ [])

pub loop-i-smaller-then-is_passed_over : goal.loop-i-smaller-then-is_passed_over
loop-i-smaller-then-is_passed_over c = omega (arith, ap (λ (r : Reached). r.next) c.read-reached.ensures, next_more c.args.input.now c.loop-i.scan c.loop-i.i c.loop-i-test.true, c.loop-i-test.true)

pub loop-i-preserved-then-is_passed_over : goal.loop-i-preserved-then-is_passed_over
unfolding Taking.text
loop-i-preserved-then-is_passed_over c =
    let run = run_of c.args.run.scan c.args.run.course in
    let going = sym c.is_open.ensures ∙ c.if-not-is_open.false in
    let k = c.loop-i.course in
    let taken : ℕ → Taken = λ (n : ℕ). Taking.taken_of (Taking.course_of k.watch n k.ending) Lines.Nothing in
    let same = ap taken c.next_number.ensures ∙ passed_over_lem k c.read-reached.result.row going (sym c.is_passed_over.ensures ∙ c.if-is_passed_over.true) in
    let w = turn run c.args.input.now c.loop-i.i c.loop-i.scan c.loop-i.course c.loop-i.invariant.1 going _ _ _ _ _ c.loop-i-test.true c.loop-i.invariant.2 (omega (arith, c.requires)) c.loop-i.invariant.3 c.read-reached.result c.read-reached.ensures (taken c.next_number.result) same (put_none c.loop-i.out c.loop-i.to []) in
    (c.loop-i.invariant.0, w.0, w.1, w.2)

pub loop-i-smaller : goal.loop-i-smaller
loop-i-smaller c = omega (arith, ap (λ (r : Reached). r.next) c.read-reached.ensures, next_more c.args.input.now c.loop-i.scan c.loop-i.i c.loop-i-test.true, c.loop-i-test.true)

pub loop-i-preserved : goal.loop-i-preserved
loop-i-preserved c =
    let run = run_of c.args.run.scan c.args.run.course in
    let going = sym c.is_open.ensures ∙ c.if-not-is_open.false in
    let w = turn run c.args.input.now c.loop-i.i c.loop-i.scan c.loop-i.course c.loop-i.invariant.1 going _ _ _ _ _ c.loop-i-test.true c.loop-i.invariant.2 (omega (arith, c.requires)) c.loop-i.invariant.3 c.read-reached.result c.read-reached.ensures c.take-taken.result c.take-taken.ensures c.write_line-to.ensures in
    (c.write_line-to.auto.out ∙ c.loop-i.invariant.0, w.0, w.1, w.2)

pub returns-clause-printed : goal.returns-clause-printed
returns-clause-printed c = let all = take_all c.loop-i.i c.args.input.now c.loop-i-test.false in
    rw all at c.loop-i.invariant.3

pub returns-then-not-is_open-clause-run : goal.returns-then-not-is_open-clause-run
returns-then-not-is_open-clause-run c =
    let run = run_of c.args.run.scan c.args.run.course in
    let o = sym c.is_open.ensures ∙ c.if-not-is_open.true in
    rw (still_run step run c.args.input.now c.loop-i.i c.loop-i.invariant.1 (over_step (run_of c.loop-i.scan c.loop-i.course) o))

pub returns-then-not-is_open-clause-printed : goal.returns-then-not-is_open-clause-printed
returns-then-not-is_open-clause-printed c =
    let run = run_of c.args.run.scan c.args.run.course in
    let s = run_of c.loop-i.scan c.loop-i.course in
    let o = sym c.is_open.ensures ∙ c.if-not-is_open.true in
    rw (still_all step said run c.args.input.now c.loop-i.i c.loop-i.invariant.1 (over_step s o) (over_said s o)) c.loop-i.invariant.3
