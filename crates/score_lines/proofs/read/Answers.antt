use borrow.Author.Rules.{rules}
use Prim.Native.Nat.{ℕ, ◌+◌}
use mathlib.Core.Bool.{true}
use mathlib.Core.List.{[]}
use mathlib.Core.Path.{◌≡◌, refl, sym, ap, ◌∙◌}
use native.Mathlib.Omega.{arith}
use lib.ListN.{get_or}
use Rattle.score_lines.proofs.Parts.{over_step, over_said, said_length, line_step, line_said_lem, bad_step, bad_said, digit_step, digit_said}
use Rattle.score_rows.proofs.Bytes.{with_room, put_none}
use Rattle.score_lines.specs.declared.Run.{Run}
use Rattle.score_rows.specs.Feeding as Feeding
use Rattle.score_rows.proofs.Feeding.{next_run, next_put, still_run, still_all}
use Rattle.score_lines.specs.Feeding.{run_of, pushed, step, said, ended}
use Rattle.score_lines.proofs.read.Goals as goal

pub loop-b-init : goal.loop-b-init
unfolding Feeding.fed Feeding.printed
loop-b-init c = (refl, refl, search rules, put_none _ _ [])

pub loop-b-preserved-then-b-eq-LINE_END : goal.loop-b-preserved-then-b-eq-LINE_END
loop-b-preserved-then-b-eq-LINE_END c =
    let xs = c.args.input.now in
    let i = c.loop-b.b-index in
    let b = get_or xs i 0 in
    let s = c.loop-b.state in
    let e = c.loop-b.invariant.1 in
    let h = c.loop-b-test.true in
    let going = c.if-state.false in
    let newline = c.if-b-eq-LINE_END.true in
    let p = next_put step said c.args.run xs i e said_length h c.loop-b.invariant.2 (omega (arith, c.requires)) c.loop-b.invariant.3 (line_said_lem s b going newline) c.end_line-after.ensures.printed in (
      c.end_line-after.auto.out ∙ c.loop-b.invariant.0,
      next_run step c.args.run xs i e h (c.end_line-after.ensures.run ∙ sym (line_step s b going newline)),
      p.0,
      p.1,
    )

pub loop-b-preserved : goal.loop-b-preserved
loop-b-preserved c =
    let run = c.args.run in
    let xs = c.args.input.now in
    let i = c.loop-b.b-index in
    let b = get_or xs i 0 in
    let s = c.loop-b.state in
    let e = c.loop-b.invariant.1 in
    let t = c.loop-b-test.true in
    let going = c.if-state.false in
    let inside = c.if-b-eq-LINE_END.false in
    let h : pushed s.part b ≡ 0 → ⊥ = λ z. c.if-part-eq0.false (c.pushed-part.ensures ∙ z) in
    let p = next_put step said run xs i e said_length t c.loop-b.invariant.2 (omega (arith, c.requires)) c.loop-b.invariant.3 (digit_said s b going inside h) (put_none c.loop-b.out c.loop-b.to []) in (
      c.loop-b.invariant.0,
      next_run step run xs i e t (ap (λ (p : ℕ). run_of s.thresholder s.counts p s.over) c.pushed-part.ensures ∙ sym (digit_step s b going inside h)),
      p.0,
      p.1,
    )

pub returns-then-state-clause-run : goal.returns-then-state-clause-run
returns-then-state-clause-run c =
    rw (still_run step c.args.run c.args.input.now c.loop-b.b-index c.loop-b.invariant.1 (over_step _ c.if-state.true))

pub returns-then-state-clause-printed : goal.returns-then-state-clause-printed
returns-then-state-clause-printed c =
    let o = c.if-state.true in
    rw (still_all step said c.args.run c.args.input.now c.loop-b.b-index c.loop-b.invariant.1 (over_step _ o) (over_said _ o)) c.loop-b.invariant.3

pub returns-then-part-eq0-clause-run : goal.returns-then-part-eq0-clause-run
unfolding ended
returns-then-part-eq0-clause-run c =
    let run = c.args.run in
    let xs = c.args.input.now in
    let i = c.loop-b.b-index in
    let h : pushed c.loop-b.state.part (get_or xs i 0) ≡ 0 = sym c.pushed-part.ensures ∙ c.if-part-eq0.true in
    let n = next_run step run xs i c.loop-b.invariant.1 c.loop-b-test.true (c.ended.ensures ∙ sym (bad_step c.loop-b.state (get_or xs i 0) c.if-state.false c.if-b-eq-LINE_END.false h)) in
    let o : c.ended.result.over ≡ true = ap (λ (r : Run). r.over) c.ended.ensures in
    rw (still_run step run xs (i + 1) n (over_step _ o))

pub returns-then-part-eq0-clause-printed : goal.returns-then-part-eq0-clause-printed
unfolding ended
returns-then-part-eq0-clause-printed c =
    let run = c.args.run in
    let xs = c.args.input.now in
    let i = c.loop-b.b-index in
    let b = get_or xs i 0 in
    let s = c.loop-b.state in
    let e = c.loop-b.invariant.1 in
    let t = c.loop-b-test.true in
    let going = c.if-state.false in
    let inside = c.if-b-eq-LINE_END.false in
    let h : pushed s.part b ≡ 0 = sym c.pushed-part.ensures ∙ c.if-part-eq0.true in
    let n = next_run step run xs i e t (c.ended.ensures ∙ sym (bad_step s b going inside h)) in
    let p = next_put step said run xs i e said_length t c.loop-b.invariant.2 (omega (arith, c.requires)) c.loop-b.invariant.3 (bad_said s b going inside h) (rw c.lines.ensures.count at (with_room c.write_bad_line-end.ensures (omega (arith, c.loop-b.invariant.0, c.loop-b.invariant.2, c.loop-b-test.true, c.requires)))) in
    let o : c.ended.result.over ≡ true = ap (λ (r : Run). r.over) c.ended.ensures in
    rw (still_all step said run xs (i + 1) n (over_step _ o) (over_said _ o)) p.1
