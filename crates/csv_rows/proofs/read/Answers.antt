use Prim.Native.Nat.{◌+◌, ◌<◌}
use mathlib.Core.Path.{◌≡◌, sym, ap, ◌∙◌, subst}
use lib.ListN.{drop}
use Rattle.csv_fields.specs.declared.Digits.{Digits}
use Rattle.csv_rows.specs.declared.Scan.{Scan}
use Rattle.csv_rows.specs.declared.Stepped.{Stepped}
use Rattle.csv_rows.specs.Scanning.{reached_of, is_nothing, read_on}
use Rattle.csv_rows.specs.Steps.{with_number}
use Rattle.csv_rows.proofs.InOneGo.{digits_turn, inner_turn, row_turn, last_turn}
use Rattle.csv_rows.proofs.read.Goals as goal

pub loop-i-preserved-then-i-digits : goal.loop-i-preserved-then-i-digits
loop-i-preserved-then-i-digits c =
    let xs = c.args.input.now in
    let i = c.loop-i.i in
    let s = c.loop-i.s in
    let d = c.digits_at-digits.result in
    let e = subst (λ (d : Digits). i < d.next → read_on s i (drop i xs) ≡ read_on (with_number s d.number) d.next (drop d.next xs)) (sym c.digits_at-digits.ensures) (digits_turn s xs i) c.if-i-digits.true in
    ap (λ (u : Scan). read_on u d.next (drop d.next xs)) c.with_number-s.ensures ∙ sym e ∙ c.loop-i.invariant

pub loop-i-preserved : goal.loop-i-preserved
loop-i-preserved c =
    let xs = c.args.input.now in
    let i = c.loop-i.i in
    let s = c.loop-i.s in
    let h = c.loop-i-test.true in
    let quiet = ap (λ (t : Stepped). is_nothing t.row) (sym c.step-stepped.ensures) ∙ sym c.is_nothing.ensures ∙ c.if-is_nothing.true in
    ap (λ (t : Stepped). read_on t.scan (i + 1) (drop (i + 1) xs)) c.step-stepped.ensures ∙ sym (inner_turn s xs i h quiet) ∙ c.loop-i.invariant

pub returns-in-loop-i : goal.returns-in-loop-i
returns-in-loop-i c =
    let xs = c.args.input.now in
    let i = c.loop-i.i in
    let s = c.loop-i.s in
    let h = c.loop-i-test.true in
    let quiet = ap (λ (t : Stepped). is_nothing t.row) (sym c.step-stepped.ensures) ∙ sym c.is_nothing.ensures ∙ c.if-is_nothing.false in
    ap (λ (t : Stepped). reached_of t.scan t.row (i + 1)) c.step-stepped.ensures ∙ sym (row_turn s xs i h quiet) ∙ c.loop-i.invariant

pub returns : goal.returns
returns c = sym (last_turn c.loop-i.s c.args.input.now c.loop-i.i c.loop-i-test.false) ∙ c.loop-i.invariant
