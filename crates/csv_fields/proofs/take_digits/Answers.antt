use mathlib.Core.Path.{◌≡◌, sym, ◌∙◌}
use native.Mathlib.Omega.{arith}
use Rattle.csv_fields.proofs.Numbers.{digit_from}
use Rattle.csv_fields.proofs.InOneGo.{digit_more, digit_last, digit_none}
use Rattle.csv_fields.proofs.take_digits.Goals as goal

pub grown-number-requires : goal.grown-number-requires
grown-number-requires c = digit_from _ (sym c.is_digit.ensures ∙ c.if-not-is_digit.false)

pub loop-i-preserved : goal.loop-i-preserved
loop-i-preserved c = (omega arith, rw c.grown-number.ensures (sym (digit_more c.loop-i.number c.args.input.now c.loop-i.i c.loop-i-test.true (sym c.is_digit.ensures ∙ c.if-not-is_digit.false)) ∙ c.loop-i.invariant.1))

pub returns-then-not-is_digit : goal.returns-then-not-is_digit
returns-then-not-is_digit c = sym (digit_last c.loop-i.number c.args.input.now c.loop-i.i c.loop-i-test.true (sym c.is_digit.ensures ∙ c.if-not-is_digit.true)) ∙ c.loop-i.invariant.1

pub returns : goal.returns
returns c =
    let end : c.max.result ≡ c.loop-i.i = omega arith in
    rw end (sym (digit_none c.loop-i.number c.args.input.now c.loop-i.i c.loop-i-test.false) ∙ c.loop-i.invariant.1)
