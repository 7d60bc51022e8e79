use Rattle.std.proofs.Common.{arith, le-ltb, lt-ltb, eq-eqb, ne_eqb}
use Rattle.score_lines.specs.Output.{digit_of, is_digit}
use Rattle.training_lines.specs.Feeding.{seed_step}
use Rattle.training_lines.proofs.push_seed.Goals as goal

pub returns-then-digits-eq-SEED_DIGITS : goal.returns-then-digits-eq-SEED_DIGITS
unfolding seed_step is_digit
returns-then-digits-eq-SEED_DIGITS c = simp (eq-eqb c.args.b 10 c.if-b-eq-LINE_END.true, eq-eqb c.args.digits 16 c.if-digits-eq-SEED_DIGITS.true)

pub returns-then-b-eq-LINE_END : goal.returns-then-b-eq-LINE_END
unfolding seed_step is_digit
returns-then-b-eq-LINE_END c = simp (eq-eqb c.args.b 10 c.if-b-eq-LINE_END.true, ne_eqb c.args.digits 16 c.if-digits-eq-SEED_DIGITS.false)

pub returns-then-d-lt16 : goal.returns-then-d-lt16
unfolding seed_step is_digit
returns-then-d-lt16 c = simp (ne_eqb c.args.b 10 c.if-b-eq-LINE_END.false, lt-ltb c.args.digits 16 c.if-digits-lt-SEED_DIGITS.true, lt-ltb (digit_of c.args.b) 16 (omega (arith, c.digit-d.ensures.value, c.if-d-lt16.true)), c.pushed.ensures, c.digit-d.ensures.value)

pub returns-then-digits-lt-SEED_DIGITS : goal.returns-then-digits-lt-SEED_DIGITS
unfolding seed_step is_digit
returns-then-digits-lt-SEED_DIGITS c = simp (ne_eqb c.args.b 10 c.if-b-eq-LINE_END.false, lt-ltb c.args.digits 16 c.if-digits-lt-SEED_DIGITS.true, le-ltb (digit_of c.args.b) 16 (omega (arith, c.digit-d.ensures.value, c.if-d-lt16.false)))

pub returns : goal.returns
unfolding seed_step is_digit
returns c = simp (ne_eqb c.args.b 10 c.if-b-eq-LINE_END.false, le-ltb c.args.digits 16 c.if-digits-lt-SEED_DIGITS.false)
