use mathlib.Core.Path.{◌≡◌, refl, sym, ap, ◌∙◌}
use mathlib.Core.Bool.{Bool, true, false, cond, ◌&&◌}
use borrow.Author.Tests.{eq-eqb, ne_eqb}
use Rattle.types.specs.declared.Refusal.TheVariants as Why
use Rattle.types.specs.Refusals.{of_faulty_row}
use Rattle.csv_fields.specs.Pushing.{good}
use Rattle.csv_rows.specs.declared.Row.TheVariants.{Faulty}
use Rattle.csv_rows.specs.Rows.{entry}
use Rattle.csv_rows.specs.Scanning.{verdict}
use Rattle.csv_rows.proofs.verdict.Goals as goal

by_shape : (header : Bool) → Faulty (of_faulty_row header) ≡ cond header (Faulty Why.Row) (Faulty Why.Field)
by_shape true = refl
by_shape false = refl

pub returns-then-header : goal.returns-then-header
unfolding verdict
returns-then-header c = let g : (c.args.good && good c.args.header c.args.field c.args.c) ≡ true = ap (λ (x : Bool). c.args.good && x) (sym c.good.ensures) ∙ c.if-good.true in simp (eq-eqb _ _ c.if-field-eq2.true, g) (simp c.if-header.true)

pub returns-then-good : goal.returns-then-good
unfolding verdict entry
returns-then-good c = let g : (c.args.good && good c.args.header c.args.field c.args.c) ≡ true = ap (λ (x : Bool). c.args.good && x) (sym c.good.ensures) ∙ c.if-good.true in simp (eq-eqb _ _ c.if-field-eq2.true, g) (simp (c.if-header.false, c.score-score.ensures))

pub returns-then-field-eq2 : goal.returns-then-field-eq2
unfolding verdict
returns-then-field-eq2 c = let g : (c.args.good && good c.args.header c.args.field c.args.c) ≡ false = ap (λ (x : Bool). c.args.good && x) (sym c.good.ensures) ∙ c.if-good.false in ap Faulty c.of_faulty_row.ensures ∙ by_shape c.args.header ∙ simp (eq-eqb _ _ c.if-field-eq2.true, g)

pub returns : goal.returns
unfolding verdict
returns c = ap Faulty c.of_faulty_row-2.ensures ∙ simp (ne_eqb _ _ c.if-field-eq2.false)
