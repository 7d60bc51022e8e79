use mathlib.Core.Path.{sym, ◌∙◌}
use borrow.Author.Tests.{le-ltb, lt-ltb}
use Rattle.csv_fields.specs.Pushing.{push_score, score_digit, score_point}
use Rattle.csv_fields.proofs.Numbers.{digit_from}
use Rattle.csv_fields.proofs.push_score.Goals as goal

pub grown-requires : goal.grown-requires
grown-requires c = digit_from _ (sym c.is_digit.ensures ∙ c.if-is_digit.true)

pub returns-then-c-lt-MOST_PLACES : goal.returns-then-c-lt-MOST_PLACES
unfolding push_score score_digit
returns-then-c-lt-MOST_PLACES c = simp (sym c.is_digit.ensures ∙ c.if-is_digit.true, c.if-c.true, lt-ltb _ _ c.if-c-lt-MOST_PLACES.true, c.grown.ensures)

pub returns-then-c : goal.returns-then-c
unfolding push_score score_digit
returns-then-c c = simp (sym c.is_digit.ensures ∙ c.if-is_digit.true, c.if-c.true, le-ltb _ _ c.if-c-lt-MOST_PLACES.false, c.spoil.ensures)

pub grown-requires-then-c-lt-MOST_WHOLE : goal.grown-requires-then-c-lt-MOST_WHOLE
grown-requires-then-c-lt-MOST_WHOLE c = digit_from _ (sym c.is_digit.ensures ∙ c.if-is_digit.true)

pub returns-then-c-lt-MOST_WHOLE : goal.returns-then-c-lt-MOST_WHOLE
unfolding push_score score_digit
returns-then-c-lt-MOST_WHOLE c = simp (sym c.is_digit.ensures ∙ c.if-is_digit.true, c.if-c.false, lt-ltb _ _ c.if-c-lt-MOST_WHOLE.true, c.grown-then-c-lt-MOST_WHOLE.ensures)

pub returns-then-is_digit : goal.returns-then-is_digit
unfolding push_score score_digit
returns-then-is_digit c = simp (sym c.is_digit.ensures ∙ c.if-is_digit.true, c.if-c.false, le-ltb _ _ c.if-c-lt-MOST_WHOLE.false, c.spoil-then-is_digit.ensures)

pub returns-then-b-c : goal.returns-then-b-c
unfolding push_score score_point
returns-then-b-c c = simp (sym c.is_digit.ensures ∙ c.if-is_digit.false, c.if-b-c.true)

pub returns : goal.returns
unfolding push_score score_point
returns c = simp (sym c.is_digit.ensures ∙ c.if-is_digit.false, c.if-b-c.false, c.spoil-2.ensures)
