use mathlib.Core.Path.{sym, ◌∙◌}
use Rattle.csv_fields.proofs.Numbers.{digit_from}
use Rattle.csv_fields.proofs.push_digit.Goals as goal

pub grown-requires : goal.grown-requires
grown-requires c = digit_from _ (sym c.is_digit.ensures ∙ c.if-is_digit.true)
