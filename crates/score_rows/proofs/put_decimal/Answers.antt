use mathlib.Core.Path.{sym, ◌∙◌}
use Rattle.score_rows.proofs.Bytes.{decimal_is}
use borrow.Author.Rules.{rules}
use Rattle.score_rows.proofs.put_decimal.Goals as goal

pub returns : goal.returns
returns c = rw (c.decimal-k.ensures.digits ∙ sym (decimal_is _ _ (search rules) c.decimal-k.ensures.len)) at c.put_all.ensures
