use mathlib.Core.Path.{sym, ◌∙◌}
use Rattle.pool_settings.specs.Sameness.{same_float}
use Rattle.pool_settings.proofs.Sameness.{nan_is}
use Rattle.pool_settings.proofs.same.Goals as goal

pub returns-then-a-b : goal.returns-then-a-b
unfolding same_float
returns-then-a-b c = simp c.if-a-b.true

pub returns-then-a : goal.returns-then-a
unfolding same_float
returns-then-a c = simp (c.if-a-b.false, sym (nan_is c.args.a) ∙ c.if-a.true, nan_is)

pub returns : goal.returns
unfolding same_float
returns c = simp (c.if-a-b.false, sym (nan_is c.args.a) ∙ c.if-a.false)
