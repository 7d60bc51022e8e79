use Rattle.std.specs.Prelude.{◌≡◌, Option, Some, None}
use Rattle.std.specs.Option.{unwrap_or}
use mathlib.Core.Path.{refl, ◌∙◌}
use lib.Ieee.{Float}
use Rattle.deviation.specs.Const.{zero64}
use Rattle.deviation.specs.Statistics.{or_zero}
use Rattle.deviation.proofs.or_zero.Goals as goal

by_cases : (m : Option Float) → unwrap_or m zero64 ≡ or_zero m
unfolding or_zero
by_cases None = refl
by_cases (Some x) = refl

pub returns : goal.returns
returns c = c.unwrap_or.ensures ∙ by_cases c.args.measured
