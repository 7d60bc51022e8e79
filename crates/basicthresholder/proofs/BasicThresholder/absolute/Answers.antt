use Rattle.std.proofs.Common.{ap, ◌∙◌}
use lib.Ieee.{Float}
use Rattle.basicthresholder.specs.Grades.{eased_absolute}
use Rattle.basicthresholder.proofs.Steps.{absolute_on, absolute_off}
use Rattle.basicthresholder.proofs.BasicThresholder.absolute.Goals as goal

pub returns-then-self : goal.returns-then-self
returns-then-self c =
    let s = c.args.self in
    c.eased_absolute.ensures
    ∙ ap (λ (f : Float). eased_absolute c.args.t f s.factor_adjustment_threshold s.absolute_threshold) c.requires
    ∙ absolute_on s c.args.t c.if-self.true

pub returns : goal.returns
returns c = absolute_off c.args.self c.args.t c.if-self.false
