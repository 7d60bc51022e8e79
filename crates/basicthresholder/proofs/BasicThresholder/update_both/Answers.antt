use Rattle.std.proofs.Common.{ap, ◌∙◌}
use Rattle.basicthresholder.specs.Updates.{updated, update_both}
use Rattle.basicthresholder.proofs.BasicThresholder.update_both.Goals as goal

pub returns : goal.returns
unfolding update_both
returns c = c.by_counts.ensures ∙ ap (updated c.args.self) c.both_counted.ensures
