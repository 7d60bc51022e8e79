use Rattle.std.proofs.Common.{ap, ◌∙◌}
use Rattle.basicthresholder.specs.Updates.{updated, update_threshold}
use Rattle.basicthresholder.proofs.BasicThresholder.update_threshold.Goals as goal

pub returns : goal.returns
unfolding update_threshold
returns c = c.by_counts.ensures ∙ ap (updated c.args.self) c.threshold_counted.ensures
