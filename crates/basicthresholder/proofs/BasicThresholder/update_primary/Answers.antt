use Rattle.std.proofs.Common.{ap, ◌∙◌}
use Rattle.basicthresholder.specs.Updates.{updated, update_primary}
use Rattle.basicthresholder.proofs.BasicThresholder.update_primary.Goals as goal

pub returns : goal.returns
unfolding update_primary
returns c = c.by_counts.ensures ∙ ap (updated c.args.self) c.primary_counted.ensures
