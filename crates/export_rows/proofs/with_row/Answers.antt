use mathlib.Core.Path.{ap₂, ◌∙◌}
use Rattle.basicthresholder.specs.declared.BasicThresholder.{BasicThresholder}
use Rattle.score_kinds.specs.declared.Counts.{Counts}
use Rattle.score_rows.proofs.Sheet.{still_few}
use Rattle.export_rows.specs.Taking.{watch_of, with_row}
use Rattle.export_rows.proofs.with_row.Goals as goal

pub returns : goal.returns
unfolding with_row
returns c = ap₂ (λ (s : BasicThresholder) (k : Counts). watch_of s c.args.entry.drawer k) c.counted.ensures (c.with_line-counts.ensures ∙ still_few _ _ c.requires)
