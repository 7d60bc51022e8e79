use mathlib.Core.List.{[]}
use mathlib.Core.Path.{sym, ◌∙◌}
use Rattle.score_rows.proofs.Bytes.{put_none, with_room}
use Rattle.export_bytes.specs.Feeding.{total_said}
use Rattle.export_bytes.proofs.total.Goals as goal

pub returns-then-is_open : goal.returns-then-is_open
unfolding total_said
returns-then-is_open c = simp (sym c.is_open.ensures ∙ c.if-is_open.true) (with_room c.write_counts.ensures c.requires)

pub returns : goal.returns
unfolding total_said
returns c = simp (sym c.is_open.ensures ∙ c.if-is_open.false) (put_none c.args.out.now c.args.at [])
