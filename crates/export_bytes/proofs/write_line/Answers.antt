use mathlib.Core.List.{[]}
use Rattle.score_rows.proofs.Bytes.{put_none, with_room}
use Rattle.export_rows.specs.Taking.{text}
use Rattle.export_bytes.proofs.write_line.Goals as goal

pub returns-in-Nothing : goal.returns-in-Nothing
unfolding text
returns-in-Nothing c = simp c.in-Nothing.is (put_none c.args.out.now c.args.at [])

pub returns-in-Shown : goal.returns-in-Shown
unfolding text
returns-in-Shown c = simp c.in-Shown.is (with_room c.write_row.ensures c.requires)

pub returns-in-Full : goal.returns-in-Full
unfolding text
returns-in-Full c = simp c.in-Full.is (with_room c.write_bad_line.ensures c.requires)

pub returns-in-Faulty : goal.returns-in-Faulty
unfolding text
returns-in-Faulty c = simp c.in-Faulty.is (with_room c.write_bad_row.ensures c.requires)
