use mathlib.Core.Path.{sym, ◌∙◌}
use native.Mathlib.Omega.{arith}
use Rattle.score_rows.proofs.Bytes.{put_then, bad_length, written, room_true}
use Rattle.score_rows.specs.Text.{bad_line}
use Rattle.score_rows.proofs.write_bad_line.Goals as goal

pub put-requires : goal.put-requires
put-requires c = omega (arith, bad_length c.args.number, room_true c.args.out.now c.args.at (sym c.has_room.ensures ∙ c.if-has_room.true))

pub returns-then-has_room : goal.returns-then-has_room
unfolding bad_line
returns-then-has_room c =
    let room = sym c.has_room.ensures ∙ c.if-has_room.true in
    written _ _ _ _ _ room (put_then c.put_bad-a.ensures c.put.ensures (omega (arith, bad_length c.args.number, room_true c.args.out.now c.args.at room)))
