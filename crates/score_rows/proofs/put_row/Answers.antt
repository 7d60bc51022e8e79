use native.Mathlib.Omega.{arith}
use lib.ListN.{length-append}
use Rattle.score_rows.proofs.Bytes.{put_then, decimal_length, shown_length}
use Rattle.score_rows.specs.Text.{row}
use Rattle.score_rows.proofs.put_row.Goals as goal

pub put-b-requires : goal.put-b-requires
put-b-requires c = omega (arith, decimal_length c.args.number)

pub put_shown-c-requires : goal.put_shown-c-requires
put_shown-c-requires c = omega (arith, decimal_length c.args.number)

pub put-requires : goal.put-requires
put-requires c = omega (arith, decimal_length c.args.number, shown_length c.args.kind, c.put_decimal-a.ensures.place, c.put_decimal-a.auto.out)

pub returns : goal.returns
unfolding row
returns c =
    let n = decimal_length c.args.number in
    let k = shown_length c.args.kind in
    let room = c.requires in
    put_then c.put_decimal-a.ensures
    (put_then c.put-b.ensures
    (put_then c.put_shown-c.ensures c.put.ensures (omega (arith, c.put_decimal-a.ensures.place, c.put_decimal-a.auto.out, c.put-b.ensures.place, c.put-b.auto.out)))
    (simp length-append (omega (arith, c.put_decimal-a.ensures.place, c.put_decimal-a.auto.out))))
    (simp length-append (omega arith))
