use native.Mathlib.Omega.{arith}
use lib.ListN.{length-append}
use Rattle.score_rows.proofs.Bytes.{put_then, bad_length, decimal_length}
use Rattle.types.specs.Refusals.{number}
use Rattle.score_rows.specs.Text.{bad_row}
use Rattle.score_rows.proofs.put_bad_row.Goals as goal

pub put-b-requires : goal.put-b-requires
put-b-requires c = omega (arith, bad_length c.args.number)

pub put_decimal-c-requires : goal.put_decimal-c-requires
put_decimal-c-requires c = omega (arith, bad_length c.args.number)

pub put-requires : goal.put-requires
put-requires c = omega (arith, bad_length c.args.number, decimal_length c.number.result)

pub returns : goal.returns
unfolding bad_row
returns c =
    let n = bad_length c.args.number in
    let e = decimal_length (number c.args.why) in
    let w = rw c.number.ensures at c.put_decimal-c.ensures in
    put_then c.put_bad-a.ensures
    (put_then c.put-b.ensures
    (put_then w c.put.ensures (omega (arith, w.place, c.put_bad-a.ensures.place, c.put_bad-a.auto.out, c.put-b.ensures.place, c.put-b.auto.out)))
    (simp length-append (omega (arith, c.put_bad-a.ensures.place, c.put_bad-a.auto.out))))
    (simp length-append (omega (arith, c.requires)))
