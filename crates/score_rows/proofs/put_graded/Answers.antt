use native.Mathlib.Omega.{arith}
use lib.ListN.{length-append}
use Rattle.score_rows.proofs.Bytes.{put_then, bits_length}
use Rattle.score_rows.specs.Text.{graded}
use Rattle.score_rows.proofs.put_graded.Goals as goal

pub put-b-requires : goal.put-b-requires
put-b-requires c = omega (arith, bits_length c.args.graded.threshold)

pub put_bits-requires : goal.put_bits-requires
put_bits-requires c = omega (arith, bits_length c.args.graded.threshold)

pub returns : goal.returns
unfolding graded
returns c =
    let t = bits_length c.args.graded.threshold in
    let g = bits_length c.args.graded.grade in
    let room = c.requires in
    put_then c.put_bits-a.ensures
    (put_then c.put-b.ensures c.put_bits.ensures (omega (arith, c.put_bits-a.ensures.place, c.put_bits-a.auto.out)))
    (simp length-append (omega arith))
