use native.Mathlib.Omega.{arith}
use lib.ListN.{length-append}
use Rattle.score_rows.proofs.Bytes.{put_then, decimal_length}
use Rattle.score_rows.specs.Text.{counts}
use Rattle.score_rows.proofs.put_counts.Goals as goal

pub put_all-c-requires : goal.put_all-c-requires
put_all-c-requires c = omega (arith, decimal_length c.args.counts.quiet, c.put_all-a.ensures.place, c.put_all-a.auto.out)

pub put_decimal-d-requires : goal.put_decimal-d-requires
put_decimal-d-requires c = omega (arith, decimal_length c.args.counts.quiet, c.put_all-a.ensures.place, c.put_all-a.auto.out, c.put_decimal-b.ensures.place, c.put_decimal-b.auto.out)

pub put_all-e-requires : goal.put_all-e-requires
put_all-e-requires c = omega (arith, decimal_length c.args.counts.quiet, decimal_length c.args.counts.raised, c.put_all-a.ensures.place, c.put_all-a.auto.out, c.put_decimal-b.ensures.place, c.put_decimal-b.auto.out, c.put_all-c.ensures.place, c.put_all-c.auto.out)

pub put_decimal-f-requires : goal.put_decimal-f-requires
put_decimal-f-requires c = omega (arith, decimal_length c.args.counts.quiet, decimal_length c.args.counts.raised, c.put_all-a.ensures.place, c.put_all-a.auto.out, c.put_decimal-b.ensures.place, c.put_decimal-b.auto.out, c.put_all-c.ensures.place, c.put_all-c.auto.out, c.put_decimal-d.ensures.place, c.put_decimal-d.auto.out)

pub put-requires : goal.put-requires
put-requires c = omega (arith, c.requires, decimal_length c.args.counts.quiet, decimal_length c.args.counts.raised, decimal_length c.args.counts.skipped, c.put_all-a.ensures.place, c.put_all-a.auto.out, c.put_decimal-b.ensures.place, c.put_decimal-b.auto.out, c.put_all-c.ensures.place, c.put_all-c.auto.out, c.put_decimal-d.ensures.place, c.put_decimal-d.auto.out, c.put_all-e.ensures.place, c.put_all-e.auto.out, c.put_decimal-f.ensures.place, c.put_decimal-f.auto.out)

pub returns : goal.returns
unfolding counts
returns c =
    let q = decimal_length c.args.counts.quiet in
    let r = decimal_length c.args.counts.raised in
    let k = decimal_length c.args.counts.skipped in
    let room = c.requires in
    put_then c.put_all-a.ensures
    (put_then c.put_decimal-b.ensures
    (put_then c.put_all-c.ensures
    (put_then c.put_decimal-d.ensures
    (put_then c.put_all-e.ensures
    (put_then c.put_decimal-f.ensures c.put.ensures (omega (arith, c.put_all-a.ensures.place, c.put_all-a.auto.out, c.put_decimal-b.ensures.place, c.put_decimal-b.auto.out, c.put_all-c.ensures.place, c.put_all-c.auto.out, c.put_decimal-d.ensures.place, c.put_decimal-d.auto.out, c.put_all-e.ensures.place, c.put_all-e.auto.out)))
    (simp length-append (omega (arith, c.put_all-a.ensures.place, c.put_all-a.auto.out, c.put_decimal-b.ensures.place, c.put_decimal-b.auto.out, c.put_all-c.ensures.place, c.put_all-c.auto.out, c.put_decimal-d.ensures.place, c.put_decimal-d.auto.out))))
    (simp length-append (omega (arith, c.put_all-a.ensures.place, c.put_all-a.auto.out, c.put_decimal-b.ensures.place, c.put_decimal-b.auto.out, c.put_all-c.ensures.place, c.put_all-c.auto.out))))
    (simp length-append (omega (arith, c.put_all-a.ensures.place, c.put_all-a.auto.out, c.put_decimal-b.ensures.place, c.put_decimal-b.auto.out))))
    (simp length-append (omega (arith, c.put_all-a.ensures.place, c.put_all-a.auto.out))))
    (simp length-append (omega arith))
