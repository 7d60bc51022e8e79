use Rattle.std.proofs.Common.{refl, arith}
use lib.Ieee.{nan}
use Rattle.deviation.specs.Statistics.{counted}
use Rattle.predictorcorrector.specs.Lists.{stepped}
use Rattle.predictorcorrector.proofs.Rows.{stepped_more}
use Rattle.predictorcorrector.proofs.count_row.Goals as goal

pub loop-i-init : goal.loop-i-init
unfolding stepped
loop-i-init c = refl

pub loop-i-preserved : goal.loop-i-preserved
loop-i-preserved c =
    stepped_more counted c.loop-i.i c.args.list c.loop-i.list c.args.row.now _ _ _ nan c.loop-i.invariant c.f32_to_f64_with_nan.ensures c.counted.ensures (omega arith) (omega arith)
