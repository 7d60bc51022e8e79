use Rattle.std.proofs.Common.{ap}
use Rattle.deviation.specs.declared.Deviation.{Deviation}
use Rattle.basicthresholder.specs.Updates.{threshold_counted, with_counted}
use Rattle.basicthresholder.proofs.BasicThresholder.threshold_counted.Goals as goal

pub returns : goal.returns
unfolding threshold_counted
returns c =
    let s = c.args.self in
    ap (λ (d : Deviation). with_counted s s.last_score s.primary_deviation s.secondary_deviation d s.count) c.counted_over-third.ensures
