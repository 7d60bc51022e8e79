use Rattle.std.proofs.Common.{◌≡◌, take}
use Rattle.deviation.specs.Statistics.{reset}
use Rattle.predictorcorrector.specs.Lists.{changed}
use Rattle.predictorcorrector.proofs.reset_row.Given as goal

abbrev pub invariant-loop-d : goal.invariant-loop-d
invariant-loop-d l = l.d-items ≡ changed reset l.d-index (take l.n l.fn.list)
