use Rattle.std.proofs.Common.{◌≡◌}
use Rattle.deviation.specs.Statistics.{counted}
use Rattle.predictorcorrector.specs.Lists.{stepped}
use Rattle.predictorcorrector.proofs.count_row.Given as goal

abbrev pub invariant-loop-i : goal.invariant-loop-i
invariant-loop-i l = l.list ≡ stepped counted l.i l.fn.list l.row
