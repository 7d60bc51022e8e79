use Rattle.std.proofs.Common.{◌≡◌, ℕ, ◌+◌, ◌*◌, ◌<◌, List, get_or}
use Rattle.deviation.specs.Const.{zero64}
use Rattle.deviation.specs.Statistics.{fresh}
use Rattle.deviation.specs.declared.Deviation.{Deviation}
use Rattle.layout.specs.Places.{deviation_length}
use Rattle.layout.specs.States.{deviation_at}
use Rattle.layout.specs.Chain.{list_over}
use Rattle.layout.proofs.change_list.Given as goal

abbrev pub invariant-loop-i : goal.invariant-loop-i
invariant-loop-i g l = (ds : List Deviation) → ((i : ℕ) (d : Deviation) → i < l.n → goal.F-post g l.f i (deviation_at l.initial.out (l.at + deviation_length * i)) d → d ≡ get_or ds i (fresh zero64))
    → l.out ≡ list_over l.initial.out l.at ds l.i
