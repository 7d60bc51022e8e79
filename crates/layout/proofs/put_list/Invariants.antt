use Rattle.std.proofs.Common.{◌≡◌}
use Rattle.layout.specs.Chain.{list_over}
use Rattle.layout.proofs.put_list.Given as goal

abbrev pub invariant-loop-i : goal.invariant-loop-i
invariant-loop-i l = l.out ≡ list_over l.initial.out l.at l.list l.i
