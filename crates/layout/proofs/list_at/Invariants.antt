use Rattle.std.proofs.Common.{◌≡◌, ℕ, ◌+◌, ◌*◌}
use Rattle.layout.specs.Places.{deviation_length}
use Rattle.layout.specs.States.{deviation_at}
use Rattle.layout.specs.Chain.{filled}
use Rattle.layout.proofs.list_at.Given as goal

abbrev pub invariant-loop-i : goal.invariant-loop-i
invariant-loop-i l = l.out ≡ filled (λ (k : ℕ). deviation_at l.bytes (l.at + deviation_length * k)) l.i l.initial.out
