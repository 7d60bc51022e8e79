use mathlib.Core.Path.{◌≡◌}
use mathlib.Core.Bool.{true}
use mathlib.Core.List.{[], ◌∷◌}
use Rattle.descriptor.proofs.Finite.{ahead}
use Rattle.descriptor.proofs.all_finite.Given as goal

abbrev pub invariant-loop-x : goal.invariant-loop-x
invariant-loop-x g l = ahead g.N.Number.finite true (l.xs ∷ []) 0 ≡ ahead g.N.Number.finite l.ok (l.xs ∷ []) l.x-index
