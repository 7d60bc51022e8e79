use mathlib.Core.Path.{◌≡◌}
use mathlib.Core.Bool.{true}
use mathlib.Core.List.{[], ◌∷◌}
use Rattle.descriptor.proofs.Finite.{ahead}
use Rattle.descriptor.proofs.triple_finite.Given as goal

abbrev pub invariant-loop-i : goal.invariant-loop-i
invariant-loop-i g l = ahead g.N.Number.finite true (l.xs ∷ l.ys ∷ l.zs ∷ []) 0 ≡ ahead g.N.Number.finite l.ok (l.xs ∷ l.ys ∷ l.zs ∷ []) l.i
