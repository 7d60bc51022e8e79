-- What the ledger is told of readings is within its bounds: no more are accepted than there are, and each is of its sizes. Assumes nothing.
use mathlib.Core.List.{List, [], ◌∷◌}
use Prim.Native.Nat.{◌≤◌}
use native.Mathlib.Omega.{arith}
use lib.ListN.{length}
use Rattle.basicthresholder.specs.declared.BasicThresholder.{BasicThresholder}
use Rattle.score_rows.specs.Sheet.{Reading}
use Rattle.ledger.specs.Statement.{told, accepted, Sizes}
use Rattle.watch_ledger.specs.Statement.{AllSized}
use Rattle.watch_ledger.proofs.Counting.{watch}

pub few : (rs : List Reading) (s : BasicThresholder) → accepted (told watch s rs) ≤ length rs
few [] s = omega arith
few (r ∷ rs) s = omega (arith, few rs (watch.next s r))

pub sized : (rs : List Reading) (s : BasicThresholder) → AllSized rs → Sizes (told watch s rs)
sized [] s a = tt
sized (r ∷ rs) s a = (λ _. a.0, sized rs (watch.next s r) a.1)
