-- Whoever is told the scores of the load is within demand 3's bounds, the score watch among them. Assumes nothing.
use mathlib.Core.Path.{◌≡◌, refl, sym, ap, subst}
use mathlib.Core.Bool.{Bool, true, false, cond}
use mathlib.Core.List.{List, [], ◌∷◌}
use Prim.Native.Nat.{ℕ, suc, ◌+◌, ◌≤◌}
use native.Mathlib.Omega.{arith}
use lib.Dec.{T}
use lib.ListN.{length}
use lib.Ieee.{Float, lt, le}
use Rattle.basicthresholder.specs.Const.{zero32, sixteen32}
use Rattle.ledger.specs.Statement.{Told, accepted, Sizes, InBounds}
use Rattle.watch_ledger.specs.Statement.{AllSized}
use Rattle.training_scores.specs.Recurrence.{scores}
use Rattle.training_ledger.specs.Statement.{scores_told, numbered}
use Rattle.training_ledger.proofs.Scores.{AllSound, all_sound, as_many}

at_most_one : (b : Bool) → cond b 0 1 ≤ 1
at_most_one true = omega arith
at_most_one false = omega arith

few : (ts : List Told) → accepted ts ≤ length (scores_told ts)
few [] = omega arith
few (t ∷ ts) = omega (arith, at_most_one t.refused, few ts)

sized_told : (ts : List Told) → AllSound (scores_told ts) → Sizes ts
sized_told [] a = tt
sized_told (t ∷ ts) a = (λ _. a.0.size, sized_told ts a.1)

pub in_bounds : (seed count : ℕ) → count ≤ 65536 → (z : Float) → T (lt zero32 z) → T (le z sixteen32)
    → (ts : List Told) → scores_told ts ≡ scores seed count → InBounds z ts
in_bounds seed count h z above most ts e = record {
  z_above = above;
  z_most = most;
  readings = omega (arith, few ts, ap length e, as_many seed count);
  scores = sized_told ts (subst AllSound (sym e) (all_sound seed count));
}

-- The scores as the score watch numbers them.
pub numbered_length : (n : ℕ) (xs : List Float) → length (numbered n xs) ≡ length xs
unfolding numbered
numbered_length n [] = refl
numbered_length n (x ∷ xs) = ap suc (numbered_length (n + 1) xs)

pub numbered_sized : (n : ℕ) (xs : List Float) → AllSound xs → AllSized (numbered n xs)
unfolding numbered
numbered_sized n [] a = tt
numbered_sized n (x ∷ xs) a = (a.0.size, numbered_sized (n + 1) xs a.1)
