-- Whatever the input, the load prints a bad line or at most 65,536 scores. Assumes nothing.
use mathlib.Core.Path.{◌≡◌, refl}
use mathlib.Core.Bool.{Bool, true, false, cond, ◌&&◌}
use mathlib.Core.Logic.{◌⊎◌, inl, inr}
use mathlib.Core.List.{List, [], ◌∷◌}
use Prim.Native.Nat.{ℕ, ◌≤◌}
use native.Mathlib.Omega.{arith}
use lib.Dec.{leb}
use lib.ListN.{length}
use borrow.Author.Tests.{leb-true}
use Rattle.score_rows.specs.Text.{bad_line}
use Rattle.score_lines.specs.Output.{all_digits, lines_from}
use Rattle.training_lines.specs.Output.{is_seed, seed_of, count_of, is_count, load, behind_seed, printed, output}
use Rattle.training_ledger.specs.Statement.{Loaded}

abbrev Sound : List ℕ → Type 0
Sound text = (text ≡ bad_line 1) ⊎ ((text ≡ bad_line 2) ⊎ Loaded text)

last_true : (t u : Bool) → t && u ≡ true → u ≡ true
last_true true u e = e
last_true false u e = absurd (let z : ◌≡◌ {A = ℕ} 0 1 = cc in omega arith)

few : (line : List ℕ) → is_count line ≡ true → count_of line ≤ 65536
unfolding is_count
few line e = leb-true (count_of line) 65536 (last_true (all_digits 10 line) _ (last_true (leb (length line) 5) _ (last_true (leb 1 (length line)) _ e)))

by_count : (seed : ℕ) (line : List ℕ) (t : Bool) → is_count line ≡ t → Sound (cond t (load seed (count_of line)) (bad_line 2))
by_count seed line true e = inr (inr (record { seed = seed; count = count_of line; most = few line e; printed = refl }))
by_count seed line false e = inr (inl refl)

by_seed : (seed : ℕ) (lines : List (List ℕ)) → Sound (behind_seed seed lines)
unfolding behind_seed
by_seed seed [] = inr (inl refl)
by_seed seed (line ∷ rest) = by_count seed line (is_count line) refl

by_lines : (lines : List (List ℕ)) → Sound (printed lines)
unfolding printed
by_lines [] = inl refl
by_lines (line ∷ rest) = go (is_seed line)
  where
    go : (t : Bool) → Sound (cond t (behind_seed (seed_of line) rest) (bad_line 1))
    go true = by_seed (seed_of line) rest
    go false = inl refl

pub of_inputs : (input : List ℕ) → Sound (output input)
unfolding output
of_inputs input = by_lines (lines_from [] input)
