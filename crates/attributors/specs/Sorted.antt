-- The likely missing indices by the steps of expected_point, which sorts the sums and picks by a cutoff: the same as those of Attributors.
use Rattle.std.specs.Prelude.{◌≡◌, ℕ, suc, ◌+◌, ◌-◌, ◌<◌, Bool, true, not, cond, ◌&&◌, List, [], ◌∷◌, ◌++◌, length, get_or, leb, ltb, eqb, Float}
use Rattle.std.specs.Float.{nan}
use Rattle.ieee.specs.F64.{◌>=₆₄◌}
use Rattle.attributors.specs.Const.{max_attributors}
use Rattle.attributors.specs.Attributors.{for_up_to, high_low_sum, attribution_limit, reaches, likely_missing_indices}

-- values before the sort: the n sums from position on.
unfoldable pub sums : List Float → List Float → ℕ → ℕ → List Float
sums high low position n = for_up_to (λ values i. values ++ (high_low_sum high low (position + i) ∷ [])) [] n

-- How many pass a test.
unfoldable pub how_many : (Float → Bool) → List Float → ℕ
how_many test [] = 0
how_many test (x ∷ xs) = cond (test x) (suc (how_many test xs)) (how_many test xs)

-- values after the sort: each is at least the next, and every test is passed by as many values as sums. So they are the sums, in decreasing order.
pub record Sorted (values sums : List Float) : Type 0 where
  pub decreasing : (k : ℕ) → suc k < length values → (get_or values k nan >=₆₄ get_or values (suc k) nan) ≡ true
  pub rearranged : (test : Float → Bool) → how_many test values ≡ how_many test sums

-- pick: how many of the first values reach the limit.
unfoldable pub pick_of : Float → List Float → ℕ
pick_of limit [] = 0
pick_of limit (x ∷ xs) = cond (x >=₆₄ limit) (suc (pick_of limit xs)) 0

-- The last loop: those of the n indices from position on whose sum reaches the cutoff, as long as fewer than five are found.
unfoldable pub from_cutoff : List Float → List Float → Float → ℕ → ℕ → List ℕ
from_cutoff high low cutoff position n =
    for_up_to (λ found i. cond (reaches high low cutoff (position + i) && ltb (length found) max_attributors) (found ++ ((position + i) ∷ [])) found) [] n

-- likely_missing_indices, by the values after the sort.
unfoldable pub picked : List Float → List Float → List Float → ℕ → ℕ → List ℕ
picked values high low position base =
    let pick = pick_of (attribution_limit high low position base) values in
    let cutoff = get_or values (pick - 1) nan in
    cond (eqb base 1) (position ∷ []) (cond (not (eqb pick 0) && leb pick max_attributors) (from_cutoff high low cutoff position base) [])

-- Over any sorted values the same indices are picked; and where no sum is NaN there are sorted values. At a NaN among two or more the Rust's sort panics.
pub record SortedPick : Type 0 where
  pub same : (values high low : List Float) (position base : ℕ) → Sorted values (sums high low position base)
      → picked values high low position base ≡ likely_missing_indices high low position base
  pub sorted : (high low : List Float) (position base : ℕ) → ((i : ℕ) → i < base → high_low_sum high low (position + i) ≡ nan → ⊥)
      → (values : List Float) × Sorted values (sums high low position base)
