-- Lists of whole numbers: how often a number occurs, tests of every element.
use Rattle.std.specs.Prelude.{ℕ, zero, suc, ◌+◌, Bool, true, cond, ◌&&◌, List, [], ◌∷◌, eqb}

-- 1 where the two are the same, else 0.
unfoldable pub same : ℕ → ℕ → ℕ
same x i = cond (eqb x i) 1 0

-- How often i stands in a list.
abbrev pub occ : ℕ → List ℕ → ℕ
occ i [] = 0
occ i (x ∷ xs) = same x i + occ i xs

abbrev pub every : (ℕ → Bool) → List ℕ → Bool
every f [] = true
every f (x ∷ xs) = f x && every f xs

-- No number stands twice.
abbrev pub distinct : List ℕ → Bool
distinct [] = true
distinct (x ∷ xs) = eqb (occ x xs) 0 && distinct xs

-- n, n - 1, .., 1.
abbrev pub down_from : ℕ → List ℕ
down_from zero = []
down_from (suc n) = suc n ∷ down_from n
