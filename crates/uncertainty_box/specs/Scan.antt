-- What a loop over the places 0, 1, .. makes of a function of the place. Definitions only.
use Rattle.std.specs.Prelude.{ℕ, zero, suc, ◌+◌, Bool, false, cond, ◌||◌, List, [], ◌∷◌, ◌++◌, slice_index_or, Float}
use Rattle.std.specs.Float.{nan}

-- The element at a place. The definitions look at no place past the end.
abbrev pub nth : List Float → ℕ → Float
nth xs i = slice_index_or xs i nan

-- Whether f holds at a place below n.
unfoldable pub some : ℕ → (ℕ → Bool) → Bool
some zero f = false
some (suc n) f = some n f || f n

-- At how many places below n it holds.
unfoldable pub count : ℕ → (ℕ → Bool) → ℕ
count zero f = 0
count (suc n) f = cond (f n) (count n f + 1) (count n f)

-- f 0, f 1, .. up to the place before n.
unfoldable pub listed : ℕ → (ℕ → Float) → List Float
listed zero f = []
listed (suc n) f = listed n f ++ (f n ∷ [])
