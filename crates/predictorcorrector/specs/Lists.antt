-- The state's two lists of statistics: room for 16, of which the first `base` exist with auto adjust and none without it.
use Rattle.std.specs.Prelude.{ℕ, zero, suc, Bool, true, cond, ◌&&◌, List, [], ◌∷◌, length, nat_le, Float}
use Rattle.deviation.specs.Statistics.{countable}
use Rattle.deviation.specs.declared.Deviation.{Deviation}

-- The first n elements, each changed by f.
unfoldable pub changed : {A : Type 0} → (A → A) → ℕ → List A → List A
changed f zero ds = ds
changed f (suc n) [] = []
changed f (suc n) (d ∷ ds) = f d ∷ changed f n ds

-- The first n elements, each stepped by f with the number at its place.
unfoldable pub stepped : {A : Type 0} → (A → Float → A) → ℕ → List A → List Float → List A
stepped f zero ds xs = ds
stepped f (suc n) [] xs = []
stepped f (suc n) (d ∷ ds) [] = d ∷ ds
stepped f (suc n) (d ∷ ds) (x ∷ xs) = f d x ∷ stepped f n ds xs

-- The counts of the first n statistics take an update.
unfoldable pub first_countable : ℕ → List Deviation → Bool
first_countable zero ds = true
first_countable (suc n) [] = true
first_countable (suc n) (d ∷ ds) = countable d.count && first_countable n ds

-- The first n statistics can count a row: there are at least as many numbers, and each statistic takes an update.
unfoldable pub row_fits : ℕ → List Deviation → List Float → Bool
row_fits n ds row = nat_le n 16 && (nat_le n (length row) && first_countable n ds)

-- At most 16 of them.
unfoldable pub list_countable : ℕ → List Deviation → Bool
list_countable n ds = first_countable (cond (nat_le n 16) n 16) ds
