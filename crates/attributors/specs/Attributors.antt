-- The likely missing indices of expected_point, as the Rust has them, and for which of them it asks the forest.
use Rattle.std.specs.Prelude.{ℕ, zero, suc, ◌+◌, ◌*◌, Bool, cond, ◌&&◌, List, [], ◌∷◌, ◌++◌, length, get_or, set, leb, ltb, eqb, Float}
use Rattle.std.specs.Float.{nan}
use Rattle.ieee.specs.F64.{zero64, ◌>=₆₄◌, ◌+₆₄◌, ◌*₆₄◌, ◌/₆₄◌}
use Rattle.attributors.specs.Const.{half64, five64, max_attributors}
use Rattle.attributors.specs.declared.Missing.{Missing}

-- What `for i in 0..n` makes of a, step by step.
unfoldable pub for_up_to : {A : Type 0} → (A → ℕ → A) → A → ℕ → A
for_up_to step a zero = a
for_up_to step a (suc n) = step (for_up_to step a n) n

-- high_low_sum: high and low at an index, added.
abbrev pub high_low_sum : List Float → List Float → ℕ → Float
high_low_sum high low i = get_or high i nan +₆₄ get_or low i nan

-- The n sums from position on, added up from 0.
unfoldable pub attribution_sum : List Float → List Float → ℕ → ℕ → Float
attribution_sum high low position n = for_up_to (λ sum i. sum +₆₄ high_low_sum high low (position + i)) zero64 n

-- sum * 0.5 / max_attributors
unfoldable pub attribution_limit : List Float → List Float → ℕ → ℕ → Float
attribution_limit high low position base = attribution_sum high low position base *₆₄ half64 /₆₄ five64

-- Whether the sum at an index reaches the limit.
abbrev pub reaches : List Float → List Float → Float → ℕ → Bool
reaches high low limit i = high_low_sum high low i >=₆₄ limit

-- Those of the n indices from position on whose sum reaches the limit.
unfoldable pub reaching : List Float → List Float → Float → ℕ → ℕ → List ℕ
reaching high low limit position n =
    for_up_to (λ found i. cond (reaches high low limit (position + i)) (found ++ ((position + i) ∷ [])) found) [] n

-- likely_missing_indices: of a row of one its index; else those whose sum reaches the limit, none if they are more than five.
-- The Rust sorts the sums, takes the last that reaches the limit as its cutoff, and picks what reaches the cutoff. Sorted.antt says so in its words, over any
-- decreasing order of the sums, and that these are the same indices; `picked_by_sorting` (src/lib.rt) asks for the proof.
unfoldable pub likely_missing_indices : List Float → List Float → ℕ → ℕ → List ℕ
likely_missing_indices high low position base =
    let found = reaching high low (attribution_limit high low position base) position base in
    cond (eqb base 1) (position ∷ []) (cond (leb (length found) max_attributors) found [])

-- Those for which the forest is asked: all of them if they are fewer than half of the dimensions.
unfoldable pub asked_indices : List Float → List Float → ℕ → ℕ → List ℕ
asked_indices high low position base =
    let indices = likely_missing_indices high low position base in
    cond (ltb (2 * length indices) (length high)) indices []

-- The first n elements, z where there are fewer.
unfoldable pub padded : {A : Type 0} → A → ℕ → List A → List A
padded z zero xs = []
padded z (suc n) [] = z ∷ padded z n []
padded z (suc n) (x ∷ xs) = x ∷ padded z n xs

-- Indices as the call hands them back.
unfoldable pub missing : List ℕ → Missing
missing indices = record { count = length indices; indices = padded 0 max_attributors indices }

-- None.
abbrev pub nothing : Missing
nothing = record { count = 0; indices = 0 ∷ 0 ∷ 0 ∷ 0 ∷ 0 ∷ [] }

-- One more where the test holds.
abbrev pub pushed : Missing → Bool → ℕ → Missing
pushed found test index = cond test (record { count = found.count + 1; indices = set found.indices found.count index }) found

-- High and low equally long, and the row of 1 to 16 coordinates from position on lies in them.
unfoldable pub row_fits : (high low position base : ℕ) → Bool
row_fits high low position base = eqb low high && (ltb 0 base && (leb base 16 && leb (position + base) high))

-- The call: no indices where the row does not fit.
unfoldable pub asked : List Float → List Float → ℕ → ℕ → Missing
asked high low position base = cond (row_fits (length high) (length low) position base) (missing (asked_indices high low position base)) nothing
