-- Edges of the calls beside document 01's drill sheet, computed on the definitions.
use Rattle.std.proofs.Common.{◌≡◌, ℕ, Bool, true, false, List, [], ◌∷◌, map, ℤ, pos, negsuc, refl, Err}
use lib.Ieee as Ieee
use lib.Ieee.{Float, binary32, binary64}
use Rattle.corrector.specs.Corrector as Corrector
use Rattle.types.specs.declared.Refusal.TheVariants.{Length}
use Rattle.descriptor.specs.Checks.{sizes_ok, dimension}
use Rattle.attributors.specs.Attributors as Attributors
use Rattle.corrector.specs.Corrector.{apply_basic_corrector, expected_point, trigger, point_fits, newest_row_answer, newest_row}
use Rattle.ieee.specs.Round as Round
use Rattle.util.specs.Util as Util

abbrev numbers : List ℕ → List Float
numbers = map (λ n. Ieee.of_int binary32 (pos n))

abbrev doubles : List ℕ → List Float
doubles = map (λ n. Ieee.of_int binary64 (pos n))

abbrev corrected : ℕ → ℤ → Bool → Bool → List Float
corrected gap = apply_basic_corrector (numbers (1 ∷ 2 ∷ 3 ∷ 4 ∷ [])) gap 4 1 true (numbers (5 ∷ 6 ∷ 7 ∷ 8 ∷ [])) (numbers (5 ∷ 6 ∷ 7 ∷ 18 ∷ []))

-- Corrector, base 1, shingle 4: an older anomaly, time augmentation alone, and neither.
corrections :
    (corrected 1 (negsuc 0) true true ∷ corrected 2 (pos 0) false true ∷ corrected 2 (pos 0) false false ∷ [])
    ≡ map numbers ((6 ∷ 7 ∷ 8 ∷ 4 ∷ []) ∷ (7 ∷ 8 ∷ 13 ∷ 4 ∷ []) ∷ (7 ∷ 8 ∷ 3 ∷ 4 ∷ []) ∷ [])
unfolding apply_basic_corrector Corrector.amended Corrector.amended_row Corrector.shifted Corrector.for_up_to Ieee.of_int Ieee.add Ieee.sub
corrections = refl

abbrev expected : ℕ → ℕ → List ℕ → List ℕ → List Float
expected position base high point = expected_point (doubles high) (doubles (map (λ n. 0) high)) position base (numbers point) (numbers (map (λ n. 9) point))

-- One attributor of two, both, a row of six equal ones (too many), and base 1 with three and with two dimensions.
expectations :
    (expected 2 2 (5 ∷ 5 ∷ 9 ∷ 0 ∷ 5 ∷ 5 ∷ []) (1 ∷ 2 ∷ 3 ∷ 4 ∷ 5 ∷ 6 ∷ [])
    ∷ expected 2 2 (0 ∷ 0 ∷ 9 ∷ 1 ∷ 0 ∷ 0 ∷ []) (1 ∷ 2 ∷ 3 ∷ 4 ∷ 5 ∷ 6 ∷ [])
    ∷ expected 0 6 (1 ∷ 1 ∷ 1 ∷ 1 ∷ 1 ∷ 1 ∷ 0 ∷ 0 ∷ 0 ∷ 0 ∷ 0 ∷ 0 ∷ 0 ∷ []) (1 ∷ 2 ∷ 3 ∷ 4 ∷ 5 ∷ 6 ∷ 7 ∷ 8 ∷ 7 ∷ 8 ∷ 7 ∷ 8 ∷ 7 ∷ [])
    ∷ expected 1 1 (0 ∷ 0 ∷ 0 ∷ []) (1 ∷ 2 ∷ 3 ∷ [])
    ∷ expected 1 1 (0 ∷ 0 ∷ []) (1 ∷ 2 ∷ [])
    ∷ [])
    ≡ map numbers
    ((1 ∷ 2 ∷ 9 ∷ 4 ∷ 5 ∷ 6 ∷ [])
    ∷ (1 ∷ 2 ∷ 9 ∷ 9 ∷ 5 ∷ 6 ∷ [])
    ∷ (1 ∷ 2 ∷ 3 ∷ 4 ∷ 5 ∷ 6 ∷ 7 ∷ 8 ∷ 7 ∷ 8 ∷ 7 ∷ 8 ∷ 7 ∷ [])
    ∷ (1 ∷ 9 ∷ 3 ∷ [])
    ∷ (1 ∷ 2 ∷ [])
    ∷ [])
unfolding expected_point Corrector.predicted Attributors.asked_indices Attributors.likely_missing_indices Attributors.reaching Attributors.attribution_limit Attributors.attribution_sum Attributors.for_up_to Ieee.of_int Ieee.of_bits Ieee.add Ieee.mul Ieee.div Ieee.le
expectations = refl

abbrev triggered : ℕ → Bool → ℕ → Bool
triggered gap attributed threshold =
    trigger (doubles (1 ∷ 1 ∷ 1 ∷ 1 ∷ [])) (doubles (0 ∷ 0 ∷ 0 ∷ 0 ∷ [])) gap 1 (doubles (1 ∷ 1 ∷ 1 ∷ 0 ∷ [])) (doubles (0 ∷ 0 ∷ 0 ∷ 0 ∷ [])) true attributed
    (Ieee.of_int binary32 (pos 1)) (Ieee.of_int binary32 (pos threshold))

-- A remainder of 1 in the newest of 4 coordinates scales to 4: above 3, not above 4. Gap 0 is false, gap 4 and no attribution are true.
triggers :
    (triggered 1 true 3 ∷ triggered 1 true 4 ∷ triggered 2 true 2 ∷ triggered 0 true 0 ∷ triggered 4 true 9 ∷ triggered 1 false 9 ∷ [])
    ≡ (true ∷ false ∷ false ∷ false ∷ true ∷ true ∷ [])
unfolding trigger Corrector.trigger_fits Corrector.exceeds Corrector.differential_remainder Corrector.plus_difference Corrector.for_up_to Round.narrow Util.absf32 Ieee.of_int Ieee.of_bits Ieee.add Ieee.sub Ieee.mul Ieee.div Ieee.lt
triggers = refl

-- A point of another length.
refusal : newest_row_answer 3 2 5 ≡ Err Length
unfolding newest_row_answer sizes_ok dimension
refusal = refl

newest : newest_row (numbers (1 ∷ 2 ∷ 3 ∷ 4 ∷ 5 ∷ 6 ∷ [])) 3 2 ≡ numbers (5 ∷ 6 ∷ [])
unfolding newest_row point_fits sizes_ok dimension
newest = refl
