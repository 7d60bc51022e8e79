-- Document 01's drill sheet as one list: a row has what the definitions give, and beside it what document 01 says. `Holds sheet` is the statement that every
-- row is right; its proof is proofs/EveryRow.antt. The quoted lines are document 01's, and a star marks those that it asks to be proved.
use Rattle.std.specs.Prelude.{◌≡◌, Bool, true, false, List, [], ◌∷◌, map, ℕ, pos, Float, Result, Ok}
use Rattle.std.specs.Float.{nan, binary32, binary64}
use Rattle.std.specs.Float.Ieee.{round}
use Rattle.types.specs.Refusals.{answered}
use Rattle.types.specs.declared.TransformMethod.{TransformMethod}
use Rattle.types.specs.declared.TransformMethod.TheVariants as Method
use Rattle.deviation.specs.declared.Deviation.{Deviation}
use Rattle.deviation.specs.Statistics.{fresh, counted, mean, deviation, factor}
use Rattle.basicthresholder.specs.declared.BasicThresholder.{BasicThresholder}
use Rattle.basicthresholder.specs.Grades.{graded, threshold_and_grade}
use Rattle.basicthresholder.specs.Updates.{fresh_thresholder, with_absolute_threshold, with_initial_threshold, set_score_differencing}
use Rattle.divector.specs.DiVector.{max_gap_contribution, normalized}
use Rattle.uncertainty_box.specs.Box.{path_deviation}
use Rattle.corrector.specs.Corrector.{apply_basic_corrector, newest_row_answer}
use Rattle.types.specs.declared.Refusal.{Refusal}

-- A row: what the definitions give, and what document 01 says.
pub record Row : Type 1 where
  pub Kind : Type 0
  pub given : Kind
  pub said : Kind

infix 20 ◌gives◌
abbrev pub ◌gives◌ : {A : Type 0} → A → A → Row
◌gives◌ {A} given said = record { Kind = A; given = given; said = said }

-- Every row of a list is right.
abbrev pub Holds : List Row → Type 0
Holds [] = Unit
Holds (row ∷ rows) = (row.given ≡ row.said) × Holds rows

-- n / d as f64 and as f32: the nearest number, and n / d itself everywhere below but in 1.4.
abbrev pub f64 : ℕ → ℕ → Float
f64 n d = round binary64 false n d

abbrev pub f32 : ℕ → ℕ → Float
f32 n d = round binary32 false n d

-- Whole numbers.
abbrev pub f64s : List ℕ → List Float
f64s = map (λ n. f64 n 1)

abbrev pub f32s : List ℕ → List Float
f32s = map (λ n. f32 n 1)

-- The statistics after the scores 1, 2.
abbrev pub scored : Float → Deviation
scored discount = counted (counted (fresh discount) (f64 1 1)) (f64 2 1)

-- A fresh thresholder whose absolute and initial threshold are both 1.
abbrev pub at_one : Float → Bool → BasicThresholder
at_one discount adjust = with_initial_threshold (with_absolute_threshold (fresh_thresholder discount adjust) (f32 1 1)) (f32 1 1)

-- High 1,2,3,4, low zeros, base 2, at a gap.
abbrev pub rising : ℕ → Result ℕ Refusal
rising gap = max_gap_contribution (f64s (1 ∷ 2 ∷ 3 ∷ 4 ∷ [])) (f64s (0 ∷ 0 ∷ 0 ∷ 0 ∷ [])) 2 gap

-- The corrector at a gap: there is a last anomaly, its relative index is 0, and the transform is differenced.
abbrev pub corrected : ℕ → Bool → List Float
corrected gap timed =
    apply_basic_corrector (f32s (1 ∷ 2 ∷ 3 ∷ 4 ∷ [])) gap 4 1 true (f32s (5 ∷ 6 ∷ 7 ∷ 8 ∷ [])) (f32s (5 ∷ 6 ∷ 7 ∷ 18 ∷ [])) (pos 0) true timed

-- 1,3,6 from 0, base 1, as it is or differenced.
abbrev pub path : Bool → Float
path differenced = path_deviation (f32s (1 ∷ 3 ∷ 6 ∷ [])) 0 0 1 differenced

-- The rows. What document 01 leaves open is an argument: a fresh thresholder's discount and whether it adjusts its threshold, the method where a line names
-- none, the shingle size of a thresholder's call, and whether the corrector's points have times.
abbrev pub sheet : Float → Bool → TransformMethod → ℕ → Bool → List Row
sheet discount adjust method shingle timed =
    -- "*Discount 0, scores 1, 2: sum 3, squares 5, weight 2, mean 1.5, deviation 0.5."
    ((scored (f64 0 1)).sum gives f64 3 1)
    ∷ ((scored (f64 0 1)).sum_squared gives f64 5 1)
    ∷ ((scored (f64 0 1)).weight gives f64 2 1)
    ∷ (mean (scored (f64 0 1)) gives f64 3 2)
    ∷ (deviation (scored (f64 0 1)) gives f64 1 2)
    -- "*Discount 0.5, scores 1, 2: sum 2.5, squares 4.5, weight 1.5."
    ∷ ((scored (f64 1 2)).sum gives f64 5 2)
    ∷ ((scored (f64 1 2)).sum_squared gives f64 9 2)
    ∷ ((scored (f64 1 2)).weight gives f64 3 2)
    -- "*Discount 0.25, count 0: factor 0.5."
    ∷ (factor (f64 1 4) (pos 0) gives f64 1 2)
    -- "*Fresh thresholder, method NONE, score NaN: (1.5, 1)."
    ∷ (threshold_and_grade (fresh_thresholder discount adjust) nan Method.NONE shingle gives graded (f32 3 2) (f32 1 1))
    -- "*Fresh, absolute and initial both 1: score 1 gives (1, 0); 1.0625 gives (1, 1/16); 1.25 gives (1, 5/16); 1.8125 gives (1, 1)."
    ∷ (threshold_and_grade (at_one discount adjust) (f32 1 1) method shingle gives graded (f32 1 1) (f32 0 1))
    ∷ (threshold_and_grade (at_one discount adjust) (f32 17 16) method shingle gives graded (f32 1 1) (f32 1 16))
    ∷ (threshold_and_grade (at_one discount adjust) (f32 5 4) method shingle gives graded (f32 1 1) (f32 5 16))
    ∷ (threshold_and_grade (at_one discount adjust) (f32 29 16) method shingle gives graded (f32 1 1) (f32 1 1))
    -- "Fresh, score 1.4: (1.5, 0); 1.5: (1.5, 1)."
    ∷ (threshold_and_grade (fresh_thresholder discount adjust) (f32 14 10) method shingle gives graded (f32 3 2) (f32 0 1))
    ∷ (threshold_and_grade (fresh_thresholder discount adjust) (f32 3 2) method shingle gives graded (f32 3 2) (f32 1 1))
    -- "*High 1,2,3,4, low zeros, base 2: gaps 1, 2, 3 all give block 1. *All ones, gap 2: block 0."
    ∷ (rising 1 gives Ok 1)
    ∷ (rising 2 gives Ok 1)
    ∷ (rising 3 gives Ok 1)
    ∷ (max_gap_contribution (f64s (1 ∷ 1 ∷ 1 ∷ 1 ∷ [])) (f64s (1 ∷ 1 ∷ 1 ∷ 1 ∷ [])) 2 2 gives Ok 0)
    -- "*Corrector, base 1, shingle 4, point 1,2,3,4, expected 5,6,7,8, anomalous 5,6,7,18, relative index 0, differenced: gap 1 gives 6,7,8,14;
    -- gap 4 gives 11,2,3,4; gap 5 leaves the point."
    ∷ (corrected 1 timed gives f32s (6 ∷ 7 ∷ 8 ∷ 14 ∷ []))
    ∷ (corrected 4 timed gives f32s (11 ∷ 2 ∷ 3 ∷ 4 ∷ []))
    ∷ (corrected 5 timed gives f32s (1 ∷ 2 ∷ 3 ∷ 4 ∷ []))
    -- "*Zeros of length 2 normalised to 4: every entry 1." High and low are alike, so one row serves both.
    ∷ (normalized (f64 4 1) (f64s (0 ∷ 0 ∷ [])) (f64s (0 ∷ 0 ∷ [])) (f64s (0 ∷ 0 ∷ [])) gives f64s (1 ∷ 1 ∷ []))
    -- "*Path deviation of 1,3,6 from 0, base 1: 2.5; differenced: 2."
    ∷ (path false gives f32 5 2)
    ∷ (path true gives f32 2 1)
    -- "Shingle 64 and base 16 accepted; 65 or 17 refused (2). Horizon 1 accepted."
    ∷ (answered (newest_row_answer 64 16 1024) gives 0)
    ∷ (answered (newest_row_answer 65 16 1040) gives 2)
    ∷ (answered (newest_row_answer 64 17 1088) gives 2)
    ∷ (answered (set_score_differencing (fresh_thresholder discount adjust) (f32 1 1)).answer gives 0)
    ∷ []

-- The statement: whatever document 01 leaves open, every row is right.
abbrev pub Statement : Type 0
Statement = (discount : Float) (adjust : Bool) (method : TransformMethod) (shingle : ℕ) (timed : Bool) → Holds (sheet discount adjust method shingle timed)
