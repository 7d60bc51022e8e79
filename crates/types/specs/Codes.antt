-- The codes of types.rs, from 0: the code of each variant, and what a code stands for, or refusal 2.
use Rattle.std.specs.Prelude.{ℕ, Bool, true, false, cond, eqb, Result, Ok, Err}
use Rattle.types.specs.declared.Refusal.{Refusal}
use Rattle.types.specs.declared.Refusal.TheVariants.{Range}
use Rattle.types.specs.declared.TransformMethod.{TransformMethod}
use Rattle.types.specs.declared.TransformMethod.TheVariants as Method
use Rattle.types.specs.declared.ScoringStrategy.{ScoringStrategy}
use Rattle.types.specs.declared.ScoringStrategy.TheVariants as Strategy
use Rattle.types.specs.declared.CorrectionMode.{CorrectionMode}
use Rattle.types.specs.declared.CorrectionMode.TheVariants as Mode

abbrev pub method_code : TransformMethod → ℕ
method_code Method.NONE = 0
method_code Method.WEIGHTED = 1
method_code Method.DIFFERENCE = 2
method_code Method.SUBTRACT_MA = 3
method_code Method.NORMALIZE = 4
method_code Method.NORMALIZE_DIFFERENCE = 5

abbrev pub method_of : ℕ → Result TransformMethod Refusal
method_of n =
    cond (eqb n 0) (Ok Method.NONE)
    (cond (eqb n 1) (Ok Method.WEIGHTED)
    (cond (eqb n 2) (Ok Method.DIFFERENCE)
    (cond (eqb n 3) (Ok Method.SUBTRACT_MA)
    (cond (eqb n 4) (Ok Method.NORMALIZE)
    (cond (eqb n 5) (Ok Method.NORMALIZE_DIFFERENCE)
    (Err Range))))))

abbrev pub strategy_code : ScoringStrategy → ℕ
strategy_code Strategy.EXPECTED_INVERSE_HEIGHT = 0
strategy_code Strategy.DISTANCE = 1

abbrev pub strategy_of : ℕ → Result ScoringStrategy Refusal
strategy_of n =
    cond (eqb n 0) (Ok Strategy.EXPECTED_INVERSE_HEIGHT)
    (cond (eqb n 1) (Ok Strategy.DISTANCE)
    (Err Range))

abbrev pub mode_code : CorrectionMode → ℕ
mode_code Mode.NONE = 0
mode_code Mode.NOISE = 1
mode_code Mode.MULTI_MODE = 2
mode_code Mode.ANOMALY_IN_SHINGLE = 3
mode_code Mode.CONDITIONAL_FORECAST = 4
mode_code Mode.FORECAST = 5
mode_code Mode.DATA_DRIFT = 6

abbrev pub mode_of : ℕ → Result CorrectionMode Refusal
mode_of n =
    cond (eqb n 0) (Ok Mode.NONE)
    (cond (eqb n 1) (Ok Mode.NOISE)
    (cond (eqb n 2) (Ok Mode.MULTI_MODE)
    (cond (eqb n 3) (Ok Mode.ANOMALY_IN_SHINGLE)
    (cond (eqb n 4) (Ok Mode.CONDITIONAL_FORECAST)
    (cond (eqb n 5) (Ok Mode.FORECAST)
    (cond (eqb n 6) (Ok Mode.DATA_DRIFT)
    (Err Range)))))))

-- method == NONE
abbrev pub is_none : TransformMethod → Bool
is_none Method.NONE = true
is_none Method.WEIGHTED = false
is_none Method.DIFFERENCE = false
is_none Method.SUBTRACT_MA = false
is_none Method.NORMALIZE = false
is_none Method.NORMALIZE_DIFFERENCE = false

-- method == DIFFERENCE || method == NORMALIZE_DIFFERENCE
abbrev pub is_differenced : TransformMethod → Bool
is_differenced Method.NONE = false
is_differenced Method.WEIGHTED = false
is_differenced Method.DIFFERENCE = true
is_differenced Method.SUBTRACT_MA = false
is_differenced Method.NORMALIZE = false
is_differenced Method.NORMALIZE_DIFFERENCE = true

-- strategy == EXPECTED_INVERSE_HEIGHT
abbrev pub is_height : ScoringStrategy → Bool
is_height Strategy.EXPECTED_INVERSE_HEIGHT = true
is_height Strategy.DISTANCE = false
