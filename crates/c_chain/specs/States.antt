-- Construction and setters of the chain's stored state over C. Of several refusals the smallest is answered; nothing inside a slice
-- of another length is looked at.
use Rattle.std.specs.Prelude.{ℕ, cond, List, eqb, leb, length, replicate, Float, Result, Ok, Err}
use Rattle.types.specs.Refusals.{number, answered}
use Rattle.types.specs.declared.Refusal.{Refusal}
use Rattle.types.specs.declared.Refusal.TheVariants.{Range, Length}
use Rattle.predictorcorrector.specs.declared.PredictorCorrector.{PredictorCorrector}
use Rattle.predictorcorrector.specs.State.{set_horizon}
use Rattle.layout.specs.Places.{state_length}
use Rattle.layout.specs.Chain.{decode_state, encode_state_over, state_codes_ok}
use Rattle.layout.specs.Left.{Left, left}

-- 3 for a slice of another length, otherwise 2 for a yes/no byte above 1, otherwise 0.
unfoldable pub chain_refusal : List ℕ → ℕ
chain_refusal xs =
    cond (eqb (length xs) state_length) (cond (state_codes_ok xs) 0 (number Range)) (number Length)

-- Set in place by f. The bytes of entries that do not exist stay.
unfoldable pub chain_set : (PredictorCorrector → PredictorCorrector) → List ℕ → Left
chain_set f xs = cond (eqb (chain_refusal xs) 0) (left 0 (encode_state_over xs (f (decode_state xs)))) (left (chain_refusal xs) xs)

-- The horizon: its 7 comes after the state's refusals.
unfoldable pub horizon_set_in : Float → List ℕ → Left
horizon_set_in x xs =
    cond (eqb (chain_refusal xs) 0)
    (let u = set_horizon (decode_state xs) x in
    cond (eqb (answered u.answer) 0) (left 0 (encode_state_over xs u.state)) (left (answered u.answer) xs))
    (left (chain_refusal xs) xs)

-- A new state over zeros: 1 for its discount, 2 for its base or the yes/no byte `adjust`, then 3.
unfoldable pub chain_made : Result PredictorCorrector Refusal → ℕ → List ℕ → Left
chain_made (Ok s) adjust out =
    cond (leb adjust 1)
    (cond (eqb (length out) state_length) (left 0 (encode_state_over (replicate (length out) 0) s)) (left (number Length) out))
    (left (number Range) out)
chain_made (Err why) adjust out = left (number why) out
