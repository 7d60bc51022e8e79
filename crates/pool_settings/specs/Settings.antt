-- The four settings of a drawer in a pool: what a call answers, and every byte of the pool afterwards.
use Rattle.std.specs.Prelude.{ℕ, cond, List, eqb, Float, Result, Ok, Err}
use Rattle.types.specs.Refusals.{number, answered}
use Rattle.predictorcorrector.specs.declared.PredictorCorrector.{PredictorCorrector}
use Rattle.predictorcorrector.specs.State.{updated, z_factor_set, lower_threshold_set, initial_threshold_set, set_horizon}
use Rattle.layout.specs.Chain.{decode_state, encode_state_over}
use Rattle.layout.specs.Left.{Left, left}
use Rattle.record_pool.specs.Pool.{locate, state_at, with_state}
use Rattle.pool_settings.specs.Sameness.{same_state}
use Rattle.record_pool.specs.declared.Slot.{Slot}
use Rattle.types.specs.declared.Refusal.{Refusal}
use Rattle.types.specs.declared.Updated.{Updated}

-- A state put over the bytes ys, unless it is the same as the one that they hold: those of entries that do not exist stay.
unfoldable pub stored_unless_same : List ℕ → PredictorCorrector → List ℕ
stored_unless_same ys s = cond (same_state (decode_state ys) s) ys (encode_state_over ys s)

-- A setting, and what it makes of a state; the horizon's refusal is 7.
pub data Setting : Type 0 where
  z_factor : Float → Setting
  lower_threshold : Float → Setting
  initial_threshold : Float → Setting
  horizon : Float → Setting

abbrev pub changed : Setting → PredictorCorrector → Updated PredictorCorrector
changed (z_factor x) s = updated (Ok tt) (z_factor_set s x)
changed (lower_threshold x) s = updated (Ok tt) (lower_threshold_set s x)
changed (initial_threshold x) s = updated (Ok tt) (initial_threshold_set s x)
changed (horizon x) s = set_horizon s x

-- A setting on the bytes ys of a state, which made u of it: a refused one leaves them.
abbrev pub stored_on : Updated PredictorCorrector → List ℕ → Left
stored_on u ys = cond (eqb (answered u.answer) 0) (left 0 (stored_unless_same ys u.state)) (left (answered u.answer) ys)

unfoldable pub set_on : Setting → List ℕ → Left
set_on c ys = stored_on (changed c (decode_state ys)) ys

-- What a call on the bytes of the state in record i leaves of the pool xs: no other byte changes.
abbrev pub in_record : List ℕ → ℕ → Left → Left
in_record xs i l = left l.answer (with_state xs i l.bytes)

-- 13, then 11, then the setting's own refusal.
abbrev pub set_by : Result Slot Refusal → Setting → List ℕ → Left
set_by (Ok s) c xs = in_record xs s.index (set_on c (state_at xs s.index))
set_by (Err why) c xs = left (number why) xs

unfoldable pub set : Setting → ℕ → List ℕ → Left
set c d xs = set_by (locate xs d) c xs
