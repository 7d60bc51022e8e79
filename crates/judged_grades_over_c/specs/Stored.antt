-- The bytes of a drawer's state that C calls reach. Definitions only.
use Rattle.std.specs.Prelude.{ℕ, ◌≡◌, List, T, eqb, Float}
use Rattle.std.specs.Float.{binary32, binary64}
use Rattle.std.specs.Float.Ieee.{fits}
use Rattle.predictorcorrector.specs.State.{new, z_factor_set, lower_threshold_set, initial_threshold_set}
use Rattle.layout.specs.Left.{left}
use Rattle.c_chain.specs.States.{chain_set, horizon_set_in, chain_made}
use Rattle.c_calls.specs.Buffers.{update_auto_adjust}
use Rattle.demand3_over_c.specs.Calls.{Judging, Contract}

-- `krcf_new` that answered 0, then the setters, `krcf_update_auto_adjust` and judging, each by its contract over the bytes that the one before it left; a number that is
-- set is an f32, a discount an f64. A refused call is among them: it leaves what it took.
pub data ReachedStored : List ℕ → Type 0 where
  krcf_new : {ys : List ℕ} (discount : Float) (auto base : ℕ) (out : List ℕ) → T (fits binary64 discount) → left 0 ys ≡ chain_made (new discount (eqb auto 1) base) auto out → ReachedStored ys
  krcf_chain_set_z_factor : {xs : List ℕ} (factor : Float) (n : ℕ) (ys : List ℕ) → T (fits binary32 factor) → left n ys ≡ chain_set (λ s. z_factor_set s factor) xs → ReachedStored xs → ReachedStored ys
  krcf_chain_set_lower_threshold : {xs : List ℕ} (lower : Float) (n : ℕ) (ys : List ℕ) → T (fits binary32 lower) → left n ys ≡ chain_set (λ s. lower_threshold_set s lower) xs → ReachedStored xs → ReachedStored ys
  krcf_chain_set_initial_threshold : {xs : List ℕ} (initial : Float) (n : ℕ) (ys : List ℕ) → T (fits binary32 initial) → left n ys ≡ chain_set (λ s. initial_threshold_set s initial) xs → ReachedStored xs → ReachedStored ys
  krcf_chain_set_horizon : {xs : List ℕ} (horizon : Float) (n : ℕ) (ys : List ℕ) → T (fits binary32 horizon) → left n ys ≡ horizon_set_in horizon xs → ReachedStored xs → ReachedStored ys
  krcf_update_auto_adjust : {xs : List ℕ} (shingle_size : ℕ) (point : List Float) (n : ℕ) (ys : List ℕ) → left n ys ≡ update_auto_adjust xs shingle_size point → ReachedStored xs → ReachedStored ys
  krcf_detect_and_modify : {xs : List ℕ} (c : Judging) → Contract xs c → ReachedStored xs → ReachedStored c.state'
