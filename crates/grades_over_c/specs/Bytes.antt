-- The bytes of a thresholder that C calls reach. Definitions only.
use Rattle.std.specs.Prelude.{ℕ, ◌≡◌, List, T, Float}
use Rattle.std.specs.Float.{binary32, binary64}
use Rattle.std.specs.Float.Ieee.{fits}
use Rattle.layout.specs.Left.{left}
use Rattle.c_interface.specs.Calls.{new_into, update_threshold_in, update_primary_in, update_both_in, update_in, set_score_differencing_in, set_z_factor_in, set_lower_threshold_in, set_absolute_threshold_in, set_initial_threshold_in}

-- A construction that answered 0, then updates and setters, each by its contract, answer n and bytes ys, over the bytes xs that the one before it left. Where a number
-- goes into the bytes as it came it is an f32, the discount an f64. A refused call is among them: it leaves what it took.
pub data ReachedBytes : List ℕ → Type 0 where
  krcf_thresholder_new : {ys : List ℕ} (discount : Float) (adjust : ℕ) (out : List ℕ) → T (fits binary64 discount) → left 0 ys ≡ new_into discount adjust out → ReachedBytes ys
  krcf_update_threshold : {xs : List ℕ} (score : Float) (n : ℕ) (ys : List ℕ) → left n ys ≡ update_threshold_in score xs → ReachedBytes xs → ReachedBytes ys
  krcf_update_primary : {xs : List ℕ} (score : Float) (n : ℕ) (ys : List ℕ) → left n ys ≡ update_primary_in score xs → ReachedBytes xs → ReachedBytes ys
  krcf_update_both : {xs : List ℕ} (primary secondary : Float) (n : ℕ) (ys : List ℕ) → T (fits binary32 primary) → left n ys ≡ update_both_in primary secondary xs → ReachedBytes xs → ReachedBytes ys
  krcf_update : {xs : List ℕ} (primary secondary last : Float) (n : ℕ) (ys : List ℕ) → T (fits binary32 primary) → left n ys ≡ update_in primary secondary last xs → ReachedBytes xs → ReachedBytes ys
  krcf_set_z_factor : {xs : List ℕ} (factor : Float) (n : ℕ) (ys : List ℕ) → T (fits binary32 factor) → left n ys ≡ set_z_factor_in factor xs → ReachedBytes xs → ReachedBytes ys
  krcf_set_lower_threshold : {xs : List ℕ} (lower : Float) (n : ℕ) (ys : List ℕ) → T (fits binary32 lower) → left n ys ≡ set_lower_threshold_in lower xs → ReachedBytes xs → ReachedBytes ys
  krcf_set_absolute_threshold : {xs : List ℕ} (value : Float) (n : ℕ) (ys : List ℕ) → T (fits binary32 value) → left n ys ≡ set_absolute_threshold_in value xs → ReachedBytes xs → ReachedBytes ys
  krcf_set_initial_threshold : {xs : List ℕ} (initial : Float) (n : ℕ) (ys : List ℕ) → T (fits binary32 initial) → left n ys ≡ set_initial_threshold_in initial xs → ReachedBytes xs → ReachedBytes ys
  krcf_set_score_differencing : {xs : List ℕ} (horizon : Float) (n : ℕ) (ys : List ℕ) → T (fits binary32 horizon) → left n ys ≡ set_score_differencing_in horizon xs → ReachedBytes xs → ReachedBytes ys
