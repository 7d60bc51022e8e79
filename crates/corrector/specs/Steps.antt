-- What private steps need or promise.
use Rattle.std.specs.Prelude.{◌≡◌, ℕ, ◌+◌, ◌-◌, ◌*◌, ◌<◌, ◌≤◌, Bool, true, List, [], ◌∷◌, slice_index, slice_index_or, slice_set, Float}
use Rattle.std.specs.Float.{nan}
use Rattle.attributors.specs.declared.Missing.{Missing}

-- Missing indices that lie in a row from start on, within so many coordinates.
pub record Missed (missing : Missing) (start len : ℕ) : Type 0 where
  pub few : missing.count ≤ 5
  pub from : (k : ℕ) → k < missing.count → start ≤ slice_index missing.indices k
  pub near : (k : ℕ) → k < missing.count → slice_index missing.indices k < start + 16
  pub inside : (k : ℕ) → k < missing.count → slice_index missing.indices k < len

-- The row that starts at start, with the prediction at the indices.
unfoldable pub predicted_row : ℕ → List ℕ → List Float → List Float → List Float
predicted_row start [] prediction row = row
predicted_row start (i ∷ indices) prediction row = predicted_row start indices prediction (slice_set row (i - start) (slice_index_or prediction i nan))

-- The facts behind `expected_fits`.
pub record Expecting (high low position base point median out : ℕ) : Type 0 where
  pub high_long : high ≡ point
  pub low_long : low ≡ point
  pub median_long : median ≡ point
  pub out_long : out ≡ point
  pub some : 0 < base
  pub few : base ≤ 16
  pub inside : position + base ≤ point

-- The facts behind `trigger_fits`.
pub record Triggering (high low base ideal_high ideal_low : ℕ) : Type 0 where
  pub low_long : low ≡ high
  pub ideal_high_long : ideal_high ≡ high
  pub ideal_low_long : ideal_low ≡ high
  pub short : high ≤ 65536
  pub some : 0 < base
  pub few : base ≤ 65536

-- The facts behind `point_fits`.
pub record Accepted (shingle base len : ℕ) : Type 0 where
  pub some : 0 < shingle
  pub few : shingle ≤ 64
  pub wide : 0 < base
  pub narrow : base ≤ 16
  pub long : len ≡ shingle * base

-- The facts behind `corrector_fits`.
pub record Correcting (point gap shingle base : ℕ) (has_anomaly : Bool) (expected anomalous out : ℕ) : Type 0 where
  pub sizes : Accepted shingle base point
  pub later : 0 < gap
  pub out_long : out ≡ point
  pub expected_long : has_anomaly ≡ true → expected ≡ point
  pub anomalous_long : has_anomaly ≡ true → anomalous ≡ point
