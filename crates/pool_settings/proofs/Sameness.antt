-- A state is the same as itself, and as the state after a setting exactly if the number that is set is the same. Assumes nothing.
use mathlib.Core.Path.{◌≡◌, refl, ◌∙◌}
use mathlib.Core.Bool.{Bool, true, false, beq, and-true}
use mathlib.Core.List.{List}
use Prim.Native.Nat.{ℕ, zero, suc}
use lib.Dec.{eqb}
use lib.IntN.{ℤ, pos, negsuc}
use lib.Ieee.{Float, nan, inf, fin, eq, ne, is_nan}
use borrow.Author.Tests.{eq-eqb}
use Rattle.deviation.specs.declared.Deviation.{Deviation}
use Rattle.basicthresholder.specs.Updates.{with_z_factor, with_absolute_threshold, with_initial_threshold, with_score_differencing}
use Rattle.basicthresholder.specs.declared.BasicThresholder.{BasicThresholder}
use Rattle.predictorcorrector.specs.State.{with_thresholder, z_factor_set, lower_threshold_set, initial_threshold_set}
use Rattle.predictorcorrector.specs.declared.PredictorCorrector.{PredictorCorrector}
use Rattle.layout.specs.Places.{score_differencing_at, absolute_threshold_at, initial_threshold_at, z_factor_at}
use Rattle.layout.specs.Numbers.{f32_at}
use Rattle.layout.specs.States.{decode_thresholder}
use Rattle.layout.specs.Chain.{decode_state}
use Rattle.pool_settings.specs.Sameness.{same_float, same_whole, same_deviation, same_thresholder, same_entries, same_state}

-- ---- each kind of number.
flag_same : (b : Bool) → beq b b ≡ true
flag_same true = refl
flag_same false = refl

number_same : (n : ℕ) → eqb n n ≡ true
number_same n = eq-eqb n n refl

pub float_same : (x : Float) → same_float x x ≡ true
unfolding same_float eq is_nan
float_same nan = refl
float_same (inf s) = rw (flag_same s)
float_same (fin s m e) = rw (number_same, flag_same s)

-- A NaN alone differs from itself.
pub nan_is : (x : Float) → ne x x ≡ is_nan x
unfolding ne eq is_nan
nan_is nan = refl
nan_is (inf s) = rw (flag_same s)
nan_is (fin s m e) = rw (number_same, flag_same s)

whole_same : (n : ℤ) → same_whole n n ≡ true
unfolding same_whole
whole_same (pos n) = number_same n
whole_same (negsuc n) = number_same n

-- ---- each record.
pub deviation_same : (d : Deviation) → same_deviation d d ≡ true
unfolding same_deviation
deviation_same d = simp (float_same, whole_same)

pub thresholder_same : (t : BasicThresholder) → same_thresholder t t ≡ true
unfolding same_thresholder
thresholder_same t = simp (float_same, whole_same, deviation_same, flag_same)

pub entries_same : (n : ℕ) (ds : List Deviation) → same_entries n ds ds ≡ true
unfolding same_entries
entries_same zero ds = refl
entries_same (suc n) ds = simp (entries_same n ds, deviation_same)

-- Two states that differ in their thresholders alone.
pub thresholder_told : (s : PredictorCorrector) (t : BasicThresholder) → same_state s (with_thresholder s t) ≡ same_thresholder s.basic_thresholder t
unfolding same_state
thresholder_told s t = simp (flag_same, number_same, entries_same, and-true)

pub state_same : (s : PredictorCorrector) → same_state s s ≡ true
state_same s = thresholder_told s s.basic_thresholder ∙ thresholder_same s.basic_thresholder

-- ---- the settings.
module _ (t : BasicThresholder) (x : Float) where
  z_factor_told : same_thresholder t (with_z_factor t x) ≡ same_float t.z_factor x
  unfolding same_thresholder
  z_factor_told = simp (float_same, whole_same, deviation_same, flag_same)

  lower_threshold_told : same_thresholder t (with_absolute_threshold t x) ≡ same_float t.absolute_threshold x
  unfolding same_thresholder
  lower_threshold_told = simp (float_same, whole_same, deviation_same, flag_same, and-true)

  initial_threshold_told : same_thresholder t (with_initial_threshold t x) ≡ same_float t.initial_threshold x
  unfolding same_thresholder
  initial_threshold_told = simp (float_same, whole_same, deviation_same, flag_same, and-true)

  horizon_told : same_thresholder t (with_score_differencing t x) ≡ same_float t.score_differencing x
  unfolding same_thresholder
  horizon_told = simp (float_same, whole_same, deviation_same, flag_same, and-true)

-- Of a stored state the number's bytes tell.
module _ (x : Float) (ys : List ℕ) where
  abbrev held : PredictorCorrector
  held = decode_state ys

  pub z_factor_compared : same_state held (z_factor_set held x) ≡ same_float (f32_at ys z_factor_at) x
  unfolding decode_state decode_thresholder
  z_factor_compared = thresholder_told held (with_z_factor held.basic_thresholder x) ∙ z_factor_told held.basic_thresholder x

  pub lower_threshold_compared : same_state held (lower_threshold_set held x) ≡ same_float (f32_at ys absolute_threshold_at) x
  unfolding decode_state decode_thresholder
  lower_threshold_compared =
      thresholder_told held (with_absolute_threshold held.basic_thresholder x) ∙ lower_threshold_told held.basic_thresholder x

  pub initial_threshold_compared : same_state held (initial_threshold_set held x) ≡ same_float (f32_at ys initial_threshold_at) x
  unfolding decode_state decode_thresholder
  initial_threshold_compared =
      thresholder_told held (with_initial_threshold held.basic_thresholder x) ∙ initial_threshold_told held.basic_thresholder x

  pub horizon_compared : same_state held (with_thresholder held (with_score_differencing held.basic_thresholder x)) ≡ same_float (f32_at ys score_differencing_at) x
  unfolding decode_state decode_thresholder
  horizon_compared = thresholder_told held (with_score_differencing held.basic_thresholder x) ∙ horizon_told held.basic_thresholder x
