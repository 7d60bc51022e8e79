-- What the bytes can hold: floats that are values of their formats (of which NaN is one), and counts from -2^31 to 2^31 - 1. Definitions only.
use Rattle.std.specs.Prelude.{◌<◌, T}
use Rattle.std.specs.Int.Signed.{mag}
use Rattle.std.specs.Float.{binary32, binary64}
use Rattle.std.specs.Float.Ieee.{fits}
use Rattle.deviation.specs.declared.Deviation.{Deviation}
use Rattle.basicthresholder.specs.declared.BasicThresholder.{BasicThresholder}

pub record DeviationFits (d : Deviation) : Type 0 where
  pub discount : T (fits binary64 d.discount)
  pub weight : T (fits binary64 d.weight)
  pub squared : T (fits binary64 d.sum_squared)
  pub sum : T (fits binary64 d.sum)
  pub count : mag d.count < 0x8000_0000

pub record ThresholderFits (s : BasicThresholder) : Type 0 where
  pub elasticity : T (fits binary32 s.elasticity)
  pub count : mag s.count < 0x8000_0000
  pub differencing : T (fits binary32 s.score_differencing)
  pub last : T (fits binary32 s.last_score)
  pub primary : DeviationFits s.primary_deviation
  pub secondary : DeviationFits s.secondary_deviation
  pub third : DeviationFits s.threshold_deviation
  pub absolute : T (fits binary32 s.absolute_threshold)
  pub fraction : T (fits binary32 s.absolute_score_fraction)
  pub lower : T (fits binary32 s.lower_threshold)
  pub adjustment : T (fits binary32 s.factor_adjustment_threshold)
  pub initial : T (fits binary32 s.initial_threshold)
  pub factor : T (fits binary32 s.z_factor)
