-- The states that the bytes can hold: the premise of the round trip. Definitions only.
use Rattle.std.specs.Prelude.{ℕ, ◌≤◌, ◌<◌, ◌≡◌, List, length, get_or}
use Rattle.std.specs.Int.Signed.{mag}
use Rattle.deviation.specs.Const.{zero64}
use Rattle.deviation.specs.Statistics.{fresh}
use Rattle.deviation.specs.declared.Deviation.{Deviation}
use Rattle.predictorcorrector.specs.declared.PredictorCorrector.{PredictorCorrector}
use Rattle.layout.specs.Chain.{entries}
use Rattle.layout.specs.Fits.{DeviationFits, ThresholderFits}

-- A list with room for 16 of which the first n entries exist: those are numbers of their formats, and the others are all zero.
pub record ListFits (n : ℕ) (ds : List Deviation) : Type 0 where
  pub room : length ds ≡ 16
  pub held : (k : ℕ) → k < n → DeviationFits (get_or ds k (fresh zero64))
  pub rest : (k : ℕ) → n ≤ k → get_or ds k (fresh zero64) ≡ fresh zero64

-- A state: its floats are values of their formats (of which NaN is one), its counts i32, its run length and base u32.
pub record StateFits (s : PredictorCorrector) : Type 0 where
  pub thresholder : ThresholderFits s.basic_thresholder
  pub run : s.run_length < 0x1_0000_0000
  pub base : s.base_dimension < 0x1_0000_0000
  pub actual : ListFits (entries s.auto_adjust s.base_dimension) s.deviations_actual
  pub expected : ListFits (entries s.auto_adjust s.base_dimension) s.deviations_expected

-- What of it is not so by itself in a decoded state: the whole numbers.
pub record NumbersFit (s : PredictorCorrector) : Type 0 where
  pub count : mag s.basic_thresholder.count < 0x8000_0000
  pub primary : mag s.basic_thresholder.primary_deviation.count < 0x8000_0000
  pub secondary : mag s.basic_thresholder.secondary_deviation.count < 0x8000_0000
  pub third : mag s.basic_thresholder.threshold_deviation.count < 0x8000_0000
  pub run : s.run_length < 0x1_0000_0000
  pub base : s.base_dimension < 0x1_0000_0000
  pub actual : (k : ℕ) → k < entries s.auto_adjust s.base_dimension → mag (get_or s.deviations_actual k (fresh zero64)).count < 0x8000_0000
  pub expected : (k : ℕ) → k < entries s.auto_adjust s.base_dimension → mag (get_or s.deviations_expected k (fresh zero64)).count < 0x8000_0000
