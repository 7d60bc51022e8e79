-- basicthresholder.rs: construction, updates and setters. One definition for each function, in the Rust's shape. Operators with ₃₂ are those of f32, `/₆₄` is f64's.
use Rattle.std.specs.Prelude.{Bool, cond, ◌&&◌, ℤ, pos, Float, Result, Ok, Err}
use Rattle.ieee.specs.Round.{narrow}
use Rattle.ieee.specs.F32.{◌-₃₂◌, ◌<=₃₂◌, ◌>₃₂◌, ◌>=₃₂◌}
use Rattle.ieee.specs.F64.{◌/₆₄◌}
use Rattle.util.specs.Util.{minf32}
use Rattle.types.specs.declared.Refusal.{Refusal}
use Rattle.types.specs.declared.Refusal.TheVariants.{Discount, Count, Horizon}
use Rattle.deviation.specs.declared.Deviation.{Deviation}
use Rattle.deviation.specs.Statistics.{fresh, is_discount, mean, counted, countable, one_more}
use Rattle.basicthresholder.specs.Const.{zero32, one32, two32, two64, elasticity_default, score_differencing_default, absolute_threshold_default, absolute_score_fraction_default, initial_threshold_default, z_factor_default, factor_adjustment_threshold_default}
use Rattle.basicthresholder.specs.declared.BasicThresholder.{BasicThresholder}
use Rattle.types.specs.declared.Updated.{Updated}

-- A new state by its statistics: the first two are the same, the third has half the discount.
abbrev pub fresh_by : Deviation → Deviation → Bool → BasicThresholder
fresh_by statistic third adjust = record {
  elasticity = elasticity_default;
  count = pos 0;
  score_differencing = score_differencing_default;
  last_score = zero32;
  primary_deviation = statistic;
  secondary_deviation = statistic;
  threshold_deviation = third;
  auto_threshold = adjust;
  absolute_threshold = absolute_threshold_default;
  absolute_score_fraction = absolute_score_fraction_default;
  lower_threshold = one32;
  factor_adjustment_threshold = factor_adjustment_threshold_default;
  initial_threshold = initial_threshold_default;
  z_factor = z_factor_default;
}

abbrev pub fresh_thresholder : Float → Bool → BasicThresholder
fresh_thresholder discount adjust = fresh_by (fresh discount) (fresh (discount /₆₄ two64)) adjust

-- Refusal 1 for a discount outside [0, 1).
unfoldable pub new_adjustible : Float → Bool → Result BasicThresholder Refusal
new_adjustible discount adjust = cond (is_discount discount) (Ok (fresh_thresholder discount adjust)) (Err Discount)

-- A call's answer beside the state; a refusal hands it back as it came.
abbrev pub done : BasicThresholder → Updated BasicThresholder
done s = record { answer = Ok tt; state = s }

abbrev pub refused : Refusal → BasicThresholder → Updated BasicThresholder
refused why s = record { answer = Err why; state = s }

-- The state with the parts that an update changes: last score, the three statistics, the count.
abbrev pub with_counted : BasicThresholder → Float → Deviation → Deviation → Deviation → ℤ → BasicThresholder
with_counted s last primary secondary third n = record {
  elasticity = s.elasticity;
  count = n;
  score_differencing = s.score_differencing;
  last_score = last;
  primary_deviation = primary;
  secondary_deviation = secondary;
  threshold_deviation = third;
  auto_threshold = s.auto_threshold;
  absolute_threshold = s.absolute_threshold;
  absolute_score_fraction = s.absolute_score_fraction;
  lower_threshold = s.lower_threshold;
  factor_adjustment_threshold = s.factor_adjustment_threshold;
  initial_threshold = s.initial_threshold;
  z_factor = s.z_factor;
}

-- The third statistic counts a gap above 0.
unfoldable pub counted_gap : Deviation → Float → Deviation
counted_gap third gap = cond (gap >₃₂ zero32) (counted third gap) third

-- The third statistic after a score, by its gap over the primary's mean.
unfoldable pub counted_over : Deviation → Deviation → Float → Deviation
counted_over third primary score = counted_gap third (score -₃₂ narrow (mean primary))

-- What `update_threshold`, `update_primary` and `update_both` leave where the counts take an update. The gap is over the mean after the score.
unfoldable pub threshold_counted : BasicThresholder → Float → BasicThresholder
threshold_counted s score =
    let third = counted_over s.threshold_deviation s.primary_deviation score in
    with_counted s s.last_score s.primary_deviation s.secondary_deviation third s.count

unfoldable pub primary_counted : BasicThresholder → Float → BasicThresholder
primary_counted s score =
    let primary = counted s.primary_deviation score in
    let third = counted_over s.threshold_deviation primary (narrow score) in
    with_counted s (narrow score) primary s.secondary_deviation third (one_more s.count)

unfoldable pub both_counted : BasicThresholder → Float → Float → BasicThresholder
both_counted s primary secondary =
    let first = counted s.primary_deviation primary in
    let second = counted s.secondary_deviation secondary in
    let third = counted_over s.threshold_deviation first primary in
    with_counted s primary first second third (one_more s.count)

-- Every count of the record takes an update.
unfoldable pub counts_ok : BasicThresholder → Bool
counts_ok s =
    countable s.count
    && (countable s.primary_deviation.count && (countable s.secondary_deviation.count && countable s.threshold_deviation.count))

-- Otherwise updates refuse it by 6.
unfoldable pub updated : BasicThresholder → BasicThresholder → Updated BasicThresholder
updated before after = cond (counts_ok before) (done after) (refused Count before)

unfoldable pub update_threshold : BasicThresholder → Float → Updated BasicThresholder
update_threshold s score = updated s (threshold_counted s score)

unfoldable pub update_primary : BasicThresholder → Float → Updated BasicThresholder
update_primary s score = updated s (primary_counted s score)

unfoldable pub update_both : BasicThresholder → Float → Float → Updated BasicThresholder
update_both s primary secondary = updated s (both_counted s primary secondary)

-- The primary is capped at 2.
unfoldable pub update : BasicThresholder → Float → Float → Float → Updated BasicThresholder
update s primary secondary last_score = update_both s (minf32 two32 primary) (secondary -₃₂ last_score)

-- The settings that the setters change.
pub record Settings : Type 0 where
  pub score_differencing : Float
  pub absolute_threshold : Float
  pub lower_threshold : Float
  pub initial_threshold : Float
  pub z_factor : Float

-- The state with other settings.
abbrev pub with_settings : BasicThresholder → Settings → BasicThresholder
with_settings s k = record {
  elasticity = s.elasticity;
  count = s.count;
  score_differencing = k.score_differencing;
  last_score = s.last_score;
  primary_deviation = s.primary_deviation;
  secondary_deviation = s.secondary_deviation;
  threshold_deviation = s.threshold_deviation;
  auto_threshold = s.auto_threshold;
  absolute_threshold = k.absolute_threshold;
  absolute_score_fraction = s.absolute_score_fraction;
  lower_threshold = k.lower_threshold;
  factor_adjustment_threshold = s.factor_adjustment_threshold;
  initial_threshold = k.initial_threshold;
  z_factor = k.z_factor;
}

abbrev pub with_z_factor : BasicThresholder → Float → BasicThresholder
with_z_factor s factor = with_settings s (record {
  score_differencing = s.score_differencing;
  absolute_threshold = s.absolute_threshold;
  lower_threshold = s.lower_threshold;
  initial_threshold = s.initial_threshold;
  z_factor = factor;
})

abbrev pub with_lower_threshold : BasicThresholder → Float → BasicThresholder
with_lower_threshold s lower = with_settings s (record {
  score_differencing = s.score_differencing;
  absolute_threshold = s.absolute_threshold;
  lower_threshold = lower;
  initial_threshold = s.initial_threshold;
  z_factor = s.z_factor;
})

abbrev pub with_absolute_threshold : BasicThresholder → Float → BasicThresholder
with_absolute_threshold s value = with_settings s (record {
  score_differencing = s.score_differencing;
  absolute_threshold = value;
  lower_threshold = s.lower_threshold;
  initial_threshold = s.initial_threshold;
  z_factor = s.z_factor;
})

abbrev pub with_initial_threshold : BasicThresholder → Float → BasicThresholder
with_initial_threshold s initial = with_settings s (record {
  score_differencing = s.score_differencing;
  absolute_threshold = s.absolute_threshold;
  lower_threshold = s.lower_threshold;
  initial_threshold = initial;
  z_factor = s.z_factor;
})

abbrev pub with_score_differencing : BasicThresholder → Float → BasicThresholder
with_score_differencing s horizon = with_settings s (record {
  score_differencing = horizon;
  absolute_threshold = s.absolute_threshold;
  lower_threshold = s.lower_threshold;
  initial_threshold = s.initial_threshold;
  z_factor = s.z_factor;
})

-- No NaN is one.
unfoldable pub is_horizon : Float → Bool
is_horizon horizon = horizon >=₃₂ zero32 && horizon <=₃₂ one32

-- Refusal 7 for any other horizon.
unfoldable pub set_score_differencing : BasicThresholder → Float → Updated BasicThresholder
set_score_differencing s horizon = cond (is_horizon horizon) (done (with_score_differencing s horizon)) (refused Horizon s)
