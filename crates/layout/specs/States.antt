-- A stored statistic and a stored thresholder: the fields in the Rust's order without gaps.
use Rattle.std.specs.Prelude.{ℕ, ◌+◌, cond, List, [], ◌∷◌, ◌++◌, length, ◌==◌, nat_le, slice_index, Result, Ok, Err}
use Rattle.types.specs.declared.Refusal.TheVariants.{Range, Length}
use Rattle.deviation.specs.declared.Deviation.{Deviation}
use Rattle.basicthresholder.specs.declared.BasicThresholder.{BasicThresholder}
use Rattle.basicthresholder.specs.declared.Graded.{Graded}
use Rattle.layout.specs.Places.{deviation_length, weight_at, sum_squared_at, sum_at, deviation_count_at, thresholder_length, elasticity_at, count_at, score_differencing_at, last_score_at, primary_at, secondary_at, third_at, auto_threshold_at, absolute_threshold_at, absolute_score_fraction_at, lower_threshold_at, factor_adjustment_threshold_at, initial_threshold_at, z_factor_at}
use Rattle.layout.specs.Numbers.{f32_at, f64_at, i32_at, flag_at, f32_bytes, f64_bytes, i32_bytes, flag_bytes}
use Rattle.types.specs.declared.Refusal.{Refusal}

-- The statistic from place i on.
unfoldable pub deviation_at : List ℕ → ℕ → Deviation
deviation_at xs i = record {
  discount = f64_at xs i;
  weight = f64_at xs (i + weight_at);
  sum_squared = f64_at xs (i + sum_squared_at);
  sum = f64_at xs (i + sum_at);
  count = i32_at xs (i + deviation_count_at);
}

-- Lists of bytes one after the other.
unfoldable pub joined : List (List ℕ) → List ℕ
joined [] = []
joined (x ∷ xs) = x ++ joined xs

unfoldable pub encode_deviation : Deviation → List ℕ
encode_deviation d = joined (f64_bytes d.discount ∷ f64_bytes d.weight ∷ f64_bytes d.sum_squared ∷ f64_bytes d.sum ∷ i32_bytes d.count ∷ [])

abbrev pub decode_deviation : List ℕ → Deviation
decode_deviation xs = deviation_at xs 0

unfoldable pub decode_thresholder : List ℕ → BasicThresholder
decode_thresholder xs = record {
  elasticity = f32_at xs elasticity_at;
  count = i32_at xs count_at;
  score_differencing = f32_at xs score_differencing_at;
  last_score = f32_at xs last_score_at;
  primary_deviation = deviation_at xs primary_at;
  secondary_deviation = deviation_at xs secondary_at;
  threshold_deviation = deviation_at xs third_at;
  auto_threshold = flag_at xs auto_threshold_at;
  absolute_threshold = f32_at xs absolute_threshold_at;
  absolute_score_fraction = f32_at xs absolute_score_fraction_at;
  lower_threshold = f32_at xs lower_threshold_at;
  factor_adjustment_threshold = f32_at xs factor_adjustment_threshold_at;
  initial_threshold = f32_at xs initial_threshold_at;
  z_factor = f32_at xs z_factor_at;
}

unfoldable pub encode_thresholder : BasicThresholder → List ℕ
encode_thresholder s =
    joined
    (f32_bytes s.elasticity ∷ i32_bytes s.count ∷ f32_bytes s.score_differencing ∷ f32_bytes s.last_score
    ∷ encode_deviation s.primary_deviation ∷ encode_deviation s.secondary_deviation ∷ encode_deviation s.threshold_deviation
    ∷ flag_bytes s.auto_threshold ∷ f32_bytes s.absolute_threshold ∷ f32_bytes s.absolute_score_fraction ∷ f32_bytes s.lower_threshold
    ∷ f32_bytes s.factor_adjustment_threshold ∷ f32_bytes s.initial_threshold ∷ f32_bytes s.z_factor ∷ [])

-- A threshold and its grade, 8 bytes.
unfoldable pub encode_graded : Graded → List ℕ
encode_graded g = joined (f32_bytes g.threshold ∷ f32_bytes g.grade ∷ [])

-- What is read of a slice: 3 for another length, then 2 for a yes/no byte above 1.
unfoldable pub read_deviation : List ℕ → Result Deviation Refusal
read_deviation xs = cond (length xs == deviation_length) (Ok (decode_deviation xs)) (Err Length)

unfoldable pub read_thresholder : List ℕ → Result BasicThresholder Refusal
read_thresholder xs =
    cond (length xs == thresholder_length)
    (cond (nat_le (slice_index xs auto_threshold_at) 1) (Ok (decode_thresholder xs)) (Err Range))
    (Err Length)
