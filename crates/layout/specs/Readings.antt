-- The numbers of a reading, of the descriptor before it, and of a verdict: little-endian, without gaps.
use Rattle.std.specs.Prelude.{ℕ, Bool, true, cond, ◌&&◌, ◌||◌, List, [], ◌∷◌, length, ℤ, ◌==◌, nat_le, slice_index, Float, Result, Ok, Err}
use Rattle.types.specs.Codes.{method_of}
use Rattle.types.specs.declared.ScoringStrategy.{ScoringStrategy}
use Rattle.types.specs.declared.ScoringStrategy.TheVariants.{EXPECTED_INVERSE_HEIGHT, DISTANCE}
use Rattle.types.specs.declared.TransformMethod.{TransformMethod}
use Rattle.types.specs.declared.TransformMethod.TheVariants as Method
use Rattle.descriptor.specs.declared.Reading.{Reading}
use Rattle.descriptor.specs.declared.LastAnomaly.{LastAnomaly}
use Rattle.descriptor.specs.declared.LastDescriptor.{LastDescriptor}
use Rattle.layout.specs.Places.{reading_length, shingle_size_at, reading_base_at, strategy_at, method_at, time_augmented_at, values_seen_at, score_at, corrected_score_at, last_length, last_strategy_at, last_descriptor_score_at, last_threshold_at, has_anomaly_at, anomaly_index_at, anomaly_seen_at, has_attribution_at, anomaly_score_at}
use Rattle.layout.specs.Numbers.{le4, f32_at, i32_at, flag_at, f32_bytes, i32_bytes}
use Rattle.layout.specs.States.{joined}
use Rattle.types.specs.declared.Refusal.{Refusal}

-- What codes mean. Those outside their lists are refused before they are read.
unfoldable pub strategy_from : ℕ → ScoringStrategy
strategy_from n = cond (n == 0) EXPECTED_INVERSE_HEIGHT DISTANCE

unfoldable pub method_from : Result TransformMethod Refusal → TransformMethod
method_from (Ok m) = m
method_from (Err why) = Method.NONE

unfoldable pub decode_reading : List ℕ → Reading
decode_reading xs = record {
  shingle_size = le4 xs shingle_size_at;
  base_dimension = le4 xs reading_base_at;
  scoring_strategy = strategy_from (slice_index xs strategy_at);
  transform_method = method_from (method_of (slice_index xs method_at));
  time_augmented = flag_at xs time_augmented_at;
  values_seen = le4 xs values_seen_at;
  score = f32_at xs score_at;
  corrected_score = f32_at xs corrected_score_at;
}

unfoldable pub decode_anomaly : List ℕ → LastAnomaly
decode_anomaly xs = record {
  relative_index = i32_at xs anomaly_index_at;
  values_seen = le4 xs anomaly_seen_at;
  has_attribution = flag_at xs has_attribution_at;
  score = f32_at xs anomaly_score_at;
}

unfoldable pub decode_last : List ℕ → LastDescriptor
decode_last xs = record {
  scoring_strategy = strategy_from (slice_index xs last_strategy_at);
  score = f32_at xs last_descriptor_score_at;
  threshold = f32_at xs last_threshold_at;
  has_anomaly = flag_at xs has_anomaly_at;
  anomaly = decode_anomaly xs;
}

-- The codes and yes/no bytes are in their lists; an anomaly's attribution is looked at behind a yes. Nothing inside a slice of another length is looked at.
unfoldable pub reading_codes_ok : List ℕ → Bool
reading_codes_ok xs =
    cond (length xs == reading_length) (nat_le (slice_index xs strategy_at) 1 && (nat_le (slice_index xs method_at) 5 && nat_le (slice_index xs time_augmented_at) 1)) true

unfoldable pub last_codes_ok : List ℕ → Bool
last_codes_ok xs =
    cond (length xs == last_length)
    (nat_le (slice_index xs last_strategy_at) 1 && (nat_le (slice_index xs has_anomaly_at) 1 && (slice_index xs has_anomaly_at == 0 || nat_le (slice_index xs has_attribution_at) 1)))
    true

-- A verdict's kind (0 quiet, 1 corrected, 2 raised, 3 skipped), its correction mode's code, threshold, grade and relative index.
unfoldable pub verdict_bytes : ℕ → ℕ → Float → Float → ℤ → List ℕ
verdict_bytes kind mode threshold grade index = joined ((kind ∷ []) ∷ (mode ∷ []) ∷ f32_bytes threshold ∷ f32_bytes grade ∷ i32_bytes index ∷ [])
