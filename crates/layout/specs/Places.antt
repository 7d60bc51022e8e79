-- How many bytes each record has, and where in it each number stands, without gaps. A statistic and a thresholder have their fields in the Rust's order.
use Rattle.std.specs.Prelude.{ℕ}

-- ---- a statistic; its discount stands first.
abbrev pub deviation_length : ℕ
deviation_length = 36

abbrev pub weight_at : ℕ
weight_at = 8

abbrev pub sum_squared_at : ℕ
sum_squared_at = 16

abbrev pub sum_at : ℕ
sum_at = 24

abbrev pub deviation_count_at : ℕ
deviation_count_at = 32

-- ---- a thresholder
abbrev pub thresholder_length : ℕ
thresholder_length = 149

abbrev pub elasticity_at : ℕ
elasticity_at = 0

abbrev pub count_at : ℕ
count_at = 4

abbrev pub score_differencing_at : ℕ
score_differencing_at = 8

abbrev pub last_score_at : ℕ
last_score_at = 12

abbrev pub primary_at : ℕ
primary_at = 16

abbrev pub secondary_at : ℕ
secondary_at = 52

abbrev pub third_at : ℕ
third_at = 88

abbrev pub auto_threshold_at : ℕ
auto_threshold_at = 124

abbrev pub absolute_threshold_at : ℕ
absolute_threshold_at = 125

abbrev pub absolute_score_fraction_at : ℕ
absolute_score_fraction_at = 129

abbrev pub lower_threshold_at : ℕ
lower_threshold_at = 133

abbrev pub factor_adjustment_threshold_at : ℕ
factor_adjustment_threshold_at = 137

abbrev pub initial_threshold_at : ℕ
initial_threshold_at = 141

abbrev pub z_factor_at : ℕ
z_factor_at = 145

-- ---- the chain's state: its thresholder, then these; each of the two lists has room for 16 statistics.
abbrev pub state_length : ℕ
state_length = 1310

abbrev pub auto_adjust_at : ℕ
auto_adjust_at = 149

abbrev pub run_length_at : ℕ
run_length_at = 150

abbrev pub base_dimension_at : ℕ
base_dimension_at = 154

abbrev pub actual_at : ℕ
actual_at = 158

abbrev pub expected_at : ℕ
expected_at = 734

abbrev pub list_length : ℕ
list_length = 576

-- ---- a reading
abbrev pub reading_length : ℕ
reading_length = 23

abbrev pub shingle_size_at : ℕ
shingle_size_at = 0

abbrev pub reading_base_at : ℕ
reading_base_at = 4

abbrev pub strategy_at : ℕ
strategy_at = 8

abbrev pub method_at : ℕ
method_at = 9

abbrev pub time_augmented_at : ℕ
time_augmented_at = 10

abbrev pub values_seen_at : ℕ
values_seen_at = 11

abbrev pub score_at : ℕ
score_at = 15

abbrev pub corrected_score_at : ℕ
corrected_score_at = 19

-- ---- the last descriptor, its anomaly behind the yes/no
abbrev pub last_length : ℕ
last_length = 23

abbrev pub last_strategy_at : ℕ
last_strategy_at = 0

abbrev pub last_descriptor_score_at : ℕ
last_descriptor_score_at = 1

abbrev pub last_threshold_at : ℕ
last_threshold_at = 5

abbrev pub has_anomaly_at : ℕ
has_anomaly_at = 9

abbrev pub anomaly_index_at : ℕ
anomaly_index_at = 10

abbrev pub anomaly_seen_at : ℕ
anomaly_seen_at = 14

abbrev pub has_attribution_at : ℕ
has_attribution_at = 18

abbrev pub anomaly_score_at : ℕ
anomaly_score_at = 19

-- ---- a verdict
abbrev pub verdict_length : ℕ
verdict_length = 14

abbrev pub kind_at : ℕ
kind_at = 0

abbrev pub mode_at : ℕ
mode_at = 1

abbrev pub threshold_at : ℕ
threshold_at = 2

abbrev pub grade_at : ℕ
grade_at = 6

abbrev pub relative_index_at : ℕ
relative_index_at = 10
