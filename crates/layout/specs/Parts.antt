-- What this crate's private functions promise each other. A reader need not read it: no public contract mentions it.
use Rattle.std.specs.Prelude.{◌≡◌, ℕ, ◌+◌, ◌-◌, ◌*◌, ◌≤◌, Bool, true, cond, ◌&&◌, List, [], length, ◌==◌, nat_le, Float}
use Rattle.types.specs.Codes.{is_height}
use Rattle.types.specs.declared.ScoringStrategy.{ScoringStrategy}
use Rattle.util.specs.Util.{minf32}
use Rattle.deviation.specs.Const.{zero64}
use Rattle.deviation.specs.Statistics.{fresh, counted, one_more}
use Rattle.deviation.specs.declared.Deviation.{Deviation}
use Rattle.basicthresholder.specs.Const.{two32}
use Rattle.basicthresholder.specs.Updates.{with_counted, counted_over}
use Rattle.basicthresholder.specs.declared.BasicThresholder.{BasicThresholder}
use Rattle.predictorcorrector.specs.State.{state, state_counts_ok}
use Rattle.layout.specs.Places.{deviation_length, state_length, base_dimension_at}
use Rattle.layout.specs.Numbers.{le4}
use Rattle.layout.specs.States.{deviation_at}
use Rattle.layout.specs.Chain.{list_at, list_over, encode_head, decode_state}

-- What stands before the lists, which it does not look at.
abbrev pub head : BasicThresholder → Bool → ℕ → ℕ → List ℕ
head t auto run base = encode_head (state t auto run base [] [])

-- The entry before `base` of a list whose first n entries exist.
unfoldable pub last_of : List ℕ → ℕ → ℕ → ℕ → Deviation
last_of xs i n base = cond (n == base && nat_le 1 n) (deviation_at xs (i + deviation_length * (n - 1))) (fresh zero64)

-- The list stored from place i on, of the first base entries (at most 16), read and written back.
abbrev pub most : ℕ → ℕ
most base = cond (nat_le base 16) base 16

unfoldable pub row_kept_over : List ℕ → ℕ → ℕ → List ℕ
row_kept_over xs i base = list_over xs i (list_at xs i (most base)) (most base)

-- Bytes that take a reading.
pub record Taking (xs : List ℕ) : Type 0 where
  pub long : length xs ≡ state_length
  pub few : le4 xs base_dimension_at ≤ 16
  pub counts : state_counts_ok (decode_state xs) ≡ true

-- A reading's scores entered, by parts: the score that the primary statistic counts, which is the last score too, and the secondary statistic.
unfoldable pub primary_score : ScoringStrategy → Float → Float
primary_score strategy score = cond (is_height strategy) (minf32 two32 score) score

unfoldable pub second_after : ScoringStrategy → Deviation → Float → Deviation
second_after strategy d x = cond (is_height strategy) (counted d x) d

unfoldable pub scored : BasicThresholder → Float → Float → Deviation → BasicThresholder
scored t primary last second =
    with_counted t last (counted t.primary_deviation primary) second (counted_over t.threshold_deviation (counted t.primary_deviation primary) last) (one_more t.count)
