-- What is proved of the ledger: demand 3 of any judge that keeps a handful of laws over the thresholder that its state holds. Definitions only.
use Rattle.std.specs.Prelude.{◌≡◌, not, List, pos, T, Float}
use Rattle.std.specs.Float.{binary64}
use Rattle.std.specs.Float.Ieee.{fits, eq}
use Rattle.deviation.specs.Statistics.{fresh, counted, one_more, is_discount}
use Rattle.basicthresholder.specs.Const.{zero32}
use Rattle.basicthresholder.specs.declared.BasicThresholder.{BasicThresholder}
use Rattle.basicthresholder.specs.Grades.{primary_threshold_and_grade}
use Rattle.ledger.specs.Statement.{Judge, told, showed, InBounds, Demand3}

-- A thresholder that takes a score: it enters the primary statistic once and uncapped, and the z factor stays.
pub record Counts (before : BasicThresholder) (score : Float) (after : BasicThresholder) : Type 0 where
  pub primary : after.primary_deviation ≡ counted before.primary_deviation score
  pub count : after.count ≡ one_more before.count
  pub z_factor : after.z_factor ≡ before.z_factor

pub record Laws (J : Judge) (thresholder : J.State → BasicThresholder) : Type 0 where
  pub refused_keeps : (s : J.State) (r : J.Reading) → T (J.refused s r) → J.next s r ≡ s
  pub zero_keeps : (s : J.State) (r : J.Reading) → T (not (J.refused s r)) → T (eq (J.score r) zero32) → J.next s r ≡ s
  pub counts : (s : J.State) (r : J.Reading) → T (not (J.refused s r)) → T (not (eq (J.score r) zero32)) → Counts (thresholder s) (J.score r) (thresholder (J.next s r))
  pub opens_threshold : (s : J.State) (r : J.Reading) → T (not (J.refused s r)) → T (not (eq (J.score r) zero32)) → (J.shown s r).threshold ≡ (primary_threshold_and_grade (thresholder s) (J.score r)).threshold
  pub opens_grade : (s : J.State) (r : J.Reading) → T (not (J.refused s r)) → T (not (eq (J.score r) zero32)) → (J.shown s r).opening ≡ (primary_threshold_and_grade (thresholder s) (J.score r)).grade
  pub ends : (s : J.State) (r : J.Reading) → T (not (J.refused s r)) → T (not (eq (J.score r) zero32)) → (J.shown s r).opening ≡ zero32 → (J.shown s r).ends ≡ zero32

-- What the thresholder of a new state has, z being set or not, and whatever horizon was set.
pub record New (d z : Float) (t : BasicThresholder) : Type 0 where
  pub primary : t.primary_deviation ≡ fresh d
  pub count : t.count ≡ pos 0
  pub z_factor : t.z_factor ≡ z

-- Any list of readings, judged in turn from a new state. `crates/demand3` cites it for the watch.
abbrev pub Theorem : Type 1
Theorem =
    (J : Judge) (thresholder : J.State → BasicThresholder) → Laws J thresholder
    → (d z : Float) → T (fits binary64 d) → T (is_discount d)
    → (s : J.State) → New d z (thresholder s)
    → (rs : List J.Reading) → InBounds z (told J s rs)
    → Demand3 d z (told J s rs) (showed J s rs)
