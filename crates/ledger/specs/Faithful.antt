-- That the statement of demand 3 says what it should: facts of the ledger, a watch that keeps the laws, and watches that the statement excludes. Definitions only.
use Rattle.std.specs.Prelude.{◌≡◌, ◌⊎◌, Bool, false, cond, List, [], ◌∷◌, ℕ, zero, suc, ◌≤◌, ◌<◌, pos, negsuc, Float}
use Rattle.std.specs.Int.Signed.{lt_z}
use Rattle.std.specs.Float.{fin}
use Rattle.std.specs.Float.Ieee.{lt, eq}
use Rattle.basicthresholder.specs.Const.{zero32, z_factor_default}
use Rattle.basicthresholder.specs.declared.BasicThresholder.{BasicThresholder}
use Rattle.basicthresholder.specs.Grades.{threshold, primary_grade, primary_threshold_and_grade}
use Rattle.basicthresholder.specs.Updates.{fresh_thresholder, primary_counted, with_z_factor}
use Rattle.ledger.specs.Fractions.{Fraction, times, divided_by, Le, fraction_of, plus_zero}
use Rattle.ledger.specs.Ledger.{Ledger, blank, enter, mean, Under, At, Over, AtOrUnder, AtOrOver}
use Rattle.ledger.specs.Statement.{most_readings, Told, Shown, Demand3, accepted, Sizes, InBounds, Judge, showed}
use Rattle.ledger.specs.Theorem.{Laws}

-- ---- the ledger
-- After any scores.
abbrev pub after : Float → Ledger → List Float → Ledger
after d b [] = b
after d b (x ∷ xs) = after d (enter (fraction_of d) b (fraction_of x)) xs

-- Under, at or over the threshold: exactly one of the three.
pub record OneOfThree (z : Fraction) (b : Ledger) (y : Fraction) : Type 0 where
  pub some : Under z b y ⊎ (At z b y ⊎ Over z b y)
  pub not_under_at : Under z b y → At z b y → ⊥
  pub not_under_over : Under z b y → Over z b y → ⊥
  pub not_at_over : At z b y → Over z b y → ⊥
  pub at_or_under : AtOrUnder z b y → Under z b y ⊎ At z b y
  pub under_or_at : Under z b y ⊎ At z b y → AtOrUnder z b y
  pub at_or_over : AtOrOver z b y → At z b y ⊎ Over z b y
  pub over_or_at : At z b y ⊎ Over z b y → AtOrOver z b y

-- ---- watches
pub record Reading : Type 0 where
  pub refused : Bool
  pub score : Float

-- A watch that opens by its thresholder, ends with the opening grade, and updates by `update`.
abbrev pub watch_by : (BasicThresholder → Float → BasicThresholder) → Judge
watch_by update = record {
  State = BasicThresholder;
  Reading = Reading;
  refused = λ t r. r.refused;
  score = λ r. r.score;
  next = λ t r. cond r.refused t (update t r.score);
  shown = λ t r. record {
    threshold = (primary_threshold_and_grade t r.score).threshold;
    opening = (primary_threshold_and_grade t r.score).grade;
    ends = (primary_threshold_and_grade t r.score).grade;
  };
}

-- The sound one counts every score but 0; another counts, once it has ten, those that are raised.
abbrev pub every_score : BasicThresholder → Float → BasicThresholder
every_score t x = cond (eq x zero32) t (primary_counted t x)

abbrev pub raised_only : BasicThresholder → Float → BasicThresholder
raised_only t x = cond (lt_z t.count (pos 10)) (primary_counted t x) (cond (lt zero32 (primary_grade t x)) (primary_counted t x) t)

-- ---- lists of scores, all accepted; discount 0, z 3 unless said
abbrev pub one : Float
one = fin false 1 (pos 0)

abbrev pub two : Float
two = fin false 1 (pos 1)

abbrev pub three : Float
three = fin false 3 (pos 0)

abbrev pub half : Float
half = fin false 1 (negsuc 0)

-- 2.75
abbrev pub eleven_quarters : Float
eleven_quarters = fin false 11 (negsuc 1)

abbrev pub thousand : Float
thousand = fin false 1 (pos 10)

-- n scores of 1, then others.
abbrev pub ones : ℕ → List Float → List Float
ones zero xs = xs
ones (suc n) xs = one ∷ ones n xs

-- Ten scores of 1, then 1024 and 1; ten scores of 1, then 0.5 and 1.
abbrev pub jump : List Float
jump = ones 10 (thousand ∷ one ∷ [])

abbrev pub dip : List Float
dip = ones 10 (half ∷ one ∷ [])

-- 1 and 2 in turn, n times: the worked list of docs/LEDGER.md.
abbrev pub in_turn : ℕ → List Float
in_turn zero = []
in_turn (suc n) = one ∷ two ∷ in_turn n

-- A new thresholder, its z set to 3.
abbrev pub at_three : Bool → BasicThresholder
at_three adjust = with_z_factor (fresh_thresholder plus_zero adjust) three

abbrev pub takes : (BasicThresholder → Float → BasicThresholder) → BasicThresholder → List Float → BasicThresholder
takes update t [] = t
takes update t (x ∷ xs) = takes update (update t x) xs

abbrev pub accepts : List Float → List Told
accepts [] = []
accepts (x ∷ xs) = record { refused = false; score = x } ∷ accepts xs

abbrev pub readings : List Float → List Reading
readings [] = []
readings (x ∷ xs) = record { refused = false; score = x } ∷ readings xs

-- What a watch shows at n readings, counted down: thresholds t, opening grades g and final grades e.
abbrev pub shows : (ℕ → Float) → (ℕ → Float) → (ℕ → Float) → ℕ → List Shown
shows t g e zero = []
shows t g e (suc n) = record { threshold = t n; opening = g n; ends = e n } ∷ shows t g e n

-- The statement is false of these scores and what was shown at them.
abbrev pub Broken : List Float → List Shown → Type 0
Broken xs vs = Demand3 plus_zero three (accepts xs) vs → ⊥

-- The statement is false of a watch that updates so, from the thresholder t.
abbrev pub Breaks : (BasicThresholder → Float → BasicThresholder) → BasicThresholder → List Float → Type 0
Breaks update t xs = Broken xs (showed (watch_by update) t (readings xs))

-- ---- the facts
pub record Faithful : Type 0 where
  -- Once a score is counted the ledger's weight is above 0, and its variance is never cut off at 0.
  pub weight_above : (d : Float) (xs : List Float) → 0 < (after d blank xs).n → 0 < (after d blank xs).weight.num
  pub variance_whole : (d : Float) (xs : List Float) → Le (times (mean (after d blank xs)) (mean (after d blank xs))) (divided_by (after d blank xs).squares (after d blank xs).weight)
  pub one_of_three : (z : Fraction) (b : Ledger) (y : Fraction) → OneOfThree z b y
  -- No fraction at or under the threshold is above one at or over it.
  pub in_their_order : (d z : Float) (xs : List Float) (y w : Fraction) → 0 < (after d blank xs).n → 0 < y.den → 0 < w.den
      → AtOrUnder (fraction_of z) (after d blank xs) y → AtOrOver (fraction_of z) (after d blank xs) w → Le y w
  -- A new state's own z factor is within the bounds on z: where none is set, those on the readings are left.
  pub default_z : (ts : List Told) → accepted ts ≤ most_readings → Sizes ts → InBounds z_factor_default ts
  -- A watch of the definitions keeps the laws, so that demand 3 holds of it. On the worked list ledger and watch both have the threshold 3 by z 3, and 2.75 by a new
  -- state's own z.
  pub model : Laws (watch_by every_score) (λ t. t)
  pub worked_ledger : At (fraction_of three) (after plus_zero blank (in_turn 5)) (fraction_of three)
  pub worked_watch : (adjust : Bool) → threshold (takes every_score (at_three adjust) (in_turn 5)) ≡ three
  pub default_ledger : At (fraction_of z_factor_default) (after plus_zero blank (in_turn 5)) (fraction_of eleven_quarters)
  pub default_watch : (adjust : Bool) → threshold (takes every_score (fresh_thresholder plus_zero adjust) (in_turn 5)) ≡ eleven_quarters
  -- Each impostor breaks the statement on one list within its bounds: grades all 0, whatever its thresholds; a fixed threshold, whatever its grades; statistics
  -- never updated; updated on raised readings only.
  pub in_bounds : (accepted (accepts jump) ≤ most_readings) × Sizes (accepts jump) × (accepted (accepts dip) ≤ most_readings) × Sizes (accepts dip)
  pub all_zero : (thresholds ends : ℕ → Float) → Broken jump (shows thresholds (λ n. plus_zero) ends 12)
  pub fixed_threshold : (c : Float) (openings ends : ℕ → Float) → Broken jump (shows (λ n. c) openings ends 12)
  pub never_updates : (t : BasicThresholder) → Breaks (λ u x. u) t jump
  pub only_raised : (adjust : Bool) → Breaks raised_only (at_three adjust) dip
