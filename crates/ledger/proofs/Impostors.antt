-- Watches that demand 3 excludes, each by a closed list of twelve accepted readings on which the statement is false. Discount 0, z 3. Assumes nothing.
use mathlib.Core.Path.{◌≡◌, refl, subst}
use mathlib.Core.Logic.{inr}
use mathlib.Core.Bool.{Bool}
use mathlib.Core.List.{List, [], ◌∷◌}
use Prim.Native.Nat.{ℕ, zero, suc, ◌*◌, ◌≤◌, ◌<◌}
use native.Mathlib.Omega.{arith}
use lib.Dec.{lit≤}
use lib.Ieee.{Float, round, add, sub, mul, div, lt, le, eq, ne, of_int, of_bits}
use lib.Ieee.Positive.{den_pos}
use Rattle.basicthresholder.specs.declared.BasicThresholder.{BasicThresholder}
use Rattle.basicthresholder.specs.Grades.{threshold, primary_grade, primary_threshold_and_grade, threshold_by, grade_over, is_deviation_ready, counts_ready}
use Rattle.basicthresholder.specs.Updates.{primary_counted, counted_over, counted_gap}
use Rattle.deviation.specs.Statistics as Statistics
use Rattle.deviation.specs.Statistics.{countable, next, one_more, mean, deviation, is_empty, positive_root}
use Rattle.ieee.specs.Round.{narrow}
use Rattle.util.specs.Util.{minf32}
use Rattle.ledger.specs.Fractions.{over, fraction_of, plus_zero}
use Rattle.ledger.specs.Ledger.{blank, factor}
use Rattle.ledger.specs.Statement.{most_readings, Judged, accepted, Sized, Sizes}
use Rattle.ledger.specs.Faithful.{after, raised_only, one, three, half, thousand, ones, jump, dip, at_three, takes, accepts, shows, Broken, Breaks}

-- ---- grades all 0, whatever its thresholds: the 1024 has to be raised
pub all_zero_is_out : (t e : ℕ → Float) → Broken jump (shows t (λ n. plus_zero) e 12)
unfolding factor lt
all_zero_is_out t e h = (h.1.1.1.1.1.1.1.1.1.1.0 (lit≤ tt)).raised (lit≤ tt)

-- ---- a fixed threshold c, whatever its grades: ten scores of 1 ask for about 1, and a 1024 after them for 93 at least
pub fixed_is_out : (c : Float) (g e : ℕ → Float) → Broken jump (shows (λ n. c) g e 12)
unfolding factor
fixed_is_out c g e h =
    let above = den_pos c in
    let i = square_zero _ _ _ (lit≤ tt) (h.1.1.1.1.1.1.1.1.1.1.0 (lit≤ tt)).not_over in
    let j = (h.1.1.1.1.1.1.1.1.1.1.1.0 (lit≤ tt)).not_under.0 in
    omega arith
  where
    square_zero : (x d k : ℕ) → 0 < d → x * x * d ≤ 0 * k → x ≤ 0
    square_zero zero d k D h = omega arith
    square_zero (suc x) d k D h = absurd (omega arith)

-- ---- never updating, from any thresholder: its threshold is fixed
pub never_updating_is_out : (t : BasicThresholder) → Breaks (λ u x. u) t jump
unfolding primary_threshold_and_grade
never_updating_is_out t h = fixed_is_out (threshold t) (λ n. primary_grade t (score n)) (λ n. primary_grade t (score n)) h
  where
    score : ℕ → Float
    score zero = one
    score (suc zero) = thousand
    score (suc (suc n)) = one

-- ---- updating on raised readings only, once ten are counted: the 0.5 is not raised, and the ledger's threshold goes up to 1.38
still_one : (adjust : Bool) → threshold (takes raised_only (at_three adjust) (ones 10 (half ∷ []))) ≡ one
unfolding threshold threshold_by primary_grade grade_over is_deviation_ready counts_ready primary_counted counted_over counted_gap minf32 narrow Statistics.update countable next one_more Statistics.factor mean deviation is_empty positive_root of_bits round add sub mul div lt le eq ne of_int
still_one adjust = refl

-- a threshold of 1 is not the ledger's by then, whatever the grades
one_is_off : (g e : Float) → Judged (fraction_of three) (over 1 1) (after plus_zero blank (ones 10 (half ∷ []))) one (record { threshold = one; opening = g; ends = e }) → ⊥
unfolding factor
one_is_off g e h = (let i = h.not_under.1 in omega arith)

pub raised_only_is_out : (adjust : Bool) → Breaks raised_only (at_three adjust) dip
unfolding factor primary_threshold_and_grade
raised_only_is_out adjust h =
    let g = primary_grade (takes raised_only (at_three adjust) (ones 10 (half ∷ []))) one in
    one_is_off g g
    (subst (λ (w : Float). Judged (fraction_of three) (over 1 1) (after plus_zero blank (ones 10 (half ∷ []))) one (record { threshold = w; opening = g; ends = g })) (still_one adjust)
    (h.1.1.1.1.1.1.1.1.1.1.1.0 (lit≤ tt)))

-- ---- both lists are within demand 3's bounds
sized_one : Sized one
sized_one = record { plain = tt; least = lit≤ tt; most = lit≤ tt }

pub in_bounds : (accepted (accepts jump) ≤ most_readings) × Sizes (accepts jump) × (accepted (accepts dip) ≤ most_readings) × Sizes (accepts dip)
in_bounds = (lit≤ tt, ten thousand (record { plain = tt; least = lit≤ tt; most = lit≤ tt }), lit≤ tt, ten half (record { plain = tt; least = lit≤ tt; most = lit≤ tt }))
  where
    more : (n : ℕ) (xs : List Float) → Sizes (accepts xs) → Sizes (accepts (ones n xs))
    more zero xs h = h
    more (suc n) xs h = ((λ (t : Unit). inr sized_one), more n xs h)

    ten : (x : Float) → Sized x → Sizes (accepts (ones 10 (x ∷ one ∷ [])))
    ten x w = more 10 (x ∷ one ∷ []) ((λ (t : Unit). inr w), ((λ (t : Unit). inr sized_one), tt))
