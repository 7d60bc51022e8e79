-- A judge made of the definitions alone keeps `Laws`; rows of the drill sheet and the worked list, on the ledger's definitions. Assumes nothing.
use mathlib.Core.Path.{◌≡◌, refl, sym, ◌∙◌, subst}
use mathlib.Core.Bool.{Bool, true, false, not, cond}
use lib.Dec.{T, lit≤}
use lib.Ieee.{eq, round, add, sub, mul, div, lt, le, of_int, of_bits}
use Rattle.basicthresholder.specs.Const.{zero32, z_factor_default}
use Rattle.basicthresholder.specs.declared.BasicThresholder.{BasicThresholder}
use Rattle.basicthresholder.specs.Grades.{threshold, threshold_by}
use Rattle.basicthresholder.specs.Updates.{primary_counted, fresh_thresholder, counted_over, counted_gap}
use Rattle.deviation.specs.Statistics as Statistics
use Rattle.deviation.specs.Statistics.{countable, next, one_more, deviation, is_empty, positive_root}
use Rattle.ieee.specs.Round.{narrow, sqrt, isqrt}
use Rattle.ledger.specs.Fractions.{Fraction, over, Same, fraction_of, plus_zero}
use Rattle.ledger.specs.Ledger.{Ledger, blank, enter, factor, mean, At}
use Rattle.ledger.specs.Faithful.{watch_by, every_score, three, eleven_quarters, in_turn, at_three, takes, after}
use Rattle.ledger.specs.Theorem.{Counts, Laws}
use Rattle.ledger.proofs.Laws.{primary_counts}

cond_true : {A : Type 0} (b : Bool) (x y : A) → T b → cond b x y ≡ x
cond_true true x y t = refl
cond_true false x y t = absurd t

cond_false : {A : Type 0} (b : Bool) (x y : A) → T (not b) → cond b x y ≡ y
cond_false true x y t = absurd t
cond_false false x y t = refl

pub model_keeps : Laws (watch_by every_score) (λ t. t)
model_keeps = record {
  refused_keeps = λ t r h. cond_true r.refused t (every_score t r.score) h;
  zero_keeps = λ t r h k. cond_false r.refused t (every_score t r.score) h ∙ cond_true (eq r.score zero32) t (primary_counted t r.score) k;
  counts = λ t r h k. subst (λ (u : BasicThresholder). Counts t r.score u) (sym (cond_false r.refused t (every_score t r.score) h ∙ cond_false (eq r.score zero32) t (primary_counted t r.score) k)) (primary_counts t r.score);
  opens_threshold = λ t r h k. refl;
  opens_grade = λ t r h k. refl;
  ends = λ t r h k e. e;
}

-- ---- the drill sheet: sum, squares and weight of the scores 1, 2
abbrev entered : Fraction → Ledger
entered d = enter d (enter d blank (over 1 1)) (over 2 1)

-- discount 0: sum 3, squares 5, weight 2, mean 1.5
pub row_discount_0 : Same (entered (over 0 1)).sum (over 3 1) × Same (entered (over 0 1)).squares (over 5 1) × Same (entered (over 0 1)).weight (over 2 1) × Same (mean (entered (over 0 1))) (over 3 2)
unfolding factor
row_discount_0 = (refl, refl, refl, refl)

-- deviation 0.5: with z 3 the threshold is 3, as the score watch prints it
pub row_threshold : At (over 3 1) (entered (over 0 1)) (over 3 1)
unfolding factor
row_threshold = (lit≤ tt, refl)

-- discount 0.5: sum 2.5, squares 4.5, weight 1.5
pub row_discount_half : Same (entered (over 1 2)).sum (over 5 2) × Same (entered (over 1 2)).squares (over 9 2) × Same (entered (over 1 2)).weight (over 3 2)
unfolding factor
row_discount_half = (refl, refl, refl)

-- discount 0.25, count 0: factor 0.5
pub row_factor : Same (factor (over 1 4) 0) (over 1 2)
unfolding factor
row_factor = refl

-- ---- the worked list of docs/LEDGER.md
pub worked_ledger : At (fraction_of three) (after plus_zero blank (in_turn 5)) (fraction_of three)
unfolding factor
worked_ledger = (lit≤ tt, refl)

pub worked_watch : (adjust : Bool) → threshold (takes every_score (at_three adjust) (in_turn 5)) ≡ three
unfolding threshold threshold_by primary_counted counted_over counted_gap narrow sqrt isqrt Statistics.update countable next one_more Statistics.factor Statistics.mean deviation is_empty positive_root of_bits round add sub mul div lt le eq of_int
worked_watch adjust = refl

-- the same by a new state's own z
pub default_ledger : At (fraction_of z_factor_default) (after plus_zero blank (in_turn 5)) (fraction_of eleven_quarters)
unfolding factor of_bits
default_ledger = (lit≤ tt, refl)

pub default_watch : (adjust : Bool) → threshold (takes every_score (fresh_thresholder plus_zero adjust) (in_turn 5)) ≡ eleven_quarters
unfolding threshold threshold_by primary_counted counted_over counted_gap narrow sqrt isqrt Statistics.update countable next one_more Statistics.factor Statistics.mean deviation is_empty positive_root of_bits round add sub mul div lt le eq of_int
default_watch adjust = refl
