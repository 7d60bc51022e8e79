-- What callers use of the definitions: what a construction answers, when a grade is 0, and what an update does to each part of the state. Assumes nothing.
use Rattle.std.proofs.Common.{◌≡◌, Bool, true, false, cond, ◌||◌, sym, refl, ap, true≢false, Result, Ok, Err}
use lib.Ieee as Ieee
use lib.Ieee.{Float, binary32}
use Rattle.ieee.specs.Round.{narrow}
use Rattle.util.specs.Util.{minf32}
use Rattle.types.specs.declared.Refusal.{Refusal}
use Rattle.types.specs.declared.Refusal.TheVariants.{Discount, Horizon}
use Rattle.deviation.specs.Statistics.{deviation, counted, one_more, is_discount}
use Rattle.basicthresholder.specs.Const.{zero32, two32}
use Rattle.basicthresholder.specs.Grades.{graded, graded_or, grade_against, sixteenths, is_deviation_ready, threshold, grade_over, primary_grade, primary_threshold_and_grade}
use Rattle.basicthresholder.specs.Updates.{fresh_thresholder, new_adjustible, done, refused, with_score_differencing, is_horizon, set_score_differencing, updated, update_threshold, update_primary, update_both, update, threshold_counted, primary_counted, both_counted, counted_over, counts_ok}
use Rattle.basicthresholder.specs.declared.BasicThresholder.{BasicThresholder}

-- ---- what a construction's answer tells of the discount.
abbrev is_ready : Result BasicThresholder Refusal → Bool
is_ready (Ok t) = true
is_ready (Err why) = false

abbrev ready_or : BasicThresholder → Result BasicThresholder Refusal → BasicThresholder
ready_or t (Ok s) = s
ready_or t (Err why) = t

abbrev refused_or : Refusal → Result BasicThresholder Refusal → Refusal
refused_or why (Ok s) = why
refused_or why (Err because) = because

module _ (d : Float) (adjust : Bool) where
  abbrev made : Bool → Result BasicThresholder Refusal
  made b = cond b (Ok (fresh_thresholder d adjust)) (Err Discount)

  pub made_ready : (t : BasicThresholder) → new_adjustible d adjust ≡ Ok t → (is_discount d ≡ true) × (t ≡ fresh_thresholder d adjust)
  unfolding new_adjustible
  made_ready t = by (is_discount d)
    where
      by : (b : Bool) → made b ≡ Ok t → (b ≡ true) × (t ≡ fresh_thresholder d adjust)
      by true e = (refl, ap (ready_or t) (sym e))
      by false e = absurd (true≢false (ap is_ready (sym e)))

  pub made_refused : (why : Refusal) → new_adjustible d adjust ≡ Err why → (is_discount d ≡ false) × (why ≡ Discount)
  unfolding new_adjustible
  made_refused why = by (is_discount d)
    where
      by : (b : Bool) → made b ≡ Err why → (b ≡ false) × (why ≡ Discount)
      by true e = absurd (true≢false (ap is_ready e))
      by false e = (refl, ap (refused_or why) (sym e))

-- The horizon alone decides the answer.
pub horizon_answer_lem : (s t : BasicThresholder) (x : Float) → (set_score_differencing s x).answer ≡ (set_score_differencing t x).answer
unfolding set_score_differencing
horizon_answer_lem s t x = by (is_horizon x)
  where
    by : (b : Bool) → (cond b (done (with_score_differencing s x)) (refused Horizon s)).answer ≡ (cond b (done (with_score_differencing t x)) (refused Horizon t)).answer
    by true = refl
    by false = refl

-- ---- grades of the height strategy: 0, or above 0 beside the threshold.
module _ (score limit surprise : Float) where
  pub grade_zero_below : Ieee.lt score limit ≡ true → grade_against score limit surprise ≡ graded limit zero32
  unfolding grade_against
  grade_zero_below h = rw h

  pub grade_zero_at_zero : Ieee.eq limit zero32 ≡ true → (grade_against score limit surprise).grade ≡ zero32
  unfolding grade_against
  grade_zero_at_zero h = rw h (pick (Ieee.lt score limit))
    where
      pick : (b : Bool) → (cond (b || true) (graded limit zero32) (graded_or score limit (sixteenths surprise))).grade ≡ zero32
      pick true = refl
      pick false = refl

  pub grade_above : Ieee.lt score limit ≡ false → Ieee.eq limit zero32 ≡ false → Ieee.lt zero32 (sixteenths surprise) ≡ true → grade_against score limit surprise ≡ graded limit (sixteenths surprise)
  unfolding grade_against graded_or
  grade_above a b h = simp (a, b, h)

  pub grade_not_above : Ieee.lt score limit ≡ false → Ieee.eq limit zero32 ≡ false → Ieee.lt zero32 (sixteenths surprise) ≡ false → grade_against score limit surprise ≡ graded score zero32
  unfolding grade_against graded_or
  grade_not_above a b h = simp (a, b, h)

-- ---- grades of the distance strategy.
module _ (s : BasicThresholder) (score : Float) where
  pub primary_zero_early : is_deviation_ready s ≡ false → primary_grade s score ≡ zero32
  unfolding primary_grade
  primary_zero_early h = rw h

  pub primary_when_ready : is_deviation_ready s ≡ true → primary_grade s score ≡ grade_over (Ieee.sub binary32 score (threshold s)) (narrow (deviation s.primary_deviation))
  unfolding primary_grade
  primary_when_ready h = rw h

  pub primary_pair : primary_threshold_and_grade s score ≡ graded (threshold s) (primary_grade s score)
  unfolding primary_threshold_and_grade
  primary_pair = refl

-- A score that is not over the threshold has grade 0.
pub over_zero : (t spread : Float) → Ieee.lt zero32 t ≡ false → grade_over t spread ≡ zero32
unfolding grade_over
over_zero t spread h = rw h

-- ---- where every count takes an update, the state handed back is the counted one.
module _ (s : BasicThresholder) (ok : counts_ok s ≡ true) where
  pub updated_counted : (after : BasicThresholder) → (updated s after).state ≡ after
  unfolding updated
  updated_counted after = rw ok

  pub threshold_counted_lem : (x : Float) → (update_threshold s x).state ≡ threshold_counted s x
  unfolding update_threshold
  threshold_counted_lem x = updated_counted (threshold_counted s x)

  pub primary_counted_lem : (x : Float) → (update_primary s x).state ≡ primary_counted s x
  unfolding update_primary
  primary_counted_lem x = updated_counted (primary_counted s x)

  pub both_counted_lem : (x y : Float) → (update_both s x y).state ≡ both_counted s x y
  unfolding update_both
  both_counted_lem x y = updated_counted (both_counted s x y)

  pub capped_counted : (x y last : Float) → (update s x y last).state ≡ both_counted s (minf32 two32 x) (Ieee.sub binary32 y last)
  unfolding update
  capped_counted x y last = both_counted_lem (minf32 two32 x) (Ieee.sub binary32 y last)

-- ---- what an update does to each part.
module _ (s : BasicThresholder) (x : Float) where
  pub primary_first : (primary_counted s x).primary_deviation ≡ counted s.primary_deviation x
  unfolding primary_counted
  primary_first = refl

  pub primary_second : (primary_counted s x).secondary_deviation ≡ s.secondary_deviation
  unfolding primary_counted
  primary_second = refl

  pub primary_third : (primary_counted s x).threshold_deviation ≡ counted_over s.threshold_deviation (counted s.primary_deviation x) (narrow x)
  unfolding primary_counted
  primary_third = refl

  pub primary_count : (primary_counted s x).count ≡ one_more s.count
  unfolding primary_counted
  primary_count = refl

  pub primary_settings : ((primary_counted s x).z_factor ≡ s.z_factor) × ((primary_counted s x).score_differencing ≡ s.score_differencing)
  unfolding primary_counted
  primary_settings = (refl, refl)

module _ (s : BasicThresholder) (x y : Float) where
  pub both_first : (both_counted s x y).primary_deviation ≡ counted s.primary_deviation x
  unfolding both_counted
  both_first = refl

  pub both_second : (both_counted s x y).secondary_deviation ≡ counted s.secondary_deviation y
  unfolding both_counted
  both_second = refl

  pub both_third : (both_counted s x y).threshold_deviation ≡ counted_over s.threshold_deviation (counted s.primary_deviation x) x
  unfolding both_counted
  both_third = refl

  pub both_count : (both_counted s x y).count ≡ one_more s.count
  unfolding both_counted
  both_count = refl
