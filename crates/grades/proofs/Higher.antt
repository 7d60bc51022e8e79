-- The grade of a thresholder, by the laws of its steps. Assumes nothing.
use mathlib.Core.Path.{◌≡◌, refl, sym, ap, ◌∙◌, subst}
use mathlib.Core.Bool.{Bool, true, false, not, cond, ◌||◌, true≢false}
use Prim.Native.Nat.{ℕ}
use lib.IntN.{ℤ, pos}
use lib.Signed.{lt_z, le_z, lt_z_no}
use lib.Dec.{T}
use lib.Ieee as Ieee
use lib.Ieee.{Float, binary32, lt, le, eq, div, is_nan, of_bits}
use lib.Ieee.Bits.{is_true}
use Rattle.util.specs.Util.{maxf32}
use Rattle.types.specs.declared.TransformMethod.{TransformMethod}
use Rattle.basicthresholder.specs.Const.{zero32}
use Rattle.basicthresholder.specs.Grades.{counts_ready, intermediate_fraction, at_least_minimum, adjusted_factor, eased_absolute, threshold_from, surprise_index, sixteenths, grade_over, graded, is_deviation_ready, absolute_of, graded_or, grade_against, scaled_deviation_of, computed_threshold, threshold_and_grade_with_factor, primary_grade}
use Rattle.basicthresholder.specs.declared.BasicThresholder.{BasicThresholder}
use Rattle.basicthresholder.specs.declared.Graded.{Graded}
use Rattle.basicthresholder.proofs.Laws.{grade_zero_below, grade_zero_at_zero}
use Rattle.grade_order.specs.Sixteenths.{Sixteenths, earned}
use Rattle.grade_order.specs.Statement.{Scores}
use Rattle.grade_order.proofs.Steps.{steps_rise}
use Rattle.grades.specs.Statement.{grade}

-- ---- the grade against a threshold: what the surprise earns, from the threshold on
abbrev against : Float → Float → Float → Float
against x t v = cond (lt x t || eq t zero32) zero32 (earned v)

or_is : (x t g : Float) → (graded_or x t g).grade ≡ cond (lt zero32 g) g zero32
unfolding graded_or
or_is x t g = go (lt zero32 g)
  where
    go : (b : Bool) → (cond b (graded t g) (graded x zero32)).grade ≡ cond b g zero32
    go true = refl
    go false = refl

against_is : (x t v : Float) → (grade_against x t v).grade ≡ against x t v
unfolding grade_against
against_is x t v = go (lt x t || eq t zero32)
  where
    go : (b : Bool) → (cond b (graded t zero32) (graded_or x t (sixteenths v))).grade ≡ cond b zero32 (earned v)
    go true = refl
    go false = or_is x t (sixteenths v)

against_whole : (x t v : Float) → T (not (lt v zero32)) → Sixteenths (against x t v)
against_whole x t v h = go (lt x t || eq t zero32)
  where
    go : (b : Bool) → Sixteenths (cond b zero32 (earned v))
    go true = steps_rise.nothing
    go false = steps_rise.earns v h

zero_least : (g : Float) → Sixteenths g → T (le zero32 g)
zero_least g w = steps_rise.least g w

against_rises : (x y t u v : Float) → T (le x y) → T (not (lt v zero32)) → (T (not (lt x t)) → T (not (eq t zero32)) → T (le (earned u) (earned v))) → T (le (against x t u) (against y t v))
against_rises x y t u v l h f = go (lt x t) (lt y t) (eq t zero32) refl refl (steps_rise.before x y t l)
  where
    least : T (le zero32 (earned v))
    least = zero_least (earned v) (steps_rise.earns v h)

    none : T (le zero32 zero32)
    none = zero_least zero32 steps_rise.nothing

    go : (a b c : Bool) → lt x t ≡ a → eq t zero32 ≡ c → (T b → T (lt x t)) → T (le (cond (a || c) zero32 (earned u)) (cond (b || c) zero32 (earned v)))
    go true true c e g k = none
    go true false true e g k = none
    go true false false e g k = least
    go false true true e g k = none
    go false true false e g k = absurd (subst T e (k tt))
    go false false true e g k = none
    go false false false e g k = f (subst (λ (w : Bool). T (not w)) (sym e) tt) (subst (λ (w : Bool). T (not w)) (sym g) tt)

graded_rises : (ready : Bool) (x y t k d a : Float) → T (le x y)
    → (T (not (lt x t)) → T (not (eq t zero32)) → T (le (earned (surprise_index ready x t k d a)) (earned (surprise_index ready y t k d a))))
    → T (le (grade_against x t (surprise_index ready x t k d a)).grade (grade_against y t (surprise_index ready y t k d a)).grade)
graded_rises ready x y t k d a l f =
    let u = surprise_index ready x t k d a in
    let v = surprise_index ready y t k d a in
    subst (λ (g : Float). T (le g (grade_against y t v).grade)) (sym (against_is x t u))
    (subst (λ (g : Float). T (le (against x t u) g)) (sym (against_is y t v)) (against_rises x y t u v l (steps_rise.surprise ready y t k d a) f))

-- ---- before ten scores, where the thresholder's count is the primary statistic's
at_least : (c : ℤ) → lt_z c (pos 10) ≡ false → le_z (pos 10) c ≡ true
at_least c e = is_true (le_z (pos 10) c) (lt_z_no {a = c} {b = pos 10} (subst (λ (b : Bool). T (not b)) (sym e) tt)).le

few : (c : ℤ) (d : Float) → counts_ready c d c ≡ false → lt_z c (pos 10) ≡ true
unfolding counts_ready
few c d e = go (lt_z c (pos 10)) (Ieee.ne d zero32) refl e
  where
    go : (a b : Bool) → lt_z c (pos 10) ≡ a → cond a false (cond b (le_z (pos 10) c) true) ≡ false → a ≡ true
    go true b p q = refl
    go false true p q = absurd (true≢false (sym (at_least c p) ∙ q))
    go false false p q = absurd (true≢false q)

no_fraction : (c : ℤ) → lt_z c (pos 10) ≡ true → intermediate_fraction c ≡ zero32
unfolding intermediate_fraction
no_fraction c e = rw e

not_eased : (t limit a : Float) → eased_absolute t zero32 limit a ≡ a
unfolding eased_absolute le lt eq of_bits
not_eased t limit a = refl

absolute_is : (s : BasicThresholder) (t : Float) → lt_z s.count (pos 10) ≡ true → absolute_of s t ≡ s.absolute_threshold
unfolding absolute_of
absolute_is s t e = go s.auto_threshold
  where
    limit : Float
    limit = s.factor_adjustment_threshold

    a : Float
    a = s.absolute_threshold

    go : (b : Bool) → cond b (eased_absolute t (intermediate_fraction s.count) limit a) a ≡ a
    go true = ap (λ (r : Float). eased_absolute t r limit a) (no_fraction s.count e) ∙ not_eased t limit a
    go false = refl

early_threshold : (fraction t w i a : Float) → threshold_from false fraction t w i a ≡ maxf32 i a
unfolding threshold_from
early_threshold fraction t w i a = refl

-- ---- the grade
module _ (s : BasicThresholder) (x y : Float) (o : Scores x y) where
  -- by the threshold t, the factor k and the scaled deviation w
  abbrev by : Bool → Float → Float → Float → Float → Float
  by ready z t k w = (grade_against z t (surprise_index ready z t k (div binary32 w k) s.absolute_threshold)).grade

  with_statistics : (t c w : Float) → T (le (by true x t (at_least_minimum c) w) (by true y t (at_least_minimum c) w))
  with_statistics t c w = graded_rises true x y t (at_least_minimum c) (div binary32 w (at_least_minimum c)) s.absolute_threshold o.order (steps_rise.ready x y o.order t c w s.absolute_threshold)

  without : T (not (is_nan s.initial_threshold)) → (t k w : Float) → t ≡ maxf32 s.initial_threshold s.absolute_threshold → T (le (by false x t k w) (by false y t k w))
  without n t k w e =
      subst (λ (t : Float). T (le (by false x t k w) (by false y t k w))) (sym e)
      (graded_rises false x y (maxf32 i a) k (div binary32 w k) a o.order (λ h z. steps_rise.early x y o i a n h z k (div binary32 w k)))
    where
      i : Float
      i = s.initial_threshold

      a : Float
      a = s.absolute_threshold

  at : (ready : Bool) (fraction mean w absolute c : Float) → T (not (is_nan s.initial_threshold)) → (ready ≡ false → absolute ≡ s.absolute_threshold)
      → T (le (by ready x (threshold_from ready fraction mean w s.initial_threshold absolute) (at_least_minimum c) w)
      (by ready y (threshold_from ready fraction mean w s.initial_threshold absolute) (at_least_minimum c) w))
  at true fraction mean w absolute c n e = with_statistics (threshold_from true fraction mean w s.initial_threshold absolute) c w
  at false fraction mean w absolute c n e =
      without n (threshold_from false fraction mean w s.initial_threshold absolute) (at_least_minimum c) w
      (early_threshold fraction mean w s.initial_threshold absolute ∙ ap (maxf32 s.initial_threshold) (e refl))

  fewer : s.primary_deviation.count ≡ s.count → is_deviation_ready s ≡ false → lt_z s.count (pos 10) ≡ true
  unfolding is_deviation_ready
  fewer e g = few s.count s.score_differencing (subst (λ (c : ℤ). counts_ready s.count s.score_differencing c ≡ false) e g)

  pub higher : s.primary_deviation.count ≡ s.count → T (not (is_nan s.initial_threshold))
      → (factor : Float) (method : TransformMethod) (shingle_size : ℕ) → T (le (grade s x factor method shingle_size) (grade s y factor method shingle_size))
  unfolding threshold_and_grade_with_factor adjusted_factor
  higher e n factor method shingle_size =
      at (is_deviation_ready s) (intermediate_fraction s.count) _ (scaled_deviation_of s factor method shingle_size) (absolute_of s _) _ n (λ g. absolute_is s _ (fewer e g))

-- ---- every state and score
module _ (s : BasicThresholder) (score factor : Float) (method : TransformMethod) (shingle_size : ℕ) where
  grade_is : (v : Float) → (grade_against score (computed_threshold s factor method shingle_size) v).grade ≡ against score (computed_threshold s factor method shingle_size) v
  grade_is v = against_is score (computed_threshold s factor method shingle_size) v

  pub in_sixteenths : Sixteenths (grade s score factor method shingle_size)
  unfolding threshold_and_grade_with_factor
  in_sixteenths = subst Sixteenths (sym (grade_is _)) (against_whole score (computed_threshold s factor method shingle_size) _ (steps_rise.surprise _ _ _ _ _ _))

  pub nothing_below : T (lt score (computed_threshold s factor method shingle_size)) → grade s score factor method shingle_size ≡ zero32
  unfolding threshold_and_grade_with_factor
  nothing_below h = ap (λ (g : Graded). g.grade) (grade_zero_below score (computed_threshold s factor method shingle_size) _ (is_true (lt score (computed_threshold s factor method shingle_size)) h))

  pub nothing_at_zero : T (eq (computed_threshold s factor method shingle_size) zero32) → grade s score factor method shingle_size ≡ zero32
  unfolding threshold_and_grade_with_factor
  nothing_at_zero h = grade_zero_at_zero score (computed_threshold s factor method shingle_size) _ (is_true (eq (computed_threshold s factor method shingle_size) zero32) h)

-- ---- DISTANCE
pub distance : (s : BasicThresholder) (x y : Float) → T (le x y) → T (le (primary_grade s x) (primary_grade s y))
unfolding primary_grade
distance s x y l = go (is_deviation_ready s) _ _
  where
    go : (b : Bool) (t d : Float) → T (le (cond b (grade_over (Ieee.sub binary32 x t) d) zero32) (cond b (grade_over (Ieee.sub binary32 y t) d) zero32))
    go true t d = steps_rise.distance x y l t d
    go false t d = zero_least zero32 steps_rise.nothing
