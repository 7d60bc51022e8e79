-- The opening grade is a number of f32, and the noise pass is 1 or 0: so what the pass leaves of a grade is the grade itself, or 0. Assumes nothing.
use mathlib.Core.Path.{◌≡◌, refl, sym, ap, ◌∙◌, subst}
use mathlib.Core.Logic.{◌⊎◌, inl, inr}
use mathlib.Core.Bool.{Bool, true, false, not, cond, ◌||◌, true≢false}
use mathlib.Core.List.{List}
use Prim.Native.Nat.{ℕ, zero, suc, ◌+◌, ◌*◌, ◌^◌}
use lib.Dec.{T, eqb, ltb}
use lib.IntN.{pos}
use lib.ListN.{length}
use lib.Ieee as Ieee
use lib.Ieee.{Float, nan, inf, fin, Format, binary32, prec, emax, low, odd, units, round, div, mul, lt, eq, fits, of_bits}
use lib.Ieee.Bits.{of_bits-fits}
use lib.Ieee.Fits.{div-fits}
use lib.Ieee.Scale.{finite}
use Rattle.util.specs.Util.{minf32, maxf32}
use Rattle.types.specs.Codes.{is_height}
use Rattle.types.specs.declared.TransformMethod.{TransformMethod}
use Rattle.grading.specs.Const.{tenth32}
use Rattle.basicthresholder.specs.Const.{zero32, one32}
use Rattle.basicthresholder.specs.Grades.{primary_threshold_and_grade, primary_grade, grade_over, threshold_and_grade, threshold_and_grade_with_factor, grade_against, graded_or, graded, sixteenths, is_deviation_ready}
use Rattle.basicthresholder.specs.declared.BasicThresholder.{BasicThresholder}
use Rattle.uncertainty_box.specs.Const as Box
use Rattle.uncertainty_box.specs.Pass as Pass
use Rattle.uncertainty_box.specs.Pass.{centered_transform_pass, noise_loop, noise_step, passable, over_at}
use Rattle.uncertainty_box.specs.Scan.{some}
use Rattle.descriptor.specs.Lent.{Lent}
use Rattle.descriptor.specs.declared.Reading.{Reading}
use Rattle.descriptor.specs.declared.LastDescriptor.{LastDescriptor}
use Rattle.detection.specs.Judging.{opening, noise_pass}
use Rattle.demand3.proofs.TimesOne.{times_one, times_zero}

-- ---- the opening grade
pub record Grade (g : Float) : Type 0 where
  pub fits : T (fits binary32 g)
  pub finite : T (finite g)

zero_grade : Grade zero32
unfolding of_bits
zero_grade = record { fits = of_bits-fits binary32 0; finite = tt }

tenth_grade : Grade tenth32
unfolding of_bits
tenth_grade = record { fits = of_bits-fits binary32 0x3DCC_CCCD; finite = tt }

-- no infinity below 0
abbrev upper : Float → Bool
upper nan = true
upper (inf s) = not s
upper (fin s m e) = true

upper_odd : (d q k l : ℕ) → T (upper (odd d false q k l))
unfolding odd
upper_odd d zero k l = tt
upper_odd d (suc q) k l = tt

upper_units : (f : Format) (q k : ℕ) → T (upper (units f false q k))
unfolding units
upper_units f q k = go (ltb (q * 2 ^ k) (2 ^ (low f + suc (emax f))))
  where
    go : (b : Bool) → T (upper (cond b (odd (suc (prec f)) false q k (low f)) (inf false)))
    go true = upper_odd (suc (prec f)) q k (low f)
    go false = tt

upper_round : (f : Format) (a c : ℕ) → T (upper (round f false a c))
unfolding round
upper_round f a c = upper_units f _ _

upper_div : (t s : Float) → T (lt zero32 t) → T (lt zero32 s) → T (upper (div binary32 t s))
unfolding lt div of_bits
upper_div nan s p q = absurd p
upper_div (inf true) s p q = absurd p
upper_div (inf false) nan p q = absurd q
upper_div (inf false) (inf true) p q = absurd q
upper_div (inf false) (inf false) p q = tt
upper_div (inf false) (fin true n d) p q = absurd q
upper_div (inf false) (fin false n d) p q = tt
upper_div (fin true m e) s p q = absurd p
upper_div (fin false m e) nan p q = absurd q
upper_div (fin false m e) (inf true) p q = absurd q
upper_div (fin false m e) (inf false) p q = tt
upper_div (fin false m e) (fin true n d) p q = absurd q
upper_div (fin false m e) (fin false n d) p q = go (eqb n 0) (eqb m 0)
  where
    go : (a b : Bool) → T (upper (cond a (cond b nan (inf false)) (round binary32 false (m * Ieee.up e * Ieee.down d) (n * Ieee.up d * Ieee.down e))))
    go true true = tt
    go true false = tt
    go false b = upper_round binary32 (m * Ieee.up e * Ieee.down d) (n * Ieee.up d * Ieee.down e)

-- at most 1
capped : (x : Float) → T (fits binary32 x) → T (upper x) → Grade (minf32 x one32)
unfolding minf32 of_bits lt
capped nan f u = record { fits = of_bits-fits binary32 0x3f80_0000; finite = tt }
capped (inf true) f u = absurd u
capped (inf false) f u = record { fits = of_bits-fits binary32 0x3f80_0000; finite = tt }
capped (fin s m e) f u = go (lt (fin s m e) (fin false 1 (pos 0)))
  where
    go : (b : Bool) → Grade (cond b (fin s m e) one32)
    go true = record { fits = f; finite = tt }
    go false = record { fits = of_bits-fits binary32 0x3f80_0000; finite = tt }

over_grade : (t spread : Float) → Grade (grade_over t spread)
unfolding grade_over
over_grade t spread = outer (lt zero32 t) refl
  where
    inner : T (lt zero32 t) → (b : Bool) → lt zero32 spread ≡ b → Grade (cond b (minf32 (div binary32 t spread) one32) tenth32)
    inner p true q = capped (div binary32 t spread) (div-fits binary32 t spread) (upper_div t spread p (subst T (sym q) tt))
    inner p false q = tenth_grade

    outer : (b : Bool) → lt zero32 t ≡ b → Grade (cond b (cond (lt zero32 spread) (minf32 (div binary32 t spread) one32) tenth32) zero32)
    outer true p = inner (subst T (sym p) tt) (lt zero32 spread) refl
    outer false p = zero_grade

distance_grade : (t : BasicThresholder) (x : Float) → Grade (primary_threshold_and_grade t x).grade
unfolding primary_threshold_and_grade primary_grade
distance_grade t x = go (is_deviation_ready t) _ _
  where
    go : (b : Bool) (y spread : Float) → Grade (cond b (grade_over y spread) zero32)
    go true y spread = over_grade y spread
    go false y spread = zero_grade

-- a grade above 0 is no infinity below 0
above_grade : (x : Float) → T (fits binary32 x) → T (lt zero32 (minf32 x one32)) → Grade (minf32 x one32)
unfolding minf32 lt of_bits
above_grade nan f p = capped nan f tt
above_grade (inf true) f p = absurd p
above_grade (inf false) f p = capped (inf false) f tt
above_grade (fin s m e) f p = capped (fin s m e) f tt

or_grade : (y threshold g : Float) → (T (lt zero32 g) → Grade g) → Grade (graded_or y threshold g).grade
unfolding graded_or
or_grade y threshold g h = go (lt zero32 g) refl
  where
    go : (b : Bool) → lt zero32 g ≡ b → Grade (cond b (graded threshold g) (graded y zero32)).grade
    go true p = h (subst T (sym p) tt)
    go false p = zero_grade

against_grade : (x threshold surprise : Float) → Grade (grade_against x threshold surprise).grade
unfolding grade_against sixteenths
against_grade x threshold surprise = go (lt x threshold || eq threshold zero32)
  where
    go : (b : Bool) → Grade (cond b (graded threshold zero32) (graded_or x threshold (sixteenths surprise))).grade
    go true = zero_grade
    go false = or_grade x threshold (sixteenths surprise) (above_grade _ (div-fits binary32 _ _))

height_grade : (t : BasicThresholder) (x : Float) (m : TransformMethod) (n : ℕ) → Grade (threshold_and_grade t x m n).grade
unfolding threshold_and_grade threshold_and_grade_with_factor
height_grade t x m n = against_grade x _ _

pub opening_grade : (t : BasicThresholder) (r : Reading) (x : Float) → Grade (opening t r x).grade
unfolding opening
opening_grade t r x = go (is_height r.scoring_strategy)
  where
    go : (c : Bool) → Grade (cond c (threshold_and_grade t x r.transform_method r.shingle_size) (primary_threshold_and_grade t x)).grade
    go true = height_grade t x r.transform_method r.shingle_size
    go false = distance_grade t x

-- ---- the noise pass
not_above : lt zero32 zero32 ≡ false
unfolding lt of_bits
not_above = refl

-- the second loop leaves 1 as it is
step_one : (z dev : Float) → noise_step one32 z dev ≡ one32
unfolding noise_step minf32 maxf32
step_one z dev = go (lt (mul binary32 Box.noise_factor dev) z) (Ieee.div binary32 z (Ieee.mul binary32 Box.three dev))
  where
    inner : (q : Float) (b : Bool) → lt one32 q ≡ b → cond (lt one32 (cond b q one32)) one32 (cond b q one32) ≡ one32
    inner q true e = rw e refl
    inner q false e = either (lt one32 one32)
      where
        either : (b : Bool) → cond b one32 one32 ≡ one32
        either true = refl
        either false = refl

    go : (c : Bool) (q : Float) → cond c (cond (lt one32 (cond (lt one32 q) q one32)) one32 (cond (lt one32 q) q one32)) one32 ≡ one32
    go true q = inner q (lt one32 q) refl
    go false q = refl

loop_one : (n base : ℕ) (scale deviations point : List Float) → noise_loop n base scale deviations point one32 ≡ one32
unfolding noise_loop
loop_one zero base scale deviations point = refl
loop_one (suc n) base scale deviations point = rw (loop_one n base scale deviations point) (step_one _ _)

looped : (base : ℕ) (scale deviations point : List Float) (b : Bool)
    → (Pass.noise_pass base scale deviations point (cond b one32 zero32) ≡ one32) ⊎ (Pass.noise_pass base scale deviations point (cond b one32 zero32) ≡ zero32)
unfolding Pass.noise_pass
looped base scale deviations point true = inl (go (lt zero32 one32))
  where
    go : (b : Bool) → cond b (noise_loop base base scale deviations point one32) one32 ≡ one32
    go true = loop_one base base scale deviations point
    go false = refl
looped base scale deviations point false = inr (rw not_above refl)

one_or_zero : (base : ℕ) (scale shift deviations point : List Float)
    → (centered_transform_pass base scale shift deviations point ≡ one32) ⊎ (centered_transform_pass base scale shift deviations point ≡ zero32)
unfolding centered_transform_pass
one_or_zero base scale shift deviations point =
    go (passable base (length scale) (length shift) (length deviations) (length point)) (some (length point) (over_at base scale shift point))
  where
    go : (a b : Bool) → (cond a (Pass.noise_pass base scale deviations point (cond b one32 zero32)) zero32 ≡ one32) ⊎ (cond a (Pass.noise_pass base scale deviations point (cond b one32 zero32)) zero32 ≡ zero32)
    go true b = looped base scale deviations point b
    go false b = inr refl

pass_is : (r : Reading) (l : LastDescriptor) (b : Lent) → (noise_pass r l b ≡ one32) ⊎ (noise_pass r l b ≡ zero32)
unfolding noise_pass
pass_is r l b = one_or_zero _ _ _ _ _

-- ---- what the pass leaves of a grade
by_one : (g : Float) → Grade g → mul binary32 g one32 ≡ g
unfolding of_bits
by_one g h = times_one binary32 g h.fits

by_zero : (g : Float) → Grade g → eq (mul binary32 g zero32) zero32 ≡ true
unfolding of_bits
by_zero g h = times_zero binary32 g h.finite

pub passed : (r : Reading) (l : LastDescriptor) (b : Lent) (g : Float) → Grade g → eq (mul binary32 g (noise_pass r l b)) zero32 ≡ false → mul binary32 g (noise_pass r l b) ≡ g
passed r l b g h e = elim (pass_is r l b) [
  | inl p ↦ ap (mul binary32 g) p ∙ by_one g h
  | inr p ↦ absurd (true≢false (sym (by_zero g h) ∙ ap (λ (x : Float). eq (mul binary32 g x) zero32) (sym p) ∙ e))
]
