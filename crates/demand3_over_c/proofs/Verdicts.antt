-- A verdict comes back from its bytes, and they show its opening. Assumes nothing.
use mathlib.Core.Path.{◌≡◌, refl, sym, ap, ◌∙◌, subst}
use mathlib.Core.Bool.{Bool, true, false, not, cond, ◌&&◌, ◌||◌, true≢false}
use mathlib.Core.List.{List}
use Prim.Native.Nat.{ℕ, ◌<◌}
use native.Mathlib.Omega.{arith}
use lib.Dec.{T, eqb}
use lib.IntN.{ℤ}
use lib.Signed.{mag}
use lib.Ieee as Ieee
use lib.Ieee.{Float, binary32, eq, fits}
use lib.Ieee.Bits.{of_bits-fits}
use lib.Ieee.Fits.{cond-fits, add-fits, div-fits}
use Rattle.util.specs.Util.{maxf32}
use Rattle.types.specs.Codes.{is_height, mode_code}
use Rattle.types.specs.declared.TransformMethod.{TransformMethod}
use Rattle.basicthresholder.specs.Const.{zero32, one32}
use Rattle.basicthresholder.specs.Grades.{threshold, primary_threshold_and_grade, threshold_and_grade, threshold_and_grade_with_factor, grade_against, graded_or, graded, absolute_of, eased_absolute, threshold_from, threshold_by, sixteenths, is_deviation_ready, intermediate_fraction}
use Rattle.basicthresholder.specs.declared.BasicThresholder.{BasicThresholder}
use Rattle.basicthresholder.specs.declared.Graded.{Graded}
use Rattle.descriptor.specs.Lent.{Lent}
use Rattle.descriptor.specs.declared.Reading.{Reading}
use Rattle.descriptor.specs.declared.LastDescriptor.{LastDescriptor}
use Rattle.predictorcorrector.specs.declared.PredictorCorrector.{PredictorCorrector}
use Rattle.detection.specs.Judging.{opening, verdict}
use Rattle.detection.specs.declared.Verdict.{Verdict}
use Rattle.detection.specs.declared.Verdict.TheVariants.{Quiet, Corrected, Raised, Skipped}
use Rattle.layout.specs.Numbers.{le4, f32_at, i32_at, f32_bytes, i32_bytes, bytes4}
use Rattle.layout.specs.States.{joined}
use Rattle.layout.specs.Readings.{verdict_bytes}
use Rattle.layout.specs.Fits.{ThresholderFits}
use Rattle.layout.proofs.Laws.{f32_back, i32_back}
use Rattle.verdict_bytes.specs.Bytes.{told}
use Rattle.demand3.specs.Calls.{threshold_of, grade_of, opened}
use Rattle.demand3.specs.Statement.{is_quiet, is_raised, is_skipped, Shows}
use Rattle.demand3.proofs.Grades.{opening_grade}
use Rattle.demand3.proofs.Opens.{verdict_shows, zero_skips}
use Rattle.demand3_over_c.specs.Calls.{kind_in}
use Rattle.demand3_over_c.specs.Statement.{kind_of, mode_of, Reads, Opens}
use Rattle.demand3_over_c.proofs.Held.{max_fits}

-- ---- the opening threshold is an f32
eased : (x y z a : Float) → T (fits binary32 a) → T (fits binary32 (eased_absolute x y z a))
unfolding eased_absolute
eased x y z a h = go (Ieee.le one32 y && Ieee.lt x z)
  where
    go : (c : Bool) → T (fits binary32 (cond c (Ieee.div binary32 (Ieee.mul binary32 x a) z) a))
    go true = div-fits binary32 (Ieee.mul binary32 x a) z
    go false = h

module _ (t : BasicThresholder) (f : ThresholderFits t) where
  absolute_fits : (x : Float) → T (fits binary32 (absolute_of t x))
  unfolding absolute_of
  absolute_fits x =
      cond-fits binary32 t.auto_threshold (eased_absolute x (intermediate_fraction t.count) t.factor_adjustment_threshold t.absolute_threshold) t.absolute_threshold
      (eased x (intermediate_fraction t.count) t.factor_adjustment_threshold t.absolute_threshold f.absolute) f.absolute

from_fits : (ready : Bool) (a b c d e : Float) → T (fits binary32 d) → T (fits binary32 e) → T (fits binary32 (threshold_from ready a b c d e))
unfolding threshold_from
from_fits ready a b c d e p q =
    let t = Ieee.add binary32 (Ieee.mul binary32 a (Ieee.add binary32 b c)) (Ieee.mul binary32 (Ieee.sub binary32 one32 a) d) in
    cond-fits binary32 (not ready) (maxf32 d e) (maxf32 t e) (max_fits d e p q) (max_fits t e (add-fits binary32 _ _) q)

or_fits : (x t g : Float) → T (fits binary32 x) → T (fits binary32 t) → T (fits binary32 (graded_or x t g).threshold)
unfolding graded_or
or_fits x t g p q = go (Ieee.lt zero32 g)
  where
    go : (c : Bool) → T (fits binary32 (cond c (graded t g) (graded x zero32)).threshold)
    go true = q
    go false = p

against_fits : (x t y : Float) → T (fits binary32 x) → T (fits binary32 t) → T (fits binary32 (grade_against x t y).threshold)
unfolding grade_against
against_fits x t y p q = go (Ieee.lt x t || Ieee.eq t zero32)
  where
    go : (c : Bool) → T (fits binary32 (cond c (graded t zero32) (graded_or x t (sixteenths y))).threshold)
    go true = q
    go false = or_fits x t (sixteenths y) p q

height_fits : (t : BasicThresholder) (x : Float) (m : TransformMethod) (n : ℕ) → ThresholderFits t → T (fits binary32 x) → T (fits binary32 (threshold_and_grade t x m n).threshold)
unfolding threshold_and_grade threshold_and_grade_with_factor
height_fits t x m n f h = against_fits x _ _ h (from_fits (is_deviation_ready t) _ _ _ t.initial_threshold (absolute_of t _) f.initial (absolute_fits t f _))

distance_fits : (t : BasicThresholder) (x : Float) → T (fits binary32 (primary_threshold_and_grade t x).threshold)
unfolding primary_threshold_and_grade threshold threshold_by
distance_fits t x = add-fits binary32 _ _

pub opening_fits : (t : BasicThresholder) (r : Reading) (x : Float) → ThresholderFits t → T (fits binary32 x) → T (fits binary32 (opening t r x).threshold)
unfolding opening
opening_fits t r x f h = go (is_height r.scoring_strategy)
  where
    go : (c : Bool) → T (fits binary32 (cond c (threshold_and_grade t x r.transform_method r.shingle_size) (primary_threshold_and_grade t x)).threshold)
    go true = height_fits t x r.transform_method r.shingle_size f h
    go false = distance_fits t x

-- ---- a verdict comes back from its bytes
abbrev VerdictFits : Verdict → Type 0
VerdictFits v = T (fits binary32 (threshold_of v)) × T (fits binary32 (grade_of v))

parts_read : (kind mode : ℕ) (t g : Float) (n : ℤ) → T (fits binary32 t) → T (fits binary32 g)
    → (f32_at (verdict_bytes kind mode t g n) 2 ≡ t) × (f32_at (verdict_bytes kind mode t g n) 6 ≡ g)
unfolding verdict_bytes joined f32_at f32_bytes i32_bytes le4 bytes4
parts_read kind mode t g n p q = (f32_back t p, f32_back g q)

index_read : (kind mode : ℕ) (t g : Float) (n : ℤ) → mag n < 0x8000_0000 → i32_at (verdict_bytes kind mode t g n) 10 ≡ n
unfolding verdict_bytes joined i32_at f32_bytes i32_bytes le4 bytes4
index_read kind mode t g n h = i32_back n h

bytes_read : (v : Verdict) (kind mode : ℕ) (n : ℤ) → kind ≡ kind_of v → mode ≡ mode_of v → VerdictFits v → mag n < 0x8000_0000 → Reads v n (verdict_bytes kind mode (threshold_of v) (grade_of v) n)
unfolding verdict_bytes joined f32_bytes i32_bytes bytes4
bytes_read v kind mode n k m f h =
    let p = parts_read kind mode (threshold_of v) (grade_of v) n f.0 f.1 in
    record { long = refl; kind = k; mode = m; threshold = p.0; grade = p.1; index = index_read kind mode (threshold_of v) (grade_of v) n h }

pub told_reads : (v : Verdict) (n : ℤ) → VerdictFits v → mag n < 0x8000_0000 → Reads v n (told v n)
unfolding told
told_reads (Quiet t) n f h = bytes_read (Quiet t) 0 0 n refl refl f h
told_reads (Corrected t m) n f h = bytes_read (Corrected t m) 1 (mode_code m) n refl refl f h
told_reads (Raised t g) n f h = bytes_read (Raised t g) 2 0 n refl refl f h
told_reads Skipped n f h = bytes_read Skipped 3 0 n refl refl f h

-- ---- every verdict that the judge gives fits its bytes
zero_fits : T (fits binary32 zero32)
zero_fits = of_bits-fits binary32 0

shown_fits : (o : Graded) (v : Verdict) → T (fits binary32 o.threshold) → T (fits binary32 o.grade) → Shows o v → VerdictFits v
shown_fits o v t g k = (subst (λ (x : Float). T (fits binary32 x)) (sym k.threshold) t, by v k.raised)
  where
    by : (v : Verdict) → (T (is_raised v) → grade_of v ≡ o.grade) → T (fits binary32 (grade_of v))
    by (Quiet t) e = zero_fits
    by (Corrected t m) e = zero_fits
    by (Raised t x) e = subst (λ (y : Float). T (fits binary32 y)) (sym (e tt)) g
    by Skipped e = zero_fits

pub verdict_fits : (s : PredictorCorrector) (r : Reading) (l : LastDescriptor) (b : Lent) → ThresholderFits s.basic_thresholder → T (fits binary32 r.score) → VerdictFits (verdict r l b s)
verdict_fits s r l b f h = go (eq r.score zero32) refl
  where
    go : (c : Bool) → eq r.score zero32 ≡ c → VerdictFits (verdict r l b s)
    go true e = subst VerdictFits (sym (zero_skips s r l b e)) (zero_fits, zero_fits)
    go false e =
        shown_fits (opened s r) (verdict r l b s) (opening_fits s.basic_thresholder r r.score f h) (opening_grade s.basic_thresholder r r.score).fits
        (verdict_shows s r l b e)

-- ---- what the bytes say of the opening
kind_quiet : (v : Verdict) → eqb (kind_of v) 0 ≡ is_quiet v
kind_quiet (Quiet t) = refl
kind_quiet (Corrected t m) = refl
kind_quiet (Raised t g) = refl
kind_quiet Skipped = refl

kind_skipped : (v : Verdict) → is_skipped v ≡ false → kind_of v < 3
kind_skipped (Quiet t) e = omega arith
kind_skipped (Corrected t m) e = omega arith
kind_skipped (Raised t g) e = omega arith
kind_skipped Skipped e = absurd (true≢false e)

kind_raised : (v : Verdict) → kind_of v ≡ 2 → T (is_raised v)
kind_raised (Quiet t) e = absurd (omega arith)
kind_raised (Corrected t m) e = absurd (omega arith)
kind_raised (Raised t g) e = tt
kind_raised Skipped e = absurd (omega arith)

pub verdict_opens : (s : PredictorCorrector) (r : Reading) (l : LastDescriptor) (b : Lent) (n : ℤ) (ys : List ℕ) → Reads (verdict r l b s) n ys → eq r.score zero32 ≡ false → Opens (opened s r) ys
verdict_opens s r l b n ys q e =
    let v = verdict r l b s in
    let k = verdict_shows s r l b e in
    record {
      threshold = q.threshold ∙ k.threshold;
      quiet = ap (λ (i : ℕ). eqb i 0) q.kind ∙ kind_quiet v ∙ k.quiet;
      skipped = subst (λ (i : ℕ). i < 3) (sym q.kind) (kind_skipped v k.skipped);
      raised = λ (i : kind_in ys ≡ 2). q.grade ∙ k.raised (kind_raised v (sym q.kind ∙ i));
    }
