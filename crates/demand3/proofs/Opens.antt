-- A verdict shows its opening: of a score that is not 0, for every strategy. Assumes nothing.
use mathlib.Core.Path.{◌≡◌, refl, sym}
use mathlib.Core.Bool.{Bool, true, false, not, cond, ◌&&◌, true≢false}
use lib.Dec.{ltb}
use lib.Ieee as Ieee
use lib.Ieee.{Float, binary32, eq}
use Rattle.basicthresholder.specs.Const.{zero32}
use Rattle.basicthresholder.specs.declared.Graded.{Graded}
use Rattle.descriptor.specs.Lent.{Lent}
use Rattle.descriptor.specs.declared.Reading.{Reading}
use Rattle.descriptor.specs.declared.LastDescriptor.{LastDescriptor}
use Rattle.predictorcorrector.specs.declared.PredictorCorrector.{PredictorCorrector}
use Rattle.detection.specs.Judging.{opening, gap, recent, noise_pass, explained, triggered, within_box, is_data_drift, late_verdict, graded_verdict, decided, verdict}
use Rattle.detection.specs.declared.Verdict.{Verdict}
use Rattle.detection.specs.declared.Verdict.TheVariants.{Quiet, Corrected, Raised, Skipped}
use Rattle.types.specs.declared.CorrectionMode.{CorrectionMode}
use Rattle.demand3.specs.Calls.{grade_of, opened}
use Rattle.demand3.specs.Statement.{is_quiet, Shows}
use Rattle.demand3.proofs.Grades.{opening_grade, passed}

either : {o : Graded} (c : Bool) (u v : Verdict) → (c ≡ true → Shows o u) → (c ≡ false → Shows o v) → Shows o (cond c u v)
either true u v p q = p refl
either false u v p q = q refl

quiet : (o : Graded) → eq o.grade zero32 ≡ true → Shows o (Quiet o.threshold)
quiet o e = record { threshold = refl; quiet = sym e; skipped = refl; raised = λ (h : ⊥). absurd h }

corrected : (o : Graded) (m : CorrectionMode) → eq o.grade zero32 ≡ false → Shows o (Corrected o.threshold m)
corrected o m e = record { threshold = refl; quiet = sym e; skipped = refl; raised = λ (h : ⊥). absurd h }

raised : (o : Graded) (g : Float) → eq o.grade zero32 ≡ false → g ≡ o.grade → Shows o (Raised o.threshold g)
raised o g e k = record { threshold = refl; quiet = sym e; skipped = refl; raised = λ (h : Unit). k }

module _ (s : PredictorCorrector) (r : Reading) (l : LastDescriptor) (b : Lent) where
  late : (auto drift : Bool) (o : Graded) (g : Float) → eq o.grade zero32 ≡ false → g ≡ o.grade → Shows o (late_verdict r l b auto drift o.threshold g)
  unfolding late_verdict
  late auto drift o g e k =
      either (auto && explained r l b) _ _ (λ c. corrected o _ e)
      (λ c. either (ltb (gap r l b) r.shingle_size && not (triggered r l b o.threshold)) _ _ (λ c. corrected o _ e)
      (λ c. either (within_box r l b) _ _ (λ c. corrected o _ e)
      (λ c. either drift _ _ (λ c. corrected o _ e) (λ c. raised o g e k))))

  past_opening : eq (opened s r).grade zero32 ≡ false → Shows (opened s r) (graded_verdict r l b s.basic_thresholder s.auto_adjust (is_data_drift r l b s (opened s r).threshold) (opened s r).threshold (opened s r).grade)
  unfolding graded_verdict recent
  past_opening e =
      let o = opened s r in
      either (recent r l b && eq (opening s.basic_thresholder r r.corrected_score).grade zero32) _ _ (λ c. corrected o _ e)
      (λ c. either (eq (Ieee.mul binary32 o.grade (noise_pass r l b)) zero32) _ _ (λ c. corrected o _ e)
      (λ c. late _ _ o _ e (passed r l b o.grade (opening_grade s.basic_thresholder r r.score) c)))

  pub verdict_shows : eq r.score zero32 ≡ false → Shows (opened s r) (verdict r l b s)
  unfolding verdict decided
  verdict_shows e = rw e (either (eq (opened s r).grade zero32) _ _ (quiet (opened s r)) past_opening)

  pub zero_skips : eq r.score zero32 ≡ true → verdict r l b s ≡ Skipped
  unfolding verdict decided
  zero_skips e = rw e refl

-- A quiet verdict ends with grade 0.
pub quiet_ends : (v : Verdict) → is_quiet v ≡ true → grade_of v ≡ zero32
quiet_ends (Quiet t) e = refl
quiet_ends (Corrected t m) e = refl
quiet_ends (Raised t g) e = absurd (true≢false (sym e))
quiet_ends Skipped e = refl
