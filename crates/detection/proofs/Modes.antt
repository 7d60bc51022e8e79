-- That no way up to the noise pass is data drift, so that a reading corrected there hands no row on. Assumes nothing.
use Rattle.std.specs.Prelude.{Ok, Err}
use mathlib.Core.Path.{◌≡◌, refl, sym, subst}
use mathlib.Core.Bool.{Bool, true, false, cond, ◌&&◌}
use lib.Ieee as Ieee
use lib.Ieee.{Float, binary32}
use Rattle.types.specs.declared.CorrectionMode.{CorrectionMode}
use Rattle.basicthresholder.specs.declared.BasicThresholder.{BasicThresholder}
use Rattle.descriptor.specs.Lent.{Lent}
use Rattle.descriptor.specs.declared.Reading.{Reading}
use Rattle.descriptor.specs.declared.LastDescriptor.{LastDescriptor}
use Rattle.detection.specs.Const.{zero32}
use Rattle.detection.specs.Judging.{recent, opening, noise_pass, is_drift_mode}
use Rattle.detection.specs.Steps.{accepted_way, way}
use Rattle.detection.specs.declared.Way.{Way}
use Rattle.detection.specs.declared.Way.TheVariants as Ways
use Rattle.types.specs.Refusals.{Answer}

abbrev Calm : Way → Type 0
Calm (Ways.Refused why) = Unit
Calm Ways.Skipped = Unit
Calm (Ways.Quiet t) = Unit
Calm (Ways.Corrected t m) = is_drift_mode m ≡ false
Calm (Ways.Past t g) = Unit

picks : (p q : Bool) (x y z : Way) → Calm x → Calm y → Calm z → Calm (cond p x (cond q y z))
picks true q x y z h k m = h
picks false true x y z h k m = k
picks false false x y z h k m = m

module _ (r : Reading) (l : LastDescriptor) (b : Lent) (t : BasicThresholder) where
  calm : (a : Answer) → Calm (way r l b t a)
  unfolding way accepted_way
  calm (Ok tt) =
      picks (Ieee.eq r.score zero32) (Ieee.eq (opening t r r.score).grade zero32) _ _ _ tt tt
      (picks (recent r l b && Ieee.eq (opening t r r.corrected_score).grade zero32) (Ieee.eq (Ieee.mul binary32 (opening t r r.score).grade (noise_pass r l b)) zero32) _ _ _ refl refl tt)
  calm (Err why) = tt

  pub not_drift : (a : Answer) (y : Way) (x : Float) (m : CorrectionMode) → y ≡ way r l b t a → y ≡ Ways.Corrected x m → is_drift_mode m ≡ false
  not_drift a y x m p q = subst Calm q (subst Calm (sym p) (calm a))
