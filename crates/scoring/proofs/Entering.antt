-- A state with its score counted, by what the calls answer. Assumes nothing.
use Rattle.std.proofs.Common.{◌≡◌, ap, ◌∙◌, ap₂}
use lib.Ieee.{Float}
use Rattle.basicthresholder.specs.declared.BasicThresholder.{BasicThresholder}
use Rattle.descriptor.specs.declared.Reading.{Reading}
use Rattle.descriptor.specs.declared.LastDescriptor.{LastDescriptor}
use Rattle.predictorcorrector.specs.State.{with_thresholder}
use Rattle.predictorcorrector.specs.declared.PredictorCorrector.{PredictorCorrector}
use Rattle.scoring.specs.Scores.{update_score, entered}

pub enters : (r : Reading) (l : LastDescriptor) (s s' : PredictorCorrector) (x x' : Float) (t : BasicThresholder) (u : PredictorCorrector)
    → s ≡ s' → x ≡ x' → t ≡ update_score s.basic_thresholder r l x → u ≡ with_thresholder s t → u ≡ entered s' r l x'
unfolding entered
enters r l s s' x x' t u p q h k = k ∙ ap (with_thresholder s) h ∙ ap₂ (λ (y : PredictorCorrector) (z : Float). with_thresholder y (update_score y.basic_thresholder r l z)) p q
