-- What two of the updates and the horizon's setter leave can be stored; the other calls are `demand3_over_c`'s laws. Assumes nothing.
use mathlib.Core.Bool.{Bool, true, false, cond}
use lib.Dec.{T}
use lib.Ieee.{Float, binary32, fits}
use Rattle.types.specs.declared.Refusal.TheVariants.{Horizon}
use Rattle.basicthresholder.specs.Updates.{threshold_counted, both_counted, update_threshold, update_both, with_score_differencing, is_horizon, set_score_differencing, done, refused}
use Rattle.basicthresholder.specs.declared.BasicThresholder.{BasicThresholder}
use Rattle.layout.specs.Fits.{ThresholderFits}
use Rattle.demand3_over_c.proofs.Held.{over_fits, with_counted_lem, both_fits, updated_fits, differencing_fits}

-- ---- updates
pub threshold_fits : (s : BasicThresholder) (x : Float) → ThresholderFits s → ThresholderFits (update_threshold s x).state
unfolding update_threshold threshold_counted
threshold_fits s x f = updated_fits s (threshold_counted s x) f (with_counted_lem s _ _ _ _ _ f f.last f.primary f.secondary (over_fits s.threshold_deviation _ _ f.third) f.count)

pub both_updated_fits : (s : BasicThresholder) (x y : Float) → T (fits binary32 x) → ThresholderFits s → ThresholderFits (update_both s x y).state
unfolding update_both
both_updated_fits s x y h f = updated_fits s (both_counted s x y) f (both_fits s x y h f)

-- ---- the setter that may refuse
pub horizon_fits : (s : BasicThresholder) (x : Float) → T (fits binary32 x) → ThresholderFits s → ThresholderFits (set_score_differencing s x).state
unfolding set_score_differencing
horizon_fits s x h f = go (is_horizon x)
  where
    go : (c : Bool) → ThresholderFits (cond c (done (with_score_differencing s x)) (refused Horizon s)).state
    go true = differencing_fits s x h f
    go false = f
