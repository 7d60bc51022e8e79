-- Steps of the functions' proofs: what a test on a field of the state picks. Assumes nothing.
use Rattle.std.proofs.Common.{◌≡◌, true, false}
use lib.Ieee.{Float}
use Rattle.basicthresholder.specs.Grades.{absolute_of, eased_absolute, intermediate_fraction}
use Rattle.basicthresholder.specs.declared.BasicThresholder.{BasicThresholder}

module _ (s : BasicThresholder) (t : Float) where
  pub absolute_on : s.auto_threshold ≡ true → eased_absolute t (intermediate_fraction s.count) s.factor_adjustment_threshold s.absolute_threshold ≡ absolute_of s t
  unfolding absolute_of
  absolute_on h = rw h

  pub absolute_off : s.auto_threshold ≡ false → s.absolute_threshold ≡ absolute_of s t
  unfolding absolute_of
  absolute_off h = rw h
