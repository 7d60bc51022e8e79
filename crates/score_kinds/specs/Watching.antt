-- The settings of a watch of one drawer's scores, what a score comes to, and what is counted of it.
use Rattle.std.specs.Prelude.{◌≡◌, refl, false, cond, Float}
use Rattle.std.specs.Float.Ieee as Ieee
use Rattle.std.specs.Float.Ieee.{of_bits, round}
use Rattle.std.specs.Float.{binary32, binary64}
use Rattle.basicthresholder.specs.Const.{zero32}
use Rattle.basicthresholder.specs.Grades.{primary_threshold_and_grade}
use Rattle.basicthresholder.specs.Updates.{fresh_thresholder, with_z_factor, update_primary}
use Rattle.basicthresholder.specs.declared.BasicThresholder.{BasicThresholder}
use Rattle.basicthresholder.specs.declared.Graded.{Graded}
use Rattle.score_kinds.specs.declared.Kind.{Kind}
use Rattle.score_kinds.specs.declared.Kind.TheVariants.{Skipped, Quiet, Raised}

-- DISTANCE, discount 0, z 3.
unfoldable pub three32 : Float
three32 = of_bits binary32 0x4040_0000

pub constants : three32 ≡ round binary32 false 3 1
unfolding three32 of_bits round
constants = refl

unfoldable pub settings : BasicThresholder
settings = with_z_factor (fresh_thresholder (of_bits binary64 0) false) three32

-- What a score comes to: zero, of either sign, is skipped; any other is judged by threshold and opening grade before it is counted, and quiet if that grade is 0.
unfoldable pub by_grade : Graded → Kind
by_grade g = cond (Ieee.eq g.grade zero32) (Quiet g) (Raised g)

unfoldable pub kind_of : BasicThresholder → Float → Kind
kind_of s x = cond (Ieee.eq x zero32) Skipped (by_grade (primary_threshold_and_grade s x))

-- The statistics with the score; a zero score is not counted.
unfoldable pub counted : BasicThresholder → Float → BasicThresholder
counted s x = cond (Ieee.eq x zero32) s (update_primary s x).state
