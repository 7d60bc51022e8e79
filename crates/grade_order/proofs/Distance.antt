-- DISTANCE's grade rises with the score. Assumes nothing.
use mathlib.Core.Path.{◌≡◌, refl, sym, subst}
use mathlib.Core.Bool.{Bool, true, false, not, cond}
use native.Mathlib.Omega.{arith}
use lib.IntN.{pos}
use lib.Dec.{T}
use lib.Ieee.{Float, nan, inf, fin, binary32, sub, div, lt, le, eq, is_nan, of_bits}
use lib.Ieee.Bits.{is_true}
use Rattle.util.specs.Util.{minf32}
use Rattle.grading.specs.Const.{zero32, one32, tenth32}
use Rattle.grading.specs.Grading.{grade_over}
use Rattle.grade_order.proofs.Comparing.{first_number, second_number}
use Rattle.grade_order.proofs.Rising.{plus, above, above_plus, is_above, Rising, to_nan, to_endless, numbers, is_le, first_plus, quotients, quotient_plus, limits, limited}
use Rattle.grade_order.proofs.Differences.{Over, over_gap}
use Rattle.grade_order.proofs.Sixteenths.{one_is}

-- ---- a number without a minus is at least 0
pub record Grade (g : Float) : Type 0 where
  pub sign : T (plus g)
  pub number : T (not (is_nan g))

zero_grade : Grade zero32
unfolding of_bits is_nan
zero_grade = record { sign = tt; number = tt }

tenth_grade : Grade tenth32
unfolding of_bits is_nan
tenth_grade = record { sign = tt; number = tt }

from_zero : (g : Float) → T (plus g) → Rising zero32 g
unfolding of_bits
from_zero nan p = to_nan tt
from_zero (inf true) p = absurd p
from_zero (inf false) p = to_endless tt
from_zero (fin true m e) p = absurd p
from_zero (fin false m e) p = numbers {m = 0} {n = m} {e = pos 0} {d = e} (omega arith)

least : (g : Float) → Grade g → T (le zero32 g)
least g h = is_le (from_zero g h.sign) zero_grade.number h.number

-- ---- a quotient, at most 1
capped_number : (q : Float) → T (not (is_nan (minf32 q one32)))
unfolding minf32 lt is_nan of_bits
capped_number nan = tt
capped_number (inf true) = tt
capped_number (inf false) = tt
capped_number (fin s m e) = go (lt (fin s m e) (fin false 1 (pos 0)))
  where
    go : (b : Bool) → T (not (is_nan (cond b (fin s m e) (fin false 1 (pos 0)))))
    go true = tt
    go false = tt

capped_grade : (q : Float) → T (plus q) → Grade (minf32 q one32)
capped_grade q p = record {
  sign = subst (λ (k : Float). T (plus (minf32 q k))) (sym one_is) (first_plus (limited 1 (pos 0) q p));
  number = capped_number q;
}

capped_rises : {a b : Float} → Rising a b → T (le (minf32 a one32) (minf32 b one32))
capped_rises {a} {b} r = is_le (subst (λ (k : Float). Rising (minf32 a k) (minf32 b k)) (sym one_is) (limits 1 (pos 0) r)) (capped_number a) (capped_number b)

-- ---- the grade by its gap
grade_of : (z d : Float) → Grade (grade_over z d)
unfolding grade_over
grade_of z d = outer (lt zero32 z) refl
  where
    inner : T (lt zero32 z) → (b : Bool) → lt zero32 d ≡ b → Grade (cond b (minf32 (div binary32 z d) one32) tenth32)
    inner s true e = capped_grade (div binary32 z d) (quotient_plus z d (above_plus (above z s)) (above d (subst T (sym e) tt)))
    inner s false e = tenth_grade

    outer : (b : Bool) → lt zero32 z ≡ b → Grade (cond b (cond (lt zero32 d) (minf32 (div binary32 z d) one32) tenth32) zero32)
    outer true e = inner (subst T (sym e) tt) (lt zero32 d) refl
    outer false e = zero_grade

pub distance_least : (z d : Float) → T (le zero32 (grade_over z d))
distance_least z d = least (grade_over z d) (grade_of z d)

tenth_le : T (le tenth32 tenth32)
unfolding le lt eq of_bits
tenth_le = tt

grades : (z z' d : Float) → (T (lt zero32 z) → Over z z') → T (le (grade_over z d) (grade_over z' d))
unfolding grade_over
grades z z' d f = outer (lt zero32 z) f
  where
    inner : Rising z z' → (b : Bool) → lt zero32 d ≡ b → T (le (cond b (minf32 (div binary32 z d) one32) tenth32) (cond b (minf32 (div binary32 z' d) one32) tenth32))
    inner r true e = capped_rises (quotients r d (above d (subst T (sym e) tt)))
    inner r false e = tenth_le

    outer : (b : Bool) → (T b → Over z z') → T (le (cond b (cond (lt zero32 d) (minf32 (div binary32 z d) one32) tenth32) zero32) (grade_over z' d))
    outer true k = let o = k tt in rw (is_true (lt zero32 z') (is_above o.above)) (inner o.rising (lt zero32 d) refl)
    outer false k = distance_least z' d

pub distance : (x y : Float) → T (le x y) → (t d : Float) → T (le (grade_over (sub binary32 x t) d) (grade_over (sub binary32 y t) d))
distance x y l t d = grades (sub binary32 x t) (sub binary32 y t) d (λ h. over_gap x y t (first_number x y l) (second_number x y l) l h)
