-- There are bytes that calls reach, and graded calls over them that answer 0. Assumes nothing.
use Rattle.std.specs.Prelude.{Ok}
use mathlib.Core.Path.{◌≡◌, refl}
use mathlib.Core.Bool.{false}
use mathlib.Core.List.{List}
use Prim.Native.Nat.{ℕ}
use lib.Dec.{T}
use lib.ListN.{length}
use lib.Ieee.{binary64, fits, lt, le, eq, of_bits}
use lib.Ieee.Bits.{of_bits-fits}
use borrow.Author.Tests.{eq-eqb}
use Rattle.types.specs.declared.TransformMethod.TheVariants.{NONE}
use Rattle.deviation.specs.Const.{zero64}
use Rattle.basicthresholder.specs.Const.{one32, two32}
use Rattle.basicthresholder.specs.Grades.{threshold_and_grade_with_factor}
use Rattle.basicthresholder.specs.Updates.{fresh_thresholder, new_adjustible}
use Rattle.layout.specs.Places.{thresholder_length}
use Rattle.layout.specs.States.{encode_graded}
use Rattle.layout.specs.Left.{left, put_into}
use Rattle.c_interface.specs.Calls.{thresholder_made, new_into, thresholder_read, graded_by}
use Rattle.demand3_over_c.proofs.Start.{fresh_thresholder_lem}
use Rattle.grades_over_c.specs.Bytes.{ReachedBytes, krcf_thresholder_new}
use Rattle.grades_over_c.specs.Statement.{GradedByFactor, new_bytes}
use Rattle.grades_over_c.proofs.Kept.{put_reads}

zero_fits : T (fits binary64 zero64)
zero_fits = of_bits-fits binary64 0

new_is : new_adjustible zero64 false ≡ Ok (fresh_thresholder zero64 false)
unfolding new_adjustible le lt eq of_bits
new_is = refl

put_is : (n : ℕ) (out ys : List ℕ) → length out ≡ n → left 0 ys ≡ put_into n out ys
unfolding put_into
put_is n out ys h = rw (eq-eqb (length out) n h) refl

made_is : (out : List ℕ) → length out ≡ thresholder_length → left 0 new_bytes ≡ new_into zero64 0 out
unfolding thresholder_made
made_is out h = rw new_is (put_is thresholder_length out new_bytes h)

pub met : (out : List ℕ) → length out ≡ thresholder_length → ReachedBytes new_bytes
met out h = krcf_thresholder_new zero64 0 out zero_fits (made_is out h)

pub graded_new : (out : List ℕ) → length out ≡ 8 → (ys : List ℕ) × GradedByFactor new_bytes one32 two32 0 1 out ys
unfolding graded_by thresholder_read
graded_new out h =
    let s = fresh_thresholder zero64 false in
    let ys = encode_graded (threshold_and_grade_with_factor s one32 two32 NONE 1) in
    (ys, rw (put_reads s (fresh_thresholder_lem zero64 false zero_fits)) (put_is 8 out ys h))
