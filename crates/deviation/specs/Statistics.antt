-- deviation.rs: discounted statistics of a run of scores. One definition for each function, in the Rust's order. Operators with ₆₄ are those of f64, every step
-- rounded; `sqrt` is the correctly rounded root.
use Rattle.std.specs.Prelude.{◌≡◌, Bool, false, cond, ◌&&◌, ℤ, pos, negsuc, ◌+ℤ◌, leb, Float, Result, Option, Ok, Err, Some, None}
use Rattle.std.specs.Float.Ieee.{of_int}
use Rattle.std.specs.Float.{binary64}
use Rattle.ieee.specs.Round.{sqrt}
use Rattle.ieee.specs.F64.{◌+₆₄◌, ◌-₆₄◌, ◌*₆₄◌, ◌/₆₄◌, ◌<₆₄◌, ◌<=₆₄◌, ◌>₆₄◌, ◌>=₆₄◌, ◌==₆₄◌}
use Rattle.types.specs.declared.Refusal.TheVariants.{Discount, Count}
use Rattle.deviation.specs.Const.{zero64, one64, count_limit}
use Rattle.deviation.specs.declared.Deviation.{Deviation}
use Rattle.types.specs.declared.Updated.{Updated}
use Rattle.types.specs.declared.Refusal.{Refusal}

-- The record of five numbers, `create`'s arguments in the Rust's order.
abbrev pub create : Float → Float → Float → Float → ℤ → Deviation
create d w s q n = record { discount = d; weight = w; sum_squared = q; sum = s; count = n }

-- No scores yet.
abbrev pub fresh : Float → Deviation
fresh d = create d zero64 zero64 zero64 (pos 0)

-- No NaN is one.
abbrev pub is_discount : Float → Bool
is_discount discount = discount >=₆₄ zero64 && discount <₆₄ one64

-- Refusal 1 for any other discount.
unfoldable pub new : Float → Result Deviation Refusal
new discount = cond (is_discount discount) (Ok (fresh discount)) (Err Discount)

-- Every sum and the count go; the discount stays.
unfoldable pub reset : Deviation → Deviation
reset d = fresh d.discount

unfoldable pub is_empty : Deviation → Bool
is_empty d = d.weight <=₆₄ zero64

-- The Rust's `mean`, which `mean_or_zero` answers; `mean` answers `measured_mean`.
unfoldable pub mean : Deviation → Float
mean d = cond (is_empty d) zero64 (d.sum /₆₄ d.weight)

-- What the sums are multiplied by before a score is added: 1 for discount 0, otherwise the smaller of 1 - discount and
-- 1 - 1/(count + 2), the count taken before.
unfoldable pub factor : Float → ℤ → Float
factor discount count =
    let a = one64 -₆₄ discount in
    let b = one64 -₆₄ one64 /₆₄ of_int binary64 (count +ℤ pos 2) in
    cond (discount ==₆₄ zero64) one64 (cond (a <₆₄ b) a b)

-- The record with the factor applied, the score entered and another count.
abbrev pub grown : Deviation → Float → Float → ℤ → Deviation
grown d score factor count = record {
  discount = d.discount;
  weight = d.weight *₆₄ factor +₆₄ one64;
  sum_squared = d.sum_squared *₆₄ factor +₆₄ score *₆₄ score;
  sum = d.sum *₆₄ factor +₆₄ score;
  count = count;
}

-- The record with one more score.
unfoldable pub next : Deviation → Float → Deviation
next d score = grown d score (factor d.discount d.count) (d.count +ℤ pos 1)

-- A count that an update takes.
unfoldable pub countable : ℤ → Bool
countable (pos n) = leb n count_limit
countable (negsuc n) = false

-- One more than a countable number; any other number itself.
unfoldable pub one_more : ℤ → ℤ
one_more n = cond (countable n) (n +ℤ pos 1) n

-- Refusal 6 hands the record back as it came.
unfoldable pub update : Deviation → Float → Updated Deviation
update d score =
    cond (countable d.count)
    (record { answer = Ok tt; state = next d score })
    (record { answer = Err Count; state = d })

-- The record that `update` hands back.
abbrev pub counted : Deviation → Float → Deviation
counted d score = (update d score).state

-- The root of a positive number; 0 of any other number and of NaN.
unfoldable pub positive_root : Float → Float
positive_root answer = cond (answer >₆₄ zero64) (sqrt answer) zero64

-- The Rust's `deviation`, which `deviation_or_zero` answers; `deviation` answers `measured_deviation`.
unfoldable pub deviation : Deviation → Float
deviation d =
    let temp = d.sum /₆₄ d.weight in
    cond (is_empty d) zero64 (positive_root (d.sum_squared /₆₄ d.weight -₆₄ temp *₆₄ temp))

-- Document 02, A2: what a statistic says of its scores. It is empty, with no number, exactly where its weight is at or below 0, which NaN is not; otherwise the
-- number is the Rust's.
abbrev pub measured : Deviation → Float → Option Float
measured d x = cond (is_empty d) None (Some x)

unfoldable pub measured_mean : Deviation → Option Float
measured_mean d = measured d (mean d)

unfoldable pub measured_deviation : Deviation → Option Float
measured_deviation d = measured d (deviation d)

-- What the chain takes of it.
unfoldable pub or_zero : Option Float → Float
or_zero None = zero64
or_zero (Some x) = x

-- Number-or-0 of both answers is what they were, and what the Rust's are.
abbrev pub OrZeroAsBefore : Type 0
OrZeroAsBefore = (d : Deviation) → (or_zero (measured_mean d) ≡ mean d) × (or_zero (measured_deviation d) ≡ deviation d)

-- The record with another discount, and with another count.
abbrev pub with_discount : Deviation → Float → Deviation
with_discount d x = create x d.weight d.sum d.sum_squared d.count

abbrev pub with_count : Deviation → ℤ → Deviation
with_count d n = create d.discount d.weight d.sum d.sum_squared n
