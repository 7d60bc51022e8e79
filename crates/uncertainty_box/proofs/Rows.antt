-- The rows of a flat list, and places in a row. Assumes nothing.
use Rattle.std.proofs.Common.{◌≡◌, ℕ, ◌+◌, ◌-◌, ◌*◌, ◌%◌, Bool, List, take, drop, sym, ap, ◌∙◌, add-one}
use native.Mathlib.Nat.{add-sub_cancel_left, suc-mod}
use lib.Ieee.{Float}
use Rattle.uncertainty_box.specs.Box.{point_at, within_unertainty_box, neighbour_within}

-- The part from k * d on, d long, is point k.
pub part_is : (xs : List Float) (d at k : ℕ) → at ≡ k * d → take (at + d - at) (drop at xs) ≡ point_at d k xs
unfolding point_at
part_is xs d at k e = rw (add-sub_cancel_left, e)

-- The place in its row of the element after element i.
pub place_next : (i y base r : ℕ) → y ≡ i % base → r ≡ (y + 1) % base → r ≡ (i + 1) % base
place_next i y base r e q = q ∙ simp (e, add-one) (sym (suc-mod i base))

-- What the box test of that part says of neighbour k.
pub neighbour_is : (box point : List Float) (start : ℕ) (scale neighbours : List Float) (d at k : ℕ) (b : Bool) → at ≡ k * d →
    b ≡ within_unertainty_box box start scale point (take (at + d - at) (drop at neighbours)) →
    b ≡ neighbour_within box point start scale neighbours d k
unfolding neighbour_within
neighbour_is box point start scale neighbours d at k b e q = q ∙ ap (within_unertainty_box box start scale point) (part_is neighbours d at k e)
