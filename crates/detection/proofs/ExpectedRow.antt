-- The box test and the newest row by the expected row alone. Assumes nothing.
use mathlib.Core.Path.{◌≡◌, refl, sym, ap, ap₂, ◌∙◌}
use mathlib.Core.Bool.{Bool, true, false, cond, not, ◌&&◌, ◌||◌}
use mathlib.Core.List.{List}
use mathlib.Core.Logic.{◌⊎◌, inl, inr}
use Prim.Native.Nat.{ℕ, zero, suc, ◌+◌, ◌-◌, ◌≤◌, ◌<◌}
use native.Mathlib.Omega.{arith}
use lib.Dec.{leb, eqb}
use lib.ListN.{length, take, drop, get_or, length-drop}
use lib.Seq.{get_or-take, get_or-drop, take_all, length-take-le, drop-set-lt}
use lib.Ieee.{Float, nan}
use borrow.Author.Tests.{le-leb, eq-eqb, ne_eqb}
use Rattle.attributors.specs.Attributors.{padded}
use Rattle.attributors.proofs.Laws.{take_padded}
use Rattle.corrector.specs.Corrector.{expected_row}
use Rattle.corrector.proofs.Kept.{expected_keeps, expected_length}
use Rattle.corrector.proofs.Rows.{row_is_part}
use Rattle.descriptor.specs.Lent.{Lent}
use Rattle.descriptor.specs.declared.Reading.{Reading}
use Rattle.descriptor.specs.declared.LastDescriptor.{LastDescriptor}
use Rattle.uncertainty_box.specs.Scan.{some}
use Rattle.uncertainty_box.specs.Box.{outside, outside_at, within_unertainty_box}
use Rattle.detection.specs.Const.{zero32}
use Rattle.detection.specs.Judging.{start, expected, newest_of}
use Rattle.detection.specs.Decided.{newest_expected}
use Rattle.detection.specs.Steps.{Branching}

some_alike : (n : ℕ) (f g : ℕ → Bool) → ((y : ℕ) → y < n → f y ≡ g y) → some n f ≡ some n g
unfolding some
some_alike zero f g h = refl
some_alike (suc n) f g h = ap₂ (λ (p q : Bool). p || q) (some_alike n f g (λ y l. h y (omega arith))) (h n (omega arith))

-- A coordinate of a row.
row_nth : (xs : List Float) (from base y : ℕ) → y < base → get_or (take base (drop from xs)) (0 + y) nan ≡ get_or xs (from + y) nan
row_nth xs from base y h = let z : 0 + y ≡ y = omega arith in ap (λ (n : ℕ). get_or (take base (drop from xs)) n nan) z ∙ get_or-take base (drop from xs) y nan h ∙ get_or-drop from xs y nan

-- The box test looks at the rows alone.
within_rows : (box : List Float) (from base : ℕ) (scale point other : List Float) → length box ≡ base → from + base ≤ length point → from + base ≤ length other
    → within_unertainty_box box 0 scale (take base (drop from point)) (take base (drop from other)) ≡ within_unertainty_box box from scale point other
unfolding within_unertainty_box outside_at
within_rows box from base scale point other long in-point in-other =
    let l-point : length (take base (drop from point)) ≡ base = length-take-le base (drop from point) (simp length-drop (omega arith)) in
    let l-other : length (take base (drop from other)) ≡ base = length-take-le base (drop from other) (simp length-drop (omega arith)) in
    let p : leb (length box) (length (take base (drop from point)) - 0) ≡ leb (length box) (length point - from) =
    le-leb (length box) (length (take base (drop from point)) - 0) (omega arith) ∙ sym (le-leb (length box) (length point - from) (omega arith)) in
    let o : leb (length box) (length (take base (drop from other)) - 0) ≡ leb (length box) (length other - from) =
    le-leb (length box) (length (take base (drop from other)) - 0) (omega arith) ∙ sym (le-leb (length box) (length other - from) (omega arith)) in
    let q = some_alike (length box) (outside_at box 0 scale (take base (drop from point)) (take base (drop from other))) (outside_at box from scale point other)
    (λ y h. ap₂ (outside (get_or box y nan) (get_or scale y nan)) (row_nth point from base y (omega arith)) (row_nth other from base y (omega arith))) in
    λ i. leb (length box) (length scale) && p i && o i && not (q i)

module _ (r : Reading) (l : LastDescriptor) (b : Lent) (f : Branching r l b) (n : ℕ) (at : n ≡ start r l b) (row : List Float) (is : row ≡ expected_row b.high b.low n r.base_dimension b.point b.median) where
  long : length (expected r l b) ≡ length b.point
  unfolding expected
  long = expected_length b.high b.low (start r l b) r.base_dimension b.point b.median

  row_part : row ≡ padded zero32 16 (take r.base_dimension (drop (start r l b) (expected r l b)))
  unfolding expected
  row_part = is ∙ ap (λ (m : ℕ). expected_row b.high b.low m r.base_dimension b.point b.median) at ∙ row_is_part b.high b.low (start r l b) r.base_dimension b.point b.median f.expecting

  part_long : length (take r.base_dimension (drop (start r l b) (expected r l b))) ≡ r.base_dimension
  part_long = let m = f.expecting.inside in let e = long in length-take-le r.base_dimension (drop (start r l b) (expected r l b)) (simp length-drop (omega arith))

  row_front : take r.base_dimension row ≡ take r.base_dimension (drop (start r l b) (expected r l b))
  row_front =
      let part : List Float = take r.base_dimension (drop (start r l b) (expected r l b)) in
      let wide = part_long in
      let most = f.base_most in
      ap (take r.base_dimension) row_part ∙ ap (λ (m : ℕ). take m (padded zero32 16 part)) (sym wide) ∙ take_padded zero32 16 part (omega arith)

  -- Within the box of the expected point.
  pub within_is : (u : List Float) (t : Bool) → length u ≡ r.base_dimension
      → t ≡ within_unertainty_box u 0 b.scale (take r.base_dimension (drop n b.point)) (take r.base_dimension row)
      → t ≡ within_unertainty_box u (start r l b) b.scale b.point (expected r l b)
  within_is u t wide q =
      let inside = f.expecting.inside in
      let e = long in
      q
      ∙ ap₂ (λ (m : ℕ) (x : List Float). within_unertainty_box u 0 b.scale (take r.base_dimension (drop m b.point)) x) at row_front
      ∙ within_rows u (start r l b) r.base_dimension b.scale b.point (expected r l b) wide inside (omega arith)

  -- Rows before the newest leave that alone.
  newest_kept : start r l b + r.base_dimension ≤ length b.point - r.base_dimension
      → drop (length b.point - r.base_dimension) (expected r l b) ≡ drop (length b.point - r.base_dimension) b.point
  unfolding expected
  newest_kept i =
      expected_keeps b.high b.low (start r l b) r.base_dimension b.point b.median (drop (length b.point - r.base_dimension))
      (λ xs j y h. drop-set-lt (length b.point - r.base_dimension) xs (start r l b + j) y (omega arith))

  -- The newest row is whole.
  newest_whole : (xs : List Float) → length xs ≡ length b.point
      → take r.base_dimension (drop (length b.point - r.base_dimension) xs) ≡ drop (length b.point - r.base_dimension) xs
  newest_whole xs e = let m = f.expecting.inside in take_all r.base_dimension (drop (length b.point - r.base_dimension) xs) (simp length-drop (omega arith))

  -- The newest row of the expected point.
  pub newest_is : (x : List Float)
      → x ≡ cond (eqb (n + r.base_dimension) (length b.point)) row (padded zero32 16 (take r.base_dimension (drop (length b.point - r.base_dimension) b.point)))
      → x ≡ newest_expected r l b
  unfolding newest_expected newest_of
  newest_is x h = h ∙ go f.apart
    where
      go : (start r l b + r.base_dimension ≡ length b.point) ⊎ (start r l b + r.base_dimension ≤ length b.point - r.base_dimension)
          → cond (eqb (n + r.base_dimension) (length b.point)) row (padded zero32 16 (take r.base_dimension (drop (length b.point - r.base_dimension) b.point)))
          ≡ padded zero32 16 (drop (length b.point - r.base_dimension) (expected r l b))
      go (inl e) =
          let ends : eqb (n + r.base_dimension) (length b.point) ≡ true = eq-eqb (n + r.base_dimension) (length b.point) (omega arith) in
          let begins : start r l b ≡ length b.point - r.base_dimension = omega arith in
          rw ends (row_part ∙ ap (λ (m : ℕ). padded zero32 16 (take r.base_dimension (drop m (expected r l b)))) begins ∙ ap (padded zero32 16) (newest_whole (expected r l b) long))
      go (inr i) =
          let some = f.expecting.some in
          let inside = f.expecting.inside in
          let ends : eqb (n + r.base_dimension) (length b.point) ≡ false = ne_eqb (n + r.base_dimension) (length b.point) (λ (q : n + r.base_dimension ≡ length b.point). omega arith) in
          rw ends (ap (padded zero32 16) (newest_whole b.point refl ∙ sym (newest_kept i)))
