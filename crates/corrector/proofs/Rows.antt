-- The row of the expected point: how it is made, and that the point with it in its place is the expected point. Assumes nothing.
use Rattle.std.proofs.Common.{◌≡◌, ℕ, zero, suc, ◌+◌, ◌-◌, ◌<◌, ◌≤◌, Bool, true, false, cond, List, [], ◌∷◌, ◌++◌, length, get_or, take, drop, set, sym, refl, ap, ◌∙◌, ap₂, arith, length-drop, length-set, take-append-drop, length-take, length-take-le, drop-set-lt, take-add}
use lib.Seq.{paste, take-set-lt, take-set-le, drop-set-add}
use lib.Ieee.{Float, nan}
use Rattle.ieee.specs.F32.{zero32}
use Rattle.attributors.specs.Attributors.{asked_indices, missing, padded, row_fits}
use Rattle.attributors.specs.declared.Missing.{Missing}
use Rattle.attributors.proofs.Laws.{Within, padded_set, take_padded, get_d_padded, count_is, asked_few, asked_within, Row, row_fits_lem}
use Rattle.corrector.specs.Corrector.{predicted, expected_point, row_at, expected_row, write_row}
use Rattle.corrector.specs.Steps.{Missed, predicted_row, Expecting}
use Rattle.corrector.proofs.Kept.{expected_keeps, expects}

-- A row of a point, in 16 places.
abbrev pub row_of : ℕ → ℕ → List Float → List Float
row_of start base point = padded zero32 16 (take base (drop start point))

-- A list over the places before those that pad it.
pub padded_over : {A : Type 0} (z : A) (n : ℕ) (xs : List A) → length xs ≤ n → xs ++ drop (length xs) (padded z n []) ≡ padded z n xs
unfolding padded
padded_over z n [] h = refl
padded_over z zero (x ∷ xs) h = absurd (omega arith)
padded_over z (suc n) (x ∷ xs) h = ap (λ l. x ∷ l) (padded_over z n xs (omega arith))

-- A row that lies in the point, or one of no coordinates.
pub row_at_is : (point : List Float) (start base : ℕ) → base ≤ 16 → start + base ≤ length point → row_at point start base ≡ row_of start base point
unfolding row_at
row_at_is point start zero few inside = none (row_fits (length point) (length point) start zero)
  where
    none : (b : Bool) → padded zero32 16 (cond b [] []) ≡ padded zero32 16 []
    none true = refl
    none false = refl
row_at_is point start (suc n) few inside =
    rw (row_fits_lem (length point) (length point) start (suc n) (record { low_long = refl; some = omega arith; few = few; inside = inside })) refl

-- A store in the row of a point is the row of the point after it.
stored : (point : List Float) (start base i : ℕ) (x : Float) → start + base ≤ length point → start ≤ i → i < start + base
    → set (row_of start base point) (i - start) x ≡ row_of start base (set point i x)
stored point start base i x h from below =
    let l : List Float = drop start point in
    let j : ℕ = i - start in
    let at : start + j ≡ i = omega arith in
    let inside : j < length (take base l) = simp (length-take, length-drop) (omega arith) in
    padded_set zero32 16 (take base l) j x inside
    ∙ ap (padded zero32 16) (sym (take-set-lt base l j x (omega arith)) ∙ ap (take base) (sym (drop-set-add start point j x)))
    ∙ ap (λ (n : ℕ). row_of start base (set point n x)) at

-- The row with the predictions is the row of the point with them.
pub predicted_row_lem : (start base : ℕ) (indices : List ℕ) (prediction point : List Float) → start + base ≤ length point → Within indices start (start + base)
    → predicted_row start indices prediction (row_of start base point) ≡ row_of start base (predicted indices prediction point)
unfolding predicted_row predicted
predicted_row_lem start base [] prediction point h w = refl
predicted_row_lem start base (i ∷ indices) prediction point h w =
    let here = w 0 (omega arith) in
    let next : List Float = set point i (get_or prediction i nan) in
    ap (predicted_row start indices prediction) (stored point start base i (get_or prediction i nan) h here.0 here.1)
    ∙ predicted_row_lem start base indices prediction next (rw length-set h) (λ k l. w (suc k) (omega arith))

module _ (high low : List Float) (start base : ℕ) (m : Missing) (e : m ≡ missing (asked_indices high low start base)) where
  indices_are : m.indices ≡ padded 0 5 (asked_indices high low start base)
  unfolding missing
  indices_are = ap (λ (n : Missing). n.indices) e

  -- The indices that were asked for lie in the row.
  pub missed : (len : ℕ) → base ≤ 16 → start + base ≤ len → Missed m start len
  missed len h inside =
      let few = asked_few high low start base in
      let n = count_is m (asked_indices high low start base) e in
      let at : (k : ℕ) → k < m.count → get_or m.indices k 0 ≡ get_or (asked_indices high low start base) k 0 =
      λ k l. ap (λ (is : List ℕ). get_or is k 0) indices_are ∙ get_d_padded 0 5 (asked_indices high low start base) k (omega arith) in
      let w : (k : ℕ) → k < m.count → (start ≤ get_or (asked_indices high low start base) k 0) × (get_or (asked_indices high low start base) k 0 < start + base) =
      λ k l. asked_within high low start base k (omega arith) in
      record {
        few = omega arith;
        from = λ k l. rw (at k l) (w k l).0;
        near = λ k l. rw (at k l) (let b = (w k l).1 in omega arith);
        inside = λ k l. rw (at k l) (let b = (w k l).1 in omega arith);
      }

  -- The first `count` of them are all.
  pub all_are : take m.count m.indices ≡ asked_indices high low start base
  all_are =
      ap₂ (λ (n : ℕ) (is : List ℕ). take n is) (count_is m (asked_indices high low start base) e) indices_are
      ∙ take_padded 0 5 (asked_indices high low start base) (asked_few high low start base)

  -- What predicting in the point's row makes.
  pub row_expected : (point median row : List Float) → start + base ≤ length point → row ≡ row_of start base point
      → predicted_row start (take m.count m.indices) median row ≡ row_of start base (expected_point high low start base point median)
  unfolding expected_point
  row_expected point median row h r =
      ap₂ (λ (is : List ℕ) (l : List Float). predicted_row start is median l) all_are r
      ∙ predicted_row_lem start base (asked_indices high low start base) median point h (asked_within high low start base)

-- The point with the expected row in its place is the expected point.
pub pasted : (high low : List Float) (start base : ℕ) (point median : List Float) → start + base ≤ length point → base ≤ 16
    → paste point start (row_of start base (expected_point high low start base point median)) base ≡ expected_point high low start base point median
pasted high low start base point median h few =
    let whole : List Float = expected_point high low start base point median in
    let long : length whole ≡ length point = expected_keeps high low start base point median length (λ l i x b. length-set l (start + i) x) in
    let before : take start whole ≡ take start point = expected_keeps high low start base point median (take start) (λ l i x b. take-set-le start l (start + i) x (omega arith)) in
    let behind : drop (start + base) whole ≡ drop (start + base) point =
    expected_keeps high low start base point median (drop (start + base)) (λ l i x b. drop-set-lt (start + base) l (start + i) x (omega arith)) in
    let part : List Float = take base (drop start whole) in
    let wide : length part ≡ base = length-take-le base (drop start whole) (simp length-drop (omega arith)) in
    let row : take base (padded zero32 16 part) ≡ part = ap (λ (n : ℕ). take n (padded zero32 16 part)) (sym wide) ∙ take_padded zero32 16 part (omega arith) in
    simp (sym before, sym behind, row) (ap (λ (l : List Float). l ++ drop (start + base) whole) (sym (take-add start base whole)) ∙ take-append-drop (start + base) whole)

module _ (high low : List Float) (start base : ℕ) (point median : List Float) where
  -- Where everything fits, the call's row is a part of the expected point.
  pub row_is_part : Expecting (length high) (length low) start base (length point) (length median) (length point)
      → expected_row high low start base point median ≡ row_of start base (expected_point high low start base point median)
  unfolding expected_row
  row_is_part f = rw (expects (length high) (length low) start base (length point) (length median) (length point) f)

  -- Written into the point, it makes the expected point.
  pub written_row : (out : List Float) → Expecting (length high) (length low) start base (length point) (length median) (length out)
      → write_row point start base (expected_row high low start base point median) out ≡ expected_point high low start base point median
  unfolding write_row
  written_row out f =
      let h = f.high_long in
      let l = f.low_long in
      let m = f.median_long in
      let o = f.out_long in
      let g : Expecting (length high) (length low) start base (length point) (length median) (length point) =
      record { high_long = h; low_long = l; median_long = m; out_long = refl; some = f.some; few = f.few; inside = f.inside } in
      let r : Row (length point) (length out) start base = record { low_long = o; some = f.some; few = f.few; inside = f.inside } in
      rw (row_fits_lem (length point) (length out) start base r, row_is_part g) (pasted high low start base point median f.inside f.few)
