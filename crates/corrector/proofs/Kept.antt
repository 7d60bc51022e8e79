-- For callers: what the expected and the corrected point keep of the point, and that sizes which fit are taken. Assumes nothing.
use Rattle.std.proofs.Common.{◌≡◌, ℕ, zero, suc, ◌+◌, ◌-◌, ◌*◌, ◌<◌, ◌≤◌, Bool, true, false, cond, not, ◌&&◌, ◌||◌, eqb, ltb, ◌⊎◌, List, [], ◌∷◌, length, get_or, set, ℤ, sym, refl, ◌∙◌, inl, inr, le_of_lt, mul-le-mul_right, arith, length-append, length-drop, length-set, get_or-set_other, ltb-true, lt-ltb, eq-eqb, le-leb, Ok, Err}
use lib.Ieee.{Float, nan}
use Rattle.types.specs.Refusals.{answered}
use Rattle.types.specs.declared.Refusal.TheVariants.{Range, Length}
use Rattle.descriptor.specs.Checks.{sizes_ok, dimension, last_points_ok}
use Rattle.attributors.specs.Attributors.{asked_indices, asked, missing}
use Rattle.attributors.proofs.Laws.{Within, asked_within, Row, row_fits_lem, asked_row}
use Rattle.corrector.specs.Corrector.{for_up_to, predicted, expected_point, expected_fits, trigger_fits, point_fits, corrector_fits, shifted, amended_row, amended, is_zero, apply_basic_corrector, newest_row_answer}
use Rattle.corrector.specs.Steps.{Expecting, Triggering, Accepted, Correcting}

-- What every step keeps, the loop keeps.
pub for_keeps : {A B : Type 0} (f : A → B) (step : A → ℕ → A) (a : A) (n : ℕ) → ((s : A) (i : ℕ) → i < n → f (step s i) ≡ f s) → f (for_up_to step a n) ≡ f a
unfolding for_up_to
for_keeps f step a zero h = refl
for_keeps f step a (suc n) h = h (for_up_to step a n) n (omega arith) ∙ for_keeps f step a n (λ s i l. h s i (omega arith))

-- What a store keeps, one that may not be made keeps.
cond_keeps : {A B : Type 0} (f : A → B) (t : Bool) (x y : A) → f x ≡ f y → f (cond t x y) ≡ f y
cond_keeps f true x y e = e
cond_keeps f false x y e = refl

module _ (high low : List Float) (position base : ℕ) (point median : List Float) where
  -- Whatever stores in the row at position keep is the point's in the expected point.
  pub expected_keeps : {B : Type 0} (f : List Float → B) → ((l : List Float) (i : ℕ) (x : Float) → i < base → f (set l (position + i) x) ≡ f l) → f (expected_point high low position base point median) ≡ f point
  unfolding expected_point predicted
  expected_keeps f h = over (asked_indices high low position base) point (asked_within high low position base)
    where
      over : (indices : List ℕ) (answer : List Float) → Within indices position (position + base) → f (predicted indices median answer) ≡ f answer
      over [] answer w = refl
      over (i ∷ indices) answer w =
          let here = w 0 (omega arith) in
          let x : Float = get_or median i nan in
          let at : position + (i - position) ≡ i = omega arith in
          over indices (set answer i x) (λ k l. w (suc k) (omega arith)) ∙ rw at at (h answer (i - position) x (omega arith))

  pub expected_length : length (expected_point high low position base point median) ≡ length point
  expected_length = expected_keeps length (λ l i x h. length-set l (position + i) x)

  -- Outside the row at position the expected point is the point.
  pub expected_outside : (j : ℕ) (d : Float) → (j < position) ⊎ (position + base ≤ j) → get_or (expected_point high low position base point median) j d ≡ get_or point j d
  expected_outside j d h = expected_keeps (λ (l : List Float). get_or l j d) (λ l i x b. get_or-set_other l (position + i) j x d (apart i b h))
    where
      apart : (i : ℕ) → i < base → (j < position) ⊎ (position + base ≤ j) → j ≡ position + i → ⊥
      apart i b (inl q) e = omega arith
      apart i b (inr q) e = omega arith

amended_length : (l expected anomalous : List Float) (gap base : ℕ) (u t : Bool) → length (amended l expected anomalous gap base u t) ≡ length l
unfolding amended amended_row
amended_length l expected anomalous gap base true t = for_keeps length _ l base (λ s i h. length-set s _ _)
amended_length l expected anomalous gap base false true = length-set l _ _
amended_length l expected anomalous gap base false false = refl

module _ (point expected anomalous : List Float) (gap shingle base : ℕ) (z : ℤ) (u t : Bool) where
  -- The corrected point is as long as the point.
  pub corrected_length : (h : Bool) → length point ≡ shingle * base → (h ≡ true → length expected ≡ length point) → length (apply_basic_corrector point gap shingle base h expected anomalous z u t) ≡ length point
  unfolding apply_basic_corrector shifted
  corrected_length h l e = by_gap (ltb shingle gap) h e
    where
      started : (b : Bool) → ltb gap shingle ≡ b → length expected ≡ length point → length (cond b (shifted point expected (gap * base)) point) ≡ length point
      started true q w =
          let m = mul-le-mul_right base (le_of_lt (ltb-true gap shingle q)) in
          simp (length-append, length-drop) (omega arith)
      started false q w = refl

      by_gap : (b h : Bool) → (h ≡ true → length expected ≡ length point)
          → length (cond (b || not h) point (cond (is_zero z) (amended (cond (ltb gap shingle) (shifted point expected (gap * base)) point) expected anomalous gap base u t) (cond (ltb gap shingle) (shifted point expected (gap * base)) point))) ≡ length point
      by_gap true h e = refl
      by_gap false false e = refl
      by_gap false true e =
          cond_keeps length (is_zero z) _ (cond (ltb gap shingle) (shifted point expected (gap * base)) point) (amended_length _ expected anomalous gap base u t)
          ∙ started (ltb gap shingle) refl (e refl)

row_in : (high low position base point median out : ℕ) → Expecting high low position base point median out → Row high low position base
row_in high low position base point median out f =
    let p = f.high_long in
    let l = f.low_long in
    record { low_long = l ∙ sym p; some = f.some; few = f.few; inside = omega arith }

-- What was asked for, of a row that fits.
pub asked_in : (high low : List Float) (position base point median out : ℕ) → Expecting (length high) (length low) position base point median out
    → asked high low position base ≡ missing (asked_indices high low position base)
asked_in high low position base point median out f = asked_row high low position base (row_in (length high) (length low) position base point median out f)

-- Sizes with these facts fit.
pub expects : (high low position base point median out : ℕ) → Expecting high low position base point median out → expected_fits high low position base point median out ≡ true
unfolding expected_fits
expects high low position base point median out f =
    let p = f.high_long in
    let m = f.median_long in
    let o = f.out_long in
    simp (row_fits_lem high low position base (row_in high low position base point median out f), eq-eqb _ _ (sym p), eq-eqb _ _ (m ∙ sym p), eq-eqb _ _ (o ∙ sym p))

pub triggers : (high low base ideal_high ideal_low : ℕ) → Triggering high low base ideal_high ideal_low → trigger_fits high low base ideal_high ideal_low ≡ true
unfolding trigger_fits
triggers high low base ideal_high ideal_low f =
    simp (eq-eqb _ _ f.low_long, eq-eqb _ _ f.ideal_high_long, eq-eqb _ _ f.ideal_low_long, le-leb _ _ f.short, lt-ltb _ _ f.some, le-leb _ _ f.few)

pub accepts : (shingle base len : ℕ) → Accepted shingle base len → point_fits shingle base len ≡ true
unfolding point_fits sizes_ok dimension
accepts shingle base len f =
    simp (le-leb _ _ f.some, le-leb _ _ f.few, le-leb _ _ f.wide, le-leb _ _ f.narrow, eq-eqb _ _ f.long)

pub corrects : (point gap shingle base : ℕ) (h : Bool) (expected anomalous out : ℕ) → Correcting point gap shingle base h expected anomalous out → corrector_fits point gap shingle base h expected anomalous out ≡ true
unfolding corrector_fits last_points_ok
corrects point gap shingle base true expected anomalous out f =
    simp (accepts _ _ _ f.sizes, lt-ltb _ _ f.later, eq-eqb _ _ f.out_long, eq-eqb _ _ (f.expected_long refl), eq-eqb _ _ (f.anomalous_long refl))
corrects point gap shingle base false expected anomalous out f = simp (accepts _ _ _ f.sizes, lt-ltb _ _ f.later, eq-eqb _ _ f.out_long)

-- A point whose answer is no refusal fits.
pub fits_answered : (shingle base len : ℕ) → answered (newest_row_answer shingle base len) ≡ 0 → point_fits shingle base len ≡ true
unfolding point_fits newest_row_answer
fits_answered shingle base len = by_tests (sizes_ok shingle base) (eqb len (dimension shingle base))
  where
    by_tests : (t u : Bool) → answered (cond t (cond u (Ok tt) (Err Length)) (Err Range)) ≡ 0 → (t && u) ≡ true
    by_tests true true h = refl
    by_tests true false h = absurd (omega arith)
    by_tests false u h = absurd (omega arith)
