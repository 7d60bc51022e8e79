-- What loops and callers cite: a turn of a loop and its end, copies, what a test that held says. Assumes nothing.
use Rattle.std.proofs.Common.{◌≡◌, ℕ, zero, suc, ◌+◌, ◌-◌, ◌*◌, ◌<◌, ◌≤◌, Bool, true, false, cond, ◌||◌, eqb, ltb, List, [], ◌++◌, length, get_or, take, drop, set, ℤ, pos, negsuc, sym, refl, ap, ◌∙◌, ap₂, inl, inr, append-nil, suc-mul, eq-or-lt_of_le, add-one, arith, length-drop, length-take-le, drop-cons, take-suc, drop_of_length-le, take_at, take_all, w32, SFits, to_z, of_z, ltb-true, le-ltb, lt-ltb, ne_eqb, eqb-true, leb-true}
use lib.Seq.{append_snoc, set_at, drop-length, take-nil}
use lib.Ieee.{Float}
use mir.ValLaws.{to_z-of_z}
use Rattle.descriptor.specs.Checks.{sizes_ok, dimension}
use Rattle.descriptor.proofs.Bounds.{sizes, dimension_is, base_inside, last_points}
use Rattle.attributors.proofs.Laws.{both, row_of}
use Rattle.corrector.specs.Corrector.{is_zero, expected_fits, trigger_fits, point_fits, corrector_fits, shifted, newest_row}
use Rattle.corrector.specs.Steps.{Expecting, Triggering, Accepted, Correcting}

module _ {A : Type 0} where
  -- A turn of the loop that copies a list over one of its length.
  pub copy_more : (out from : List A) (k : ℕ) (z : A) → k < length out → k < length from
      → set (take k from ++ drop k out) k (get_or from k z) ≡ take (k + 1) from ++ drop (k + 1) out
  copy_more out from k z h e =
      rw (add-one, drop-cons out k z h, take-suc from k z e, append_snoc)
      (set_at (take k from) (get_or out k z) (drop (suc k) out) (get_or from k z) k (length-take-le k from (omega arith)))

-- A row's width, and the rows before the last of `gap`, within all of them.
pub rows : (gap base : ℕ) → 0 < gap → (gap - 1) * base + base ≡ gap * base
rows zero base h = absurd (omega arith)
rows (suc g) base h = ap (λ (k : ℕ). k * base + base) (let e : suc g - 1 ≡ g = omega arith in e) ∙ sym (suc-mul g base)

-- The test of a signed index against 0, by the number that stands for it.
pub zero_is : (z : ℤ) → SFits w32 z → of_z w32 z ≡ 0 → is_zero z ≡ true
zero_is z f e = ap is_zero (sym (to_z-of_z w32 z f) ∙ ap (to_z w32) e)

pub nonzero_is : (z : ℤ) → (of_z w32 z ≡ 0 → ⊥) → is_zero z ≡ false
nonzero_is (pos n) h = ne_eqb n 0 (λ e. h (ap (λ (m : ℕ). of_z w32 (pos m)) e))
nonzero_is (negsuc n) h = refl

pub or_true : (t : Bool) → (t || true) ≡ true
or_true true = refl
or_true false = refl

pub expecting : (high low position base point median out : ℕ) → expected_fits high low position base point median out ≡ true → Expecting high low position base point median out
unfolding expected_fits
expecting high low position base point median out e =
    let a = both _ _ e in
    let r = row_of high low position base a.0 in
    let b = both _ _ a.1 in
    let c = both _ _ b.1 in
    let p = eqb-true _ _ b.0 in
    let m = eqb-true _ _ c.0 in
    let o = eqb-true _ _ c.1 in
    record {
      high_long = sym p;
      low_long = r.low_long ∙ sym p;
      median_long = m ∙ sym p;
      out_long = o ∙ sym p;
      some = r.some;
      few = r.few;
      inside = omega arith;
    }

pub triggering : (high low base ideal_high ideal_low : ℕ) → trigger_fits high low base ideal_high ideal_low ≡ true → Triggering high low base ideal_high ideal_low
unfolding trigger_fits
triggering high low base ideal_high ideal_low e =
    let a = both _ _ e in
    let b = both _ _ a.1 in
    let c = both _ _ b.1 in
    let d = both _ _ c.1 in
    let f = both _ _ d.1 in
    record {
      low_long = eqb-true _ _ a.0;
      ideal_high_long = eqb-true _ _ b.0;
      ideal_low_long = eqb-true _ _ c.0;
      short = leb-true _ _ d.0;
      some = ltb-true _ _ f.0;
      few = leb-true _ _ f.1;
    }

-- What a point that fits says of its sizes.
pub accepted : (shingle base len : ℕ) → point_fits shingle base len ≡ true → Accepted shingle base len
unfolding point_fits
accepted s b n h =
    let a = both (sizes_ok s b) (eqb n (dimension s b)) h in
    let z = sizes s b a.0 in
    record {
      some = z.shingle_least;
      few = z.shingle_most;
      wide = z.base_least;
      narrow = z.base_most;
      long = eqb-true n (dimension s b) a.1 ∙ dimension_is s b a.0;
    }

pub base_within : (s b n : ℕ) → Accepted s b n → b ≤ n
base_within s b n a = rw a.long (base_inside s b a.some)

pub correcting : (point gap shingle base : ℕ) (h : Bool) (expected anomalous out : ℕ) → corrector_fits point gap shingle base h expected anomalous out ≡ true → Correcting point gap shingle base h expected anomalous out
unfolding corrector_fits
correcting point gap shingle base h expected anomalous out e =
    let a = both _ _ e in
    let b = both _ _ a.1 in
    let c = both _ _ b.1 in
    record {
      sizes = accepted shingle base point a.0;
      later = ltb-true _ _ b.0;
      out_long = eqb-true _ _ c.0;
      expected_long = λ t. (last_points h point expected anomalous c.1 t).0;
      anomalous_long = λ t. (last_points h point expected anomalous c.1 t).1;
    }

module _ (point expected : List Float) (shift : ℕ) (within : shift ≤ length point) (same : length expected ≡ length point) where
  -- Two copies make the shifted point.
  pub shifted_is : (out first second : List Float) → length out ≡ length point → first ≡ take (length expected - shift) (drop shift expected)
      → second ≡ take (length point - (length point - shift)) (drop (length point - shift) point)
      → take (length point - shift) (first ++ drop (length point - shift) out)
      ++ (second ++ drop (length (first ++ drop (length point - shift) out) - (length point - shift)) (drop (length point - shift) (first ++ drop (length point - shift) out)))
      ≡ shifted point expected shift
  unfolding shifted
  shifted_is out first second l e₁ e₂ =
      let kept : ℕ = length point - shift in
      let f : first ≡ drop shift expected = e₁ ∙ take_all _ (drop shift expected) (simp length-drop (omega arith)) in
      let s : second ≡ drop kept point = e₂ ∙ take_all _ (drop kept point) (simp length-drop (omega arith)) in
      let long : length first ≡ kept = ap length f ∙ simp length-drop (omega arith) in
      let head : take kept (first ++ drop kept out) ≡ first = take_at first (drop kept out) kept long in
      let none : drop (length (first ++ drop kept out) - kept) (drop kept (first ++ drop kept out)) ≡ [] = drop_of_length-le (drop kept (first ++ drop kept out)) {i = length (first ++ drop kept out) - kept} (simp length-drop (omega arith)) in
      rw (head, none, append-nil) (ap₂ (λ (a b : List Float). a ++ b) f s)

-- With a gap of the whole shingle nothing is shifted.
pub start_is : (point expected : List Float) (gap shingle base : ℕ) → length expected ≡ length point → length point ≡ shingle * base → gap ≤ shingle
    → cond (ltb gap shingle) (shifted point expected (gap * base)) point ≡ shifted point expected (gap * base)
unfolding shifted
start_is point expected gap shingle base same long h =
    elim (eq-or-lt_of_le h) [
      | inl q ↦
          let whole : gap * base ≡ length point = ap (λ (g : ℕ). g * base) q ∙ sym long in
          let none : length point - gap * base ≡ 0 = omega arith in
          simp (le-ltb gap shingle (omega arith), drop_of_length-le expected {i = gap * base} (omega arith), none)
      | inr q ↦ simp (lt-ltb gap shingle q)
    ]

module _ (point : List Float) (shingle base : ℕ) where
  -- The part that is the newest row, and the one that is nothing.
  pub row_is : point_fits shingle base (length point) ≡ true
      → take (length point - (length point - base)) (drop (length point - base) point) ≡ newest_row point shingle base
  unfolding newest_row
  row_is h = simp h (take_all (length point - (length point - base)) (drop (length point - base) point) (simp length-drop (omega arith)))

  pub none_is : point_fits shingle base (length point) ≡ false
      → take (length point - length point) (drop (length point) point) ≡ newest_row point shingle base
  unfolding newest_row
  none_is h = simp (drop-length, take-nil, h)
