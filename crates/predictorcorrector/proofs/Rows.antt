-- One step more of `stepped` and `changed`, as a loop takes it: a store at the next place. Lengths stay, and each element is changed on its own. What a row that fits
-- gives. Assumes nothing.
use Rattle.std.proofs.Common.{◌≡◌, ℕ, zero, suc, ◌+◌, ◌-◌, ◌<◌, ◌≤◌, Bool, true, false, cond, ◌&&◌, leb, List, [], ◌∷◌, ◌++◌, length, get_or, take, drop, set, replicate, sym, refl, ap, ◌∙◌, ap₂, true≢false, le_of_suc-le-suc, not-suc-le-zero, add-one, arith, drop-cons, le-leb, leb-true}
use lib.Ieee.{Float}
use Rattle.std.specs.List.{list_all}
use Rattle.deviation.specs.Const.{count_limit}
use Rattle.deviation.specs.Statistics.{countable}
use Rattle.deviation.specs.declared.Deviation.{Deviation}
use Rattle.basicthresholder.specs.Updates.{counts_ok}
use Rattle.predictorcorrector.specs.Lists.{stepped, changed, first_countable, row_fits, list_countable}
use Rattle.predictorcorrector.specs.State.{existing, state_counts_ok}
use Rattle.predictorcorrector.specs.declared.PredictorCorrector.{PredictorCorrector}

module _ {A : Type 0} (f : A → Float → A) where
  pub stepped_length : (n : ℕ) (ds : List A) (xs : List Float) → length (stepped f n ds xs) ≡ length ds
  unfolding stepped
  stepped_length zero ds xs = refl
  stepped_length (suc n) [] xs = refl
  stepped_length (suc n) (d ∷ ds) [] = refl
  stepped_length (suc n) (d ∷ ds) (x ∷ xs) = ap suc (stepped_length n ds xs)

  stepped_next : (n : ℕ) (ds : List A) (xs : List Float) (d₀ : A) (x₀ : Float) → n < length ds → n < length xs
      → set (stepped f n ds xs) n (f (get_or (stepped f n ds xs) n d₀) (get_or xs n x₀)) ≡ stepped f (suc n) ds xs
  unfolding stepped
  stepped_next n [] xs d₀ x₀ h k = absurd (not-suc-le-zero h)
  stepped_next n (d ∷ ds) [] d₀ x₀ h k = absurd (not-suc-le-zero k)
  stepped_next zero (d ∷ ds) (x ∷ xs) d₀ x₀ h k = refl
  stepped_next (suc n) (d ∷ ds) (x ∷ xs) d₀ x₀ h k =
      ap (λ (l : List A). f d x ∷ l) (stepped_next n ds xs d₀ x₀ (le_of_suc-le-suc h) (le_of_suc-le-suc k))

  pub stepped_at : (d₀ : A) (x₀ : Float) (n i : ℕ) (ds : List A) (xs : List Float) → i < n → i < length ds → i < length xs → get_or (stepped f n ds xs) i d₀ ≡ f (get_or ds i d₀) (get_or xs i x₀)
  unfolding stepped
  stepped_at d₀ x₀ zero i ds xs h k m = absurd (not-suc-le-zero h)
  stepped_at d₀ x₀ (suc n) i [] xs h k m = absurd (not-suc-le-zero k)
  stepped_at d₀ x₀ (suc n) i (d ∷ ds) [] h k m = absurd (not-suc-le-zero m)
  stepped_at d₀ x₀ (suc n) zero (d ∷ ds) (x ∷ xs) h k m = refl
  stepped_at d₀ x₀ (suc n) (suc i) (d ∷ ds) (x ∷ xs) h k m = stepped_at d₀ x₀ n i ds xs (le_of_suc-le-suc h) (le_of_suc-le-suc k) (le_of_suc-le-suc m)

  -- r is what the code computes at place i from the element there and the row's number x.
  pub stepped_more : (i : ℕ) (ds out : List A) (xs : List Float) (d₀ r : A) (x x₀ : Float) → out ≡ stepped f i ds xs → x ≡ get_or xs i x₀
      → r ≡ f (get_or out i d₀) x → i < length ds → i < length xs → set out i r ≡ stepped f (i + 1) ds xs
  stepped_more i ds out xs d₀ r x x₀ eo ex er h k =
      ap (set out i) (er ∙ ap (f (get_or out i d₀)) ex)
      ∙ ap (λ (l : List A). set l i (f (get_or l i d₀) (get_or xs i x₀))) eo
      ∙ stepped_next i ds xs d₀ x₀ h k
      ∙ ap (λ (n : ℕ). stepped f n ds xs) (sym (add-one i))

module _ {A : Type 0} (f : A → A) where
  pub changed_length : (n : ℕ) (ds : List A) → length (changed f n ds) ≡ length ds
  unfolding changed
  changed_length zero ds = refl
  changed_length (suc n) [] = refl
  changed_length (suc n) (d ∷ ds) = ap suc (changed_length n ds)

  changed_next : (n : ℕ) (ds : List A) (d₀ : A) → n < length ds → set (changed f n ds) n (f (get_or (changed f n ds) n d₀)) ≡ changed f (suc n) ds
  unfolding changed
  changed_next n [] d₀ h = absurd (not-suc-le-zero h)
  changed_next zero (d ∷ ds) d₀ h = refl
  changed_next (suc n) (d ∷ ds) d₀ h = ap (λ (l : List A). f d ∷ l) (changed_next n ds d₀ (le_of_suc-le-suc h))

  pub changed_at : (d₀ : A) (n i : ℕ) (ds : List A) → i < n → i < length ds → get_or (changed f n ds) i d₀ ≡ f (get_or ds i d₀)
  unfolding changed
  changed_at d₀ zero i ds h k = absurd (not-suc-le-zero h)
  changed_at d₀ (suc n) i [] h k = absurd (not-suc-le-zero k)
  changed_at d₀ (suc n) zero (d ∷ ds) h k = refl
  changed_at d₀ (suc n) (suc i) (d ∷ ds) h k = changed_at d₀ n i ds (le_of_suc-le-suc h) (le_of_suc-le-suc k)

  pub changed_front : (n : ℕ) (ds : List A) → changed f n (take n ds) ++ drop n ds ≡ changed f n ds
  unfolding changed
  changed_front zero ds = refl
  changed_front (suc n) [] = refl
  changed_front (suc n) (d ∷ ds) = ap (λ (l : List A). f d ∷ l) (changed_front n ds)

  pub changed_more : (i : ℕ) (ds out : List A) (d₀ r : A) → out ≡ changed f i ds → r ≡ f (get_or out i d₀) → i < length ds → set out i r ≡ changed f (i + 1) ds
  changed_more i ds out d₀ r eo er h =
      ap (set out i) er
      ∙ ap (λ (l : List A). set l i (f (get_or l i d₀))) eo
      ∙ changed_next i ds d₀ h
      ∙ ap (λ (n : ℕ). changed f n ds) (sym (add-one i))

-- The first n elements x, before the rest.
pub changed_to : {A : Type 0} (x : A) (n : ℕ) (ds : List A) → n ≤ length ds → replicate n x ++ drop n ds ≡ changed (λ (old : A). x) n ds
unfolding changed
changed_to x zero ds h = refl
changed_to x (suc n) [] h = absurd (not-suc-le-zero h)
changed_to x (suc n) (d ∷ ds) h = ap (λ (l : List _). x ∷ l) (changed_to x n ds (le_of_suc-le-suc h))

pub first_all : (n : ℕ) (ds : List Deviation) → list_all (λ (d : Deviation). countable d.count) (take n ds) ≡ first_countable n ds
unfolding first_countable
first_all zero ds = refl
first_all (suc n) [] = refl
first_all (suc n) (d ∷ ds) = ap (λ (b : Bool). countable d.count && b) (first_all n ds)

one_less : (n i : ℕ) → i < n → n - i ≡ suc (n - (i + 1))
one_less n i h = let e : n - i ≡ n - (i + 1) + 1 = omega arith in e ∙ add-one (n - (i + 1))

-- What is left of the counts' test at place i.
pub countable_next : (n i : ℕ) (ds : List Deviation) (d₀ : Deviation) → i < n → i < length ds
    → first_countable (n - i) (drop i ds) ≡ (countable (get_or ds i d₀).count && first_countable (n - (i + 1)) (drop (i + 1) ds))
unfolding first_countable
countable_next n i ds d₀ h k = ap₂ first_countable (one_less n i h) (drop-cons ds i d₀ k ∙ ap (λ (m : ℕ). get_or ds i d₀ ∷ drop m ds) (sym (add-one i)))

pub countable_end : (n i : ℕ) (ds : List Deviation) → n ≤ i → first_countable (n - i) (drop i ds) ≡ true
unfolding first_countable
countable_end n i ds h = let e : n - i ≡ 0 = omega arith in ap (λ (m : ℕ). first_countable m (drop i ds)) e

pub both : (a b : Bool) → (a && b) ≡ true → (a ≡ true) × (b ≡ true)
both true b e = (refl, e)
both false b e = absurd (true≢false (sym e))

-- Three tests of which the code joins the first two.
pub none_left : (a b c : Bool) → (a && b) ≡ false → false ≡ (a && (b && c))
none_left true b c e = ap (λ (x : Bool). x && c) (sym e)
none_left false b c e = refl

-- The list and the row have room for n.
pub fits_within : (n : ℕ) (ds : List Deviation) (row : List Float) → row_fits n ds row ≡ true → (n ≤ 16) × (n ≤ length row)
unfolding row_fits
fits_within n ds row e =
    let t = both (leb n 16) _ e in
    (leb-true n 16 t.0, leb-true n (length row) (both (leb n (length row)) _ t.1).0)

pub row_fits_lem : (n : ℕ) (ds : List Deviation) (row : List Float) → n ≤ 16 → n ≤ length row → first_countable n ds ≡ true → row_fits n ds row ≡ true
unfolding row_fits
row_fits_lem n ds row few wide e = rw (le-leb n 16 few, le-leb n (length row) wide, e)

-- The thresholder's part of refusal 6's test.
pub thresholder_ok : (s : PredictorCorrector) → state_counts_ok s ≡ true → counts_ok s.basic_thresholder ≡ true
unfolding state_counts_ok
thresholder_ok s e = (both (counts_ok s.basic_thresholder) _ (both (leb s.run_length count_limit) _ e).1).0

-- The lists' part, of a state with auto adjust.
pub lists_ok : (s : PredictorCorrector) → state_counts_ok s ≡ true → s.base_dimension ≤ 16 → s.auto_adjust ≡ true
    → (first_countable s.base_dimension s.deviations_actual ≡ true) × (first_countable s.base_dimension s.deviations_expected ≡ true)
unfolding state_counts_ok list_countable
lists_ok s e few h =
    let t = (both (counts_ok s.basic_thresholder) _ (both (leb s.run_length count_limit) _ e).1).1 in
    let n : cond (leb (existing s.auto_adjust s.base_dimension) 16) (existing s.auto_adjust s.base_dimension) 16 ≡ s.base_dimension = rw (h, le-leb s.base_dimension 16 few) in
    both _ _ (ap₂ ◌&&◌ (ap (λ (m : ℕ). first_countable m s.deviations_actual) (sym n)) (ap (λ (m : ℕ). first_countable m s.deviations_expected) (sym n)) ∙ t)

pub base_most : (n : ℕ) → (leb 1 n && leb n 16) ≡ true → n ≤ 16
base_most n e = leb-true n 16 (both (leb 1 n) (leb n 16) e).1
