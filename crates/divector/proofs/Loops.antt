-- Two loops: one that adds up a list, and one that writes a list over a slice, an element a turn. Assumes nothing.
use Rattle.std.proofs.Common.{◌≡◌, ℕ, zero, suc, ◌+◌, ◌<◌, ◌≤◌, List, [], ◌∷◌, ◌++◌, length, get_or, take, drop, set, sym, refl, ap, ◌∙◌, ap₂, append-nil, le_of_suc-le-suc, not-suc-le-zero, add-one, arith, length-set, drop_of_length-le, length-take-le, take_all, drop-cons, take-suc}
use lib.Seq.{append_snoc, set_at, get_or_at}
use lib.Ieee as Ieee
use lib.Ieee.{Float, binary64}
use Rattle.divector.specs.DiVector.{sum_from, scaled, zipped}

module _ (acc : Float) (xs : List Float) (i : ℕ) where
  pub sum_step : (d : Float) → i < length xs → sum_from acc (drop i xs) ≡ sum_from (Ieee.add binary64 acc (get_or xs i d)) (drop (i + 1) xs)
  unfolding sum_from
  sum_step d h = rw (add-one, drop-cons xs i d)

  pub sum_end : length xs ≤ i → sum_from acc (drop i xs) ≡ acc
  unfolding sum_from
  sum_end h = ap (sum_from acc) (drop_of_length-le xs h)

-- i elements of goal stand over the slice that was start.
pub record Half (start goal out : List Float) (i : ℕ) : Type 0 where
  pub within : i ≤ length start
  pub long : length out ≡ length start
  pub same : length goal ≡ length start
  pub so : out ≡ take i goal ++ drop i start

pub begin : (start goal : List Float) → length goal ≡ length start → Half start goal start 0
begin start goal e = record { within = omega arith; long = refl; same = e; so = refl }

module _ {start goal out : List Float} {i : ℕ} (h : Half start goal out i) where
  pub end : length start ≤ i → out ≡ goal
  end k = h.so ∙ ap₂ (λ (a b : List Float). a ++ b) (take_all i goal (omega arith)) (drop_of_length-le start k) ∙ append-nil goal

  -- what the loop reads is as it was
  pub read : (d : Float) → i < length start → get_or out i d ≡ get_or start i d
  read d k =
      rw (h.so, drop-cons start i d k)
      (get_or_at (take i goal) (get_or start i d) (drop (suc i) start) d i (length-take-le i goal (omega arith)))

  set_next : (d : Float) → i < length start → set (take i goal ++ drop i start) i (get_or goal i d) ≡ take (i + 1) goal ++ drop (i + 1) start
  set_next d k =
      rw (add-one, drop-cons start i d k, take-suc goal i d (omega arith), append_snoc)
      (set_at (take i goal) (get_or start i d) (drop (suc i) start) (get_or goal i d) i (length-take-le i goal (omega arith)))

  pub next : (d v : Float) → i < length start → v ≡ get_or goal i d → Half start goal (set out i v) (i + 1)
  next d v k e = record {
    within = omega arith;
    long = simp length-set h.long;
    same = h.same;
    so = ap₂ (λ (l : List Float) (x : Float). set l i x) h.so e ∙ set_next d k;
  }

pub zip_at : (f : Float → Float → Float) (xs ys : List Float) (i : ℕ) (d : Float) → i < length xs → i < length ys → get_or (zipped f xs ys) i d ≡ f (get_or xs i d) (get_or ys i d)
unfolding zipped
zip_at f [] ys i d h k = absurd (not-suc-le-zero h)
zip_at f (x ∷ xs) [] i d h k = absurd (not-suc-le-zero k)
zip_at f (x ∷ xs) (y ∷ ys) zero d h k = refl
zip_at f (x ∷ xs) (y ∷ ys) (suc i) d h k = zip_at f xs ys i d (le_of_suc-le-suc h) (le_of_suc-le-suc k)

-- x = f x y
pub zip_next : (f : Float → Float → Float) (ys : List Float) {start out : List Float} {i : ℕ} → Half start (zipped f start ys) out i → (d : Float) → i < length start → i < length ys
    → Half start (zipped f start ys) (set out i (f (get_or out i d) (get_or ys i d))) (i + 1)
zip_next f ys {start} {i = i} h d k l = next h d _ k (ap (λ (x : Float). f x (get_or ys i d)) (read h d k) ∙ sym (zip_at f start ys i d k l))

-- x = y
pub taken_over : (xs ys : List Float) → length xs ≡ length ys → zipped (λ (x y : Float). y) xs ys ≡ ys
unfolding zipped
taken_over [] [] e = refl
taken_over [] (y ∷ ys) e = absurd (omega arith)
taken_over (x ∷ xs) [] e = absurd (omega arith)
taken_over (x ∷ xs) (y ∷ ys) e = ap (λ (l : List Float). y ∷ l) (taken_over xs ys (omega arith))

-- x = y * factor
pub scaled_over : (factor : Float) (xs ys : List Float) → length xs ≡ length ys → zipped (λ (x y : Float). Ieee.mul binary64 y factor) xs ys ≡ scaled factor ys
unfolding zipped scaled
scaled_over factor [] [] e = refl
scaled_over factor [] (y ∷ ys) e = absurd (omega arith)
scaled_over factor (x ∷ xs) [] e = absurd (omega arith)
scaled_over factor (x ∷ xs) (y ∷ ys) e = ap (λ (l : List Float). Ieee.mul binary64 y factor ∷ l) (scaled_over factor xs ys (omega arith))
