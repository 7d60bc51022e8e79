-- A loop's step for each of `some`, `count` and `listed`, for any function of the place, and how many places a scan for `some` reads. Assumes nothing.
use Rattle.std.proofs.Common.{◌≡◌, ℕ, zero, suc, ◌+◌, ◌-◌, ◌<◌, ◌≤◌, Bool, true, false, cond, ◌||◌, eqb, List, [], ◌∷◌, ◌++◌, length, get_or, take, set, sym, refl, ap, ◌∙◌, ap₂, ⊎_elim, le_of_suc-le-suc, not-suc-le-zero, eq-or-lt_of_le, add-one, arith, length-append, take-suc-set}
use mathlib.Core.Bool.{or-true}
use lib.ListN.{get_or-append}
use lib.Seq.{get_or_at}
use lib.Ieee.{Float}
use Rattle.scan.specs.Read.{read_until}
use Rattle.scan.proofs.Laws.{laws, read_first, read_at}
use Rattle.uncertainty_box.specs.Scan.{some, count, listed}

or_left : (a b : Bool) → (a || b) ≡ false → a ≡ false
or_left true b e = e
or_left false b e = refl

or_right : (a b : Bool) → (a || b) ≡ false → b ≡ false
or_right true b e = cc
or_right false b e = e

module _ (f : ℕ → Bool) where
  -- A place where f holds settles it, whatever the other places are.
  pub some_at : (n y : ℕ) → y < n → f y ≡ true → some n f ≡ true
  unfolding some
  some_at zero y h e = absurd (not-suc-le-zero h)
  some_at (suc n) y h e = ⊎_elim
      (λ q. ap (λ (b : Bool). some n f || b) (sym (ap f q) ∙ e) ∙ or-true (some n f))
      (λ l. ap (λ (b : Bool). b || f n) (some_at n y l e))
      (eq-or-lt_of_le (le_of_suc-le-suc h))

  -- One place more where it does not hold.
  pub some_not : (y : ℕ) → some y f ≡ false → f y ≡ false → some (y + 1) f ≡ false
  unfolding some
  some_not y e h = rw (add-one, e, h)

  some_none : (n : ℕ) → some n f ≡ false → (i : ℕ) → i < n → f i ≡ false
  unfolding some
  some_none zero e i h = absurd (not-suc-le-zero h)
  some_none (suc n) e i h = ⊎_elim
      (λ q. ap f q ∙ or_right (some n f) (f n) e)
      (λ l. some_none n (or_left (some n f) (f n) e) i l)
      (eq-or-lt_of_le (le_of_suc-le-suc h))

  -- A scan that has met no hit before place y and meets one there reads as many as one whose only hit is y.
  pub read_here : (n y : ℕ) → y < n → some y f ≡ false → f y ≡ true → read_until n (eqb y) ≡ read_until n f
  read_here n y h none e = read_at n y h ∙ sym (read_first n f y h (some_none y none) e)

  -- One that meets none reads all.
  pub read_all : (n : ℕ) → some n f ≡ false → read_until n f ≡ n
  read_all n e = (laws n f).all (some_none n e)

  pub count_next : (k w r : ℕ) (b : Bool) → w ≡ count k f → b ≡ f k → r ≡ cond b (w + 1) w → r ≡ count (k + 1) f
  unfolding count
  count_next k w r b ew eb er = er ∙ ap₂ (λ (t : Bool) (n : ℕ). cond t (n + 1) n) eb ew ∙ ap (λ (n : ℕ). count n f) (sym (add-one k))

  pub count_le : (n : ℕ) → count n f ≤ n
  unfolding count
  count_le zero = omega arith
  count_le (suc n) = bumped (f n) (count n f) n (count_le n)
    where
      bumped : (b : Bool) (w n : ℕ) → w ≤ n → cond b (w + 1) w ≤ suc n
      bumped true w n h = omega arith
      bumped false w n h = omega arith

-- The scan that stops at the first place where f holds.
unfoldable early : ℕ → (ℕ → Bool) → Bool
early zero f = false
early (suc n) f = cond (f 0) true (early n (λ i. f (suc i)))

some_front : (n : ℕ) (f : ℕ → Bool) → some (suc n) f ≡ cond (f 0) true (some n (λ i. f (suc i)))
unfolding some
some_front zero f = bare (f 0)
  where
    bare : (b : Bool) → b ≡ cond b true false
    bare true = refl
    bare false = refl
some_front (suc n) f = ap (λ (b : Bool). b || f (suc n)) (some_front n f) ∙ moved (f 0) (some n (λ i. f (suc i))) (f (suc n))
  where
    moved : (a b c : Bool) → (cond a true b || c) ≡ cond a true (b || c)
    moved true b c = refl
    moved false b c = refl

-- It says what the full scan says.
some_early : (n : ℕ) (f : ℕ → Bool) → some n f ≡ early n f
unfolding some early
some_early zero f = refl
some_early (suc n) f = some_front n f ∙ ap (cond (f 0) true) (some_early n (λ i. f (suc i)))

early_settled : (n : ℕ) (f g : ℕ → Bool) → ((i : ℕ) → i < read_until n f → g i ≡ f i) → early n g ≡ early n f
unfolding early read_until
early_settled zero f g h = refl
early_settled (suc n) f g h = by_first (f 0) refl (read_until n (λ i. f (suc i))) h (early_settled n (λ i. f (suc i)) (λ i. g (suc i)))
  where
    by_first : (b : Bool) → f 0 ≡ b → (r : ℕ) → ((i : ℕ) → i < cond b 1 (suc r) → g i ≡ f i)
        → (((j : ℕ) → j < r → g (suc j) ≡ f (suc j)) → early n (λ i. g (suc i)) ≡ early n (λ i. f (suc i)))
        → cond (g 0) true (early n (λ i. g (suc i))) ≡ cond b true (early n (λ i. f (suc i)))
    by_first true q r h rest = rw (h 0 (omega arith) ∙ q)
    by_first false q r h rest = rw (h 0 (omega arith) ∙ q) (rest (λ j l. h (suc j) (omega arith)))

-- The last place read decides.
early_last : (n : ℕ) (f : ℕ → Bool) → (0 < read_until (suc n) f) × (early (suc n) f ≡ f (read_until (suc n) f - 1))
unfolding early read_until
early_last zero f = bare (f 0) refl
  where
    bare : (b : Bool) → f 0 ≡ b → (0 < cond b 1 1) × (cond b true false ≡ f (cond b 1 1 - 1))
    bare true e = (omega arith, sym e)
    bare false e = (omega arith, sym e)
early_last (suc n) f = by_first (f 0) refl (early_last n (λ i. f (suc i)))
  where
    by_first : (b : Bool) → f 0 ≡ b
        → (0 < read_until (suc n) (λ i. f (suc i))) × (early (suc n) (λ i. f (suc i)) ≡ f (suc (read_until (suc n) (λ i. f (suc i)) - 1)))
        → (0 < cond b 1 (suc (read_until (suc n) (λ i. f (suc i)))))
        × (cond b true (early (suc n) (λ i. f (suc i))) ≡ f (cond b 1 (suc (read_until (suc n) (λ i. f (suc i)))) - 1))
    by_first true e rest = (omega arith, sym e)
    by_first false e rest =
        let place : suc (read_until (suc n) (λ i. f (suc i)) - 1) ≡ suc (read_until (suc n) (λ i. f (suc i))) - 1 = omega (arith, rest.0) in
        (omega arith, rest.1 ∙ ap f place)

pub some_last : (n : ℕ) (f : ℕ → Bool) → 0 < n → (0 < read_until n f) × (some n f ≡ f (read_until n f - 1))
some_last zero f h = absurd (omega arith)
some_last (suc n) f h = let last = early_last n f in (last.0, some_early (suc n) f ∙ last.1)

-- The places that a scan reads settle it: a test that says the same of them gets the same answer.
pub some_settled : (n : ℕ) (f g : ℕ → Bool) → ((i : ℕ) → i < read_until n f → g i ≡ f i) → some n g ≡ some n f
some_settled n f g h = some_early n g ∙ early_settled n f g h ∙ sym (some_early n f)

module _ (f : ℕ → Float) where
  pub listed_length : (n : ℕ) → length (listed n f) ≡ n
  unfolding listed
  listed_length zero = refl
  listed_length (suc n) = length-append (listed n f) (f n ∷ []) ∙ rw (listed_length n, add-one)

  -- The element at each place.
  pub listed_at : (n y : ℕ) (d : Float) → y < n → get_or (listed n f) y d ≡ f y
  unfolding listed
  listed_at zero y d h = absurd (not-suc-le-zero h)
  listed_at (suc n) y d h = ⊎_elim
      (λ q. ap (λ (i : ℕ). get_or (listed n f ++ (f n ∷ [])) i d) q ∙ get_or_at (listed n f) (f n) [] d n (listed_length n) ∙ sym (ap f q))
      (λ l. get_or-append (listed n f) (f n ∷ []) d y (omega (arith, listed_length n)) ∙ listed_at n y d l)
      (eq-or-lt_of_le (le_of_suc-le-suc h))

  -- A store at the next place.
  pub listed_next : (out : List Float) (y : ℕ) (v : Float) → take y out ≡ listed y f → y < length out → v ≡ f y → take (y + 1) (set out y v) ≡ listed (y + 1) f
  unfolding listed
  listed_next out y v e h q = rw add-one (take-suc-set out y v h ∙ ap₂ (λ (l : List Float) (x : Float). l ++ (x ∷ [])) e q)
