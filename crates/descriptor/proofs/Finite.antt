-- The loop over buffers of one length, an element of each a turn, for any test f of an element. Assumes nothing.
use mathlib.Core.Path.{◌≡◌, refl, sym, ap, ◌∙◌}
use mathlib.Core.Bool.{Bool, true, false, ◌&&◌, and-true, and-false, and_assoc, and_comm}
use mathlib.Core.List.{List, [], ◌∷◌}
use Prim.Native.Nat.{ℕ, ◌+◌, ◌≤◌, ◌<◌}
use native.Mathlib.Numerals.{add-one}
use native.Mathlib.Omega.{arith}
use lib.ListN.{length, get_or, drop, drop_of_length-le}
use lib.Seq.{drop-cons}
use Rattle.descriptor.specs.Checks.{every}

module _ {A : Type 0} (f : A → Bool) where
  -- What is left of a loop at element i: `ok`, and each buffer from there on.
  abbrev pub ahead : Bool → List (List A) → ℕ → Bool
  ahead ok [] i = ok
  ahead ok (xs ∷ rest) i = ahead (ok && every f (drop i xs)) rest i

  -- `ok` after a turn at the elements.
  abbrev pub turned : Bool → List A → Bool
  turned ok [] = ok
  turned ok (x ∷ rest) = turned (ok && f x) rest

  -- Each buffer has n elements, the given one at place i.
  abbrev pub Turn : (n i : ℕ) → List (List A) → List A → Type 0
  Turn n i [] [] = Unit {0}
  Turn n i [] (x ∷ more) = ⊥
  Turn n i (xs ∷ rest) [] = ⊥
  Turn n i (xs ∷ rest) (x ∷ more) = (length xs ≡ n) × (x ≡ get_or xs i x) × Turn n i rest more

  turned_and : (a b : Bool) (elements : List A) → turned (a && b) elements ≡ (turned a elements && b)
  turned_and a b [] = refl
  turned_and a b (x ∷ rest) =
      ap (λ (c : Bool). turned c rest) (and_assoc a b (f x) ∙ ap (λ (c : Bool). a && c) (and_comm b (f x)) ∙ sym (and_assoc a (f x) b))
      ∙ turned_and (a && f x) b rest

  one_step : (ok : Bool) (xs : List A) (i : ℕ) (x : A) → i < length xs → x ≡ get_or xs i x
      → (ok && every f (drop i xs)) ≡ (ok && f x && every f (drop (i + 1) xs))
  unfolding every
  one_step ok xs i x h e = rw (add-one, drop-cons xs i x h, ← e) (sym (and_assoc ok _ _))

  pub step : (ok : Bool) (buffers : List (List A)) (elements : List A) (n i : ℕ) → Turn n i buffers elements → i < n
      → ahead ok buffers i ≡ ahead (turned ok elements) buffers (i + 1)
  step ok [] [] n i t h = refl
  step ok [] (x ∷ more) n i t h = absurd t
  step ok (xs ∷ rest) [] n i t h = absurd t
  step ok (xs ∷ rest) (x ∷ more) n i t h =
      let left = every f (drop (i + 1) xs) in
      ap (λ (b : Bool). ahead b rest i) (one_step ok xs i x (omega (arith, h, t.0)) t.1)
      ∙ step (ok && f x && left) rest more n i t.2 h
      ∙ ap (λ (b : Bool). ahead b rest (i + 1)) (turned_and (ok && f x) left more)

  abbrev pub Long : ℕ → List (List A) → Type 0
  Long n [] = Unit {0}
  Long n (xs ∷ rest) = (length xs ≡ n) × Long n rest

  pub end : (ok : Bool) (buffers : List (List A)) (n i : ℕ) → Long n buffers → n ≤ i → ahead ok buffers i ≡ ok
  unfolding every
  end ok [] n i long h = refl
  end ok (xs ∷ rest) n i long h = rw (drop_of_length-le xs {i = i} (omega (arith, h, long.0)), and-true) (end ok rest n i long.1 h)

-- The code's order of the tests gives the definition's: the median is scanned beside the point.
pub in_order : (point scale shift deviations high low median ideal_high ideal_low neighbours : Bool)
    → (point && median && (scale && shift && deviations && (high && low && ideal_high && ideal_low && neighbours)))
    ≡ (point && (scale && (shift && (deviations && (high && (low && (median && (ideal_high && (ideal_low && neighbours)))))))))
in_order p sc sh d h l true ih il n = simp (and-true, and_assoc)
in_order p sc sh d h l false ih il n = simp (and-false, and_assoc)
