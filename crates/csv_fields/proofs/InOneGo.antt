-- Digits taken one by one. Assumes nothing.
use mathlib.Core.Path.{◌≡◌, ap, ◌∙◌}
use mathlib.Core.Bool.{true, false}
use mathlib.Core.List.{List, ◌∷◌}
use Prim.Native.Nat.{ℕ, ◌+◌, ◌≤◌, ◌<◌}
use native.Mathlib.Numerals.{add-one}
use lib.ListN.{length, drop, get_or, drop_of_length-le}
use lib.Seq.{drop-cons}
use Rattle.csv_fields.specs.Contents.{is_digit}
use Rattle.csv_fields.specs.Pushing.{grown, digits_from}

-- What follows the place i of a list.
pub at_byte : (xs : List ℕ) (i : ℕ) → i < length xs → drop i xs ≡ get_or xs i 0 ∷ drop (i + 1) xs
at_byte xs i h = rw add-one (drop-cons xs i 0 h)

-- One more digit, another byte, the end.
module _ (n : ℕ) (xs : List ℕ) (i : ℕ) where
  pub digit_more : i < length xs → is_digit (get_or xs i 0) ≡ true → digits_from n i (drop i xs) ≡ digits_from (grown n (get_or xs i 0)) (i + 1) (drop (i + 1) xs)
  unfolding digits_from
  digit_more h e = ap (digits_from n i) (at_byte xs i h) ∙ simp e

  pub digit_last : i < length xs → is_digit (get_or xs i 0) ≡ false → digits_from n i (drop i xs) ≡ record { number = n; next = i }
  unfolding digits_from
  digit_last h e = ap (digits_from n i) (at_byte xs i h) ∙ simp e

  pub digit_none : length xs ≤ i → digits_from n i (drop i xs) ≡ record { number = n; next = i }
  unfolding digits_from
  digit_none h = ap (digits_from n i) (drop_of_length-le xs h)
