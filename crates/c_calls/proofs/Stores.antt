-- Stores into a slice, place by place. Assumes nothing.
use mathlib.Core.Path.{◌≡◌, refl, ap, ◌∙◌}
use mathlib.Core.List.{List, [], ◌∷◌}
use Prim.Native.Nat.{ℕ}
use native.Mathlib.Omega.{arith}
use lib.ListN.{length, get_or, set}

-- A list of five is its five elements.
five : (is : List ℕ) → length is ≡ 5 → get_or is 0 0 ∷ get_or is 1 0 ∷ get_or is 2 0 ∷ get_or is 3 0 ∷ get_or is 4 0 ∷ [] ≡ is
five [] h = absurd (omega arith)
five (_ ∷ []) h = absurd (omega arith)
five (_ ∷ _ ∷ []) h = absurd (omega arith)
five (_ ∷ _ ∷ _ ∷ []) h = absurd (omega arith)
five (_ ∷ _ ∷ _ ∷ _ ∷ []) h = absurd (omega arith)
five (_ ∷ _ ∷ _ ∷ _ ∷ _ ∷ []) h = refl
five (_ ∷ _ ∷ _ ∷ _ ∷ _ ∷ _ ∷ is) h = absurd (omega arith)

pub stores_five : (a b c d e : ℕ) (xs : List ℕ) → length xs ≡ 5 → set (set (set (set (set xs 0 a) 1 b) 2 c) 3 d) 4 e ≡ a ∷ b ∷ c ∷ d ∷ e ∷ []
stores_five a b c d e [] h = absurd (omega arith)
stores_five a b c d e (_ ∷ []) h = absurd (omega arith)
stores_five a b c d e (_ ∷ _ ∷ []) h = absurd (omega arith)
stores_five a b c d e (_ ∷ _ ∷ _ ∷ []) h = absurd (omega arith)
stores_five a b c d e (_ ∷ _ ∷ _ ∷ _ ∷ []) h = absurd (omega arith)
stores_five a b c d e (_ ∷ _ ∷ _ ∷ _ ∷ _ ∷ []) h = refl
stores_five a b c d e (_ ∷ _ ∷ _ ∷ _ ∷ _ ∷ _ ∷ xs) h = absurd (omega arith)

stores_eight : (a b c d e f g i : ℕ) (xs : List ℕ) → length xs ≡ 8
    → set (set (set (set (set (set (set (set xs 0 a) 1 b) 2 c) 3 d) 4 e) 5 f) 6 g) 7 i ≡ a ∷ b ∷ c ∷ d ∷ e ∷ f ∷ g ∷ i ∷ []
stores_eight a b c d e f g i [] h = absurd (omega arith)
stores_eight a b c d e f g i (_ ∷ []) h = absurd (omega arith)
stores_eight a b c d e f g i (_ ∷ _ ∷ []) h = absurd (omega arith)
stores_eight a b c d e f g i (_ ∷ _ ∷ _ ∷ []) h = absurd (omega arith)
stores_eight a b c d e f g i (_ ∷ _ ∷ _ ∷ _ ∷ []) h = absurd (omega arith)
stores_eight a b c d e f g i (_ ∷ _ ∷ _ ∷ _ ∷ _ ∷ []) h = absurd (omega arith)
stores_eight a b c d e f g i (_ ∷ _ ∷ _ ∷ _ ∷ _ ∷ _ ∷ []) h = absurd (omega arith)
stores_eight a b c d e f g i (_ ∷ _ ∷ _ ∷ _ ∷ _ ∷ _ ∷ _ ∷ []) h = absurd (omega arith)
stores_eight a b c d e f g i (_ ∷ _ ∷ _ ∷ _ ∷ _ ∷ _ ∷ _ ∷ _ ∷ []) h = refl
stores_eight a b c d e f g i (_ ∷ _ ∷ _ ∷ _ ∷ _ ∷ _ ∷ _ ∷ _ ∷ _ ∷ xs) h = absurd (omega arith)

pub eight : (block start count : ℕ) (is xs : List ℕ) → length is ≡ 5 → length xs ≡ 8
    → set (set (set (set (set (set (set (set xs 0 block) 1 start) 2 count) 3 (get_or is 0 0)) 4 (get_or is 1 0)) 5 (get_or is 2 0)) 6 (get_or is 3 0)) 7 (get_or is 4 0)
    ≡ block ∷ start ∷ count ∷ is
eight block start count is xs h k = stores_eight block start count _ _ _ _ _ xs k ∙ ap (λ (ys : List ℕ). block ∷ start ∷ count ∷ ys) (five is h)
