-- The listing of a pool: what the walks gathered. Assumes nothing.
use Rattle.std.specs.Prelude.{Some, None}
use mathlib.Core.Path.{◌≡◌, refl, sym, ap, ◌∙◌}
use mathlib.Core.Bool.{Bool, true, false, cond}
use mathlib.Core.List.{List, [], ◌∷◌, ◌++◌, map}
use Prim.Native.Nat.{ℕ, zero, suc, ◌+◌, ◌-◌, ◌≤◌}
use native.Mathlib.Omega.{arith}
use lib.ListN.{length, get_or, take, replicate}
use Rattle.record_pool.specs.Pool.{number_at, used_of, rules_ok, numbers_of, listing}
use Rattle.record_pool.specs.Steps.{Both, WalksTell}
use Rattle.record_pool.proofs.Walking.{used_same, short_used}

-- A list that has nothing but zeros from place n on.
zeros_behind : (n k : ℕ) (xs : List ℕ) → length xs ≡ n + k → ((j : ℕ) → n ≤ j → get_or xs j 0 ≡ 0) → xs ≡ take n xs ++ replicate k 0
zeros_behind zero zero [] l z = refl
zeros_behind zero zero (x ∷ xs) l z = absurd (omega arith)
zeros_behind zero (suc k) [] l z = absurd (omega arith)
zeros_behind zero (suc k) (x ∷ xs) l z =
    λ t. z 0 (omega arith) t ∷ zeros_behind zero k xs (omega arith) (λ j i. z (suc j) (omega arith)) t
zeros_behind (suc n) k [] l z = absurd (omega arith)
zeros_behind (suc n) k (x ∷ xs) l z = ap (λ (r : List ℕ). x ∷ r) (zeros_behind n k xs (omega arith) (λ j i. z (suc j) (omega arith)))

module _ (xs : List ℕ) (b : Bool) (e : b ≡ rules_ok xs) where
  pub listing_broken : b ≡ false → None ≡ listing xs
  unfolding listing
  listing_broken f = sym (ap (λ (c : Bool). cond c (Some (numbers_of xs)) None) (sym e ∙ f))

  found : (fine : Bool) (used free : ℕ) (numbers : List ℕ) → b ≡ true → WalksTell xs fine used free numbers → Both xs used free numbers
  found true used free numbers t w = w.0 refl
  found false used free numbers t w = absurd (let f = w.1 refl in let q : ◌≡◌ {A = ℕ} 0 1 = cc in omega arith)

  pub listing_sound : (fine : Bool) (used free : ℕ) (numbers : List ℕ) → b ≡ true → length numbers ≡ 30 → WalksTell xs fine used free numbers
      → Some numbers ≡ listing xs
  unfolding listing numbers_of
  listing_sound fine used free numbers t l w =
      let both = found fine used free numbers t w in
      let f = both.first in
      let us = used_same xs used both.seen numbers both.us f (sym e ∙ t) in
      let long : length (used_of xs) ≡ used = ap length us ∙ f.long in
      let n : numbers ≡ map (number_at xs) (used_of xs) ++ replicate (30 - length (used_of xs)) 0 =
      zeros_behind used (30 - used) numbers (omega (arith, short_used xs (sym e ∙ t), long)) f.rest ∙ ap (λ (r : List ℕ). r ++ replicate (30 - used) 0) (f.images ∙ ap (map (number_at xs)) (sym us))
      ∙ ap (λ (n : ℕ). map (number_at xs) (used_of xs) ++ replicate (30 - n) 0) (sym long) in
      ap Some n
      ∙ sym (ap (λ (c : Bool). cond c (Some (map (number_at xs) (used_of xs) ++ replicate (30 - length (used_of xs)) 0)) None) (sym e ∙ t))
