-- The search for the best block. Assumes nothing.
use Rattle.std.proofs.Common.{◌≡◌, ℕ, zero, suc, ◌+◌, ◌-◌, ◌*◌, ◌/◌, ◌%◌, ◌<◌, ◌≤◌, Bool, true, false, cond, leb, List, length, sym, refl, ap, ◌∙◌, mul-le-mul_right, suc-mul, mul-lt-mul_of_pos_right, div-add-mod', zero-mul, sub-eq-zero_of_le, add-one, arith, le-ltb, lt-ltb, leb-false, leb-true}
use lib.Ieee as Ieee
use lib.Ieee.{Float}
use Rattle.divector.specs.DiVector.{block_sum, best_from, winner, first_block}

-- The block at k lies within the first n.
pub row_within : (k n d : ℕ) → k < n → k * d + d ≤ n * d
row_within k n d h = rw (← suc-mul) (mul-le-mul_right d h)

-- n is a multiple of base.
module _ (n base : ℕ) (h : n % base ≡ 0) where
  pub whole : n / base * base ≡ n
  whole = omega (arith, div-add-mod' n base)

  pub some : (n ≡ 0 → ⊥) → 0 < n / base
  some f = by_blocks (n / base) whole
    where
      by_blocks : (q : ℕ) → q * base ≡ n → 0 < q
      by_blocks zero e = absurd (f (sym e ∙ zero-mul base))
      by_blocks (suc q) e = omega arith

  pub first_far : (gap : ℕ) → (base ≡ 0 → ⊥) → n / base < gap → first_block n base gap ≡ 0
  unfolding first_block
  first_far gap f k = simp (lt-ltb n (gap * base) (rw whole at (mul-lt-mul_of_pos_right {k = base} k (omega arith))))

  pub first_near : (gap : ℕ) → gap ≤ n / base → first_block n base gap ≡ n / base - gap
  unfolding first_block
  first_near gap k = simp (le-ltb n (gap * base) (rw whole at (mul-le-mul_right base k)))

  pub first_within : (gap : ℕ) → 0 < gap → 0 < base → 0 < n → (n / base - gap ≤ first_block n base gap) × (first_block n base gap < n / base)
  first_within gap g b l = by_gap (leb gap (n / base)) refl
    where
      by_gap : (t : Bool) → leb gap (n / base) ≡ t → (n / base - gap ≤ first_block n base gap) × (first_block n base gap < n / base)
      by_gap true e =
          let m = some (λ z. omega arith) in
          let f = first_near gap (leb-true _ _ e) in
          (omega arith, omega arith)
      by_gap false e =
          let m = some (λ z. omega arith) in
          let k = leb-false _ _ e in
          let f = first_far gap (λ z. omega arith) k in
          (omega arith, omega arith)

-- One turn, and none.
module _ (sum : ℕ → Float) (n j index : ℕ) where
  pub best_step : j < n → best_from sum (n - j) j index ≡ best_from sum (n - (j + 1)) (j + 1) (cond (Ieee.lt (sum index) (sum j)) j index)
  unfolding best_from
  best_step h = ap (λ (m : ℕ). best_from sum m j index) (left ∙ add-one (n - (j + 1)))
    where
      left : n - j ≡ n - (j + 1) + 1
      left = omega arith

  pub best_end : n ≤ j → best_from sum (n - j) j index ≡ index
  unfolding best_from
  best_end h = ap (λ (m : ℕ). best_from sum m j index) (sub-eq-zero_of_le h)

-- The blocks up to j are behind the loop, and index is the best of them.
pub record Searched (hs ls : List Float) (base start blocks index : ℕ) (val : Float) (j : ℕ) : Type 0 where
  pub from : start < j
  pub upto : j ≤ blocks
  pub alike : length hs ≡ length ls
  pub wide : blocks * base ≤ length hs
  pub own : val ≡ block_sum hs ls base index
  pub left : winner hs ls base start blocks ≡ best_from (block_sum hs ls base) (blocks - j) j index

module _ {hs ls : List Float} {base start blocks index : ℕ} {val : Float} {j : ℕ} (h : Searched hs ls base start blocks index val j) where
  pub turn : (s : Float) → j < blocks → s ≡ block_sum hs ls base j → (t : Bool) → Ieee.lt val s ≡ t
      → Searched hs ls base start blocks (cond t j index) (cond t s val) (j + 1)
  turn s k e t q = record {
    from = omega arith;
    upto = omega arith;
    alike = h.alike;
    wide = h.wide;
    own = owned t;
    left = h.left ∙ best_step _ blocks j index k ∙ ap (λ (b : Bool). best_from (block_sum hs ls base) (blocks - (j + 1)) (j + 1) (cond b j index)) (sym (λ i. Ieee.lt (h.own i) (e i)) ∙ q);
  }
    where
      owned : (b : Bool) → cond b s val ≡ block_sum hs ls base (cond b j index)
      owned true = e
      owned false = h.own
