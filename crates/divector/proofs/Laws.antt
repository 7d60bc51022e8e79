-- What callers use of the definitions. Assumes nothing.
use Rattle.std.proofs.Common.{◌≡◌, ℕ, zero, suc, ◌+◌, ◌-◌, ◌/◌, ◌%◌, ◌<◌, ◌≤◌, Bool, true, false, cond, not, ◌&&◌, ◌||◌, eqb, List, [], ◌∷◌, length, replicate, sym, refl, ap, ◌∙◌, ap₂, add-suc, pos_of_ne-zero, arith, eq-eqb, ne_eqb, eqb-true, Result, Ok, Err}
use lib.ListN.{length-map, length-replicate}
use lib.Ieee as Ieee
use lib.Ieee.{Float, binary64}
use borrow.Author.Tests.{eqb-false}
use Rattle.types.specs.declared.Refusal.TheVariants.{Length, Blocks}
use Rattle.ieee.specs.F64.{zero64}
use Rattle.divector.proofs.Blocks.{first_within}
use Rattle.divector.specs.DiVector.{after, changed, sum_from, total_of, scaled, zipped, one_length, share, normalized}
use Rattle.divector.specs.DiVector.{block_sum, best_from, winner, first_block, bad_blocks, max_gap_contribution}
use Rattle.types.specs.declared.Refusal.{Refusal}

-- Lengths stay.
pub scaled_length : (factor : Float) (xs : List Float) → length (scaled factor xs) ≡ length xs
unfolding scaled
scaled_length factor xs = length-map xs _

pub zipped_length : (f : Float → Float → Float) (xs ys : List Float) → length (zipped f xs ys) ≡ length xs
unfolding zipped
zipped_length f [] ys = refl
zipped_length f (x ∷ xs) [] = refl
zipped_length f (x ∷ xs) (y ∷ ys) = ap suc (zipped_length f xs ys)

-- What `one_length` says.
pub record OneLength (a b c d : ℕ) : Type 0 where
  pub second : b ≡ a
  pub third : c ≡ a
  pub fourth : d ≡ a

by_tests : (a b c d : ℕ) (t₁ t₂ t₃ : Bool) → eqb a b ≡ t₁ → eqb a c ≡ t₂ → eqb a d ≡ t₃ → t₁ && (t₂ && t₃) ≡ true → OneLength a b c d
by_tests a b c d true true true e₁ e₂ e₃ h = record { second = sym (eqb-true a b e₁); third = sym (eqb-true a c e₂); fourth = sym (eqb-true a d e₃) }
by_tests a b c d true true false e₁ e₂ e₃ h = absurd (let z : ◌≡◌ {A = ℕ} 0 1 = cc in omega arith)
by_tests a b c d true false t₃ e₁ e₂ e₃ h = absurd (let z : ◌≡◌ {A = ℕ} 0 1 = cc in omega arith)
by_tests a b c d false t₂ t₃ e₁ e₂ e₃ h = absurd (let z : ◌≡◌ {A = ℕ} 0 1 = cc in omega arith)

pub one_length_lem : (a b c d : ℕ) → one_length a b c d ≡ true → OneLength a b c d
unfolding one_length
one_length_lem a b c d h = by_tests a b c d _ _ _ refl refl refl h

pub one_length_true : (a b c d : ℕ) → OneLength a b c d → one_length a b c d ≡ true
unfolding one_length
one_length_true a b c d l = simp (eq-eqb a b (sym l.second), eq-eqb a c (sym l.third), eq-eqb a d (sym l.fourth))

-- A pair that a call wrote.
pub done : {high low hs ls : List Float} → high ≡ hs → low ≡ ls → after (Ok tt) high low ≡ after (Ok tt) hs ls
done p q = ap₂ (after (Ok tt)) p q

-- Each part of what a call leaves.
module _ (fits : Bool) (hs ls hs' ls' : List Float) where
  pub changed_high : (changed fits hs ls hs' ls').high ≡ cond fits hs' hs
  changed_high = by_test fits
    where
      by_test : (t : Bool) → (changed t hs ls hs' ls').high ≡ cond t hs' hs
      by_test true = refl
      by_test false = refl

  pub changed_low : (changed fits hs ls hs' ls').low ≡ cond fits ls' ls
  changed_low = by_test fits
    where
      by_test : (t : Bool) → (changed t hs ls hs' ls').low ≡ cond t ls' ls
      by_test true = refl
      by_test false = refl

-- Normalising, by the total.
module _ (value : Float) (hs ls xs : List Float) where
  pub shared : {current : Float} {n : ℕ} {v : Float} {out : List Float} → current ≡ total_of hs ls → Ieee.le current zero64 ≡ true → n ≡ length hs → v ≡ share value (length hs)
      → out ≡ replicate n v → out ≡ normalized value hs ls xs
  unfolding normalized
  shared t h e f g = simp (sym t, h) (g ∙ ap₂ replicate e f)

  pub rescaled : {current : Float} {out : List Float} → current ≡ total_of hs ls → Ieee.le current zero64 ≡ false → out ≡ scaled (Ieee.div binary64 value current) xs
      → out ≡ normalized value hs ls xs
  unfolding normalized
  rescaled t h g = simp (sym t, h) g

  pub normalized_length : length xs ≡ length hs → length (normalized value hs ls xs) ≡ length hs
  unfolding normalized
  normalized_length e = by_total (Ieee.le (total_of hs ls) zero64)
    where
      by_total : (t : Bool) → length (cond t (replicate (length hs) (share value (length hs))) (scaled (Ieee.div binary64 value (total_of hs ls)) xs)) ≡ length hs
      by_total true = length-replicate (length hs) _
      by_total false = scaled_length _ xs ∙ e

-- Zeros of either sign.
pub data Zeros : List Float → Type 0 where
  none : Zeros []
  plus : {xs : List Float} → Zeros xs → Zeros (zero64 ∷ xs)
  minus : {xs : List Float} → Zeros xs → Zeros (Ieee.neg zero64 ∷ xs)

zeros_sum : {xs : List Float} → Zeros xs → sum_from zero64 xs ≡ zero64
unfolding sum_from Ieee.add Ieee.neg Ieee.of_bits
zeros_sum none = refl
zeros_sum (plus z) = zeros_sum z
zeros_sum (minus z) = zeros_sum z

zero_level : Ieee.le (Ieee.add binary64 zero64 zero64) zero64 ≡ true
unfolding Ieee.le Ieee.add Ieee.of_bits
zero_level = refl

-- A pair of zeros normalised: a share everywhere.
pub zeros_shared : (value : Float) (hs ls xs : List Float) → Zeros hs → Zeros ls → normalized value hs ls xs ≡ replicate (length hs) (share value (length hs))
unfolding total_of
zeros_shared value hs ls xs y z = sym (shared value hs ls xs refl (simp (zeros_sum y, zeros_sum z) zero_level) refl refl refl)

-- The best block is one of those that are searched.
best_within : (sum : ℕ → Float) (n j index : ℕ) → index < j → (index ≤ best_from sum n j index) × (best_from sum n j index < j + n)
unfolding best_from
best_within sum zero j index h = (omega arith, omega arith)
best_within sum (suc n) j index h =
    let p = pick (Ieee.lt (sum index) (sum j)) in
    let w = best_within sum n (j + 1) (cond (Ieee.lt (sum index) (sum j)) j index) p.1 in
    (omega arith, omega (arith, add-suc j n))
  where
    pick : (t : Bool) → (index ≤ cond t j index) × (cond t j index < j + 1)
    pick true = (omega arith, omega arith)
    pick false = (omega arith, omega arith)

pub winner_within : (hs ls : List Float) (base start blocks : ℕ) → start < blocks → (start ≤ winner hs ls base start blocks) × (winner hs ls base start blocks < blocks)
unfolding winner
winner_within hs ls base start blocks h =
    let w = best_within (block_sum hs ls base) (blocks - (start + 1)) (start + 1) start (omega arith) in
    (w.0, omega arith)

-- What `max_gap_contribution` accepts.
pub record Accepted (hs ls : List Float) (base gap : ℕ) : Type 0 where
  pub alike : length hs ≡ length ls
  pub gapped : 0 < gap
  pub based : 0 < base
  pub long : 0 < length hs
  pub whole : length hs % base ≡ 0

-- It is accepted then, and only then.
module _ (hs ls : List Float) (base gap : ℕ) where
  pub answered : Accepted hs ls base gap → max_gap_contribution hs ls base gap ≡ Ok (winner hs ls base (first_block (length hs) base gap) (length hs / base))
  unfolding max_gap_contribution bad_blocks
  answered a =
      simp (eq-eqb _ _ a.alike, ne_eqb gap 0 (λ e. omega arith), ne_eqb base 0 (λ e. omega arith), ne_eqb (length hs) 0 (λ e. omega arith), eq-eqb _ _ a.whole)

  pub accepted : {k : ℕ} → max_gap_contribution hs ls base gap ≡ Ok k → Accepted hs ls base gap
  unfolding max_gap_contribution bad_blocks
  accepted {k} e = by_tests _ _ _ _ _ _ refl refl refl refl refl e
    where
      by_tests : (b : Result ℕ Refusal) (t₁ t₂ t₃ t₄ t₅ : Bool) → eqb (length hs) (length ls) ≡ t₁ → eqb gap 0 ≡ t₂ → eqb base 0 ≡ t₃ → eqb (length hs) 0 ≡ t₄ → eqb (length hs % base) 0 ≡ t₅
          → cond (not t₁) (Err Length) (cond (t₂ || (t₃ || (t₄ || not t₅))) (Err Blocks) b) ≡ Ok k → Accepted hs ls base gap
      by_tests b true false false false true e₁ e₂ e₃ e₄ e₅ e = record {
        alike = eqb-true _ _ e₁;
        gapped = pos_of_ne-zero (eqb-false gap 0 e₂);
        based = pos_of_ne-zero (eqb-false base 0 e₃);
        long = pos_of_ne-zero (eqb-false (length hs) 0 e₄);
        whole = eqb-true _ _ e₅;
      }
      by_tests b false t₂ t₃ t₄ t₅ e₁ e₂ e₃ e₄ e₅ e = absurd (let z : ◌≡◌ {A = ℕ} 0 1 = cc in omega arith)
      by_tests b true true t₃ t₄ t₅ e₁ e₂ e₃ e₄ e₅ e = absurd (let z : ◌≡◌ {A = ℕ} 0 1 = cc in omega arith)
      by_tests b true false true t₄ t₅ e₁ e₂ e₃ e₄ e₅ e = absurd (let z : ◌≡◌ {A = ℕ} 0 1 = cc in omega arith)
      by_tests b true false false true t₅ e₁ e₂ e₃ e₄ e₅ e = absurd (let z : ◌≡◌ {A = ℕ} 0 1 = cc in omega arith)
      by_tests b true false false false false e₁ e₂ e₃ e₄ e₅ e = absurd (let z : ◌≡◌ {A = ℕ} 0 1 = cc in omega arith)

  -- An accepted search answers one of the last gap blocks.
  pub chosen : {k : ℕ} → max_gap_contribution hs ls base gap ≡ Ok k → (length hs / base - gap ≤ k) × (k < length hs / base)
  chosen {k} e =
      let a = accepted e in
      let f = first_within (length hs) base a.whole gap a.gapped a.based a.long in
      let w = winner_within hs ls base (first_block (length hs) base gap) (length hs / base) f.1 in
      let q : winner hs ls base (first_block (length hs) base gap) (length hs / base) ≡ k = cc (answered a) in
      (omega arith, omega arith)
