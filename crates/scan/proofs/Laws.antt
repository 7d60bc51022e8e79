-- The laws of `read_until`, by the places from 0 on. Assumes nothing.
use mathlib.Core.Path.{◌≡◌, refl, sym, ap, ◌∙◌}
use mathlib.Core.Bool.{Bool, true, false, cond, true≢false}
use Prim.Native.Nat.{ℕ, zero, suc, ◌+◌, ◌-◌, ◌<◌, ◌≤◌}
use native.Mathlib.Omega.{arith}
use lib.Dec.{eqb}
use borrow.Author.Tests.{eq-eqb, ne_eqb}
use Rattle.scan.specs.Read.{read_until, LawsOf}

-- The test of the places behind the first.
abbrev behind : (ℕ → Bool) → ℕ → Bool
behind f i = f (suc i)

read_most : (n : ℕ) (f : ℕ → Bool) → read_until n f ≤ n
unfolding read_until
read_most zero f = omega arith
read_most (suc n) f = either (f 0) (read_until n (behind f)) (read_most n (behind f))
  where
    either : (b : Bool) (r : ℕ) → r ≤ n → cond b 1 (suc r) ≤ suc n
    either true r h = omega arith
    either false r h = omega arith

read_hit : (n : ℕ) (f : ℕ → Bool) (i : ℕ) → i < n → f i ≡ true → (0 < read_until n f) × (f (read_until n f - 1) ≡ true)
unfolding read_until
read_hit zero f i h e = absurd (omega arith)
read_hit (suc n) f i h e = by_first (f 0) refl i h e (read_until n (behind f)) (read_hit n (behind f))
  where
    by_first : (b : Bool) → f 0 ≡ b → (i : ℕ) → i < suc n → f i ≡ true → (r : ℕ) → ((j : ℕ) → j < n → f (suc j) ≡ true → (0 < r) × (f (suc (r - 1)) ≡ true)) → (0 < cond b 1 (suc r)) × (f (cond b 1 (suc r) - 1) ≡ true)
    by_first true q i h e r rest = (omega arith, q)
    by_first false q zero h e r rest = absurd (true≢false (sym e ∙ q))
    by_first false q (suc i) h e r rest =
        let found = rest i (omega arith) e in
        let place : suc r - 1 ≡ suc (r - 1) = omega (arith, found.0) in
        (omega arith, ap f place ∙ found.1)

read_none : (n : ℕ) (f : ℕ → Bool) (i : ℕ) → i + 1 < read_until n f → f i ≡ false
unfolding read_until
read_none zero f i h = absurd (omega arith)
read_none (suc n) f i h = by_first (f 0) refl i h (read_none n (behind f))
  where
    by_first : (b : Bool) → f 0 ≡ b → (i : ℕ) → i + 1 < cond b 1 (suc (read_until n (behind f))) → ((j : ℕ) → j + 1 < read_until n (behind f) → f (suc j) ≡ false) → f i ≡ false
    by_first true q i h rest = absurd (omega arith)
    by_first false q zero h rest = q
    by_first false q (suc i) h rest = rest i (omega arith)

read_all : (n : ℕ) (f : ℕ → Bool) → ((i : ℕ) → i < n → f i ≡ false) → read_until n f ≡ n
unfolding read_until
read_all zero f h = refl
read_all (suc n) f h = rw (h 0 (omega arith)) (ap suc (read_all n (behind f) (λ i l. h (suc i) (omega arith))))

read_settled : (n : ℕ) (f g : ℕ → Bool) → ((i : ℕ) → i < read_until n f → g i ≡ f i) → read_until n g ≡ read_until n f
unfolding read_until
read_settled zero f g h = refl
read_settled (suc n) f g h = by_first (f 0) refl (read_until n (behind f)) h (read_settled n (behind f) (behind g))
  where
    by_first : (b : Bool) → f 0 ≡ b → (r : ℕ) → ((i : ℕ) → i < cond b 1 (suc r) → g i ≡ f i) → (((j : ℕ) → j < r → g (suc j) ≡ f (suc j)) → read_until n (behind g) ≡ r) → cond (g 0) 1 (suc (read_until n (behind g))) ≡ cond b 1 (suc r)
    by_first true q r h rest = rw (h 0 (omega arith) ∙ q)
    by_first false q r h rest = rw (h 0 (omega arith) ∙ q) (ap suc (rest (λ j l. h (suc j) (omega arith))))

read_unsettled : (n : ℕ) (f : ℕ → Bool) (k : ℕ) → k < read_until n f → (k < n) × ((i : ℕ) → i < k → (eqb k i ≡ f i) × (false ≡ f i))
read_unsettled n f k h =
    (omega (arith, read_most n f), λ i l. let none = sym (read_none n f i (omega arith)) in (ne_eqb k i (λ q. omega arith) ∙ none, none))

pub laws : (n : ℕ) (f : ℕ → Bool) → LawsOf n f
laws n f = record { most = read_most n f; hit = read_hit n f; none = read_none n f; all = read_all n f; settled = read_settled n f; unsettled = read_unsettled n f }

-- A scan that has met no hit before place y and meets one there has read y + 1 places.
pub read_first : (n : ℕ) (f : ℕ → Bool) (y : ℕ) → y < n → ((i : ℕ) → i < y → f i ≡ false) → f y ≡ true → read_until n f ≡ y + 1
unfolding read_until
read_first zero f y h none e = absurd (omega arith)
read_first (suc n) f zero h none e = rw e
read_first (suc n) f (suc y) h none e = rw (none 0 (omega arith), read_first n (behind f) y (omega arith) (λ i l. none (suc i) (omega arith)) e) (omega arith)

-- The same by the place alone.
pub read_at : (all hit : ℕ) → hit < all → read_until all (eqb hit) ≡ hit + 1
read_at all hit h = read_first all (eqb hit) hit h (λ i l. ne_eqb hit i (λ q. omega arith)) (eq-eqb hit hit refl)

pub read_past : (all hit : ℕ) → all ≤ hit → read_until all (eqb hit) ≡ all
read_past all hit h = read_all all (eqb hit) (λ i l. ne_eqb hit i (λ q. omega arith))
