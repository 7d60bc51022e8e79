-- Lines of digits of a base: what one more byte makes of them, and how large a number they write. Assumes nothing.
use mathlib.Core.Path.{◌≡◌, refl}
use mathlib.Core.Bool.{Bool, true, false, ◌&&◌}
use mathlib.Core.List.{List, [], ◌∷◌, ◌++◌}
use Prim.Native.Nat.{ℕ, suc, ◌+◌, ◌*◌, ◌^◌, ◌≤◌, ◌<◌}
use native.Mathlib.Nat.{pow-zero, pow-suc, add-zero, zero-add, mul-le-mul_right}
use native.Mathlib.Omega.{arith}
use lib.Dec.{ltb}
use lib.ListN.{length, length-append}
use borrow.Author.Tests.{ltb-true, ltb-false}
use Rattle.score_lines.specs.Output.{digit_of, is_digit, all_digits, number}

-- At most so many digits.
pub record Good (base most : ℕ) (line : List ℕ) : Type 0 where
  pub digits : all_digits base line ≡ true
  pub short : length line ≤ most

-- What no further byte mends.
pub data Faulty (base most : ℕ) (line : List ℕ) : Type 0 where
  long : most < length line → Faulty base most line
  odd : all_digits base line ≡ false → Faulty base most line

pub nothing_yet : (base most : ℕ) → Good base most []
unfolding all_digits
nothing_yet base most = record { digits = refl; short = omega arith }

pub number_snoc : (base n : ℕ) (line : List ℕ) (b : ℕ) → number base n (line ++ (b ∷ [])) ≡ number base n line * base + digit_of b
unfolding number
number_snoc base n [] b = refl
number_snoc base n (a ∷ line) b = number_snoc base (n * base + digit_of a) line b

and_true : (t u : Bool) → t && u ≡ true → (t ≡ true) × (u ≡ true)
and_true true u e = (refl, e)
and_true false u e = absurd (let z : ◌≡◌ {A = ℕ} 0 1 = cc in omega arith)

pub and_no : (t : Bool) → t && false ≡ false
and_no true = refl
and_no false = refl

digits_snoc : (base : ℕ) (line : List ℕ) (b : ℕ) → all_digits base line ≡ true → is_digit base b ≡ true → all_digits base (line ++ (b ∷ [])) ≡ true
unfolding all_digits
digits_snoc base [] b e h = simp h
digits_snoc base (a ∷ line) b e h =
    let t = and_true (is_digit base a) (all_digits base line) e in
    simp (t.0, digits_snoc base line b t.1 h)

and_odd : (t u v : Bool) → t && u ≡ false → (u ≡ false → v ≡ false) → t && v ≡ false
and_odd true u v e f = f e
and_odd false u v e f = refl

digits_odd : (base : ℕ) (line : List ℕ) (b : ℕ) → all_digits base line ≡ false → all_digits base (line ++ (b ∷ [])) ≡ false
unfolding all_digits
digits_odd base [] b e = absurd (let z : ◌≡◌ {A = ℕ} 0 1 = cc in omega arith)
digits_odd base (a ∷ line) b e = and_odd (is_digit base a) (all_digits base line) _ e (digits_odd base line b)

digits_last : (base : ℕ) (line : List ℕ) (b : ℕ) → is_digit base b ≡ false → all_digits base (line ++ (b ∷ [])) ≡ false
unfolding all_digits
digits_last base [] b h = simp h
digits_last base (a ∷ line) b h = simp (digits_last base line b h) (and_no (is_digit base a))

pub faulty_snoc : {base most : ℕ} (line : List ℕ) (b : ℕ) → Faulty base most line → Faulty base most (line ++ (b ∷ []))
faulty_snoc line b (long h) = long (simp length-append (omega arith))
faulty_snoc {base} line b (odd e) = odd (digits_odd base line b e)

-- One more byte: the line stays good, or it is faulty.
pub data Pushed (base most : ℕ) (line : List ℕ) (b : ℕ) : Type 0 where
  more : Good base most (line ++ (b ∷ [])) → ltb (length line) most ≡ true → is_digit base b ≡ true → Pushed base most line b
  spoilt : Faulty base most (line ++ (b ∷ [])) → ltb (length line) most && is_digit base b ≡ false → Pushed base most line b

pub push_one : (base most : ℕ) (line : List ℕ) (b : ℕ) → Good base most line → Pushed base most line b
push_one base most line b good = go (ltb (length line) most) (is_digit base b) refl refl
  where
    go : (t u : Bool) → ltb (length line) most ≡ t → is_digit base b ≡ u → Pushed base most line b
    go true true e h =
        more (record { digits = digits_snoc base line b good.digits h; short = simp length-append (omega (arith, ltb-true (length line) most e)) }) e h
    go true false e h = spoilt (odd (digits_last base line b h)) (simp (e, h))
    go false u e h = spoilt (long (simp length-append (omega (arith, ltb-false (length line) most e)))) (simp e)

-- So many digits write a number below that power of the base.
shift : (k l : ℕ) → k + suc l ≡ suc k + l
shift k l = omega arith

number_high : (base k n : ℕ) (line : List ℕ) → n < base ^ k → all_digits base line ≡ true → number base n line < base ^ (k + length line)
unfolding number all_digits is_digit
number_high base k n [] h e = rw add-zero h
number_high base k n (b ∷ line) h e =
    let t = and_true (ltb (digit_of b) base) (all_digits base line) e in
    let d = ltb-true (digit_of b) base t.0 in
    let m : suc n * base ≤ base ^ k * base = mul-le-mul_right base h in
    rw (shift k (length line)) (number_high base (suc k) (n * base + digit_of b) line (rw (pow-suc base k) (omega arith)) t.1)

pub below : {base most : ℕ} (line : List ℕ) → Good base most line → number base 0 line < base ^ length line
below {base} line good = rw zero-add at (number_high base 0 0 line (omega (arith, pow-zero base)) good.digits)
