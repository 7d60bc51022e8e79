-- A line's bytes and the number that the run keeps of them: the digits behind a leading 1. Assumes nothing.
use mathlib.Core.Path.{◌≡◌, refl, sym, ap, ◌∙◌}
use mathlib.Core.Bool.{Bool, true, false, cond, ◌&&◌}
use mathlib.Core.List.{List, [], ◌∷◌, ◌++◌}
use Prim.Native.Nat.{ℕ, ◌+◌, ◌-◌, ◌*◌, ◌^◌, ◌≤◌, ◌<◌}
use native.Mathlib.Nat.{pow-suc, mul_assoc, mul_comm, pow-le-pow_right, one-mul, le_antisymm, lt_of_not-le}
use native.Mathlib.Omega.{arith}
use lib.Dec.{leb, ltb, eqb}
use lib.ListN.{length}
use lib.Ieee.{of_bits, binary32}
use borrow.Author.Tests.{lt-ltb, le-ltb, le-leb, lt-leb, ne_eqb, ltb-true, ltb-false, eqb-true, eqb-false}
use Rattle.std.specs.Prelude.{None}
use Rattle.score_lines.specs.Output.{digit_of, is_digit, all_digits, number, finite_only, read_line}
use Rattle.score_lines.specs.Feeding.{line_of, pushed}
use Rattle.score_lines.proofs.Numbers.{Good, Faulty, long, odd, and_no, number_snoc, below}

-- Behind the leading 1 is what the digits write.
number_split : (a n : ℕ) (line : List ℕ) → number 16 (a + n) line ≡ a * 16 ^ length line + number 16 n line
unfolding number
number_split a n [] = omega arith
number_split a n (b ∷ line) =
    ap (λ (m : ℕ). number 16 m line) (move a n (digit_of b)) ∙ number_split (a * 16) (n * 16 + digit_of b) line
    ∙ ap (λ (m : ℕ). m + number 16 (n * 16 + digit_of b) line) (mul_assoc a 16 (16 ^ length line) ∙ ap (λ (m : ℕ). a * m) (mul_comm 16 (16 ^ length line) ∙ sym (pow-suc 16 (length line))))
  where
    move : (a n d : ℕ) → (a + n) * 16 + d ≡ a * 16 + (n * 16 + d)
    move a n d = omega arith

-- The run's number of a line of digits.
module _ (line : List ℕ) (good : Good 16 8 line) where
  behind : number 16 1 line ≡ 16 ^ length line + number 16 0 line
  behind = number_split 1 0 line ∙ ap (λ (m : ℕ). m + number 16 0 line) (one-mul (16 ^ length line))

  part_room : length line < 8 → number 16 1 line < 0x1_0000_0000
  part_room h =
      let p : 16 ^ length line ≤ 16 ^ 7 = pow-le-pow_right {n = 16} (omega arith) {i = length line} {j = 7} (omega arith) in
      omega (arith, p, behind, below line good)

  pub part_positive : 1 ≤ number 16 1 line
  part_positive = let p : 16 ^ 0 ≤ 16 ^ length line = pow-le-pow_right {n = 16} (omega arith) {i = 0} {j = length line} (omega arith) in omega (arith, p, behind)

  pub part_begun : 0 < length line → 16 ≤ number 16 1 line
  part_begun h = let p : 16 ^ 1 ≤ 16 ^ length line = pow-le-pow_right {n = 16} (omega arith) {i = 1} {j = length line} (omega arith) in omega (arith, p, behind)

  part_full : length line ≡ 8 → (number 16 1 line ≡ 0x1_0000_0000 + number 16 0 line) × (number 16 0 line < 0x1_0000_0000)
  part_full e = let p : 16 ^ length line ≡ 0x1_0000_0000 = ap (λ (k : ℕ). 16 ^ k) e in (omega (arith, p, behind), omega (arith, p, below line good))

  few_lines : (m : ℕ) (t : Bool) → ltb m 65536 ≡ t → leb (m + 1) 65536 ≡ t
  few_lines m true e = let h = ltb-true m 65536 e in le-leb (m + 1) 65536 (omega arith)
  few_lines m false e = let h = ltb-false m 65536 e in lt-leb (m + 1) 65536 (omega arith)

  -- What a line holds is read off its number.
  pub read : (m : ℕ) → read_line (m + 1) line ≡ line_of m (number 16 1 line)
  unfolding read_line line_of
  read m = rw (few_lines m (ltb m 65536) refl) (by_length (eqb (length line) 8) refl)
    where
      by_length : (t : Bool) → eqb (length line) 8 ≡ t
          → cond (ltb m 65536 && (eqb (length line) 8 && all_digits 16 line)) (finite_only (of_bits binary32 (number 16 0 line))) None
          ≡ cond (ltb m 65536 && (leb 0x1_0000_0000 (number 16 1 line) && ltb (number 16 1 line) 0x2_0000_0000)) (finite_only (of_bits binary32 (number 16 1 line - 0x1_0000_0000))) None
      by_length true e =
          let f = part_full (eqb-true (length line) 8 e) in
          simp (e, good.digits, le-leb 0x1_0000_0000 (number 16 1 line) (omega (arith, f)), lt-ltb (number 16 1 line) 0x2_0000_0000 (omega (arith, f)))
          (ap (λ (k : ℕ). cond (ltb m 65536 && true) (finite_only (of_bits binary32 k)) None) (omega (arith, f)))
      by_length false e =
          let h = eqb-false (length line) 8 e in
          let l : length line < 8 = lt_of_not-le (λ le. h (le_antisymm good.short le)) in
          simp (e, lt-leb 0x1_0000_0000 (number 16 1 line) (part_room l), and_no (ltb m 65536))

-- A faulty line is none that holds a score.
pub read_faulty : (n : ℕ) (line : List ℕ) → Faulty 16 8 line → read_line n line ≡ None
unfolding read_line
read_faulty n line (long h) = simp (ne_eqb (length line) 8 (λ e. omega arith), and_no (leb n 65536))
read_faulty n line (odd e) = simp (e, and_no (eqb (length line) 8), and_no (leb n 65536))

-- One more byte, where the line stays good and where it does not.
module _ (line : List ℕ) (b : ℕ) (good : Good 16 8 line) where
  same_room : (t : Bool) → ltb (length line) 8 ≡ t → ltb (number 16 1 line) 0x1_0000_0000 ≡ t
  same_room true e = lt-ltb (number 16 1 line) 0x1_0000_0000 (part_room line good (ltb-true (length line) 8 e))
  same_room false e =
      let f = part_full line good (le_antisymm good.short (ltb-false (length line) 8 e)) in
      le-ltb (number 16 1 line) 0x1_0000_0000 (omega (arith, f))

  pub pushed_more : ltb (length line) 8 ≡ true → is_digit 16 b ≡ true → pushed (number 16 1 line) b ≡ number 16 1 (line ++ (b ∷ []))
  unfolding pushed is_digit
  pushed_more e h = simp (same_room true e, h) (sym (number_snoc 16 1 line b))

  pub pushed_spoilt : ltb (length line) 8 && is_digit 16 b ≡ false → pushed (number 16 1 line) b ≡ 0
  unfolding pushed is_digit
  pushed_spoilt e = simp (same_room (ltb (length line) 8) refl, e)
