-- The score watch reads each line of the load as the score that it was written for. Assumes nothing.
use mathlib.Core.Path.{◌≡◌, refl, ap₂, ◌∙◌}
use mathlib.Core.Bool.{Bool, true, false, cond}
use mathlib.Core.List.{List, [], ◌∷◌, ◌++◌}
use Prim.Native.Nat.{ℕ, zero, suc, ◌+◌, ◌*◌, ◌/◌, ◌%◌, ◌^◌, ◌≤◌, ◌<◌}
use native.Mathlib.Nat.{mod-lt, div-add-mod', div-lt_iff_lt-mul, pow-suc}
use native.Mathlib.Omega.{arith}
use lib.Dec.{ltb, eqb}
use lib.Ieee.{Float, binary32, to_bits}
use lib.Ieee.Bits.{of_bits-to_bits, to_bits-lt, is_true}
use lib.Ieee.Scale.{finite}
use borrow.Author.Tests.{lt-ltb, le-leb, lt-leb, ne_eqb, ltb-true, ltb-false}
use Rattle.io.specs.Digits.{hex_digit_ascii, last_digits}
use Rattle.score_rows.specs.Text.{bits}
use Rattle.std.specs.Prelude.{Some}
use Rattle.score_lines.specs.Output.{digit_of, is_digit, all_digits, number, finite_only, read_line, lines_from}
use Rattle.score_lines.proofs.Numbers.{number_snoc}
use Rattle.training_lines.specs.Output.{score_line}
use Rattle.training_ledger.proofs.Scores.{Sound}

-- ---- a digit
by_case : (d : ℕ) (t : Bool) → d < 16 → ltb d 10 ≡ t → digit_of (cond t (48 + d) (87 + d)) ≡ d
unfolding digit_of
by_case d true h e =
    let l = ltb-true d 10 e in
    simp (le-leb 48 (48 + d) (omega arith), le-leb (48 + d) 57 (omega arith)) (omega arith)
by_case d false h e =
    let l = ltb-false d 10 e in
    simp (le-leb 48 (87 + d) (omega arith), lt-leb (87 + d) 57 (omega arith), le-leb 65 (87 + d) (omega arith), lt-leb (87 + d) 70 (omega arith), le-leb 97 (87 + d) (omega arith), le-leb (87 + d) 102 (omega arith)) (omega arith)

digit_back : (n : ℕ) → digit_of (hex_digit_ascii (n % 16)) ≡ n % 16
digit_back n = by_case (n % 16) (ltb (n % 16) 10) (mod-lt n (omega arith)) refl

is_digit_lem : (n : ℕ) → is_digit 16 (hex_digit_ascii (n % 16)) ≡ true
unfolding is_digit
is_digit_lem n = lt-ltb (digit_of (hex_digit_ascii (n % 16))) 16 (rw (digit_back n) (mod-lt n (omega arith)))

apart : (t : Bool) (d : ℕ) → cond t (48 + d) (87 + d) ≡ 10 → ⊥
apart true d e = omega arith
apart false d e = omega arith

no_line_end : (n : ℕ) → eqb (hex_digit_ascii (n % 16)) 10 ≡ false
no_line_end n = ne_eqb (hex_digit_ascii (n % 16)) 10 (apart (ltb (n % 16) 10) (n % 16))

-- ---- eight digits
all_digits_lem : (x : Float) → all_digits 16 (bits x) ≡ true
unfolding all_digits bits
all_digits_lem x = simp is_digit_lem

number_back : (k n : ℕ) → n < 16 ^ k → number 16 0 (last_digits 16 k n) ≡ n
unfolding number
number_back zero n h = omega arith
number_back (suc k) n h =
    number_snoc 16 0 (last_digits 16 k (n / 16)) (hex_digit_ascii (n % 16))
    ∙ ap₂ (λ (a b : ℕ). a * 16 + b) (number_back k (n / 16) ((div-lt_iff_lt-mul {k = 16} {x = n} {y = 16 ^ k} (omega arith)).1 (rw (pow-suc 16 k) at h))) (digit_back n)
    ∙ div-add-mod' n 16

-- ---- a line
pub read : (x : Float) → Sound x → (n : ℕ) → n ≤ 65536 → read_line n (bits x) ≡ Some x
unfolding read_line finite_only bits
read x s n h =
    simp (le-leb n 65536 h, all_digits_lem x, number_back 8 (to_bits binary32 x) (to_bits-lt binary32 x s.held), of_bits-to_bits binary32 x s.held, is_true (finite x) s.finite)

pub first_line : (x : Float) (rest : List ℕ) → lines_from [] (score_line x ++ rest) ≡ bits x ∷ lines_from [] rest
unfolding lines_from score_line bits
first_line x rest = simp no_line_end
