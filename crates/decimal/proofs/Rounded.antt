-- The pattern that `pattern` writes is that of the fraction rounded. Assumes nothing.
use mathlib.Core.Path.{◌≡◌, refl, sym, ap, ◌∙◌, subst}
use Prim.Native.Nat.{ℕ, suc, ◌+◌, ◌-◌, ◌*◌, ◌%◌, ◌^◌, ◌≤◌, ◌<◌, Ordering}
use native.Mathlib.Nat.{le_trans, le_of_eq, lt_of_le_of_lt, mul_assoc, mul-pos, mul-le-mul_right, mul-lt-mul_of_pos_right, one-mul, mul-one, zero-add, mod-lt, one-le-pow}
use native.Mathlib.Omega.{arith}
use mathlib.Core.Bool.{false}
use lib.Dec.{lit<}
use lib.Pow.{pow-add, pow_pos}
use lib.Ieee.{binary32, of_bits, round, nearest}
use lib.Ieee.Nearest.{closest, closest_same}
use lib.Ieee.Scale.{round_same}
use Rattle.ieee.proofs.Pattern.{pow_lt_back}
use Rattle.ieee.proofs.Rounding.{rounded_pattern, Q_le}
use Rattle.ieee.proofs.Half.{Cmp}

-- zero
pub zero_rounded : (d : ℕ) → 0 < d → round binary32 false 0 d ≡ of_bits binary32 0
unfolding of_bits round
zero_rounded d D = round_same binary32 false 0 d 0 1 D (lit< tt) (sym (zero_mul' d)) ∙ refl
  where
    zero_mul' : (d : ℕ) → 0 * d ≡ 0 * 1
    zero_mul' d = omega arith

pub ten_pos : (k : ℕ) → 0 < 10 ^ k
ten_pos k = one-le-pow k 10 (lit< tt)

pub bit : (a : ℕ) → a % 2 < 2
bit a = mod-lt a (lit< tt)

-- a in units of ten * 256, to the nearest
abbrev pub Digits : ℕ → ℕ → ℕ
Digits ten a = closest a (2 * (ten * 128))

-- how a remainder r of twice h rounds the whole part q
pub by_half : (q r h : ℕ) (o : Ordering) → Cmp o (r * 2) (2 * h) → (r + q % 2 ≤ h → q ≡ nearest q o) × (h < r + q % 2 → q + 1 ≡ nearest q o)
by_half q r h Ordering.lt c = (λ _. refl, λ l. absurd (omega (arith, bit q)))
by_half q r h Ordering.eq c = (λ l. omega (arith, bit q), λ l. omega (arith, bit q))
by_half q r h Ordering.gt c = (λ l. absurd (omega arith), λ _. omega arith)

-- ---- the loop: a is n doubled 157 - field times
abbrev pub Doubled : ℕ → ℕ → ℕ → Type 0
Doubled n a field = a ≡ n * 2 ^ (157 - field)

pub begun : (n : ℕ) → Doubled n n 157
begun n = sym (mul-one n)

-- it is doubled less than 59 times
few : (n a j : ℕ) → 1 ≤ n → a ≡ n * 2 ^ j → a < 2 ^ 59 → j < 59
few n a j N e h = pow_lt_back j 59 (lt_of_le_of_lt (le_trans (le_of_eq (sym (one-mul (2 ^ j)))) (mul-le-mul_right (2 ^ j) N)) (subst (λ (x : ℕ). x < 2 ^ 59) e h))

pub field_above : (n ten a field : ℕ) → 1 ≤ n → ten ≤ 1_000_000 → field ≤ 157 → Doubled n a field → a < ten * 256 * 0x80_0000 → 98 < field
field_above n ten a field N T F e h = go (157 - field) (few n a (157 - field) N e (small ten a T h)) refl
  where
    small : (ten a : ℕ) → ten ≤ 1_000_000 → a < ten * 256 * 0x80_0000 → a < 2 ^ 59
    small ten a T h = omega arith

    go : (j : ℕ) → j < 59 → j ≡ 157 - field → 98 < field
    go j h e = omega arith

pub doubled_by : (k n a field : ℕ) → k ≤ field → field ≤ 157 → Doubled n a field → Doubled n (a * 2 ^ k) (field - k)
doubled_by k n a field h F e =
    ap (λ (x : ℕ). x * 2 ^ k) e ∙ mul_assoc n (2 ^ (157 - field)) (2 ^ k) ∙ ap (λ (x : ℕ). n * x) (sym (pow-add 2 (157 - field) k))
    ∙ ap (λ (x : ℕ). n * 2 ^ x) (more field h F)
  where
    more : (field : ℕ) → k ≤ field → field ≤ 157 → 157 - field + k ≡ 157 - (field - k)
    more field h F = omega arith

-- ---- the end of it
module _ (n ten a field : ℕ) (N : 1 ≤ n) (D : 1 ≤ ten) (F : field ≤ 157) (e : Doubled n a field) (lo : ten * 256 * 0x80_0000 ≤ a) (hi : a < ten * 256 * 2 ^ 24) where
  -- in one unit: n / ten in units of 2 ^ -149, and a in those of 2 ^ field
  same : n * 2 ^ 149 * 2 ^ 8 ≡ a * 2 ^ field
  same =
      mul_assoc n (2 ^ 149) (2 ^ 8) ∙ ap (λ (x : ℕ). n * x) (sym (pow-add 2 149 8) ∙ ap (λ (x : ℕ). 2 ^ x) (whole field F) ∙ pow-add 2 (157 - field) field)
      ∙ sym (mul_assoc n (2 ^ (157 - field)) (2 ^ field)) ∙ ap (λ (x : ℕ). x * 2 ^ field) (sym e)
    where
      whole : (field : ℕ) → field ≤ 157 → 149 + 8 ≡ 157 - field + field
      whole field h = omega arith

  above : 2 ^ 23 * (ten * 2 ^ field) ≤ n * 2 ^ 149
  above = go (n * 2 ^ 149) ten (2 ^ field) a same (mul-le-mul_right (2 ^ field) lo)
    where
      go : (x t p a : ℕ) → x * 2 ^ 8 ≡ a * p → t * 256 * 0x80_0000 * p ≤ a * p → 2 ^ 23 * (t * p) ≤ x
      go x t p a e h = omega arith

  below : n * 2 ^ 149 < 2 ^ 24 * (ten * 2 ^ field)
  below = go (n * 2 ^ 149) ten (2 ^ field) a same (mul-lt-mul_of_pos_right hi (pow_pos field))
    where
      go : (x t p a : ℕ) → x * 2 ^ 8 ≡ a * p → a * p < t * 256 * 2 ^ 24 * p → x < 2 ^ 24 * (t * p)
      go x t p a e h = omega arith

  kept : closest (n * 2 ^ 149) (ten * 2 ^ field) ≡ Digits ten a
  kept =
      closest_same (n * 2 ^ 149) (ten * 2 ^ field) a (2 * (ten * 128)) (mul-pos D (pow_pos field)) (pos ten D) (go (n * 2 ^ 149) ten (2 ^ field) a same)
    where
      pos : (t : ℕ) → 1 ≤ t → 0 < 2 * (t * 128)
      pos t h = omega arith

      go : (x t p a : ℕ) → x * 2 ^ 8 ≡ a * p → x * (2 * (t * 128)) ≡ a * (t * p)
      go x t p a e =
          let q : x * 2 ^ 8 * t ≡ a * p * t = ap (λ (z : ℕ). z * t) e in
          omega arith

  small : (f : ℕ) → f ≤ 157 → suc f < 255
  small f h = omega arith

  pub pattern_is : of_bits binary32 (field * 0x80_0000 + Digits ten a) ≡ round binary32 false n ten
  pattern_is =
      ap (of_bits binary32) (sym (zero-add (field * 0x80_0000 + Digits ten a)))
      ∙ rounded_pattern binary32 false n ten field (Digits ten a) D below (λ _. above) kept (small field F)

  pub digits_most : Digits ten a ≤ 2 ^ 24
  digits_most = Q_le binary32 false n ten field (Digits ten a) D below (λ _. above) kept (small field F)
