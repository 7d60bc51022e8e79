-- Which of two whole numbers is nearer to a root, by squares, and which multiple of a step is nearest to a number. Assumes nothing.
use Rattle.std.proofs.Common.{◌≡◌, ℕ, zero, suc, ◌+◌, ◌-◌, ◌*◌, ◌/◌, ◌%◌, ◌^◌, ◌<◌, ◌≤◌, Bool, true, false, not, T, eqb, sym, refl, ap, ◌∙◌, subst, inl, inr, le_trans, le_of_eq, lt_of_lt_of_le, lt_of_le_of_lt, add-zero, le_of_lt, lt_irrefl, mul-le-mul_right, mod-lt, mul_assoc, suc-mul, mul-le-mul, lt_of_mul-lt-mul_right, eq-or-lt_of_le, mul-le-mul_left, mul-lt-mul_of_pos_right, mul-pos, div-add-mod', add-one, arith, eqb→eq, leb→le, pow_pos, pow_mono, pow-add, shl_lt}
use Prim.Native.Nat.{compare, Ordering}
use native.Mathlib.Nat.{mul-mul-mul_comm}
use lib.Dec.{is_le, compare_is_eq, nleb→lt, eqb_refl}
use lib.Arith.{lt_of_le-ne}
use lib.Ieee.{nearest}
use lib.Ieee.Nearest.{closest}
use Rattle.ieee.specs.Meaning.{Nearer}
use Rattle.ieee.proofs.Rounding.{under_or_over}

-- ---- squares
square_le : {a b : ℕ} → a ≤ b → a * a ≤ b * b
square_le h = mul-le-mul h h

square_lt : {a b : ℕ} → a < b → a * a < b * b
square_lt {a} {b} h = lt_of_le_of_lt (mul-le-mul_left a (le_of_lt h)) (mul-lt-mul_of_pos_right h (positive a b h))
  where
    positive : (a b : ℕ) → a < b → 0 < b
    positive a b h = omega arith

-- ---- a value m * 2 ^ i of at most so many digits is a multiple of 2 ^ k, or below the place of the leading digit
pub multiple : (m i k : ℕ) → k ≤ i → m * 2 ^ i ≡ m * 2 ^ (i - k) * 2 ^ k
multiple m i k h = ap (λ (j : ℕ). m * 2 ^ j) (back i k h) ∙ ap (λ (z : ℕ). m * z) (pow-add 2 (i - k) k) ∙ sym (mul_assoc m (2 ^ (i - k)) (2 ^ k))
  where
    back : (i k : ℕ) → k ≤ i → i ≡ i - k + k
    back i k h = omega arith

pub beneath : (p m i k : ℕ) → m < 2 ^ suc p → i < k → m * 2 ^ i < 2 ^ p * 2 ^ k
beneath p m i k few h = lt_of_lt_of_le (shl_lt (suc p) i few) (le_trans (pow_mono (ex p i k h)) (le_of_eq (pow-add 2 p k)))
  where
    ex : (p i k : ℕ) → i < k → suc p + i ≤ p + k
    ex p i k h = omega arith

-- ---- c * P is nearest to the root of M * (P * P), where the root of M is between c - 1 / 2 and c + 1 / 2
module _ (c M P : ℕ) (p : 0 < P) where
  pub above : (y : ℕ) → 4 * M < (2 * c + 1) * (2 * c + 1) → (c + 1) * P ≤ y → 4 * (M * (P * P)) < (c * P + y) * (c * P + y)
  above y h g =
      let a : (2 * c + 1) * P ≤ c * P + y = omega arith in
      lt_of_le_of_lt (le_of_eq (sym (mul_assoc 4 M (P * P))))
      (lt_of_lt_of_le (mul-lt-mul_of_pos_right h (mul-pos p p)) (le_trans (le_of_eq (mul-mul-mul_comm (2 * c + 1) (2 * c + 1) P P)) (square_le a)))

  pub below : (d s : ℕ) → d * d < 4 * M → s ≤ d * P → s * s < 4 * (M * (P * P))
  below d s h g =
      lt_of_le_of_lt (square_le g)
      (lt_of_le_of_lt (le_of_eq (sym (mul-mul-mul_comm d d P P))) (lt_of_lt_of_le (mul-lt-mul_of_pos_right h (mul-pos p p)) (le_of_eq (mul_assoc 4 M (P * P)))))

  -- at the least c, where what is below may lie closer than a unit
  pub least : (s : ℕ) → 2 ^ 52 * 2 ^ 52 ≤ M → s < 2 * 2 ^ 52 * P → s * s < 4 * (M * (P * P))
  least s h g =
      lt_of_lt_of_le (square_lt g)
      (le_trans (le_of_eq (sym (mul-mul-mul_comm (2 * 2 ^ 52) (2 * 2 ^ 52) P P)))
      (le_trans (mul-le-mul_right (P * P) (le_trans (le_of_eq refl) (mul-le-mul_left 4 h))) (le_of_eq (mul_assoc 4 M (P * P)))))

-- by where y lies: at a multiple of P, or below 2 ^ 52 * P
module _ (c M P y : ℕ) (p : 0 < P) (c_low : 2 ^ 52 ≤ c) (M_low : 2 ^ 52 * 2 ^ 52 ≤ M) (over : (2 * c - 1) * (2 * c - 1) < 4 * M) (under : 4 * M < (2 * c + 1) * (2 * c + 1)) where
  -- y is P or more below c * P
  down_by_one : y + P ≤ c * P → (c * P + y) * (c * P + y) < 4 * (M * (P * P))
  down_by_one h =
      let e : (2 * c - 1 + 1) * P ≡ 2 * c * P = ap (λ (z : ℕ). z * P) (twice c c_low) in
      below c M P p (2 * c - 1) (c * P + y) over (omega arith)
    where
      twice : (c : ℕ) → 2 ^ 52 ≤ c → 2 * c - 1 + 1 ≡ 2 * c
      twice c h = omega arith

  at_multiple : (q : ℕ) → y ≡ q * P → Nearer (M * (P * P)) (c * P) false y
  at_multiple q e = (
    λ h. above c M P p y under (le_trans (mul-le-mul_right P (next c q (lt_of_mul-lt-mul_right P (lt_of_lt_of_le h (le_of_eq e))))) (le_of_eq (sym e))),
    λ h. let g : (q + 1) * P ≤ c * P = mul-le-mul_right P (next q c (lt_of_mul-lt-mul_right P (lt_of_le_of_lt (le_of_eq (sym e)) h))) in down_by_one (omega arith),
  )
    where
      next : (a b : ℕ) → a < b → a + 1 ≤ b
      next a b h = omega arith

  beneath_all : y < 2 ^ 52 * P → Nearer (M * (P * P)) (c * P) false y
  beneath_all b = (
    λ h. absurd (lt_irrefl (c * P) (lt_of_lt_of_le h (le_trans (le_of_lt b) (mul-le-mul_right P c_low)))),
    λ h. elim (under_or_over (2 ^ 52) c) [
      | inl g ↦ let t : (2 ^ 52 + 1) * P ≤ c * P = mul-le-mul_right P (next c g) in down_by_one (omega arith)
      | inr g ↦ let t : c * P ≤ 2 ^ 52 * P = mul-le-mul_right P g in least c M P p (c * P + y) M_low (omega arith)
    ],
  )
    where
      next : (c : ℕ) → 2 ^ 52 < c → 2 ^ 52 + 1 ≤ c
      next c h = omega arith

  negative : Nearer (M * (P * P)) (c * P) true y
  negative =
      let e : c * P ≤ (2 * c - 1) * P = mul-le-mul_right P (half c c_low) in
      below c M P p (2 * c - 1) (c * P - y) over (omega arith)
    where
      half : (c : ℕ) → 2 ^ 52 ≤ c → c ≤ 2 * c - 1
      half c h = omega arith

pub nearer : (c k M : ℕ) → 2 ^ 52 ≤ c → 2 ^ 52 * 2 ^ 52 ≤ M → (2 * c - 1) * (2 * c - 1) < 4 * M → 4 * M < (2 * c + 1) * (2 * c + 1)
    → (s : Bool) (m i : ℕ) → m < 2 ^ 53 → Nearer (M * (2 ^ k * 2 ^ k)) (c * 2 ^ k) s (m * 2 ^ i)
nearer c k M c_low M_low over under true m i few = negative c M (2 ^ k) (m * 2 ^ i) (pow_pos k) c_low M_low over under
nearer c k M c_low M_low over under false m i few = elim (under_or_over i k) [
  | inl l ↦ beneath_all c M (2 ^ k) (m * 2 ^ i) (pow_pos k) c_low M_low over under (beneath 52 m i k few l)
  | inr g ↦ at_multiple c M (2 ^ k) (m * 2 ^ i) (pow_pos k) c_low M_low over under (m * 2 ^ (i - k)) (multiple m i k g)
]

-- ---- the multiple of G that is nearest to X
pub record Close (X G Q : ℕ) : Type 0 where
  pub over : 2 * (Q * G) ≤ 2 * X + G
  pub under : 2 * X ≤ 2 * (Q * G) + G
  pub tie_over : 2 * (Q * G) ≡ 2 * X + G → Q % 2 ≡ 0
  pub tie_under : 2 * X ≡ 2 * (Q * G) + G → Q % 2 ≡ 0

abbrev Cmp : Ordering → ℕ → ℕ → Type 0
Cmp Ordering.lt a b = a < b
Cmp Ordering.eq a b = a ≡ b
Cmp Ordering.gt a b = b < a

cmp : (a b : ℕ) → Cmp (compare a b) a b
cmp a b = go (compare a b) (leb→le a b) (nleb→lt a b) (eqb→eq a b) (λ (e : a ≡ b). subst (λ (x : ℕ). T (eqb a x)) e (eqb_refl a))
  where
    go : (o : Ordering) → (T (is_le o) → a ≤ b) → (T (not (is_le o)) → b < a) → (T (compare_is_eq o) → a ≡ b) → (a ≡ b → T (compare_is_eq o)) → Cmp o a b
    go Ordering.lt h k e n = lt_of_le-ne (h tt) n
    go Ordering.eq h k e n = e tt
    go Ordering.gt h k e n = k tt

by_cmp : (X G w t : ℕ) (o : Ordering) → 0 < G → t < G → w * G + t ≡ X → Cmp o (t * 2) G → Close X G (nearest w o)
by_cmp X G w t Ordering.lt g l e h = record { over = omega arith; under = omega arith; tie_over = λ z. absurd (omega arith); tie_under = λ z. absurd (omega arith) }
by_cmp X G w t Ordering.gt g l e h =
    let s : suc w * G ≡ w * G + G = suc-mul w G in
    record { over = omega arith; under = omega arith; tie_over = λ z. absurd (omega arith); tie_under = λ z. absurd (omega arith) }
by_cmp X G w t Ordering.eq g l e h = by_parity (w % 2) refl
  where
    by_parity : (b : ℕ) → w % 2 ≡ b → Close X G (w + b)
    by_parity zero r =
        let s : (w + 0) * G ≡ w * G = ap (λ (z : ℕ). z * G) (add-zero w) in
        record { over = omega arith; under = omega arith; tie_over = λ z. absurd (omega arith); tie_under = λ z. omega arith }
    by_parity (suc zero) r =
        let s : (w + 1) * G ≡ w * G + G = ap (λ (z : ℕ). z * G) (add-one w) ∙ suc-mul w G in
        record { over = omega arith; under = omega arith; tie_over = λ z. omega arith; tie_under = λ z. absurd (omega arith) }
    by_parity (suc (suc b)) r = absurd (omega arith)

pub close : (X G : ℕ) → 0 < G → Close X G (closest X G)
close X G g = by_cmp X G (X / G) (X % G) (compare (X % G * 2) G) g (mod-lt X g) (div-add-mod' X G) (cmp (X % G * 2) G)

-- how far apart two numbers are
abbrev pub apart : ℕ → ℕ → ℕ
apart a b = (a - b) + (b - a)

-- the nearest multiple is as near as any other, and where another is as near it is even
pub as_near : (X G Q q : ℕ) → Close X G Q → apart X (Q * G) ≤ apart X (q * G)
as_near X G Q q n = elim (under_or_over q Q) [
  | inl l ↦ let a : (q + 1) * G ≤ Q * G = mul-le-mul_right G (next q Q l) in omega (arith, n.over, n.under)
  | inr g ↦ elim (eq-or-lt_of_le g) [
    | inl e ↦ le_of_eq (ap (λ (z : ℕ). apart X (z * G)) e)
    | inr l ↦ let a : (Q + 1) * G ≤ q * G = mul-le-mul_right G (next Q q l) in omega (arith, n.over, n.under)
  ]
]
  where
    next : (a b : ℕ) → a < b → a + 1 ≤ b
    next a b h = omega arith

pub tie_even : (X G Q q : ℕ) → 0 < G → Close X G Q → apart X (Q * G) ≡ apart X (q * G) → (q ≡ Q → ⊥) → Q % 2 ≡ 0
tie_even X G Q q g n e d = elim (under_or_over q Q) [
  | inl l ↦ let a : (q + 1) * G ≤ Q * G = mul-le-mul_right G (next q Q l) in n.tie_over (omega (arith, n.over, n.under))
  | inr h ↦ elim (eq-or-lt_of_le h) [
    | inl s ↦ absurd (d (sym s))
    | inr l ↦ let a : (Q + 1) * G ≤ q * G = mul-le-mul_right G (next Q q l) in n.tie_under (omega (arith, n.over, n.under))
  ]
]
  where
    next : (a b : ℕ) → a < b → a + 1 ≤ b
    next a b h = omega arith
