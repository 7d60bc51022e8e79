-- What `to_f32` answers: the value nearest to the fraction, a tie to the even one, and of a size that the ledger takes. Assumes nothing.
use mathlib.Core.Path.{◌≡◌, refl, sym, ap, ◌∙◌, subst}
use mathlib.Core.Logic.{inl, inr}
use Prim.Native.Nat.{ℕ, zero, suc, ◌+◌, ◌-◌, ◌*◌, ◌/◌, ◌%◌, ◌^◌, ◌≤◌, ◌<◌, compare, Ordering}
use native.Mathlib.Nat.{le_trans, le_of_eq, le_antisymm, lt_of_lt_of_le, lt_of_le_of_lt, mul_assoc, mul_comm, mul_right_comm, mul-pos, mul-le-mul_right, mul-lt-mul_of_pos_right, le_of_mul-le-mul_right, mod-lt, div-add-mod', mul-sub, add-mul, le-div_iff_mul-le, div-div-eq-div-mul, one-le-pow, pow-le-pow_right, one-mul, zero-lt-suc}
use native.Mathlib.Omega.{arith}
use mathlib.Core.Bool.{Bool, false, not}
use lib.Dec.{T, lit<}
use lib.IntN.{pos, negsuc}
use lib.Pow.{pow-add, pow_pos, pow_mono}
use lib.Ieee.{Float, nan, inf, fin, Format, binary32, prec, emax, low, hid, top, size, round, is_nan, to_bits, of_bits, nearest, le}
use lib.Ieee.Digits.{size_reaches}
use lib.Ieee.Fits.{two, two-le_pos, round-fits, nearest-le, kept-lt}
use lib.Ieee.Bits.{to_bits-of_bits}
use lib.Ieee.Exact.{HasValue}
use lib.Ieee.Nearest.{closest, nearest-ge}
use lib.Ieee.Order.{drop, kept, round_mono}
use lib.Ieee.Scale.{overflow, finite, round_val, round_under}
use lib.Ieee.Positive.{num, den, den_pos, positive, positive-finite, between, le→cross}
use Rattle.ieee.proofs.Half.{Cmp, cmp}
use Rattle.ieee.proofs.Pattern.{pattern, write, pow_lt_back}
use Rattle.ieee.proofs.Values.{in_units}
use Rattle.ieee.proofs.Rounding.{under_or_over}
use Rattle.decimal.proofs.Rounded.{zero_rounded}
use Rattle.decimal.specs.Nearest.{apart, Nearest, NearestDecimal}

-- ---- the nearest whole number: at most a half away, and even where it is just that
record Halfway (q a b : ℕ) : Type 0 where
  lo : 2 * (q * b) ≤ 2 * a + b
  hi : 2 * a ≤ 2 * (q * b) + b
  lo_even : 2 * (q * b) ≡ 2 * a + b → q % 2 ≡ 0
  hi_even : 2 * a ≡ 2 * (q * b) + b → q % 2 ≡ 0

halfway_at : (q r b : ℕ) (o : Ordering) → r < b → Cmp o (r * 2) b → Halfway (nearest q o) (q * b + r) b
halfway_at q r b Ordering.lt l c = record { lo = omega arith; hi = omega arith; lo_even = λ e. absurd (omega arith); hi_even = λ e. absurd (omega arith) }
halfway_at q r b Ordering.eq l c = go (q % 2) refl (let m : q % 2 < 2 = mod-lt q (lit< tt) in omega arith)
  where
    go : (t : ℕ) → q % 2 ≡ t → t ≤ 1 → Halfway (q + t) (q * b + r) b
    go zero e h = record { lo = omega arith; hi = omega arith; lo_even = λ _. omega arith; hi_even = λ _. omega arith }
    go (suc zero) e h = record { lo = omega arith; hi = omega arith; lo_even = λ _. omega arith; hi_even = λ _. omega arith }
    go (suc (suc t)) e h = absurd (omega arith)
halfway_at q r b Ordering.gt l c = record { lo = omega arith; hi = omega arith; lo_even = λ e. absurd (omega arith); hi_even = λ e. absurd (omega arith) }

halfway : (a b : ℕ) → 0 < b → Halfway (closest a b) a b
halfway a b B = subst (λ (x : ℕ). Halfway (closest a b) x b) (div-add-mod' a b) (halfway_at (a / b) (a % b) b (compare (a % b * 2) b) (mod-lt a B) (cmp (a % b * 2) b))

-- ---- no multiple of the unit b is nearer
module _ (q a b w : ℕ) (h : Halfway q a b) where
  above : q < w → (apart (q * b) a ≤ apart (w * b) a) × (apart (q * b) a ≡ apart (w * b) a → q % 2 ≡ 0)
  above l =
      let m : suc q * b ≤ w * b = mul-le-mul_right b l in
      (near (q * b) (w * b) (grown m) h.lo h.hi, λ e. h.hi_even (tie (q * b) (w * b) (grown m) h.lo h.hi e))
    where
      grown : suc q * b ≤ w * b → q * b + b ≤ w * b
      grown m = omega arith

      near : (x y : ℕ) → x + b ≤ y → 2 * x ≤ 2 * a + b → 2 * a ≤ 2 * x + b → apart x a ≤ apart y a
      near x y l m n = omega arith

      tie : (x y : ℕ) → x + b ≤ y → 2 * x ≤ 2 * a + b → 2 * a ≤ 2 * x + b → apart x a ≡ apart y a → 2 * a ≡ 2 * x + b
      tie x y l m n e = omega arith

  under : w < q → (apart (q * b) a ≤ apart (w * b) a) × (apart (q * b) a ≡ apart (w * b) a → q % 2 ≡ 0)
  under l =
      let m : suc w * b ≤ q * b = mul-le-mul_right b l in
      (near (q * b) (w * b) (grown m) h.lo h.hi, λ e. h.lo_even (tie (q * b) (w * b) (grown m) h.lo h.hi e))
    where
      grown : suc w * b ≤ q * b → w * b + b ≤ q * b
      grown m = omega arith

      near : (x y : ℕ) → y + b ≤ x → 2 * x ≤ 2 * a + b → 2 * a ≤ 2 * x + b → apart x a ≤ apart y a
      near x y l m n = omega arith

      tie : (x y : ℕ) → y + b ≤ x → 2 * x ≤ 2 * a + b → 2 * a ≤ 2 * x + b → apart x a ≡ apart y a → 2 * x ≡ 2 * a + b
      tie x y l m n e = omega arith

  multiple : (apart (q * b) a ≤ apart (w * b) a) × ((q * b ≡ w * b → ⊥) → apart (q * b) a ≡ apart (w * b) a → q % 2 ≡ 0)
  multiple = elim (under_or_over q w) [
    | inl l ↦ ((above l).0, λ _. (above l).1)
    | inr g ↦ elim (under_or_over w q) [
      | inl l ↦ ((under l).0, λ _. (under l).1)
      | inr k ↦
          let e : q ≡ w = le_antisymm k g in
          (le_of_eq (ap (λ (x : ℕ). apart (x * b) a) e), λ n _. absurd (n (ap (λ (x : ℕ). x * b) e)))
    ]
  ]

-- ---- nor is what lies below the multiple h of the unit, which is not above the fraction
below_all : (x v a u : ℕ) → u < v → v ≤ a → apart x a ≤ apart v a → (apart x a ≤ apart u a) × (apart x a ≡ apart u a → ⊥)
below_all x v a u l h n = (omega arith, λ e. omega arith)

-- ---- fractions in units
sub_mul : (a b c : ℕ) → (a - b) * c ≡ a * c - b * c
sub_mul a b c = mul_comm (a - b) c ∙ mul-sub c a b ∙ ap (λ (x : ℕ). x - c * b) (mul_comm c a) ∙ ap (λ (x : ℕ). a * c - x) (mul_comm c b)

apart_mul : (a b c : ℕ) → apart a b * c ≡ apart (a * c) (b * c)
apart_mul a b c = add-mul (a - b) (b - a) c ∙ ap (λ (x : ℕ). x + (b - a) * c) (sub_mul a b c) ∙ ap (λ (x : ℕ). a * c - b * c + x) (sub_mul b a c)

-- p / q is u / l
scaled : (p q u n d l : ℕ) → p * l ≡ u * q → apart (p * d) (n * q) * l ≡ apart (u * d) (n * l) * q
scaled p q u n d l e =
    apart_mul (p * d) (n * q) l
    ∙ ap (λ (x : ℕ). apart x (n * q * l)) (mul_right_comm p d l ∙ ap (λ (x : ℕ). x * d) e ∙ mul_right_comm u q d)
    ∙ ap (λ (x : ℕ). apart (u * d * q) x) (mul_right_comm n q l)
    ∙ sym (apart_mul (u * d) (n * l) q)

cancel : (a b c : ℕ) → 0 < c → a * c ≡ b * c → a ≡ b
cancel a b c C e = le_antisymm (le_of_mul-le-mul_right (le_of_eq e) C) (le_of_mul-le-mul_right (le_of_eq (sym e)) C)

module _ (p q r s x y n d l : ℕ) (L : 0 < l) (Q : 0 < q) (S : 0 < s) (D : 0 < d) (e : p * l ≡ x * q) (g : r * l ≡ y * s) where
  left : apart (p * d) (n * q) * s * l ≡ apart (x * d) (n * l) * (q * s)
  left = mul_right_comm (apart (p * d) (n * q)) s l ∙ ap (λ (z : ℕ). z * s) (scaled p q x n d l e) ∙ mul_assoc (apart (x * d) (n * l)) q s

  right : apart (r * d) (n * s) * q * l ≡ apart (y * d) (n * l) * (q * s)
  right =
      mul_right_comm (apart (r * d) (n * s)) q l ∙ ap (λ (z : ℕ). z * q) (scaled r s y n d l g)
      ∙ mul_assoc (apart (y * d) (n * l)) s q ∙ ap (λ (z : ℕ). apart (y * d) (n * l) * z) (mul_comm s q)

  nearer : apart (x * d) (n * l) ≤ apart (y * d) (n * l) → apart (p * d) (n * q) * s ≤ apart (r * d) (n * s) * q
  nearer h = le_of_mul-le-mul_right (le_trans (le_of_eq left) (le_trans (mul-le-mul_right (q * s) h) (le_of_eq (sym right)))) L

  as_near : apart (p * d) (n * q) * s ≡ apart (r * d) (n * s) * q → apart (x * d) (n * l) ≡ apart (y * d) (n * l)
  as_near h = cancel (apart (x * d) (n * l)) (apart (y * d) (n * l)) (q * s) (mul-pos Q S) (sym left ∙ ap (λ (z : ℕ). z * l) h ∙ right)

  other : (p * s ≡ r * q → ⊥) → x * d ≡ y * d → ⊥
  other differ h =
      let same : x ≡ y = cancel x y d D h in
      differ (cancel (p * s) (r * q) l L
      (mul_right_comm p s l ∙ ap (λ (z : ℕ). z * s) e ∙ mul_right_comm x q s ∙ ap (λ (z : ℕ). z * s * q) same ∙ ap (λ (z : ℕ). z * q) (sym g) ∙ mul_right_comm r l q))

-- ---- a finite value and its fraction
own : (y : Float) → T (finite y) → (s : Bool) × HasValue y s (num y) (den y)
own nan h = absurd h
own (inf s) h = absurd h
own (fin s m e) h = (s, (refl, refl))

cross : (y : Float) (s : Bool) (a c : ℕ) → HasValue y s a c → num y * c ≡ a * den y
cross nan s a c h = absurd h
cross (inf t) s a c h = absurd h
cross (fin t m e) s a c h = h.1

plus_value : (x : Float) (a c : ℕ) → HasValue x false a c → HasValue x false (num x) (den x)
plus_value nan a c h = absurd h
plus_value (inf t) a c h = absurd h
plus_value (fin t m e) a c h = (h.0, refl)

no_nan : (x : Float) → T (finite x) → T (not (is_nan x))
unfolding is_nan
no_nan nan h = absurd h
no_nan (inf t) h = absurd h
no_nan (fin t m e) h = tt

-- ---- the whole
module _ (f : Format) (n d : ℕ) (D : 0 < d) (fin-x : T (finite (round f false n d))) where
  abbrev A : ℕ
  A = n * 2 ^ low f

  abbrev k : ℕ
  k = drop (prec f) A d

  abbrev Q : ℕ
  Q = kept (prec f) A d

  abbrev x : Float
  x = round f false n d

  unit_pos : 0 < d * 2 ^ k
  unit_pos = mul-pos D (pow_pos k)

  within : Q * 2 ^ k < overflow f
  within = round_under f n d fin-x

  val : HasValue x false (Q * 2 ^ k) (2 ^ low f)
  val = round_val f n d within

  -- where digits are dropped, all that the format keeps are in use
  gap : 0 < k → hid f * (d * 2 ^ k) ≤ A
  gap K =
      le_trans (le_of_eq (ap (λ (z : ℕ). hid f * z) (mul_comm d (2 ^ k)) ∙ sym (mul_assoc (hid f) (2 ^ k) d)))
      ((le-div_iff_mul-le D).0 (le_trans (le_of_eq (sym (pow-add 2 (prec f - 1) k))) (size_reaches (A / d) (prec f - 1 + k) (used (size (A / d)) (prec f) (two-le_pos (prec f) (two f)) K))))
    where
      used : (z p : ℕ) → 0 < p → 0 < z - p → p - 1 + (z - p) < z
      used z p P h = omega arith

  Q_ge : 0 < k → hid f ≤ Q
  Q_ge K = le_trans ((le-div_iff_mul-le unit_pos).1 (gap K)) (nearest-ge (A / (d * 2 ^ k)) (compare (A % (d * 2 ^ k) * 2) (d * 2 ^ k)))

  Q_le : Q ≤ 2 ^ prec f
  Q_le =
      le_trans (nearest-le (A / (d * 2 ^ k)) (compare (A % (d * 2 ^ k) * 2) (d * 2 ^ k)))
      (subst (λ (z : ℕ). z < 2 ^ prec f) (div-div-eq-div-mul A d (2 ^ k)) (kept-lt (prec f) (A / d)))

  -- m * 2 ^ i of the smallest values, with no more digits than the format keeps, are no nearer
  abbrev Further : ℕ → Type 0
  Further u = (apart (Q * 2 ^ k * d) A ≤ apart (u * d) A) × ((Q * 2 ^ k * d ≡ u * d → ⊥) → apart (Q * 2 ^ k * d) A ≡ apart (u * d) A → Q % 2 ≡ 0)

  turn : (w : ℕ) → w * (d * 2 ^ k) ≡ w * 2 ^ k * d
  turn w = ap (λ (z : ℕ). w * z) (mul_comm d (2 ^ k)) ∙ sym (mul_assoc w (2 ^ k) d)

  multiples : (w : ℕ) → Further (w * 2 ^ k)
  multiples w =
      subst (λ (z : ℕ). (apart z A ≤ apart (w * 2 ^ k * d) A) × ((z ≡ w * 2 ^ k * d → ⊥) → apart z A ≡ apart (w * 2 ^ k * d) A → Q % 2 ≡ 0)) (turn Q)
      (subst (λ (z : ℕ). (apart (Q * (d * 2 ^ k)) A ≤ apart z A) × ((Q * (d * 2 ^ k) ≡ z → ⊥) → apart (Q * (d * 2 ^ k)) A ≡ apart z A → Q % 2 ≡ 0)) (turn w)
      (multiple Q A (d * 2 ^ k) w (halfway A (d * 2 ^ k) unit_pos)))

  further : (m i : ℕ) → m < 2 ^ prec f → Further (m * 2 ^ i)
  further m i M = elim (under_or_over i k) [
    | inl l ↦
        let low-u : m * 2 ^ i * d < hid f * 2 ^ k * d = mul-lt-mul_of_pos_right (fine m i l M) D in
        let b = below_all (Q * 2 ^ k * d) (hid f * 2 ^ k * d) A (m * 2 ^ i * d) low-u (le_trans (le_of_eq (sym (turn (hid f)))) (gap (some i k l))) (multiples (hid f)).0 in
        (b.0, λ _ e. absurd (b.1 e))
    | inr g ↦ subst Further (mul_assoc m (2 ^ (i - k)) (2 ^ k) ∙ ap (λ (z : ℕ). m * z) (sym (pow-add 2 (i - k) k)) ∙ ap (λ (z : ℕ). m * 2 ^ z) (back i k g)) (multiples (m * 2 ^ (i - k)))
  ]
    where
      back : (i k : ℕ) → k ≤ i → i - k + k ≡ i
      back i k g = omega arith

      some : (i k : ℕ) → i < k → 0 < k
      some i k l = omega arith

      ex : (p i k : ℕ) → 2 ≤ p → i < k → p + i ≤ p - 1 + k
      ex p i k P l = omega arith

      fine : (m i : ℕ) → i < k → m < 2 ^ prec f → m * 2 ^ i < hid f * 2 ^ k
      fine m i l M =
          lt_of_lt_of_le (mul-lt-mul_of_pos_right M (pow_pos i))
          (le_trans (le_of_eq (sym (pow-add 2 (prec f) i))) (le_trans (pow_mono (ex (prec f) i k (two f) l)) (le_of_eq (pow-add 2 (prec f - 1) k))))

  -- the last digit
  k_lt : k < 2 * emax f + 1
  k_lt = elim (under_or_over 0 k) [
    | inl K ↦
        small (prec f) (emax f) k (two f)
        (pow_lt_back (prec f - 1 + k) (low f + suc (emax f)) (lt_of_le_of_lt (le_trans (le_of_eq (pow-add 2 (prec f - 1) k)) (mul-le-mul_right (2 ^ k) (Q_ge K))) within))
    | inr z ↦ none k (emax f) z
  ]
    where
      small : (p e k : ℕ) → 2 ≤ p → p - 1 + k < e + p - 2 + suc e → k < 2 * e + 1
      small p e k P h = omega arith

      none : (k e : ℕ) → k ≤ 0 → k < 2 * e + 1
      none k e z = omega arith

  hid_twice : hid f * 2 ≡ 2 ^ prec f
  hid_twice = sym (pow-add 2 (prec f - 1) 1) ∙ ap (λ (z : ℕ). 2 ^ z) (ex (prec f) (two f))
    where
      ex : (p : ℕ) → 2 ≤ p → p - 1 + 1 ≡ p
      ex p P = omega arith

  hid_even : hid f ≡ 2 ^ (prec f - 2) * 2
  hid_even = ap (λ (z : ℕ). 2 ^ z) (ex (prec f) (two f)) ∙ pow-add 2 (prec f - 2) 1
    where
      ex : (p : ℕ) → 2 ≤ p → p - 1 ≡ p - 2 + 1
      ex p P = omega arith

  in_range : 0 + (k * hid f + Q) < 2 * top f
  in_range = go k (hid f) Q (emax f) (mul-le-mul_right (hid f) k_lt) (le_trans Q_le (le_of_eq (sym hid_twice))) (pow_pos (prec f - 1))
    where
      go : (k h q e : ℕ) → suc k * h ≤ (2 * e + 1) * h → q ≤ h * 2 → 0 < h → 0 + (k * h + q) < 2 * (h * suc (2 * e + 1))
      go k h q e a b c = omega arith

  written : of_bits f (pattern f false k Q) ≡ x
  written = write f x false Q k (round-fits f false n d) val Q_le Q_ge

  bits : to_bits f x ≡ 0 + (k * hid f + Q)
  bits =
      ap (to_bits f) (sym written)
      ∙ to_bits-of_bits f (pattern f false k Q) in_range (subst (λ (z : Float). T (not (is_nan z))) (sym written) (no_nan x fin-x))

  last_digit : Q % 2 ≡ 0 → to_bits f x % 2 ≡ 0
  last_digit e = ap (λ (z : ℕ). z % 2) (bits ∙ ap (λ (z : ℕ). 0 + (k * z + Q)) hid_even) ∙ go k (2 ^ (prec f - 2)) Q e
    where
      go : (k h q : ℕ) → q % 2 ≡ 0 → (0 + (k * (h * 2) + q)) % 2 ≡ 0
      go k h q e =
          let t : (2 * (k * h) + q) % 2 ≡ 0 = part (k * h) q e in
          subst (λ (z : ℕ). z % 2 ≡ 0) (same k h q) t
        where
          part : (j q : ℕ) → q % 2 ≡ 0 → (2 * j + q) % 2 ≡ 0
          part j q e = omega arith

          same : (k h q : ℕ) → 2 * (k * h) + q ≡ 0 + (k * (h * 2) + q)
          same k h q = omega arith

  pub nearest_value : Nearest f n d x
  nearest_value = record {
    held = round-fits f false n d;
    value = plus_value x (Q * 2 ^ k) (2 ^ low f) val;
    closest = λ y F h.
        let u = in_units f y (own y h).0 (num y) (den y) F (own y h).1 in
        nearer (num x) (den x) (num y) (den y) (Q * 2 ^ k) (u.m * 2 ^ u.i) n d (2 ^ low f) (pow_pos (low f)) (den_pos x) (den_pos y) D (cross x false (Q * 2 ^ k) (2 ^ low f) val) (cross y (own y h).0 (u.m * 2 ^ u.i) (2 ^ low f) u.value)
        (further u.m u.i u.digits).0;
    even = λ y F h differ e.
        let u = in_units f y (own y h).0 (num y) (den y) F (own y h).1 in
        let c = cross x false (Q * 2 ^ k) (2 ^ low f) val in
        let g = cross y (own y h).0 (u.m * 2 ^ u.i) (2 ^ low f) u.value in
        last_digit ((further u.m u.i u.digits).1
        (other (num x) (den x) (num y) (den y) (Q * 2 ^ k) (u.m * 2 ^ u.i) n d (2 ^ low f) (pow_pos (low f)) (den_pos x) (den_pos y) D c g differ)
        (as_near (num x) (den x) (num y) (den y) (Q * 2 ^ k) (u.m * 2 ^ u.i) n d (2 ^ low f) (pow_pos (low f)) (den_pos x) (den_pos y) D c g e));
  }

-- ---- decimals: n / 10 ^ k for an n of 32 bits and a k up to 6
ten_pos : (k : ℕ) → 0 < 10 ^ k
ten_pos k = one-le-pow k 10 (lit< tt)

ten_most : (k : ℕ) → k ≤ 6 → 10 ^ k ≤ 10 ^ 6
ten_most k h = pow-le-pow_right (lit< tt) h

-- 2 ^ -30, 2 ^ 30 and 2 ^ 32
least : round binary32 false 1 (2 ^ 30) ≡ fin false 1 (negsuc 29)
unfolding round
least = refl

most : round binary32 false (2 ^ 30) 1 ≡ fin false 1 (pos 30)
unfolding round
most = refl

past : round binary32 false (2 ^ 32) 1 ≡ fin false 1 (pos 32)
unfolding round
past = refl

module _ (n k : ℕ) (N : 0 < n) (M : n < 2 ^ 32) (K : k ≤ 6) where
  abbrev z : Float
  z = round binary32 false n (10 ^ k)

  from : T (le (fin false 1 (negsuc 29)) z)
  from = subst (λ (y : Float). T (le y z)) least (round_mono binary32 1 (2 ^ 30) n (10 ^ k) (pow_pos 30) (ten_pos k) (go n (10 ^ k) N (ten_most k K)))
    where
      go : (n t : ℕ) → 0 < n → t ≤ 10 ^ 6 → 1 * t ≤ n * 2 ^ 30
      go n t a b = omega arith

  below : T (le z (fin false 1 (pos 32)))
  below = subst (λ (y : Float). T (le z y)) past (round_mono binary32 n (10 ^ k) (2 ^ 32) 1 (ten_pos k) (pow_pos 0) (go n (10 ^ k) M (ten_pos k)))
    where
      go : (n t : ℕ) → n < 2 ^ 32 → 0 < t → n * 1 ≤ 2 ^ 32 * t
      go n t a b = omega arith

  pub positive_decimal : T (positive z)
  positive_decimal = between (fin false 1 (negsuc 29)) z (fin false 1 (pos 32)) tt tt from below

  -- From 2 ^ -30 on, and of nine digits up to 2 ^ 30: the sizes of demand 3's scores.
  pub at_least : 1 * den z ≤ num z * 2 ^ 30
  at_least = le→cross (fin false 1 (negsuc 29)) z tt positive_decimal from

  pub at_most : n < 10 ^ 9 → num z * 1 ≤ 2 ^ 30 * den z
  at_most nine = le_trans (le→cross z (fin false 1 (pos 30)) positive_decimal tt to) (le_of_eq (ap (λ (y : ℕ). y * den z) (one-mul (2 ^ 30))))
    where
      go : (n t : ℕ) → n < 10 ^ 9 → 0 < t → n * 1 ≤ 2 ^ 30 * t
      go n t a b = omega arith

      to : T (le z (fin false 1 (pos 30)))
      to = subst (λ (y : Float). T (le z y)) most (round_mono binary32 n (10 ^ k) (2 ^ 30) 1 (ten_pos k) (pow_pos 0) (go n (10 ^ k) nine (ten_pos k)))

-- zero
pub zero_decimal : (k : ℕ) → round binary32 false 0 (10 ^ k) ≡ fin false 0 (pos 0)
unfolding of_bits
zero_decimal k = zero_rounded (10 ^ k) (ten_pos k) ∙ refl

finite_decimal : (n k : ℕ) → n < 2 ^ 32 → k ≤ 6 → T (finite (round binary32 false n (10 ^ k)))
finite_decimal zero k M K = subst (λ (y : Float). T (finite y)) (sym (zero_decimal k)) tt
finite_decimal (suc n) k M K = positive-finite (round binary32 false (suc n) (10 ^ k)) (positive_decimal (suc n) k (zero-lt-suc n) M K)

pub nearest_decimal : NearestDecimal
nearest_decimal n k M K = nearest_value binary32 n (10 ^ k) (ten_pos k) (finite_decimal n k M K)
