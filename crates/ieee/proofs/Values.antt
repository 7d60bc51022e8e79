-- Finite values as fractions: in units of the format's smallest value, with the leading digit in its place, in the root's units squared; and the order of two
-- of them, whatever their signs. Assumes nothing.
use Rattle.std.proofs.Common.{◌≡◌, ℕ, zero, suc, ◌+◌, ◌-◌, ◌*◌, ◌/◌, ◌%◌, ◌^◌, ◌<◌, ◌≤◌, Bool, true, false, ◌&&◌, ◌||◌, T, eqb, ltb, leb, ℤ, pos, negsuc, sym, refl, ap, ◌∙◌, subst, inl, inr, le_trans, le_of_eq, lt_of_lt_of_le, lt_of_le_of_lt, le_of_lt, mul-le-mul_right, mul_assoc, mul_comm, eq-zero-or-pos, lt_of_mul-lt-mul_right, eq-or-lt_of_le, mul-lt-mul_of_pos_right, one-mul, pow-suc, zero-mul, mul-one, mul_right_comm, le_of_mul-le-mul_right, arith, eqb→eq, ltb→lt, lt→ltb, leb→le, pow_pos, pow_mono, pow-add, shl_lt}
use native.Mathlib.Nat.{eq_of_mul-eq-mul_right}
use lib.Bits.{bit_and, and_mask}
use lib.Ieee.{Float, nan, inf, fin, Format, prec, emax, low, up, down, size, fits, le, below, level}
use lib.Ieee.Digits.{size-lt, size-le, size_reaches}
use lib.Ieee.Fits.{and_i, and_l, and_r, down_pos, eq→eqb}
use lib.Ieee.Exact.{HasValue}
use lib.Ieee.Order.{transfer}
use Rattle.ieee.proofs.Pattern.{pow_lt_back}
use Rattle.ieee.proofs.Rounding.{pow_le_back}
use Rattle.ieee.proofs.Flooring.{rescale}

-- ---- a finite value of a format is m * 2 ^ i of its smallest values, with an m of no more digits than the format keeps
pub record InUnits (f : Format) (x : Float) (s : Bool) : Type 0 where
  pub m : ℕ
  pub i : ℕ
  pub digits : m < 2 ^ prec f
  pub value : HasValue x s (m * 2 ^ i) (2 ^ low f)
  pub under : m * 2 ^ i < 2 ^ (low f + suc (emax f))

place : (l : ℕ) (e : ℤ) → down e ≤ 2 ^ l → (i : ℕ) × (up e * 2 ^ l ≡ 2 ^ i * down e)
place l (pos k) h = (k + l, sym (pow-add 2 k l) ∙ sym (mul-one (2 ^ (k + l))))
place l (negsuc k) h = (l - suc k, one-mul (2 ^ l) ∙ ap (λ (x : ℕ). 2 ^ x) (go (pow_le_back (suc k) l h)) ∙ pow-add 2 (l - suc k) (suc k))
  where
    go : suc k ≤ l → l ≡ l - suc k + suc k
    go h = omega arith

pub in_units : (f : Format) (x : Float) (s : Bool) (a c : ℕ) → T (fits f x) → HasValue x s a c → InUnits f x s
unfolding fits
in_units f nan s a c F v = absurd v
in_units f (inf t) s a c F v = absurd v
in_units f (fin t zero e) s a c F v = record {
  m = 0;
  i = 0;
  digits = pow_pos (prec f);
  value = (v.0, ap (λ (x : ℕ). x * 2 ^ low f) (zero-mul (up e)) ∙ zero-mul (2 ^ low f) ∙ sym (zero-mul (down e)));
  under = pow_pos (low f + suc (emax f));
}
in_units f (fin t (suc m) e) s a c F v =
    let odd = eqb (suc m % 2) 1 in
    let few = ltb (suc m) (2 ^ prec f) in
    let high = leb (down e) (2 ^ low f) in
    let small = ltb (suc m * up e) (2 ^ suc (emax f) * down e) in
    let t3 = and_l (odd && few && high) small F in
    let p = place (low f) e (leb→le (down e) (2 ^ low f) (and_r (odd && few) high t3)) in
    let i = p.0 in
    let is : suc m * up e * 2 ^ low f ≡ suc m * 2 ^ i * down e = mul_assoc (suc m) (up e) (2 ^ low f) ∙ ap (λ (x : ℕ). suc m * x) p.1 ∙ sym (mul_assoc (suc m) (2 ^ i) (down e)) in
    record {
      m = suc m;
      i = i;
      digits = ltb→lt (suc m) (2 ^ prec f) (and_r odd few (and_l (odd && few) high t3));
      value = (v.0, is);
      under =
          lt_of_mul-lt-mul_right (down e)
          (lt_of_le_of_lt (le_of_eq (sym is))
          (lt_of_lt_of_le (mul-lt-mul_of_pos_right (ltb→lt (suc m * up e) (2 ^ suc (emax f) * down e) (and_r (odd && few && high) small F)) (pow_pos (low f)))
          (le_of_eq (mul_right_comm (2 ^ suc (emax f)) (down e) (2 ^ low f) ∙ ap (λ (x : ℕ). x * down e) (mul_comm (2 ^ suc (emax f)) (2 ^ low f) ∙ sym (pow-add 2 (low f) (suc (emax f))))))));
    }

-- the number of a value's units is one
pub same_value : (x : Float) (s : Bool) (a b c : ℕ) → HasValue x s a c → HasValue x s b c → a ≡ b
same_value nan s a b c v w = absurd v
same_value (inf t) s a b c v w = absurd v
same_value (fin t m e) s a b c v w = eq_of_mul-eq-mul_right (down e) (down_pos e) a b (sym v.1 ∙ w.1)

-- powers of two in one exponent
pub joined : (q i j : ℕ) → q * 2 ^ i * 2 ^ j ≡ q * 2 ^ (i + j)
joined q i j = mul_assoc q (2 ^ i) (2 ^ j) ∙ ap (λ (x : ℕ). q * x) (sym (pow-add 2 i j))

pub four : (k : ℕ) → 4 ^ k ≡ 2 ^ (k + k)
four zero = refl
four (suc k) = pow-suc 4 k ∙ ap (λ (x : ℕ). x * 4) (four k) ∙ sym (pow-add 2 (k + k) 2) ∙ ap (λ (x : ℕ). 2 ^ x) (go k)
  where
    go : (k : ℕ) → k + k + 2 ≡ suc k + suc k
    go k = omega arith

-- the digits of m moved up to the leading place
pub leading : (x : Float) (m i : ℕ) → 0 < m → m < 2 ^ 53 → m * 2 ^ i < 2 ^ 2098 → HasValue x false (m * 2 ^ i) (2 ^ 1074)
    → (q : ℕ) × (j : ℕ) × (2 ^ 52 ≤ q) × (q < 2 ^ 53) × (j ≤ 2097) × HasValue x false (q * 2 ^ j) (2 ^ 1126)
leading x m i P few high v =
    let p = size m in
    let p_le : p ≤ 53 = size-le m 53 few in
    let p-ge : 1 ≤ p = some p (lt_of_le_of_lt P (size-lt m)) in
    let m-ge : 2 ^ (p - 1) ≤ m = size_reaches m (p - 1) (last p p-ge) in (
      m * 2 ^ (53 - p),
      i + (p - 1),
      le_trans (le_of_eq (ap (λ (y : ℕ). 2 ^ y) (lo p p-ge p_le) ∙ pow-add 2 (p - 1) (53 - p))) (mul-le-mul_right (2 ^ (53 - p)) m-ge),
      lt_of_lt_of_le (shl_lt p (53 - p) (size-lt m)) (pow_mono (hi p p_le)),
      top i (p - 1) (pow_lt_back (p - 1 + i) 2098 (lt_of_le_of_lt (le_trans (le_of_eq (pow-add 2 (p - 1) i)) (mul-le-mul_right (2 ^ i) m-ge)) high)),
      rescale x false (m * 2 ^ i) (2 ^ 1074) (m * 2 ^ (53 - p) * 2 ^ (i + (p - 1))) (2 ^ 1126) (pow_pos 1074)
          (joined m i 1126 ∙ ap (λ (y : ℕ). m * 2 ^ y) (same i p p-ge p_le) ∙ sym (joined m (53 - p + (i + (p - 1))) 1074) ∙ ap (λ (y : ℕ). y * 2 ^ 1074) (sym (joined m (53 - p) (i + (p - 1))))) v,
    )
  where
    some : (p : ℕ) → 1 < 2 ^ p → 1 ≤ p
    some p h = pow_lt_back 0 p h

    last : (p : ℕ) → 1 ≤ p → p - 1 < p
    last p h = omega arith

    lo : (p : ℕ) → 1 ≤ p → p ≤ 53 → 52 ≡ p - 1 + (53 - p)
    lo p a b = omega arith

    hi : (p : ℕ) → p ≤ 53 → p + (53 - p) ≤ 53
    hi p h = omega arith

    top : (i p : ℕ) → p + i < 2098 → i + p ≤ 2097
    top i p h = omega arith

    same : (i p : ℕ) → 1 ≤ p → p ≤ 53 → i + 1126 ≡ 53 - p + (i + (p - 1)) + 1074
    same i p a b = omega arith

-- and in units squared of 2 ^ k / 2 ^ 1074, for the k of the root
pub squared : (x : Float) (q j : ℕ) → HasValue x false (q * 2 ^ j) (2 ^ 1126) → HasValue x false (q * 2 ^ bit_and j 1 * 2 ^ 52 * 4 ^ (j / 2 + 485)) (4 ^ 1074)
squared x q j v =
    let h = j / 2 + 485 in
    let b = bit_and j 1 in
    rescale x false (q * 2 ^ j) (2 ^ 1126) (q * 2 ^ b * 2 ^ 52 * 4 ^ h) (4 ^ 1074) (pow_pos 1126)
    (ap (λ (y : ℕ). q * 2 ^ j * y) (four 1074)
    ∙ joined q j 2148
    ∙ ap (λ (y : ℕ). q * 2 ^ y) (ex j ∙ ap (λ (y : ℕ). y + 52 + (h + h) + 1126) (sym (and_mask j 1)))
    ∙ sym (joined q (b + 52 + (h + h)) 1126)
    ∙ ap (λ (y : ℕ). y * 2 ^ 1126) (sym (joined q (b + 52) (h + h)) ∙ ap (λ (y : ℕ). y * 2 ^ (h + h)) (sym (joined q b 52)) ∙ ap (λ (y : ℕ). q * 2 ^ b * 2 ^ 52 * y) (sym (four h)))) v
  where
    ex : (j : ℕ) → j + 2148 ≡ j % 2 + 52 + (j / 2 + 485 + (j / 2 + 485)) + 1126
    ex j = omega arith

-- ---- the order of two fractions with signs, ±a ≤ ±b, and `le`
abbrev pub Le : Bool → ℕ → Bool → ℕ → Type 0
Le false a false b = a ≤ b
Le false a true b = (a ≤ 0) × (b ≤ 0)
Le true a false b = 0 ≤ 0
Le true a true b = b ≤ a

none : (a : ℕ) → a ≤ 0 → a ≡ 0
none a h = omega arith

or_l : (a b : Bool) → T a → T (a || b)
or_l true b t = tt
or_l false b t = absurd t

either : {A : Type 0} (a b : Bool) → T (a || b) → (T a → A) → (T b → A) → A
either true b h f g = f tt
either false b h f g = g h

or_r : (a b : Bool) → T b → T (a || b)
or_r true b t = tt
or_r false b t = t

said : (s : Bool) (a : ℕ) (t : Bool) (b : ℕ) → T (below s a t b || level s a t b) → Le s a t b
said false a false b h = either (ltb a b) (eqb a b && true) h (λ t. le_of_lt (ltb→lt a b t)) (λ t. le_of_eq (eqb→eq a b (and_l (eqb a b) true t)))
said false a true b h =
    let z : a ≡ 0 = eqb→eq a 0 (and_r (eqb a b) (eqb a 0) h) in
    (le_of_eq z, le_of_eq (sym (eqb→eq a b (and_l (eqb a b) (eqb a 0) h)) ∙ z))
said true a false b h = le_of_eq refl
said true a true b h = either (ltb b a) (eqb a b && true) h (λ t. le_of_lt (ltb→lt b a t)) (λ t. le_of_eq (sym (eqb→eq a b (and_l (eqb a b) true t))))

say : (s : Bool) (a : ℕ) (t : Bool) (b : ℕ) → Le s a t b → T (below s a t b || level s a t b)
say false a false b h = elim (eq-or-lt_of_le h) [ inl e ↦ or_r (ltb a b) (eqb a b && true) (and_i (eqb a b) true (eq→eqb e) tt) | inr l ↦ or_l (ltb a b) (eqb a b && true) (lt→ltb a b l) ]
say false a true b h = and_i (eqb a b) (eqb a 0) (eq→eqb (none a h.0 ∙ sym (none b h.1))) (eq→eqb (none a h.0))
say true a false b h = elim (eq-zero-or-pos (a + b)) [
  | inl z ↦ or_r (ltb 0 (a + b)) (eqb a b && eqb a 0) (and_i (eqb a b) (eqb a 0) (eq→eqb ((both a b z).0 ∙ sym (both a b z).1)) (eq→eqb (both a b z).0))
  | inr l ↦ or_l (ltb 0 (a + b)) (eqb a b && eqb a 0) (lt→ltb 0 (a + b) l)
]
  where
    both : (a b : ℕ) → a + b ≡ 0 → (a ≡ 0) × (b ≡ 0)
    both a b z = (omega arith, omega arith)
say true a true b h = elim (eq-or-lt_of_le h) [ inl e ↦ or_r (ltb b a) (eqb a b && true) (and_i (eqb a b) true (eq→eqb (sym e)) tt) | inr l ↦ or_l (ltb b a) (eqb a b && true) (lt→ltb b a l) ]

-- from one pair of fractions to another of the same values
zero_moves : (x de a c : ℕ) → 0 < c → x * c ≡ a * de → a ≤ 0 → x ≤ 0
zero_moves x de a c C e h = le_of_mul-le-mul_right (le_trans (le_of_eq (e ∙ ap (λ (z : ℕ). z * de) (none a h))) (le_of_eq (zero-mul de ∙ sym (zero-mul c)))) C

Le_moves : (s t : Bool) (x de y dd a c b d : ℕ) → 0 < c → 0 < d → x * c ≡ a * de → y * d ≡ b * dd → 0 < de → 0 < dd → Le s (a * d) t (b * c) → Le s (x * dd) t (y * de)
Le_moves false false x de y dd a c b d C D p q E F h = transfer x y de dd a b c d C D p q h
Le_moves false true x de y dd a c b d C D p q E F h = (
  le_of_eq (ap (λ (z : ℕ). z * dd) (none x (zero_moves x de a c C p (first a d D h.0))) ∙ zero-mul dd),
  le_of_eq (ap (λ (z : ℕ). z * de) (none y (zero_moves y dd b d D q (first b c C h.1))) ∙ zero-mul de),
)
  where
    first : (a d : ℕ) → 0 < d → a * d ≤ 0 → a ≤ 0
    first a d D h = le_of_mul-le-mul_right (le_trans h (le_of_eq (sym (zero-mul d)))) D
Le_moves true false x de y dd a c b d C D p q E F h = h
Le_moves true true x de y dd a c b d C D p q E F h = transfer y x dd de b a d c D C q p h

pub le_of_fractions : (x y : Float) (s t : Bool) (a c b d : ℕ) → 0 < c → 0 < d → HasValue x s a c → HasValue y t b d → Le s (a * d) t (b * c) → T (le x y)
unfolding le
le_of_fractions nan y s t a c b d C D v w h = absurd v
le_of_fractions (inf u) y s t a c b d C D v w h = absurd v
le_of_fractions (fin u m e) nan s t a c b d C D v w h = absurd w
le_of_fractions (fin u m e) (inf z) s t a c b d C D v w h = absurd w
le_of_fractions (fin u m e) (fin z n g) s t a c b d C D v w h =
    say u (m * up e * down g) z (n * up g * down e)
    (Le_moves u z (m * up e) (down e) (n * up g) (down g) a c b d C D v.1 w.1 (down_pos e) (down_pos g)
    (subst (λ (r : Bool). Le r (a * d) z (b * c)) (sym v.0) (subst (λ (r : Bool). Le s (a * d) r (b * c)) (sym w.0) h)))

pub fractions_of_le : (x y : Float) (s t : Bool) (a c b d : ℕ) → 0 < c → 0 < d → HasValue x s a c → HasValue y t b d → T (le x y) → Le s (a * d) t (b * c)
unfolding le
fractions_of_le nan y s t a c b d C D v w h = absurd v
fractions_of_le (inf u) y s t a c b d C D v w h = absurd v
fractions_of_le (fin u m e) nan s t a c b d C D v w h = absurd w
fractions_of_le (fin u m e) (inf z) s t a c b d C D v w h = absurd w
fractions_of_le (fin u m e) (fin z n g) s t a c b d C D v w h =
    subst (λ (r : Bool). Le r (a * d) t (b * c)) v.0 (subst (λ (r : Bool). Le u (a * d) r (b * c)) w.0
    (Le_moves u z a c b d (m * up e) (down e) (n * up g) (down g) (down_pos e) (down_pos g) (sym v.1) (sym w.1) C D
    (said u (m * up e * down g) z (n * up g * down e) h)))
