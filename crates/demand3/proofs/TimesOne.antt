-- A float that its format holds, times 1, is itself; and a number times 0 equals 0. Assumes nothing.
use mathlib.Core.Path.{◌≡◌, refl, sym, ap, ◌∙◌}
use mathlib.Core.Bool.{Bool, true, false, ◌&&◌, ◌||◌, beq}
use Prim.Native.Nat.{ℕ, zero, suc, ◌+◌, ◌-◌, ◌*◌, ◌^◌, ◌%◌, ◌≤◌, ◌<◌}
use native.Mathlib.Nat.{mul-one, one-mul, mul-zero, zero-mul, mul_assoc, mul_left_comm, mul-pos, zero-lt-suc, eq_of_mul-eq-mul_right, mul-lt-mul_of_pos_right, pow-suc, pow-succ'}
use native.Mathlib.Decide.{dec_lt}
use native.Mathlib.Omega.{arith}
use lib.Dec.{T, eqb, ltb, leb, eqb→eq, ltb→lt, leb→le}
use lib.Pow.{pow-add, pow_pos, pow-lt}
use lib.IntN.{ℤ, pos, negsuc}
use lib.Ieee.{Float, nan, inf, fin, Format, prec, emax, low, up, down, unlike, round, mul, eq, fits}
use lib.Ieee.Exact.{HasValue, round_exact}
use lib.Ieee.Fits.{and_l, and_r, round-fits, down_pos, up_pos}
use lib.Ieee.Scale.{finite}

abbrev pub one : Float
one = fin false 1 (pos 0)

-- ---- a value that its format holds is written in one way
even_odd : (m t : ℕ) → m % 2 ≡ 1 → m ≡ 2 * t → ⊥
even_odd m t o h = omega arith

odd_pow : (m n a b : ℕ) → m % 2 ≡ 1 → n % 2 ≡ 1 → m * 2 ^ a ≡ n * 2 ^ b → (m ≡ n) × (a ≡ b)
odd_pow m n zero zero o p h = (sym (mul-one m) ∙ h ∙ mul-one n, refl)
odd_pow m n zero (suc b) o p h = absurd (even_odd m (n * 2 ^ b) o (sym (mul-one m) ∙ h ∙ ap (λ (x : ℕ). n * x) (pow-succ' 2 b) ∙ mul_left_comm n 2 (2 ^ b)))
odd_pow m n (suc a) zero o p h = absurd (even_odd n (m * 2 ^ a) p (sym (mul-one n) ∙ sym h ∙ ap (λ (x : ℕ). m * x) (pow-succ' 2 a) ∙ mul_left_comm m 2 (2 ^ a)))
odd_pow m n (suc a) (suc b) o p h =
    let r = odd_pow m n a b o p (eq_of_mul-eq-mul_right 2 (zero-lt-suc 1) (m * 2 ^ a) (n * 2 ^ b)
    (mul_assoc m (2 ^ a) 2 ∙ ap (λ (x : ℕ). m * x) (sym (pow-suc 2 a)) ∙ h ∙ ap (λ (x : ℕ). n * x) (pow-suc 2 b) ∙ sym (mul_assoc n (2 ^ b) 2))) in
    (r.0, ap suc r.1)

same_number : (m n : ℕ) (e g : ℤ) → m % 2 ≡ 1 → n % 2 ≡ 1 → m * up e * down g ≡ n * up g * down e → (m ≡ n) × (e ≡ g)
same_number m n (pos a) (pos b) o p h =
    let r = odd_pow m n a b o p (sym (mul-one (m * 2 ^ a)) ∙ h ∙ mul-one (n * 2 ^ b)) in
    (r.0, ap pos r.1)
same_number m n (negsuc a) (negsuc b) o p h =
    let r = odd_pow m n (suc b) (suc a) o p (ap (λ (x : ℕ). x * 2 ^ suc b) (sym (mul-one m)) ∙ h ∙ ap (λ (x : ℕ). x * 2 ^ suc a) (mul-one n)) in
    let q : suc b ≡ suc a = r.1 in
    let i : a ≡ b = omega arith in
    (r.0, ap negsuc i)
same_number m n (pos a) (negsuc b) o p h =
    absurd (even_odd n (m * 2 ^ a * 2 ^ b) p (sym (mul-one n) ∙ sym (mul-one (n * 1)) ∙ sym h ∙ ap (λ (x : ℕ). m * 2 ^ a * x) (pow-succ' 2 b) ∙ mul_left_comm (m * 2 ^ a) 2 (2 ^ b)))
same_number m n (negsuc a) (pos b) o p h =
    absurd (even_odd m (n * 2 ^ b * 2 ^ a) o (sym (mul-one m) ∙ sym (mul-one (m * 1)) ∙ h ∙ ap (λ (x : ℕ). n * 2 ^ b * x) (pow-succ' 2 a) ∙ mul_left_comm (n * 2 ^ b) 2 (2 ^ a)))

-- what it takes to fit
module _ (f : Format) (s : Bool) (m : ℕ) (e : ℤ) (t : T (fits f (fin s (suc m) e))) where
  abbrev A : Bool
  A = eqb (suc m % 2) 1

  abbrev B : Bool
  B = ltb (suc m) (2 ^ prec f)

  abbrev C : Bool
  C = leb (down e) (2 ^ low f)

  abbrev E : Bool
  E = ltb (suc m * up e) (2 ^ suc (emax f) * down e)

  is_odd : suc m % 2 ≡ 1
  unfolding fits
  is_odd = eqb→eq (suc m % 2) 1 (and_l A B (and_l (A && B) C (and_l (A && B && C) E t)))

  few_digits : suc m < 2 ^ prec f
  unfolding fits
  few_digits = ltb→lt (suc m) (2 ^ prec f) (and_r A B (and_l (A && B) C (and_l (A && B && C) E t)))

  not_low : down e ≤ 2 ^ low f
  unfolding fits
  not_low = leb→le (down e) (2 ^ low f) (and_r (A && B) C (and_l (A && B && C) E t))

  not_high : suc m * up e < 2 ^ suc (emax f) * down e
  unfolding fits
  not_high = ltb→lt (suc m * up e) (2 ^ suc (emax f) * down e) (and_r (A && B && C) E t)

flat : (e : ℤ) → up e * down e ≡ 1 → e ≡ pos 0
flat (pos zero) h = refl
flat (pos (suc k)) h = absurd (even_odd 1 (2 ^ k) refl (sym h ∙ mul-one (2 ^ suc k) ∙ pow-succ' 2 k))
flat (negsuc k) h = absurd (even_odd 1 (2 ^ k) refl (sym h ∙ one-mul (2 ^ suc k) ∙ pow-succ' 2 k))

zero_exponent : (f : Format) (s : Bool) (e : ℤ) → T (fits f (fin s zero e)) → e ≡ pos 0
unfolding fits
zero_exponent f s e t = flat e (eqb→eq (up e * down e) 1 t)

some_pos : (m : ℕ) (e g : ℤ) → 0 < suc m * up e * down g
some_pos m e g = mul-pos (mul-pos (zero-lt-suc m) (up_pos e)) (down_pos g)

none_pos : (x y : ℕ) → 0 < x → x ≡ 0 * y → ⊥
none_pos x y h e = (let i : x ≡ 0 = e ∙ zero-mul y in omega arith)

written_once : (f : Format) (s : Bool) (m : ℕ) (e : ℤ) (y : Float) → T (fits f (fin s m e)) → T (fits f y) → HasValue y s (m * up e) (down e) → y ≡ fin s m e
written_once f s m e nan t u h = absurd h
written_once f s m e (inf v) t u h = absurd h
written_once f s zero e (fin v zero g) t u h = λ i. fin (h.0 i) zero ((zero_exponent f v g u ∙ sym (zero_exponent f s e t)) i)
written_once f s zero e (fin v (suc n) g) t u h = absurd (none_pos (suc n * up g * down e) (down g) (some_pos n g e) (h.1 ∙ ap (λ (x : ℕ). x * down g) (zero-mul (up e))))
written_once f s (suc m) e (fin v zero g) t u h = absurd (none_pos (suc m * up e * down g) (down e) (some_pos m e g) (sym h.1 ∙ ap (λ (x : ℕ). x * down e) (zero-mul (up g))))
written_once f s (suc m) e (fin v (suc n) g) t u h =
    let r = same_number (suc n) (suc m) g e (is_odd f v n g u) (is_odd f s m e t) h.1 in
    λ i. fin (h.0 i) (r.0 i) (r.1 i)

-- ---- rounding it changes nothing
pow_le_back : (a b : ℕ) → 2 ^ a ≤ 2 ^ b → a ≤ b
pow_le_back a b h = go (dec_lt b a)
  where
    go : Dec (b < a) → a ≤ b
    go (yes l) = absurd (let i : 2 ^ b < 2 ^ a = pow-lt l in omega arith)
    go (no l) = omega arith

rounded : (f : Format) (s : Bool) (m : ℕ) (e : ℤ) → T (fits f (fin s m e)) → HasValue (round f s (m * up e) (down e)) s (m * up e) (down e)
rounded f s zero e t =
    round_exact f s (0 * up e) (down e) 0 0 (down_pos e) (pow_pos (prec f)) (pow_pos (low f + suc (emax f)))
    (ap (λ (x : ℕ). x * 2 ^ low f) (zero-mul (up e)) ∙ zero-mul (2 ^ low f) ∙ sym (zero-mul (down e)))
rounded f s (suc m) (pos k) t =
    round_exact f s (suc m * 2 ^ k) 1 (suc m) (k + low f) (zero-lt-suc 0) (few_digits f s m (pos k) t)
    (let h : suc m * 2 ^ k < 2 ^ suc (emax f) * 1 = not_high f s m (pos k) t in
    let i : suc m * 2 ^ k * 2 ^ low f < 2 ^ suc (emax f) * 1 * 2 ^ low f = mul-lt-mul_of_pos_right h (pow_pos (low f)) in
    rw (pow-add 2 k (low f), pow-add 2 (low f) (suc (emax f))) (over (2 ^ k) (2 ^ low f) (2 ^ suc (emax f)) (suc m) i))
    (mul_assoc (suc m) (2 ^ k) (2 ^ low f) ∙ ap (λ (x : ℕ). suc m * x) (sym (pow-add 2 k (low f))) ∙ sym (mul-one (suc m * 2 ^ (k + low f))))
  where
    over : (a l h n : ℕ) → n * a * l < h * 1 * l → n * (a * l) < l * h
    over a l h n i = omega arith
rounded f s (suc m) (negsuc k) t =
    let l : suc k ≤ low f = pow_le_back (suc k) (low f) (not_low f s m (negsuc k) t) in
    let j = low f - suc k in
    let e : j + suc k ≡ low f = omega arith in
    let p : 2 ^ low f ≡ 2 ^ j * 2 ^ suc k = ap (λ (x : ℕ). 2 ^ x) (sym e) ∙ pow-add 2 j (suc k) in
    let h : suc m * 1 < 2 ^ suc (emax f) * 2 ^ suc k = not_high f s m (negsuc k) t in
    let i : suc m * 1 * 2 ^ j < 2 ^ suc (emax f) * 2 ^ suc k * 2 ^ j = mul-lt-mul_of_pos_right h (pow_pos j) in
    round_exact f s (suc m * 1) (2 ^ suc k) (suc m) j (pow_pos (suc k)) (few_digits f s m (negsuc k) t)
    (rw (pow-add 2 (low f) (suc (emax f)), p) (over (2 ^ j) (2 ^ suc k) (2 ^ suc (emax f)) (suc m) i))
    (ap (λ (x : ℕ). suc m * 1 * x) p ∙ same (2 ^ j) (2 ^ suc k) (suc m))
  where
    over : (a d h n : ℕ) → n * 1 * a < h * d * a → n * a < a * d * h
    over a d h n i = omega arith

    same : (a d n : ℕ) → n * 1 * (a * d) ≡ n * a * d
    same a d n = omega arith

plain_sign : (s : Bool) → unlike s false ≡ s
plain_sign true = refl
plain_sign false = refl

pub times_one : (f : Format) (x : Float) → T (fits f x) → mul f x one ≡ x
unfolding mul
times_one f nan t = refl
times_one f (inf s) t = ap inf (plain_sign s)
times_one f (fin s m e) t =
    let y = round f s (m * up e) (down e) in
    (λ i. round f (plain_sign s i) (mul-one (m * up e) i) (mul-one (down e) i))
    ∙ written_once f s m e y t (round-fits f s (m * up e) (down e)) (rounded f s m e t)

-- ---- a number times 0 equals 0
zero_of : (x : Float) (s : Bool) (c : ℕ) → 0 < c → HasValue x s 0 c → eq x (fin false 0 (pos 0)) ≡ true
unfolding eq
zero_of nan s c C h = absurd h
zero_of (inf v) s c C h = absurd h
zero_of (fin v m e) s c C h =
    let z : m * up e ≡ 0 = eq_of_mul-eq-mul_right c C (m * up e) 0 (h.1 ∙ zero-mul (down e) ∙ sym (zero-mul c)) in
    rw (mul-one (m * up e), z) (go v)
  where
    go : (v : Bool) → (eqb 0 (0 * 1 * down e) && (beq v false || eqb 0 0)) ≡ true
    go true = rw (zero-mul (down e)) refl
    go false = rw (zero-mul (down e)) refl

pub times_zero : (f : Format) (x : Float) → T (finite x) → eq (mul f x (fin false 0 (pos 0))) (fin false 0 (pos 0)) ≡ true
unfolding mul
times_zero f nan t = absurd t
times_zero f (inf s) t = absurd t
times_zero f (fin s m e) t =
    let d = down e * 1 in
    let D : 0 < d = mul-pos (down_pos e) (zero-lt-suc 0) in
    ap (λ (n : ℕ). eq (round f (unlike s false) n d) (fin false 0 (pos 0))) (mul-zero (m * up e))
    ∙ zero_of (round f (unlike s false) 0 d) (unlike s false) d D
    (round_exact f (unlike s false) 0 d 0 0 D (pow_pos (prec f)) (pow_pos (low f + suc (emax f))) (zero-mul (2 ^ low f) ∙ sym (zero-mul d)))
