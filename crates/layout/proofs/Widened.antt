-- Narrowing an `f32` that was widened gives it back: a value of the format is its own nearest one. Rounding leaves its size and its sign, and a value that fits
-- is written in one way. Assumes nothing.
use Rattle.std.proofs.Common.{◌≡◌, ℕ, zero, suc, ◌+◌, ◌-◌, ◌*◌, ◌%◌, ◌^◌, ◌<◌, ◌≤◌, Bool, ◌&&◌, T, eqb, ltb, leb, ℤ, pos, negsuc, sym, refl, ap, ◌∙◌, subst, le_of_eq, lt_of_lt_of_le, le_of_suc-le-suc, lt_of_le_of_lt, lt_irrefl, zero-lt-suc, mul_assoc, lt_of_mul-lt-mul_right, mul-lt-mul_of_pos_right, mul-pos, one-mul, pow-suc, lt_of_not-le, zero-mul, mul-one, mul_right_comm, mul_left_comm, arith, eqb→eq, ltb→lt, leb→le, pow_pos, pow-add}
use native.Mathlib.Nat.{pow-succ', eq_of_mul-eq-mul_right}
use lib.Pow.{pow-lt}
use lib.Ieee.{Float, nan, inf, fin, binary32, up, down, round, fits}
use lib.Ieee.Fits.{round-fits, up_pos, down_pos, and_l, and_r}
use lib.Ieee.Exact.{HasValue, round_exact}
use Rattle.ieee.specs.Round.{narrow}

-- ---- an odd number times a power of two, in one way
even_odd : (m t : ℕ) → m % 2 ≡ 1 → m ≡ 2 * t → ⊥
even_odd m t o h = omega arith

odd_pow : (m n a b : ℕ) → m % 2 ≡ 1 → n % 2 ≡ 1 → m * 2 ^ a ≡ n * 2 ^ b → (m ≡ n) × (a ≡ b)
odd_pow m n zero zero o p h = (sym (mul-one m) ∙ h ∙ mul-one n, refl)
odd_pow m n zero (suc b) o p h = absurd (even_odd m (n * 2 ^ b) o (sym (mul-one m) ∙ h ∙ ap (λ (x : ℕ). n * x) (pow-succ' 2 b) ∙ mul_left_comm n 2 (2 ^ b)))
odd_pow m n (suc a) zero o p h = absurd (even_odd n (m * 2 ^ a) p (sym (mul-one n) ∙ sym h ∙ ap (λ (x : ℕ). m * x) (pow-succ' 2 a) ∙ mul_left_comm m 2 (2 ^ a)))
odd_pow m n (suc a) (suc b) o p h =
    let r = odd_pow m n a b o p (eq_of_mul-eq-mul_right 2 (zero-lt-suc 1) (m * 2 ^ a) (n * 2 ^ b)
    (mul_assoc m (2 ^ a) 2 ∙ ap (λ (x : ℕ). m * x) (sym (pow-suc 2 a)) ∙ h ∙ ap (λ (x : ℕ). n * x) (pow-suc 2 b) ∙ sym (mul_assoc n (2 ^ b) 2))) in
    (r.0, ap suc r.1)

none : (a b : ℕ) → a + suc b ≡ 0 → ⊥
none a b h = omega arith

pred_eq : (a b : ℕ) → suc a ≡ suc b → a ≡ b
pred_eq a b h = omega arith

odd_val : (m n : ℕ) (e g : ℤ) → m % 2 ≡ 1 → n % 2 ≡ 1 → m * up e * down g ≡ n * up g * down e → (m ≡ n) × (e ≡ g)
odd_val m n (pos a) (pos b) o p h =
    let r = odd_pow m n a b o p (sym (mul-one (m * 2 ^ a)) ∙ h ∙ mul-one (n * 2 ^ b)) in
    (r.0, ap pos r.1)
odd_val m n (pos a) (negsuc b) o p h =
    let r = odd_pow m n (a + suc b) 0 o p (ap (λ (x : ℕ). m * x) (pow-add 2 a (suc b)) ∙ sym (mul_assoc m (2 ^ a) (2 ^ suc b)) ∙ h ∙ mul-one (n * 1)) in
    absurd (none a b r.1)
odd_val m n (negsuc a) (pos b) o p h =
    let r = odd_pow n m (b + suc a) 0 p o (ap (λ (x : ℕ). n * x) (pow-add 2 b (suc a)) ∙ sym (mul_assoc n (2 ^ b) (2 ^ suc a)) ∙ sym h ∙ mul-one (m * 1)) in
    absurd (none b a r.1)
odd_val m n (negsuc a) (negsuc b) o p h =
    let r = odd_pow m n (suc b) (suc a) o p (ap (λ (x : ℕ). x * 2 ^ suc b) (sym (mul-one m)) ∙ h ∙ ap (λ (x : ℕ). x * 2 ^ suc a) (mul-one n)) in
    (r.0, ap negsuc (pred_eq a b (sym r.1)))

-- ---- what fits: 0 with the exponent 0, or an odd number of few digits
two_up : (p : ℕ) → 0 < p → 2 * p ≡ 1 → ⊥
two_up p h e = omega arith

flat : (e : ℤ) → up e * down e ≡ 1 → e ≡ pos 0
flat (pos zero) h = refl
flat (pos (suc k)) h = absurd (two_up (2 ^ k) (pow_pos k) (sym (pow-succ' 2 k) ∙ sym (mul-one (2 ^ suc k)) ∙ h))
flat (negsuc k) h = absurd (two_up (2 ^ k) (pow_pos k) (sym (pow-succ' 2 k) ∙ sym (one-mul (2 ^ suc k)) ∙ h))

zero_exp : (s : Bool) (e : ℤ) → T (fits binary32 (fin s zero e)) → e ≡ pos 0
unfolding fits
zero_exp s e t = flat e (eqb→eq (up e * down e) 1 t)

record Held (m : ℕ) (e : ℤ) : Type 0 where
  odd : m % 2 ≡ 1
  few : m < 2 ^ 24
  high : down e ≤ 2 ^ 149
  small : m * up e < 2 ^ 128 * down e

held : (s : Bool) (m : ℕ) (e : ℤ) → T (fits binary32 (fin s (suc m) e)) → Held (suc m) e
unfolding fits
held s m e t =
    let a = eqb (suc m % 2) 1 in
    let b = ltb (suc m) (2 ^ 24) in
    let c = leb (down e) (2 ^ 149) in
    let d = ltb (suc m * up e) (2 ^ 128 * down e) in
    let abc = and_l (a && b && c) d t in
    let ab = and_l (a && b) c abc in
    record {
      odd = eqb→eq (suc m % 2) 1 (and_l a b ab);
      few = ltb→lt (suc m) (2 ^ 24) (and_r a b ab);
      high = leb→le (down e) (2 ^ 149) (and_r (a && b) c abc);
      small = ltb→lt (suc m * up e) (2 ^ 128 * down e) (and_r (a && b && c) d t);
    }

-- ---- of one sign and one size there is one value
no_size : (n : ℕ) (g e : ℤ) → 0 * up e * down g ≡ suc n * up g * down e → ⊥
no_size n g e h =
    lt_irrefl 0 (subst (λ (x : ℕ). 0 < x) (sym h ∙ ap (λ (x : ℕ). x * down g) (zero-mul (up e)) ∙ zero-mul (down g)) (mul-pos (mul-pos (zero-lt-suc n) (up_pos g)) (down_pos e)))

unique : (x : Float) (s : Bool) (n : ℕ) (g : ℤ) → T (fits binary32 x) → T (fits binary32 (fin s n g)) → HasValue x s (n * up g) (down g) → x ≡ fin s n g
unique nan s n g p q v = absurd v
unique (inf t) s n g p q v = absurd v
unique (fin t zero e) s zero g p q v = λ i. fin (v.0 i) zero ((zero_exp t e p ∙ sym (zero_exp s g q)) i)
unique (fin t zero e) s (suc n) g p q v = absurd (no_size n g e v.1)
unique (fin t (suc m) e) s zero g p q v = absurd (no_size m e g (sym v.1))
unique (fin t (suc m) e) s (suc n) g p q v =
    let r = odd_val (suc m) (suc n) e g (held t m e p).odd (held s n g q).odd v.1 in
    λ i. fin (v.0 i) (r.0 i) (r.1 i)

-- ---- rounding leaves the size of what fits
pow_le_back : (a l : ℕ) → 2 ^ a ≤ 2 ^ l → a ≤ l
pow_le_back a l h = le_of_suc-le-suc (lt_of_not-le (λ (k : suc l ≤ a). lt_irrefl (2 ^ l) (lt_of_lt_of_le (pow-lt k) h)))

place : (l : ℕ) (e : ℤ) → down e ≤ 2 ^ l → (i : ℕ) × (up e * 2 ^ l ≡ 2 ^ i * down e)
place l (pos k) h = (k + l, sym (pow-add 2 k l) ∙ sym (mul-one (2 ^ (k + l))))
place l (negsuc k) h = (l - suc k, one-mul (2 ^ l) ∙ ap (λ (x : ℕ). 2 ^ x) (go (pow_le_back (suc k) l h)) ∙ pow-add 2 (l - suc k) (suc k))
  where
    go : suc k ≤ l → l ≡ l - suc k + suc k
    go h = omega arith

kept : (s : Bool) (m : ℕ) (e : ℤ) → T (fits binary32 (fin s m e)) → HasValue (round binary32 s (m * up e) (down e)) s (m * up e) (down e)
kept s zero e t =
    round_exact binary32 s (0 * up e) (down e) 0 0 (down_pos e) (pow_pos 24) (pow_pos 277)
    (ap (λ (x : ℕ). x * 2 ^ 149) (zero-mul (up e)) ∙ zero-mul (2 ^ 149) ∙ sym (zero-mul (down e)))
kept s (suc m) e t =
    let h = held s m e t in
    let p = place 149 e h.high in
    let is : suc m * up e * 2 ^ 149 ≡ suc m * 2 ^ p.0 * down e = mul_assoc (suc m) (up e) (2 ^ 149) ∙ ap (λ (x : ℕ). suc m * x) p.1 ∙ sym (mul_assoc (suc m) (2 ^ p.0) (down e)) in
    round_exact binary32 s (suc m * up e) (down e) (suc m) p.0 (down_pos e) h.few
    (lt_of_mul-lt-mul_right (down e)
    (lt_of_le_of_lt (le_of_eq (sym is))
    (lt_of_lt_of_le (mul-lt-mul_of_pos_right h.small (pow_pos 149))
    (le_of_eq (mul_right_comm (2 ^ 128) (down e) (2 ^ 149) ∙ ap (λ (x : ℕ). x * down e) (sym (pow-add 2 128 149)))))))
    is

pub narrow_same : (x : Float) → T (fits binary32 x) → narrow x ≡ x
unfolding narrow
narrow_same nan t = refl
narrow_same (inf s) t = refl
narrow_same (fin s m e) t = unique (round binary32 s (m * up e) (down e)) s m e (round-fits binary32 s (m * up e) (down e)) t (kept s m e t)
