-- Whole numbers that are as far apart as a bound says: `Off c e a b` is |a - b| * c ≤ e. The threshold's last steps in whole numbers over one unit. Assumes nothing.
use mathlib.Core.Path.{◌≡◌, sym, ap, ◌∙◌, subst, subst₂}
use Prim.Native.Nat.{ℕ, suc, ◌+◌, ◌-◌, ◌*◌, ◌≤◌, ◌<◌, zero-le}
use native.Mathlib.Nat.{mul_comm, mul-le-mul_right, mul-le-mul, le_of_mul-le-mul_right, mul-sub}
use native.Mathlib.Omega.{arith}
use mathlib.Core.Bool.{Bool, true, false, not}
use lib.Dec.{T, leb, leb→le, nleb→lt}

pub record Off (c e a b : ℕ) : Type 0 where
  pub up : a * c ≤ b * c + e
  pub down : b * c ≤ a * c + e

pub off_trans : (c e f a b d : ℕ) → Off c e a b → Off c f b d → Off c (e + f) a d
off_trans c e f a b d h k =
    let p = h.up in let q = h.down in let r = k.up in let s = k.down in
    record { up = omega arith; down = omega arith }

pub off_weaken : (c e f a b : ℕ) → e ≤ f → Off c e a b → Off c f a b
off_weaken c e f a b l h = let p = h.up in let q = h.down in record { up = omega arith; down = omega arith }

pub off_plus : (c e f a b a' b' : ℕ) → Off c e a b → Off c f a' b' → Off c (e + f) (a + a') (b + b')
off_plus c e f a b a' b' h k =
    let p = h.up in let q = h.down in let r = k.up in let s = k.down in
    record { up = omega arith; down = omega arith }

pub off_times : (c e a b k : ℕ) → Off c e a b → Off c (e * k) (a * k) (b * k)
off_times c e a b k h =
    let p : a * c * k ≤ (b * c + e) * k = mul-le-mul_right k h.up in
    let q : b * c * k ≤ (a * c + e) * k = mul-le-mul_right k h.down in
    record { up = omega arith; down = omega arith }

-- the difference, 0 where it would be negative
less_in : (a b x y e f : ℕ) → a ≤ b + e → b ≤ a + e → x ≤ y + f → y ≤ x + f → a - x ≤ b - y + (e + f)
less_in a b x y e f p q r s = omega arith

pub off_less : (c e f a b a' b' : ℕ) → Off c e a b → Off c f a' b' → Off c (e + f) (a - a') (b - b')
off_less c e f a b a' b' h k = record {
  up = subst₂ (λ (x y : ℕ). x ≤ y + (e + f)) (out a a') (out b b') (less_in (a * c) (b * c) (a' * c) (b' * c) e f h.up h.down k.up k.down);
  down = subst₂ (λ (x y : ℕ). x ≤ y + (e + f)) (out b b') (out a a') (less_in (b * c) (a * c) (b' * c) (a' * c) e f h.down h.up k.down k.up);
}
  where
    out : (x y : ℕ) → x * c - y * c ≡ (x - y) * c
    out x y = sym (mul_comm (x - y) c ∙ mul-sub c x y ∙ ap (λ (z : ℕ). z - c * y) (mul_comm c x) ∙ ap (λ (z : ℕ). x * c - z) (mul_comm c y))

-- |a - b| * (c * k) ≤ e * k: k goes out
pub off_cancel : (c e a b k : ℕ) → 0 < k → Off (c * k) (e * k) a b → Off c e a b
off_cancel c e a b k K h = record {
  up = le_of_mul-le-mul_right (let p = h.up in let g : a * c * k ≤ (b * c + e) * k = omega arith in g) K;
  down = le_of_mul-le-mul_right (let p = h.down in let g : b * c * k ≤ (a * c + e) * k = omega arith in g) K;
}

-- ---- k parts in P of a number up to B are (k + 1) * B / P
near_off_in : (r k a b B : ℕ) → 0 < r → k * k + k ≤ k + r → a * r ≤ b * (k + r) → b * r ≤ a * (k + r) → b ≤ B → Off (k + r) ((k + 1) * B) a b
near_off_in r k a b B R small h l m =
    let z : b * k ≤ B * k = mul-le-mul_right k m in
    let w : a * k ≤ (k + 1) * B = le_of_mul-le-mul_right (wide) R in
    record { up = omega arith; down = omega arith }
  where
    wide : a * k * r ≤ (k + 1) * B * r
    wide =
        let p : a * r * k ≤ b * (k + r) * k = mul-le-mul_right k h in
        let q : b * ((k + r) * k) ≤ B * ((k + r) * k) = mul-le-mul_right ((k + r) * k) m in
        let s : (k * k + k) * B ≤ (k + r) * B = mul-le-mul_right B small in
        omega arith

pub near_off : (P k a b B : ℕ) → k < P → k * k + k ≤ P → a * (P - k) ≤ b * P → b * (P - k) ≤ a * P → b ≤ B → Off P ((k + 1) * B) a b
near_off P k a b B K small h l m =
    let r = P - k in
    let e : k + r ≡ P = omega arith in
    let R : 0 < r = omega arith in
    subst (λ (p : ℕ). Off p ((k + 1) * B) a b) e (near_off_in r k a b B R (rw e small) (rw e h) (rw e l) m)

-- ---- squares
pub sq_le : (a b : ℕ) → a * a ≤ b * b → a ≤ b
sq_le a b h = go (leb a b) (leb→le a b) (nleb→lt a b)
  where
    go : (t : Bool) → (T t → a ≤ b) → (T (not t) → b < a) → a ≤ b
    go true x y = x tt
    go false x y =
        let l : b < a = y tt in
        let p : suc b * suc b ≤ a * a = mul-le-mul l l in
        absurd (omega arith)

-- ---- the last step: t within m / 8192 of u + w, and w * w within 9 / 2 ^ 26 of m * m of V. Then t is within m / 2048 of u + √V.
low_in : (x w m q : ℕ) → 4 * x + 3 * m ≤ 8192 * w → w * w * 67108864 ≤ q * 67108864 + m * m * 9 → x * x ≤ q * 4194304
low_in x w m q h k =
    let p : (4 * x + 3 * m) * (4 * x + 3 * m) ≤ 8192 * w * (8192 * w) = mul-le-mul h h in
    omega arith

pub final_low : (t u w m q : ℕ) → Off 8192 m t (u + w) → w * w * 67108864 ≤ q * 67108864 + m * m * 9 → (2048 * t - m - 2048 * u) * (2048 * t - m - 2048 * u) ≤ q * 4194304
final_low t u w m q h k = go (leb (2048 * t) (m + 2048 * u)) (leb→le (2048 * t) (m + 2048 * u)) (nleb→lt (2048 * t) (m + 2048 * u))
  where
    go : (b : Bool) → (T b → 2048 * t ≤ m + 2048 * u) → (T (not b) → m + 2048 * u < 2048 * t) → (2048 * t - m - 2048 * u) * (2048 * t - m - 2048 * u) ≤ q * 4194304
    go true x y = (let l : 2048 * t ≤ m + 2048 * u = x tt in let z : 2048 * t - m - 2048 * u ≡ 0 = omega arith in rw z zero-le)
    go false x y = (let l : m + 2048 * u < 2048 * t = y tt in let p = h.up in low_in (2048 * t - m - 2048 * u) w m q (omega arith) k)

high_in : (x w m q : ℕ) → 8192 * w + 3 * m ≤ 4 * x → q * 67108864 ≤ w * w * 67108864 + m * m * 9 → q * 4194304 ≤ x * x
high_in x w m q h k =
    let p : (8192 * w + 3 * m) * (8192 * w + 3 * m) ≤ 4 * x * (4 * x) = mul-le-mul h h in
    omega arith

pub final_high : (t u w m q : ℕ) → Off 8192 m t (u + w) → q * 67108864 ≤ w * w * 67108864 + m * m * 9 → (2048 * u ≤ 2048 * t + m) × (q * 4194304 ≤ (2048 * t + m - 2048 * u) * (2048 * t + m - 2048 * u))
final_high t u w m q h k =
    let p = h.down in
    let l : 2048 * u ≤ 2048 * t + m = omega arith in
    (l, high_in (2048 * t + m - 2048 * u) w m q (omega arith) k)
