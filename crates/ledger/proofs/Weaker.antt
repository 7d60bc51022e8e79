-- A statement by a number no larger than the one that is reached is weaker: M/k grows as k falls, and what is under, at or over the threshold stays so on its side. Assumes nothing.
use mathlib.Core.Path.{◌≡◌, ap}
use mathlib.Core.Bool.{Bool, true, false, not}
use Prim.Native.Nat.{ℕ, ◌+◌, ◌-◌, ◌*◌, ◌≤◌, ◌<◌}
use native.Mathlib.Nat.{mul-le-mul, mul-le-mul_right, mul-lt-mul_of_pos_right, lt_of_mul-lt-mul_right, sub-eq-zero_of_le, mul-pos}
use native.Mathlib.Omega.{arith}
use lib.Dec.{T, leb, leb→le, nleb→lt}
use lib.Ieee.Positive.{through}
use Rattle.ledger.specs.Fractions.{Fraction, plus, minus, times, part, Le, Lt}
use Rattle.ledger.specs.Ledger.{Ledger, mean, gap_squared, spread_squared, AtOrUnder, AtOrOver, Over}

-- ---- orders of fractions
le_le : (x y w : Fraction) → 0 < y.den → Le x y → Le y w → Le x w
le_le x y w h a b = through x.num y.num w.num x.den y.den w.den h a b

lt_le : (x y w : Fraction) → 0 < w.den → Lt x y → Le y w → Lt x w
lt_le x y w h a b = go x.num x.den y.num y.den w.num w.den h a b
  where
    go : (xn xd yn yd wn wd : ℕ) → 0 < wd → xn * yd < yn * xd → yn * wd ≤ wn * yd → xn * wd < wn * xd
    go xn xd yn yd wn wd h a b =
        lt_of_mul-lt-mul_right yd
        (let c : xn * yd * wd < yn * xd * wd = mul-lt-mul_of_pos_right a h in
        let d : yn * wd * xd ≤ wn * yd * xd = mul-le-mul_right xd b in
        let e : xn * wd * yd < wn * xd * yd = omega arith in e)

squared : (x y : Fraction) → Le x y → Le (times x x) (times y y)
squared x y h = go x.num x.den y.num y.den h
  where
    go : (a a' b b' : ℕ) → a * b' ≤ b * a' → a * a * (b' * b') ≤ b * b * (a' * a')
    go a a' b b' h = (let i : a * b' * (a * b') ≤ b * a' * (b * a') = mul-le-mul h h in omega arith)

-- ---- a difference: x - u and y - w where x ≤ y and w ≤ u
less_in : (x x' y y' u u' w w' : ℕ) → x * y' ≤ y * x' → w * u' ≤ u * w' → (x * u' - u * x') * (y' * w') ≤ (y * w' - w * y') * (x' * u')
less_in x x' y y' u u' w w' h k = go (leb (x * u') (u * x')) (leb→le (x * u') (u * x')) (nleb→lt (x * u') (u * x'))
  where
    more : (p q : ℕ) → u * x' + p ≡ x * u' → y * w' ≤ q + w * y' → p * (y' * w') ≤ q * (x' * u')
    more p q e f =
        let a : x * y' * (u' * w') ≤ y * x' * (u' * w') = mul-le-mul_right (u' * w') h in
        let b : w * u' * (x' * y') ≤ u * w' * (x' * y') = mul-le-mul_right (x' * y') k in
        let c : (u * x' + p) * (y' * w') ≡ x * u' * (y' * w') = ap (λ (i : ℕ). i * (y' * w')) e in
        let d : y * w' * (x' * u') ≤ (q + w * y') * (x' * u') = mul-le-mul_right (x' * u') f in
        omega arith

    go : (c : Bool) → (T c → x * u' ≤ u * x') → (T (not c) → u * x' < x * u') → (x * u' - u * x') * (y' * w') ≤ (y * w' - w * y') * (x' * u')
    go true f g = (let e : x * u' - u * x' ≡ 0 = sub-eq-zero_of_le (f tt) in rw e (omega arith))
    go false f g = (let l = g tt in more (x * u' - u * x') (y * w' - w * y') (omega arith) (omega arith))

less : (x y u w : Fraction) → Le x y → Le w u → Le (minus x u) (minus y w)
less x y u w = less_in x.num x.den y.num y.den u.num u.den w.num w.den

-- ---- M/k
part_le : (M : Fraction) (j k : ℕ) → j ≤ k → Le (part M k) (part M j)
part_le M j k h = go M.num M.den h
  where
    go : (n d : ℕ) → j ≤ k → n * (d * j) ≤ n * (d * k)
    go n d h = (let a : j * (n * d) ≤ k * (n * d) = mul-le-mul_right (n * d) h in omega arith)

pub with_more : (x M : Fraction) (j k : ℕ) → j ≤ k → Le (plus x (part M k)) (plus x (part M j))
with_more x M j k h = go x.num x.den M.num M.den h
  where
    go : (a a' n d : ℕ) → j ≤ k → (a * (d * k) + n * a') * (a' * (d * j)) ≤ (a * (d * j) + n * a') * (a' * (d * k))
    go a a' n d h = (let b : j * (n * a' * (a' * d)) ≤ k * (n * a' * (a' * d)) = mul-le-mul_right (n * a' * (a' * d)) h in omega arith)

pub with_less : (x M : Fraction) (j k : ℕ) → j ≤ k → Le (minus x (part M j)) (minus x (part M k))
with_less x M j k h = less x x (part M j) (part M k) (omega arith) (part_le M j k h)

-- ---- on its side of the threshold
module _ (z : Fraction) (b : Ledger) (y w : Fraction) (u : 0 < (mean b).den) (l : Le y w) where
  gap_le : Le (gap_squared b y) (gap_squared b w)
  gap_le = squared (minus y (mean b)) (minus w (mean b)) (less y w (mean b) (mean b) l (omega arith))

  pub under_below : 0 < w.den → AtOrUnder z b w → AtOrUnder z b y
  under_below h a = le_le (gap_squared b y) (gap_squared b w) (spread_squared z b) (mul-pos (mul-pos h u) (mul-pos h u)) gap_le a

  pub over_above : 0 < w.den → Over z b y → Over z b w
  over_above h a = lt_le (spread_squared z b) (gap_squared b y) (gap_squared b w) (mul-pos (mul-pos h u) (mul-pos h u)) a gap_le

  pub not_under_above : 0 < y.den → AtOrOver z b y → AtOrOver z b w
  not_under_above h a = (
    le_le (mean b) y w h a.0 l,
    le_le (spread_squared z b) (gap_squared b y) (gap_squared b w) (mul-pos (mul-pos h u) (mul-pos h u)) a.1 gap_le,
  )
