-- Relative error: `Below P k x y` says that x less k parts in P is at most y, and `Near P k x y` says it both ways. Parts add up along sums, products and quotients. Assumes nothing.
use mathlib.Core.Path.{◌≡◌}
use Prim.Native.Nat.{ℕ, ◌+◌, ◌-◌, ◌*◌, ◌≤◌, ◌<◌, zero-le}
use native.Mathlib.Nat.{le_trans, mul_comm, mul-le-mul_right, mul-le-mul_left, mul-le-mul, le_of_mul-le-mul_right, mul-pos, sub-le-sub_left, mul-zero}
use native.Mathlib.Omega.{arith}
use lib.Dec.{T, leb, leb→le, nleb→lt}
use mathlib.Core.Bool.{Bool, true, false, not}
use Rattle.ledger.specs.Fractions.{Fraction, plus, times, divided_by}

-- x times (1 - k / P) is at most y
abbrev pub Below : ℕ → ℕ → Fraction → Fraction → Type 0
Below P k x y = x.num * y.den * (P - k) ≤ y.num * x.den * P

pub record Near (P k : ℕ) (x y : Fraction) : Type 0 where
  pub lo : Below P k y x
  pub hi : Below P k x y

-- ---- (P - j) (P - k) ≥ P (P - (j + k))
room_in : (j k t : ℕ) → (j + k + t) * t ≤ (k + t) * (j + t)
room_in j k t = omega arith

room : (P j k : ℕ) → P * (P - (j + k)) ≤ (P - j) * (P - k)
room P j k = go (leb (j + k) P) (leb→le (j + k) P) (nleb→lt (j + k) P)
  where
    at : (t : ℕ) → j + k + t ≡ P → P * (P - (j + k)) ≤ (P - j) * (P - k)
    at t e =
        let a : P - (j + k) ≡ t = omega arith in
        let b : P - j ≡ k + t = omega arith in
        let c : P - k ≡ j + t = omega arith in
        rw (a, b, c, ← e) (room_in j k t)

    go : (b : Bool) → (T b → j + k ≤ P) → (T (not b) → P < j + k) → P * (P - (j + k)) ≤ (P - j) * (P - k)
    go true h l = at (P - (j + k)) (let i : j + k ≤ P = h tt in omega arith)
    go false h l = let z : P - (j + k) ≡ 0 = (let i : P < j + k = l tt in omega arith) in rw (z, mul-zero P) zero-le

module _ (P : ℕ) (pos : 0 < P) where
  -- the laws over plain numbers: r, s and t stand for P - j, P - k and P - (j + k)
  chain : (a a' b b' c c' r s t : ℕ) → 0 < b' → P * t ≤ r * s → a * b' * r ≤ b * a' * P → b * c' * s ≤ c * b' * P → a * c' * t ≤ c * a' * P
  chain a a' b b' c c' r s t B m h k =
      let x : a * c' * b' * (P * t) ≤ a * c' * b' * (r * s) = mul-le-mul_left (a * c' * b') m in
      let y : a * b' * r * (c' * s) ≤ b * a' * P * (c' * s) = mul-le-mul_right (c' * s) h in
      let z : b * c' * s * (a' * P) ≤ c * b' * P * (a' * P) = mul-le-mul_right (a' * P) k in
      let g : a * c' * t * (P * b') ≤ c * a' * P * (P * b') = omega arith in
      le_of_mul-le-mul_right g (mul-pos pos B)

  pub below_trans : (j k : ℕ) (x y z : Fraction) → 0 < y.den → Below P j x y → Below P k y z → Below P (j + k) x z
  below_trans j k x y z Y h l = chain x.num x.den y.num y.den z.num z.den (P - j) (P - k) (P - (j + k)) Y (room P j k) h l

  pub below_weaken : (j k : ℕ) (x y : Fraction) → j ≤ k → Below P j x y → Below P k x y
  below_weaken j k x y l h = le_trans (mul-le-mul_left (x.num * y.den) (sub-le-sub_left l P)) h

  sums : (a a' b b' d d' e e' r : ℕ) → a * b' * r ≤ b * a' * P → d * e' * r ≤ e * d' * P → (a * d' + d * a') * (b' * e') * r ≤ (b * e' + e * b') * (a' * d') * P
  sums a a' b b' d d' e e' r h k =
      let x : a * b' * r * (d' * e') ≤ b * a' * P * (d' * e') = mul-le-mul_right (d' * e') h in
      let y : d * e' * r * (a' * b') ≤ e * d' * P * (a' * b') = mul-le-mul_right (a' * b') k in
      omega arith

  pub below_plus : (k : ℕ) (x y x' y' : Fraction) → Below P k x y → Below P k x' y' → Below P k (plus x x') (plus y y')
  below_plus k x y x' y' h l = sums x.num x.den y.num y.den x'.num x'.den y'.num y'.den (P - k) h l

  products : (a a' b b' d d' e e' r s t : ℕ) → P * t ≤ r * s → a * b' * r ≤ b * a' * P → d * e' * s ≤ e * d' * P → a * d * (b' * e') * t ≤ b * e * (a' * d') * P
  products a a' b b' d d' e e' r s t m h k =
      let x : a * d * (b' * e') * (P * t) ≤ a * d * (b' * e') * (r * s) = mul-le-mul_left (a * d * (b' * e')) m in
      let y : a * b' * r * (d * e' * s) ≤ b * a' * P * (e * d' * P) = mul-le-mul h k in
      let g : a * d * (b' * e') * t * P ≤ b * e * (a' * d') * P * P = omega arith in
      le_of_mul-le-mul_right g pos

  pub below_times : (j k : ℕ) (x y x' y' : Fraction) → Below P j x y → Below P k x' y' → Below P (j + k) (times x x') (times y y')
  below_times j k x y x' y' h l = products x.num x.den y.num y.den x'.num x'.den y'.num y'.den (P - j) (P - k) (P - (j + k)) (room P j k) h l

  -- a quotient falls as its divisor grows
  pub below_by : (j k : ℕ) (x y x' y' : Fraction) → Below P j x y → Below P k y' x' → Below P (j + k) (divided_by x x') (divided_by y y')
  below_by j k x y x' y' h l = products x.num x.den y.num y.den x'.den x'.num y'.den y'.num (P - j) (P - k) (P - (j + k)) (room P j k) h (flip l)
    where
      flip : y'.num * x'.den * (P - k) ≤ x'.num * y'.den * P → x'.den * y'.num * (P - k) ≤ y'.den * x'.num * P
      flip m = rw (mul_comm x'.den y'.num, mul_comm y'.den x'.num) m

  pub near_trans : (j k : ℕ) (x y z : Fraction) → 0 < y.den → Near P j x y → Near P k y z → Near P (j + k) x z
  near_trans j k x y z Y h l = record {
    lo = below_weaken (k + j) (j + k) z x (omega arith) (below_trans k j z y x Y l.lo h.lo);
    hi = below_trans j k x y z Y h.hi l.hi;
  }

  pub near_weaken : (j k : ℕ) (x y : Fraction) → j ≤ k → Near P j x y → Near P k x y
  near_weaken j k x y l h = record { lo = below_weaken j k y x l h.lo; hi = below_weaken j k x y l h.hi }

  pub near_plus : (k : ℕ) (x y x' y' : Fraction) → Near P k x y → Near P k x' y' → Near P k (plus x x') (plus y y')
  near_plus k x y x' y' h l = record { lo = below_plus k y x y' x' h.lo l.lo; hi = below_plus k x y x' y' h.hi l.hi }

  pub near_times : (j k : ℕ) (x y x' y' : Fraction) → Near P j x y → Near P k x' y' → Near P (j + k) (times x x') (times y y')
  near_times j k x y x' y' h l = record { lo = below_times j k y x y' x' h.lo l.lo; hi = below_times j k x y x' y' h.hi l.hi }

  pub near_by : (j k : ℕ) (x y x' y' : Fraction) → Near P j x y → Near P k x' y' → Near P (j + k) (divided_by x x') (divided_by y y')
  near_by j k x y x' y' h l = record { lo = below_by j k y x y' x' h.lo l.hi; hi = below_by j k x y x' y' h.hi l.lo }
