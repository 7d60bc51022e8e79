-- `round` to the narrower format, in units of the wider one's smallest value: the nearest multiple of a step, the step being the format's where the number lies. So
-- nothing else that the format holds is nearer, and from `edge` on the result is an infinity. Assumes nothing.
use Rattle.std.proofs.Common.{◌≡◌, ℕ, suc, ◌+◌, ◌-◌, ◌*◌, ◌/◌, ◌%◌, ◌^◌, ◌<◌, ◌≤◌, Bool, true, false, not, T, ◌⊎◌, sym, refl, ap, ◌∙◌, subst, inl, inr, le_trans, le_of_eq, lt_of_lt_of_le, lt_of_le_of_lt, le_of_lt, lt_irrefl, mul-le-mul_right, mul_assoc, mul_comm, div-lt_iff_lt-mul, eq-zero-or-pos, le_antisymm, lt_of_mul-lt-mul_right, eq-or-lt_of_le, mul-le-mul_left, mul-lt-mul_of_pos_right, mul-pos, le-div_iff_mul-le, zero-mul, mul_right_comm, le_of_mul-le-mul_right, arith, lit<, lit≤, pow_pos, pow_mono, pow-add}
use lib.Pow.{pow-lt}
use lib.Ieee.{Float, inf, binary32, round, units, size, fits, is_nan, of_bits, to_bits}
use lib.Ieee.Digits.{size-lt, size-le, size_reaches}
use lib.Ieee.Fits.{round-fits}
use lib.Ieee.Exact.{units_val}
use lib.Ieee.Nearest.{closest, closest_same}
use lib.Ieee.Bits.{to_bits-of_bits}
use Rattle.ieee.specs.Meaning.{Units, gap, edge, NearestNarrow}
use Rattle.ieee.proofs.Pattern.{pattern, pow_lt_back}
use Rattle.ieee.proofs.Nans.{round_no_nan}
use Rattle.ieee.proofs.Rounding.{round_at, units_inf, under_or_over, overflows, rounded_pattern}
use Rattle.ieee.proofs.Flooring.{rescale}
use Rattle.ieee.proofs.Values.{in_units, same_value}
use Rattle.ieee.proofs.Nearness.{multiple, beneath, Close, close, apart, as_near, tie_even}

-- ---- X units lie where the format's step is G units, k digits above its smallest value, and Q steps are nearest
record Placed (X k G Q : ℕ) : Type 0 where
  pub step : G ≡ 2 ^ 925 * 2 ^ k
  pub some : 0 < G
  pub near : Close X G Q
  pub high : X < 2 ^ 24 * G
  pub low : 0 < k → 2 ^ 23 * G ≤ X

module _ (X k G Q : ℕ) (at : Placed X k G Q) where
  most : Q ≤ 2 ^ 24
  most = back (lt_of_mul-lt-mul_right G (less (2 ^ 24) at.near.over at.high))
    where
      less : (N : ℕ) → 2 * (Q * G) ≤ 2 * X + G → X < N * G → Q * 2 * G < (N * 2 + 1) * G
      less N h l = omega arith

      back : Q * 2 < 2 ^ 24 * 2 + 1 → Q ≤ 2 ^ 24
      back h = omega arith

  -- a value of the format is a multiple of the step, or below all that X can be
  place : (y : Float) (t : Bool) (v : ℕ) → T (fits binary32 y) → Units y t v → ((q : ℕ) × (v ≡ q * G)) ⊎ ((0 < k) × (v < 2 ^ 23 * G))
  place y t v F h =
      let u = in_units binary32 y t v (2 ^ 1074) F h in
      let m = u.m in
      let i = u.i in
      let v-is : v ≡ m * 2 ^ i * 2 ^ 925 = same_value y t v (m * 2 ^ i * 2 ^ 925) (2 ^ 1074) h (rescale y t (m * 2 ^ i) (2 ^ 149) (m * 2 ^ i * 2 ^ 925) (2 ^ 1074) (pow_pos 149) (ap (λ (z : ℕ). m * 2 ^ i * z) (pow-add 2 925 149) ∙ sym (mul_assoc (m * 2 ^ i) (2 ^ 925) (2 ^ 149))) u.value) in
      elim (under_or_over i k) [
        | inl l ↦ inr (zero_lt i k l, subst (λ (z : ℕ). z < 2 ^ 23 * G) (sym v-is) (subst (λ (z : ℕ). m * 2 ^ i * 2 ^ 925 < 2 ^ 23 * z) (mul_comm (2 ^ k) (2 ^ 925) ∙ sym at.step) (lt_of_lt_of_le (mul-lt-mul_of_pos_right (beneath 23 m i k u.digits l) (pow_pos 925)) (le_of_eq (mul_assoc (2 ^ 23) (2 ^ k) (2 ^ 925))))))
        | inr g ↦ inl (m * 2 ^ (i - k), v-is ∙ ap (λ (z : ℕ). z * 2 ^ 925) (multiple m i k g) ∙ mul_assoc (m * 2 ^ (i - k)) (2 ^ k) (2 ^ 925) ∙ ap (λ (z : ℕ). m * 2 ^ (i - k) * z) (mul_comm (2 ^ k) (2 ^ 925) ∙ sym at.step))
      ]
    where
      zero_lt : (i k : ℕ) → i < k → 0 < k
      zero_lt i k h = omega arith

  -- what is below all that X can be is further away than the least multiple there
  far : (v : ℕ) → 0 < k → v < 2 ^ 23 * G → apart X (Q * G) < apart X v
  far v g l = lt_of_le_of_lt (as_near X G Q (2 ^ 23) at.near) (less (2 ^ 23 * G) (at.low g) l)
    where
      less : (y : ℕ) → y ≤ X → v < y → apart X y < apart X v
      less y a b = omega arith

  -- the other side of zero is no nearer than zero
  across : (v : ℕ) → apart X (Q * G) ≤ X + v
  across v = le_trans (as_near X G Q 0 at.near) (go (0 * G) (zero-mul G))
    where
      go : (z : ℕ) → z ≡ 0 → apart X z ≤ X + v
      go z e = omega arith

  across_tie : (v : ℕ) → apart X (Q * G) ≡ X + v → Q % 2 ≡ 0
  across_tie v e = elim (eq-zero-or-pos Q) [
    | inl z ↦ ap (λ (q : ℕ). q % 2) z
    | inr p ↦ tie_even X G Q 0 at.some at.near (le_antisymm (as_near X G Q 0 at.near) (le_trans (go (0 * G) (zero-mul G)) (le_of_eq (sym e)))) (no Q p)
  ]
    where
      go : (z : ℕ) → z ≡ 0 → apart X z ≤ X + v
      go z e = omega arith

      no : (Q : ℕ) → 0 < Q → 0 ≡ Q → ⊥
      no Q p e = omega arith

  near_value : (v : ℕ) → ((q : ℕ) × (v ≡ q * G)) ⊎ ((0 < k) × (v < 2 ^ 23 * G)) → apart X (Q * G) ≤ apart X v
  near_value v (inl c) = subst (λ (z : ℕ). apart X (Q * G) ≤ apart X z) (sym c.1) (as_near X G Q c.0 at.near)
  near_value v (inr c) = le_of_lt (far v c.0 c.1)

  tie_value : (v : ℕ) → ((q : ℕ) × (v ≡ q * G)) ⊎ ((0 < k) × (v < 2 ^ 23 * G)) → apart X (Q * G) ≡ apart X v → (v ≡ Q * G → ⊥) → Q % 2 ≡ 0
  tie_value v (inl c) e d = tie_even X G Q c.0 at.some at.near (e ∙ ap (apart X) c.1) (λ s. d (c.1 ∙ ap (λ (q : ℕ). q * G) s))
  tie_value v (inr c) e d = absurd (lt_irrefl (apart X v) (subst (λ (z : ℕ). z < apart X v) e (far v c.0 c.1)))

  nearest_of : (s t : Bool) (v : ℕ) → ((q : ℕ) × (v ≡ q * G)) ⊎ ((0 < k) × (v < 2 ^ 23 * G)) → gap s X s (Q * G) ≤ gap s X t v
  nearest_of true true v p = near_value v p
  nearest_of false false v p = near_value v p
  nearest_of true false v p = across v
  nearest_of false true v p = across v

  even_of : (s t : Bool) (v : ℕ) → ((q : ℕ) × (v ≡ q * G)) ⊎ ((0 < k) × (v < 2 ^ 23 * G)) → gap s X s (Q * G) ≡ gap s X t v → (v ≡ Q * G → ⊥) → Q % 2 ≡ 0
  even_of true true v p e d = tie_value v p e d
  even_of false false v p e d = tie_value v p e d
  even_of true false v p e d = across_tie v e
  even_of false true v p e d = across_tie v e

-- ---- where X units lie, and what they are rounded to
abbrev step : ℕ → ℕ
step k = 2 ^ 925 * 2 ^ k

abbrev pub rounded : ℕ → Bool → Float
rounded X s = round binary32 s X (2 ^ 1074)

step_pos : (k : ℕ) → 0 < step k
step_pos k = mul-pos (pow_pos 925) (pow_pos k)

scale : (k : ℕ) → 2 ^ 1074 * 2 ^ k ≡ step k * 2 ^ 149
scale k = ap (λ (z : ℕ). z * 2 ^ k) (pow-add 2 925 149) ∙ mul_right_comm (2 ^ 925) (2 ^ 149) (2 ^ k)

kept_is : (X k : ℕ) → closest (X * 2 ^ 149) (2 ^ 1074 * 2 ^ k) ≡ closest X (step k)
kept_is X k =
    closest_same (X * 2 ^ 149) (2 ^ 1074 * 2 ^ k) X (step k) (mul-pos (pow_pos 1074) (pow_pos k)) (step_pos k)
    (mul_assoc X (2 ^ 149) (step k) ∙ ap (λ (z : ℕ). X * z) (mul_comm (2 ^ 149) (step k) ∙ sym (scale k)))

-- the bounds of n / den, k digits being dropped
under : (z k : ℕ) → z - 24 ≡ k → z ≤ 24 + k
under z k e = omega arith

reached : (z k : ℕ) → z - 24 ≡ k → 0 < k → 23 + k < z
reached z k e h = omega arith

high_bound : (n k : ℕ) → size (n / 2 ^ 1074) - 24 ≡ k → n < 2 ^ 24 * (2 ^ 1074 * 2 ^ k)
high_bound n k e =
    lt_of_lt_of_le ((div-lt_iff_lt-mul (pow_pos 1074)).0 (lt_of_lt_of_le (size-lt (n / 2 ^ 1074)) (pow_mono (under (size (n / 2 ^ 1074)) k e))))
    (le_of_eq (ap (λ (z : ℕ). z * 2 ^ 1074) (pow-add 2 24 k) ∙ mul_assoc (2 ^ 24) (2 ^ k) (2 ^ 1074) ∙ ap (λ (z : ℕ). 2 ^ 24 * z) (mul_comm (2 ^ k) (2 ^ 1074))))

low_bound : (n k : ℕ) → size (n / 2 ^ 1074) - 24 ≡ k → 0 < k → 2 ^ 23 * (2 ^ 1074 * 2 ^ k) ≤ n
low_bound n k e h =
    le_trans (le_of_eq (ap (λ (z : ℕ). 2 ^ 23 * z) (mul_comm (2 ^ 1074) (2 ^ k)) ∙ sym (mul_assoc (2 ^ 23) (2 ^ k) (2 ^ 1074)) ∙ ap (λ (z : ℕ). z * 2 ^ 1074) (sym (pow-add 2 23 k))))
    ((le-div_iff_mul-le (pow_pos 1074)).0 (size_reaches (n / 2 ^ 1074) (23 + k) (reached (size (n / 2 ^ 1074)) k e h)))

placed : (X k : ℕ) → size (X * 2 ^ 149 / 2 ^ 1074) - 24 ≡ k → Placed X k (step k) (closest X (step k))
placed X k e = record {
  step = refl;
  some = step_pos k;
  near = close X (step k) (step_pos k);
  high = lt_of_mul-lt-mul_right (2 ^ 149) (lt_of_lt_of_le (high_bound (X * 2 ^ 149) k e) (le_of_eq (ap (λ (z : ℕ). 2 ^ 24 * z) (scale k) ∙ sym (mul_assoc (2 ^ 24) (step k) (2 ^ 149)))));
  low = λ h. le_of_mul-le-mul_right (le_trans (le_of_eq (mul_assoc (2 ^ 23) (step k) (2 ^ 149) ∙ ap (λ (z : ℕ). 2 ^ 23 * z) (sym (scale k)))) (low_bound (X * 2 ^ 149) k e h)) (pow_pos 149);
}

module _ (X k : ℕ) (drops : size (X * 2 ^ 149 / 2 ^ 1074) - 24 ≡ k) where
  rounded_is : (s : Bool) → rounded X s ≡ units binary32 s (closest X (step k)) k
  rounded_is s = round_at binary32 s X (2 ^ 1074) k (closest X (step k)) drops (kept_is X k)

  rounded_units : (s : Bool) → closest X (step k) * 2 ^ k < 2 ^ 277 → Units (rounded X s) s (closest X (step k) * step k)
  rounded_units s h =
      let Q = closest X (step k) in
      subst (λ (y : Float). Units y s (Q * step k)) (sym (rounded_is s))
      (rescale (units binary32 s Q k) s (Q * 2 ^ k) (2 ^ 149) (Q * step k) (2 ^ 1074) (pow_pos 149)
      (mul_assoc Q (2 ^ k) (2 ^ 1074) ∙ ap (λ (z : ℕ). Q * z) (mul_comm (2 ^ k) (2 ^ 1074) ∙ scale k) ∙ sym (mul_assoc Q (step k) (2 ^ 149)))
      (units_val binary32 s Q k h))

  -- the last digit of the pattern is that of the multiple
  last_digit : (s : Bool) → k ≤ 253 → to_bits binary32 (rounded X s) % 2 ≡ closest X (step k) % 2
  last_digit s k-le =
      let Q = closest X (step k) in
      let D : 0 < 2 ^ 1074 = pow_pos 1074 in
      let is : of_bits binary32 (pattern binary32 s k Q) ≡ rounded X s = rounded_pattern binary32 s X (2 ^ 1074) k Q D (high_bound (X * 2 ^ 149) k drops) (low_bound (X * 2 ^ 149) k drops) (kept_is X k) (top k k-le) in
      ap (λ (y : Float). to_bits binary32 y % 2) (sym is)
      ∙ ap (λ (n : ℕ). n % 2) (to_bits-of_bits binary32 (pattern binary32 s k Q) (small s k Q k-le (most X k (step k) Q (placed X k drops))) (subst (λ (y : Float). T (not (is_nan y))) (sym is) (round_no_nan binary32 s X (2 ^ 1074))))
      ∙ parity s k Q
    where
      top : (k : ℕ) → k ≤ 253 → suc k < 255
      top k h = omega arith

      small : (s : Bool) (k Q : ℕ) → k ≤ 253 → Q ≤ 2 ^ 24 → pattern binary32 s k Q < 2 * 2 ^ 31
      small true k Q h g = omega arith
      small false k Q h g = omega arith

      parity : (s : Bool) (k Q : ℕ) → pattern binary32 s k Q % 2 ≡ Q % 2
      parity true k Q = omega arith
      parity false k Q = omega arith

  nearest_narrow : (s : Bool) → k ≤ 253 → closest X (step k) * 2 ^ k < 2 ^ 277 → NearestNarrow X s (rounded X s)
  nearest_narrow s k-le h =
      let Q = closest X (step k) in
      let at = placed X k drops in
      record {
        units = Q * step k;
        value = rounded_units s h;
        held = round-fits binary32 s X (2 ^ 1074);
        nearest = λ y t m F v. nearest_of X k (step k) Q at s t m (place X k (step k) Q at y t m F v);
        even = λ y t m F v e d. last_digit s k-le ∙ even_of X k (step k) Q at s t m (place X k (step k) Q at y t m F v) e d;
      }

-- ---- the edge
under_top : (X k : ℕ) → size (X * 2 ^ 149 / 2 ^ 1074) - 24 ≡ k → X < 2 ^ 1202 → k ≤ 253
under_top X k e h =
    less (size (X * 2 ^ 149 / 2 ^ 1074)) k e
    (size-le (X * 2 ^ 149 / 2 ^ 1074) 277 ((div-lt_iff_lt-mul (pow_pos 1074)).1 (lt_of_lt_of_le (mul-lt-mul_of_pos_right h (pow_pos 149)) (le_of_eq refl))))
  where
    less : (z k : ℕ) → z - 24 ≡ k → z ≤ 277 → k ≤ 253
    less z k e h = omega arith

edge_under : edge < 2 ^ 1202
unfolding edge
edge_under = lit< tt

twice_edge : 2 * edge ≡ (2 ^ 25 - 1) * step 253
unfolding edge
twice_edge = refl

stays : (X k : ℕ) → size (X * 2 ^ 149 / 2 ^ 1074) - 24 ≡ k → X < edge → k ≤ 253 → closest X (step k) * 2 ^ k < 2 ^ 277
stays X k e h k-le = elim (eq-or-lt_of_le k-le) [
  | inl q ↦ subst (λ (j : ℕ). closest X (step j) * 2 ^ j < 2 ^ 277) (sym q) (last (placed X 253 (e ∙ q)))
  | inr l ↦ lt_of_le_of_lt (mul-le-mul_right (2 ^ k) (most X k (step k) (closest X (step k)) (placed X k e))) (lt_of_le_of_lt (le_of_eq (sym (pow-add 2 24 k))) (pow-lt (room k l)))
]
  where
    room : (k : ℕ) → k < 253 → 24 + k < 277
    room k l = omega arith

    count : (Q G : ℕ) → 2 * (Q * G) ≤ 2 * X + G → 2 * X < (2 ^ 25 - 1) * G → Q * 2 * G < 2 ^ 24 * 2 * G
    count Q G a b = omega arith

    half : (Q : ℕ) → Q * 2 < 2 ^ 24 * 2 → Q < 2 ^ 24
    half Q h = omega arith

    double : (a b : ℕ) → a < b → 2 * a < 2 * b
    double a b h = omega arith

    last : Placed X 253 (step 253) (closest X (step 253)) → closest X (step 253) * 2 ^ 253 < 2 ^ 277
    last at =
        let Q = closest X (step 253) in
        lt_of_lt_of_le (mul-lt-mul_of_pos_right (half Q (lt_of_mul-lt-mul_right (step 253) (count Q (step 253) at.near.over (lt_of_lt_of_le (double X edge h) (le_of_eq twice_edge))))) (pow_pos 253)) (le_of_eq refl)

-- at the edge itself the two neighbours are 2 ^ 24 - 1 and 2 ^ 24 steps, and the second is even
past : (X G Q : ℕ) → 0 < G → Close X G Q → (2 ^ 25 - 1) * G ≤ 2 * X → 2 ^ 24 ≤ Q
past X G Q g n h = elim (under_or_over Q (2 ^ 24)) [
  | inl l ↦
      let q : Q ≡ 2 ^ 24 - 1 = exact Q l (le_of_mul-le-mul_right (le_trans h (le_trans n.under (le_of_eq (sum Q G)))) g) in
      let m : (2 * Q + 1) * G ≡ (2 ^ 25 - 1) * G = ap (λ (z : ℕ). (2 * z + 1) * G) q in
      absurd (odd Q q (n.tie_under (le_antisymm n.under (le_trans (le_of_eq (sum Q G ∙ m)) h))))
  | inr a ↦ a
]
  where
    sum : (Q G : ℕ) → 2 * (Q * G) + G ≡ (2 * Q + 1) * G
    sum Q G = omega arith

    exact : (Q : ℕ) → Q < 2 ^ 24 → 2 ^ 25 - 1 ≤ 2 * Q + 1 → Q ≡ 2 ^ 24 - 1
    exact Q l h = omega arith

    odd : (Q : ℕ) → Q ≡ 2 ^ 24 - 1 → Q % 2 ≡ 0 → ⊥
    odd Q e h = omega arith

edge_over : 2 ^ 276 * 2 ^ 1074 ≤ edge * 2 ^ 149
unfolding edge
edge_over = lit≤ tt

at_top : (X k : ℕ) → size (X * 2 ^ 149 / 2 ^ 1074) - 24 ≡ k → edge ≤ X → 253 ≤ k
at_top X k e h =
    let w = X * 2 ^ 149 / 2 ^ 1074 in
    more (size w) k e (pow_lt_back 276 (size w) (lt_of_le_of_lt ((le-div_iff_mul-le (pow_pos 1074)).1 (le_trans edge_over (mul-le-mul_right (2 ^ 149) h))) (size-lt w)))
  where
    more : (z k : ℕ) → z - 24 ≡ k → 276 < z → 253 ≤ k
    more z k e h = omega arith

goes : (X k : ℕ) (s : Bool) → size (X * 2 ^ 149 / 2 ^ 1074) - 24 ≡ k → k ≡ 253 → edge ≤ X → rounded X s ≡ inf s
goes X k s e q h =
    rounded_is X 253 (e ∙ q) s
    ∙ units_inf binary32 s (closest X (step 253)) 253 (mul-le-mul_right (2 ^ 253) (past X (step 253) (closest X (step 253)) (step_pos 253) (close X (step 253) (step_pos 253)) (le_trans (le_of_eq (sym twice_edge)) (mul-le-mul_left 2 h))))

pub beyond : (X : ℕ) (s : Bool) → edge ≤ X → rounded X s ≡ inf s
beyond X s h = elim (under_or_over X (2 ^ 1202)) [
  | inl l ↦ let k = size (X * 2 ^ 149 / 2 ^ 1074) - 24 in goes X k s refl (le_antisymm (under_top X k refl l) (at_top X k refl h)) h
  | inr g ↦ overflows binary32 s X (2 ^ 1074) (pow_pos 1074) g
]

pub under_edge : (X : ℕ) (s : Bool) → X < edge → NearestNarrow X s (rounded X s)
under_edge X s h =
    let k = size (X * 2 ^ 149 / 2 ^ 1074) - 24 in
    let k-le : k ≤ 253 = under_top X k refl (lt_of_lt_of_le h (le_of_lt edge_under)) in
    nearest_narrow X k refl s k-le (stays X k refl h k-le)
