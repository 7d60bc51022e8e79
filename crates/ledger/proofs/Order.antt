-- Fractions on either side of the ledger's threshold are in order. Assumes nothing.
use mathlib.Core.Path.{◌≡◌}
use mathlib.Core.List.{List, [], ◌∷◌}
use Prim.Native.Nat.{ℕ, ◌+◌, ◌-◌, ◌*◌, ◌≤◌, ◌<◌}
use native.Mathlib.Nat.{le_trans, lt_of_not-le, not-le_of_lt, mul-le-mul, mul-pos, zero-lt-suc}
use native.Mathlib.Omega.{arith}
use Rattle.ledger.specs.Fractions.{part, Fraction, plus, times, minus, Le, Lt}
use Rattle.ledger.proofs.Absolute.{sq_le}
use Rattle.ledger.proofs.CommonUnit.{Parts, at_le, le_at, at_scale, at_times, at_plus, at_less, unit_of, In, here, there, share, share_at}

pub at_lt : (D : ℕ) (v w : Fraction) (a b : ℕ) → 0 < D → Parts D v a → Parts D w b → Lt v w → a < b
at_lt D v w a b hD e f h = lt_of_not-le (λ (i : b ≤ a). not-le_of_lt h (le_at D w v b a hD f e i))

pub lt_at : (D : ℕ) (v w : Fraction) (a b : ℕ) → 0 < v.den → 0 < w.den → Parts D v a → Parts D w b → a < b → Lt v w
lt_at D v w a b hv hw e f h = lt_of_not-le (λ (i : Le w v). not-le_of_lt h (at_le D w v b a hw hv f e i))

under : (y w u q : ℕ) → (y - u) * (y - u) ≤ q → q ≤ (w - u) * (w - u) → u ≤ w → y ≤ w
under y w u q h k l = (let i : y - u ≤ w - u = sq_le (y - u) (w - u) (le_trans h k) in omega arith)

over_in : (y w u q : ℕ) → (y - u) * (y - u) ≤ q → q < (w - u) * (w - u) → y < w
over_in y w u q h k = lt_of_not-le (λ (i : w ≤ y). not-le_of_lt k (le_trans (sq i) h))
  where
    sq : w ≤ y → (w - u) * (w - u) ≤ (y - u) * (y - u)
    sq i = (let j : w - u ≤ y - u = omega arith in mul-le-mul j j)

-- y at most the threshold u + √q, and w at least
module _ (y w u q : Fraction) (hy : 0 < y.den) (hw : 0 < w.den) (hu : 0 < u.den) (hq : 0 < q.den) where
  vs : List Fraction
  vs = y ∷ w ∷ u ∷ q ∷ []

  D_pos : 0 < unit_of vs
  unfolding vs unit_of
  D_pos = mul-pos hy (mul-pos hw (mul-pos hu (mul-pos hq (zero-lt-suc 0))))

  iy : In y vs
  unfolding vs
  iy = here

  iw : In w vs
  unfolding vs
  iw = there here

  iu : In u vs
  unfolding vs
  iu = there (there here)

  iq : In q vs
  unfolding vs
  iq = there (there (there here))

  sq_y : Parts (unit_of vs * unit_of vs) (times (minus y u) (minus y u)) ((share iy - share iu) * (share iy - share iu))
  sq_y = at_times (unit_of vs) (unit_of vs) (minus y u) (minus y u) (share iy - share iu) (share iy - share iu) e e
    where
      e : Parts (unit_of vs) (minus y u) (share iy - share iu)
      e = at_less (unit_of vs) y u (share iy) (share iu) (share_at iy) (share_at iu)

  sq_w : Parts (unit_of vs * unit_of vs) (times (minus w u) (minus w u)) ((share iw - share iu) * (share iw - share iu))
  sq_w = at_times (unit_of vs) (unit_of vs) (minus w u) (minus w u) (share iw - share iu) (share iw - share iu) e e
    where
      e : Parts (unit_of vs) (minus w u) (share iw - share iu)
      e = at_less (unit_of vs) w u (share iw) (share iu) (share_at iw) (share_at iu)

  at_q : Parts (unit_of vs * unit_of vs) q (share iq * unit_of vs)
  at_q = at_scale (unit_of vs) (unit_of vs) q (share iq) (share_at iq)

  den_y : 0 < (times (minus y u) (minus y u)).den
  den_y = mul-pos (mul-pos hy hu) (mul-pos hy hu)

  den_w : 0 < (times (minus w u) (minus w u)).den
  den_w = mul-pos (mul-pos hw hu) (mul-pos hw hu)

  DD : 0 < unit_of vs * unit_of vs
  DD = mul-pos D_pos D_pos

  pub in_order : Le (times (minus y u) (minus y u)) q → Le u w → Le q (times (minus w u) (minus w u)) → Le y w
  in_order h l k =
      le_at (unit_of vs) y w (share iy) (share iw) D_pos (share_at iy) (share_at iw)
      (under (share iy) (share iw) (share iu) (share iq * unit_of vs)
      (at_le (unit_of vs * unit_of vs) (times (minus y u) (minus y u)) q ((share iy - share iu) * (share iy - share iu)) (share iq * unit_of vs) den_y hq sq_y at_q h)
      (at_le (unit_of vs * unit_of vs) q (times (minus w u) (minus w u)) (share iq * unit_of vs) ((share iw - share iu) * (share iw - share iu)) hq den_w at_q sq_w k)
      (at_le (unit_of vs) u w (share iu) (share iw) hu hw (share_at iu) (share_at iw) l))

  pub strictly : Le (times (minus y u) (minus y u)) q → Lt q (times (minus w u) (minus w u)) → Lt y w
  strictly h k =
      lt_at (unit_of vs) y w (share iy) (share iw) hy hw (share_at iy) (share_at iw)
      (over_in (share iy) (share iw) (share iu) (share iq * unit_of vs)
      (at_le (unit_of vs * unit_of vs) (times (minus y u) (minus y u)) q ((share iy - share iu) * (share iy - share iu)) (share iq * unit_of vs) den_y hq sq_y at_q h)
      (at_lt (unit_of vs * unit_of vs) q (times (minus w u) (minus w u)) (share iq * unit_of vs) ((share iw - share iu) * (share iw - share iu)) DD at_q sq_w k))

-- x + M/1024 ≤ t + M/2048, so x < t; and t - M/2048 < x - M/1024, so t + M/2048 < x
pub far_under : (x t M : Fraction) → 0 < x.den → 0 < t.den → 0 < M.den → 0 < M.num → Le (plus x (part M 1024)) (plus t (part M 2048)) → Lt x t
far_under x t M hx ht hM m h = go x.num x.den t.num t.den M.num M.den hx ht hM m h
  where
    go : (a a' b b' m m' : ℕ) → 0 < a' → 0 < b' → 0 < m' → 0 < m → (a * (m' * 1024) + m * a') * (b' * (m' * 2048)) ≤ (b * (m' * 2048) + m * b') * (a' * (m' * 1024)) → a * b' < b * a'
    go a a' b b' m m' A B C D h = lt_of_not-le (λ (i : b * a' ≤ a * b').
        let j : b * a' * (m' * m' * 2097152) ≤ a * b' * (m' * m' * 2097152) = mul-le-mul i (native.Mathlib.Nat.le_refl (m' * m' * 2097152)) in
        let k : 0 < m * a' * (b' * m') = mul-pos (mul-pos D A) (mul-pos B C) in
        not-le_of_lt k (omega arith))

pub far_over : (x t M : Fraction) → 0 < x.den → 0 < t.den → 0 < M.den → Lt (minus t (part M 2048)) (minus x (part M 1024)) → Lt (plus t (part M 2048)) x
far_over x t M hx ht hM h =
    lt_at n (plus t p) x (b * 2048 + m) (a * 2048) (mul-pos ht (mul-pos hM (lift hM))) hx (at_plus n t p (b * 2048) m tb pm) xa
    (fin a b m (at_lt n (minus t p) (minus x q) (b * 2048 - m) (a * 2048 - m * 2) N (at_less n t p (b * 2048) m tb pm) (at_less n x q (a * 2048) (m * 2) xa qm) h))
  where
    lift : 0 < M.den → 0 < 2048
    lift h = zero-lt-suc 2047

    p : Fraction
    p = part M 2048

    q : Fraction
    q = part M 1024

    a : ℕ
    a = x.num * (t.den * M.den)

    b : ℕ
    b = t.num * (x.den * M.den)

    m : ℕ
    m = M.num * (x.den * t.den)

    n : ℕ
    n = x.den * (t.den * M.den) * 2048

    N : 0 < x.den * (t.den * M.den) * 2048
    N = mul-pos (mul-pos hx (mul-pos ht hM)) (zero-lt-suc 2047)

    xa : x.num * (x.den * (t.den * M.den) * 2048) ≡ x.num * (t.den * M.den) * 2048 * x.den
    xa = e x.num x.den t.den M.den
      where
        e : (i j k l : ℕ) → i * (j * (k * l) * 2048) ≡ i * (k * l) * 2048 * j
        e i j k l = omega arith

    tb : t.num * (x.den * (t.den * M.den) * 2048) ≡ t.num * (x.den * M.den) * 2048 * t.den
    tb = e t.num x.den t.den M.den
      where
        e : (i j k l : ℕ) → i * (j * (k * l) * 2048) ≡ i * (j * l) * 2048 * k
        e i j k l = omega arith

    pm : M.num * (x.den * (t.den * M.den) * 2048) ≡ M.num * (x.den * t.den) * (M.den * 2048)
    pm = e M.num x.den t.den M.den
      where
        e : (i j k l : ℕ) → i * (j * (k * l) * 2048) ≡ i * (j * k) * (l * 2048)
        e i j k l = omega arith

    qm : M.num * (x.den * (t.den * M.den) * 2048) ≡ M.num * (x.den * t.den) * 2 * (M.den * 1024)
    qm = e M.num x.den t.den M.den
      where
        e : (i j k l : ℕ) → i * (j * (k * l) * 2048) ≡ i * (j * k) * 2 * (l * 1024)
        e i j k l = omega arith

    fin : (a b m : ℕ) → b * 2048 - m < a * 2048 - m * 2 → b * 2048 + m < a * 2048
    fin a b m h = omega arith
