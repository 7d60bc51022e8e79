-- The watch's numbers in f64 and f32 and the ledger's, all over one unit: each rounding gives one line of the budget, and the budget the two sides of M / 2048. Assumes nothing.
use mathlib.Core.Path.{◌≡◌, refl, sym, ap, ◌∙◌, subst}
use mathlib.Core.Logic.{inl, inr}
use Prim.Native.Nat.{ℕ, ◌+◌, ◌-◌, ◌*◌, ◌^◌, ◌≤◌, ◌<◌}
use native.Mathlib.Nat.{le_trans, le_of_eq, mul_comm, mul_assoc, mul-le-mul_right, mul-le-mul_left, mul-le-mul, le_of_mul-le-mul_right, mul-pos, mul-one, zero-lt-suc, sub-le, mul-sub, sub-eq-zero_of_le}
use native.Mathlib.Omega.{arith}
use mathlib.Core.Bool.{true, false}
use lib.Dec.{T, lit≤}
use lib.Pow.{pow_pos, pow_mono}
use lib.Ieee.{Float, nan, inf, fin, binary32, binary64, emax, low, round, add, mul}
use lib.Ieee.Positive.{num as num_of, den as den_of, den_pos}
use Rattle.ieee.specs.Round.{narrow}
use Rattle.ledger.specs.Fractions.{Fraction, over, plus, times, minus, Le, plain, fraction_of, part}
use Rattle.ledger.proofs.Absolute.{Off, off_weaken, off_times, off_cancel}
use Rattle.ledger.proofs.Budget.{Doubles, Singles, dev_le, mean_two, zd_le, a_le, d_le, p_le, low as low-squares, high as high-squares}
use Rattle.ledger.proofs.CommonUnit.{Parts, at_below, at_le, le_at, at_scale, at_times, at_plus, at_less, round_off}
use Rattle.ledger.proofs.Rounding.{round_abs}
use Rattle.ledger.proofs.Values.{plain_of_value, Range, About, P53, loose, mul_is, add_is}
use Rattle.ledger.proofs.Variance.{Spread}

narrow_is : (x : Float) → T (plain x) → narrow x ≡ round binary32 false (num_of x) (den_of x)
unfolding narrow
narrow_is nan p = absurd p
narrow_is (inf s) p = absurd p
narrow_is (fin true m e) p = absurd p
narrow_is (fin false m e) p = refl

-- ---- one rounding to f32, of a value e over the unit U, where B is at least 2 ^ -30
f32_le : (U e B L : ℕ) → U ≤ B * 2 ^ 30 → 2 ^ 54 ≤ L → e * L + U * 2 ^ 24 ≤ (e + B) * L
f32_le U e B L h l =
    let x : B * 2 ^ 54 ≤ B * L = mul-le-mul_left B l in
    omega arith

f32_off : (U e r B : ℕ) → U ≤ B * 2 ^ 30 → Off (2 ^ 24 * 2 ^ 149) (e * 2 ^ 149 + U * 2 ^ 24) r e → Off (2 ^ 24) (e + B) r e
f32_off U e r B h o = off_cancel (2 ^ 24) (e + B) r e (2 ^ 149) (pow_pos 149) (off_weaken (2 ^ 24 * 2 ^ 149) (e * 2 ^ 149 + U * 2 ^ 24) ((e + B) * 2 ^ 149) r e (f32_le U e B (2 ^ 149) h (pow_mono {i = 54} {j = 149} (lit≤ tt))) o)

cap_in : (n c D e H : ℕ) → 0 < D → n * D ≡ e * c → e ≤ H * D → n ≤ H * c
cap_in n c D e H hD p h = le_of_mul-le-mul_right (let x : e * c ≤ H * D * c = mul-le-mul_right c h in let g : n * D ≤ H * c * D = omega arith in g) hD

cap_wide : (n c h : ℕ) → h ≤ 127 → n ≤ 2 ^ h * c → n ≤ 2 ^ emax binary32 * c
cap_wide n c h l k = le_trans k (mul-le-mul_right c (pow_mono l))

f32_step : (U : ℕ) (a c e r B h : ℕ) → 0 < U → 0 < c → U ≤ B * 2 ^ 30 → e ≤ 2 ^ h * U → h ≤ 127 → Parts U (over a c) e → Parts U (fraction_of (round binary32 false a c)) r → Off (2 ^ 24) (e + B) r e
f32_step U a c e r B h hU C small cap H p q = f32_off U e r B small (round_off binary32 U a c e r C (cap_wide a c h H (cap_in a c U e (2 ^ h) hU p cap)) p q)

f32_plain : (U : ℕ) (a c e h : ℕ) → 0 < U → 0 < c → e ≤ 2 ^ h * U → h ≤ 127 → Parts U (over a c) e → T (plain (round binary32 false a c))
f32_plain U a c e h hU C cap H p = plain_of_value (round binary32 false a c) _ (2 ^ low binary32) (round_abs binary32 a c C (cap_wide a c h H (cap_in a c U e (2 ^ h) hU p cap))).value

-- ---- the setting: ledger's squares / weight X, mean u, largest score M; the watch's numbers in f64
pub record Setting (X u M : Fraction) (z x y v s k : Float) (K J : ℕ) : Type 0 where
  pub X_den : 0 < X.den
  pub u_den : 0 < u.den
  pub M_den : 0 < M.den
  pub X_le : Le X (times M M)
  pub u_le : Le u M
  pub M_range : Range 30 30 M
  pub z_plain : T (plain z)
  pub z_le : Le (fraction_of z) (over 16 1)
  pub few : K ≤ 1000000
  pub few' : J ≤ 2000000
  pub x_about : About K x X
  pub y_about : About J y (times u u)
  pub k_about : About K k u
  pub spread : Spread x y v s

-- what comes of it: threshold and deviation in f32 are numbers, and the threshold is within M / 2048 of u + z √(X - u²), by squares
abbrev pub added : Float → Float → Float → Float
added z s k = add binary32 (narrow k) (mul binary32 z (narrow s))

pub record Within (X u M : Fraction) (z s k : Float) : Type 0 where
  pub number : T (plain (added z s k))
  pub spread_number : T (plain (narrow s))
  pub spread_most : num_of (narrow s) ≤ 2 ^ 32 * den_of (narrow s)
  pub not_over : Le (times (minus (minus (fraction_of (added z s k)) (part M 2048)) u) (minus (minus (fraction_of (added z s k)) (part M 2048)) u)) (times (times (fraction_of z) (fraction_of z)) (minus X (times u u)))
  pub mean_most : Le u (plus (fraction_of (added z s k)) (part M 2048))
  pub not_under : Le (times (times (fraction_of z) (fraction_of z)) (minus X (times u u))) (times (minus (plus (fraction_of (added z s k)) (part M 2048)) u) (minus (plus (fraction_of (added z s k)) (part M 2048)) u))

-- ---- the difference in f64
gap_le : (w D MM L : ℕ) → w ≤ 2 * MM → D * D ≤ MM * 2 ^ 60 → 2 ^ 113 ≤ L → w * L + D * D * 2 ^ 53 ≤ 3 * MM * L
gap_le w D MM L h l m =
    let a : w * L ≤ 2 * MM * L = mul-le-mul_right L h in
    let b : D * D * 2 ^ 53 ≤ MM * 2 ^ 60 * 2 ^ 53 = mul-le-mul_right (2 ^ 53) l in
    let c : MM * 2 ^ 113 ≤ MM * L = mul-le-mul_left MM m in
    let e : MM * 2 ^ 60 * 2 ^ 53 ≡ MM * 2 ^ 113 = mul_assoc MM (2 ^ 60) (2 ^ 53) in
    sums (w * L) (D * D * 2 ^ 53) (MM * 2 ^ 60 * 2 ^ 53) (MM * 2 ^ 113) (MM * L) (2 * MM * L) (3 * MM * L) a b e c (three MM L)
  where
    three : (m l : ℕ) → 3 * m * l ≡ 2 * m * l + m * l
    three m l = omega arith

    sums : (a b c d e f g : ℕ) → a ≤ f → b ≤ c → c ≡ d → d ≤ e → g ≡ f + e → a + b ≤ g
    sums a b c d e f g p q r s t = omega arith

diff_off : (D MM x y v : ℕ) → x * D ≤ 2 * MM → D * D ≤ MM * 2 ^ 60 → Off (2 ^ 53 * 2 ^ 1074) ((x - y) * 2 ^ 1074 + D * 2 ^ 53) v (x - y) → Off (2 ^ 53) (3 * MM) (v * D) (x * D - y * D)
diff_off D MM x y v h l o =
    subst (λ (i : ℕ). Off (2 ^ 53) (3 * MM) (v * D) i) (out x y D)
    (off_cancel (2 ^ 53) (3 * MM) (v * D) ((x - y) * D) (2 ^ 1074) (pow_pos 1074)
    (off_weaken (2 ^ 53 * 2 ^ 1074) (((x - y) * 2 ^ 1074 + D * 2 ^ 53) * D) (3 * MM * 2 ^ 1074) (v * D) ((x - y) * D) (le (x - y) D (2 ^ 1074) MM (le_trans (mul-le-mul_right D (sub-le x y)) h) l (pow_mono {i = 113} {j = 1074} (lit≤ tt)))
    (off_times (2 ^ 53 * 2 ^ 1074) ((x - y) * 2 ^ 1074 + D * 2 ^ 53) v (x - y) D o)))
  where
    out : (x y D : ℕ) → (x - y) * D ≡ x * D - y * D
    out x y D = mul_comm (x - y) D ∙ mul-sub D x y ∙ ap (λ (i : ℕ). i - D * y) (mul_comm D x) ∙ ap (λ (i : ℕ). x * D - i) (mul_comm D y)

    le : (e D L MM : ℕ) → e * D ≤ 2 * MM → D * D ≤ MM * 2 ^ 60 → 2 ^ 113 ≤ L → (e * L + D * 2 ^ 53) * D ≤ 3 * MM * L
    le e D L MM p q r = le_trans (le_of_eq (re e D L)) (gap_le (e * D) D MM L p q r)
      where
        re : (e D L : ℕ) → (e * L + D * 2 ^ 53) * D ≡ e * D * L + D * D * 2 ^ 53
        re e D L = omega arith

diff_of : (D MM : ℕ) (x y v s : Float) (xn yn vn : ℕ) → 0 < D → xn * D ≤ 2 * MM → D * D ≤ MM * 2 ^ 60 → num_of x ≤ 2 ^ 1023 * den_of x → Spread x y v s
    → Parts D (fraction_of x) xn → Parts D (fraction_of y) yn → Parts D (fraction_of v) vn → Off (2 ^ 53) (3 * MM) (vn * D) (xn * D - yn * D)
diff_of D MM x y v s xn yn vn hD h l cap sp ax ay av = elim sp.is [
  | inl i ↦
      diff_off D MM xn yn vn h l
      (round_off binary64 D (num_of x * den_of y - num_of y * den_of x) (den_of x * den_of y) (xn - yn) vn (mul-pos (den_pos x) (den_pos y))
      (le_trans (sub-le (num_of x * den_of y) (num_of y * den_of x)) (le_trans (mul-le-mul_right (den_of y) cap) (le_of_eq (mul_assoc (2 ^ 1023) (den_of x) (den_of y)))))
      (at_less D (fraction_of x) (fraction_of y) xn yn ax ay) (subst (λ (w : Float). Parts D (fraction_of w) vn) i.1 av))
  | inr i ↦
      let z : vn ≡ 0 = zero_at vn D (subst (λ (w : Float). Parts D (fraction_of w) vn) i.1 av) in
      let o : xn ≤ yn = at_le D (fraction_of x) (fraction_of y) xn yn (den_pos x) (den_pos y) ax ay i.0 in
      let e : xn * D - yn * D ≡ 0 = sub-eq-zero_of_le (mul-le-mul_right D o) in
      rw (e, z) (nothing D (3 * MM))
]
  where
    zero_at : (n D : ℕ) → 0 * D ≡ n * 1 → n ≡ 0
    zero_at n D e = omega arith

    nothing : (D m : ℕ) → Off (2 ^ 53) m (0 * D) 0
    nothing D m = record { up = omega arith; down = omega arith }

module _ (Xf uf Mf : Fraction) (zF x_f y_f vF s_f k_f : Float) (K J : ℕ) (g : Setting Xf uf Mf zF x_f y_f vF s_f k_f K J) (cap : num_of x_f ≤ 2 ^ 1023 * den_of x_f)
    (D X u M z x y v s k : ℕ) (hD : 0 < D) (aX : Parts D Xf X) (au : Parts D uf u) (aM : Parts D Mf M) (az : Parts D (fraction_of zF) z) (ax : Parts D (fraction_of x_f) x) (ay : Parts D (fraction_of y_f) y)
    (av : Parts D (fraction_of vF) v) (as' : Parts D (fraction_of s_f) s) (ak : Parts D (fraction_of k_f) k) where
  DD : 0 < D * D
  DD = mul-pos hD hD

  M_least : D ≤ M * 2 ^ 30
  M_least = go Mf.num Mf.den g.M_den aM g.M_range.least
    where
      go : (n c : ℕ) → 0 < c → n * D ≡ M * c → c ≤ n * 2 ^ 30 → D ≤ M * 2 ^ 30
      go n c C e h = le_of_mul-le-mul_right (let a : c * D ≤ n * 2 ^ 30 * D = mul-le-mul_right D h in let q : D * c ≤ M * 2 ^ 30 * c = omega arith in q) C

  M_most : M ≤ 2 ^ 30 * D
  M_most = go Mf.num Mf.den g.M_den aM g.M_range.most
    where
      go : (n c : ℕ) → 0 < c → n * D ≡ M * c → n ≤ 2 ^ 30 * c → M ≤ 2 ^ 30 * D
      go n c C e h = le_of_mul-le-mul_right (let a : n * D ≤ 2 ^ 30 * c * D = mul-le-mul_right D h in let q : M * c ≤ 2 ^ 30 * D * c = omega arith in q) C

  DD_le : D * D ≤ M * M * 2 ^ 60
  DD_le = le_trans (mul-le-mul M_least M_least) (le_of_eq (re M))
    where
      re : (m : ℕ) → m * 2 ^ 30 * (m * 2 ^ 30) ≡ m * m * 2 ^ 60
      re m = omega arith

  X_le : X * D ≤ M * M
  X_le = at_le (D * D) Xf (times Mf Mf) (X * D) (M * M) g.X_den (mul-pos g.M_den g.M_den) (at_scale D D Xf X aX) (at_times D D Mf Mf M M aM aM) g.X_le

  x_up : x * (2 ^ 53 - K) ≤ X * 2 ^ 53
  x_up = at_below P53 K D (fraction_of x_f) Xf x X (den_pos x_f) g.X_den ax aX g.x_about.near.hi

  x_two : x * D ≤ 2 * (M * M)
  x_two =
      let h : x ≤ X * 2 = loose (2 ^ 53) K x X (pow_pos 53) (let i = g.few in omega arith) x_up in
      let a : x * D ≤ X * 2 * D = mul-le-mul_right D h in
      let b = X_le in
      omega arith

  doubles : Doubles D X u M z x y v s k K J
  doubles = record {
    squares_le = X_le;
    mean_le = at_le D uf Mf u M g.u_den g.M_den au aM g.u_le;
    factor_le = at_le D (fraction_of zF) (over 16 1) z (16 * D) (den_pos zF) (zero-lt-suc 0) az (sym (mul-one (16 * D))) g.z_le;
    few = g.few;
    few' = g.few';
    x_up = x_up;
    x_down = at_below P53 K D Xf (fraction_of x_f) X x g.X_den (den_pos x_f) aX ax g.x_about.near.lo;
    y_up = at_below P53 J (D * D) (fraction_of y_f) (times uf uf) (y * D) (u * u) (den_pos y_f) (mul-pos g.u_den g.u_den) (at_scale D D (fraction_of y_f) y ay) (at_times D D uf uf u u au au) g.y_about.near.hi;
    y_down = at_below P53 J (D * D) (times uf uf) (fraction_of y_f) (u * u) (y * D) (mul-pos g.u_den g.u_den) (den_pos y_f) (at_times D D uf uf u u au au) (at_scale D D (fraction_of y_f) y ay) g.y_about.near.lo;
    difference = diff_of D (M * M) x_f y_f vF s_f x y v hD x_two DD_le cap g.spread ax ay av;
    root_up = at_below P53 4 (D * D) (times (fraction_of s_f) (fraction_of s_f)) (fraction_of vF) (s * s) (v * D) (mul-pos (den_pos s_f) (den_pos s_f)) (den_pos vF) (at_times D D (fraction_of s_f) (fraction_of s_f) s s as' as') (at_scale D D (fraction_of vF) v av) g.spread.near.hi;
    root_down = at_below P53 4 (D * D) (fraction_of vF) (times (fraction_of s_f) (fraction_of s_f)) (v * D) (s * s) (den_pos vF) (mul-pos (den_pos s_f) (den_pos s_f)) (at_scale D D (fraction_of vF) v av) (at_times D D (fraction_of s_f) (fraction_of s_f) s s as' as') g.spread.near.lo;
    mean_up = at_below P53 K D (fraction_of k_f) uf k u (den_pos k_f) g.u_den ak au g.k_about.near.hi;
    mean_down = at_below P53 K D uf (fraction_of k_f) u k g.u_den (den_pos k_f) au ak g.k_about.near.lo;
  }

  k_cap : k ≤ 2 ^ 31 * D
  k_cap = (let h = mean_two D X u M z x y v s k K J doubles in let l = M_most in omega arith)

  s_cap : s ≤ 2 ^ 31 * D
  s_cap = (let h = dev_le D X u M z x y v s k K J doubles in let l = M_most in omega arith)

  plain_a : T (plain (narrow k_f))
  plain_a = rw (narrow_is k_f g.k_about.plain) (f32_plain D (num_of k_f) (den_of k_f) k 31 hD (den_pos k_f) k_cap (lit≤ tt) ak)

  plain_d : T (plain (narrow s_f))
  plain_d = rw (narrow_is s_f g.spread.plain_r) (f32_plain D (num_of s_f) (den_of s_f) s 31 hD (den_pos s_f) s_cap (lit≤ tt) as')

  module _ (a d : ℕ) (aa : Parts D (fraction_of (narrow k_f)) a) (ad : Parts D (fraction_of (narrow s_f)) d) where
    singles : Singles M s k a d
    singles = record {
      narrow_mean = f32_step D (num_of k_f) (den_of k_f) k a M 31 hD (den_pos k_f) M_least k_cap (lit≤ tt) ak (subst (λ (w : Float). Parts D (fraction_of w) a) (narrow_is k_f g.k_about.plain) aa);
      narrow_dev = f32_step D (num_of s_f) (den_of s_f) s d M 31 hD (den_pos s_f) M_least s_cap (lit≤ tt) as' (subst (λ (w : Float). Parts D (fraction_of w) d) (narrow_is s_f g.spread.plain_r) ad);
    }

    dev_cap : num_of (narrow s_f) ≤ 2 ^ 32 * den_of (narrow s_f)
    dev_cap = cap_in (num_of (narrow s_f)) (den_of (narrow s_f)) D d (2 ^ 32) hD ad (let h = d_le D X u M z x y v s k K J a d doubles singles in let l = M_most in omega arith)

    zd_cap : z * d ≤ 2 ^ 36 * (D * D)
    zd_cap =
        let h = zd_le D X u M z x y v s k K J a d doubles singles in
        let l : M * D ≤ 2 ^ 30 * D * D = mul-le-mul_right D M_most in
        omega arith

    azd : Parts (D * D) (times (fraction_of zF) (fraction_of (narrow s_f))) (z * d)
    azd = at_times D D (fraction_of zF) (fraction_of (narrow s_f)) z d az ad

    plain_p : T (plain (mul binary32 zF (narrow s_f)))
    plain_p = rw (mul_is binary32 zF (narrow s_f) g.z_plain plain_d) (f32_plain (D * D) (num_of zF * num_of (narrow s_f)) (den_of zF * den_of (narrow s_f)) (z * d) 36 DD (mul-pos (den_pos zF) (den_pos (narrow s_f))) zd_cap (lit≤ tt) azd)

    module _ (p : ℕ) (ap' : Parts D (fraction_of (mul binary32 zF (narrow s_f))) p) where
      product : Off (2 ^ 24) (z * d + M * D) (p * D) (z * d)
      product =
          f32_step (D * D) (num_of zF * num_of (narrow s_f)) (den_of zF * den_of (narrow s_f)) (z * d) (p * D) (M * D) 36 DD (mul-pos (den_pos zF) (den_pos (narrow s_f))) (small M D M_least) zd_cap (lit≤ tt) azd
          (subst (λ (w : Float). Parts (D * D) (fraction_of w) (p * D)) (mul_is binary32 zF (narrow s_f) g.z_plain plain_d) (at_scale D D (fraction_of (mul binary32 zF (narrow s_f))) p ap'))
        where
          small : (M D : ℕ) → D ≤ M * 2 ^ 30 → D * D ≤ M * D * 2 ^ 30
          small M D h = (let i : D * D ≤ M * 2 ^ 30 * D = mul-le-mul_right D h in omega arith)

      p_cap : p ≤ 49 * M
      p_cap = le_of_mul-le-mul_right (le_trans (p_le D X u M z x y v s k K J a d p doubles singles product) (le_of_eq (sym (mul_assoc 49 M D)))) hD

      sum_cap : a + p ≤ 2 ^ 36 * D
      sum_cap = (let h = a_le D X u M z x y v s k K J a d doubles singles in let l = M_most in let i = p_cap in omega arith)

      aap : Parts D (plus (fraction_of (narrow k_f)) (fraction_of (mul binary32 zF (narrow s_f)))) (a + p)
      aap = at_plus D (fraction_of (narrow k_f)) (fraction_of (mul binary32 zF (narrow s_f))) a p aa ap'

      plain_t : T (plain (added zF s_f k_f))
      plain_t = rw (add_is binary32 (narrow k_f) (mul binary32 zF (narrow s_f)) plain_a plain_p)
          (f32_plain D (num_of (narrow k_f) * den_of (mul binary32 zF (narrow s_f)) + num_of (mul binary32 zF (narrow s_f)) * den_of (narrow k_f)) (den_of (narrow k_f) * den_of (mul binary32 zF (narrow s_f))) (a + p) 36 hD
          (mul-pos (den_pos (narrow k_f)) (den_pos (mul binary32 zF (narrow s_f)))) sum_cap (lit≤ tt) aap)

      module _ (t : ℕ) (at : Parts D (fraction_of (added zF s_f k_f)) t) where
        total : Off (2 ^ 24) (a + p + M) t (a + p)
        total =
            f32_step D (num_of (narrow k_f) * den_of (mul binary32 zF (narrow s_f)) + num_of (mul binary32 zF (narrow s_f)) * den_of (narrow k_f)) (den_of (narrow k_f) * den_of (mul binary32 zF (narrow s_f))) (a + p) t M 36 hD
            (mul-pos (den_pos (narrow k_f)) (den_pos (mul binary32 zF (narrow s_f)))) M_least sum_cap (lit≤ tt) aap
            (subst (λ (w : Float). Parts D (fraction_of w) t) (add_is binary32 (narrow k_f) (mul binary32 zF (narrow s_f)) plain_a plain_p) at)

        at_part : Parts (D * (2048 * D)) (part Mf 2048) (M * D)
        at_part = go Mf.num Mf.den aM
          where
            go : (n c : ℕ) → n * D ≡ M * c → n * (D * (2048 * D)) ≡ M * D * (c * 2048)
            go n c e = (let h : n * D * (2048 * D) ≡ M * c * (2048 * D) = ap (λ (w : ℕ). w * (2048 * D)) e in omega arith)

        swap : (t D : ℕ) → t * (2048 * D) ≡ 2048 * (t * D)
        swap t D = omega arith

        at_t : Parts (D * (2048 * D)) (fraction_of (added zF s_f k_f)) (2048 * (t * D))
        at_t = subst (λ (w : ℕ). Parts (D * (2048 * D)) (fraction_of (added zF s_f k_f)) w) (swap t D) (at_scale D (2048 * D) (fraction_of (added zF s_f k_f)) t at)

        at_u : Parts (D * (2048 * D)) uf (2048 * (u * D))
        at_u = subst (λ (w : ℕ). Parts (D * (2048 * D)) uf w) (swap u D) (at_scale D (2048 * D) uf u au)

        at_v : Parts (D * (2048 * D) * (D * (2048 * D))) (times (times (fraction_of zF) (fraction_of zF)) (minus Xf (times uf uf))) (z * z * (X * D - u * u) * 4194304)
        at_v =
            subst (λ (w : ℕ). Parts w (times (times (fraction_of zF) (fraction_of zF)) (minus Xf (times uf uf))) (z * z * (X * D - u * u) * 4194304)) (re D)
            (at_scale (D * D * (D * D)) 4194304 (times (times (fraction_of zF) (fraction_of zF)) (minus Xf (times uf uf))) (z * z * (X * D - u * u))
            (at_times (D * D) (D * D) (times (fraction_of zF) (fraction_of zF)) (minus Xf (times uf uf)) (z * z) (X * D - u * u) (at_times D D (fraction_of zF) (fraction_of zF) z z az az)
            (at_less (D * D) Xf (times uf uf) (X * D) (u * u) (at_scale D D Xf X aX) (at_times D D uf uf u u au au))))
          where
            re : (D : ℕ) → D * D * (D * D) * 4194304 ≡ D * (2048 * D) * (D * (2048 * D))
            re D = omega arith

        EE : 0 < D * (2048 * D) * (D * (2048 * D))
        EE = mul-pos e e
          where
            e : 0 < D * (2048 * D)
            e = mul-pos hD (mul-pos (lit≤ tt) hD)

        not_above : Le (times (minus (minus (fraction_of (added zF s_f k_f)) (part Mf 2048)) uf) (minus (minus (fraction_of (added zF s_f k_f)) (part Mf 2048)) uf)) (times (times (fraction_of zF) (fraction_of zF)) (minus Xf (times uf uf)))
        not_above =
            let n = D * (2048 * D) in
            let w = fraction_of (added zF s_f k_f) in
            let m = part Mf 2048 in
            let q = at_less n (minus w m) uf (2048 * (t * D) - M * D) (2048 * (u * D)) (at_less n w m (2048 * (t * D)) (M * D) at_t at_part) at_u in
            le_at (n * n) (times (minus (minus w m) uf) (minus (minus w m) uf)) (times (times (fraction_of zF) (fraction_of zF)) (minus Xf (times uf uf)))
            ((2048 * (t * D) - M * D - 2048 * (u * D)) * (2048 * (t * D) - M * D - 2048 * (u * D))) (z * z * (X * D - u * u) * 4194304) EE
            (at_times n n (minus (minus w m) uf) (minus (minus w m) uf) (2048 * (t * D) - M * D - 2048 * (u * D)) (2048 * (t * D) - M * D - 2048 * (u * D)) q q) at_v
            (low-squares D X u M z x y v s k K J a d p t doubles singles product total)

        not_below : Le uf (plus (fraction_of (added zF s_f k_f)) (part Mf 2048))
            × Le (times (times (fraction_of zF) (fraction_of zF)) (minus Xf (times uf uf))) (times (minus (plus (fraction_of (added zF s_f k_f)) (part Mf 2048)) uf) (minus (plus (fraction_of (added zF s_f k_f)) (part Mf 2048)) uf))
        not_below =
            let n = D * (2048 * D) in
            let w = fraction_of (added zF s_f k_f) in
            let m = part Mf 2048 in
            let r = at_plus n w m (2048 * (t * D)) (M * D) at_t at_part in
            let q = at_less n (plus w m) uf (2048 * (t * D) + M * D) (2048 * (u * D)) r at_u in
            let h = high-squares D X u M z x y v s k K J a d p t doubles singles product total in (
              le_at n uf (plus w m) (2048 * (u * D)) (2048 * (t * D) + M * D) (mul-pos hD (mul-pos (lit≤ tt) hD)) at_u r h.0,
              le_at (n * n) (times (times (fraction_of zF) (fraction_of zF)) (minus Xf (times uf uf))) (times (minus (plus w m) uf) (minus (plus w m) uf)) (z * z * (X * D - u * u) * 4194304)
                  ((2048 * (t * D) + M * D - 2048 * (u * D)) * (2048 * (t * D) + M * D - 2048 * (u * D))) EE at_v
                  (at_times n n (minus (plus w m) uf) (minus (plus w m) uf) (2048 * (t * D) + M * D - 2048 * (u * D)) (2048 * (t * D) + M * D - 2048 * (u * D)) q q) h.1,
            )

        pub within : Within Xf uf Mf zF s_f k_f
        within = record { number = plain_t; spread_number = plain_d; spread_most = dev_cap; not_over = not_above; mean_most = not_below.0; not_under = not_below.1 }
