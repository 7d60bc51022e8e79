-- Fractions over one unit: `Parts D v k` says that v is k / D. The fractions of a list are all over the product of their denominators. And `round` over such a unit. Assumes nothing.
use mathlib.Core.Path.{◌≡◌, refl, sym, ap, ◌∙◌, subst₂}
use mathlib.Core.List.{List, [], ◌∷◌}
use Prim.Native.Nat.{ℕ, ◌+◌, ◌-◌, ◌*◌, ◌^◌, ◌≤◌, ◌<◌}
use native.Mathlib.Nat.{mul_comm, mul-le-mul_right, le_of_mul-le-mul_right, mul-pos, mul-sub, eq_of_mul-eq-mul_right}
use native.Mathlib.Omega.{arith}
use mathlib.Core.Bool.{false}
use lib.Ieee.{Format, prec, emax, low, round}
use lib.Ieee.Positive.{num as num_of, den as den_of, den_pos, value→cross}
use lib.Ieee.Scale.{grid}
use Rattle.ledger.specs.Fractions.{Fraction, over, plus, times, minus, Le, fraction_of}
use Rattle.ledger.proofs.Absolute.{Off}
use Rattle.ledger.proofs.Relative.{Below}
use Rattle.ledger.proofs.Rounding.{round_abs}

abbrev pub Parts : ℕ → Fraction → ℕ → Type 0
Parts D v k = v.num * D ≡ k * v.den

-- ---- the common unit of a list
unfoldable pub unit_of : List Fraction → ℕ
unit_of [] = 1
unit_of (v ∷ vs) = v.den * unit_of vs

pub data In (v : Fraction) : List Fraction → Type 0 where
  here : {vs : List Fraction} → In v (v ∷ vs)
  there : {w : Fraction} {vs : List Fraction} → In v vs → In v (w ∷ vs)

unfoldable pub share : {v : Fraction} {vs : List Fraction} → In v vs → ℕ
share {v} (here {vs = vs}) = v.num * unit_of vs
share (there {w = w} i) = w.den * share i

pub share_at : {v : Fraction} {vs : List Fraction} (i : In v vs) → Parts (unit_of vs) v (share i)
unfolding unit_of share
share_at {v} (here {vs = vs}) = own v.num v.den (unit_of vs)
  where
    own : (a b c : ℕ) → a * (b * c) ≡ a * c * b
    own a b c = omega arith
share_at {v} (there {w = w} {vs = vs} i) = more v.num v.den w.den (unit_of vs) (share i) (share_at i)
  where
    more : (a b c u k : ℕ) → a * u ≡ k * b → a * (c * u) ≡ c * k * b
    more a b c u k e = (let h : c * (a * u) ≡ c * (k * b) = ap (λ (x : ℕ). c * x) e in omega arith)

-- ---- orders and operations over a unit
below_in : (vn vd wn wd D a b r P : ℕ) → 0 < vd → 0 < wd → vn * D ≡ a * vd → wn * D ≡ b * wd → vn * wd * r ≤ wn * vd * P → a * r ≤ b * P
below_in vn vd wn wd D a b r P hv hw e f h =
    let x : vn * D * (wd * r) ≡ a * vd * (wd * r) = ap (λ (z : ℕ). z * (wd * r)) e in
    let y : wn * D * (vd * P) ≡ b * wd * (vd * P) = ap (λ (z : ℕ). z * (vd * P)) f in
    let w : vn * wd * r * D ≤ wn * vd * P * D = mul-le-mul_right D h in
    let g : a * r * (vd * wd) ≤ b * P * (vd * wd) = omega arith in
    le_of_mul-le-mul_right g (mul-pos hv hw)

pub at_below : (P j D : ℕ) (v w : Fraction) (a b : ℕ) → 0 < v.den → 0 < w.den → Parts D v a → Parts D w b → Below P j v w → a * (P - j) ≤ b * P
at_below P j D v w a b hv hw e f h = below_in v.num v.den w.num w.den D a b (P - j) P hv hw e f h

le_in : (vn vd wn wd D a b : ℕ) → 0 < vd → 0 < wd → vn * D ≡ a * vd → wn * D ≡ b * wd → vn * wd ≤ wn * vd → a ≤ b
le_in vn vd wn wd D a b hv hw e f h =
    let x : vn * D * wd ≡ a * vd * wd = ap (λ (z : ℕ). z * wd) e in
    let y : wn * D * vd ≡ b * wd * vd = ap (λ (z : ℕ). z * vd) f in
    let w : vn * wd * D ≤ wn * vd * D = mul-le-mul_right D h in
    let g : a * (vd * wd) ≤ b * (vd * wd) = omega arith in
    le_of_mul-le-mul_right g (mul-pos hv hw)

pub at_le : (D : ℕ) (v w : Fraction) (a b : ℕ) → 0 < v.den → 0 < w.den → Parts D v a → Parts D w b → Le v w → a ≤ b
at_le D v w a b hv hw e f h = le_in v.num v.den w.num w.den D a b hv hw e f h

le_out : (vn vd wn wd D a b : ℕ) → 0 < D → vn * D ≡ a * vd → wn * D ≡ b * wd → a ≤ b → vn * wd ≤ wn * vd
le_out vn vd wn wd D a b hD e f h =
    let x : vn * D * wd ≡ a * vd * wd = ap (λ (z : ℕ). z * wd) e in
    let y : wn * D * vd ≡ b * wd * vd = ap (λ (z : ℕ). z * vd) f in
    let w : a * (vd * wd) ≤ b * (vd * wd) = mul-le-mul_right (vd * wd) h in
    let g : vn * wd * D ≤ wn * vd * D = omega arith in
    le_of_mul-le-mul_right g hD

pub le_at : (D : ℕ) (v w : Fraction) (a b : ℕ) → 0 < D → Parts D v a → Parts D w b → a ≤ b → Le v w
le_at D v w a b hD e f h = le_out v.num v.den w.num w.den D a b hD e f h

pub at_scale : (D c : ℕ) (v : Fraction) (a : ℕ) → Parts D v a → Parts (D * c) v (a * c)
at_scale D c v a e = go v.num v.den e
  where
    go : (n d : ℕ) → n * D ≡ a * d → n * (D * c) ≡ a * c * d
    go n d e = (let h : n * D * c ≡ a * d * c = ap (λ (x : ℕ). x * c) e in omega arith)

pub at_times : (D E : ℕ) (v w : Fraction) (a b : ℕ) → Parts D v a → Parts E w b → Parts (D * E) (times v w) (a * b)
at_times D E v w a b e f = go v.num v.den w.num w.den e f
  where
    go : (n d m c : ℕ) → n * D ≡ a * d → m * E ≡ b * c → n * m * (D * E) ≡ a * b * (d * c)
    go n d m c e f =
        let h : n * D * (m * E) ≡ a * d * (m * E) = ap (λ (x : ℕ). x * (m * E)) e in
        let k : a * d * (m * E) ≡ a * d * (b * c) = ap (λ (x : ℕ). a * d * x) f in
        omega arith

pub at_plus : (D : ℕ) (v w : Fraction) (a b : ℕ) → Parts D v a → Parts D w b → Parts D (plus v w) (a + b)
at_plus D v w a b e f = go v.num v.den w.num w.den e f
  where
    go : (n d m c : ℕ) → n * D ≡ a * d → m * D ≡ b * c → (n * c + m * d) * D ≡ (a + b) * (d * c)
    go n d m c e f =
        let h : n * D * c ≡ a * d * c = ap (λ (x : ℕ). x * c) e in
        let k : m * D * d ≡ b * c * d = ap (λ (x : ℕ). x * d) f in
        omega arith

pub at_less : (D : ℕ) (v w : Fraction) (a b : ℕ) → Parts D v a → Parts D w b → Parts D (minus v w) (a - b)
at_less D v w a b e f = go v.num v.den w.num w.den e f
  where
    go : (n d m c : ℕ) → n * D ≡ a * d → m * D ≡ b * c → (n * c - m * d) * D ≡ (a - b) * (d * c)
    go n d m c e f =
        mul_comm (n * c - m * d) D ∙ mul-sub D (n * c) (m * d)
        ∙ subst₂ (λ (x y : ℕ). x - y ≡ d * c * a - d * c * b) (p1 n c a d e) (p2 m d b c f) refl
        ∙ sym (mul_comm (a - b) (d * c) ∙ mul-sub (d * c) a b)
      where
        p1 : (n c a d : ℕ) → n * D ≡ a * d → d * c * a ≡ D * (n * c)
        p1 n c a d e = (let h : n * D * c ≡ a * d * c = ap (λ (x : ℕ). x * c) e in omega arith)

        p2 : (m d b c : ℕ) → m * D ≡ b * c → d * c * b ≡ D * (m * d)
        p2 m d b c f = (let h : m * D * d ≡ b * c * d = ap (λ (x : ℕ). x * d) f in omega arith)

-- ---- `round` over a unit D: |r - e| * P ≤ e + one smallest value
up_in : (P L D a c e g r : ℕ) → 0 < c → a * D ≡ e * c → g * D ≡ r * L → g * c * P ≤ a * L * P + a * L + c * P → r * (P * L) ≤ e * (P * L) + (e * L + D * P)
up_in P L D a c e g r C p q h =
    let x : a * D * (L * P) ≡ e * c * (L * P) = ap (λ (z : ℕ). z * (L * P)) p in
    let x' : a * D * L ≡ e * c * L = ap (λ (z : ℕ). z * L) p in
    let y : g * D * (c * P) ≡ r * L * (c * P) = ap (λ (z : ℕ). z * (c * P)) q in
    let w : g * c * P * D ≤ (a * L * P + a * L + c * P) * D = mul-le-mul_right D h in
    let k : r * (P * L) * c ≤ (e * (P * L) + (e * L + D * P)) * c = omega arith in
    le_of_mul-le-mul_right k C

down_in : (P L D a c e g r : ℕ) → 0 < c → a * D ≡ e * c → g * D ≡ r * L → a * L * P ≤ g * c * P + a * L + c * P → e * (P * L) ≤ r * (P * L) + (e * L + D * P)
down_in P L D a c e g r C p q h =
    let x : a * D * (L * P) ≡ e * c * (L * P) = ap (λ (z : ℕ). z * (L * P)) p in
    let x' : a * D * L ≡ e * c * L = ap (λ (z : ℕ). z * L) p in
    let y : g * D * (c * P) ≡ r * L * (c * P) = ap (λ (z : ℕ). z * (c * P)) q in
    let w : a * L * P * D ≤ (g * c * P + a * L + c * P) * D = mul-le-mul_right D h in
    let k : e * (P * L) * c ≤ (r * (P * L) + (e * L + D * P)) * c = omega arith in
    le_of_mul-le-mul_right k C

same : (n d D r g L : ℕ) → 0 < d → n * D ≡ r * d → n * L ≡ g * d → g * D ≡ r * L
same n d D r g L hd e f =
    eq_of_mul-eq-mul_right d hd (g * D) (r * L)
    (let x : n * L * D ≡ g * d * D = ap (λ (z : ℕ). z * D) f in
    let y : n * D * L ≡ r * d * L = ap (λ (z : ℕ). z * L) e in
    let k : g * D * d ≡ r * L * d = omega arith in k)

pub round_off : (f : Format) (D a c e r : ℕ) → 0 < c → a ≤ 2 ^ emax f * c → Parts D (over a c) e → Parts D (fraction_of (round f false a c)) r → Off (2 ^ prec f * 2 ^ low f) (e * 2 ^ low f + D * 2 ^ prec f) r e
round_off f D a c e r C hi p q =
    let x = round f false a c in
    let k = round_abs f a c C hi in
    let s : grid f a c * D ≡ r * 2 ^ low f = same (num_of x) (den_of x) D r (grid f a c) (2 ^ low f) (den_pos x) q (value→cross x (grid f a c) (2 ^ low f) k.value) in
    record {
      up = up_in (2 ^ prec f) (2 ^ low f) D a c e (grid f a c) r C p s k.near.hi;
      down = down_in (2 ^ prec f) (2 ^ low f) D a c e (grid f a c) r C p s k.near.lo;
    }
