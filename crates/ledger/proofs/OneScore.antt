-- Demand 3 at one score: (a), (b) and (c) for a statistic that tracks a ledger. Assumes nothing.
use mathlib.Core.Path.{◌≡◌}
use Prim.Native.Nat.{ℕ, ◌+◌, ◌-◌, ◌*◌, ◌^◌, ◌≤◌, ◌<◌}
use native.Mathlib.Nat.{le_of_lt, mul-le-mul_right, le_of_mul-le-mul_right, mul-pos, zero-lt-suc}
use native.Mathlib.Omega.{arith}
use lib.Dec.{T, lit≤}
use lib.Ieee.{Float, binary32, sub, lt}
use lib.Ieee.Positive.{num as num_of, den as den_of, den_pos}
use Rattle.ieee.specs.Round.{narrow}
use Rattle.deviation.specs.declared.Deviation.{Deviation}
use Rattle.deviation.specs.Statistics as Statistics
use Rattle.basicthresholder.specs.Grades.{grade_over}
use Rattle.ledger.specs.Fractions.{Fraction, over, plus, times, minus, part, Le, plain, fraction_of, plus_zero}
use Rattle.ledger.specs.Ledger.{Ledger, mean, variance, AtOrUnder, AtOrOver, Over}
use Rattle.ledger.specs.Statement.{closeness, clearance, Sized}
use Rattle.ledger.proofs.Grade.{grade_zero, grade_above}
use Rattle.ledger.proofs.Opening.{Capped, opening, close, threshold_plain, deviation_plain, deviation_cap, mean_den, variance_den}
use Rattle.ledger.proofs.Order.{in_order, strictly, far_under, far_over}
use Rattle.ledger.proofs.Update.{Track, sized_range}
use Rattle.ledger.proofs.Values.{Range, num_pos}
use Rattle.ledger.proofs.Weaker.{with_more, with_less, under_below, over_above, not_under_above}

-- the opening threshold t and the opening grade g at the score x, against the ledger b
pub record Compared (z M : Fraction) (b : Ledger) (x t g : Float) : Type 0 where
  pub number : T (plain t)
  pub not_over : AtOrUnder z b (minus (fraction_of t) (part M closeness))
  pub not_under : AtOrOver z b (plus (fraction_of t) (part M closeness))
  pub quiet : AtOrUnder z b (plus (fraction_of x) (part M clearance)) → g ≡ plus_zero
  pub raised : Over z b (minus (fraction_of x) (part M clearance)) → T (lt plus_zero g)

-- the watch's opening grade, from its z factor and its primary statistic
abbrev pub opening_grade : Float → Deviation → Float → Float
opening_grade z s x = grade_over (sub binary32 x (opening z s)) (narrow (Statistics.deviation s))

gap_in : (xn xd tn td m m' : ℕ) → 0 < m' → m' ≤ m * 2 ^ 30 → (tn * (m' * 2048) + m * td) * xd < xn * (td * (m' * 2048)) → xd * td ≤ (xn * td - tn * xd) * 2 ^ 41
gap_in xn xd tn td m m' C h l =
    le_of_mul-le-mul_right
    (let g = xn * td - tn * xd in
    let a : (tn * (m' * 2048) + m * td) * xd * 2 ^ 30 ≤ xn * (td * (m' * 2048)) * 2 ^ 30 = mul-le-mul_right (2 ^ 30) (le_of_lt l) in
    let b : m' * (td * xd) ≤ m * 2 ^ 30 * (td * xd) = mul-le-mul_right (td * xd) h in
    let c : xn * td ≤ g + tn * xd = omega arith in
    let d : xn * td * (m' * 2199023255552) ≤ (g + tn * xd) * (m' * 2199023255552) = mul-le-mul_right (m' * 2199023255552) c in
    let e : xd * td * m' ≤ g * 2199023255552 * m' = fin g (xn * td) (tn * xd) xn xd tn td m m' a b d in e)
    C
  where
    fin : (g q r xn xd tn td m m' : ℕ) → (tn * (m' * 2048) + m * td) * xd * 2 ^ 30 ≤ xn * (td * (m' * 2048)) * 2 ^ 30 → m' * (td * xd) ≤ m * 2 ^ 30 * (td * xd) → xn * td * (m' * 2199023255552) ≤ (g + tn * xd) * (m' * 2199023255552)
        → xd * td * m' ≤ g * 2199023255552 * m'
    fin g q r xn xd tn td m m' a b d = omega arith

le_in : (xn xd tn td m m' : ℕ) → 0 < m' → (tn * (m' * 2048) + m * td) * xd < xn * (td * (m' * 2048)) → tn * xd ≤ xn * td
le_in xn xd tn td m m' C l = le_of_mul-le-mul_right (let a : (tn * (m' * 2048) + m * td) * xd ≤ xn * (td * (m' * 2048)) = le_of_lt l in let g : tn * xd * (m' * 2048) ≤ xn * td * (m' * 2048) = omega arith in g) (mul-pos C (zero-lt-suc 2047))

module _ (d : Float) (n : ℕ) (s : Deviation) (b : Ledger) (z : Float) (M : Fraction) (n-one : 1 ≤ n) (n-le : n ≤ 65536) (t : Track d n s b) (c : Capped M b)
    (M_den : 0 < M.den) (M_range : Range 30 30 M) (z_plain : T (plain z)) (z_le : Le (fraction_of z) (over 16 1)) where
  pub compared : (x : Float) → Sized x → Compared (fraction_of z) M b x (opening z s) (opening_grade z s x)
  compared x w =
      let w' = opening z s in
      let v = fraction_of w' in
      let zf = fraction_of z in
      let y = fraction_of x in
      let p = threshold_plain d n s b z M n-one n-le t c M_den M_range z_plain z_le in
      let r = close d n s b z M n-one n-le t c M_den M_range z_plain z_le in
      let u = mean_den d n s b z M n-one n-le t c M_den M_range z_plain z_le in
      let q = variance_den d n s b z M n-one n-le t c M_den M_range z_plain z_le in
      let h2048 : 0 < M.den * 2048 = mul-pos M_den (zero-lt-suc 2047) in
      let h1024 : 0 < M.den * 1024 = mul-pos M_den (zero-lt-suc 1023) in
      let hc : 0 < M.den * clearance = mul-pos M_den (lit≤ tt) in
      let hq : 0 < (times (times (fraction_of z) (fraction_of z)) (variance b)).den = mul-pos (mul-pos (den_pos z) (den_pos z)) q in
      record {
        number = p;
        not_over = under_below zf b (minus v (part M closeness)) (minus v (part M 2048)) u (with_less v M closeness 2048 (lit≤ tt)) (mul-pos (den_pos w') h2048) r.0;
        not_under = not_under_above zf b (plus v (part M 2048)) (plus v (part M closeness)) u (with_more v M closeness 2048 (lit≤ tt)) (mul-pos (den_pos w') h2048) r.1;
        quiet = λ (a : AtOrUnder zf b (plus y (part M clearance))).
            let a' = under_below zf b (plus y (part M 1024)) (plus y (part M clearance)) u (with_more y M clearance 1024 (lit≤ tt)) (mul-pos (den_pos x) hc) a in
            grade_zero x w' (narrow (Statistics.deviation s)) w.plain p
            (far_under y v M (den_pos x) (den_pos w') M_den (num_pos M.num M.den (2 ^ 30) M_den M_range.least)
            (in_order (plus y (part M 1024)) (plus v (part M 2048)) (mean b) (times (times zf zf) (variance b)) (mul-pos (den_pos x) h1024) (mul-pos (den_pos w') h2048) u hq a' r.1.0 r.1.1));
        raised = λ (a : Over zf b (minus y (part M clearance))).
            let a' = over_above zf b (minus y (part M clearance)) (minus y (part M 1024)) u (with_less y M clearance 1024 (lit≤ tt)) (mul-pos (den_pos x) h1024) a in
            let l = far_over y v M (den_pos x) (den_pos w') M_den
            (strictly (minus v (part M 2048)) (minus y (part M 1024)) (mean b) (times (times zf zf) (variance b)) (mul-pos (den_pos w') h2048) (mul-pos (den_pos x) h1024) u hq r.0 a') in
            grade_above x w' (narrow (Statistics.deviation s)) w.plain p (deviation_plain d n s b z M n-one n-le t c M_den M_range z_plain z_le)
            (le_in (num_of x) (den_of x) (num_of w') (den_of w') M.num M.den M_den l)
            (gap_in (num_of x) (den_of x) (num_of w') (den_of w') M.num M.den M_den M_range.least l)
            (sized_range x w).most (deviation_cap d n s b z M n-one n-le t c M_den M_range z_plain z_le);
      }
