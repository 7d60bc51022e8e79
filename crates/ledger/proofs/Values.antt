-- f64 values that are finite and not negative, as fractions, and the operations on them as operations on fractions up to k parts in 2 ^ 53. Assumes nothing.
use mathlib.Core.Path.{◌≡◌, refl, sym, ap, ◌∙◌, subst}
use mathlib.Core.Logic.{◌⊎◌, inl, inr}
use Prim.Native.Nat.{ℕ, zero, suc, ◌+◌, ◌-◌, ◌*◌, ◌^◌, ◌≤◌, ◌<◌}
use native.Mathlib.Nat.{le_trans, le_of_eq, le_refl, lt_of_lt_of_le, lt_irrefl, mul_comm, mul_assoc, mul_right_comm, mul-le-mul_right, mul-le-mul_left, mul-le-mul, le_of_mul-le-mul_right, mul-pos, zero-mul, zero-lt-suc, zero-add, pow-suc}
use native.Mathlib.Omega.{arith}
use native.Mathlib.Numerals.{one-add}
use mathlib.Core.Bool.{Bool, true, false, true≢false}
use lib.IntN.{pos}
use lib.Dec.{T, eqb, eqb→eq}
use lib.Pow.{pow-add, pow_pos, pow_mono}
use lib.Ieee.{Float, nan, inf, fin, Format, binary32, binary64, prec, emax, low, up, down, round, add, mul, div}
use lib.Ieee.Exact.{HasValue, round_exact}
use lib.Ieee.Positive.{num as num_of, den as den_of, den_pos, value→cross}
use Rattle.ledger.specs.Fractions.{Fraction, over, plus, times, divided_by, plain, fraction_of}
use Rattle.ledger.proofs.Relative.{Near, near_trans, near_weaken, near_plus, near_times, near_by}
use Rattle.ledger.proofs.Rounding.{round_near}

abbrev pub plus_one : Float
plus_one = fin false 1 (pos 0)

pub plain_of_value : (x : Float) (a c : ℕ) → HasValue x false a c → T (plain x)
plain_of_value nan a c h = absurd h
plain_of_value (inf s) a c h = absurd h
plain_of_value (fin true m e) a c h = absurd (true≢false h.0)
plain_of_value (fin false m e) a c h = tt

-- ---- equal fractions are near
pub near_of_eq : (P k : ℕ) (x y : Fraction) → x.num * y.den ≡ y.num * x.den → Near P k x y
near_of_eq P k x y e = record {
  lo = mul-le-mul (le_of_eq (sym e)) (sub P k);
  hi = mul-le-mul (le_of_eq e) (sub P k);
}
  where
    sub : (P k : ℕ) → P - k ≤ P
    sub P k = omega arith

-- ---- where a fraction lies: from 2 ^ -l to 2 ^ h; or it is 0
pub record Range (l h : ℕ) (v : Fraction) : Type 0 where
  pub least : v.den ≤ v.num * 2 ^ l
  pub most : v.num ≤ 2 ^ h * v.den

abbrev pub Fine : ℕ → ℕ → Fraction → Type 0
Fine l h v = (v.num ≡ 0) ⊎ Range l h v

pub range_weaken : (l l' h h' : ℕ) (v : Fraction) → l ≤ l' → h ≤ h' → Range l h v → Range l' h' v
range_weaken l l' h h' v a b r = record {
  least = le_trans r.least (mul-le-mul_left v.num (pow_mono a));
  most = le_trans r.most (mul-le-mul_right v.den (pow_mono b));
}

pub range_prod : (a b c d x y : ℕ) → a ≤ b * x → c ≤ d * y → a * c ≤ b * d * (x * y)
range_prod a b c d x y h k =
    let m : a * c ≤ b * x * (d * y) = mul-le-mul h k in
    omega arith

range_prod' : (a b c d x y : ℕ) → a ≤ x * b → c ≤ y * d → a * c ≤ x * y * (b * d)
range_prod' a b c d x y h k =
    let m : a * c ≤ x * b * (y * d) = mul-le-mul h k in
    omega arith

pub range_times : (l h l' h' : ℕ) (v w : Fraction) → Range l h v → Range l' h' w → Range (l + l') (h + h') (times v w)
range_times l h l' h' v w r s = record {
  least = rw (pow-add 2 l l') (range_prod v.den v.num w.den w.num (2 ^ l) (2 ^ l') r.least s.least);
  most = rw (pow-add 2 h h') (range_prod' v.num v.den w.num w.den (2 ^ h) (2 ^ h') r.most s.most);
}

-- v / w: the divisor's bounds change places
pub range_by : (l h l' h' : ℕ) (v w : Fraction) → Range l h v → Range l' h' w → Range (l + h') (h + l') (divided_by v w)
range_by l h l' h' v w r s = record {
  least = rw (pow-add 2 l h') (range_prod v.den v.num w.num w.den (2 ^ l) (2 ^ h') r.least (le_trans s.most (le_of_eq (mul_comm (2 ^ h') w.den))));
  most = rw (pow-add 2 h l') (range_prod' v.num v.den w.den w.num (2 ^ h) (2 ^ l') r.most (le_trans s.least (le_of_eq (mul_comm w.num (2 ^ l')))));
}

-- a sum, the first of which may be 0
pub sum_least : (a a' b b' p : ℕ) → b' ≤ b * p → a' * b' ≤ (a * b' + b * a') * p
sum_least a a' b b' p h =
    let x : a' * b' ≤ a' * (b * p) = mul-le-mul_left a' h in
    omega arith

pub sum_most : (a a' b b' p q : ℕ) → a ≤ p * a' → b ≤ q * b' → a * b' + b * a' ≤ (p + q) * (a' * b')
sum_most a a' b b' p q h k =
    let x : a * b' ≤ p * a' * b' = mul-le-mul_right b' h in
    let y : b * a' ≤ q * b' * a' = mul-le-mul_right a' k in
    omega arith

-- half at least and twice at most, for k up to a half of P
pub loose : (P k a b : ℕ) → 0 < P → 2 * k ≤ P → a * (P - k) ≤ b * P → a ≤ b * 2
loose P k a b above h m = le_of_mul-le-mul_right (le_trans x (le_trans y (le_of_eq (mul_right_comm b P 2)))) above
  where
    x : a * P ≤ a * (P - k) * 2
    x = le_trans (mul-le-mul_left a (dbl P k h)) (le_of_eq (sym (mul_assoc a (P - k) 2)))
      where
        dbl : (P k : ℕ) → 2 * k ≤ P → P ≤ (P - k) * 2
        dbl P k h = omega arith

    y : a * (P - k) * 2 ≤ b * P * 2
    y = mul-le-mul_right 2 m

-- with y / y' between 1 / L and H, and x / x' a half at least and twice at most of it
near_least : (x x' y y' L : ℕ) → 0 < y → y * x' ≤ x * y' * 2 → y' ≤ y * L → x' ≤ x * (L * 2)
near_least x x' y y' L Y h k =
    le_of_mul-le-mul_right
    (let m : x * 2 * y' ≤ x * 2 * (y * L) = mul-le-mul_left (x * 2) k in
    let g : x' * y ≤ x * (L * 2) * y = omega arith in g) Y

near_most : (x x' y y' H : ℕ) → 0 < y' → x * y' ≤ y * x' * 2 → y ≤ H * y' → x ≤ H * 2 * x'
near_most x x' y y' H Y h k =
    le_of_mul-le-mul_right
    (let m : x' * 2 * y ≤ x' * 2 * (H * y') = mul-le-mul_left (x' * 2) k in
    let g : x * y' ≤ H * 2 * x' * y' = omega arith in g) Y

pub num_pos : (a b p : ℕ) → 0 < b → b ≤ a * p → 0 < a
num_pos zero b p B h = absurd (lt_irrefl 0 (lt_of_lt_of_le B (le_trans h (le_of_eq (zero-mul p)))))
num_pos (suc a) b p B h = zero-lt-suc a

-- x near y: x has y's range but for a factor of 2
pub range_near : (P k l h : ℕ) (x y : Fraction) → 0 < P → 2 * k ≤ P → 0 < y.den → Near P k x y → Range l h y → Range (suc l) (suc h) x
range_near P k l h x y above small Y n r =
    let a : y.num * x.den ≤ x.num * y.den * 2 = loose P k (y.num * x.den) (x.num * y.den) above small n.lo in
    let b : x.num * y.den ≤ y.num * x.den * 2 = loose P k (x.num * y.den) (y.num * x.den) above small n.hi in
    record {
      least = rw (pow-suc 2 l) (near_least x.num x.den y.num y.den (2 ^ l) (num_pos y.num y.den (2 ^ l) Y r.least) a r.least);
      most = rw (pow-suc 2 h) (near_most x.num x.den y.num y.den (2 ^ h) Y b r.most);
    }

-- ---- `round` at a fraction that is 0, or in the normal range of f64 and below 2 ^ 1023
abbrev pub P53 : ℕ
P53 = 2 ^ 53

pub record About (k : ℕ) (x : Float) (v : Fraction) : Type 0 where
  pub plain : T (plain x)
  pub near : Near P53 k (fraction_of x) v

low_split : (f : Format) → 2 ^ (emax f - 1) * 2 ^ (prec f - 1) ≡ 2 ^ low f
low_split f = sym (pow-add 2 (emax f - 1) (prec f - 1)) ∙ ap (λ (x : ℕ). 2 ^ x) (e f)
  where
    e : (f : Format) → emax f - 1 + (prec f - 1) ≡ low f
    e binary32 = refl
    e binary64 = refl

normal : (a c l E p : ℕ) → c ≤ a * l → l ≤ E → p * c ≤ a * (E * p)
normal a c l E p h k =
    let x : a * l ≤ a * E = mul-le-mul_left a k in
    let y : p * c ≤ p * (a * l) = mul-le-mul_left p h in
    let z : p * (a * l) ≤ p * (a * E) = mul-le-mul_left p x in
    omega arith

value_about : (k : ℕ) (x : Float) (a c : ℕ) (v : Fraction) → 0 < c → HasValue x false a c → Near P53 k (over a c) v → About k x v
value_about k x a c v C h n = record {
  plain = plain_of_value x a c h;
  near = rw zero-add at (near_trans P53 (pow_pos 53) 0 k (fraction_of x) (over a c) v C (near_of_eq P53 0 (fraction_of x) (over a c) (value→cross x a c h)) n);
}

round_range : (a c : ℕ) → 0 < c → Range 1022 1023 (over a c) → About 1 (round binary64 false a c) (over a c)
round_range a c C r =
    let lo : 2 ^ (prec binary64 - 1) * c ≤ a * 2 ^ low binary64 = subst (λ (x : ℕ). 2 ^ (prec binary64 - 1) * c ≤ a * x) (low_split binary64) (normal a c (2 ^ 1022) (2 ^ 1022) (2 ^ (prec binary64 - 1)) r.least (le_refl (2 ^ 1022))) in
    let d = round_near binary64 a c C lo r.most in
    value_about 1 (round binary64 false a c) _ (2 ^ low binary64) (over a c) (pow_pos (low binary64)) d.value d.near

-- 0 rounds to 0
round_zero : (a c : ℕ) → 0 < c → a ≡ 0 → About 1 (round binary64 false a c) (over a c)
round_zero a c C e =
    let z : 0 * 2 ^ 0 < 2 ^ (low binary64 + suc (emax binary64)) = pow_pos (low binary64 + suc (emax binary64)) in
    let q : a * 2 ^ low binary64 ≡ 0 * 2 ^ 0 * c = ap (λ (x : ℕ). x * 2 ^ low binary64) e ∙ zero-mul (2 ^ low binary64) ∙ sym (zero-mul c) in
    value_about 1 (round binary64 false a c) a c (over a c) C (round_exact binary64 false a c 0 0 C (pow_pos 53) z q) (near_of_eq P53 1 (over a c) (over a c) refl)

pub round_about : (a c : ℕ) → 0 < c → Fine 1022 1023 (over a c) → About 1 (round binary64 false a c) (over a c)
round_about a c C (inl e) = round_zero a c C e
round_about a c C (inr r) = round_range a c C r

-- ---- the operations, exactly
pub mul_is : (f : Format) (x y : Float) → T (plain x) → T (plain y) → mul f x y ≡ round f false (num_of x * num_of y) (den_of x * den_of y)
unfolding mul
mul_is f nan y p q = absurd p
mul_is f (inf s) y p q = absurd p
mul_is f (fin true m e) y p q = absurd p
mul_is f (fin false m e) nan p q = absurd q
mul_is f (fin false m e) (inf t) p q = absurd q
mul_is f (fin false m e) (fin true n d) p q = absurd q
mul_is f (fin false m e) (fin false n d) p q = refl

pub add_is : (f : Format) (x y : Float) → T (plain x) → T (plain y) → add f x y ≡ round f false (num_of x * den_of y + num_of y * den_of x) (den_of x * den_of y)
unfolding add
add_is f nan y p q = absurd p
add_is f (inf s) y p q = absurd p
add_is f (fin true m e) y p q = absurd p
add_is f (fin false m e) nan p q = absurd q
add_is f (fin false m e) (inf t) p q = absurd q
add_is f (fin false m e) (fin true n d) p q = absurd q
add_is f (fin false m e) (fin false n d) p q = refl

not_zero : (n u : ℕ) → 0 < n * u → (b : Bool) → (T b → n ≡ 0) → b ≡ false
not_zero n u h true k = absurd (lt_irrefl 0 (lt_of_lt_of_le h (le_of_eq (ap (λ (x : ℕ). x * u) (k tt) ∙ zero-mul u))))
not_zero n u h false k = refl

pub div_is : (f : Format) (x y : Float) → T (plain x) → T (plain y) → 0 < num_of y → div f x y ≡ round f false (num_of x * den_of y) (den_of x * num_of y)
unfolding div
div_is f nan y p q h = absurd p
div_is f (inf s) y p q h = absurd p
div_is f (fin true m e) y p q h = absurd p
div_is f (fin false m e) nan p q h = absurd q
div_is f (fin false m e) (inf t) p q h = absurd q
div_is f (fin false m e) (fin true n d) p q h = absurd q
div_is f (fin false m e) (fin false n d) p q h =
    rw (not_zero n (up d) h (eqb n 0) (eqb→eq n 0)) (ap (λ (c : ℕ). round f false (m * up e * down d) c) (mul_comm (n * up d) (down e)))

-- ---- the operations on values that are about v and about w
zero_of : (a b : ℕ) → 0 < b → a * b ≤ 0 → a ≡ 0
zero_of zero b B h = refl
zero_of (suc a) b B h = absurd (omega arith)

pub fine_near : (k l h : ℕ) (x v : Fraction) → 2 * k ≤ P53 → 0 < v.den → Near P53 k x v → Fine l h v → Fine (suc l) (suc h) x
fine_near k l h x v small D n (inl e) =
    let a : x.num * v.den ≤ v.num * x.den * 2 = loose P53 k (x.num * v.den) (v.num * x.den) (pow_pos 53) small n.hi in
    inl (zero_of x.num v.den D (le_trans a (le_of_eq (ap (λ (z : ℕ). z * x.den * 2) e ∙ ap (λ (z : ℕ). z * 2) (zero-mul x.den)))))
fine_near k l h x v small D n (inr r) = inr (range_near P53 k l h x v (pow_pos 53) small D n r)

-- x is near v; rounded, it is near v by one part more
pub rounded : (k a c : ℕ) (v : Fraction) → 2 * k ≤ P53 → 0 < c → 0 < v.den → Near P53 k (over a c) v → Fine 1021 1022 v → About (suc k) (round binary64 false a c) v
rounded k a c v small C D n f =
    let r = round_about a c C (fine_near k 1021 1022 (over a c) v small D n f) in
    record { plain = r.plain; near = rw one-add at (near_trans P53 (pow_pos 53) 1 k (fraction_of (round binary64 false a c)) (over a c) v C r.near n) }

pub mul_about : (j k : ℕ) (x y : Float) (v w : Fraction) → 2 * (j + k) ≤ P53 → 0 < v.den → 0 < w.den → About j x v → About k y w → Fine 1021 1022 (times v w) → About (suc (j + k)) (mul binary64 x y) (times v w)
mul_about j k x y v w small D W a b f =
    rw (mul_is binary64 x y a.plain b.plain)
    (rounded (j + k) (num_of x * num_of y) (den_of x * den_of y) (times v w) small (mul-pos (den_pos x) (den_pos y)) (mul-pos D W) (near_times P53 (pow_pos 53) j k (fraction_of x) v (fraction_of y) w a.near b.near) f)

pub add_about : (k : ℕ) (x y : Float) (v w : Fraction) → 2 * k ≤ P53 → 0 < v.den → 0 < w.den → About k x v → About k y w → Fine 1021 1022 (plus v w) → About (suc k) (add binary64 x y) (plus v w)
add_about k x y v w small D W a b f =
    rw (add_is binary64 x y a.plain b.plain)
    (rounded k (num_of x * den_of y + num_of y * den_of x) (den_of x * den_of y) (plus v w) small (mul-pos (den_pos x) (den_pos y)) (mul-pos D W) (near_plus P53 (pow_pos 53) k (fraction_of x) v (fraction_of y) w a.near b.near) f)

pub div_about : (j k : ℕ) (x y : Float) (v w : Fraction) → 2 * (j + k) ≤ P53 → 0 < v.den → 0 < w.num → 0 < num_of y → About j x v → About k y w → Fine 1021 1022 (divided_by v w) → About (suc (j + k)) (div binary64 x y) (divided_by v w)
div_about j k x y v w small D W Y a b f =
    rw (div_is binary64 x y a.plain b.plain Y)
    (rounded (j + k) (num_of x * den_of y) (den_of x * num_of y) (divided_by v w) small (mul-pos (den_pos x) Y) (mul-pos D W) (near_by P53 (pow_pos 53) j k (fraction_of x) v (fraction_of y) w a.near b.near) f)

pub about_weaken : (j k : ℕ) (x : Float) (v : Fraction) → j ≤ k → About j x v → About k x v
about_weaken j k x v h a = record { plain = a.plain; near = near_weaken P53 (pow_pos 53) j k (fraction_of x) v h a.near }
