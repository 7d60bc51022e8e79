-- The factor of an update: the rounded one is about the exact one, 4 parts in 2 ^ 53 at most, also where the two take different branches. Assumes nothing.
use mathlib.Core.Path.{◌≡◌, refl, sym, ap, ◌∙◌, subst, subst₂}
use mathlib.Core.Logic.{◌⊎◌, inl, inr}
use Prim.Native.Nat.{ℕ, zero, suc, ◌+◌, ◌-◌, ◌*◌, ◌%◌, ◌^◌, ◌≤◌, ◌<◌, zero-le}
use native.Mathlib.Nat.{le_trans, le_of_eq, le_refl, lt_of_le_of_lt, not-le_of_lt, mul-le-mul_right, mul-le-mul_left, mul-le-mul, le_of_mul-le-mul_right, mul-pos, zero-mul, mul-one, one-mul, zero-lt-suc, zero-add, le_of_lt}
use native.Mathlib.Omega.{arith}
use mathlib.Core.Bool.{Bool, true, false, not, ◌&&◌, cond}
use lib.IntN.{ℤ, pos, negsuc}
use lib.Dec.{T, leb, ltb, eqb, lit≤, leb→le, nleb→lt, ltb→lt, nltb→le, eqb→eq, eqb_refl}
use lib.Pow.{pow_pos, pow_mono}
use lib.Ieee.{Float, nan, inf, fin, Format, binary64, prec, emax, low, up, down, round, sum, sub, div, lt, eq, of_int, fits, of_bits, le}
use lib.Ieee.Fits.{and_l, and_r}
use lib.Ieee.Positive.{num as num_of, den as den_of, den_pos}
use Rattle.deviation.specs.Statistics as Statistics
use Rattle.ledger.specs.Fractions.{Fraction, over, divided_by, minus, Le, fraction_of, unit, smaller, plus_zero, plain}
use Rattle.ledger.specs.Ledger.{factor}
use Rattle.ledger.proofs.Relative.{Below, Near, below_trans}
use Rattle.ledger.proofs.Values.{Range, Fine, About, P53, rounded, div_about, about_weaken, near_of_eq, round_about, range_weaken, range_near, num_pos, plus_one}

-- ---- a difference, exactly
pick : (f : Format) (a b c : ℕ) → b ≤ a → sum f false a true b c ≡ round f false (a - b) c
unfolding sum
pick f a b c h = go (ltb a b) (ltb→lt a b)
  where
    go : (t : Bool) → (T t → a < b) → cond t (round f true (b - a) c) (round f false (a - b) c) ≡ round f false (a - b) c
    go true k = absurd (not-le_of_lt (k tt) h)
    go false k = refl

opened : (f : Format) (m : ℕ) (e : ℤ) (n : ℕ) (d : ℤ) → sub f (fin false m e) (fin false n d) ≡ sum f false (m * up e * down d) true (n * up d * down e) (down e * down d)
unfolding sub
opened f m e n d = refl

pub sub_is : (f : Format) (x y : Float) → T (plain x) → T (plain y) → Le (fraction_of y) (fraction_of x) → sub f x y ≡ round f false (num_of x * den_of y - num_of y * den_of x) (den_of x * den_of y)
sub_is f nan y p q h = absurd p
sub_is f (inf s) y p q h = absurd p
sub_is f (fin true m e) y p q h = absurd p
sub_is f (fin false m e) nan p q h = absurd q
sub_is f (fin false m e) (inf t) p q h = absurd q
sub_is f (fin false m e) (fin true n d) p q h = absurd q
sub_is f (fin false m e) (fin false n d) p q h = opened f m e n d ∙ pick f (m * up e * down d) (n * up d * down e) (down e * down d) h

-- ---- the smaller of two
abbrev smaller_f : Float → Float → Float
smaller_f a b = cond (lt a b) a b

lt_is : (x y : Float) → T (plain x) → T (plain y) → lt x y ≡ ltb (num_of x * den_of y) (num_of y * den_of x)
unfolding lt
lt_is nan y p q = absurd p
lt_is (inf s) y p q = absurd p
lt_is (fin true m e) y p q = absurd p
lt_is (fin false m e) nan p q = absurd q
lt_is (fin false m e) (inf t) p q = absurd q
lt_is (fin false m e) (fin true n d) p q = absurd q
lt_is (fin false m e) (fin false n d) p q = refl

below_of_le : (x y : Fraction) → Le x y → Below P53 0 x y
below_of_le x y h = mul-le-mul h (le_refl P53)

-- x ≤ x' and x' about v', and x about v with v' ≤ v: so x is about v'
mixed : (k : ℕ) (x x' v v' : Fraction) → 0 < x'.den → 0 < v.den → Le x x' → Le v' v → Near P53 k x v → Near P53 k x' v' → Near P53 k x v'
mixed k x x' v v' X D h l n m = record {
  lo = rw zero-add at (below_trans P53 (pow_pos 53) 0 k v' v x D (below_of_le v' v l) n.lo);
  hi = rw zero-add at (below_trans P53 (pow_pos 53) 0 k x x' v' X (below_of_le x x' h) m.hi);
}

smaller_near : (k : ℕ) (x y : Float) (v w : Fraction) → 0 < v.den → 0 < w.den → About k x v → About k y w → About k (smaller_f x y) (smaller v w)
smaller_near k x y v w D E a b =
    subst (λ (t : Bool). About k (cond t x y) (smaller v w)) (sym (lt_is x y a.plain b.plain))
    (go (ltb (num_of x * den_of y) (num_of y * den_of x)) (leb (v.num * w.den) (w.num * v.den)) (ltb→lt (num_of x * den_of y) (num_of y * den_of x)) (nltb→le (num_of x * den_of y) (num_of y * den_of x)) (leb→le (v.num * w.den) (w.num * v.den)) (nleb→lt (v.num * w.den) (w.num * v.den)))
  where
    go : (s t : Bool) → (T s → num_of x * den_of y < num_of y * den_of x) → (T (not s) → num_of y * den_of x ≤ num_of x * den_of y) → (T t → v.num * w.den ≤ w.num * v.den) → (T (not t) → w.num * v.den < v.num * w.den)
        → About k (cond s x y) (cond t v w)
    go true true p q r u = a
    go true false p q r u = record { plain = a.plain; near = mixed k (fraction_of x) (fraction_of y) v w (den_pos y) D (le_of_lt (p tt)) (le_of_lt (u tt)) a.near b.near }
    go false true p q r u = record { plain = b.plain; near = mixed k (fraction_of y) (fraction_of x) w v (den_pos x) E (q tt) (r tt) b.near a.near }
    go false false p q r u = b

-- ---- 1 - discount
-- a value of f64 below 1 is at most 1 - 2 ^ -53
gap_in : (m D : ℕ) → m < D → m < 2 ^ 53 → (D ≤ 2 ^ 53) ⊎ (2 * 2 ^ 53 ≤ D) → D ≤ (D - m) * 2 ^ 53
gap_in m D h k (inl l) = omega arith
gap_in m D h k (inr l) = omega arith

down_cases : (k : ℕ) → (2 ^ suc k ≤ 2 ^ 53) ⊎ (2 * 2 ^ 53 ≤ 2 ^ suc k)
down_cases k = go (leb (suc k) 53) (leb→le (suc k) 53) (nleb→lt (suc k) 53)
  where
    go : (b : Bool) → (T b → suc k ≤ 53) → (T (not b) → 53 < suc k) → (2 ^ suc k ≤ 2 ^ 53) ⊎ (2 * 2 ^ 53 ≤ 2 ^ suc k)
    go true h l = inl (pow_mono (h tt))
    go false h l = inr (pow_mono {i = 54} {j = suc k} (l tt))

small_of_fits : (s : Bool) (m : ℕ) (e : ℤ) → T (fits binary64 (fin s m e)) → m < 2 ^ 53
unfolding fits
small_of_fits s zero e h = pow_pos 53
small_of_fits s (suc m) e h =
    let A = eqb (suc m % 2) 1 in
    let B = ltb (suc m) (2 ^ prec binary64) in
    let C = leb (down e) (2 ^ low binary64) in
    let E = ltb (suc m * up e) (2 ^ suc (emax binary64) * down e) in
    ltb→lt (suc m) (2 ^ 53) (and_r A B (and_l (A && B) C (and_l (A && B && C) E h)))

whole_gap : (n : ℕ) → n < 1 → 1 ≤ (1 - n) * 2 ^ 53
whole_gap n h = omega arith

pub gap : (d : Float) → T (plain d) → T (fits binary64 d) → num_of d < den_of d → den_of d ≤ (den_of d - num_of d) * 2 ^ 53
gap nan p f h = absurd p
gap (inf s) p f h = absurd p
gap (fin true m e) p f h = absurd p
gap (fin false m (pos k)) p f h = whole_gap (m * 2 ^ k) h
gap (fin false m (negsuc k)) p f h = gap_in (m * 1) (2 ^ suc k) h (lt_of_le_of_lt (le_of_eq (mul-one m)) (small_of_fits false m (negsuc k) f)) (down_cases k)

less_range : (a b : ℕ) → b ≤ (b - a) * 2 ^ 53 → Range 53 0 (minus unit (over a b))
less_range a b h = record {
  least = subst₂ (λ (x y : ℕ). x ≤ (x - y) * 2 ^ 53) (sym (one-mul b)) (sym (mul-one a)) h;
  most = omega arith;
}

wide : (v : Fraction) → Range 53 0 v → Fine 1021 1022 v
wide v r = inr (range_weaken 53 1021 0 1022 v (lit≤ tt) (lit≤ tt) r)

one_less : (d : Float) → T (plain d) → T (fits binary64 d) → num_of d < den_of d → About 1 (sub binary64 plus_one d) (minus unit (fraction_of d))
one_less d p f h =
    let l : Le (fraction_of d) (fraction_of plus_one) = (let k : num_of d ≤ den_of d = le_of_lt h in omega arith) in
    let v = minus unit (fraction_of d) in
    rw (sub_is binary64 plus_one d tt p l)
    (rounded 0 (1 * den_of d - num_of d * 1) (1 * den_of d) v zero-le (mul-pos (zero-lt-suc 0) (den_pos d)) (mul-pos (zero-lt-suc 0) (den_pos d)) (near_of_eq P53 0 v v refl) (wide v (less_range (num_of d) (den_of d) (gap d p f h))))

-- ---- 1 - 1/(n + 2)
-- P = R + 8; t' = a / (a + g) is 1/(n + 2) up to 2 parts in P
at_most_two : (R a g n : ℕ) → a * (n + 2) * (R + 6) ≤ 1 * (a + g) * (R + 8) → a ≤ g * 2
at_most_two R a g n h = le_of_mul-le-mul_right x (zero-lt-suc (R + 3))
  where
    x : a * suc (R + 3) ≤ g * 2 * suc (R + 3)
    x = omega arith

fraction_hi : (R a g n : ℕ) → a ≤ g * 2 → 1 * (a + g) * (R + 6) ≤ a * (n + 2) * (R + 8) → g * (1 * (n + 2)) * (R + 5) ≤ (n + 1) * (1 * (a + g)) * (R + 8)
fraction_hi R a g n h k = omega arith

fraction_lo : (R a g n : ℕ) → a ≤ g * 2 → a * (n + 2) * (R + 6) ≤ 1 * (a + g) * (R + 8) → (n + 1) * (1 * (a + g)) * (R + 5) ≤ g * (1 * (n + 2)) * (R + 8)
fraction_lo R a g n h k = omega arith

inv_le : (a b n : ℕ) → a * (n + 2) * (P53 - 2) ≤ 1 * b * P53 → a ≤ b
inv_le a b n h = le_of_mul-le-mul_right (x (P53 - 2) (lit≤ tt)) (pow_pos 53)
  where
    x : (r : ℕ) → P53 ≤ 2 * (P53 - 2) → a * P53 ≤ b * P53
    x r t =
        let y : a * 2 * (P53 - 2) ≤ a * (n + 2) * (P53 - 2) = mul-le-mul_right (P53 - 2) (mul-le-mul_left a (omega arith)) in
        omega arith

R53 : ℕ
R53 = 2 ^ 53 - 8

inv_near : (a b n : ℕ) → Near P53 2 (over a b) (over 1 (n + 2)) → Near P53 3 (minus unit (over a b)) (minus unit (over 1 (n + 2)))
unfolding R53
inv_near a b n h =
    let le : a ≤ b = inv_le a b n h.hi in
    let g = b - a in
    let e : a + g ≡ b = omega arith in
    let hi : a * (n + 2) * (R53 + 6) ≤ 1 * (a + g) * (R53 + 8) = rw e h.hi in
    let lo : 1 * (a + g) * (R53 + 6) ≤ a * (n + 2) * (R53 + 8) = rw e h.lo in
    let t = at_most_two R53 a g n hi in
    let x = fraction_hi R53 a g n t lo in
    let y = fraction_lo R53 a g n t hi in
    let i : 1 * b - a * 1 ≡ g = omega arith in
    let j : 1 * (n + 2) - 1 * 1 ≡ n + 1 = omega arith in
    record {
      lo = rw (i, j) (subst (λ (z : ℕ). (n + 1) * (1 * z) * (P53 - 3) ≤ g * (1 * (n + 2)) * P53) e y);
      hi = rw (i, j) (subst (λ (z : ℕ). g * (1 * (n + 2)) * (P53 - 3) ≤ (n + 1) * (1 * z) * P53) e x);
    }

count_range : (n : ℕ) → n ≤ 65536 → Range 0 17 (over (n + 2) 1)
count_range n h = record { least = omega arith; most = omega arith }

pub count_about : (n : ℕ) → n ≤ 65536 → About 1 (of_int binary64 (pos (n + 2))) (over (n + 2) 1)
unfolding of_int
count_about n h = round_about (n + 2) 1 (zero-lt-suc 0) (inr (range_weaken 0 1022 17 1023 (over (n + 2) 1) (lit≤ tt) (lit≤ tt) (count_range n h)))

inverse_range : (n : ℕ) → n ≤ 65536 → Range 17 0 (divided_by unit (over (n + 2) 1))
inverse_range n h = record { least = omega arith; most = omega arith }

inverse_about : (n : ℕ) → n ≤ 65536 → About 2 (div binary64 plus_one (of_int binary64 (pos (n + 2)))) (over 1 (n + 2))
inverse_about n h =
    let c = count_about n h in
    let m = of_int binary64 (pos (n + 2)) in
    let one : About 0 plus_one unit = record { plain = tt; near = near_of_eq P53 0 (fraction_of plus_one) unit refl } in
    let r = range_near P53 1 0 17 (fraction_of m) (over (n + 2) 1) (pow_pos 53) (lit≤ tt) (zero-lt-suc 0) c.near (count_range n h) in
    let y : 0 < num_of m = num_pos (num_of m) (den_of m) (2 ^ 1) (den_pos m) r.least in
    subst (λ (z : ℕ). About 2 (div binary64 plus_one m) (over 1 z)) (one-mul (n + 2))
    (div_about 0 1 plus_one m unit (over (n + 2) 1) (lit≤ tt) (zero-lt-suc 0) (omega arith) y one c (inr (range_weaken 17 1021 0 1022 (divided_by unit (over (n + 2) 1)) (lit≤ tt) (lit≤ tt) (inverse_range n h))))

count_less_range : (n : ℕ) → Range 53 0 (minus unit (over 1 (n + 2)))
count_less_range n = record {
  least = le_trans (x n) (mul-le-mul_left (1 * (n + 2) - 1 * 1) (pow_mono {i = 1} {j = 53} (lit≤ tt)));
  most = omega arith;
}
  where
    x : (n : ℕ) → 1 * (n + 2) ≤ (1 * (n + 2) - 1 * 1) * 2 ^ 1
    x n = omega arith

count_less : (n : ℕ) → n ≤ 65536 → About 4 (sub binary64 plus_one (div binary64 plus_one (of_int binary64 (pos (n + 2))))) (minus unit (over 1 (n + 2)))
count_less n h =
    let t = div binary64 plus_one (of_int binary64 (pos (n + 2))) in
    let a = inverse_about n h in
    let l : Le (fraction_of t) (fraction_of plus_one) = (let k : num_of t ≤ den_of t = inv_le (num_of t) (den_of t) n a.near.hi in omega arith) in
    let v = minus unit (over 1 (n + 2)) in
    rw (sub_is binary64 plus_one t tt a.plain l)
    (rounded 3 (1 * den_of t - num_of t * 1) (1 * den_of t) v (lit≤ tt) (mul-pos (zero-lt-suc 0) (den_pos t)) (omega arith) (inv_near (num_of t) (den_of t) n a.near) (wide v (count_less_range n)))

-- ---- the factor
same_test : (b c : Bool) → (T b → T c) → (T c → T b) → b ≡ c
same_test true true f g = refl
same_test true false f g = absurd (f tt)
same_test false true f g = absurd (g tt)
same_test false false f g = refl

and_both : (a b : Bool) → T a → T b → T (a && b)
and_both true b p q = q
and_both false b p q = p

pub eq_is : (d : Float) → T (plain d) → eq d plus_zero ≡ eqb (num_of d) 0
unfolding eq
eq_is nan p = absurd p
eq_is (inf s) p = absurd p
eq_is (fin true m e) p = absurd p
eq_is (fin false m e) p = same_test (eqb (m * up e * 1) (0 * down e) && true) (eqb (m * up e) 0)
    (λ (t : T (eqb (m * up e * 1) (0 * down e) && true)). eqb_of (m * up e) 0 (sym (mul-one (m * up e)) ∙ eqb→eq (m * up e * 1) (0 * down e) (and_l (eqb (m * up e * 1) (0 * down e)) true t) ∙ zero-mul (down e)))
    (λ (t : T (eqb (m * up e) 0)). and_both (eqb (m * up e * 1) (0 * down e)) true (eqb_of (m * up e * 1) (0 * down e) (mul-one (m * up e) ∙ eqb→eq (m * up e) 0 t ∙ sym (zero-mul (down e)))) tt)
  where
    eqb_of : (a b : ℕ) → a ≡ b → T (eqb a b)
    eqb_of a b p = subst (λ (x : ℕ). T (eqb a x)) p (eqb_refl a)

pub one_about : (k : ℕ) → About k plus_one unit
one_about k = record { plain = tt; near = near_of_eq P53 k (fraction_of plus_one) unit refl }

-- a discount: a value of f64 from 0 to below 1; -0 is one
pub record Discount (d : Float) : Type 0 where
  pub sign : T (eq d plus_zero) ⊎ T (plain d)
  pub fits : T (fits binary64 d)
  pub below : num_of d < den_of d

pub zero_num : (x : Float) → T (eq x plus_zero) → num_of x ≡ 0
unfolding eq
zero_num nan h = absurd h
zero_num (inf s) h = absurd h
zero_num (fin s m e) h = sym (mul-one (m * up e)) ∙ eqb→eq (m * up e * 1) (0 * down e) (and_l (eqb (m * up e * 1) (0 * down e)) _ h) ∙ zero-mul (down e)

both : (a b : Bool) → T (a && b) → T a × T b
both true b t = (tt, t)
both false b t = absurd t

sign_of : (d : Float) → T (le plus_zero d) → T (lt d plus_one) → T (eq d plus_zero) ⊎ T (plain d)
unfolding le lt eq
sign_of nan h k = absurd h
sign_of (inf true) h k = absurd h
sign_of (inf false) h k = absurd k
sign_of (fin true m e) h k = inl (turn (m * up e) (eqb→eq (0 * down e) (m * up e * 1) (both (eqb (0 * down e) (m * up e * 1)) (eqb (0 * down e) 0) h).0))
  where
    turn : (a : ℕ) → 0 * down e ≡ a * 1 → T (eqb (a * 1) (0 * down e) && eqb (a * 1) 0)
    turn a q = rw (sym q, zero-mul (down e)) tt
sign_of (fin false m e) h k = inr tt

below_one : (d : Float) → T (eq d plus_zero) ⊎ T (plain d) → T (lt d plus_one) → num_of d < den_of d
unfolding lt
below_one d (inl z) k = subst (λ (i : ℕ). i < den_of d) (sym (zero_num d z)) (den_pos d)
below_one nan (inr p) k = absurd p
below_one (inf s) (inr p) k = absurd p
below_one (fin true m e) (inr p) k = absurd p
below_one (fin false m e) (inr p) k = plainly (m * up e) (down e) (ltb→lt (m * up e * 1) (1 * down e) k)
  where
    plainly : (a c : ℕ) → a * 1 < 1 * c → a < c
    plainly a c h = omega arith

-- what construction accepts, of the values of f64
pub discount_of : (d : Float) → T (fits binary64 d) → T (Statistics.is_discount d) → Discount d
unfolding of_bits
discount_of d f h =
    let t = both (le plus_zero d) (lt d plus_one) h in
    let s = sign_of d t.0 t.1 in
    record { sign = s; fits = f; below = below_one d s t.1 }

true_of : (b : Bool) → T b → b ≡ true
true_of true t = refl
true_of false t = absurd t

at_zero : (d : Float) → T (eq d plus_zero) → eqb (num_of d) 0 ≡ true
at_zero d h = ap (λ (k : ℕ). eqb k 0) (zero_num d h)

pub factor_about : (d : Float) (n : ℕ) → Discount d → n ≤ 65536 → About 4 (Statistics.factor d (pos n)) (factor (fraction_of d) n)
unfolding factor Statistics.factor of_bits
factor_about d n D l = elim D.sign [
  | inl z ↦ subst₂ (λ (s t : Bool). About 4 (cond s plus_one a) (cond t unit v)) (sym (true_of (eq d plus_zero) z)) (sym (at_zero d z)) (one_about 4)
  | inr p ↦ subst (λ (t : Bool). About 4 (cond t plus_one a) (cond (eqb (num_of d) 0) unit v)) (sym (eq_is d p)) (go p (eqb (num_of d) 0))
]
  where
    a : Float
    a = smaller_f (sub binary64 plus_one d) (sub binary64 plus_one (div binary64 plus_one (of_int binary64 (pos (n + 2)))))

    v : Fraction
    v = smaller (minus unit (fraction_of d)) (minus unit (over 1 (n + 2)))

    go : T (plain d) → (b : Bool) → About 4 (cond b plus_one a) (cond b unit v)
    go p true = one_about 4
    go p false =
        smaller_near 4 (sub binary64 plus_one d) (sub binary64 plus_one (div binary64 plus_one (of_int binary64 (pos (n + 2))))) (minus unit (fraction_of d)) (minus unit (over 1 (n + 2)))
        (mul-pos (zero-lt-suc 0) (den_pos d)) (omega arith)
        (about_weaken 1 4 (sub binary64 plus_one d) (minus unit (fraction_of d)) (lit≤ tt) (one_less d p D.fits D.below)) (count_less n l)

pub factor_range : (d : Float) (n : ℕ) → Discount d → Range 53 0 (factor (fraction_of d) n)
unfolding factor
factor_range d n D = elim D.sign [
  | inl z ↦ subst (λ (t : Bool). Range 53 0 (cond t unit (cond (leb (x.num * y.den) (y.num * x.den)) x y))) (sym (at_zero d z)) one
  | inr p ↦ go p (eqb (num_of d) 0) (leb (x.num * y.den) (y.num * x.den))
]
  where
    x : Fraction
    x = minus unit (fraction_of d)

    y : Fraction
    y = minus unit (over 1 (n + 2))

    one : Range 53 0 unit
    one = record { least = lit≤ tt; most = lit≤ tt }

    go : T (plain d) → (s t : Bool) → Range 53 0 (cond s unit (cond t x y))
    go p true t = one
    go p false true = less_range (num_of d) (den_of d) (gap d p D.fits D.below)
    go p false false = count_less_range n

pub factor_den : (d : Float) (n : ℕ) → 0 < (factor (fraction_of d) n).den
unfolding factor
factor_den d n = go (eqb (num_of d) 0) (leb (x.num * y.den) (y.num * x.den))
  where
    x : Fraction
    x = minus unit (fraction_of d)

    y : Fraction
    y = minus unit (over 1 (n + 2))

    go : (s t : Bool) → 0 < (cond s unit (cond t x y)).den
    go true t = zero-lt-suc 0
    go false true = mul-pos (zero-lt-suc 0) (den_pos d)
    go false false = omega arith
