-- How far `round` moves a fraction: by at most one part in 2 ^ prec in the normal range, and everywhere by at most that or half a unit. Assumes nothing.
use mathlib.Core.Path.{◌≡◌, sym, ap, ◌∙◌, subst}
use Prim.Native.Nat.{ℕ, zero, suc, ◌+◌, ◌-◌, ◌*◌, ◌/◌, ◌%◌, ◌^◌, ◌≤◌, ◌<◌, compare, Ordering}
use native.Mathlib.Nat.{le_trans, le_of_eq, le_refl, lt_of_lt_of_le, mul_comm, mul_assoc, mul_right_comm, mul-le-mul_right, mul-le-mul_left, le_of_mul-le-mul_right, lt_of_mul-lt-mul_right, mul-pos, mod-lt, div-add-mod', le-div_iff_mul-le, pow-suc, add-suc, zero-lt-suc, lt_of_not-le, le-mul_of_pos_right}
use native.Mathlib.Omega.{arith}
use mathlib.Core.Bool.{Bool, true, false, not}
use lib.Dec.{T, leb, lit≤, is_le, compare_is_eq, eqb, leb→le, nleb→lt, eqb→eq, eqb_refl}
use lib.Arith.{lt_of_le-ne}
use lib.Pow.{pow-add, pow_pos, pow_mono}
use lib.Ieee.{Format, binary32, binary64, prec, emax, low, size, nearest, round}
use lib.Ieee.Digits.{size_reaches}
use lib.Ieee.Fits.{two, two-le_pos}
use lib.Ieee.Exact.{HasValue}
use lib.Ieee.Nearest.{closest}
use lib.Ieee.Order.{drop, kept}
use lib.Ieee.Scale.{grid, overflow, round_val, normal_of_fraction}
use Rattle.ledger.specs.Fractions.{over}
use Rattle.ledger.proofs.Relative.{Near}

-- ---- the nearest whole number is at most a half away
abbrev Cmp : Ordering → ℕ → ℕ → Type 0
Cmp Ordering.lt a b = a < b
Cmp Ordering.eq a b = a ≡ b
Cmp Ordering.gt a b = b < a

cmp : (a b : ℕ) → Cmp (compare a b) a b
cmp a b = go (compare a b) (leb→le a b) (nleb→lt a b) (eqb→eq a b) (λ (e : a ≡ b). subst (λ (x : ℕ). T (eqb a x)) e (eqb_refl a))
  where
    go : (o : Ordering) → (T (is_le o) → a ≤ b) → (T (not (is_le o)) → b < a) → (T (compare_is_eq o) → a ≡ b) → (a ≡ b → T (compare_is_eq o)) → Cmp o a b
    go Ordering.lt h k e n = lt_of_le-ne (h tt) n
    go Ordering.eq h k e n = e tt
    go Ordering.gt h k e n = k tt

-- n is a / b up to a half
pub record Half (n a b : ℕ) : Type 0 where
  pub lo : 2 * (n * b) ≤ 2 * a + b
  pub hi : 2 * a ≤ 2 * (n * b) + b

half_at : (q r b : ℕ) (o : Ordering) → r < b → Cmp o (r * 2) b → Half (nearest q o) (q * b + r) b
half_at q r b Ordering.lt l c = record { lo = omega arith; hi = omega arith }
half_at q r b Ordering.eq l c = go (q % 2) (let m : q % 2 < 2 = mod-lt q (omega arith) in omega arith)
  where
    go : (t : ℕ) → t ≤ 1 → Half (q + t) (q * b + r) b
    go zero h = record { lo = omega arith; hi = omega arith }
    go (suc zero) h = record { lo = omega arith; hi = omega arith }
    go (suc (suc t)) h = absurd (omega arith)
half_at q r b Ordering.gt l c = record { lo = omega arith; hi = omega arith }

pub closest_half : (a b : ℕ) → 0 < b → Half (closest a b) a b
closest_half a b B = subst (λ (x : ℕ). Half (closest a b) x b) (div-add-mod' a b) (half_at (a / b) (a % b) b (compare (a % b * 2) b) (mod-lt a B) (cmp (a % b * 2) b))

-- ---- in units: the grid value g of n / c, where n = a * 2 ^ low, and u = 2 ^ drop units is the distance of neighbours
pub grid_half : (f : Format) (a c : ℕ) → 0 < c → Half (kept (prec f) (a * 2 ^ low f) c) (a * 2 ^ low f) (c * 2 ^ drop (prec f) (a * 2 ^ low f) c)
grid_half f a c C = closest_half (a * 2 ^ low f) (c * 2 ^ drop (prec f) (a * 2 ^ low f) c) (mul-pos C (pow_pos (drop (prec f) (a * 2 ^ low f) c)))

-- the neighbours' distance, 2 ^ (prec - 1) times, is at most n / c in the normal range
digits_eq : (p z : ℕ) → 0 < p → p ≤ z → p - 1 + (z - p) < z
digits_eq p z P h = omega arith

pub gap_le : (p n c : ℕ) → 0 < p → 0 < c → p ≤ size (n / c) → 2 ^ (p - 1) * (c * 2 ^ drop p n c) ≤ n
gap_le p n c P C h =
    let k = drop p n c in
    let a : 2 ^ (p - 1) * 2 ^ k ≤ n / c = le_trans (le_of_eq (sym (pow-add 2 (p - 1) k))) (size_reaches (n / c) (p - 1 + k) (digits_eq p (size (n / c)) P h)) in
    let b : 2 ^ (p - 1) * 2 ^ k * c ≤ n = (le-div_iff_mul-le C).0 a in
    le_trans (le_of_eq (ap (λ (x : ℕ). 2 ^ (p - 1) * x) (mul_comm c (2 ^ k)) ∙ sym (mul_assoc (2 ^ (p - 1)) (2 ^ k) c))) b

-- the arithmetic: H * 2 is 2 ^ prec
rel_hi : (H n q k c : ℕ) → H * (c * k) ≤ n → 2 * (q * (c * k)) ≤ 2 * n + c * k → q * k * c * (H * 2) ≤ n * (H * 2) + n
rel_hi H n q k c g h =
    let x : 2 * (q * (c * k)) * H ≤ (2 * n + c * k) * H = mul-le-mul_right H h in
    omega arith

rel_lo : (H n q k c : ℕ) → H * (c * k) ≤ n → 2 * n ≤ 2 * (q * (c * k)) + c * k → n * (H * 2) ≤ q * k * c * (H * 2) + n
rel_lo H n q k c g h =
    let x : 2 * n * H ≤ (2 * (q * (c * k)) + c * k) * H = mul-le-mul_right H h in
    omega arith

pub record Rel (P n g c : ℕ) : Type 0 where
  pub lo : n * P ≤ g * c * P + n
  pub hi : g * c * P ≤ n * P + n

suc_minus_one : (p : ℕ) → suc p - 1 ≡ p
suc_minus_one p = omega arith

twice : (p : ℕ) → 0 < p → 2 ^ (p - 1) * 2 ≡ 2 ^ p
twice zero h = absurd (omega arith)
twice (suc p) h = ap (λ (x : ℕ). 2 ^ x * 2) (suc_minus_one p) ∙ sym (pow-suc 2 p)

-- ---- the normal range: one part in 2 ^ prec
pub grid_rel : (f : Format) (a c : ℕ) → 0 < c → prec f ≤ size (a * 2 ^ low f / c) → Rel (2 ^ prec f) (a * 2 ^ low f) (grid f a c) c
grid_rel f a c C N =
    let p = prec f in
    let n = a * 2 ^ low f in
    let k = drop p n c in
    let P = two-le_pos p (two f) in
    let g : 2 ^ (p - 1) * (c * 2 ^ k) ≤ n = gap_le p n c P C N in
    let h = grid_half f a c C in
    subst (λ (x : ℕ). Rel x n (grid f a c) c) (twice p P)
    (record { lo = rel_lo (2 ^ (p - 1)) n (kept p n c) (2 ^ k) c g h.hi; hi = rel_hi (2 ^ (p - 1)) n (kept p n c) (2 ^ k) c g h.lo })

-- ---- below 2 ^ emax nothing overflows
under_in : (P n g c N : ℕ) → 2 ≤ P → 0 < n → g * c * P ≤ n * P + n → n ≤ N * c → g < 2 * N
under_in P n g c N two pos h l = lt_of_mul-lt-mul_right (c * P) x
  where
    x : g * (c * P) < 2 * N * (c * P)
    x =
        let a : n * P ≤ N * c * P = mul-le-mul_right P l in
        let b : n * 2 ≤ n * P = mul-le-mul_left n two in
        omega arith

top_eq : (f : Format) → 2 * (2 ^ emax f * 2 ^ low f) ≡ overflow f
top_eq f =
    ap (λ (x : ℕ). 2 * x) (mul_comm (2 ^ emax f) (2 ^ low f) ∙ sym (pow-add 2 (low f) (emax f)))
    ∙ mul_comm 2 (2 ^ (low f + emax f)) ∙ sym (pow-suc 2 (low f + emax f)) ∙ ap (λ (x : ℕ). 2 ^ x) (sym (add-suc (low f) (emax f)))

two_le_pow : (p : ℕ) → 2 ≤ p → 2 ≤ 2 ^ p
two_le_pow p h = le_trans (pow_mono {i = 1} {j = p} (omega arith)) (le_refl (2 ^ p))

pub record Rounded (f : Format) (a c : ℕ) : Type 0 where
  pub value : HasValue (round f false a c) false (grid f a c) (2 ^ low f)
  pub near : Near (2 ^ prec f) 1 (over (grid f a c) (2 ^ low f)) (over a c)

near_hi : (R n gc : ℕ) → gc * suc R ≤ n * suc R + n → gc * R ≤ n * suc R
near_hi R n gc h = le_of_mul-le-mul_right x (zero-lt-suc R)
  where
    x : gc * R * suc R ≤ n * suc R * suc R
    x =
        let a : gc * suc R * R ≤ (n * suc R + n) * R = mul-le-mul_right R h in
        omega arith

near_lo : (R n gc : ℕ) → n * suc R ≤ gc * suc R + n → n * R ≤ gc * suc R
near_lo R n gc h = omega arith

rel_near : (P a L g c : ℕ) → 0 < P → Rel P (a * L) g c → Near P 1 (over g L) (over a c)
rel_near zero a L g c pos r = absurd (omega arith)
rel_near (suc R) a L g c pos r = record {
  lo = rw (suc_minus_one R) (near_lo R (a * L) (g * c) r.lo);
  hi = rw (suc_minus_one R) (near_hi R (a * L) (g * c) r.hi);
}

-- a / c from 2 ^ -(emax - 1) to 2 ^ emax
pub round_near : (f : Format) (a c : ℕ) → 0 < c → 2 ^ (prec f - 1) * c ≤ a * 2 ^ low f → a ≤ 2 ^ emax f * c → Rounded f a c
round_near f a c C lo hi =
    let n = a * 2 ^ low f in
    let r = grid_rel f a c C (normal_of_fraction f a c C lo) in
    let pos : 0 < n = lt_of_lt_of_le (mul-pos (pow_pos (prec f - 1)) C) lo in
    let l : n ≤ 2 ^ emax f * 2 ^ low f * c = le_trans (mul-le-mul_right (2 ^ low f) hi) (le_of_eq (mul_right_comm (2 ^ emax f) c (2 ^ low f))) in
    let u : grid f a c < overflow f = subst (λ (x : ℕ). grid f a c < x) (top_eq f) (under_in (2 ^ prec f) n (grid f a c) c (2 ^ emax f * 2 ^ low f) (two_le_pow (prec f) (two f)) pos r.hi l) in
    record { value = round_val f a c u; near = rel_near (2 ^ prec f) a (2 ^ low f) (grid f a c) c (pow_pos (prec f)) r }

-- ---- everywhere: at most one part in 2 ^ prec and one unit besides
pub record Abs (P n g c : ℕ) : Type 0 where
  pub lo : n * P ≤ g * c * P + n + c * P
  pub hi : g * c * P ≤ n * P + n + c * P

rel_abs : (P n g c : ℕ) → Rel P n g c → Abs P n g c
rel_abs P n g c r = let a = r.lo in let b = r.hi in record { lo = omega arith; hi = omega arith }

half_abs : (P n g c k : ℕ) → k ≡ 1 → Half g n (c * k) → Abs P n (g * k) c
half_abs P n g c k e h =
    subst (λ (x : ℕ). Half g n (c * x) → Abs P n (g * x) c) (sym e)
    (λ (i : Half g n (c * 1)).
    let a : 2 * (g * (c * 1)) * P ≤ (2 * n + c * 1) * P = mul-le-mul_right P i.lo in
    let b : 2 * n * P ≤ (2 * (g * (c * 1)) + c * 1) * P = mul-le-mul_right P i.hi in
    record { lo = omega arith; hi = omega arith }) h

few : (z p : ℕ) → z < p → z - p ≡ 0
few z p h = omega arith

pub grid_abs : (f : Format) (a c : ℕ) → 0 < c → Abs (2 ^ prec f) (a * 2 ^ low f) (grid f a c) c
grid_abs f a c C = go (leb (prec f) z) (leb→le (prec f) z) (nleb→lt (prec f) z)
  where
    n : ℕ
    n = a * 2 ^ low f

    z : ℕ
    z = size (a * 2 ^ low f / c)

    go : (b : Bool) → (T b → prec f ≤ size (a * 2 ^ low f / c)) → (T (not b) → size (a * 2 ^ low f / c) < prec f) → Abs (2 ^ prec f) (a * 2 ^ low f) (grid f a c) c
    go true h l = rel_abs (2 ^ prec f) (a * 2 ^ low f) (grid f a c) c (grid_rel f a c C (h tt))
    go false h l = half_abs (2 ^ prec f) (a * 2 ^ low f) (kept (prec f) (a * 2 ^ low f) c) c (2 ^ drop (prec f) (a * 2 ^ low f) c) (ap (λ (x : ℕ). 2 ^ x) (few (size (a * 2 ^ low f / c)) (prec f) (l tt))) (grid_half f a c C)

-- below 2 ^ emax nothing overflows here either
small_in : (P N : ℕ) → 4 ≤ P → 4 ≤ N → N * P ≤ N + P → ⊥
small_in P N p n h =
    let a : N * 4 ≤ N * P = mul-le-mul_left N p in
    let b : 4 * P ≤ N * P = mul-le-mul_right P n in
    omega arith

under_abs : (P n g c N : ℕ) → 4 ≤ P → 4 ≤ N → 0 < c → g * c * P ≤ n * P + n + c * P → n ≤ N * c → g < 2 * N
under_abs P n g c N p q C h l = lt_of_not-le (λ (m : 2 * N ≤ g). small_in P N p q (le_of_mul-le-mul_right (y m) C))
  where
    y : 2 * N ≤ g → N * P * c ≤ (N + P) * c
    y m =
        let a : n * P ≤ N * c * P = mul-le-mul_right P l in
        let b : 2 * N * (c * P) ≤ g * (c * P) = mul-le-mul_right (c * P) m in
        omega arith

four_le : (p : ℕ) → 2 ≤ p → 4 ≤ 2 ^ p
four_le p h = pow_mono {i = 2} {j = p} h

big : (f : Format) → 4 ≤ 2 ^ emax f * 2 ^ low f
big f = le_trans (four_le (emax f) (e f)) (le-mul_of_pos_right (2 ^ emax f) (pow_pos (low f)))
  where
    e : (f : Format) → 2 ≤ emax f
    e binary32 = lit≤ tt
    e binary64 = lit≤ tt

pub record Kept (f : Format) (a c : ℕ) : Type 0 where
  pub value : HasValue (round f false a c) false (grid f a c) (2 ^ low f)
  pub near : Abs (2 ^ prec f) (a * 2 ^ low f) (grid f a c) c

-- a / c up to 2 ^ emax
pub round_abs : (f : Format) (a c : ℕ) → 0 < c → a ≤ 2 ^ emax f * c → Kept f a c
round_abs f a c C hi =
    let n = a * 2 ^ low f in
    let r = grid_abs f a c C in
    let l : n ≤ 2 ^ emax f * 2 ^ low f * c = le_trans (mul-le-mul_right (2 ^ low f) hi) (le_of_eq (mul_right_comm (2 ^ emax f) c (2 ^ low f))) in
    let u : grid f a c < overflow f = subst (λ (x : ℕ). grid f a c < x) (top_eq f) (under_abs (2 ^ prec f) n (grid f a c) c (2 ^ emax f * 2 ^ low f) (four_le (prec f) (two f)) (big f) C r.hi l) in
    record { value = round_val f a c u; near = r }
