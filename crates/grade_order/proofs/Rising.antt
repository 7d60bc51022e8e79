-- Values with no minus, and NaN, in an order where NaN and the infinity stand over all others, and the operations that keep it. Assumes nothing.
use mathlib.Core.Path.{◌≡◌, refl, sym, ◌∙◌, subst}
use mathlib.Core.Bool.{Bool, true, false, not, cond}
use Prim.Native.Nat.{ℕ, zero, suc, ◌+◌, ◌*◌, ◌^◌, ◌≤◌, ◌<◌}
use native.Mathlib.Nat.{le_refl, le_of_lt, mul-pos, mul-le-mul_right, mul-lt-mul_of_pos_right, lt_irrefl}
use native.Mathlib.Omega.{arith}
use lib.IntN.{ℤ, pos}
use lib.Dec.{T, ltb, eqb, ltb→lt, lt→ltb, nltb→le, not_T, eqb-suc-zero}
use lib.Ieee.{Float, nan, inf, fin, Format, binary32, prec, emax, low, up, down, round, units, odd, div, lt, le, eq, is_nan, of_bits}
use lib.Ieee.Fits.{up_pos, down_pos, round_is}
use lib.Ieee.Order.{round_mono, le_of_values}
use lib.Ieee.Scale.{round_same}
use Rattle.util.specs.Util.{maxf32, minf32}
use Rattle.grading.specs.Const.{zero32}
use Rattle.grade_order.proofs.Signed.{at_most}

-- ---- signs
-- no minus; NaN counts among these
abbrev pub plus : Float → Bool
plus nan = true
plus (inf s) = not s
plus (fin s m e) = not s

-- a number with the sign s
abbrev pub signed : Bool → Float → Bool
signed s nan = false
signed false (inf t) = not t
signed true (inf t) = t
signed false (fin t m e) = not t
signed true (fin t m e) = t

pub signed_plus : (x : Float) → T (signed false x) → T (plus x)
signed_plus nan h = absurd h
signed_plus (inf t) h = h
signed_plus (fin t m e) h = h

pub signed_number : (s : Bool) (x : Float) → T (signed s x) → T (not (is_nan x))
unfolding is_nan
signed_number s nan h = absurd h
signed_number s (inf t) h = tt
signed_number s (fin t m e) h = tt

-- a rounded fraction has the sign it is rounded with
odd_signed : (s : Bool) (d q k l : ℕ) → T (signed s (odd d s q k l))
unfolding odd
odd_signed false d zero k l = tt
odd_signed false d (suc q) k l = tt
odd_signed true d zero k l = tt
odd_signed true d (suc q) k l = tt

inf_signed : (s : Bool) → T (signed s (inf s))
inf_signed false = tt
inf_signed true = tt

units_signed : (f : Format) (s : Bool) (q k : ℕ) → T (signed s (units f s q k))
unfolding units
units_signed f s q k = go (ltb (q * 2 ^ k) (2 ^ (low f + suc (emax f))))
  where
    go : (b : Bool) → T (signed s (cond b (odd (suc (prec f)) s q k (low f)) (inf s)))
    go true = odd_signed s (suc (prec f)) q k (low f)
    go false = inf_signed s

pub round_signed : (f : Format) (s : Bool) (a c : ℕ) → T (signed s (round f s a c))
round_signed f s a c = subst (λ (x : Float). T (signed s x)) (sym (round_is f s a c)) (units_signed f s _ _)

pub round_plus : (f : Format) (a c : ℕ) → T (plus (round f false a c))
round_plus f a c = signed_plus (round f false a c) (round_signed f false a c)

-- ---- above 0
-- an infinity, or a finite number that is not 0
pub data Above : Float → Type 0 where
  endless : Above (inf false)
  some : {n : ℕ} {g : ℤ} → 0 < n → Above (fin false n g)

pub above : (d : Float) → T (lt zero32 d) → Above d
unfolding lt of_bits
above nan h = absurd h
above (inf true) h = absurd h
above (inf false) h = endless
above (fin true n g) h = absurd h
above (fin false zero g) h = absurd (let l = ltb→lt (0 * 1 * down g) (0 * up g * 1) h in omega arith)
above (fin false (suc n) g) h = some {n = suc n} (omega arith)

pub is_above : {d : Float} → Above d → T (lt zero32 d)
unfolding lt of_bits
is_above endless = tt
is_above (some {n} {g} N) = lt→ltb (0 * 1 * down g) (n * up g * 1) (let l : 0 < n * up g = mul-pos N (up_pos g) in omega arith)

pub minus_not_above : (v : Float) → T (signed true v) → T (lt zero32 v) → ⊥
unfolding lt of_bits
minus_not_above nan p h = p
minus_not_above (inf true) p h = h
minus_not_above (inf false) p h = p
minus_not_above (fin true m e) p h = h
minus_not_above (fin false m e) p h = p

no_part : round binary32 false 0 1 ≡ fin false 0 (pos 0)
unfolding round
no_part = refl

nothing_above : T (lt zero32 (fin false 0 (pos 0))) → ⊥
unfolding lt of_bits
nothing_above h = h

-- a fraction that rounds to a number above 0 is not 0
pub above_some : (a c : ℕ) → 0 < c → T (lt zero32 (round binary32 false a c)) → 0 < a
above_some zero c C h = absurd (nothing_above (subst (λ (x : Float). T (lt zero32 x)) (round_same binary32 false 0 c 0 1 C (omega arith) (omega arith) ∙ no_part) h))
above_some (suc a) c C h = omega arith

-- ---- the order
pub data Rising : Float → Float → Type 0 where
  to_nan : {a : Float} → T (plus a) → Rising a nan
  to_endless : {a : Float} → T (plus a) → Rising a (inf false)
  numbers : {m n : ℕ} {e d : ℤ} → m * up e * down d ≤ n * up d * down e → Rising (fin false m e) (fin false n d)

pub first_plus : {a b : Float} → Rising a b → T (plus a)
first_plus (to_nan p) = p
first_plus (to_endless p) = p
first_plus (numbers h) = tt

pub second_plus : {a b : Float} → Rising a b → T (plus b)
second_plus (to_nan p) = tt
second_plus (to_endless p) = tt
second_plus (numbers h) = tt

pub same : (a : Float) → T (plus a) → Rising a a
same nan p = to_nan tt
same (inf true) p = absurd p
same (inf false) p = to_endless tt
same (fin true m e) p = absurd p
same (fin false m e) p = numbers (le_refl (m * up e * down e))

pub above_plus : {a : Float} → Above a → T (plus a)
above_plus endless = tt
above_plus (some N) = tt

pub of_le : (a b : Float) → T (plus a) → T (plus b) → T (le a b) → Rising a b
unfolding le lt eq
of_le a nan p q h = to_nan p
of_le a (inf true) p q h = absurd q
of_le a (inf false) p q h = to_endless p
of_le a (fin true n d) p q h = absurd q
of_le nan (fin false n d) p q h = absurd h
of_le (inf true) (fin false n d) p q h = absurd p
of_le (inf false) (fin false n d) p q h = absurd h
of_le (fin true m e) (fin false n d) p q h = absurd p
of_le (fin false m e) (fin false n d) p q h = numbers {m = m} {n = n} {e = e} {d = d} (let l = at_most false (m * up e) (down e) false (n * up d) (down d) h in omega arith)

no_number : T (not (is_nan nan)) → ⊥
unfolding is_nan
no_number h = h

endless_most : (a : Float) → T (plus a) → T (not (is_nan a)) → T (le a (inf false))
unfolding le lt eq
endless_most nan p h = absurd (no_number h)
endless_most (inf true) p h = absurd p
endless_most (inf false) p h = tt
endless_most (fin s m e) p h = tt

pub is_le : {a b : Float} → Rising a b → T (not (is_nan a)) → T (not (is_nan b)) → T (le a b)
is_le (to_nan p) h k = absurd (no_number k)
is_le (to_endless {a} p) h k = endless_most a p h
is_le (numbers {m} {n} {e} {d} l) h k = le_of_values (fin false m e) (fin false n d) (m * up e) (down e) (n * up d) (down d) (down_pos e) (down_pos d) (refl, refl) (refl, refl) l

pub above_then : {a b : Float} → Rising a b → Above a → T (not (is_nan b)) → Above b
above_then (to_nan p) s h = absurd (no_number h)
above_then (to_endless p) s h = endless
above_then (numbers {m} {n} {e} {d} l) (some M) h = some {n = n} (positive n (let k : 0 < m * up e * down d = mul-pos (mul-pos M (up_pos e)) (down_pos d) in omega arith))
  where
    positive : (n : ℕ) → 0 < n * up d * down e → 0 < n
    positive zero k = absurd (omega arith)
    positive (suc n) k = omega arith

-- ---- what keeps it
pub rounds : (f : Format) (a b c d : ℕ) → 0 < b → 0 < d → a * d ≤ c * b → Rising (round f false a b) (round f false c d)
rounds f a b c d B D h = of_le (round f false a b) (round f false c d) (round_plus f a b) (round_plus f c d) (round_mono f a b c d B D h)

not_zero : (n : ℕ) → 0 < n → eqb n 0 ≡ false
not_zero zero h = absurd (let l = h in omega arith)
not_zero (suc n) h = eqb-suc-zero n

quotient_is : (m n : ℕ) (e g : ℤ) → 0 < n → div binary32 (fin false m e) (fin false n g) ≡ round binary32 false (m * up e * down g) (n * up g * down e)
unfolding div
quotient_is m n e g N = rw (not_zero n N)

pub quotient_plus : (a d : Float) → T (plus a) → Above d → T (plus (div binary32 a d))
unfolding div
quotient_plus nan d p s = tt
quotient_plus (inf true) d p s = absurd p
quotient_plus (inf false) nan p s = elim s [ ]
quotient_plus (inf false) (inf true) p s = elim s [ ]
quotient_plus (inf false) (fin true n g) p s = elim s [ ]
quotient_plus (inf false) (inf false) p endless = tt
quotient_plus (inf false) (fin false n g) p (some N) = tt
quotient_plus (fin true m e) d p s = absurd p
quotient_plus (fin false m e) nan p s = elim s [ ]
quotient_plus (fin false m e) (inf true) p s = elim s [ ]
quotient_plus (fin false m e) (fin true n g) p s = elim s [ ]
quotient_plus (fin false m e) (inf false) p endless = tt
quotient_plus (fin false m e) (fin false n g) p (some N) = subst (λ (x : Float). T (plus x)) (sym (quotient_is m n e g N)) (round_plus binary32 (m * up e * down g) (n * up g * down e))

-- by a divisor above 0
pub quotients : {a b : Float} → Rising a b → (d : Float) → Above d → Rising (div binary32 a d) (div binary32 b d)
unfolding div
quotients (to_nan {a} p) d s = to_nan (quotient_plus a d p s)
quotients (to_endless p) nan s = elim s [ ]
quotients (to_endless p) (inf true) s = elim s [ ]
quotients (to_endless p) (fin true n g) s = elim s [ ]
quotients (to_endless {a} p) (inf false) endless = to_nan (quotient_plus a (inf false) p endless)
quotients (to_endless {a} p) (fin false n g) (some N) = to_endless (quotient_plus a (fin false n g) p (some N))
quotients (numbers h) nan s = elim s [ ]
quotients (numbers h) (inf true) s = elim s [ ]
quotients (numbers h) (fin true n g) s = elim s [ ]
quotients (numbers h) (inf false) endless = numbers (le_refl 0)
quotients (numbers {m = m} {n = m'} {e = e} {d = e'} h) (fin false n g) (some N) =
    subst (λ (x : Float). Rising x (div binary32 (fin false m' e') (fin false n g))) (sym (quotient_is m n e g N))
    (subst (λ (x : Float). Rising (round binary32 false (m * up e * down g) (n * up g * down e)) x) (sym (quotient_is m' n e' g N))
    (rounds binary32 (m * up e * down g) (n * up g * down e) (m' * up e' * down g) (n * up g * down e')
    (mul-pos (mul-pos N (up_pos g)) (down_pos e)) (mul-pos (mul-pos N (up_pos g)) (down_pos e'))
    (scaled (m * up e) (m' * up e') (down e) (down e') (down g) (n * up g) h)))
  where
    scaled : (x y p q r z : ℕ) → x * q ≤ y * p → x * r * (z * q) ≤ y * r * (z * p)
    scaled x y p q r z h = let k : x * q * (r * z) ≤ y * p * (r * z) = mul-le-mul_right (r * z) h in omega arith

-- the smaller of a value and a finite limit
module _ (n : ℕ) (g : ℤ) where
  abbrev limit : Float
  limit = fin false n g

  at_limit : Rising limit limit
  at_limit = numbers (le_refl (n * up g * down g))

  pub limited : (a : Float) → T (plus a) → Rising (minf32 a limit) limit
  unfolding minf32 lt
  limited nan p = at_limit
  limited (inf true) p = absurd p
  limited (inf false) p = at_limit
  limited (fin true m e) p = absurd p
  limited (fin false m e) p = go (ltb (m * up e * down g) (n * up g * down e)) (ltb→lt (m * up e * down g) (n * up g * down e))
    where
      go : (b : Bool) → (T b → m * up e * down g < n * up g * down e) → Rising (cond b (fin false m e) limit) limit
      go true h = numbers (le_of_lt (h tt))
      go false h = at_limit

  pub limits : {a b : Float} → Rising a b → Rising (minf32 a limit) (minf32 b limit)
  unfolding minf32 lt
  limits (to_nan {a} p) = limited a p
  limits (to_endless {a} p) = limited a p
  limits (numbers {m = m} {n = m'} {e = e} {d = e'} h) =
      go (ltb (m * up e * down g) (n * up g * down e)) (ltb (m' * up e' * down g) (n * up g * down e')) (ltb→lt _ _) (nltb→le _ _) (ltb→lt _ _)
    where
      earlier : m' * up e' * down g < n * up g * down e' → n * up g * down e ≤ m * up e * down g → ⊥
      earlier k l = between (m * up e) (m' * up e') (n * up g) (down e) (down e') (down g) (down_pos e) h k l
        where
          between : (x y z p q r : ℕ) → 0 < p → x * q ≤ y * p → y * r < z * q → z * p ≤ x * r → ⊥
          between x y z p q r P h k l =
              let i : z * p * q ≤ x * r * q = mul-le-mul_right q l in
              let j : x * q * r ≤ y * p * r = mul-le-mul_right r h in
              let o : y * r * p < z * q * p = mul-lt-mul_of_pos_right k P in
              lt_irrefl (y * r * p) (omega arith)

      go : (a b : Bool) → (T a → m * up e * down g < n * up g * down e) → (T (not a) → n * up g * down e ≤ m * up e * down g) → (T b → m' * up e' * down g < n * up g * down e')
          → Rising (cond a (fin false m e) limit) (cond b (fin false m' e') limit)
      go true true i j k = numbers h
      go true false i j k = numbers (le_of_lt (i tt))
      go false true i j k = absurd (earlier (k tt) (j tt))
      go false false i j k = at_limit

  -- a value over the limit is not under it
  pub not_under : {a : Float} → Rising limit a → T (not (lt a limit))
  unfolding lt
  not_under (to_nan p) = tt
  not_under (to_endless p) = tt
  not_under (numbers {n = m} {d = e} h) = not_T (ltb (m * up e * down g) (n * up g * down e)) (λ k. let l = ltb→lt (m * up e * down g) (n * up g * down e) k in omega arith)

-- the larger of it and 0
pub max_plus : (v : Float) → T (plus v) → maxf32 v zero32 ≡ v
unfolding maxf32 lt of_bits
max_plus nan p = refl
max_plus (inf true) p = absurd p
max_plus (inf false) p = refl
max_plus (fin true m e) p = absurd p
max_plus (fin false m e) p = go (ltb (m * up e * 1) (0 * 1 * down e)) (ltb→lt (m * up e * 1) (0 * 1 * down e))
  where
    go : (b : Bool) → (T b → m * up e * 1 < 0 * 1 * down e) → cond b (fin false 0 (pos 0)) (fin false m e) ≡ fin false m e
    go true g = absurd (let l = g tt in omega arith)
    go false g = refl
