-- Under, at or over the threshold: exactly one of the three, for every fraction. Assumes nothing.
use mathlib.Core.Path.{◌≡◌, sym, ap, ◌∙◌}
use mathlib.Core.Logic.{◌⊎◌, inl, inr}
use mathlib.Core.Bool.{Bool, true, false, not}
use Prim.Native.Nat.{ℕ, ◌*◌, ◌≤◌, ◌<◌, zero-le}
use native.Mathlib.Nat.{le_of_eq, le_of_lt, le_antisymm, not-le_of_lt, zero-mul, sub-eq-zero_of_le}
use native.Mathlib.Omega.{arith}
use lib.Dec.{T, leb, ltb, leb→le, nleb→lt, ltb→lt, nltb→le}
use Rattle.ledger.specs.Fractions.{Fraction, Le, Lt, Same}
use Rattle.ledger.specs.Ledger.{Ledger, mean, gap_squared, spread_squared, Under, At, Over, AtOrUnder, AtOrOver}

-- two fractions in their order
data Order (x y : Fraction) : Type 0 where
  less : Lt x y → Order x y
  same : Same x y → Order x y
  more : Lt y x → Order x y

order : (x y : Fraction) → Order x y
order x y = go (leb a c) (ltb a c) (leb→le a c) (nleb→lt a c) (ltb→lt a c) (nltb→le a c)
  where
    a : ℕ
    a = x.num * y.den

    c : ℕ
    c = y.num * x.den

    go : (s t : Bool) → (T s → a ≤ c) → (T (not s) → c < a) → (T t → a < c) → (T (not t) → c ≤ a) → Order x y
    go false t h k l m = more (k tt)
    go true true h k l m = less (l tt)
    go true false h k l m = same (le_antisymm (h tt) (m tt))

-- a y under the mean is 0 over it
no_gap : (b : Ledger) (y : Fraction) → Lt y (mean b) → (gap_squared b y).num ≡ 0
no_gap b y h = ap (λ (k : ℕ). k * k) (sub-eq-zero_of_le (le_of_lt h))

none_over : (z : Fraction) (b : Ledger) (y : Fraction) → Lt y (mean b) → Over z b y → ⊥
none_over z b y h o = go ((spread_squared z b).num * (gap_squared b y).den) (gap_squared b y).num (spread_squared z b).den (no_gap b y h) o
  where
    go : (p q r : ℕ) → q ≡ 0 → p < q * r → ⊥
    go p q r e l = (let i : q * r ≡ 0 = ap (λ (k : ℕ). k * r) e ∙ zero-mul r in omega arith)

pub some_side : (z : Fraction) (b : Ledger) (y : Fraction) → Under z b y ⊎ (At z b y ⊎ Over z b y)
some_side z b y = go (order y (mean b)) (order (gap_squared b y) (spread_squared z b))
  where
    side : Le (mean b) y → Order (gap_squared b y) (spread_squared z b) → Under z b y ⊎ (At z b y ⊎ Over z b y)
    side h (less l) = inl (inr l)
    side h (same e) = inr (inl (h, e))
    side h (more l) = inr (inr l)

    go : Order y (mean b) → Order (gap_squared b y) (spread_squared z b) → Under z b y ⊎ (At z b y ⊎ Over z b y)
    go (less l) o = inl (inl l)
    go (same e) o = side (le_of_eq (sym e)) o
    go (more l) o = side (le_of_lt l) o

pub not_under_at : (z : Fraction) (b : Ledger) (y : Fraction) → Under z b y → At z b y → ⊥
not_under_at z b y (inl l) a = not-le_of_lt l a.0
not_under_at z b y (inr l) a = not-le_of_lt l (le_of_eq (sym a.1))

pub not_under_over : (z : Fraction) (b : Ledger) (y : Fraction) → Under z b y → Over z b y → ⊥
not_under_over z b y (inl l) o = none_over z b y l o
not_under_over z b y (inr l) o = not-le_of_lt l (le_of_lt o)

pub not_at_over : (z : Fraction) (b : Ledger) (y : Fraction) → At z b y → Over z b y → ⊥
not_at_over z b y a o = not-le_of_lt o (le_of_eq a.1)

-- ---- "at or under" and "at or over" are what they say
pub at_or_under : (z : Fraction) (b : Ledger) (y : Fraction) → AtOrUnder z b y → Under z b y ⊎ At z b y
at_or_under z b y h = go (some_side z b y)
  where
    go : Under z b y ⊎ (At z b y ⊎ Over z b y) → Under z b y ⊎ At z b y
    go (inl u) = inl u
    go (inr (inl a)) = inr a
    go (inr (inr o)) = absurd (not-le_of_lt o h)

pub under_or_at : (z : Fraction) (b : Ledger) (y : Fraction) → Under z b y ⊎ At z b y → AtOrUnder z b y
under_or_at z b y (inl (inl l)) = le_of_eq_zero (gap_squared b y).num (spread_squared z b).den (no_gap b y l)
  where
    le_of_eq_zero : (q r : ℕ) → q ≡ 0 → q * r ≤ (spread_squared z b).num * (gap_squared b y).den
    le_of_eq_zero q r e = rw (e, zero-mul r) zero-le
under_or_at z b y (inl (inr l)) = le_of_lt l
under_or_at z b y (inr a) = le_of_eq a.1

pub at_or_over : (z : Fraction) (b : Ledger) (y : Fraction) → AtOrOver z b y → At z b y ⊎ Over z b y
at_or_over z b y h = go (some_side z b y)
  where
    go : Under z b y ⊎ (At z b y ⊎ Over z b y) → At z b y ⊎ Over z b y
    go (inl (inl l)) = absurd (not-le_of_lt l h.0)
    go (inl (inr l)) = absurd (not-le_of_lt l h.1)
    go (inr o) = o

pub over_or_at : (z : Fraction) (b : Ledger) (y : Fraction) → At z b y ⊎ Over z b y → AtOrOver z b y
over_or_at z b y (inl a) = (a.0, le_of_eq (sym a.1))
over_or_at z b y (inr o) = (go (order y (mean b)), le_of_lt o)
  where
    go : Order y (mean b) → Le (mean b) y
    go (less l) = absurd (none_over z b y l o)
    go (same e) = le_of_eq (sym e)
    go (more l) = le_of_lt l
