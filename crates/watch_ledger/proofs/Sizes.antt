-- Plus zero is a zero score, and a float that is a fraction not below zero is one that the ledger reads. Assumes nothing.
use mathlib.Core.Path.{◌≡◌, sym, subst}
use mathlib.Core.Bool.{true, false, true≢false}
use Prim.Native.Nat.{ℕ}
use lib.Dec.{T}
use lib.Ieee.{Float, nan, inf, fin, eq}
use lib.Ieee.Exact.{HasValue}
use Rattle.ledger.specs.Fractions.{plain, plus_zero}

zero_equal : T (eq plus_zero plus_zero)
unfolding eq
zero_equal = tt

pub zero_score : (x : Float) → x ≡ plus_zero → T (eq x plus_zero)
zero_score x e = subst (λ (y : Float). T (eq y plus_zero)) (sym e) zero_equal

pub plain_value : (x : Float) (a c : ℕ) → HasValue x false a c → T (plain x)
plain_value nan a c v = absurd v
plain_value (inf s) a c v = absurd v
plain_value (fin true m e) a c v = absurd (true≢false v.0)
plain_value (fin false m e) a c v = tt
