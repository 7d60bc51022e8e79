-- The relative index fits an i32. Assumes nothing.
use mathlib.Core.Bool.{Bool, true, false, cond}
use Prim.Native.Nat.{ℕ, zero, suc, ◌+◌, ◌-◌, ◌≤◌}
use native.Mathlib.Omega.{arith}
use lib.Dec.{ltb}
use lib.IntN.{ℤ, pos, negsuc, ◌+ℤ◌, ◌-ℤ◌}
use lib.Signed.{mag}
use mir.Syntax.{w32}
use mir.Val.{SFits}

less_size : (a c : ℕ) → mag (pos a -ℤ pos c) ≤ a + c
less_size a zero = omega arith
less_size a (suc c) = go (ltb a (suc c))
  where
    go : (t : Bool) → mag (cond t (negsuc (suc c - suc a)) (pos (a - suc c))) ≤ a + suc c
    go true = omega arith
    go false = omega arith

more_size : (z : ℤ) → mag (z +ℤ pos 1) ≤ mag z + 1
more_size (pos n) = omega arith
more_size (negsuc n) = go (ltb 1 (suc n))
  where
    go : (t : Bool) → mag (cond t (negsuc (suc n - suc 1)) (pos (1 - suc n))) ≤ n + 1
    go true = omega arith
    go false = omega arith

module _ (a c : ℕ) (h : a ≤ 1024) (k : c ≤ 64) where
  pub less_fits : SFits w32 (pos a -ℤ pos c)
  less_fits = let p = less_size a c in record { sfits = omega arith }

  pub index_fits : SFits w32 (pos a -ℤ pos c +ℤ pos 1)
  index_fits = let p = less_size a c in let q = more_size (pos a -ℤ pos c) in record { sfits = omega arith }
