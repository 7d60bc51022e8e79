-- What the entry checks give once they pass, for the judge. Assumes nothing.
use mathlib.Core.Path.{◌≡◌, refl, sym}
use mathlib.Core.Bool.{Bool, true, false, ◌&&◌, true≢false}
use Prim.Native.Nat.{ℕ, ◌*◌, ◌≤◌}
use native.Mathlib.Nat.{mul-le-mul, mul-le-mul_right, one-mul}
use native.Mathlib.Omega.{arith}
use lib.Dec.{leb, eqb}
use borrow.Author.Tests.{leb-true, eqb-true}
use Rattle.descriptor.specs.Checks.{sizes_ok, dimension, last_points_ok}

-- Two tests that passed together.
pub both : (a b : Bool) → (a && b) ≡ true → (a ≡ true) × (b ≡ true)
both true b h = (refl, h)
both false b h = absurd (true≢false (sym h))

pub record Sizes (shingle base : ℕ) : Type 0 where
  pub shingle_least : 1 ≤ shingle
  pub shingle_most : shingle ≤ 64
  pub base_least : 1 ≤ base
  pub base_most : base ≤ 16

pub sizes : (shingle base : ℕ) → sizes_ok shingle base ≡ true → Sizes shingle base
unfolding sizes_ok
sizes shingle base h =
    let p = both (leb 1 shingle) (leb shingle 64 && (leb 1 base && leb base 16)) h in
    let q = both (leb shingle 64) (leb 1 base && leb base 16) p.1 in
    let r = both (leb 1 base) (leb base 16) q.1 in
    record {
      shingle_least = leb-true 1 shingle p.0;
      shingle_most = leb-true shingle 64 q.0;
      base_least = leb-true 1 base r.0;
      base_most = leb-true base 16 r.1;
    }

pub product_fits : (shingle base : ℕ) → sizes_ok shingle base ≡ true → shingle * base ≤ 1024
product_fits shingle base h = let s = sizes shingle base h in mul-le-mul s.shingle_most s.base_most

pub dimension_is : (shingle base : ℕ) → sizes_ok shingle base ≡ true → dimension shingle base ≡ shingle * base
unfolding dimension
dimension_is shingle base h = rw h

-- A row fits a point of one row or more.
pub base_inside : (shingle base : ℕ) → 1 ≤ shingle → base ≤ shingle * base
base_inside shingle base h = rw one-mul at (mul-le-mul_right base h)

pub last_points : (h : Bool) (d e a : ℕ) → last_points_ok h d e a ≡ true → h ≡ true → (e ≡ d) × (a ≡ d)
unfolding last_points_ok
last_points true d e a q k = let p = both (eqb e d) (eqb a d) q in (eqb-true e d p.0, eqb-true a d p.1)
last_points false d e a q k = absurd (let z : ◌≡◌ {A = ℕ} 0 1 = cc in omega arith)
