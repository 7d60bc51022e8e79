-- Parts of local work arrays that a call wrote, and what the leaves' contracts give where the lengths fit. Assumes nothing.
use mathlib.Core.Path.{◌≡◌, refl, ap, ◌∙◌}
use mathlib.Core.Bool.{Bool, true, false, cond, ◌||◌}
use mathlib.Core.List.{List, [], ◌∷◌, ◌++◌}
use Prim.Native.Nat.{ℕ, zero, suc, ◌-◌, ◌≤◌, ◌<◌}
use native.Mathlib.Nat.{le_of_suc-le-suc, not-suc-le-zero}
use native.Mathlib.Omega.{arith}
use lib.Dec.{ltb}
use lib.IntN.{ℤ}
use lib.ListN.{length, take, drop, get_or, replicate, length-drop}
use lib.Seq.{take_at, take_all}
use borrow.Author.Tests.{leb-false, lt-ltb}
use lib.Ieee.{Float}
use Rattle.corrector.specs.Corrector.{corrector_fits, apply_basic_corrector}
use Rattle.corrector.specs.Steps.{Correcting}
use Rattle.corrector.proofs.Kept.{corrects}
use Rattle.detection.specs.Judging.{is_recent}

-- The front that a call wrote, of a work array.
pub front_is : {A : Type 0} (w ys zs : List A) (d : ℕ) → length ys ≡ d → ys ≡ zs → take d (ys ++ drop d w) ≡ zs
front_is w ys zs d h e = take_at ys (drop d w) d h ∙ e

pub take_replicate : {A : Type 0} (n m : ℕ) (x : A) → n ≤ m → take n (replicate m x) ≡ replicate n x
take_replicate zero m x h = refl
take_replicate (suc n) zero x h = absurd (not-suc-le-zero h)
take_replicate (suc n) (suc m) x h = ap (λ (l : List _). x ∷ l) (take_replicate n m x (le_of_suc-le-suc h))

-- A call of the corrector on an out buffer that is as long as the point writes the corrected point.
pub corrected_is : (point gap shingle base : ℕ) (h : Bool) (e a : ℕ) (out x y : List Float) → length out ≡ point → Correcting point gap shingle base h e a point
    → x ≡ cond (corrector_fits point gap shingle base h e a (length out)) y out → x ≡ y
corrected_is point gap shingle base h e a out x y l f q =
    q ∙ ap (λ (t : Bool). cond t y out) (ap (corrector_fits point gap shingle base h e a) l ∙ corrects point gap shingle base h e a point f)

-- Nothing is corrected where the last anomaly is not recent.
pub not_recent : (point : List Float) (gap shingle base : ℕ) (h : Bool) (e a : List Float) (i : ℤ) (u t : Bool) → is_recent h gap shingle ≡ false
    → point ≡ apply_basic_corrector point gap shingle base h e a i u t
unfolding is_recent apply_basic_corrector
not_recent point gap shingle base false e a i u t k = pick (ltb shingle gap) _
  where
    pick : (q : Bool) (z : List Float) → point ≡ cond (q || true) point z
    pick true z = refl
    pick false z = refl
not_recent point gap shingle base true e a i u t k = rw (lt-ltb shingle gap (leb-false gap shingle k))

-- A part with a start, to its end.
pub tail_is : {A : Type 0} (xs : List A) (n : ℕ) → take (length xs - n) (drop n xs) ≡ drop n xs
tail_is xs n = take_all (length xs - n) (drop n xs) (simp length-drop (omega arith))

-- An element that is there does not depend on the default.
pub get_d_any : {A : Type 0} (xs : List A) (i : ℕ) (a c : A) → i < length xs → get_or xs i a ≡ get_or xs i c
get_d_any [] i a c h = absurd (not-suc-le-zero h)
get_d_any (x ∷ xs) zero a c h = refl
get_d_any (x ∷ xs) (suc i) a c h = get_d_any xs i a c (le_of_suc-le-suc h)
