-- Cauchy-Schwarz along the ledger: sum² ≤ squares × weight after any scores, so that the ledger's variance is never cut off at 0. Assumes nothing.
use mathlib.Core.Path.{◌≡◌, sym, ◌∙◌, subst}
use Prim.Native.Nat.{ℕ, suc, ◌+◌, ◌-◌, ◌*◌, ◌≤◌, ◌<◌, zero-le}
use native.Mathlib.Nat.{mul-le-mul_right, mul-pos, zero-lt-suc, one-mul, mul-one}
use native.Mathlib.Omega.{arith}
use mathlib.Core.Bool.{Bool, true, false, not}
use lib.Dec.{T, leb, leb→le, nleb→lt}
use mathlib.Core.List.{List, [], ◌∷◌}
use lib.Ieee.{Float}
use lib.Ieee.Positive.{den_pos}
use Rattle.ledger.specs.Fractions.{Fraction, times, Le, unit, divided_by, fraction_of}
use Rattle.ledger.specs.Ledger.{moved, factor, Ledger, blank, enter, mean}
use Rattle.ledger.specs.Faithful.{after}
use Rattle.ledger.proofs.Absolute.{sq_le}
use Rattle.ledger.proofs.CommonUnit.{Parts, at_le, le_at, at_scale, at_times, at_plus, unit_of, In, here, there, share, share_at}
use Rattle.ledger.proofs.Factor.{factor_den}

-- (q - w)² ≥ 0 without subtraction
am_gm : (q w : ℕ) → 4 * (q * w) ≤ (q + w) * (q + w)
am_gm q w = go (leb q w) (leb→le q w) (nleb→lt q w)
  where
    at : (a d : ℕ) → 4 * (a * (a + d)) ≤ (a + (a + d)) * (a + (a + d))
    at a d = omega arith

    go : (b : Bool) → (T b → q ≤ w) → (T (not b) → w < q) → 4 * (q * w) ≤ (q + w) * (q + w)
    go true h k = (let l : q ≤ w = h tt in let e : q + (w - q) ≡ w = omega arith in subst (λ (x : ℕ). 4 * (q * x) ≤ (q + x) * (q + x)) e (at q (w - q)))
    go false h k = (let l : w < q = k tt in let e : w + (q - w) ≡ q = omega arith in let i : 4 * (w * q) ≤ (w + q) * (w + q) = subst (λ (x : ℕ). 4 * (w * x) ≤ (w + x) * (w + x)) e (at w (q - w)) in omega arith)

-- 2 s x ≤ q + x² w from s² ≤ q w, in whole numbers with the denominators out
cross : (s q w x : ℕ) → s * s ≤ q * w → 2 * (s * x) ≤ q + x * x * w
cross s q w x h =
    sq_le (2 * (s * x)) (q + x * x * w)
    (let a : s * s * (4 * (x * x)) ≤ q * w * (4 * (x * x)) = mul-le-mul_right (4 * (x * x)) h in
    let b : 4 * (q * (x * x * w)) ≤ (q + x * x * w) * (q + x * x * w) = am_gm q (x * x * w) in
    omega arith)

step_in : (D s q w f x : ℕ) → s * s ≤ q * w → (s * f + x * D) * (s * f + x * D) ≤ (q * f + x * x) * (w * f + D * D)
step_in D s q w f x h =
    let a : s * s * (D * D) ≤ q * w * (D * D) = mul-le-mul_right (D * D) h in
    let b : s * D * (s * D) ≤ q * (D * D) * w = (let i = a in omega arith) in
    let c : 2 * (s * D * x) ≤ q * (D * D) + x * x * w = cross (s * D) (q * (D * D)) w x b in
    let e : 2 * (s * D * x) * f ≤ (q * (D * D) + x * x * w) * f = mul-le-mul_right f c in
    let g : s * s * (f * f) ≤ q * w * (f * f) = mul-le-mul_right (f * f) h in
    omega arith

module _ (s q w f v : Fraction) (hs : 0 < s.den) (hq : 0 < q.den) (hw : 0 < w.den) (hf : 0 < f.den) (hv : 0 < v.den) where
  vs : List Fraction
  vs = s ∷ q ∷ w ∷ f ∷ v ∷ []

  D_pos : 0 < unit_of vs
  unfolding vs unit_of
  D_pos = mul-pos hs (mul-pos hq (mul-pos hw (mul-pos hf (mul-pos hv (zero-lt-suc 0)))))

  is : In s vs
  unfolding vs
  is = here

  iq : In q vs
  unfolding vs
  iq = there here

  iw : In w vs
  unfolding vs
  iw = there (there here)

  if' : In f vs
  unfolding vs
  if' = there (there (there here))

  iv : In v vs
  unfolding vs
  iv = there (there (there (there here)))

  moved_at : (x y : Fraction) (a c : ℕ) → Parts (unit_of vs) x a → Parts (unit_of vs * unit_of vs) y c → Parts (unit_of vs * unit_of vs) (moved f x y) (a * share if' + c)
  moved_at x y a c e g = at_plus (unit_of vs * unit_of vs) (times x f) y (a * share if') c (at_times (unit_of vs) (unit_of vs) x f a (share if') e (share_at if')) g

  pub schwarz_step : Le (times s s) (times q w) → Le (times (moved f s v) (moved f s v)) (times (moved f q (times v v)) (moved f w unit))
  schwarz_step h =
      let D = unit_of vs in
      let k : share is * share is ≤ share iq * share iw = at_le (D * D) (times s s) (times q w) (share is * share is) (share iq * share iw) (mul-pos hs hs) (mul-pos hq hw) (at_times D D s s (share is) (share is) (share_at is) (share_at is)) (at_times D D q w (share iq) (share iw) (share_at iq) (share_at iw)) h in
      let a = moved_at s v (share is) (share iv * D) (share_at is) (at_scale D D v (share iv) (share_at iv)) in
      let b = moved_at q (times v v) (share iq) (share iv * share iv) (share_at iq) (at_times D D v v (share iv) (share iv) (share_at iv) (share_at iv)) in
      let c = moved_at w unit (share iw) (D * D) (share_at iw) (one-mul (D * D) ∙ sym (mul-one (D * D))) in
      le_at (D * D * (D * D)) (times (moved f s v) (moved f s v)) (times (moved f q (times v v)) (moved f w unit))
      ((share is * share if' + share iv * D) * (share is * share if' + share iv * D)) ((share iq * share if' + share iv * share iv) * (share iw * share if' + D * D)) (mul-pos (mul-pos D_pos D_pos) (mul-pos D_pos D_pos))
      (at_times (D * D) (D * D) (moved f s v) (moved f s v) (share is * share if' + share iv * D) (share is * share if' + share iv * D) a a)
      (at_times (D * D) (D * D) (moved f q (times v v)) (moved f w unit) (share iq * share if' + share iv * share iv) (share iw * share if' + D * D) b c)
      (step_in D (share is) (share iq) (share iw) (share if') (share iv) k)

-- ---- the ledger after any scores
pub record Sound (b : Ledger) : Type 0 where
  pub sum_den : 0 < b.sum.den
  pub squares_den : 0 < b.squares.den
  pub weight_den : 0 < b.weight.den
  -- a weight once a score is counted
  pub weight_num : 0 < b.n → 0 < b.weight.num
  pub schwarz : Le (times b.sum b.sum) (times b.squares b.weight)

sound_blank : Sound blank
sound_blank = record { sum_den = zero-lt-suc 0; squares_den = zero-lt-suc 0; weight_den = zero-lt-suc 0; weight_num = λ (h : 0 < 0). h; schwarz = zero-le }

sound_enter : (d x : Float) (b : Ledger) → Sound b → Sound (enter (fraction_of d) b (fraction_of x))
sound_enter d x b h =
    let f = factor (fraction_of d) b.n in
    let F : 0 < f.den = factor_den d b.n in
    record {
      sum_den = mul-pos (mul-pos h.sum_den F) (den_pos x);
      squares_den = mul-pos (mul-pos h.squares_den F) (mul-pos (den_pos x) (den_pos x));
      weight_den = mul-pos (mul-pos h.weight_den F) (zero-lt-suc 0);
      weight_num = λ (i : 0 < suc b.n). above (b.weight.num * f.num) (b.weight.den * f.den) (mul-pos h.weight_den F);
      schwarz = schwarz_step b.sum b.squares b.weight f (fraction_of x) h.sum_den h.squares_den h.weight_den F (den_pos x) h.schwarz;
    }
  where
    above : (a c : ℕ) → 0 < c → 0 < a * 1 + 1 * c
    above a c h = omega arith

pub sound_after : (d : Float) (xs : List Float) (b : Ledger) → Sound b → Sound (after d b xs)
sound_after d [] b h = h
sound_after d (x ∷ xs) b h = sound_after d xs (enter (fraction_of d) b (fraction_of x)) (sound_enter d x b h)

pub sound : (d : Float) (xs : List Float) → Sound (after d blank xs)
sound d xs = sound_after d xs blank sound_blank

-- mean² ≤ squares / weight
pub mean_squared : (b : Ledger) → Sound b → Le (times (mean b) (mean b)) (divided_by b.squares b.weight)
mean_squared b h = go b.sum.num b.sum.den b.squares.num b.squares.den b.weight.num b.weight.den h.schwarz
  where
    go : (s s' q q' w w' : ℕ) → s * s * (q' * w') ≤ q * w * (s' * s') → s * w' * (s * w') * (q' * w) ≤ q * w' * (s' * w * (s' * w))
    go s s' q q' w w' h = (let x : s * s * (q' * w') * (w * w') ≤ q * w * (s' * s') * (w * w') = mul-le-mul_right (w * w') h in omega arith)
