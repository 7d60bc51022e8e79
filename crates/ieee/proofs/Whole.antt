-- What `floor` rounds is a whole number that the format holds, so `round` changes nothing: by the place of the value's last digit. And that number is the largest one
-- that is not above. Assumes nothing.
use Rattle.std.proofs.Common.{◌≡◌, ℕ, ◌+◌, ◌-◌, ◌*◌, ◌/◌, ◌^◌, ◌<◌, ◌≤◌, Bool, true, false, T, sym, ap, ◌∙◌, subst, inl, inr, le_trans, le_of_eq, le_of_lt, zero-lt-suc, mul_assoc, mul-le-mul_left, le-div_iff_mul-le, zero-mul, mul-one, div-le_self, div-mul-le_self, arith, pow_pos, pow-add}
use lib.Ieee.{Float, nan, inf, fin, binary32, up, down, round, fits}
use lib.Ieee.Fits.{down_pos}
use lib.Ieee.Exact.{HasValue, round_exact}
use lib.Ieee.Back.{round_whole}
use Rattle.ieee.specs.Round.{floor}
use Rattle.ieee.proofs.Rounding.{under_or_over}
use Rattle.ieee.proofs.Flooring.{cut, cut_same, cut_one, ceil_reaches, ceil_least, floor_at, at_down, at_up}
use Rattle.ieee.proofs.Values.{InUnits, in_units, Le}

same_cut : (x : Float) (s : Bool) (a c b d : ℕ) → 0 < c → 0 < d → HasValue x s a c → HasValue x s b d → cut s a c ≡ cut s b d
same_cut nan s a c b d C D v w = absurd v
same_cut (inf t) s a c b d C D v w = absurd v
same_cut (fin t m e) s a c b d C D v w = sym (cut_same s (m * up e) (down e) a c (down_pos e) C v.1) ∙ cut_same s (m * up e) (down e) b d (down_pos e) D w.1

cut_less : (s : Bool) (m d : ℕ) → 0 < d → cut s m d ≤ m
cut_less true m d D = ceil_least m d m D (le_trans (le_of_eq (sym (mul-one m))) (mul-le-mul_left m D))
cut_less false m d D = div-le_self m d

exact : (x : Float) (s : Bool) → InUnits binary32 x s → (a c : ℕ) → 0 < c → HasValue x s a c → HasValue (round binary32 s (cut s a c) 1) s (cut s a c) 1
exact x s u a c C v =
    let m = u.m in
    let i = u.i in
    elim (under_or_over i 149) [
      | inl l ↦
          let d = 149 - i in
          let e : cut s m (2 ^ d) ≡ cut s a c = same_cut x s m (2 ^ d) a c (pow_pos d) C (at_down x s m i d (down_ex i l) u.value) v in
          subst (λ (n : ℕ). HasValue (round binary32 s n 1) s n 1) e (round_whole binary32 s (cut s m (2 ^ d)) (le_trans (cut_less s m (2 ^ d) (pow_pos d)) (le_of_lt u.digits)))
      | inr g ↦
          let k = i - 149 in
          let e : m * 2 ^ k ≡ cut s a c = sym (cut_one s (m * 2 ^ k)) ∙ same_cut x s (m * 2 ^ k) 1 a c (zero-lt-suc 0) C (at_up x s m i k (up_ex i g) u.value) v in
          subst (λ (n : ℕ). HasValue (round binary32 s n 1) s n 1) e
          (round_exact binary32 s (m * 2 ^ k) 1 m i (zero-lt-suc 0) u.digits u.under (mul_assoc m (2 ^ k) (2 ^ 149) ∙ ap (λ (z : ℕ). m * z) (sym (pow-add 2 k 149) ∙ ap (λ (z : ℕ). 2 ^ z) (sym (up_ex i g))) ∙ sym (mul-one (m * 2 ^ i))))
    ]
  where
    down_ex : (i : ℕ) → i < 149 → i + (149 - i) ≡ 149
    down_ex i l = omega arith

    up_ex : (i : ℕ) → 149 ≤ i → i ≡ i - 149 + 149
    up_ex i g = omega arith

pub whole_value : (x : Float) (s : Bool) (a c : ℕ) → T (fits binary32 x) → 0 < c → HasValue x s a c → HasValue (floor x) s (cut s a c) 1
whole_value x s a c F C v = subst (λ (y : Float). HasValue y s (cut s a c) 1) (sym (floor_at x s a c C v)) (exact x s (in_units binary32 x s a c F v) a c C v)

-- ---- with the sign: the cut number is not above a / c, and no whole number ±k that is not above a / c is above it
pub cut_under : (s : Bool) (a c : ℕ) → 0 < c → Le s (cut s a c * c) s (a * 1)
cut_under false a c C = le_trans (div-mul-le_self a c) (le_of_eq (sym (mul-one a)))
cut_under true a c C = le_trans (le_of_eq (mul-one a)) (ceil_reaches a c C)

pub cut_most : (t s : Bool) (k a c : ℕ) → 0 < c → Le t (k * c) s (a * 1) → Le t (k * 1) s (cut s a c * 1)
cut_most false false k a c C h = le_trans (le_of_eq (mul-one k)) (le_trans ((le-div_iff_mul-le C).1 (le_trans h (le_of_eq (mul-one a)))) (le_of_eq (sym (mul-one (a / c)))))
cut_most false true k a c C h = (
  le_trans (mul-le-mul_left k C) h.0,
  le_trans (le_of_eq (mul-one (cut true a c))) (ceil_least a c 0 C (le_trans (le_trans (le_of_eq (sym (mul-one a))) h.1) (le_of_eq (sym (zero-mul c))))),
)
cut_most true false k a c C h = h
cut_most true true k a c C h = le_trans (le_of_eq (mul-one (cut true a c))) (le_trans (ceil_least a c k C (le_trans (le_of_eq (sym (mul-one a))) h)) (le_of_eq (sym (mul-one k))))
