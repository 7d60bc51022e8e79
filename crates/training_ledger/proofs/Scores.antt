-- Each score of the load is zero, or at least 2 ^ -24 and below 1, and so of the ledger's sizes. Assumes nothing.
use mathlib.Core.Path.{◌≡◌, refl, ap}
use mathlib.Core.Bool.{true, false}
use mathlib.Core.Logic.{◌⊎◌, inl, inr}
use mathlib.Core.List.{List, [], ◌∷◌}
use Prim.Native.Nat.{ℕ, zero, suc, ◌*◌, ◌^◌, ◌≤◌, ◌<◌}
use native.Mathlib.Nat.{zero-lt-suc, mod-lt, mul-le-mul_right}
use native.Mathlib.Omega.{arith}
use lib.Dec.{T}
use lib.ListN.{length}
use lib.Ieee.{Float, nan, inf, fin, binary32, fits, round}
use lib.Ieee.Exact.{HasValue}
use lib.Ieee.Positive.{num, den, den_pos, value→cross}
use lib.Ieee.Scale.{finite}
use Rattle.ledger.specs.Fractions.{plain, plus_zero}
use Rattle.watch_ledger.specs.Statement.{ZeroOrSized}
use Rattle.watch_ledger.proofs.Sizes.{zero_score, plain_value}
use Rattle.training_scores.specs.Recurrence.{next, top, score, scores}
use Rattle.training_scores.proofs.Exactness.{exact}
use Rattle.training_ledger.specs.Statement.{Positive}

-- A float that is k / 2 ^ 24.
positive : (x : Float) (k : ℕ) → 0 < k → k < 2 ^ 24 → HasValue x false k (2 ^ 24) → Positive x
positive x k p h v =
    let e : num x * 2 ^ 24 ≡ k * den x = value→cross x k (2 ^ 24) v in
    let low : 1 * den x ≤ k * den x = mul-le-mul_right (den x) p in
    let high : k * den x ≤ 0xff_ffff * den x = mul-le-mul_right (den x) (omega arith) in
    record {
      least = omega arith;
      below = omega (arith, den_pos x);
      sized = record { plain = plain_value x k (2 ^ 24) v; least = omega arith; most = omega arith };
    }

zero_part : round binary32 false 0 (2 ^ 24) ≡ plus_zero
unfolding round
zero_part = refl

by_part : (k : ℕ) → k < 2 ^ 24 → HasValue (round binary32 false k (2 ^ 24)) false k (2 ^ 24)
    → (round binary32 false k (2 ^ 24) ≡ plus_zero) ⊎ Positive (round binary32 false k (2 ^ 24))
by_part zero h v = inl zero_part
by_part (suc k) h v = inr (positive (round binary32 false (suc k) (2 ^ 24)) (suc k) (zero-lt-suc k) h v)

pub sizes : (state : ℕ) → state < 2 ^ 64 → (score state ≡ plus_zero) ⊎ Positive (score state)
unfolding score
sizes state h = let e = exact state h in by_part (top state) e.bits e.value

-- What is needed of a score, and all scores of a load.
pub record Sound (x : Float) : Type 0 where
  pub held : T (fits binary32 x)
  pub finite : T (finite x)
  pub size : ZeroOrSized x

abbrev pub AllSound : List Float → Type 0
AllSound [] = Unit
AllSound (x ∷ xs) = Sound x × AllSound xs

plain_finite : (x : Float) → T (plain x) → T (finite x)
plain_finite nan p = absurd p
plain_finite (inf s) p = absurd p
plain_finite (fin true m e) p = absurd p
plain_finite (fin false m e) p = tt

size : (x : Float) → (x ≡ plus_zero) ⊎ Positive x → ZeroOrSized x
size x (inl e) = inl (zero_score x e)
size x (inr p) = inr p.sized

sound : (state : ℕ) → state < 2 ^ 64 → Sound (score state)
sound state h =
    let e = exact state h in
    record {
      held = e.held;
      finite = plain_finite (score state) (plain_value (score state) (top state) (2 ^ 24) e.value);
      size = size (score state) (sizes state h);
    }

next_state : (state : ℕ) → next state < 2 ^ 64
unfolding next
next_state state = mod-lt _ (omega arith)

pub all_sound : (seed count : ℕ) → AllSound (scores seed count)
unfolding scores
all_sound seed zero = tt
all_sound seed (suc count) = (sound (next seed) (next_state seed), all_sound (next seed) count)

pub as_many : (seed count : ℕ) → length (scores seed count) ≡ count
unfolding scores
as_many seed zero = refl
as_many seed (suc count) = ap suc (as_many (next seed) count)
