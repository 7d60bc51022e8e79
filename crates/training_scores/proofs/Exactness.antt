-- A score is exactly the top 24 bits of its state over 2 ^ 24, and the quotient of the two as floats. Assumes nothing.
use Rattle.std.proofs.Common.{◌≡◌, ℕ, ◌*◌, ◌^◌, ◌<◌, false, pos, sym, lt_of_lt_of_le, mul_assoc, div-lt_iff_lt-mul, arith, pow_mono, shl_lt}
use lib.Ieee.{Float, nan, inf, fin, binary32, round, of_int, of_bits, div, up, down}
use lib.Ieee.Fits.{round-fits, down_pos}
use lib.Ieee.Exact.{HasValue, round_exact}
use lib.Ieee.Back.{round_whole}
use lib.Ieee.Scale.{round_same}
use Rattle.training_scores.specs.Recurrence.{top, score}
use Rattle.training_scores.specs.Exact.{ExactScores}

top_small : (state : ℕ) → state < 2 ^ 64 → top state < 2 ^ 24
unfolding top
top_small state h = (div-lt_iff_lt-mul {k = 2 ^ 40} {x = state} {y = 2 ^ 24} (omega arith)).1 h

-- A whole number of at most 24 bits, over 2 ^ 24.
part_value : (k : ℕ) → k < 2 ^ 24 → HasValue (round binary32 false k (2 ^ 24)) false k (2 ^ 24)
part_value k h =
    round_exact binary32 false k (2 ^ 24) k 125 (omega arith) h (lt_of_lt_of_le (shl_lt 24 125 h) (pow_mono {i = 149} {j = 277} (omega arith))) (sym (mul_assoc k (2 ^ 125) (2 ^ 24)))

pub exact : ExactScores
unfolding score
exact state h = record {
  bits = top_small state h;
  held = round-fits binary32 false (top state) (2 ^ 24);
  value = part_value (top state) (top_small state h);
}

-- The quotient of a whole number's float by that of 2 ^ 24.
divided : (x : Float) (k : ℕ) → HasValue x false k 1 → div binary32 x (fin false 1 (pos 24)) ≡ round binary32 false k (2 ^ 24)
unfolding div
divided nan k v = absurd v
divided (inf s) k v = absurd v
divided (fin s m e) k v = rw v.0 (round_same binary32 false (m * up e * 1) (1 * up (pos 24) * down e) k (2 ^ 24) (omega (arith, down_pos e)) (omega arith) (omega (arith, v.1)))

pub quotient : (k : ℕ) → k < 2 ^ 24 → div binary32 (of_int binary32 (pos k)) (of_bits binary32 0x4B80_0000) ≡ round binary32 false k (2 ^ 24)
unfolding of_int of_bits
quotient k h = divided (round binary32 false k 1) k (round_whole binary32 false k (omega arith))
