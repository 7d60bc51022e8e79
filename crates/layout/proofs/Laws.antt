-- What callers use of the definitions: how long the bytes are, and that a state comes back from its bytes. Assumes nothing.
use Rattle.std.proofs.Common.{◌≡◌, ℕ, ◌+◌, ◌-◌, ◌*◌, ◌/◌, ◌%◌, ◌<◌, Bool, true, false, T, length, ℤ, pos, negsuc, refl, ap, ◌∙◌, ap₂, mod-eq_of_lt, div-add-mod', arith, le-ltb, lt-ltb}
use native.Mathlib.Nat.{div-div-eq-div-mul}
use lib.Signed.{mag}
use lib.Ieee.{Float, binary32, binary64, fits, of_bits, to_bits}
use lib.Ieee.Bits.{of_bits-to_bits, to_bits-lt}
use Rattle.deviation.specs.declared.Deviation.{Deviation}
use Rattle.basicthresholder.specs.declared.BasicThresholder.{BasicThresholder}
use Rattle.layout.specs.Places.{deviation_length, thresholder_length}
use Rattle.layout.specs.Numbers.{le4, le8, bytes4, bytes8, signed, unsigned, f32_at, f64_at, i32_at, flag_at, f32_bytes, f64_bytes, i32_bytes, flag_bytes}
use Rattle.layout.specs.States.{joined, deviation_at, decode_deviation, decode_thresholder, encode_deviation, encode_thresholder}
use Rattle.layout.specs.Fits.{DeviationFits, ThresholderFits}

-- ---- how many bytes.
pub deviation_length_lem : (d : Deviation) → length (encode_deviation d) ≡ deviation_length
unfolding joined encode_deviation f64_bytes i32_bytes bytes8 bytes4
deviation_length_lem d = refl

pub thresholder_length_lem : (s : BasicThresholder) → length (encode_thresholder s) ≡ thresholder_length
unfolding joined encode_thresholder encode_deviation f32_bytes f64_bytes i32_bytes flag_bytes bytes8 bytes4
thresholder_length_lem s = refl

-- ---- a number comes back from its bytes.
pub le4_back : (n : ℕ) → n < 0x1_0000_0000 → le4 (bytes4 n) 0 ≡ n
unfolding le4 bytes4
le4_back n h =
    let first = div-add-mod' n 0x100 in
    let second = rw (div-div-eq-div-mul n 0x100 0x100) at (div-add-mod' (n / 0x100) 0x100) in
    let third = rw (div-div-eq-div-mul n 0x1_0000 0x100) at (div-add-mod' (n / 0x1_0000) 0x100) in
    let top : n / 0x100_0000 < 0x100 = omega arith in
    rw (mod-eq_of_lt top) (omega arith)

pub le8_back : (n : ℕ) → n < 0x1_0000_0000_0000_0000 → le8 (bytes8 n) 0 ≡ n
unfolding le8 le4 bytes8 bytes4
le8_back n h =
    ap₂ (λ (a b : ℕ). a + 0x1_0000_0000 * b) (le4_back (n % 0x1_0000_0000) (omega arith)) (le4_back (n / 0x1_0000_0000) (omega arith)) ∙ omega arith

unsigned_small : (z : ℤ) → mag z < 0x8000_0000 → unsigned z < 0x1_0000_0000
unfolding unsigned
unsigned_small (pos n) h = omega arith
unsigned_small (negsuc n) h = omega arith

signed_back : (z : ℤ) → mag z < 0x8000_0000 → signed (unsigned z) ≡ z
unfolding signed unsigned
signed_back (pos n) h = rw (lt-ltb n 0x8000_0000 h)
signed_back (negsuc n) h = rw (le-ltb (0xffff_ffff - n) 0x8000_0000 (omega arith)) (ap negsuc (omega arith))

module _ (x : Float) where
  pub f32_back : T (fits binary32 x) → f32_at (f32_bytes x) 0 ≡ x
  unfolding f32_at f32_bytes
  f32_back h = ap (of_bits binary32) (le4_back (to_bits binary32 x) (to_bits-lt binary32 x h)) ∙ of_bits-to_bits binary32 x h

  pub f64_back : T (fits binary64 x) → f64_at (f64_bytes x) 0 ≡ x
  unfolding f64_at f64_bytes
  f64_back h = ap (of_bits binary64) (le8_back (to_bits binary64 x) (to_bits-lt binary64 x h)) ∙ of_bits-to_bits binary64 x h

pub i32_back : (z : ℤ) → mag z < 0x8000_0000 → i32_at (i32_bytes z) 0 ≡ z
unfolding i32_at i32_bytes
i32_back z h = ap signed (le4_back (unsigned z) (unsigned_small z h)) ∙ signed_back z h

pub flag_back : (b : Bool) → flag_at (flag_bytes b) 0 ≡ b
unfolding flag_at flag_bytes
flag_back true = refl
flag_back false = refl

-- ---- a statistic and a thresholder come back from their bytes.
pub deviation_back : (d : Deviation) → DeviationFits d → decode_deviation (encode_deviation d) ≡ d
unfolding deviation_at encode_deviation joined f64_at i32_at f64_bytes i32_bytes le8 le4 bytes8 bytes4
deviation_back d h = λ i. record {
  discount = f64_back d.discount h.discount i;
  weight = f64_back d.weight h.weight i;
  sum_squared = f64_back d.sum_squared h.squared i;
  sum = f64_back d.sum h.sum i;
  count = i32_back d.count h.count i;
}

pub thresholder_back : (s : BasicThresholder) → ThresholderFits s → decode_thresholder (encode_thresholder s) ≡ s
unfolding decode_thresholder encode_thresholder deviation_at encode_deviation joined f32_at f64_at i32_at flag_at f32_bytes f64_bytes i32_bytes flag_bytes le8 le4 bytes8 bytes4
thresholder_back s h = λ i. record {
  elasticity = f32_back s.elasticity h.elasticity i;
  count = i32_back s.count h.count i;
  score_differencing = f32_back s.score_differencing h.differencing i;
  last_score = f32_back s.last_score h.last i;
  primary_deviation = deviation_back s.primary_deviation h.primary i;
  secondary_deviation = deviation_back s.secondary_deviation h.secondary i;
  threshold_deviation = deviation_back s.threshold_deviation h.third i;
  auto_threshold = flag_back s.auto_threshold i;
  absolute_threshold = f32_back s.absolute_threshold h.absolute i;
  absolute_score_fraction = f32_back s.absolute_score_fraction h.fraction i;
  lower_threshold = f32_back s.lower_threshold h.lower i;
  factor_adjustment_threshold = f32_back s.factor_adjustment_threshold h.adjustment i;
  initial_threshold = f32_back s.initial_threshold h.initial i;
  z_factor = f32_back s.z_factor h.factor i;
}
