-- What an accepted reading gives the stages: the lengths fit the sizes, the block lies within the point, and the state's counts are none that refusal 6 is of.
-- Assumes nothing.
use Rattle.std.specs.Prelude.{Ok, Err}
use mathlib.Core.Path.{◌≡◌, refl, sym, ap, ◌∙◌, subst}
use mathlib.Core.Bool.{Bool, true, false, cond, ◌&&◌}
use mathlib.Core.List.{List}
use mathlib.Core.Logic.{◌⊎◌, inl, inr}
use Prim.Native.Nat.{ℕ, suc, ◌+◌, ◌-◌, ◌*◌, ◌/◌, ◌%◌, ◌≤◌, ◌<◌}
use native.Mathlib.Nat.{eq-or-lt_of_le, mul-le-mul_right, le_trans, le_of_eq, mul-div_cancel, mul-mod_left, mul-pos}
use native.Mathlib.Omega.{arith}
use lib.Dec.{leb, ltb, eqb}
use lib.ListN.{length}
use lib.Ieee.{Float}
use borrow.Author.Tests.{leb-true, ltb-true, eqb-true}
use Rattle.types.specs.declared.Refusal.TheVariants.{Range, Length, NotFinite, ValuesSeen, Count}
use Rattle.divector.specs.DiVector.{max_gap_contribution}
use Rattle.divector.proofs.Laws as DiVectorLaws
use Rattle.descriptor.specs.Checks.{sizes_ok, dimension, range_ok, lengths_of, points_ok, rows_ok, neighbours_ok, lengths_ok, finite_ok, is_later, seen_ok, answer_of}
use Rattle.descriptor.specs.Lent.{Lent}
use Rattle.descriptor.specs.declared.Reading.{Reading}
use Rattle.descriptor.specs.declared.LastDescriptor.{LastDescriptor}
use Rattle.descriptor.specs.declared.Lengths.{Lengths}
use Rattle.descriptor.proofs.Bounds.{both, sizes, product_fits, dimension_is, last_points}
use Rattle.detection.specs.Judging.{gap_of, block_of, gap, block, start}
use Rattle.detection.specs.Steps.{Correctable, Accepting, Branching, Writing}
use Rattle.types.specs.Refusals.{Answer}

-- The tests that passed, of an answer that is no refusal.
record Passed (a c d e f : Bool) : Type 0 where
  range : a ≡ true
  lengths : c ≡ true
  finite : d ≡ true
  seen : e ≡ true
  counts : f ≡ true

passed : (a c d e f : Bool)
    → cond {A = Answer} a (cond c (cond d (cond e (cond f (Ok tt) (Err Count)) (Err ValuesSeen)) (Err NotFinite)) (Err Length)) (Err Range) ≡ Ok tt → Passed a c d e f
passed true true true true true h = record { range = refl; lengths = refl; finite = refl; seen = refl; counts = refl }
passed true true true true false h = absurd (let z : ◌≡◌ {A = ℕ} 0 1 = cc in omega arith)
passed true true true false f h = absurd (let z : ◌≡◌ {A = ℕ} 0 1 = cc in omega arith)
passed true true false e f h = absurd (let z : ◌≡◌ {A = ℕ} 0 1 = cc in omega arith)
passed true false d e f h = absurd (let z : ◌≡◌ {A = ℕ} 0 1 = cc in omega arith)
passed false c d e f h = absurd (let z : ◌≡◌ {A = ℕ} 0 1 = cc in omega arith)

-- The buffers that are D long.
record Points (d : ℕ) (n : Lengths) : Type 0 where
  of_point : n.point ≡ d
  of_high : n.high ≡ d
  of_low : n.low ≡ d
  of_median : n.median ≡ d
  of_expected : n.expected ≡ d
  of_out_high : n.out_high ≡ d
  of_out_low : n.out_low ≡ d

points : (d : ℕ) (n : Lengths) → points_ok d n ≡ true → Points d n
unfolding points_ok
points d n q =
    let p₁ = both (eqb n.point d) _ q in
    let p₂ = both (eqb n.high d) _ p₁.1 in
    let p₃ = both (eqb n.low d) _ p₂.1 in
    let p₄ = both (eqb n.median d) _ p₃.1 in
    let p₅ = both (eqb n.ideal_high d) _ p₄.1 in
    let p₆ = both (eqb n.ideal_low d) _ p₅.1 in
    let p₇ = both (eqb n.expected d) _ p₆.1 in
    let p₈ = both (eqb n.out_high d) (eqb n.out_low d) p₇.1 in
    record {
      of_point = eqb-true n.point d p₁.0;
      of_high = eqb-true n.high d p₂.0;
      of_low = eqb-true n.low d p₃.0;
      of_median = eqb-true n.median d p₄.0;
      of_expected = eqb-true n.expected d p₇.0;
      of_out_high = eqb-true n.out_high d p₈.0;
      of_out_low = eqb-true n.out_low d p₈.1;
    }

-- A reading that is seen later than the last anomaly has a gap.
gap_above : (n : ℕ) (h : Bool) (m : ℕ) → seen_ok n h m ≡ true → 0 < gap_of n h m
unfolding seen_ok is_later gap_of
gap_above n true m q =
    let p = both (leb 1 n) (leb n 16777216 && ltb m n) q in
    let r = both (leb n 16777216) (ltb m n) p.1 in
    let k = ltb-true m n r.1 in
    omega arith
gap_above n false m q = let p = both (leb 1 n) (leb n 16777216 && true) q in let k = leb-true 1 n p.0 in omega arith

-- The block of an accepted search, in a pair of whole blocks.
block_within : (hs ls : List Float) (shingle base g : ℕ) → length hs ≡ shingle * base → length hs ≡ length ls → 0 < shingle → 0 < base → 0 < g
    → block_of (max_gap_contribution hs ls base g) < shingle
unfolding block_of
block_within hs ls shingle base g long same s-pos b-pos g-pos =
    let l-pos : 0 < length hs = subst (λ (n : ℕ). 0 < n) (sym long) (mul-pos s-pos b-pos) in
    let whole : length hs % base ≡ 0 = ap (λ (n : ℕ). n % base) long ∙ mul-mod_left shingle base in
    let count : length hs / base ≡ shingle = ap (λ (n : ℕ). n / base) long ∙ mul-div_cancel shingle b-pos in
    let a = DiVectorLaws.answered hs ls base g (record { alike = same; gapped = g-pos; based = b-pos; long = l-pos; whole = whole }) in
    let k = DiVectorLaws.chosen hs ls base g a in
    subst (λ (n : ℕ). block_of (max_gap_contribution hs ls base g) < n) count (subst (λ (m : _). block_of m < length hs / base) (sym a) k.1)

row_inside : (k shingle base : ℕ) → k < shingle → k * base + base ≤ shingle * base
row_inside k shingle base h =
    let p : (k + 1) * base ≤ shingle * base = mul-le-mul_right base (let q : k + 1 ≤ shingle = omega arith in q) in
    omega arith

-- A row of whole rows is the last of them, or ends where the last begins or before.
row_apart : (k shingle base : ℕ) → k < shingle → (k * base + base ≡ shingle * base) ⊎ (k * base + base ≤ shingle * base - base)
row_apart k shingle base h = go (eq-or-lt_of_le h)
  where
    go : (suc k ≡ shingle) ⊎ (suc k < shingle) → (k * base + base ≡ shingle * base) ⊎ (k * base + base ≤ shingle * base - base)
    go (inl e) = let p : (k + 1) * base ≡ shingle * base = ap (λ (n : ℕ). n * base) (let q : k + 1 ≡ shingle = omega arith in q) in inl (omega arith)
    go (inr i) = let p : (k + 2) * base ≤ shingle * base = mul-le-mul_right base (let q : k + 2 ≤ shingle = omega arith in q) in inr (omega arith)

module _ (r : Reading) (l : LastDescriptor) (b : Lent) (state_base e h w : ℕ) (ok : Bool) (accepted : answer_of r l b e h w state_base ok ≡ Ok tt) where
  tests : Passed (range_ok r.shingle_size r.base_dimension state_base) (lengths_ok r l (lengths_of b e h w)) (finite_ok r l b) (seen_ok r.values_seen l.has_anomaly l.anomaly.values_seen) ok
  unfolding answer_of
  tests = passed _ _ _ _ _ accepted

  sized : sizes_ok r.shingle_size r.base_dimension ≡ true
  unfolding range_ok
  sized = (both (sizes_ok r.shingle_size r.base_dimension) (eqb r.base_dimension state_base) tests.range).0

  pub in_range : range_ok r.shingle_size r.base_dimension state_base ≡ true
  in_range = tests.range

  pub same_base : r.base_dimension ≡ state_base
  unfolding range_ok
  same_base = eqb-true r.base_dimension state_base (both (sizes_ok r.shingle_size r.base_dimension) (eqb r.base_dimension state_base) tests.range).1

  pub counts_ok : ok ≡ true
  counts_ok = tests.counts

  d : ℕ
  d = dimension r.shingle_size r.base_dimension

  product : d ≡ r.shingle_size * r.base_dimension
  unfolding d
  product = dimension_is r.shingle_size r.base_dimension sized

  record Fits : Type 0 where
    of_point : length b.point ≡ d
    of_high : length b.high ≡ d
    of_low : length b.low ≡ d
    of_median : length b.median ≡ d
    of_expected : e ≡ d
    of_out_high : h ≡ d
    of_out_low : w ≡ d
    last : l.has_anomaly ≡ true → (length b.last_expected ≡ d) × (length b.last_anomalous ≡ d)

  fits : Fits
  unfolding lengths_ok lengths_of d
  fits =
      let n = lengths_of b e h w in
      let p₁ = both (points_ok d n) _ tests.lengths in
      let p₂ = both (rows_ok r.base_dimension n) _ p₁.1 in
      let p₃ = both (neighbours_ok d (length b.neighbours)) _ p₂.1 in
      let of = points d n p₁.0 in
      record {
        of_point = of.of_point;
        of_high = of.of_high;
        of_low = of.of_low;
        of_median = of.of_median;
        of_expected = of.of_expected;
        of_out_high = of.of_out_high;
        of_out_low = of.of_out_low;
        last = last_points l.has_anomaly d (length b.last_expected) (length b.last_anomalous) p₃.1;
      }

  gapped : 0 < gap r l b
  unfolding gap
  gapped = gap_above r.values_seen l.has_anomaly l.anomaly.values_seen tests.seen

  block_below : block r l b < r.shingle_size
  unfolding block gap
  block_below =
      let z = sizes r.shingle_size r.base_dimension sized in
      let n = fits in
      block_within b.high b.low r.shingle_size r.base_dimension (gap r l b) (n.of_high ∙ product) (n.of_high ∙ sym n.of_low) z.shingle_least z.base_least gapped

  inside : start r l b + r.base_dimension ≤ length b.point
  unfolding start
  inside = le_trans (row_inside (block r l b) r.shingle_size r.base_dimension block_below) (le_of_eq (sym (fits.of_point ∙ product)))

  apart : (start r l b + r.base_dimension ≡ length b.point) ⊎ (start r l b + r.base_dimension ≤ length b.point - r.base_dimension)
  unfolding start
  apart =
      subst (λ (n : ℕ). (block r l b * r.base_dimension + r.base_dimension ≡ n) ⊎ (block r l b * r.base_dimension + r.base_dimension ≤ n - r.base_dimension))
      (sym (fits.of_point ∙ product))
      (row_apart (block r l b) r.shingle_size r.base_dimension block_below)

  pub branching : Branching r l b
  branching =
      let z = sizes r.shingle_size r.base_dimension sized in
      let n = fits in
      let k = block_below in
      let m = z.shingle_most in
      let long = n.of_point in
      record {
        shingle_most = z.shingle_most;
        base_most = z.base_most;
        point_most = subst (λ (x : ℕ). x ≤ 1024) (sym (long ∙ product)) (product_fits r.shingle_size r.base_dimension sized);
        expecting = record {
          high_long = n.of_high ∙ sym long;
          low_long = n.of_low ∙ sym long;
          median_long = n.of_median ∙ sym long;
          out_long = refl;
          some = z.base_least;
          few = z.base_most;
          inside = inside;
        };
        block_small = omega arith;
        apart = apart;
      }

  correctable : Correctable r l b
  correctable =
      let z = sizes r.shingle_size r.base_dimension sized in
      let n = fits in
      let long = n.of_point in
      record {
        point_most = branching.point_most;
        correcting = record {
          sizes = record { some = z.shingle_least; few = z.shingle_most; wide = z.base_least; narrow = z.base_most; long = long ∙ product };
          later = gap_above r.values_seen l.has_anomaly l.anomaly.values_seen tests.seen;
          out_long = refl;
          expected_long = λ q. (n.last q).0 ∙ sym long;
          anomalous_long = λ q. (n.last q).1 ∙ sym long;
        };
      }

  pub writing : Writing b e h w
  writing =
      let n = fits in
      record {
        expected_long = n.of_expected ∙ sym n.of_point;
        low_long = n.of_high ∙ sym n.of_low;
        out_high_long = n.of_high ∙ sym n.of_out_high;
        out_low_long = n.of_high ∙ sym n.of_out_low;
      }

-- What the way up to the noise pass asks, by the answer.
pub accepting : (r : Reading) (l : LastDescriptor) (b : Lent) (state_base e h w : ℕ) (ok : Bool) (a : Answer) → a ≡ answer_of r l b e h w state_base ok
    → Accepting r l b a
accepting r l b state_base e h w ok (Ok _) said = correctable r l b state_base e h w ok (sym said)
accepting r l b state_base e h w ok (Err why) said = tt
