-- What a call that is not refused gives: the step below it fits. Assumes nothing.
use Rattle.std.specs.Prelude.{Ok, Err}
use mathlib.Core.Path.{◌≡◌, refl, sym, ◌∙◌, subst}
use mathlib.Core.Bool.{Bool, true, false, cond}
use mathlib.Core.List.{List}
use Prim.Native.Nat.{ℕ, ◌-◌, ◌≤◌, ◌<◌}
use native.Mathlib.Omega.{arith}
use lib.Dec.{leb, eqb}
use lib.ListN.{length}
use lib.Ieee.{Float}
use borrow.Author.Tests.{leb-true, eqb-true, eqb-false}
use Rattle.types.specs.declared.Refusal.TheVariants.{ValuesSeen}
use Rattle.corrector.specs.Corrector.{expected_fits, corrector_fits}
use Rattle.corrector.proofs.Kept.{expects, corrects}
use Rattle.descriptor.specs.Checks.{sizes_ok, dimension, last_points_ok}
use Rattle.descriptor.proofs.Bounds.{both, sizes, dimension_is, base_inside, last_points}
use Rattle.calls.specs.Calls.{first_refusal, written, start_ok, expected_lengths, expected_finite, expected_answer, corrector_lengths, corrector_finite, gap_answer, corrector_answer}
use Rattle.types.specs.Refusals.{Answer}

pub record Passed (sizes lengths finite : Bool) (last : Answer) : Type 0 where
  pub of_sizes : sizes ≡ true
  pub of_lengths : lengths ≡ true
  pub of_last : last ≡ Ok tt

pub passed : (a c d : Bool) (last : Answer) → first_refusal a c d last ≡ Ok tt → Passed a c d last
unfolding first_refusal
passed true true true last h = record { of_sizes = refl; of_lengths = refl; of_last = h }
passed true true false last h = absurd (let z : ◌≡◌ {A = ℕ} 0 1 = cc in omega arith)
passed true false d last h = absurd (let z : ◌≡◌ {A = ℕ} 0 1 = cc in omega arith)
passed false c d last h = absurd (let z : ◌≡◌ {A = ℕ} 0 1 = cc in omega arith)

pub expected_fits_lem : (shingle base position : ℕ) (point high low median : List Float) (out : ℕ) → expected_answer shingle base position point high low median out ≡ Ok tt
    → expected_fits (length high) (length low) position base (length point) (length median) out ≡ true
unfolding expected_answer expected_lengths start_ok
expected_fits_lem shingle base position point high low median out h =
    let d = dimension shingle base in
    let p = passed (sizes_ok shingle base) (expected_lengths d base position (length point) (length high) (length low) (length median) out) (expected_finite point high low median) (Ok tt) h in
    let z = sizes shingle base p.of_sizes in
    let q₁ = both (eqb (length point) d) _ p.of_lengths in
    let q₂ = both (eqb (length high) d) _ q₁.1 in
    let q₃ = both (eqb (length low) d) _ q₂.1 in
    let q₄ = both (eqb (length median) d) _ q₃.1 in
    let q₅ = both (eqb out d) (leb position (d - base)) q₄.1 in
    let long = eqb-true (length point) d q₁.0 in
    let within : base ≤ d = subst (λ (n : ℕ). base ≤ n) (sym (dimension_is shingle base p.of_sizes)) (base_inside shingle base z.shingle_least) in
    let start = leb-true position (d - base) q₅.1 in
    expects (length high) (length low) position base (length point) (length median) out
    (record {
      high_long = eqb-true (length high) d q₂.0 ∙ sym long;
      low_long = eqb-true (length low) d q₃.0 ∙ sym long;
      median_long = eqb-true (length median) d q₄.0 ∙ sym long;
      out_long = eqb-true out d q₅.0 ∙ sym long;
      some = z.base_least;
      few = z.base_most;
      inside = omega arith;
    })

pub gap_above : (gap : ℕ) → gap_answer gap ≡ Ok tt → 0 < gap
unfolding gap_answer
gap_above gap h = go (eqb gap 0) (λ (e : eqb gap 0 ≡ false). eqb-false gap 0 e) refl h
  where
    go : (t : Bool) → (eqb gap 0 ≡ false → gap ≡ 0 → ⊥) → eqb gap 0 ≡ t → cond {A = Answer} t (Err ValuesSeen) (Ok tt) ≡ Ok tt → 0 < gap
    go true f e k = absurd (let z : ◌≡◌ {A = ℕ} 0 1 = cc in omega arith)
    go false f e k = let n = f e in omega arith

pub corrector_fits_lem : (shingle base gap : ℕ) (point : List Float) (has : Bool) (expected anomalous : List Float) (out : ℕ) → corrector_answer shingle base gap point has expected anomalous out ≡ Ok tt
    → corrector_fits (length point) gap shingle base has (length expected) (length anomalous) out ≡ true
unfolding corrector_answer corrector_lengths
corrector_fits_lem shingle base gap point has expected anomalous out h =
    let d = dimension shingle base in
    let p = passed (sizes_ok shingle base) (corrector_lengths d (length point) out has (length expected) (length anomalous)) (corrector_finite point has expected anomalous) (gap_answer gap) h in
    let z = sizes shingle base p.of_sizes in
    let q₁ = both (eqb (length point) d) _ p.of_lengths in
    let q₂ = both (eqb out d) (last_points_ok has d (length expected) (length anomalous)) q₁.1 in
    let long = eqb-true (length point) d q₁.0 in
    let last = last_points has d (length expected) (length anomalous) q₂.1 in
    corrects (length point) gap shingle base has (length expected) (length anomalous) out
    (record {
      sizes = record { some = z.shingle_least; few = z.shingle_most; wide = z.base_least; narrow = z.base_most; long = long ∙ dimension_is shingle base p.of_sizes };
      later = gap_above gap p.of_last;
      out_long = eqb-true out d q₂.0 ∙ sym long;
      expected_long = λ k. (last k).0 ∙ sym long;
      anomalous_long = λ k. (last k).1 ∙ sym long;
    })

-- What a buffer holds after a step that fits, and after none.
pub done_writes : (a : Answer) (fits : Bool) (new old x : List Float) → a ≡ Ok tt → fits ≡ true → x ≡ cond fits new old → x ≡ written a new old
unfolding written
done_writes a fits new old x e f q = q ∙ rw (e, f)
