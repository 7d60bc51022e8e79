-- The block that an accepted attribution names lies in it, so the indices are those of its row. Assumes nothing.
use Rattle.std.specs.Prelude.{Result, Ok, Err, is_ok}
use Rattle.std.specs.Result.{result_unwrap_or}
use mathlib.Core.Path.{◌≡◌, refl, sym, ap, subst, ◌∙◌}
use mathlib.Core.Bool.{◌&&◌, true≢false}
use mathlib.Core.List.{List}
use Prim.Native.Nat.{ℕ, ◌+◌, ◌*◌, ◌/◌, ◌%◌, ◌<◌, ◌≤◌}
use native.Mathlib.Nat.{mul-mod_left, mul-pos}
use native.Mathlib.Omega.{arith}
use lib.Dec.{eqb}
use lib.ListN.{length, take}
use lib.Ieee.{Float}
use borrow.Author.Tests.{eqb-true}
use Rattle.types.specs.declared.Refusal.{Refusal}
use Rattle.descriptor.specs.Checks.{sizes_ok, dimension, all_finite}
use Rattle.descriptor.proofs.Bounds.{both, sizes, dimension_is}
use Rattle.divector.specs.DiVector.{max_gap_contribution}
use Rattle.divector.proofs.Laws as Search
use Rattle.divector.proofs.Blocks.{row_within, whole}
use Rattle.attributors.specs.Attributors.{asked}
use Rattle.attributors.proofs.Laws.{Row, asked_row}
use Rattle.corrector.specs.Corrector.{predicted, expected_point}
use Rattle.corrector.proofs.Rows.{all_are}
use Rattle.calls.specs.Calls.{gap_answer, missing_answer, block_of, missing_at, missing_within, missing_by, likely_missing_indices, AskedIndicesAreExpected}
use Rattle.calls.specs.declared.Missing.{Missing}
use Rattle.calls.proofs.Accepted.{passed, gap_above}
use Rattle.types.specs.Refusals.{Answer}

-- The row of a block that a search answers.
pub block_inside : (high low : List Float) (base gap : ℕ) {k : ℕ} → max_gap_contribution high low base gap ≡ Ok k → k * base + base ≤ length high
block_inside high low base gap {k} e =
    let a = Search.accepted high low base gap e in
    let w = row_within k (length high / base) base (Search.chosen high low base gap e).1 in
    let n = whole (length high) base a.whole in
    omega arith

module _ (shingle base gap : ℕ) (high low : List Float) (done : missing_answer shingle base gap high low ≡ Ok tt) where
  -- An accepted attribution's block has its row in it.
  row_asked : Row (length high) (length low) (block_of (max_gap_contribution high low base gap) * base) base
  unfolding missing_answer block_of
  row_asked =
      let d = dimension shingle base in
      let p = passed (sizes_ok shingle base) (eqb (length high) d && eqb (length low) d) (all_finite high && all_finite low) (gap_answer gap) done in
      let z = sizes shingle base p.of_sizes in
      let q = both (eqb (length high) d) (eqb (length low) d) p.of_lengths in
      let long : length high ≡ shingle * base = eqb-true (length high) d q.0 ∙ dimension_is shingle base p.of_sizes in
      let same : length low ≡ length high = eqb-true (length low) d q.1 ∙ sym (eqb-true (length high) d q.0) in
      let g = gap_above gap p.of_last in
      let some : 0 < length high = subst (λ (n : ℕ). 0 < n) (sym long) (mul-pos z.shingle_least z.base_least) in
      let a = Search.answered high low base gap (record {
        alike = sym same;
        gapped = g;
        based = z.base_least;
        long = some;
        whole = ap (λ (n : ℕ). n % base) long ∙ mul-mod_left shingle base;
      }) in
      record {
        low_long = same;
        some = z.base_least;
        few = z.base_most;
        inside = subst (λ (b : Result ℕ Refusal). block_of b * base + base ≤ length high) (sym a) (block_inside high low base gap a);
      }

module _ (base gap : ℕ) (high low point median : List Float) (m : Missing) where
  accepted : (shingle : ℕ) → missing_answer shingle base gap high low ≡ Ok tt → m ≡ missing_within high low base gap
      → expected_point high low m.start base point median ≡ predicted (take m.count m.indices) median point
  unfolding missing_within missing_at expected_point
  accepted shingle q r =
      let start : ℕ = block_of (max_gap_contribution high low base gap) * base in
      rw r
      (ap (λ (indices : List ℕ). predicted indices median point)
      (sym (all_are high low start base (asked high low start base) (asked_row high low start base (row_asked shingle base gap high low q)))))

pub asked_indices_are_expected : AskedIndicesAreExpected
unfolding likely_missing_indices missing_by
asked_indices_are_expected shingle base gap high low point median m e = by_answer (missing_answer shingle base gap high low) refl e
  where
    by_answer : (a : Answer) → missing_answer shingle base gap high low ≡ a → missing_by a base gap high low ≡ Ok m
        → expected_point high low m.start base point median ≡ predicted (take m.count m.indices) median point
    by_answer (Ok _) q r = accepted base gap high low point median m shingle q (ap (λ (f : Result Missing Refusal). result_unwrap_or f m) (sym r))
    by_answer (Err why) q r = absurd (true≢false (ap is_ok (sym r)))
