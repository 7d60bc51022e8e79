-- The newest row's place. Assumes nothing.
use mathlib.Core.Path.{◌≡◌, sym, ◌∙◌}
use mathlib.Core.Bool.{Bool, true, false, cond}
use mathlib.Core.List.{List, []}
use Prim.Native.Nat.{ℕ, ◌-◌, ◌≤◌}
use native.Mathlib.Omega.{arith}
use lib.Dec.{eqb}
use lib.ListN.{length, drop, length-drop}
use lib.Ieee.{Float}
use borrow.Author.Tests.{eq-eqb}
use Rattle.types.specs.Refusals.{answered}
use Rattle.corrector.specs.Corrector.{point_fits, newest_row_answer, newest_row}
use Rattle.corrector.proofs.Laws.{accepted, base_within}
use Rattle.corrector.proofs.Kept.{fits_answered}
use Rattle.layout.specs.Numbers.{written_of, bytes8}
use Rattle.c_judging.specs.Judging.{newest_answer, newest_bytes}

module _ (point : List Float) (shingle base n : ℕ) (p : n ≡ answered (newest_row_answer shingle base (length point))) (out : List ℕ) where
  pub newest_refused : eqb n 0 ≡ false → (n ≡ newest_answer shingle base (length point) (length out)) × (out ≡ newest_bytes shingle base (length point) out)
  unfolding newest_answer newest_bytes
  newest_refused h = (rw (← p, h), rw (← p, h, h))

  module _ (z : n ≡ 0) where
    pub newest_length : eqb (length out) 8 ≡ false → (3 ≡ newest_answer shingle base (length point) (length out)) × (out ≡ newest_bytes shingle base (length point) out)
    unfolding newest_answer newest_bytes
    newest_length h = (rw (← p, z, h), rw (← p, z, h))

    module _ (row : List Float) (e : row ≡ newest_row point shingle base) where
      start : length point - length row ≡ length point - base
      unfolding newest_row
      start =
          let fits = fits_answered shingle base (length point) (sym p ∙ z) in
          let h = base_within shingle base (length point) (accepted shingle base (length point) fits) in
          let l : length row ≡ length point - (length point - base) = rw (e, fits, length-drop) in
          rw l (omega arith)

      pub newest_done : length out ≡ 8 → (zs : List ℕ) → zs ≡ written_of 8 out (bytes8 (length point - length row))
          → (0 ≡ newest_answer shingle base (length point) (length out)) × (zs ≡ newest_bytes shingle base (length point) out)
      unfolding newest_answer newest_bytes written_of
      newest_done h zs w = (rw (← p, z, eq-eqb _ _ h), w ∙ rw (start, ← p, z, eq-eqb _ _ h))

within : (b : Bool) (n : ℕ) (point : List Float) → length (cond b (drop n point) []) ≤ length point
within true n point = simp length-drop (omega arith)
within false n point = omega arith

pub row_within : (point : List Float) (shingle base : ℕ) (row : List Float) → row ≡ newest_row point shingle base → length row ≤ length point
unfolding newest_row
row_within point shingle base row e = rw e (within (point_fits shingle base (length point)) (length point - base) point)
