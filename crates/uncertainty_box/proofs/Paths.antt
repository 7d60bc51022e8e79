-- The loop of `path_deviation`, a turn at a time, where the code counts from the place here = position + index. Assumes nothing.
use Rattle.std.proofs.Common.{◌≡◌, ℕ, zero, suc, ◌+◌, ◌-◌, ◌<◌, ◌≤◌, Bool, List, length, sym, refl, ap, ◌∙◌, arith, le-ltb, lt-ltb, le-leb}
use mathlib.Core.Bool.{and-false}
use lib.Ieee as Ieee
use lib.Ieee.{Float, binary32}
use borrow.Author.Tests.{lt-leb}
use Rattle.uncertainty_box.specs.Const.{zero32}
use Rattle.uncertainty_box.specs.Scan.{nth}
use Rattle.uncertainty_box.specs.Box.{path_step, path_mean, path_loop, path_deviation}

module _ (point : List Float) (index base : ℕ) (differenced : Bool) where
  path_turn : (fuel position : ℕ) (v : Float) (n : ℕ) → position + index + base < length point →
      path_loop (suc fuel) point index base differenced position v n
      ≡ path_loop fuel point index base differenced (position + base) (Ieee.add binary32 v (path_step differenced (nth point (position + index)) (nth point (position + base + index)))) (n + 1)
  unfolding path_loop
  path_turn fuel position v n h = rw (lt-ltb (position + index + base) (length point) h)

  pub path_stop : (fuel position : ℕ) (v : Float) (n : ℕ) → length point ≤ position + index + base → path_loop fuel point index base differenced position v n ≡ path_mean v n
  unfolding path_loop
  path_stop zero position v n h = refl
  path_stop (suc fuel) position v n h = rw (le-ltb (position + index + base) (length point) h)

  pub path_next : (here : ℕ) (v s : Float) (n : ℕ) → index ≤ here → n < length point → here + base < length point →
      s ≡ path_step differenced (nth point here) (nth point (here + base)) →
      path_loop (length point - n) point index base differenced (here - index) v n
      ≡ path_loop (length point - (n + 1)) point index base differenced (here + base - index) (Ieee.add binary32 v s) (n + 1)
  path_next here v s n hi hn hl es =
      let fuel : length point - n ≡ suc (length point - (n + 1)) = omega arith in
      let first : here - index + index ≡ here = omega arith in
      let second : here - index + base + index ≡ here + base = omega arith in
      let place : here - index + base ≡ here + base - index = omega arith in
      ap (λ (k : ℕ). path_loop k point index base differenced (here - index) v n) fuel
      ∙ path_turn (length point - (n + 1)) (here - index) v n (omega arith)
      ∙ (λ i. path_loop (length point - (n + 1)) point index base differenced (place i) (Ieee.add binary32 v (path_step differenced (nth point (first i)) (nth point (second i)))) (n + 1))
      ∙ ap (λ (x : Float). path_loop (length point - (n + 1)) point index base differenced (here + base - index) (Ieee.add binary32 v x) (n + 1)) (sym es)

  module _ (start : ℕ) where
    pub path_base : base ≡ 0 → path_deviation point start index base differenced ≡ zero32
    unfolding path_deviation
    path_base h = rw (le-ltb 0 base (omega arith))

    pub path_starts : 0 < base → length point ≤ 65536 → path_deviation point start index base differenced ≡ path_loop (length point - 0) point index base differenced (start + index - index) zero32 0
    unfolding path_deviation
    path_starts h l =
        let place : start ≡ start + index - index = omega arith in
        let fuel : length point ≡ length point - 0 = omega arith in
        rw (lt-ltb 0 base h, le-leb (length point) 65536 l) (λ i. path_loop (fuel i) point index base differenced (place i) zero32 0)

    pub path_long : 65536 < length point → path_deviation point start index base differenced ≡ zero32
    unfolding path_deviation
    path_long h = rw (lt-leb (length point) 65536 h, and-false)

    -- Nothing is left from the first place on.
    pub path_beyond : 0 < base → length point ≤ 65536 → length point - start - index ≡ 0 → path_deviation point start index base differenced ≡ zero32
    unfolding path_mean
    path_beyond h l e = path_starts h l ∙ path_stop (length point - 0) (start + index - index) zero32 0 (omega arith)
