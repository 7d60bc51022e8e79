-- What the bytes of two verdicts say of their opening grades. Assumes nothing.
use Prim.Native.Nat.{ℕ}
use mathlib.Core.Path.{◌≡◌, refl, sym, ap, ◌∙◌, subst}
use mathlib.Core.Bool.{Bool, true, false, not}
use mathlib.Core.Logic.{◌⊎◌, inl, inr}
use mathlib.Core.List.{List}
use native.Mathlib.Omega.{arith}
use lib.Dec.{T, eqb, eqb→eq}
use lib.Ieee.{Float, le, eq}
use Rattle.basicthresholder.specs.Const.{zero32}
use Rattle.basicthresholder.specs.declared.Graded.{Graded}
use Rattle.grade_order.proofs.Steps.{steps_rise}
use Rattle.layout.specs.Chain.{decode_state}
use Rattle.layout.specs.Readings.{decode_reading}
use Rattle.demand3.specs.Calls.{opened}
use Rattle.demand3.proofs.Opens.{zero_skips}
use Rattle.demand3_over_c.specs.Calls.{Judging, Contract, score_of, kind_in, grade_in}
use Rattle.demand3_over_c.specs.Statement.{Opens, kind_of}
use Rattle.demand3_over_c.proofs.Simulation.{reading_of, last_of, taken, accepted_reads, opens_over_c, score_is}
use Rattle.judged_grades_over_c.specs.Statement.{TellsOverC}

-- The bytes are a skipped reading's, or show its opening o.
pub data Showing (o : Graded) (ys : List ℕ) : Type 0 where
  skips : kind_in ys ≡ 3 → Showing o ys
  shows : Opens o ys → Showing o ys

is_false : (b : Bool) → b ≡ false → T (not b)
is_false b e = subst (λ (c : Bool). T (not c)) (sym e) tt

module _ (xs : List ℕ) (c : Judging) (q : Contract xs c) (z : c.answer ≡ 0) where
  skipped : eq (score_of c) zero32 ≡ true → kind_in c.verdict' ≡ 3
  skipped e =
      let k = taken xs c (sym q.answer ∙ z) in
      (accepted_reads xs c q k).kind
      ∙ ap kind_of (zero_skips (decode_state xs) (reading_of xs c) (last_of xs c) c.lent (ap (λ (x : Float). eq x zero32) (score_is c.reading) ∙ e))

  pub showing : Showing (opened (decode_state xs) (decode_reading c.reading)) c.verdict'
  showing = go (eq (score_of c) zero32) refl
    where
      go : (b : Bool) → eq (score_of c) zero32 ≡ b → Showing (opened (decode_state xs) (decode_reading c.reading)) c.verdict'
      go true e = skips (skipped e)
      go false e = shows (opens_over_c xs c q z (is_false (eq (score_of c) zero32) e))

module _ (o o' : Graded) (ys ys' : List ℕ) (g : T (le zero32 o.grade)) (l : T (le o.grade o'.grade)) where
  quiet : Showing o ys → Showing o' ys' → kind_in ys' ≡ 0 → (kind_in ys ≡ 0) ⊎ (kind_in ys ≡ 3)
  quiet (skips k) j e = inr k
  quiet (shows i) (skips k) e = absurd (let d : ◌≡◌ {A = ℕ} 0 3 = sym e ∙ k in omega arith)
  quiet (shows i) (shows j) e =
      let zero : T (eq o'.grade zero32) = subst T j.quiet (subst (λ (n : ℕ). T (eqb n 0)) (sym e) tt) in
      inl (eqb→eq (kind_in ys) 0 (subst T (sym i.quiet) (steps_rise.none_between o.grade o'.grade g l zero)))

  raised : Showing o ys → Showing o' ys' → kind_in ys ≡ 2 → kind_in ys' ≡ 2 → T (le (grade_in ys) (grade_in ys'))
  raised (skips k) j e e' = absurd (let d : ◌≡◌ {A = ℕ} 2 3 = sym e ∙ k in omega arith)
  raised (shows i) (skips k) e e' = absurd (let d : ◌≡◌ {A = ℕ} 2 3 = sym e' ∙ k in omega arith)
  raised (shows i) (shows j) e e' =
      subst (λ (x : Float). T (le x (grade_in ys'))) (sym (i.raised e)) (subst (λ (x : Float). T (le o.grade x)) (sym (j.raised e')) l)

  pub tells : Showing o ys → Showing o' ys' → TellsOverC ys ys'
  tells i j = record { quiet = quiet i j; raised = raised i j }
