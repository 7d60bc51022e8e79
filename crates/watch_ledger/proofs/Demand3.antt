-- The ledger's theorem for a watch of scores. Assumes nothing.
use mathlib.Core.Path.{◌≡◌, refl, sym, ap, ◌∙◌, subst, subst₂}
use mathlib.Core.Bool.{Bool, true, false, not, cond}
use native.Mathlib.Omega.{arith}
use lib.Dec.{T}
use lib.Ieee.{Float, eq, lt, le, fits, of_bits, binary64}
use Rattle.deviation.specs.Statistics as Statistics
use Rattle.basicthresholder.specs.Const.{zero32, sixteen32}
use Rattle.basicthresholder.specs.declared.BasicThresholder.{BasicThresholder}
use Rattle.basicthresholder.specs.declared.Graded.{Graded}
use Rattle.basicthresholder.specs.Grades.{primary_threshold_and_grade}
use Rattle.basicthresholder.specs.Updates.{primary_counted}
use Rattle.score_kinds.specs.declared.Kind.{Kind}
use Rattle.score_kinds.specs.declared.Kind.TheVariants.{Skipped, Quiet, Raised}
use Rattle.score_kinds.specs.Watching.{settings, three32, by_grade, kind_of}
use Rattle.ledger.specs.Theorem.{Laws, Counts, New}
use Rattle.ledger.proofs.Laws.{primary_counts, new_fresh, new_z}
use Rattle.ledger.proofs.WholeList as WholeList
use Rattle.ledger.specs.Statement.{InBounds, Demand3}
use Rattle.watch_ledger.specs.Statement.{shown_at, Demand3OfScores}
use Rattle.watch_ledger.proofs.Counting.{steady, same_told_of, same_shown_of, few_settings, same_told, same_showed}
use Rattle.watch_ledger.proofs.Bounds.{few, sized}

abbrev zero64 : Float
zero64 = of_bits binary64 0

cond_true : {A : Type 0} (b : Bool) (x y : A) → T b → cond b x y ≡ x
cond_true true x y t = refl
cond_true false x y t = absurd t

cond_false : {A : Type 0} (b : Bool) (x y : A) → T (not b) → cond b x y ≡ y
cond_false true x y t = absurd t
cond_false false x y t = refl

-- A score that is not zero is judged, and shows its threshold and its grade.
judged : (s : BasicThresholder) (x : Float) → T (not (eq x zero32)) → kind_of s x ≡ by_grade (primary_threshold_and_grade s x)
unfolding kind_of
judged s x z = cond_false (eq x zero32) Skipped (by_grade (primary_threshold_and_grade s x)) z

module _ (g : Graded) where
  either_way : {A : Type 0} (f : Kind → A) (y : A) → f (Quiet g) ≡ y → f (Raised g) ≡ y → f (by_grade g) ≡ y
  unfolding by_grade
  either_way f y a b = go (eq g.grade zero32)
    where
      go : (t : Bool) → f (cond t (Quiet g) (Raised g)) ≡ y
      go true = a
      go false = b

  shows_threshold : (shown_at (by_grade g)).threshold ≡ g.threshold
  unfolding shown_at
  shows_threshold = either_way (λ k. (shown_at k).threshold) g.threshold refl refl

  shows_grade : (shown_at (by_grade g)).opening ≡ g.grade
  unfolding shown_at
  shows_grade = either_way (λ k. (shown_at k).opening) g.grade refl refl

ends_quiet : (k : Kind) → (shown_at k).opening ≡ zero32 → (shown_at k).ends ≡ zero32
unfolding shown_at
ends_quiet Skipped e = refl
ends_quiet (Quiet g) e = e
ends_quiet (Raised g) e = e

-- The steady judge keeps the ledger's laws, and the settings are those of a new thresholder.
keeps : Laws steady (λ s. s)
keeps = record {
  refused_keeps = λ s r h. absurd h;
  zero_keeps = λ s r h z. cond_true (eq r.score zero32) s (primary_counted s r.score) z;
  counts = λ s r h z. subst (λ (u : BasicThresholder). Counts s r.score u) (sym (cond_false (eq r.score zero32) s (primary_counted s r.score) z)) (primary_counts s r.score);
  opens_threshold = λ s r h z. ap (λ (k : Kind). (shown_at k).threshold) (judged s r.score z) ∙ shows_threshold (primary_threshold_and_grade s r.score);
  opens_grade = λ s r h z. ap (λ (k : Kind). (shown_at k).opening) (judged s r.score z) ∙ shows_grade (primary_threshold_and_grade s r.score);
  ends = λ s r h z e. ends_quiet (kind_of s r.score) e;
}

new_settings : New zero64 three32 settings
unfolding settings three32
new_settings = new_z zero64 _ three32 _ (new_fresh zero64 false)

held : T (fits binary64 zero64)
unfolding fits of_bits
held = tt

discount : T (Statistics.is_discount zero64)
unfolding lt le eq of_bits
discount = tt

above : T (lt zero32 three32)
unfolding lt of_bits three32
above = tt

most : T (le three32 sixteen32)
unfolding lt le eq of_bits three32
most = tt

pub demand_3 : Demand3OfScores
demand_3 rs h a =
    let t = same_told rs 0 settings (omega arith) few_settings in
    let v = same_showed rs 0 settings (omega arith) few_settings in
    subst₂ (Demand3 zero64 three32) (sym t ∙ same_told_of settings rs) (sym v ∙ same_shown_of settings rs)
    (WholeList.demand_3 steady (λ s. s) keeps zero64 three32 held discount settings new_settings rs
    (subst (InBounds three32) t (record { z_above = above; z_most = most; readings = omega (arith, few rs settings); scores = sized rs settings a })))
