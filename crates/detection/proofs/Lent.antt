-- What a stage looks at of the lent buffers: with the others empty it says the same, and leaves the same. Assumes nothing.
use Rattle.std.specs.Prelude.{Result, Ok, Err}
use mathlib.Core.Path.{◌≡◌, refl, ap, ◌∙◌, subst}
use mathlib.Core.Bool.{cond}
use lib.IntN.{pos, ◌+ℤ◌, ◌-ℤ◌}
use mathlib.Core.List.{List, []}
use Prim.Native.Nat.{ℕ}
use lib.Ieee.{Float}
use Rattle.divector.specs.DiVector.{normalized}
use Rattle.descriptor.specs.Lent.{Lent, lent}
use Rattle.descriptor.specs.declared.Reading.{Reading}
use Rattle.descriptor.specs.declared.LastDescriptor.{LastDescriptor}
use Rattle.basicthresholder.specs.declared.BasicThresholder.{BasicThresholder}
use Rattle.predictorcorrector.specs.declared.Standing.{Standing}
use Rattle.detection.specs.Judging.{gap, recent, noise_pass, corrected_point, block, start, box, explained, triggered, within_box, expected, newest_of, is_drift_mode, late_verdict, relative_index}
use Rattle.detection.specs.Judged.{index_after, written}
use Rattle.detection.specs.Decided.{no_row, newest_expected, row_after, drift_of, Decided}
use Rattle.detection.specs.Steps.{accepted_way, way, late_outcome, expected_outcome}
use Rattle.detection.specs.declared.Verdict.{Verdict}
use Rattle.detection.specs.declared.Verdict.TheVariants.{Quiet, Corrected, Raised, Skipped}
use Rattle.detection.specs.declared.Decision.{Decision}
use Rattle.types.specs.Refusals.{Answer}
use Rattle.types.specs.declared.Refusal.{Refusal}

-- Up to the noise pass six,
abbrev pub passing : Lent → Lent
passing b = lent b.point b.scale b.shift b.difference_deviations b.last_expected b.last_anomalous [] [] [] [] [] []

-- past it ten,
abbrev pub late : Lent → Lent
late b = lent b.point b.scale b.shift b.difference_deviations [] [] b.high b.low b.median b.ideal_high b.ideal_low b.neighbours

-- and from the expected point on six.
abbrev pub branch : Lent → Lent
branch b = lent b.point b.scale [] b.difference_deviations [] [] b.high b.low b.median [] [] []

-- What a stage's words hold of the buffers.
record Alike (r : Reading) (l : LastDescriptor) (b b' : Lent) : Type 0 where
  blocks : block r l b ≡ block r l b'
  expecteds : expected r l b ≡ expected r l b'
  rows : newest_expected r l b ≡ newest_expected r l b'
  highs : b.high ≡ b'.high
  lows : b.low ≡ b'.low

module _ (r : Reading) (l : LastDescriptor) (b b' : Lent) (a : Alike r l b b') where
  index_moves : (o : Result Verdict Refusal) → index_after r l b o ≡ index_after r l b' o
  unfolding index_after relative_index
  index_moves (Err why) = refl
  index_moves (Ok (Quiet t)) = refl
  index_moves (Ok (Corrected t m)) = refl
  index_moves (Ok (Raised t g)) = ap (λ (n : ℕ). pos n -ℤ pos r.shingle_size +ℤ pos 1) a.blocks
  index_moves (Ok Skipped) = refl

  row_moves : (o : Result Verdict Refusal) → row_after r l b o ≡ row_after r l b' o
  unfolding row_after
  row_moves (Err why) = refl
  row_moves (Ok (Quiet t)) = refl
  row_moves (Ok (Corrected t m)) = ap (λ (x : List Float). cond (is_drift_mode m) x no_row) a.rows
  row_moves (Ok (Raised t g)) = a.rows
  row_moves (Ok Skipped) = refl

  left_moves : (o o' : Result Verdict Refusal) → o ≡ o' → (j : Decision) (e h w e' h' w' : List Float) → Decided r l b o j e h w e' h' w' → Decided r l b' o' j e h w e' h' w'
  left_moves o o' q j e h w e' h' w' p = subst (λ (x : Result Verdict Refusal). Decided r l b' x j e h w e' h' w') q (record {
    says = p.says;
    index = p.index ∙ index_moves o;
    row = p.row ∙ row_moves o;
    point = p.point ∙ ap (written o e) a.expecteds;
    highs = p.highs ∙ (λ i. written o h (normalized r.score (a.highs i) (a.lows i) (a.highs i)));
    lows = p.lows ∙ (λ i. written o w (normalized r.score (a.highs i) (a.lows i) (a.lows i)));
  })

module _ (r : Reading) (l : LastDescriptor) (b : Lent) where
  pub way_lent : (t : BasicThresholder) (a : Answer) → way r l (passing b) t a ≡ way r l b t a
  unfolding way accepted_way recent gap noise_pass corrected_point
  way_lent t (Ok tt) = refl
  way_lent t (Err why) = refl

  module _ (k : Standing) (t g : Float) (j : Decision) (e h w e' h' w' : List Float) where
    pub late_lent : Decided r l (late b) (late_outcome k r l (late b) t g) j e h w e' h' w' → Decided r l b (late_outcome k r l b t g) j e h w e' h' w'
    unfolding late_outcome late_verdict explained box start block gap triggered within_box expected drift_of newest_expected newest_of
    late_lent p = left_moves r l _ b (record { blocks = refl; expecteds = refl; rows = refl; highs = refl; lows = refl }) _ _ refl j e h w e' h' w' p

    pub branch_lent : (u : List Float) → Decided r l (branch b) (expected_outcome k r l (branch b) u t g) j e h w e' h' w'
        → Decided r l b (expected_outcome k r l b u t g) j e h w e' h' w'
    unfolding expected_outcome start block gap expected drift_of newest_expected newest_of
    branch_lent u p = left_moves r l _ b (record { blocks = refl; expecteds = refl; rows = refl; highs = refl; lows = refl }) _ _ refl j e h w e' h' w' p
