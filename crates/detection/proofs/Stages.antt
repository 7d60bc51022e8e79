-- What each stage's calls answer, in the words of the definitions. Assumes nothing.
use mathlib.Core.Path.{◌≡◌, ap, ap₂, ◌∙◌}
use mathlib.Core.Bool.{Bool, not, ◌&&◌}
use mathlib.Core.List.{List}
use Prim.Native.Nat.{ℕ, ◌*◌}
use lib.Dec.{ltb}
use lib.ListN.{length, replicate}
use lib.Ieee.{Float}
use Rattle.types.specs.Codes.{is_differenced}
use Rattle.divector.specs.DiVector.{max_gap_contribution}
use Rattle.uncertainty_box.specs.Box.{uncertainty_box, explained_by_conditional_field}
use Rattle.uncertainty_box.specs.Pass.{centered_transform_pass}
use Rattle.corrector.specs.Corrector.{apply_basic_corrector, trigger}
use Rattle.descriptor.specs.Lent.{Lent}
use Rattle.descriptor.specs.declared.Reading.{Reading}
use Rattle.descriptor.specs.declared.LastDescriptor.{LastDescriptor}
use Rattle.detection.specs.Const.{zero32}
use Rattle.detection.specs.Judging.{gap_of, block_of, gap, corrected_point, noise_pass, block, start, box, explained, triggered}

module _ (r : Reading) (l : LastDescriptor) (b : Lent) where
  pub pass_is : (g : ℕ) (f : Float) → g ≡ gap_of r.values_seen l.has_anomaly l.anomaly.values_seen
      → f ≡ centered_transform_pass r.base_dimension b.scale b.shift b.difference_deviations (apply_basic_corrector b.point g r.shingle_size r.base_dimension l.has_anomaly b.last_expected b.last_anomalous l.anomaly.relative_index (is_differenced r.transform_method) r.time_augmented)
      → f ≡ noise_pass r l b
  unfolding noise_pass corrected_point gap
  pass_is g f e q = q ∙ ap (λ (n : ℕ). centered_transform_pass r.base_dimension b.scale b.shift b.difference_deviations (apply_basic_corrector b.point n r.shingle_size r.base_dimension l.has_anomaly b.last_expected b.last_anomalous l.anomaly.relative_index (is_differenced r.transform_method) r.time_augmented)) e

  pub block_is : (k : ℕ) → k ≡ block_of (max_gap_contribution b.high b.low r.base_dimension (gap_of r.values_seen l.has_anomaly l.anomaly.values_seen)) → k ≡ block r l b
  unfolding block gap
  block_is k e = e

  pub start_by : (k n : ℕ) → k ≡ block r l b → n ≡ k * r.base_dimension → n ≡ start r l b
  unfolding start
  start_by k n e q = q ∙ ap (λ (m : ℕ). m * r.base_dimension) e

  pub box_is : (s : ℕ) (u : List Float) → s ≡ start r l b
      → u ≡ uncertainty_box b.point s b.scale b.shift b.difference_deviations (is_differenced r.transform_method) (replicate r.base_dimension zero32) → u ≡ box r l b
  unfolding box
  box_is s u e q = q ∙ ap (λ (n : ℕ). uncertainty_box b.point n b.scale b.shift b.difference_deviations (is_differenced r.transform_method) (replicate r.base_dimension zero32)) e

  pub explained_is : (auto t : Bool) (u : List Float) (s : ℕ) → u ≡ box r l b → s ≡ start r l b
      → t ≡ (auto && explained_by_conditional_field u b.point s b.scale b.neighbours (length b.point)) → t ≡ (auto && explained r l b)
  unfolding explained
  explained_is auto t u s e h q = q ∙ ap₂ (λ (v : List Float) (n : ℕ). auto && explained_by_conditional_field v b.point n b.scale b.neighbours (length b.point)) e h

  pub shingle_is : (t : Bool) (threshold : Float)
      → t ≡ (ltb (gap_of r.values_seen l.has_anomaly l.anomaly.values_seen) r.shingle_size && not (trigger b.high b.low (gap_of r.values_seen l.has_anomaly l.anomaly.values_seen) r.base_dimension b.ideal_high b.ideal_low l.has_anomaly l.anomaly.has_attribution l.anomaly.score threshold))
      → t ≡ (ltb (gap r l b) r.shingle_size && not (triggered r l b threshold))
  unfolding triggered gap
  shingle_is t threshold e = e
