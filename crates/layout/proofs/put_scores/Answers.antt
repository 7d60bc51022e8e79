use Rattle.std.proofs.Common.{ap, ◌∙◌, ap₂, subst, T}
use denote.Floats.{passes}
use lib.Ieee.{Float, binary32}
use lib.Ieee as Ieee
use Rattle.basicthresholder.specs.declared.BasicThresholder.{BasicThresholder}
use Rattle.layout.specs.Numbers.{pasted}
use Rattle.layout.specs.Chain.{decode_state}
use Rattle.layout.specs.States.{decode_thresholder, encode_thresholder}
use Rattle.layout.specs.Parts.{scored, second_after}
use Rattle.layout.proofs.InPlace.{by_parts}
use Rattle.layout.proofs.put_scores.Goals as goal

pub returns : goal.returns
unfolding decode_state decode_thresholder
returns c =
    let a = c.args in
    let xs = a.out.now in
    let p = c.primary_score-primary.ensures in
    let w = c.f32_to_f64_with_nan.ensures ∙ p in
    let g = ap (Ieee.sub binary32 a.corrected) c.height_score.ensures in
    let s = c.second_after-secondary.ensures ∙ ap₂ (second_after a.r.now.scoring_strategy) c.deviation_at.ensures g in
    c.put_scored.ensures
    ∙ ap (λ (t : BasicThresholder). pasted xs 0 (encode_thresholder t))
    ((λ i. scored (decode_thresholder xs) (w i) (p i) (s i)) ∙ by_parts (decode_thresholder xs) c.requires.counts a.r.now.scoring_strategy a.r.now.score a.corrected a.l.now.scoring_strategy a.l.now.score (subst (λ (x : Float). T (Ieee.fits binary32 x)) p (passes _ c.primary_score-primary.type_inv)))
