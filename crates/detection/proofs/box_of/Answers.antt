use mathlib.Core.Path.{◌≡◌, ◌∙◌, ap, ap₂}
use native.Mathlib.Omega.{arith}
use lib.ListN.{length, take}
use lib.Seq.{length-take-le}
use Rattle.uncertainty_box.specs.Box.{uncertainty_box}
use Rattle.detection.specs.Const.{zero32}
use Rattle.detection.proofs.Work.{front_is, take_replicate}
use borrow.Author.Rules.{rules}
use Rattle.detection.proofs.box_of.Goals as goal

pub returns : goal.returns
returns c =
    let a = c.args in
    let l : length c.sixteen-out.result ≡ 16 = search rules in
    let long : length c.construct_uncertainty_box.new.out ≡ a.r.base_dimension = c.construct_uncertainty_box.auto.out ∙ length-take-le a.r.base_dimension c.sixteen-out.result (omega (arith, c.requires)) in
    front_is c.sixteen-out.result c.construct_uncertainty_box.new.out _ a.r.base_dimension long
    (c.construct_uncertainty_box.ensures
    ∙ ap₂ (uncertainty_box a.b.point.now a.start a.b.scale.now a.b.shift.now a.b.difference_deviations.now)
    c.is_differenced.ensures
    (ap (take a.r.base_dimension) c.sixteen-out.ensures ∙ take_replicate a.r.base_dimension 16 zero32 c.requires))
