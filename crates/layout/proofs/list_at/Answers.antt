use Rattle.std.proofs.Common.{ℕ, ◌+◌, ◌*◌, List, refl, ◌∙◌, ap₂, le_antisymm}
use Rattle.deviation.specs.declared.Deviation.{Deviation}
use Rattle.layout.specs.Places.{deviation_length}
use Rattle.layout.specs.States.{deviation_at}
use Rattle.layout.specs.Chain.{filled, list_at}
use Rattle.layout.proofs.Rows.{filled_next}
use Rattle.layout.proofs.list_at.Goals as goal

pub loop-i-init : goal.loop-i-init
unfolding filled
loop-i-init c = refl

pub loop-i-preserved : goal.loop-i-preserved
loop-i-preserved c = filled_next _ c.loop-i.i _ c.loop-i.out _ c.loop-i.invariant c.deviation_at.ensures

pub returns : goal.returns
unfolding list_at
returns c = c.loop-i.invariant ∙ ap₂ (λ (k : ℕ) (l : List Deviation). filled (λ (j : ℕ). deviation_at c.args.bytes.now (c.args.at + deviation_length * j)) k l) (le_antisymm c.loop-i.auto.i-end c.loop-i-test.false) c.empty_list-out.ensures
