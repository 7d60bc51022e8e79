use Rattle.std.proofs.Common.{◌≡◌, ◌+◌, ◌*◌, sym, ◌∙◌, rules}
use Rattle.deviation.specs.Statistics.{reset}
use Rattle.predictorcorrector.specs.Lists.{changed}
use Rattle.layout.specs.Places.{deviation_length}
use Rattle.layout.specs.States.{deviation_at}
use Rattle.layout.specs.Chain.{list_at}
use Rattle.layout.proofs.InPlace.{changed_entry}
use Rattle.layout.proofs.reset_list.Goals as goal

pub returns : goal.returns
returns c =
    let xs = c.args.out.now in
    let at = c.args.at in
    let n = c.args.n in
    c.change_list.ensures (changed reset n (list_at xs at n))
    (λ i d h p. let e : d ≡ reset (deviation_at xs (at + deviation_length * i)) = search rules in e ∙ sym (changed_entry xs at n c.requires.few i h reset))
