use Rattle.std.proofs.Common.{◌≡◌, ◌+◌, ◌*◌, get_or, sym, ◌∙◌, rules}
use lib.Ieee.{nan}
use Rattle.deviation.specs.Statistics.{counted}
use Rattle.predictorcorrector.specs.Lists.{stepped}
use Rattle.layout.specs.Places.{deviation_length}
use Rattle.layout.specs.States.{deviation_at}
use Rattle.layout.specs.Chain.{list_at}
use Rattle.layout.proofs.InPlace.{stepped_entry}
use Rattle.layout.proofs.count_list.Goals as goal

pub returns : goal.returns
returns c =
    let xs = c.args.out.now in
    let at = c.args.at in
    let n = c.args.n in
    c.change_list.ensures (stepped counted n (list_at xs at n) c.args.row.now)
    (λ i d h p. let e : d ≡ counted (deviation_at xs (at + deviation_length * i)) (get_or c.args.row.now i nan) = search rules in e ∙ sym (stepped_entry xs at n c.requires.few i h counted c.args.row.now nan c.requires.wide))
