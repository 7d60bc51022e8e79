use Rattle.std.proofs.Common.{ℕ, ◌+◌, ◌*◌, refl, ◌∙◌, arith, rules}
use Rattle.std.proofs.lemmas.Iterator.{YieldsList-from_range}
use Rattle.std.proofs.lemmas.Iterator.Search.{all_from_yields_List}
use borrow.Author.Tests.{tests}
use Rattle.deviation.specs.Statistics.{countable}
use Rattle.layout.specs.Places.{deviation_length}
use Rattle.layout.specs.Numbers.{i32_at}
use Rattle.layout.proofs.InPlace.{counts_all}
use Rattle.layout.proofs.counts_at.Goals as goal

pub returns : goal.returns
returns c =
    let a = c.args in
    all_from_yields_List (λ (k : ℕ). countable (i32_at a.bytes.now (a.at + deviation_length * k + 32))) _ _ c.all.result c.all.ensures.ran
    (YieldsList-from_range 0 a.n a.n refl (omega arith)) (λ x b q k. search (rules, tests))
    ∙ counts_all a.bytes.now a.at a.n c.requires.few c.requires.long
