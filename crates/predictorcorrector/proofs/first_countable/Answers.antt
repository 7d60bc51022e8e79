use Rattle.std.proofs.Common.{take, ◌∙◌, rules}
use Rattle.std.proofs.lemmas.Iterator.{YieldsList-from_slice}
use Rattle.std.proofs.lemmas.Iterator.Search.{all_from_yields_List}
use borrow.Author.Tests.{tests}
use Rattle.deviation.specs.Statistics.{countable}
use Rattle.deviation.specs.declared.Deviation.{Deviation}
use Rattle.predictorcorrector.proofs.Rows.{first_all}
use Rattle.predictorcorrector.proofs.first_countable.Goals as goal

pub returns : goal.returns
returns c =
    all_from_yields_List (λ (d : Deviation). countable d.count) _ _ _ c.all.ensures.ran
    (YieldsList-from_slice (take c.args.n c.args.list) cc) (λ x b q k. search (rules, tests))
    ∙ first_all c.args.n c.args.list
