use Rattle.deviation.proofs.Laws.{picked, passed}
use Rattle.basicthresholder.specs.Updates.{updated}
use Rattle.basicthresholder.proofs.by_counts.Goals as goal

pub returns-then-counts_ok : goal.returns-then-counts_ok
unfolding updated
returns-then-counts_ok c = picked _ _ c.counts_ok.ensures c.if-counts_ok.true

pub returns : goal.returns
unfolding updated
returns c = passed _ _ c.counts_ok.ensures c.if-counts_ok.false
