use Rattle.predictorcorrector.proofs.Rows.{thresholder_ok}
use Rattle.layout.specs.Chain.{decode_state}
use Rattle.layout.proofs.put_entered.Goals as goal

pub put_scores-requires-clause-counts : goal.put_scores-requires-clause-counts
unfolding decode_state
put_scores-requires-clause-counts c = thresholder_ok (decode_state c.args.out.now) c.requires.counts
