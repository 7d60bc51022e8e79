use Rattle.scoring.specs.Scores.{block_of}
use Rattle.std.proofs.Common.{rules}
use Rattle.scoring.proofs.block_of.Goals as goal

pub returns-in-Ok : goal.returns-in-Ok
unfolding block_of
returns-in-Ok c = search rules

pub returns-in-Err : goal.returns-in-Err
unfolding block_of
returns-in-Err c = search rules
