use Rattle.ieee.proofs.Rooting.{shifted_lt, rooted}
use Rattle.ieee.proofs.root_pattern.Goals as goal

-- `ieee::root_pattern` meets its contract: `proofs/Rooting.antt` says that what is nearest to the root of the digits is nearest to the root. Assumes nothing.

pub root-requires-clause-w_bound : goal.root-requires-clause-w_bound
root-requires-clause-w_bound c = shifted_lt c.args.q c.args.j c.requires.q_least c.requires.q_bound c.requires.j_bound

pub returns-clause-rooted : goal.returns-clause-rooted
returns-clause-rooted c = rooted c.args.q c.args.j c.requires.q_least c.requires.q_bound c.requires.j_bound c.root.result c.root.ensures
