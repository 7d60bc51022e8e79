use Rattle.ieee.proofs.Rooting.{plain}
use Rattle.ieee.proofs.root.Goals as goal

-- `ieee::root` meets its contract: `proofs/Rooting.antt` says what the comparisons with `square` mean. Assumes nothing.

pub returns-then-square-v : goal.returns-then-square-v
returns-then-square-v c =
    plain c.args.w c.args.c c.requires.w_bound c.requires.c_least c.requires.c_bound c.if-v-square.true c.if-square-v.true
