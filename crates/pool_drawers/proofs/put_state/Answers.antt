use Prim.Native.Nat.{◌+◌, ◌-◌}
use Rattle.pool_drawers.proofs.Calls.{state_put}
use native.Mathlib.Omega.{arith}
use Rattle.pool_drawers.proofs.put_state.Goals as goal

pub returns : goal.returns
returns c = state_put c.args.pool.now _ c.args.at (c.args.at + 1310 - c.args.at) _ c.requires.long c.requires.room (omega arith) c.write_state.ensures
