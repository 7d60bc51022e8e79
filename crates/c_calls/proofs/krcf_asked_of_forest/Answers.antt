use Rattle.c_calls.proofs.Over.{five_long, asked_placed, asked_refused}
use Rattle.c_calls.proofs.krcf_asked_of_forest.Goals as goal

pub put_asked-requires : goal.put_asked-requires
put_asked-requires c = five_long c.args.state.now c.args.reading.now c.args.last.now c.args.out.now _ c.asked_over.ensures _ c.in-Ok.is

pub returns-in-Ok : goal.returns-in-Ok
returns-in-Ok c = asked_placed c.args.state.now c.args.reading.now c.args.last.now c.args.out.now _ c.asked_over.ensures _ _ c.in-Ok.is c.put_asked.ensures

pub returns-in-Err : goal.returns-in-Err
returns-in-Err c = asked_refused c.args.state.now c.args.reading.now c.args.last.now c.args.out.now _ c.asked_over.ensures _ _ c.in-Err.is c.number.ensures
