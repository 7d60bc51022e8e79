use Rattle.c_interface.proofs.Steps.{set_no, set_yes}
use Rattle.c_interface.proofs.write_measured.Goals as goal

pub returns-in-None : goal.returns-in-None
returns-in-None c = set_no _ c.args.out.now c.requires c.in-None.is

pub returns-in-Some : goal.returns-in-Some
returns-in-Some c = set_yes _ _ c.args.out.now _ c.requires c.in-Some.is c.write_f64.ensures
