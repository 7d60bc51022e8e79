use Rattle.std.proofs.Common.{w32, rules}
use mir.ValLaws.{to_z-of_z}
use Rattle.layout.proofs.Pasting.{deviation_pasted}
use Rattle.layout.proofs.put_deviation.Goals as goal

pub returns : goal.returns
returns c = rw (c.put_i32.ensures, c.put_f64-4.ensures, c.put_f64-3.ensures, c.put_f64-2.ensures, c.put_f64.ensures, to_z-of_z w32 c.args.d.count (search rules)) (deviation_pasted c.args.out.now c.args.at c.args.d c.requires)
