use Rattle.std.proofs.Common.{w32, rules}
use mir.ValLaws.{to_z-of_z}
use Rattle.layout.proofs.Words.{flag_is}
use Rattle.layout.proofs.Pasting.{thresholder_pasted}
use Rattle.layout.proofs.put_thresholder.Goals as goal

pub returns : goal.returns
returns c =
    rw (c.put_f32-9.ensures, c.put_f32-8.ensures, c.put_f32-7.ensures, c.put_f32-6.ensures, c.put_f32-5.ensures, c.put_f32-4.ensures, c.put_deviation-3.ensures, c.put_deviation-2.ensures, c.put_deviation.ensures, c.put_f32-3.ensures, c.put_f32-2.ensures, c.put_i32.ensures, c.put_f32.ensures, c.from.ensures, flag_is c.args.s.auto_threshold, to_z-of_z w32 c.args.s.count (search rules))
    (thresholder_pasted c.args.out.now c.args.s c.requires)
