use Rattle.corrector.proofs.Laws.{shifted_is}
use Rattle.corrector.proofs.shift_in.Goals as goal

pub returns : goal.returns
returns c =
    let a = c.args in
    let p = c.requires in
    shifted_is a.point.now a.expected.now a.shift p.shift_in_bounds p.expected_len a.out.now _ _ p.out_len c.copy.ensures c.copy-2.ensures
