use native.Mathlib.Omega.{arith}
use Rattle.score_rows.proofs.Bytes.{put_then, decimal_length}
use Rattle.score_rows.specs.Text.{bad}
use Rattle.score_rows.proofs.put_bad.Goals as goal

pub returns : goal.returns
unfolding bad
returns c = put_then c.put_all-a.ensures c.put_decimal.ensures (omega (arith, decimal_length c.args.number, c.requires))
