use mathlib.Core.Path.{ap₂, ◌∙◌}
use native.Mathlib.Omega.{arith}
use Rattle.io.specs.Digits.{last_digits}
use Rattle.score_rows.proofs.Bytes.{eight}
use Rattle.score_rows.specs.Text.{bits}
use borrow.Author.Rules.{rules}
use Rattle.score_rows.proofs.put_bits.Goals as goal

pub put_all-requires : goal.put_all-requires
put_all-requires c = omega (arith, c.hex-k.ensures.in_bounds.1, eight _ _ (search rules) c.hex-k.ensures.len)

pub returns : goal.returns
unfolding bits
returns c = rw (c.hex-k.ensures.digits ∙ ap₂ (last_digits 16) (eight _ _ (search rules) c.hex-k.ensures.len) c.f32_to_bits.ensures) at c.put_all.ensures
