use Rattle.score_rows.specs.Text.{bits}
use Rattle.training_lines.specs.Output.{score_line}
use Rattle.training_lines.proofs.score_line.Goals as goal

pub returns : goal.returns
unfolding score_line bits
returns c = simp (c.glyph.ensures, c.glyph-2.ensures, c.glyph-3.ensures, c.glyph-4.ensures, c.glyph-5.ensures, c.glyph-6.ensures, c.glyph-7.ensures, c.glyph-8.ensures, c.f32_to_bits-a.ensures)
