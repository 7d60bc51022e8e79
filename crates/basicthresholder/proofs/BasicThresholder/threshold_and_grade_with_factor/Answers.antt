use Rattle.std.proofs.Common.{ap, ◌∙◌, w32, rules}
use mir.ValLaws.{to_z-of_z}
use Rattle.basicthresholder.specs.Grades.{threshold_and_grade_with_factor, intermediate_fraction}
use Rattle.basicthresholder.proofs.BasicThresholder.threshold_and_grade_with_factor.Goals as goal

pub returns : goal.returns
unfolding threshold_and_grade_with_factor
returns c = simp (c.grade_against.ensures, c.threshold_from-threshold.ensures, c.absolute-absolute.ensures, c.long_term_deviation-long_term.ensures, c.is_differenced.ensures, c.adjusted_factor-new_factor.ensures, c.is_none.ensures, c.narrow-t.ensures, c.narrow.ensures, c.mean_or_zero.ensures, c.deviation_or_zero-first.ensures, c.is_deviation_ready-ready.ensures, c.intermediate_fraction-fraction.ensures ∙ ap intermediate_fraction (to_z-of_z w32 c.args.self.count (search rules)))
