use mathlib.Core.Path.{refl, sym, ◌∙◌}
use Rattle.verdict_bytes.proofs.Steps.{at_ends, at_adjusts, at_counts, at_stays}
use Rattle.verdict_bytes.proofs.put_state.Goals as goal

pub returns-in-Ends-clause-stored : goal.returns-in-Ends-clause-stored
returns-in-Ends-clause-stored c = (at_ends c.args.state.now _ c.args.r c.args.l c.args.point.now c.args.newest_expected c.write_ended.result c.args.verdict (sym c.change_of.ensures ∙ c.in-Ends.is) c.write_ended.ensures.answer c.write_ended.ensures.stored).1

pub returns-in-Adjusts-clause-stored : goal.returns-in-Adjusts-clause-stored
returns-in-Adjusts-clause-stored c = (at_adjusts c.args.state.now _ c.args.r c.args.l c.args.point.now c.args.newest_expected c.write_adjusted.result c.args.verdict (sym c.change_of.ensures ∙ c.in-Adjusts.is) c.requires _ c.corrected_score.ensures c.write_adjusted.ensures.answer c.write_adjusted.ensures.stored).1

pub returns-in-Counts-clause-stored : goal.returns-in-Counts-clause-stored
returns-in-Counts-clause-stored c = (at_counts c.args.state.now _ c.args.r c.args.l c.args.point.now c.args.newest_expected c.put_rows.result _ _ c.put_rows.ensures.answer c.put_rows.ensures.stored c.args.verdict (sym c.change_of.ensures ∙ c.in-Counts.is)).1

pub returns-in-Stays-clause-stored : goal.returns-in-Stays-clause-stored
returns-in-Stays-clause-stored c = (at_stays c.args.state.now _ c.args.r c.args.l c.args.point.now c.args.newest_expected c.reading_answer.result c.args.verdict (sym c.change_of.ensures ∙ c.in-Stays.is) c.reading_answer.ensures refl).1
