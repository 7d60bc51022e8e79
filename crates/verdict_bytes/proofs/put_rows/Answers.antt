use mathlib.Core.Path.{◌≡◌, refl}
use borrow.Author.Rules.{rules}
use Prim.Native.Nat.{◌-◌}
use lib.ListN.{length}
use Rattle.detection.proofs.Work.{tail_is}
use Rattle.verdict_bytes.proofs.Steps.{rows_counted_lem, rows_entered}
use Rattle.verdict_bytes.proofs.put_rows.Goals as goal

pub returns-then-is_candidate-clause-answer : goal.returns-then-is_candidate-clause-answer
returns-then-is_candidate-clause-answer c =
    let long : length c.args.newest_expected ≡ 16 = search rules in
    (rows_counted_lem c.args.state.now c.args.r c.args.l c.args.threshold c.args.point.now c.args.newest_expected c.args.grows c.run_length-run.result c.run_length-run.ensures c.is_candidate.result c.is_candidate.ensures c.write_counted.result _ c.corrected_score-corrected.result c.corrected_score-corrected.ensures c.requires long c.if-is_candidate.true _ _
    (tail_is c.args.point.now (length c.args.point.now - c.args.r.base_dimension)) refl c.write_counted.ensures.answer c.write_counted.ensures.stored).0

pub returns-then-is_candidate-clause-stored : goal.returns-then-is_candidate-clause-stored
returns-then-is_candidate-clause-stored c =
    let long : length c.args.newest_expected ≡ 16 = search rules in
    (rows_counted_lem c.args.state.now c.args.r c.args.l c.args.threshold c.args.point.now c.args.newest_expected c.args.grows c.run_length-run.result c.run_length-run.ensures c.is_candidate.result c.is_candidate.ensures c.write_counted.result _ c.corrected_score-corrected.result c.corrected_score-corrected.ensures c.requires long c.if-is_candidate.true _ _
    (tail_is c.args.point.now (length c.args.point.now - c.args.r.base_dimension)) refl c.write_counted.ensures.answer c.write_counted.ensures.stored).1

pub returns-clause-stored : goal.returns-clause-stored
returns-clause-stored c = (rows_entered c.args.state.now c.args.r c.args.l c.args.threshold c.args.point.now c.args.newest_expected c.args.grows c.run_length-run.result c.run_length-run.ensures c.is_candidate.result c.is_candidate.ensures c.write_entered.result _ c.corrected_score-corrected.result c.corrected_score-corrected.ensures c.if-is_candidate.false c.write_entered.ensures.answer c.write_entered.ensures.stored).1
