use Rattle.std.specs.Prelude.{Ok, Err}
use lib.ListN.{length}
use Rattle.descriptor.specs.Lent.{lists_of}
use Rattle.detection.proofs.Entry.{accepting}
use Rattle.detection.proofs.Modes.{not_drift}
use Rattle.detection.proofs.Settle.{ended, way_decided, calm_left, past_fits}
use Rattle.detection.specs.declared.Verdict.TheVariants.{Quiet, Corrected, Skipped}
use Rattle.detection.proofs.judge.Goals as goal

pub find_way-way-requires : goal.find_way-way-requires
find_way-way-requires c =
    let a = c.args in
    let b = lists_of a.b in
    accepting a.r a.l b a.k.base_dimension (length a.expected.now) (length a.out_high.now) (length a.out_low.now) a.k.counts_ok c.answer-answer.result c.answer-answer.ensures

pub past_noise-requires : goal.past_noise-requires
past_noise-requires c =
    let a = c.args in
    let b = lists_of a.b in
    let p = past_fits a.k a.r a.l b (length a.expected.now) (length a.out_high.now) (length a.out_low.now) c.answer-answer.result c.answer-answer.ensures c.find_way-way.result _ _ c.find_way-way.ensures c.in-Past.is in
    record { branching = p.0; writing = p.1 }

pub returns-in-Refused : goal.returns-in-Refused
unfolding ended
returns-in-Refused c =
    let a = c.args in
    let b = lists_of a.b in
    way_decided a.k a.r a.l b _ a.expected.now a.out_high.now a.out_low.now _ _ _ c.answer-answer.result c.answer-answer.ensures c.find_way-way.result _ c.find_way-way.ensures c.in-Refused.is
    (calm_left a.r a.l b a.expected.now a.out_high.now a.out_low.now (Err _) _ tt c.without_row.ensures)

pub returns-in-Skipped : goal.returns-in-Skipped
unfolding ended
returns-in-Skipped c =
    let a = c.args in
    let b = lists_of a.b in
    way_decided a.k a.r a.l b _ a.expected.now a.out_high.now a.out_low.now _ _ _ c.answer-answer.result c.answer-answer.ensures c.find_way-way.result _ c.find_way-way.ensures c.in-Skipped.is
    (calm_left a.r a.l b a.expected.now a.out_high.now a.out_low.now (Ok Skipped) _ tt c.without_row-in-Skipped.ensures)

pub returns-in-Quiet : goal.returns-in-Quiet
unfolding ended
returns-in-Quiet c =
    let a = c.args in
    let b = lists_of a.b in
    way_decided a.k a.r a.l b _ a.expected.now a.out_high.now a.out_low.now _ _ _ c.answer-answer.result c.answer-answer.ensures c.find_way-way.result _ c.find_way-way.ensures c.in-Quiet.is
    (calm_left a.r a.l b a.expected.now a.out_high.now a.out_low.now (Ok (Quiet _)) _ tt c.without_row-in-Quiet.ensures)

pub returns-in-Corrected : goal.returns-in-Corrected
unfolding ended
returns-in-Corrected c =
    let a = c.args in
    let b = lists_of a.b in
    way_decided a.k a.r a.l b _ a.expected.now a.out_high.now a.out_low.now _ _ _ c.answer-answer.result c.answer-answer.ensures c.find_way-way.result _ c.find_way-way.ensures c.in-Corrected.is
    (calm_left a.r a.l b a.expected.now a.out_high.now a.out_low.now (Ok (Corrected _ _)) _ (not_drift a.r a.l b a.k.basic_thresholder c.answer-answer.result c.find_way-way.result _ _ c.find_way-way.ensures c.in-Corrected.is) c.without_row-in-Corrected.ensures)

pub returns-in-Past : goal.returns-in-Past
unfolding ended
returns-in-Past c =
    let a = c.args in
    let b = lists_of a.b in
    way_decided a.k a.r a.l b _ a.expected.now a.out_high.now a.out_low.now _ _ _ c.answer-answer.result c.answer-answer.ensures c.find_way-way.result _ c.find_way-way.ensures c.in-Past.is c.past_noise.ensures
