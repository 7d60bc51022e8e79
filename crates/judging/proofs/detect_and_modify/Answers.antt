use lib.ListN.{length}
use mir.Syntax.{w32}
use mir.ValLaws.{to_z-of_z}
use Rattle.descriptor.specs.Lent.{lists_of}
use Rattle.detection.proofs.ByState.{fitting, judged}
use borrow.Author.Rules.{rules}
use Rattle.judging.proofs.detect_and_modify.Goals as goal

pub state_after-requires : goal.state_after-requires
state_after-requires c =
    let a = c.args in
    let b = lists_of a.b in
    fitting a.r a.l b c.standing_of.result (length a.expected.now) (length a.out_high.now) (length a.out_low.now) c.judge-decision.result.outcome c.judge-decision.ensures.says

pub returns : goal.returns
returns c =
    let a = c.args in
    let b = lists_of a.b in
    judged a.s c.standing_of.ensures.actual_long c.standing_of.ensures.expected_long a.r a.l b c.standing_of.result c.standing_of.ensures.standing c.judge-decision.result _ c.state_after.result a.expected.now a.out_high.now a.out_low.now _ _ _ (to_z-of_z w32 c.judge-decision.result.relative_index (search rules)) c.judge-decision.ensures c.state_after.ensures
