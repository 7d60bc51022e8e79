use mathlib.Core.Path.{◌∙◌, ap, sym}
use Rattle.calls.specs.Calls.{update_auto_adjust, adjusted_by}
use Rattle.calls.proofs.update_auto_adjust.Goals as goal
use Rattle.types.specs.Refusals.{Answer}

pub returns-in-Ok : goal.returns-in-Ok
unfolding update_auto_adjust adjusted_by
returns-in-Ok c =
    let a = c.args in
    let q = c.adjust_answer-answer.ensures in
    let t = c.auto_adjusted.ensures ∙ ap (λ (x : Answer). adjusted_by x a.s a.point.now) (sym c.in-Ok.is ∙ q) in
    λ i. record { answer = q i; state = t i }

pub returns-in-Err : goal.returns-in-Err
unfolding update_auto_adjust adjusted_by
returns-in-Err c =
    let a = c.args in
    let q = c.adjust_answer-answer.ensures in
    let t = ap (λ (x : Answer). adjusted_by x a.s a.point.now) (sym c.in-Err.is ∙ q) in
    λ i. record { answer = q i; state = t i }
