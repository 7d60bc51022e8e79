use mathlib.Core.Path.{sym, ◌∙◌}
use Rattle.c_calls.proofs.Steps.{bad_codes, bad_length, bad_size, adjusted, unadjusted}
use Rattle.c_calls.proofs.krcf_update_auto_adjust.Goals as goal

pub returns-in-Ok-answer : goal.returns-in-Ok-answer
returns-in-Ok-answer c = adjusted c.args.state.now c.args.shingle_size c.args.point.now (sym c.state_codes_ok.ensures ∙ c.if-state_codes_ok.true) _ (sym c.read_state.ensures ∙ c.in-Ok.is) _ c.update_auto_adjust-changed.ensures _ c.in-Ok-answer.is c.write_state.ensures

pub returns-in-Err-answer : goal.returns-in-Err-answer
returns-in-Err-answer c = unadjusted c.args.state.now c.args.shingle_size c.args.point.now (sym c.state_codes_ok.ensures ∙ c.if-state_codes_ok.true) _ (sym c.read_state.ensures ∙ c.in-Ok.is) _ c.update_auto_adjust-changed.ensures _ _ c.in-Err-answer.is c.number.ensures

pub returns-then-sizes_ok : goal.returns-then-sizes_ok
returns-then-sizes_ok c = bad_length c.args.state.now c.args.shingle_size c.args.point.now (sym c.state_codes_ok.ensures ∙ c.if-state_codes_ok.true) _ (sym c.read_state.ensures ∙ c.in-Err.is) (sym c.sizes_ok.ensures ∙ c.if-sizes_ok.true)

pub returns-else-sizes_ok : goal.returns-else-sizes_ok
returns-else-sizes_ok c = bad_size c.args.state.now c.args.shingle_size c.args.point.now (sym c.state_codes_ok.ensures ∙ c.if-state_codes_ok.true) _ (sym c.read_state.ensures ∙ c.in-Err.is) (sym c.sizes_ok.ensures ∙ c.if-sizes_ok.false)

pub returns : goal.returns
returns c = bad_codes c.args.state.now c.args.shingle_size c.args.point.now (sym c.state_codes_ok.ensures ∙ c.if-state_codes_ok.false)
