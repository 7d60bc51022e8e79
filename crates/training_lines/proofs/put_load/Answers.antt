use Rattle.std.proofs.Common.{[], sym, refl, ap, ◌∙◌, add-one, arith, rules}
use Rattle.score_rows.proofs.Bytes.{put_none}
use Rattle.training_scores.specs.declared.Stepped.{Stepped}
use Rattle.training_scores.specs.Recurrence.{next, stepped}
use Rattle.training_lines.proofs.Load.{line_length, after, after_last, load_none, load_more}
use Rattle.training_lines.proofs.put_load.Goals as goal

pub loop-i-init : goal.loop-i-init
unfolding after
loop-i-init c = (refl, search rules, refl, rw (load_none c.args.seed) (put_none _ 0 []))

pub loop-i-preserved : goal.loop-i-preserved
unfolding stepped
loop-i-preserved c =
    let seed = c.args.seed in
    let i = c.loop-i.i in
    let next_state = ap (λ (r : Stepped). r.state) c.step-after.ensures in
    let next-score = ap (λ (r : Stepped). r.score) c.step-after.ensures in (
      c.put_score-at.auto.out ∙ c.loop-i.invariant.0,
      omega (arith, c.put_score-at.ensures.place, line_length c.step-after.result.score),
      next_state ∙ ap next c.loop-i.invariant.2 ∙ sym (rw add-one (after_last seed i)),
      load_more seed i c.loop-i.invariant.2 next-score (search rules) c.loop-i.invariant.3 c.put_score-at.ensures,
    )
