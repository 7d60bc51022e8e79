use Rattle.std.proofs.Common.{◌≡◌, ℕ, List, ◌++◌, length, take, drop, refl, ap, ◌∙◌, length-take-le, arith, rules}
use Rattle.deviation.specs.Statistics.{reset}
use Rattle.deviation.specs.declared.Deviation.{Deviation}
use Rattle.predictorcorrector.specs.Lists.{changed}
use Rattle.predictorcorrector.proofs.Rows.{changed_more, changed_front}
use Rattle.predictorcorrector.proofs.reset_row.Goals as goal

pub loop-d-init : goal.loop-d-init
unfolding changed
loop-d-init c = refl

pub loop-d-preserved : goal.loop-d-preserved
loop-d-preserved c = changed_more reset c.loop-d.d-index (take c.args.n c.args.list) c.loop-d.d-items _ _ c.loop-d.invariant c.reset.ensures c.loop-d-test.true

pub returns : goal.returns
returns c =
    let long : length c.args.list ≡ 16 = search rules in
    let whole : c.loop-d.d-index ≡ c.args.n = omega (arith, length-take-le c.args.n c.args.list) in
    ap (λ (l : List Deviation). l ++ drop c.args.n c.args.list) (c.loop-d.invariant ∙ ap (λ (i : ℕ). changed reset i (take c.args.n c.args.list)) whole)
    ∙ changed_front reset c.args.n c.args.list
