use Rattle.std.proofs.Common.{ℕ, ◌≤◌, List, ◌++◌, length, drop, replicate, ap, ◌∙◌, ap₂, length-take-le}
use Rattle.deviation.specs.declared.Deviation.{Deviation}
use Rattle.predictorcorrector.specs.Lists.{changed}
use Rattle.predictorcorrector.specs.State.{fresh_list}
use Rattle.predictorcorrector.proofs.Rows.{changed_to}
use Rattle.predictorcorrector.proofs.fresh_row.Goals as goal

pub returns : goal.returns
unfolding fresh_list
returns c =
    let n = c.args.n in
    let zeros = replicate 16 c.default-out.result in
    let few : n ≤ length zeros = c.requires in
    ap (λ (l : List Deviation). l ++ drop n zeros) (c.fill.ensures.after (λ y e. e) ∙ ap (λ (k : ℕ). replicate k c.create.result) (length-take-le n zeros few))
    ∙ changed_to c.create.result n zeros few
    ∙ ap₂ (λ (x y : Deviation). changed (λ (old : Deviation). x) n (replicate 16 y)) c.create.ensures c.default-out.ensures
