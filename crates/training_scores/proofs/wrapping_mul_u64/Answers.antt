use Rattle.std.proofs.Common.{ℕ, ◌+◌, ◌*◌, ◌%◌, ◌^◌, ap, ◌∙◌}
use Rattle.training_scores.proofs.Product.{by_halves}
use Rattle.training_scores.proofs.wrapping_mul_u64.Goals as goal

abbrev half : ℕ
half = 0x1_0000_0000

pub returns : goal.returns
returns c =
    let a = c.args.a in
    let b = c.args.b in
    (c.wrapping_add_u64.ensures.value)
    ∙ ap (λ (m : ℕ). (a % half * (b % half) + m % half * half) % 2 ^ 64) (c.wrapping_add_u64-crossed.ensures.value)
    ∙ by_halves half a b
