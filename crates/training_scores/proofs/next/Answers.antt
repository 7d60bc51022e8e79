use Rattle.std.proofs.Common.{ℕ, ◌+◌, ◌%◌, ◌^◌, ap, ◌∙◌}
use native.Mathlib.Nat.{mod-add-mod}
use Rattle.training_scores.specs.Recurrence.{next}
use Rattle.training_scores.proofs.next.Goals as goal

pub returns : goal.returns
unfolding next
returns c = (c.wrapping_add_u64.ensures.value) ∙ ap (λ (n : ℕ). (n + 1442695040888963407) % 2 ^ 64) c.wrapping_mul_u64.ensures ∙ mod-add-mod _ (2 ^ 64) _
