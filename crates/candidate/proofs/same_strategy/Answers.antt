use Rattle.std.proofs.Common.{◌≡◌, Bool, refl, ◌∙◌}
use denote.Enum as Enum
use Rattle.types.specs.contracts.ScoringStrategy as Contract
use Rattle.types.specs.declared.ScoringStrategy.{ScoringStrategy}
use Rattle.types.specs.declared.ScoringStrategy.TheVariants as Strategy
use Rattle.candidate.specs.Candidate.{same_strategy}
use Rattle.candidate.proofs.same_strategy.Goals as goal

by_cases : (a b : ScoringStrategy) → Enum.Bare.sameb Contract.the_type a b ≡ same_strategy a b
unfolding same_strategy
by_cases Strategy.EXPECTED_INVERSE_HEIGHT Strategy.EXPECTED_INVERSE_HEIGHT = refl
by_cases Strategy.EXPECTED_INVERSE_HEIGHT Strategy.DISTANCE = refl
by_cases Strategy.DISTANCE Strategy.EXPECTED_INVERSE_HEIGHT = refl
by_cases Strategy.DISTANCE Strategy.DISTANCE = refl

pub returns : goal.returns
returns c = c.eq.ensures ∙ by_cases c.args.a c.args.b
