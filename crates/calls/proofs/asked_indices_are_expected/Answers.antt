use Rattle.calls.proofs.Indices.{asked_indices_are_expected}
use Rattle.calls.proofs.asked_indices_are_expected.Goals as goal

pub returns : goal.returns
returns c = asked_indices_are_expected
