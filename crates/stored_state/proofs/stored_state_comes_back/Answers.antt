use Rattle.stored_state.proofs.Decoded.{round_trip}
use Rattle.stored_state.proofs.stored_state_comes_back.Goals as goal

pub returns : goal.returns
returns c = round_trip
