-- Eleven calm readings by calls that keep the contract: that the statement's premises can be met. Definitions only.
use Rattle.std.specs.Prelude.{ℕ, zero, suc, false, List, [], ◌∷◌, pos, length, Float, Result}
use Rattle.std.specs.Float.{fin}
use Rattle.types.specs.declared.ScoringStrategy.TheVariants.{DISTANCE}
use Rattle.types.specs.declared.TransformMethod.TheVariants as Methods
use Rattle.divector.specs.DiVector.{normalized}
use Rattle.descriptor.specs.Lent.{Lent, lent}
use Rattle.descriptor.specs.declared.Reading.{Reading}
use Rattle.descriptor.specs.declared.LastDescriptor.{LastDescriptor}
use Rattle.predictorcorrector.specs.State as State
use Rattle.predictorcorrector.specs.declared.PredictorCorrector.{PredictorCorrector}
use Rattle.detection.specs.Judging as Exits
use Rattle.detection.specs.Judged.{outcome, state_after, index_after, written}
use Rattle.demand3.specs.Calls.{Judging, Call, detect_and_modify}
use Rattle.detection.specs.declared.Verdict.{Verdict}
use Rattle.types.specs.declared.Refusal.{Refusal}

abbrev pub nought : Float
nought = fin false 0 (pos 0)

abbrev pub one : Float
one = fin false 1 (pos 0)

-- A DISTANCE reading of score 1 on a point of one coordinate, without a last anomaly; what is lent is all 1.
abbrev pub reading : Reading
reading = record {
  shingle_size = 1;
  base_dimension = 1;
  scoring_strategy = DISTANCE;
  transform_method = Methods.NONE;
  time_augmented = false;
  values_seen = 1;
  score = one;
  corrected_score = one;
}

abbrev pub last : LastDescriptor
last = record {
  scoring_strategy = DISTANCE;
  score = nought;
  threshold = nought;
  has_anomaly = false;
  anomaly = record { relative_index = pos 0; values_seen = 0; has_attribution = false; score = nought };
}

abbrev pub ones : List Float
ones = one ∷ []

abbrev pub buffers : Lent
buffers = lent ones ones ones ones [] [] ones ones ones ones ones []

-- What the contract says of it from the state s, and the call.
abbrev pub said : PredictorCorrector → Result Verdict Refusal
said s = outcome s reading last buffers (length ones) (length ones) (length ones)

abbrev pub judging : PredictorCorrector → Judging
judging s = record {
  reading = reading;
  last = last;
  lent = buffers;
  judgment = record {
    outcome = said s;
    relative_index = index_after reading last buffers (said s);
    state = state_after s reading last buffers (said s);
  };
  expected = ones;
  high = ones;
  low = ones;
  expected' = written (said s) ones (Exits.expected reading last buffers);
  high' = written (said s) ones (normalized one ones ones ones);
  low' = written (said s) ones (normalized one ones ones ones);
}

abbrev pub judgings : ℕ → PredictorCorrector → List Call
judgings zero s = []
judgings (suc n) s = detect_and_modify (judging s) ∷ judgings n (judging s).judgment.state

-- Discount 0, no auto adjust, base 1; then eleven of them in turn.
abbrev pub made : PredictorCorrector
made = State.fresh_state nought false 1

abbrev pub eleven : List Call
eleven = judgings 11 made
