-- Calls of the C functions over one lent state, each by its bytes and its answer alone, and what the ledger's statement is told and shown of them. The quoted
-- words are document 01's. Definitions only.
use Rattle.std.specs.Prelude.{ℕ, ◌≡◌, Bool, not, cond, List, [], ◌∷◌, T, eqb, length, get_or, Float}
use Rattle.std.specs.Float.{binary32, binary64}
use Rattle.std.specs.Float.Ieee.{fits}
use Rattle.basicthresholder.specs.Const.{zero32, one32, z_factor_default}
use Rattle.ledger.specs.Statement.{Told, Shown}
use Rattle.descriptor.specs.Lent.{Lent}
use Rattle.predictorcorrector.specs.State.{new, z_factor_set}
use Rattle.predictorcorrector.specs.declared.PredictorCorrector.{PredictorCorrector}
use Rattle.layout.specs.Places.{reading_length, strategy_at, score_at, kind_at, threshold_at, grade_at}
use Rattle.layout.specs.Numbers.{f32_at}
use Rattle.layout.specs.Left.{left}
use Rattle.c_chain.specs.States.{chain_set, horizon_set_in, chain_made}
use Rattle.c_judging.specs.Judging.{Answered}

-- ---- the calls
-- `krcf_detect_and_modify`: the bytes of the reading and of the last descriptor, the lent buffers, its answer, the state's bytes afterwards, and the other slices
-- that it may write, before and after.
pub record Judging : Type 0 where
  pub reading : List ℕ
  pub last : List ℕ
  pub lent : Lent
  pub answer : ℕ
  pub expected : List Float
  pub high : List Float
  pub low : List Float
  pub verdict : List ℕ
  pub state' : List ℕ
  pub expected' : List Float
  pub high' : List Float
  pub low' : List Float
  pub verdict' : List ℕ

-- A call: what it took beside the state's bytes, then its answer and the state's bytes afterwards. `krcf_new` took the discount, the yes/no of auto adjust and the
-- base dimension, and the bytes that the state was to stand in.
pub data Call : Type 0 where
  krcf_new : Float → ℕ → ℕ → List ℕ → ℕ → List ℕ → Call
  krcf_chain_set_z_factor : Float → ℕ → List ℕ → Call
  krcf_chain_set_horizon : Float → ℕ → List ℕ → Call
  krcf_detect_and_modify : Judging → Call

-- ---- calls in turn
-- The contract of `krcf_detect_and_modify`, for a call over the state's bytes xs; and one that was on a DISTANCE reading: of its 23 bytes the strategy's is not 0. (1
-- is DISTANCE's code, and the call refuses every larger one.)
abbrev pub Contract : List ℕ → Judging → Type 0
Contract xs c =
    Answered xs c.reading c.last c.lent c.answer c.expected c.high c.low c.verdict c.state' c.expected' c.high' c.low' c.verdict'

pub record Kept (xs : List ℕ) (c : Judging) : Type 0 where
  pub contract : Contract xs c
  pub distance : length c.reading ≡ reading_length → T (not (eqb (get_or c.reading strategy_at 0) 0))

-- Each over the bytes that the one before it left: "nothing else writes the state in between". A refused one is among them.
abbrev pub JudgedInTurn : List ℕ → List Call → Type 0
JudgedInTurn xs [] = Unit
JudgedInTurn xs (krcf_new d auto base out n ys ∷ cs) = ⊥
JudgedInTurn xs (krcf_chain_set_z_factor x n ys ∷ cs) = ⊥
JudgedInTurn xs (krcf_chain_set_horizon x n ys ∷ cs) = ⊥
JudgedInTurn xs (krcf_detect_and_modify c ∷ cs) = Kept xs c × JudgedInTurn c.state' cs

-- "Only z and horizon may be set, before the first reading." A setting that is refused is among them. Each is an f32.
abbrev pub SetInTurn : List ℕ → List Call → Type 0
SetInTurn xs [] = Unit
SetInTurn xs (krcf_new d auto base out n ys ∷ cs) = ⊥
SetInTurn xs (krcf_chain_set_z_factor x n ys ∷ cs) =
    T (fits binary32 x) × (left n ys ≡ chain_set (λ (s : PredictorCorrector). z_factor_set s x) xs) × SetInTurn ys cs
SetInTurn xs (krcf_chain_set_horizon x n ys ∷ cs) = T (fits binary32 x) × (left n ys ≡ horizon_set_in x xs) × SetInTurn ys cs
SetInTurn xs (krcf_detect_and_modify c ∷ cs) = JudgedInTurn xs (krcf_detect_and_modify c ∷ cs)

-- "Fresh here is a newly built state": a construction that answered 0, its discount an f64, then settings, then judgments.
pub record Made (d : Float) (auto base : ℕ) (out : List ℕ) (n : ℕ) (xs : List ℕ) : Type 0 where
  pub discount : T (fits binary64 d)
  pub contract : left n xs ≡ chain_made (new d (eqb auto 1) base) auto out
  pub accepted : n ≡ 0

abbrev pub InTurn : List Call → Type 0
InTurn [] = ⊥
InTurn (krcf_new d auto base out n xs ∷ cs) = Made d auto base out n xs × SetInTurn xs cs
InTurn (krcf_chain_set_z_factor x n ys ∷ cs) = ⊥
InTurn (krcf_chain_set_horizon x n ys ∷ cs) = ⊥
InTurn (krcf_detect_and_modify c ∷ cs) = ⊥

-- The z factor that a list judges by: the last that it set, else the one before, z.
abbrev pub z_after : Float → List Call → Float
z_after z [] = z
z_after z (krcf_new d auto base out n ys ∷ cs) = z_after z cs
z_after z (krcf_chain_set_z_factor x n ys ∷ cs) = z_after x cs
z_after z (krcf_chain_set_horizon x n ys ∷ cs) = z_after z cs
z_after z (krcf_detect_and_modify c ∷ cs) = z_after z cs

abbrev pub z_of : List Call → Float
z_of cs = z_after z_factor_default cs

-- No call sets it.
abbrev pub ZUnset : List Call → Type 0
ZUnset [] = Unit
ZUnset (krcf_new d auto base out n ys ∷ cs) = ZUnset cs
ZUnset (krcf_chain_set_z_factor x n ys ∷ cs) = ⊥
ZUnset (krcf_chain_set_horizon x n ys ∷ cs) = ZUnset cs
ZUnset (krcf_detect_and_modify c ∷ cs) = ZUnset cs

-- ---- what the ledger is told of a judgment: whether its answer is a refusal, and the score in its reading's bytes
abbrev pub is_refused : Judging → Bool
is_refused c = not (eqb c.answer 0)

abbrev pub score_of : Judging → Float
score_of c = f32_at c.reading score_at

abbrev pub told_of : List Call → List Told
told_of [] = []
told_of (krcf_new d auto base out n ys ∷ cs) = told_of cs
told_of (krcf_chain_set_z_factor x n ys ∷ cs) = told_of cs
told_of (krcf_chain_set_horizon x n ys ∷ cs) = told_of cs
told_of (krcf_detect_and_modify c ∷ cs) = record { refused = is_refused c; score = score_of c } ∷ told_of cs

-- ---- what the bytes of its verdict show: kind (0 quiet, 1 corrected, 2 raised, 3 skipped), threshold and grade
abbrev pub kind_in : List ℕ → ℕ
kind_in ys = get_or ys kind_at 0

abbrev pub threshold_in : List ℕ → Float
threshold_in ys = f32_at ys threshold_at

abbrev pub grade_in : List ℕ → Float
grade_in ys = f32_at ys grade_at

-- The opening grade is not among the bytes, but whether it is 0: it is for the kind "quiet" alone (`Opens`). The ledger's statement asks only whether it is above 0.
abbrev pub opening_in : List ℕ → Float
opening_in ys = cond (eqb (kind_in ys) 0) zero32 one32

abbrev pub shown_of : List Call → List Shown
shown_of [] = []
shown_of (krcf_new d auto base out n ys ∷ cs) = shown_of cs
shown_of (krcf_chain_set_z_factor x n ys ∷ cs) = shown_of cs
shown_of (krcf_chain_set_horizon x n ys ∷ cs) = shown_of cs
shown_of (krcf_detect_and_modify c ∷ cs) =
    record { threshold = threshold_in c.verdict'; opening = opening_in c.verdict'; ends = grade_in c.verdict' } ∷ shown_of cs
