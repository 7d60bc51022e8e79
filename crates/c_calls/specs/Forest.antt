-- What the forest is asked for, over C: the state, the reading and the last descriptor are bytes; of the refusals that apply the smallest is answered, and nothing
-- inside a slice of another length is looked at.
use Rattle.std.specs.Prelude.{ℕ, List, [], ◌∷◌, eqb, length, Result, Ok, Err}
use Rattle.types.specs.Refusals.{number}
use Rattle.layout.specs.Numbers.{flag_byte}
use Rattle.layout.specs.Call.{read_call}
use Rattle.layout.specs.Left.{Left, left}
use Rattle.calls.specs.Calls as Calls
use Rattle.calls.specs.declared.Asked.{Asked}
use Rattle.types.specs.declared.Refusal.{Refusal}
use Rattle.layout.specs.declared.CallRead.{CallRead}

-- What is asked for by what was read.
unfoldable pub asked_by : Result CallRead Refusal → Result Asked Refusal
asked_by (Ok c) = Calls.asked_of_forest c.standing.auto_adjust c.standing.base_dimension c.reading c.last
asked_by (Err why) = Err why

-- What is answered; out is the length of the slice that takes the five numbers.
unfoldable pub asked_over : (state reading last : List ℕ) → (out : ℕ) → Result Asked Refusal
asked_over state reading last out = asked_by (read_call state reading last (eqb out 5))

-- The five numbers: the gap, then 1 for yes and 0 for no.
unfoldable pub numbered : Asked → List ℕ
numbered a = a.gap ∷ flag_byte a.corrected_score ∷ flag_byte a.near_neighbor_list ∷ flag_byte a.new_attribution ∷ flag_byte a.use_difference ∷ []

unfoldable pub noted_by : Result Asked Refusal → List ℕ → Left
noted_by (Ok a) out = left 0 (numbered a)
noted_by (Err why) out = left (number why) out

unfoldable pub asked_of_forest : (state reading last out : List ℕ) → Left
asked_of_forest state reading last out = noted_by (asked_over state reading last (length out)) out
