-- Laying out a pool, opening and removing a drawer, listing all: what each call answers, and every byte afterwards. A refused call changes none.
use Rattle.std.specs.Prelude.{ℕ, zero, suc, ◌-◌, cond, ◌&&◌, List, ◌++◌, eqb, length, replicate, Float, Result, Ok, Err}
use Rattle.types.specs.Refusals.{number}
use Rattle.types.specs.declared.Refusal.TheVariants as Refusals
use Rattle.predictorcorrector.specs.State.{new}
use Rattle.layout.specs.Places.{state_length}
use Rattle.layout.specs.Left.{Left, left}
use Rattle.c_chain.specs.States.{chain_made}
use Rattle.record_pool.specs.Pool.{pool_length, rules_ok, locate, vacancy, numbers_of, with_header, with_next, opened, removed}
use Rattle.record_pool.specs.declared.Slot.{Slot}
use Rattle.types.specs.declared.Refusal.{Refusal}

-- An empty pool: zeros but for its free chain, which runs from 1 to 30.
abbrev pub behind : ℕ → ℕ
behind i = cond (eqb i 30) 0 (suc i)

unfoldable pub laid_records : ℕ → List ℕ → List ℕ
laid_records zero xs = xs
laid_records (suc k) xs = with_next (laid_records k xs) (suc k) (behind (suc k))

unfoldable pub laid_out : List ℕ
laid_out = laid_records 30 (with_header (replicate pool_length 0) 0 0 1)

-- Refused for its length alone.
unfoldable pub lay_out : List ℕ → Left
lay_out xs = cond (eqb (length xs) pool_length) (left 0 laid_out) (left (number Refusals.Pool) xs)

-- ---- opening: 13, then 11, then 12, then what `krcf_new` refuses; the state is the one that it makes, and zeros stand behind it.
abbrev pub opened_with : Left → ℕ → List ℕ → Left
opened_with made d xs = cond (eqb made.answer 0) (left 0 (opened xs d (made.bytes ++ replicate (2040 - state_length) 0))) (left made.answer xs)

abbrev pub open_by : Result Slot Refusal → Left → ℕ → List ℕ → Left
open_by (Ok s) made d xs = opened_with made d xs
open_by (Err why) made d xs = left (number why) xs

unfoldable pub opening : ℕ → (discount : Float) → (adjust base : ℕ) → List ℕ → Left
opening d discount adjust base xs = open_by (vacancy xs d) (chain_made (new discount (eqb adjust 1) base) adjust (replicate state_length 0)) d xs

-- ---- removing: 13, then 11
abbrev pub remove_by : Result Slot Refusal → List ℕ → Left
remove_by (Ok s) xs = left 0 (removed xs s.front s.index)
remove_by (Err why) xs = left (number why) xs

unfoldable pub remove : ℕ → List ℕ → Left
remove d xs = remove_by (locate xs d) xs

-- ---- listing: 13 for a pool that breaks the rules, or a slice that has not thirty places
unfoldable pub list : List ℕ → List ℕ → Left
list xs out = cond (eqb (length out) 30 && rules_ok xs) (left 0 (numbers_of xs)) (left (number Refusals.Pool) out)
