-- Rule 13, and what each call does to the two chains: what this crate proves. The quoted words are document 02's. Definitions only.
use Rattle.std.specs.Prelude.{ℕ, zero, suc, ◌+◌, ◌≤◌, ◌<◌, ◌≡◌, ◌≢◌, true, cond, List, [], ◌∷◌, ◌++◌, eqb, ltb, length, get_or, replicate, Float, Ok}
use Rattle.layout.specs.Chain.{encode_state_over}
use Rattle.layout.specs.Places.{state_length}
use Rattle.predictorcorrector.specs.State.{new, fresh_state}
use Rattle.record_pool.specs.Lists.{occ}
use Rattle.record_pool.specs.Chains as Chains
use Rattle.record_pool.specs.Pool.{pool_length, place, count_of, first_used, first_free, next_at, number_at, flags_at, state_of, used_of, free_of, rules_ok, record_of, numbers_of}
use Rattle.pool_drawers.specs.Drawers.{laid_out, opening, remove}
use Rattle.pool_settings.specs.Settings.{Setting}
use Rattle.pool_laws.specs.Calls.{Asked, Reply, Call, sets, judges, Contract, after, answer_of, SlicesStay}

-- Document 02's words of a pool whose used chain is us and whose free chain is fs.
abbrev pub Words : List ℕ → List ℕ → List ℕ → Type 0
Words xs us fs = Chains.Rules (count_of xs) (first_used xs) (first_free xs) (next_at xs) (number_at xs) (flags_at xs) us fs

-- i, i + 1, .. : k of them.
abbrev pub up_from : (k i : ℕ) → List ℕ
up_from zero i = []
up_from (suc k) i = i ∷ up_from k (suc i)

pub record PoolRules : Type 0 where
  -- The test is the words: of a pool that passes they hold of its two chains; where they hold of any two lists, these are its chains, and it passes.
  pub means : (xs : List ℕ) → rules_ok xs ≡ true → (length xs ≡ pool_length) × Words xs (used_of xs) (free_of xs)
  pub meant : (xs us fs : List ℕ) → length xs ≡ pool_length → Words xs us fs → (rules_ok xs ≡ true) × (used_of xs ≡ us) × (free_of xs ≡ fs)
  -- An empty pool passes; its free chain runs from 1 to 30.
  pub empty : (rules_ok laid_out ≡ true) × (used_of laid_out ≡ []) × (free_of laid_out ≡ up_from 30 1)
  -- "After every call that 13 doesn't refuse" the rules hold, and a refused call changes no byte: none of the pool, and none of the slices that it may write beside it.
  pub kept : (xs : List ℕ) (c : Call) → Contract xs c → answer_of c ≢ 13 → rules_ok (after xs c) ≡ true
  pub refused : (xs : List ℕ) (c : Call) → Contract xs c → answer_of c ≢ 0 → (after xs c ≡ xs) × SlicesStay c
  -- An opening takes the first free record and makes it the first used, with the state that `new` answers.
  pub opened : (xs : List ℕ) (d : ℕ) (discount : Float) (adjust base : ℕ) → let o = opening d discount adjust base xs in o.answer ≡ 0
      → (used_of o.bytes ≡ first_free xs ∷ used_of xs) × (free_of xs ≡ first_free xs ∷ free_of o.bytes) × (record_of o.bytes d ≡ first_free xs)
      × (new discount (eqb adjust 1) base ≡ Ok (fresh_state discount (eqb adjust 1) base))
      × (state_of o.bytes d ≡ encode_state_over (replicate state_length 0) (fresh_state discount (eqb adjust 1) base))
  -- A removed drawer is gone; its record becomes the first free, its other bytes zero, and the used chain is what it was without it.
  pub removed : (xs : List ℕ) (d : ℕ) → let o = remove d xs in o.answer ≡ 0
      → (record_of o.bytes d ≡ 0) × (free_of o.bytes ≡ record_of xs d ∷ free_of xs)
      × ((ys : List ℕ) × (zs : List ℕ) × (used_of xs ≡ ys ++ record_of xs d ∷ zs) × (used_of o.bytes ≡ ys ++ zs))
      × ((n : ℕ) → place (record_of xs d) + 4 ≤ n → n < place (record_of xs d) + 2048 → get_or o.bytes n 0 ≡ 0)
  -- A setting and a judgment leave both chains.
  pub set_stays : (xs : List ℕ) (d : ℕ) (c : Setting) (n : ℕ) (ys : List ℕ) → Contract xs (sets d c n ys) → (used_of ys ≡ used_of xs) × (free_of ys ≡ free_of xs)
  pub judged_stays : (xs : List ℕ) (d : ℕ) (a : Asked) (t : Reply) (ys : List ℕ) → Contract xs (judges d a t ys) → (used_of ys ≡ used_of xs) × (free_of ys ≡ free_of xs)
  -- A listing has thirty places: at place k, counted from 0, the number of the used record there, and zeros from the count on. Each drawer stands in it once.
  pub listed : (xs : List ℕ) → rules_ok xs ≡ true
      → (length (numbers_of xs) ≡ 30) × ((k : ℕ) → get_or (numbers_of xs) k 0 ≡ cond (ltb k (count_of xs)) (number_at xs (get_or (used_of xs) k 0)) 0)
      × ((d : ℕ) → 1 ≤ d → occ d (numbers_of xs) ≡ cond (eqb (record_of xs d) 0) 0 1)
