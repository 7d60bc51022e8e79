-- Eleven calm readings in drawer 1 of a pool that was empty, by calls that keep the contract: that the statement's premises can be met. Definitions only.
use Rattle.std.specs.Prelude.{ℕ, zero, suc, List, [], ◌∷◌}
use Rattle.demand3_over_c.specs.Calls.{Judging}
pub use Rattle.demand3_over_c.specs.Calm.{nought}
use Rattle.demand3_over_c.specs.Calm.{judging}
use Rattle.record_pool.specs.Pool.{state_of, record_of, with_state}
use Rattle.pool_drawers.specs.Drawers.{laid_out, opening}
use Rattle.pool_laws.specs.Calls.{Asked, Reply, Call, judges}

-- What a call over C took and what it told, as a judgment in a pool has them.
abbrev pub asked : Judging → Asked
asked c = record { reading = c.reading; last = c.last; lent = c.lent; expected = c.expected; high = c.high; low = c.low; verdict = c.verdict }

abbrev pub reply : Judging → Reply
reply c = record { answer = c.answer; expected = c.expected'; high = c.high'; low = c.low'; verdict = c.verdict' }

-- The calm call over the bytes of drawer 1 in the pool xs; the pool, the state's bytes that the call left being put there; and k such calls in turn.
abbrev pub calm : List ℕ → Judging
calm xs = judging (state_of xs 1)

abbrev pub next : List ℕ → List ℕ
next xs = with_state xs (record_of xs 1) (calm xs).state'

unfoldable pub calms : ℕ → List ℕ → List Call
calms zero xs = []
calms (suc k) xs = judges 1 (asked (calm xs)) (reply (calm xs)) (next xs) ∷ calms k (next xs)

-- The pool that an opening of drawer 1 leaves, with discount 0, no auto adjust and base 1, of an empty one; then eleven of them in turn.
abbrev pub pool : List ℕ
pool = (opening 1 nought 0 1 laid_out).bytes

abbrev pub eleven : List Call
eleven = calms 11 pool
