-- What a drawer of a pool is asked and told, and the same over its state's bytes alone. Definitions only.
use Rattle.std.specs.Prelude.{ℕ, ◌<◌, ◌≡◌, ◌≢◌, true, cond, List, [], ◌∷◌, eqb}
use Rattle.layout.specs.Left.{left}
use Rattle.c_judging.specs.Judging.{Answered}
use Rattle.record_pool.specs.Pool.{rules_ok, record_of, state_of}
use Rattle.pool_settings.specs.Settings.{Setting, set_on}
use Rattle.pool_laws.specs.Calls.{Asked, Reply, Call, lays_out, opens, removes, lists, sets, judges, InTurn, after_all}

-- ---- of a list of calls, those that judge in drawer d or set it: what each asks, and what it is told
pub data Ask : Type 0 where
  setting : Setting → Ask
  judgment : Asked → Ask

pub data Tell : Type 0 where
  answer : ℕ → Tell
  judged : Reply → Tell

abbrev pub asks : ℕ → List Call → List Ask
asks d [] = []
asks d (lays_out n ys ∷ cs) = asks d cs
asks d (opens e discount adjust base n ys ∷ cs) = asks d cs
asks d (removes e n ys ∷ cs) = asks d cs
asks d (lists out n out' ∷ cs) = asks d cs
asks d (sets e c n ys ∷ cs) = cond (eqb e d) (setting c ∷ asks d cs) (asks d cs)
asks d (judges e a t ys ∷ cs) = cond (eqb e d) (judgment a ∷ asks d cs) (asks d cs)

abbrev pub tells : ℕ → List Call → List Tell
tells d [] = []
tells d (lays_out n ys ∷ cs) = tells d cs
tells d (opens e discount adjust base n ys ∷ cs) = tells d cs
tells d (removes e n ys ∷ cs) = tells d cs
tells d (lists out n out' ∷ cs) = tells d cs
tells d (sets e c n ys ∷ cs) = cond (eqb e d) (answer n ∷ tells d cs) (tells d cs)
tells d (judges e a t ys ∷ cs) = cond (eqb e d) (judged t ∷ tells d cs) (tells d cs)

-- Drawer d stays where it is: none of the calls removes it or lays the pool out. (An opening of it is refused.)
abbrev pub Stays : ℕ → List Call → Type 0
Stays d [] = Unit
Stays d (lays_out n ys ∷ cs) = ⊥
Stays d (opens e discount adjust base n ys ∷ cs) = Stays d cs
Stays d (removes e n ys ∷ cs) = (e ≢ d) × Stays d cs
Stays d (lists out n out' ∷ cs) = Stays d cs
Stays d (sets e c n ys ∷ cs) = Stays d cs
Stays d (judges e a t ys ∷ cs) = Stays d cs

-- ---- the same over a state's bytes alone
-- The asks in turn over the bytes zs are told the tells, and the bytes zs' are left.
abbrev pub Alone : List ℕ → List Ask → List Tell → List ℕ → Type 0
Alone zs [] [] zs' = zs' ≡ zs
Alone zs [] (t ∷ ts) zs' = ⊥
Alone zs (setting c ∷ qs) [] zs' = ⊥
Alone zs (setting c ∷ qs) (answer n ∷ ts) zs' = (ys : List ℕ) × (left n ys ≡ set_on c zs) × Alone ys qs ts zs'
Alone zs (setting c ∷ qs) (judged t ∷ ts) zs' = ⊥
Alone zs (judgment a ∷ qs) [] zs' = ⊥
Alone zs (judgment a ∷ qs) (answer n ∷ ts) zs' = ⊥
Alone zs (judgment a ∷ qs) (judged t ∷ ts) zs' =
    (ys : List ℕ)
    × Answered zs a.reading a.last a.lent t.answer a.expected a.high a.low a.verdict ys t.expected t.high t.low t.verdict
    × Alone ys qs ts zs'

-- ---- the statement
-- A pool that passes 13 and holds drawer d.
pub record Holds (xs : List ℕ) (d : ℕ) : Type 0 where
  pub sound : rules_ok xs ≡ true
  pub there : 0 < record_of xs d

pub record Isolation : Type 0 where
  -- What a drawer is told in a pool, whatever is done to the others in between, is what the calls on its state's bytes alone tell.
  pub alone : (d : ℕ) (xs : List ℕ) (cs : List Call) → Holds xs d → Stays d cs → InTurn xs cs
      → Holds (after_all xs cs) d × Alone (state_of xs d) (asks d cs) (tells d cs) (state_of (after_all xs cs) d)
  -- Two pools that hold the same bytes of state for a drawer: asked the same, it is told the same, and is left with the same bytes.
  pub isolated : (d : ℕ) (xs ys : List ℕ) (cs ds : List Call) → Holds xs d → Holds ys d → state_of xs d ≡ state_of ys d → Stays d cs → Stays d ds
      → InTurn xs cs → InTurn ys ds → asks d cs ≡ asks d ds → (tells d cs ≡ tells d ds) × (state_of (after_all xs cs) d ≡ state_of (after_all ys ds) d)
