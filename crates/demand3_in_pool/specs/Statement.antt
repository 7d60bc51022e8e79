-- Demand 3 of a drawer in a pool: what this crate proves. The quoted words are document 01's. Definitions only.
use Rattle.std.specs.Prelude.{ℕ, ◌≤◌, ◌≡◌, not, List, [], ◌∷◌, T, eqb, length, get_or, Float}
use Rattle.std.specs.Float.{binary32, binary64}
use Rattle.std.specs.Float.Ieee.{fits}
use Rattle.basicthresholder.specs.Const.{z_factor_default}
use Rattle.ledger.specs.Statement.{most_readings, Told, Shown, accepted, Sizes, InBounds, Demand3}
use Rattle.layout.specs.Places.{reading_length, strategy_at, score_at}
use Rattle.layout.specs.Numbers.{f32_at}
use Rattle.demand3_over_c.specs.Calls.{threshold_in, grade_in, opening_in}
use Rattle.pool_drawers.specs.Drawers.{laid_out}
use Rattle.pool_settings.specs.Settings.{z_factor, lower_threshold, initial_threshold, horizon}
use Rattle.pool_laws.specs.Calls.{Asked, Call, opens, Contract, InTurn}
use Rattle.pool_laws.specs.Isolation.{Ask, setting, judgment, Tell, answer, judged, asks, tells, Stays}
use Rattle.demand3_in_pool.specs.Calm.{nought, pool, eleven}

-- ---- what the drawer is asked
-- A DISTANCE reading: of its 23 bytes the strategy's is not 0. (1 is DISTANCE's code, and the call refuses every larger one.)
abbrev pub Distance : Asked → Type 0
Distance a = length a.reading ≡ reading_length → T (not (eqb (get_or a.reading strategy_at 0) 0))

-- Judgments of such readings, and no setting.
abbrev pub Judgments : List Ask → Type 0
Judgments [] = Unit
Judgments (setting c ∷ qs) = ⊥
Judgments (judgment a ∷ qs) = Distance a × Judgments qs

-- "Only z and horizon may be set, before the first reading." A setting that is refused is among them. Each is an f32.
abbrev pub SetFirst : List Ask → Type 0
SetFirst [] = Unit
SetFirst (setting (z_factor x) ∷ qs) = T (fits binary32 x) × SetFirst qs
SetFirst (setting (lower_threshold x) ∷ qs) = ⊥
SetFirst (setting (initial_threshold x) ∷ qs) = ⊥
SetFirst (setting (horizon x) ∷ qs) = T (fits binary32 x) × SetFirst qs
SetFirst (judgment a ∷ qs) = Judgments (judgment a ∷ qs)

-- The z factor that was asked for: the last of the list, else the one before, z.
abbrev pub z_after : Float → List Ask → Float
z_after z [] = z
z_after z (setting (z_factor x) ∷ qs) = z_after x qs
z_after z (setting (lower_threshold x) ∷ qs) = z_after z qs
z_after z (setting (initial_threshold x) ∷ qs) = z_after z qs
z_after z (setting (horizon x) ∷ qs) = z_after z qs
z_after z (judgment a ∷ qs) = z_after z qs

abbrev pub z_asked : List Ask → Float
z_asked qs = z_after z_factor_default qs

-- No z factor was asked for.
abbrev pub ZUnasked : List Ask → Type 0
ZUnasked [] = Unit
ZUnasked (setting (z_factor x) ∷ qs) = ⊥
ZUnasked (setting (lower_threshold x) ∷ qs) = ZUnasked qs
ZUnasked (setting (initial_threshold x) ∷ qs) = ZUnasked qs
ZUnasked (setting (horizon x) ∷ qs) = ZUnasked qs
ZUnasked (judgment a ∷ qs) = ZUnasked qs

-- ---- what the ledger is told of each judgment: whether its answer is a refusal, and the score in its reading's bytes
abbrev pub told_in : List Ask → List Tell → List Told
told_in [] ts = []
told_in (q ∷ qs) [] = []
told_in (setting c ∷ qs) (t ∷ ts) = told_in qs ts
told_in (judgment a ∷ qs) (answer n ∷ ts) = told_in qs ts
told_in (judgment a ∷ qs) (judged t ∷ ts) = record { refused = not (eqb t.answer 0); score = f32_at a.reading score_at } ∷ told_in qs ts

-- ---- what the bytes of each verdict show
abbrev pub shown_in : List Tell → List Shown
shown_in [] = []
shown_in (answer n ∷ ts) = shown_in ts
shown_in (judged t ∷ ts) = record { threshold = threshold_in t.verdict; opening = opening_in t.verdict; ends = grade_in t.verdict } ∷ shown_in ts

-- ---- the statement
pub record Demand3InPool : Type 0 where
  -- "A single statement about the list of readings": a drawer that an opening made in any pool, and calls in turn that leave it where it is. What the other drawers
  -- are asked in between is free.
  pub demand_3 : (xs : List ℕ) (d : ℕ) (discount : Float) (adjust base : ℕ) (ys : List ℕ) (cs : List Call)
      → T (fits binary64 discount) → Contract xs (opens d discount adjust base 0 ys) → InTurn ys cs → Stays d cs → SetFirst (asks d cs)
      → InBounds (z_asked (asks d cs)) (told_in (asks d cs) (tells d cs))
      → Demand3 discount (z_asked (asks d cs)) (told_in (asks d cs) (tells d cs)) (shown_in (tells d cs))
  -- Where none is asked for, by the new state's own z: the bounds on the readings are left.
  pub default_z : (xs : List ℕ) (d : ℕ) (discount : Float) (adjust base : ℕ) (ys : List ℕ) (cs : List Call)
      → T (fits binary64 discount) → Contract xs (opens d discount adjust base 0 ys) → InTurn ys cs → Stays d cs → SetFirst (asks d cs)
      → ZUnasked (asks d cs) → accepted (told_in (asks d cs) (tells d cs)) ≤ most_readings → Sizes (told_in (asks d cs) (tells d cs))
      → Demand3 discount z_factor_default (told_in (asks d cs) (tells d cs)) (shown_in (tells d cs))
  -- Such lists exist: in an empty pool drawer 1 is opened, and eleven calm readings are accepted in it; the last has ten counted before it.
  pub met : T (fits binary64 nought) × Contract laid_out (opens 1 nought 0 1 0 pool) × InTurn pool eleven × Stays 1 eleven × SetFirst (asks 1 eleven)
      × ZUnasked (asks 1 eleven) × InBounds (z_asked (asks 1 eleven)) (told_in (asks 1 eleven) (tells 1 eleven)) × (accepted (told_in (asks 1 eleven) (tells 1 eleven)) ≡ 11)
