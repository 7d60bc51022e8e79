-- The rows of a sheet are at most 65,536, and each score is zero or of the ledger's sizes. Assumes nothing.
use mathlib.Core.Path.{◌≡◌, refl}
use mathlib.Core.Bool.{Bool, true, false, cond}
use mathlib.Core.Logic.{inl, inr}
use mathlib.Core.List.{List, [], ◌∷◌}
use Prim.Native.Nat.{ℕ, ◌+◌, ◌≤◌}
use native.Mathlib.Omega.{arith}
use lib.ListN.{length}
use borrow.Author.Tests.{ltb-true}
use lib.Ieee.{Float}
use lib.Ieee.Positive.{own_value}
use Rattle.csv_fields.specs.Sizes as Csv
use Rattle.csv_rows.specs.declared.Row.{Row}
use Rattle.csv_rows.specs.declared.Row.TheVariants.{Nothing, Header, Sound, Faulty}
use Rattle.csv_rows.specs.Sizes as Rows
use Rattle.score_rows.specs.Sheet.{Reading, Sheet, Bad, ends, first}
use Rattle.watched_rows.specs.Deciding.{is_watched, goes_on}
use Rattle.export_rows.specs.Output.{sheet_from}
use Rattle.watch_ledger.specs.Statement.{ZeroOrSized, AllSized}
use Rattle.watch_ledger.proofs.Sizes.{zero_score, plain_value}

-- Readings behind so many others: not more than 65,536 in all, each of the ledger's sizes.
pub record Fits (before : ℕ) (rs : List Reading) : Type 0 where
  pub short : before + length rs ≤ 65536
  pub sized : AllSized rs

size : (x : Float) → Csv.ZeroOrSized x → ZeroOrSized x
size x (inl e) = inl (zero_score x e)
size x (inr s) = inr (record { plain = plain_value x _ _ (own_value x s.positive); least = s.least; most = s.most })

none : (before : ℕ) → before ≤ 65536 → Fits before []
none before h = record { short = omega arith; sized = tt }

cons : (before : ℕ) (r : Reading) (rs : List Reading) → Csv.ZeroOrSized r.score → Fits (before + 1) rs → Fits before (r ∷ rs)
cons before r rs z f = record { short = omega (arith, f.short); sized = (size r.score z, f.sized) }

one_more_lem : (before : ℕ) → goes_on before ≡ true → before + 1 ≤ 65536
unfolding goes_on
one_more_lem before g = omega (arith, ltb-true before 65536 g)

-- A sound row, by whether it is the drawer's and whether that may have one more.
by_row : (t u : Bool) (before n : ℕ) (x : Float) (next other : Sheet) → before ≤ 65536 → Csv.ZeroOrSized x → (u ≡ true → Fits (before + 1) next.readings) → Fits before other.readings
    → Fits before (cond t (cond u (first n x next) (ends (Bad n))) other).readings
by_row true true before n x next other h z f g = cons before (record { number = n; score = x }) next.readings z (f refl)
by_row true false before n x next other h z f g = none before h
by_row false u before n x next other h z f g = g

pub fits_from : (rows : List Row) (n drawer before : ℕ) → before ≤ 65536 → Rows.AllSized rows → Fits before (sheet_from n drawer before rows).readings
unfolding sheet_from
fits_from [] n drawer before h a = none before h
fits_from (Nothing ∷ rows) n drawer before h a = fits_from rows n drawer before h a.1
fits_from (Header ∷ rows) n drawer before h a = fits_from rows (n + 1) drawer before h a.1
fits_from (Faulty why ∷ rows) n drawer before h a = none before h
fits_from (Sound e ∷ rows) n drawer before h a =
    by_row (is_watched drawer e.drawer) (goes_on before) before n e.score (sheet_from (n + 1) e.drawer (before + 1) rows) (sheet_from (n + 1) drawer before rows) h a.0
    (λ g. fits_from rows (n + 1) e.drawer (before + 1) (one_more_lem before g) a.1)
    (fits_from rows (n + 1) drawer before h a.1)
