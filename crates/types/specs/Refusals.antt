-- The refusals by number: document 01's 1 to 8, document 02's from 9 on.
use Rattle.std.specs.Prelude.{ℕ, Bool, cond, Result, Ok, Err, ⊤}
use Rattle.types.specs.declared.Refusal.{Refusal}
use Rattle.types.specs.declared.Refusal.TheVariants.{Discount, Range, Length, NotFinite, ValuesSeen, Count, Horizon, Blocks, Row, Field, Drawer, Full, Pool}

-- How a call that returns nothing else ends.
abbrev pub Answer : Type 0
Answer = Result ⊤ Refusal

abbrev pub number : Refusal → ℕ
number Discount = 1
number Range = 2
number Length = 3
number NotFinite = 4
number ValuesSeen = 5
number Count = 6
number Horizon = 7
number Blocks = 8
number Row = 9
number Field = 10
number Drawer = 11
number Full = 12
number Pool = 13

-- 0 for a call that was carried out, else its refusal's number.
abbrev pub answered : Answer → ℕ
answered (Ok _) = 0
answered (Err why) = number why

-- A reading whose sizes or lengths do not fit: 2 for the sizes comes before 3 for the lengths.
abbrev pub of_misfit : Bool → Refusal
of_misfit sizes_fit = cond sizes_fit Length Range

-- A faulty row of an export: 9 for its shape comes before 10 for a field.
abbrev pub of_faulty_row : Bool → Refusal
of_faulty_row misshapen = cond misshapen Row Field

-- The answer to a reading that fits: the smallest of 4, 5 and 6 whose test fails.
abbrev pub of_fitting : (finite seen_ok counts_ok : Bool) → Answer
of_fitting finite seen_ok counts_ok = cond finite (cond seen_ok (cond counts_ok (Ok tt) (Err Count)) (Err ValuesSeen)) (Err NotFinite)
