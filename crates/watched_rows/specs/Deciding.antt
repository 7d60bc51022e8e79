-- What a run decides of a row by numbers alone.
use Rattle.std.specs.Prelude.{ℕ, ◌+◌, ◌-◌, ◌^◌, min, Bool, ◌||◌, ltb, eqb}

-- A run "watches the drawer of its first row below the header": the watched one is 0 before that row, and no drawer has the number 0.
unfoldable pub is_watched : ℕ → ℕ → Bool
is_watched watched drawer = eqb watched 0 || eqb watched drawer

-- Fewer than 65,536 sound rows of the drawer have been read: its "65,537th sound row" ends the run.
unfoldable pub goes_on : ℕ → Bool
goes_on rows = ltb rows 65536

-- "Numbered by row with the header as row 1".
abbrev pub first_number : ℕ
first_number = 1

-- Row numbers stop at the largest of 64 bits.
unfoldable pub next_number : ℕ → ℕ
next_number row = min (row + 1) (2 ^ 64 - 1)
