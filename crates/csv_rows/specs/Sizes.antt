-- Every score of an input is of the sizes of the ledger comparison.
use Rattle.std.specs.Prelude.{List, [], ◌∷◌, ℕ}
use Rattle.csv_fields.specs.Sizes.{ZeroOrSized}
use Rattle.csv_rows.specs.declared.Row.{Row}
use Rattle.csv_rows.specs.declared.Row.TheVariants.{Nothing, Header, Sound, Faulty}
use Rattle.csv_rows.specs.Rows.{readings_of}

abbrev pub RowSized : Row → Type 0
RowSized Nothing = Unit
RowSized Header = Unit
RowSized (Sound e) = ZeroOrSized e.score
RowSized (Faulty why) = Unit

abbrev pub AllSized : List Row → Type 0
AllSized [] = Unit
AllSized (r ∷ rs) = RowSized r × AllSized rs

abbrev pub SizedScores : Type 0
SizedScores = (input : List ℕ) → AllSized (readings_of input)
