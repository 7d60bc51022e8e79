-- Every sound row of an input has a score of the ledger comparison's sizes. Assumes nothing.
use mathlib.Core.Path.{◌≡◌, refl}
use mathlib.Core.Bool.{Bool, true, false, cond, ◌&&◌, ◌||◌}
use mathlib.Core.List.{List, [], ◌∷◌}
use Prim.Native.Nat.{ℕ}
use Rattle.types.specs.declared.Refusal.TheVariants as Why
use Rattle.csv_fields.specs.Contents.{same_bytes, word, number, is_number, most_drawer, most_seen, is_score, score_of}
use Rattle.csv_fields.proofs.Numbers.{and_right}
use Rattle.csv_fields.proofs.Sizes.{score_size}
use Rattle.csv_rows.specs.declared.Row.{Row}
use Rattle.csv_rows.specs.declared.Row.TheVariants.{Header, Faulty}
use Rattle.csv_rows.specs.Rows.{Field, is_broken, content_in, entry, header_of, entry_of, three_of, fields_of, row_of, is_faulty, rows_from, readings, readings_of}
use Rattle.csv_rows.specs.Sizes.{RowSized, AllSized, SizedScores}

header_sized : (a b c : List ℕ) → RowSized (header_of a b c)
unfolding header_of
header_sized a b c = go (same_bytes (word 0) a && (same_bytes (word 1) b && same_bytes (word 2) c))
  where
    go : (t : Bool) → RowSized (cond t Header (Faulty Why.Row))
    go true = tt
    go false = tt

entry_sized : (a b c : List ℕ) → RowSized (entry_of a b c)
unfolding entry_of entry
entry_sized a b c = go (is_number most_drawer a && (is_number most_seen b && is_score c)) refl
  where
    go : (t : Bool) → (is_number most_drawer a && (is_number most_seen b && is_score c)) ≡ t → RowSized (cond t (entry (number 0 a) (score_of c)) (Faulty Why.Field))
    go true e = score_size c (and_right (is_number most_seen b) (is_score c) (and_right (is_number most_drawer a) (is_number most_seen b && is_score c) e))
    go false e = tt

three_sized : (f : List ℕ → List ℕ → List ℕ → Row) → ((a b c : List ℕ) → RowSized (f a b c)) → (fields : List Field) → RowSized (three_of f fields)
unfolding three_of
three_sized f h [] = tt
three_sized f h (a ∷ []) = tt
three_sized f h (a ∷ b ∷ []) = tt
three_sized f h (a ∷ b ∷ c ∷ []) = go (is_broken a || (is_broken b || is_broken c))
  where
    go : (t : Bool) → RowSized (cond t (Faulty Why.Row) (f (content_in a) (content_in b) (content_in c)))
    go true = tt
    go false = h (content_in a) (content_in b) (content_in c)
three_sized f h (a ∷ b ∷ c ∷ d ∷ ds) = tt

row_sized : (header : Bool) (texts : List (List ℕ)) → RowSized (row_of header texts)
unfolding row_of
row_sized true texts = three_sized header_of header_sized (fields_of texts)
row_sized false texts = three_sized entry_of entry_sized (fields_of texts)

readings_sized : (header : Bool) (rows : List (List (List ℕ))) → AllSized (readings header rows)
unfolding readings
readings_sized true [] = (tt, tt)
readings_sized false [] = tt
readings_sized header (r ∷ rs) = (row_sized header r, go (is_faulty (row_of header r)) (readings_sized false rs))
  where
    go : (t : Bool) → AllSized (readings false rs) → AllSized (cond t [] (readings false rs))
    go true h = tt
    go false h = h

pub sized_scores : SizedScores
unfolding readings_of
sized_scores input = readings_sized true (rows_from false [] [] input)
