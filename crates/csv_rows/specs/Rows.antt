-- What the rows of a cabinet's export hold, after RFC 4180 and document 02: the definition to believe. An input is a list of bytes.
use Rattle.std.specs.Prelude.{ℕ, Bool, true, false, cond, not, ◌&&◌, ◌||◌, List, [], ◌∷◌, ◌++◌, eqb, Float}
use Prim.Native.Char.{code}
use Rattle.types.specs.declared.Refusal.TheVariants as Why
use Rattle.csv_fields.specs.Contents.{same_bytes, has_byte, word, number, is_number, most_drawer, most_seen, is_score, score_of}
use Rattle.csv_rows.specs.declared.Row.{Row}
use Rattle.csv_rows.specs.declared.Row.TheVariants.{Nothing, Header, Sound, Faulty}

unfoldable pub is_empty : {A : Type 0} → List A → Bool
is_empty [] = true
is_empty (x ∷ xs) = false

-- A text without the carriage return at its end.
unfoldable pub without_return : List ℕ → List ℕ
without_return [] = []
without_return (b ∷ []) = cond (eqb b (code "\r")) [] (b ∷ [])
without_return (a ∷ b ∷ bs) = a ∷ without_return (b ∷ bs)

-- The rows of an input, each a list of its fields' texts as they stand. `inside` is behind an odd number of quotes; `fields` of the row under way are
-- read, and `text` of the field under way. Outside quotes a comma ends a field, and a line feed, with the carriage return before it, a row.
-- The last row may lack its end, and a line end that ends the input starts no row.
unfoldable pub rows_from : Bool → List (List ℕ) → List ℕ → List ℕ → List (List (List ℕ))
rows_from inside fields text [] = cond (is_empty fields && is_empty text) [] ((fields ++ (text ∷ [])) ∷ [])
rows_from true fields text (b ∷ bs) = rows_from (not (eqb b (code "\""))) fields (text ++ (b ∷ [])) bs
rows_from false fields text (b ∷ bs) =
    cond (eqb b (code ",")) (rows_from false (fields ++ (text ∷ [])) [] bs)
    (cond (eqb b (code "\n")) ((fields ++ (without_return text ∷ [])) ∷ rows_from false [] [] bs)
    (rows_from (eqb b (code "\"")) fields (text ++ (b ∷ [])) bs))

-- What a field's text holds, or that its quote is broken.
pub data Field : Type 0 where
  Holds : List ℕ → Field
  BrokenQuote : Field

-- Inside quotes; and behind a quote inside quotes, where another is a quote of the content and nothing more is the end.
unfoldable mutual
  pub quoted : List ℕ → List ℕ → Field
  quoted content [] = BrokenQuote
  quoted content (b ∷ bs) = cond (eqb b (code "\"")) (closed content bs) (quoted (content ++ (b ∷ [])) bs)

  pub closed : List ℕ → List ℕ → Field
  closed content [] = Holds content
  closed content (b ∷ bs) = cond (eqb b (code "\"")) (quoted (content ++ (code "\"" ∷ [])) bs) BrokenQuote

-- A text that begins with a quote is quoted, and any other has none.
unfoldable pub field_of : List ℕ → Field
field_of [] = Holds []
field_of (b ∷ bs) = cond (eqb b (code "\"")) (quoted [] bs) (cond (has_byte (code "\"") (b ∷ bs)) BrokenQuote (Holds (b ∷ bs)))

unfoldable pub fields_of : List (List ℕ) → List Field
fields_of [] = []
fields_of (t ∷ ts) = field_of t ∷ fields_of ts

unfoldable pub is_broken : Field → Bool
is_broken BrokenQuote = true
is_broken (Holds content) = false

unfoldable pub content_in : Field → List ℕ
content_in BrokenQuote = []
content_in (Holds content) = content

-- The header's row, and a row below it, of three contents.
unfoldable pub header_of : List ℕ → List ℕ → List ℕ → Row
header_of a b c = cond (same_bytes (word 0) a && (same_bytes (word 1) b && same_bytes (word 2) c)) Header (Faulty Why.Row)

unfoldable pub entry : ℕ → Float → Row
entry drawer score = Sound (record { drawer = drawer; score = score })

unfoldable pub entry_of : List ℕ → List ℕ → List ℕ → Row
entry_of a b c = cond (is_number most_drawer a && (is_number most_seen b && is_score c)) (entry (number 0 a) (score_of c)) (Faulty Why.Field)

-- Error 9 for a row without three fields and for a broken quote, whatever else is wrong.
unfoldable pub three_of : (List ℕ → List ℕ → List ℕ → Row) → List Field → Row
three_of f [] = Faulty Why.Row
three_of f (a ∷ []) = Faulty Why.Row
three_of f (a ∷ b ∷ []) = Faulty Why.Row
three_of f (a ∷ b ∷ c ∷ []) = cond (is_broken a || (is_broken b || is_broken c)) (Faulty Why.Row) (f (content_in a) (content_in b) (content_in c))
three_of f (a ∷ b ∷ c ∷ d ∷ ds) = Faulty Why.Row

unfoldable pub row_of : Bool → List (List ℕ) → Row
row_of header texts = cond header (three_of header_of (fields_of texts)) (three_of entry_of (fields_of texts))

unfoldable pub is_faulty : Row → Bool
is_faulty Nothing = false
is_faulty Header = false
is_faulty (Sound e) = false
is_faulty (Faulty why) = true

-- The rows in turn, up to the first that is faulty. The first must be the header, which an input without any row lacks.
unfoldable pub readings : Bool → List (List (List ℕ)) → List Row
readings header [] = cond header (Faulty Why.Row ∷ []) []
readings header (r ∷ rs) = row_of header r ∷ cond (is_faulty (row_of header r)) [] (readings false rs)

-- The whole input.
unfoldable pub readings_of : List ℕ → List Row
readings_of input = readings true (rows_from false [] [] input)
