-- The scan as it is fed its input byte by byte, and that it reads the rows of the whole input, however that is cut.
use Rattle.std.specs.Prelude.{ℕ, ◌+◌, ◌≡◌, Bool, true, false, cond, ◌&&◌, List, [], ◌∷◌, ◌++◌, ltb, eqb}
use Prim.Native.Char.{code}
use Rattle.types.specs.declared.Refusal.{Refusal}
use Rattle.types.specs.declared.Refusal.TheVariants as Why
use Rattle.csv_fields.specs.declared.Content.{Content}
use Rattle.csv_fields.specs.declared.Place.{Place}
use Rattle.csv_fields.specs.declared.Place.TheVariants.{Start}
use Rattle.csv_fields.specs.declared.Turn.{Turn}
use Rattle.csv_fields.specs.declared.Turn.TheVariants.{Reads, Waits, FieldEnds, RowEnds, Breaks}
use Rattle.csv_fields.specs.Pushing.{fresh, push, good, score}
use Rattle.csv_fields.specs.Quoting.{byte_turn, end_turn, spoils, held}
use Rattle.csv_rows.specs.declared.Token.{Token}
use Rattle.csv_rows.specs.declared.Scan.{Scan}
use Rattle.csv_rows.specs.declared.Stepped.{Stepped}
use Rattle.csv_rows.specs.declared.Reached.{Reached}
use Rattle.csv_rows.specs.declared.Row.{Row}
use Rattle.csv_rows.specs.declared.Row.TheVariants.{Nothing, Header, Sound, Faulty}
use Rattle.csv_rows.specs.Rows.{entry, readings_of}

abbrev pub token : Place → Content → Token
token place content = record { place = place; content = content }

abbrev pub scan_of : Bool → Bool → ℕ → Bool → ℕ → Token → Scan
scan_of over header field good drawer t = record { over = over; header = header; field = field; good = good; drawer = drawer; token = t }

abbrev pub stepped_of : Scan → Row → Stepped
stepped_of scan row = record { scan = scan; row = row }

-- At the start of a field, and of a row.
unfoldable pub start : Token
start = token Start fresh

unfoldable pub begin_row : Bool → Scan
begin_row header = scan_of false header 0 true 0 start

unfoldable pub begin : Scan
begin = begin_row true

-- A faulty row ends the scan.
unfoldable pub refused : Scan → Refusal → Stepped
refused s why = stepped_of (scan_of true s.header s.field s.good s.drawer s.token) (Faulty why)

-- The field of that content has ended, and another follows.
unfoldable pub field_after : ℕ → ℕ
field_after field = cond (ltb field 3) (field + 1) 3

unfoldable pub next_field : Scan → Content → Scan
next_field s c =
    scan_of s.over s.header (field_after s.field) (s.good && good s.header s.field c) (cond (eqb s.field 0) c.number s.drawer) start

-- What the row is that ends with the field of that content, and the scan behind it.
unfoldable pub verdict : Bool → ℕ → Bool → ℕ → Content → Row
verdict header field fine drawer c =
    cond (eqb field 2)
    (cond (fine && good header field c) (cond header Header (entry drawer (score c))) (cond header (Faulty Why.Row) (Faulty Why.Field)))
    (Faulty Why.Row)

unfoldable pub after_row : Scan → Row → Stepped
after_row s Nothing = stepped_of (begin_row false) Nothing
after_row s Header = stepped_of (begin_row false) Header
after_row s (Sound e) = stepped_of (begin_row false) (Sound e)
after_row s (Faulty why) = refused s why

unfoldable pub row_ended : Scan → Content → Stepped
row_ended s c = after_row s (verdict s.header s.field s.good s.drawer c)

-- The byte b is taken by the field of that content.
unfoldable pub taken : Scan → Turn → Content → ℕ → Stepped
taken s (Reads place) c b = stepped_of (scan_of s.over s.header s.field s.good s.drawer (token place (push s.header s.field c b))) Nothing
taken s (Waits place) c b = stepped_of (scan_of s.over s.header s.field s.good s.drawer (token place c)) Nothing
taken s FieldEnds c b = stepped_of (next_field s c) Nothing
taken s RowEnds c b = row_ended s c
taken s Breaks c b = refused s Why.Row

-- One byte, and the end of the input, which does to a content what a comma does.
unfoldable pub stepped : Scan → ℕ → Stepped
stepped s b = cond s.over (stepped_of s Nothing) (taken s (byte_turn s.token.place b) (held (spoils s.token.place b) s.token.content) b)

unfoldable pub closed_by : Scan → Turn → Content → Stepped
closed_by s (Reads place) c = stepped_of s Nothing
closed_by s (Waits place) c = stepped_of s Nothing
closed_by s FieldEnds c = stepped_of s Nothing
closed_by s RowEnds c = row_ended s c
closed_by s Breaks c = refused s Why.Row

unfoldable pub finished : Scan → Stepped
finished s =
    cond s.over (stepped_of s Nothing)
    (closed_by s (end_turn s.header s.field s.token.place) (held (spoils s.token.place (code ",")) s.token.content))

-- The row that a step ended, if any.
unfoldable pub told : Row → List Row
told Nothing = []
told Header = Header ∷ []
told (Sound e) = Sound e ∷ []
told (Faulty why) = Faulty why ∷ []

-- Reading on until a row ends, or what follows does: the scan there, the row, and the place behind the last byte read, the next one being at the place i.
abbrev pub reached_of : Scan → Row → ℕ → Reached
reached_of scan row next = record { scan = scan; row = row; next = next }

unfoldable pub is_nothing : Row → Bool
is_nothing Nothing = true
is_nothing Header = false
is_nothing (Sound e) = false
is_nothing (Faulty why) = false

unfoldable pub read_on : Scan → ℕ → List ℕ → Reached
read_on s i [] = reached_of s Nothing i
read_on s i (b ∷ bs) =
    cond (is_nothing (stepped s b).row) (read_on (stepped s b).scan (i + 1) bs) (reached_of (stepped s b).scan (stepped s b).row (i + 1))

-- A part of the input, byte by byte: the scan behind it, and the rows that it ends.
unfoldable pub fed : Scan → List ℕ → Scan
fed s [] = s
fed s (b ∷ bs) = fed (stepped s b).scan bs

unfoldable pub heard : Scan → List ℕ → List Row
heard s [] = []
heard s (b ∷ bs) = told (stepped s b).row ++ heard (stepped s b).scan bs

-- An input that comes in parts, and the rows of a scan that is fed one after the other and then finished.
unfoldable pub joined : List (List ℕ) → List ℕ
joined [] = []
joined (p ∷ ps) = p ++ joined ps

unfoldable pub in_parts : Scan → List (List ℕ) → List Row
in_parts s [] = told (finished s).row
in_parts s (p ∷ ps) = heard s p ++ in_parts (fed s p) ps

-- However the input is cut, the scan reads its rows.
abbrev pub Whole : Type 0
Whole = (parts : List (List ℕ)) → in_parts begin parts ≡ readings_of (joined parts)
