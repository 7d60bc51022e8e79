-- What a byte does to a field by its quotes, as the functions do it: whether it is one of the content, ends the field or the row, or breaks the quotes.
use Rattle.std.specs.Prelude.{ℕ, Bool, true, false, cond, not, ◌||◌, eqb}
use Prim.Native.Char.{code}
use Rattle.csv_fields.specs.declared.Content.{Content}
use Rattle.csv_fields.specs.declared.Place.{Place}
use Rattle.csv_fields.specs.declared.Place.TheVariants.{Start, Plain, Return, Quoted, Closed, Ending}
use Rattle.csv_fields.specs.declared.Turn.{Turn}
use Rattle.csv_fields.specs.declared.Turn.TheVariants.{Reads, Waits, FieldEnds, RowEnds, Breaks}
use Rattle.csv_fields.specs.Pushing.{content_of}

-- A byte in a field without quotes, and one behind a quote inside quotes.
unfoldable pub plain_turn : ℕ → Turn
plain_turn b =
    cond (eqb b (code "\"")) Breaks
    (cond (eqb b (code ",")) FieldEnds (cond (eqb b (code "\n")) RowEnds (cond (eqb b (code "\r")) (Waits Return) (Reads Plain))))

unfoldable pub closed_turn : ℕ → Turn
closed_turn b =
    cond (eqb b (code "\"")) (Waits Quoted)
    (cond (eqb b (code ",")) FieldEnds (cond (eqb b (code "\n")) RowEnds (cond (eqb b (code "\r")) (Waits Ending) Breaks)))

unfoldable pub byte_turn : Place → ℕ → Turn
byte_turn Start b = cond (eqb b (code "\"")) (Waits Quoted) (plain_turn b)
byte_turn Plain b = plain_turn b
byte_turn Return b = plain_turn b
byte_turn Quoted b = cond (eqb b (code "\"")) (Waits Closed) (Reads Quoted)
byte_turn Closed b = closed_turn b
byte_turn Ending b = cond (eqb b (code "\n")) RowEnds Breaks

-- The end of the input, in the field of that number. Where no row is under way all is well, but for the header.
unfoldable pub end_turn : Bool → ℕ → Place → Turn
end_turn header field Start = cond (eqb field 0) (cond header Breaks (Waits Start)) RowEnds
end_turn header field Plain = RowEnds
end_turn header field Return = RowEnds
end_turn header field Quoted = Breaks
end_turn header field Closed = RowEnds
end_turn header field Ending = Breaks

-- Whether a byte spoils the content of a field: a carriage return before it was one of the content, unless it is a line feed; a second quote is a quote of the
-- content.
unfoldable pub spoils : Place → ℕ → Bool
spoils Start b = false
spoils Plain b = false
spoils Return b = not (eqb b (code "\n"))
spoils Quoted b = false
spoils Closed b = eqb b (code "\"")
spoils Ending b = false

-- The content, spoilt where the flag says so.
unfoldable pub held : Bool → Content → Content
held spoilt c = content_of (spoilt || c.spoilt) c.number c.whole c.point c.places

-- The next byte follows a field without quotes as it stands: no quote has been read, and no carriage return just before.
unfoldable pub is_plain : Place → Bool
is_plain Start = true
is_plain Plain = true
is_plain Return = false
is_plain Quoted = false
is_plain Closed = false
is_plain Ending = false
