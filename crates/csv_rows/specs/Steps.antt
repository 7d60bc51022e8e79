-- What private functions need: digits taken in one go.
use Rattle.std.specs.Prelude.{ℕ, Bool, cond, not, ◌&&◌, List, ltb}
use Rattle.csv_fields.specs.declared.Digits.{Digits}
use Rattle.csv_fields.specs.declared.Place.TheVariants.{Plain}
use Rattle.csv_fields.specs.Pushing.{content_of, digits_from}
use Rattle.csv_fields.specs.Quoting.{is_plain}
use Rattle.csv_rows.specs.declared.Scan.{Scan}
use Rattle.csv_rows.specs.Scanning.{token, scan_of}

-- Digits of a drawer or a seen number without quotes are taken in one go, which is the same.
unfoldable pub in_number : Scan → Bool
in_number s = (not s.over && not s.header) && (ltb s.field 2 && is_plain s.token.place)

unfoldable pub digits_at : Scan → ℕ → List ℕ → Digits
digits_at s i bs = cond (in_number s) (digits_from s.token.content.number i bs) (record { number = 0; next = i })

unfoldable pub with_number : Scan → ℕ → Scan
with_number s n =
    let c = s.token.content in
    scan_of s.over s.header s.field s.good s.drawer (token Plain (content_of c.spoilt n c.whole c.point c.places))
