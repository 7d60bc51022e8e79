-- A content read byte by byte, as the functions do it. `proofs/Numbers.antt` says that what has been read of a content then tells what `Contents` says of it.
use Rattle.std.specs.Prelude.{ℕ, ◌+◌, ◌-◌, ◌*◌, ◌^◌, min, Bool, true, false, cond, not, ◌&&◌, ◌||◌, List, [], ◌∷◌, leb, ltb, eqb, get_or, Float}
use Prim.Native.Char.{code}
use Rattle.std.specs.Float.{binary32}
use Rattle.std.specs.Float.Ieee.{round}
use Rattle.csv_fields.specs.declared.Content.{Content}
use Rattle.csv_fields.specs.declared.Digits.{Digits}
use Rattle.csv_fields.specs.Contents.{word, is_digit, most_drawer, most_seen}

abbrev pub content_of : Bool → ℕ → ℕ → Bool → ℕ → Content
content_of spoilt number whole point places = record { spoilt = spoilt; number = number; whole = whole; point = point; places = places }

unfoldable pub fresh : Content
fresh = content_of false 0 0 false 0

unfoldable pub spoil : Content → Content
spoil c = content_of true c.number c.whole c.point c.places

-- The byte of the header's word at that place; 256, which is no byte, behind its end.
unfoldable pub letter : ℕ → ℕ → ℕ
letter field i = get_or (word field) i 256

unfoldable pub word_length : ℕ → ℕ
word_length field = cond (eqb field 0) 6 (cond (eqb field 1) 4 5)

-- A byte of the header's word.
unfoldable pub push_letter : ℕ → Content → ℕ → Content
push_letter field c b = cond (eqb (letter field c.whole) b) (content_of c.spoilt c.number (c.whole + 1) c.point c.places) (spoil c)

-- Above every limit; a score's nine digits write no more.
abbrev pub cap : ℕ
cap = 999999999

-- A number with one more digit, or the cap.
unfoldable pub grown : ℕ → ℕ → ℕ
grown n b = min (n * 10 + (b - code "0")) cap

-- The digits that stand at the front of what follows, from the place i on: the number with them, and the place behind them.
unfoldable pub digits_from : ℕ → ℕ → List ℕ → Digits
digits_from n i [] = record { number = n; next = i }
digits_from n i (b ∷ bs) = cond (is_digit b) (digits_from (grown n b) (i + 1) bs) (record { number = n; next = i })

-- A byte of a whole number.
unfoldable pub push_digit : Content → ℕ → Content
push_digit c b = cond (is_digit b) (content_of c.spoilt (grown c.number b) c.whole c.point c.places) (spoil c)

-- A byte of a score: a digit, or another byte.
unfoldable pub score_digit : Content → ℕ → Content
score_digit c b =
    cond c.point
    (cond (ltb c.places 6) (content_of c.spoilt (grown c.number b) c.whole true (c.places + 1)) (spoil c))
    (cond (ltb c.whole 3) (content_of c.spoilt (grown c.number b) (c.whole + 1) false c.places) (spoil c))

unfoldable pub score_point : Content → ℕ → Content
score_point c b = cond (eqb b (code ".") && not c.point) (content_of c.spoilt c.number c.whole true c.places) (spoil c)

unfoldable pub push_score : Content → ℕ → Content
push_score c b = cond (is_digit b) (score_digit c b) (score_point c b)

-- A byte of the content of the field of that number, in the header or below it.
unfoldable pub push : Bool → ℕ → Content → ℕ → Content
push header field c b = cond header (push_letter field c b) (cond (eqb field 2) (push_score c b) (push_digit c b))

unfoldable pub pushed : Bool → ℕ → Content → List ℕ → Content
pushed header field c [] = c
pushed header field c (b ∷ bs) = pushed header field (push header field c b) bs

-- Whether the content is the header's word, a number in its range, a score.
unfoldable pub good_word : ℕ → Content → Bool
good_word field c = not c.spoilt && eqb c.whole (word_length field)

unfoldable pub limit : ℕ → ℕ
limit field = cond (eqb field 0) most_drawer most_seen

unfoldable pub good_number : ℕ → Content → Bool
good_number field c = not c.spoilt && (leb 1 c.number && leb c.number (limit field))

unfoldable pub good_score : Content → Bool
good_score c = not c.spoilt && (leb 1 c.whole && (not c.point || leb 1 c.places))

unfoldable pub good : Bool → ℕ → Content → Bool
good header field c = cond header (good_word field c) (cond (eqb field 2) (good_score c) (good_number field c))

-- The score that the content writes.
unfoldable pub score : Content → Float
score c = round binary32 false c.number (10 ^ min c.places 6)
