-- What the content of a field says: the header's words, a drawer, a seen number and a score, as document 02 has them. A content is a list of bytes.
use Rattle.std.specs.Prelude.{ℕ, ◌+◌, ◌-◌, ◌*◌, ◌^◌, Bool, true, false, cond, ◌&&◌, ◌||◌, List, [], ◌∷◌, ◌++◌, leb, eqb, length, Float}
use Prim.Native.Char.{code}
use Prim.Native.String.{String, [] as end, ◌∷◌ as ◌then◌}
use Rattle.std.specs.Float.{binary32}
use Rattle.std.specs.Float.Ieee.{round}

-- The bytes of a text.
abbrev pub bytes : String → List ℕ
bytes end = []
bytes (c then text) = code c ∷ bytes text

unfoldable pub same_bytes : List ℕ → List ℕ → Bool
same_bytes [] [] = true
same_bytes [] (b ∷ bs) = false
same_bytes (a ∷ xs) [] = false
same_bytes (a ∷ xs) (b ∷ bs) = eqb a b && same_bytes xs bs

unfoldable pub has_byte : ℕ → List ℕ → Bool
has_byte x [] = false
has_byte x (b ∷ bs) = eqb b x || has_byte x bs

-- The header's words, by the number of the field.
unfoldable pub word : ℕ → List ℕ
word field = cond (eqb field 0) (bytes "drawer") (cond (eqb field 1) (bytes "seen") (bytes "score"))

unfoldable pub is_digit : ℕ → Bool
is_digit b = leb (code "0") b && leb b (code "9")

unfoldable pub all_digits : List ℕ → Bool
all_digits [] = true
all_digits (b ∷ bs) = is_digit b && all_digits bs

-- The number that digits write behind the number n.
unfoldable pub number : ℕ → List ℕ → ℕ
number n [] = n
number n (b ∷ bs) = number (n * 10 + (b - code "0")) bs

-- Digits that write a number from 1 to the limit.
unfoldable pub is_number : ℕ → List ℕ → Bool
is_number limit content = all_digits content && (leb 1 (number 0 content) && leb (number 0 content) limit)

abbrev pub most_drawer : ℕ
most_drawer = 65535

abbrev pub most_seen : ℕ
most_seen = 16777216

-- What stands before the first point, and what behind it.
unfoldable pub before : List ℕ → List ℕ
before [] = []
before (b ∷ bs) = cond (eqb b (code ".")) [] (b ∷ before bs)

unfoldable pub behind : List ℕ → List ℕ
behind [] = []
behind (b ∷ bs) = cond (eqb b (code ".")) bs (behind bs)

unfoldable pub between : ℕ → ℕ → ℕ → Bool
between low high n = leb low n && leb n high

-- "1 to 3 digits, then optionally a point and 1 to 6 digits".
unfoldable pub is_score : List ℕ → Bool
is_score content =
    all_digits (before content)
    && (between 1 3 (length (before content))
    && cond (has_byte (code ".") content) (all_digits (behind content) && between 1 6 (length (behind content))) true)

-- "The f32 nearest to that decimal, ties to even": all its digits as a whole number, over 10 for each digit behind the point.
unfoldable pub score_of : List ℕ → Float
score_of content = round binary32 false (number 0 (before content ++ behind content)) (10 ^ length (behind content))
