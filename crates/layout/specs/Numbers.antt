-- How a single number is stored: little-endian, a whole number in 4 bytes (a negative one as its two's complement), a float by its bits, a yes/no in 1 byte.
-- The names that end `At` read from place i of a list of bytes, and those that end `Bytes` give the bytes to write.
use Rattle.std.specs.Prelude.{ℕ, ◌+◌, ◌-◌, ◌*◌, ◌/◌, ◌%◌, Bool, cond, not, List, [], ◌∷◌, ◌++◌, length, take, drop, ℤ, pos, negsuc, ◌==◌, from_bits, nat_lt, slice_index, to_bits, Float}
use Rattle.std.specs.Float.{binary32, binary64}

-- The number of four bytes, the lowest first.
unfoldable pub le4 : List ℕ → ℕ → ℕ
le4 xs i = slice_index xs i + 0x100 * slice_index xs (i + 1) + 0x1_0000 * slice_index xs (i + 2) + 0x100_0000 * slice_index xs (i + 3)

-- The number of eight bytes, the lowest first.
unfoldable pub le8 : List ℕ → ℕ → ℕ
le8 xs i = le4 xs i + 0x1_0000_0000 * le4 xs (i + 4)

unfoldable pub bytes4 : ℕ → List ℕ
bytes4 n = n % 0x100 ∷ n / 0x100 % 0x100 ∷ n / 0x1_0000 % 0x100 ∷ n / 0x100_0000 % 0x100 ∷ []

unfoldable pub bytes8 : ℕ → List ℕ
bytes8 n = bytes4 (n % 0x1_0000_0000) ++ bytes4 (n / 0x1_0000_0000)

-- The whole number of a pattern below 2^32, two's complement, and the pattern of a whole number.
unfoldable pub signed : ℕ → ℤ
signed n = cond (nat_lt n 0x8000_0000) (pos n) (negsuc (0xffff_ffff - n))

unfoldable pub unsigned : ℤ → ℕ
unsigned (pos n) = n
unsigned (negsuc n) = 0xffff_ffff - n

unfoldable pub f32_at : List ℕ → ℕ → Float
f32_at xs i = from_bits binary32 (le4 xs i)

unfoldable pub f64_at : List ℕ → ℕ → Float
f64_at xs i = from_bits binary64 (le8 xs i)

unfoldable pub i32_at : List ℕ → ℕ → ℤ
i32_at xs i = signed (le4 xs i)

-- Yes unless the byte is 0.
unfoldable pub flag_at : List ℕ → ℕ → Bool
flag_at xs i = not (slice_index xs i == 0)

-- `to_bits` of a NaN is 7fc00000 and 7ff8000000000000.
unfoldable pub f32_bytes : Float → List ℕ
f32_bytes x = bytes4 (to_bits binary32 x)

unfoldable pub f64_bytes : Float → List ℕ
f64_bytes x = bytes8 (to_bits binary64 x)

unfoldable pub i32_bytes : ℤ → List ℕ
i32_bytes n = bytes4 (unsigned n)

abbrev pub flag_byte : Bool → ℕ
flag_byte b = cond b 1 0

unfoldable pub flag_bytes : Bool → List ℕ
flag_bytes b = flag_byte b ∷ []

-- What a write leaves of a buffer that must have n bytes: the new bytes, or what it was.
unfoldable pub written_of : ℕ → List ℕ → List ℕ → List ℕ
written_of n xs ys = cond (length xs == n) ys xs

-- ys put over xs from the place `at` on.
unfoldable pub pasted : List ℕ → ℕ → List ℕ → List ℕ
pasted xs at ys = take at xs ++ (ys ++ drop (at + length ys) xs)
