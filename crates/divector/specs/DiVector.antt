-- divector.rs over the lists of its two vectors, hs (high) and ls (low).
use Rattle.std.specs.Prelude.{ℕ, zero, suc, ◌+◌, ◌-◌, ◌*◌, ◌/◌, ◌%◌, Bool, cond, not, ◌&&◌, ◌||◌, List, [], ◌∷◌, map, length, get_or, replicate, pos, ◌==◌, nat_lt, slice_index_or, Float, Result, Ok, Err}
use Rattle.std.specs.Float.Ieee as Ieee
use Rattle.std.specs.Float.{nan, binary64}
use Rattle.types.specs.declared.Refusal.TheVariants.{Length, Blocks}
use Rattle.ieee.specs.F64.{zero64, one64, ◌<=₆₄◌, ◌>₆₄◌, ◌+₆₄◌, ◌*₆₄◌, ◌/₆₄◌}
use Rattle.divector.specs.Const.{two64}
use Rattle.types.specs.declared.Refusal.{Refusal}
use Rattle.types.specs.Refusals.{Answer}

-- acc and the numbers of the list, added in order
unfoldable pub sum_from : Float → List Float → Float
sum_from acc [] = acc
sum_from acc (x ∷ xs) = sum_from (acc +₆₄ x) xs

-- the sum of high and the sum of low, each from plus zero, added
unfoldable pub total_of : List Float → List Float → Float
total_of hs ls = sum_from zero64 hs +₆₄ sum_from zero64 ls

-- high and low are of one length
abbrev pub alike : List Float → List Float → Bool
alike hs ls = length hs == length ls

-- refusal 3 where high and low differ in length
unfoldable pub total : List Float → List Float → Result Float Refusal
total hs ls = cond (alike hs ls) (Ok (total_of hs ls)) (Err Length)

-- high[i] + low[i]
abbrev pub sum_at : List Float → List Float → ℕ → Float
sum_at hs ls i = slice_index_or hs i nan +₆₄ get_or ls i nan

-- refusal 3 where high and low differ in length, or there is no index i
unfoldable pub high_low_sum : List Float → List Float → ℕ → Result Float Refusal
high_low_sum hs ls i = cond (alike hs ls && nat_lt i (length hs)) (Ok (sum_at hs ls i)) (Err Length)

-- What a call answers, and the pair that it leaves.
pub record After : Type 0 where
  pub answer : Answer
  pub high : List Float
  pub low : List Float

abbrev pub after : Answer → List Float → List Float → After
after r high low = record { answer = r; high = high; low = low }

-- A pair hs, ls becomes hs', ls' where the lengths fit; otherwise refusal 3, and the pair as it was.
abbrev pub changed : Bool → List Float → List Float → List Float → List Float → After
changed fits hs ls hs' ls' = cond fits (after (Ok tt) hs' ls') (after (Err Length) hs ls)

-- x *= factor for every x
unfoldable pub scaled : Float → List Float → List Float
scaled factor xs = map (λ (x : Float). x *₆₄ factor) xs

-- both sides scaled
unfoldable pub scale : List Float → List Float → Float → After
scale hs ls factor = changed (alike hs ls) hs ls (scaled factor hs) (scaled factor ls)

-- 1.0 / num as f64
abbrev pub reciprocal : ℕ → Float
reciprocal num = one64 /₆₄ Ieee.of_int binary64 (pos num)

-- both sides scaled by it
unfoldable pub divide : List Float → List Float → ℕ → After
divide hs ls num = scale hs ls (reciprocal num)

-- `iter_mut().zip(..)`: every x becomes f x y with the y at its place, as far as there is one
unfoldable pub zipped : (Float → Float → Float) → List Float → List Float → List Float
zipped f [] ys = []
zipped f (x ∷ xs) [] = x ∷ xs
zipped f (x ∷ xs) (y ∷ ys) = f x y ∷ zipped f xs ys

-- x += y
unfoldable pub added : List Float → List Float → List Float
added xs ys = zipped (λ (x y : Float). x +₆₄ y) xs ys

-- x += y * factor
unfoldable pub added_scaled : Float → List Float → List Float → List Float
added_scaled factor xs ys = zipped (λ (x y : Float). x +₆₄ y *₆₄ factor) xs ys

-- the four are one length
unfoldable pub one_length : ℕ → ℕ → ℕ → ℕ → Bool
one_length a b c d = a == b && (a == c && a == d)

-- two pairs, all of one length
abbrev pub all_alike : List Float → List Float → List Float → List Float → Bool
all_alike hs ls xs ys = one_length (length hs) (length ls) (length xs) (length ys)

-- the pair becomes the pair fh, fl
unfoldable pub assign : List Float → List Float → List Float → List Float → After
assign hs ls fh fl = changed (all_alike hs ls fh fl) hs ls fh fl

-- the pair hs, ls is added to the other pair, oh, ol
unfoldable pub add_to : List Float → List Float → List Float → List Float → After
add_to hs ls oh ol = changed (all_alike hs ls oh ol) oh ol (added oh hs) (added ol ls)

-- the same, each number times factor
unfoldable pub add_to_scaled : List Float → List Float → List Float → List Float → Float → After
add_to_scaled hs ls oh ol factor = changed (all_alike hs ls oh ol) oh ol (added_scaled factor oh hs) (added_scaled factor ol ls)

-- value / (2.0 * n as f64)
unfoldable pub share : Float → ℕ → Float
share value n = value /₆₄ (two64 *₆₄ Ieee.of_int binary64 (pos n))

-- What normalising the pair hs, ls to value makes of xs, one of the two: a share everywhere where the total is <= 0, else scaled by value / total. A NaN total scales.
unfoldable pub normalized : Float → List Float → List Float → List Float → List Float
normalized value hs ls xs =
    let current = total_of hs ls in
    cond (current <=₆₄ zero64) (replicate (length hs) (share value (length hs))) (scaled (value /₆₄ current) xs)

-- both sides normalised to value
unfoldable pub normalize : List Float → List Float → Float → After
normalize hs ls value = changed (alike hs ls) hs ls (normalized value hs ls hs) (normalized value hs ls ls)

-- the same, in place of another pair, oh, ol
unfoldable pub normalize_into : List Float → List Float → Float → List Float → List Float → After
normalize_into hs ls value oh ol = changed (all_alike hs ls oh ol) oh ol (normalized value hs ls hs) (normalized value hs ls ls)

-- 0.0 and the n sums high[at + i] + low[at + i] from i = 0 on, added in order
unfoldable pub pair_sum : List Float → List Float → ℕ → ℕ → Float
pair_sum hs ls at zero = zero64
pair_sum hs ls at (suc i) = pair_sum hs ls at i +₆₄ sum_at hs ls (at + i)

-- the sum of the block at place k
unfoldable pub block_sum : List Float → List Float → ℕ → ℕ → Float
block_sum hs ls base k = pair_sum hs ls (k * base) base

-- The winner among index, the winner so far, and the n blocks from j on: a later block wins only if its sum is strictly larger.
unfoldable pub best_from : (ℕ → Float) → ℕ → ℕ → ℕ → ℕ
best_from sum zero j index = index
best_from sum (suc n) j index = best_from sum n (j + 1) (cond (sum j >₆₄ sum index) j index)

-- the winner among the blocks from start on
unfoldable pub winner : List Float → List Float → ℕ → ℕ → ℕ → ℕ
winner hs ls base start blocks = best_from (block_sum hs ls base) (blocks - (start + 1)) (start + 1) start

-- Where the search starts, in a pair of length n: at block 0 where gap * base exceeds the length, else gap blocks before the end.
unfoldable pub first_block : ℕ → ℕ → ℕ → ℕ
first_block n base gap = cond (nat_lt n (gap * base)) 0 (n / base - gap)

-- Refusal 8: gap 0, base 0, length empty, or not a multiple of base.
unfoldable pub bad_blocks : ℕ → ℕ → ℕ → Bool
bad_blocks n base gap = gap == 0 || (base == 0 || (n == 0 || not (n % base == 0)))

-- the best of the last gap blocks; refusal 3 goes before 8
unfoldable pub max_gap_contribution : List Float → List Float → ℕ → ℕ → Result ℕ Refusal
max_gap_contribution hs ls base gap =
    let n = length hs in
    cond (not (alike hs ls)) (Err Length)
    (cond (bad_blocks n base gap) (Err Blocks)
    (Ok (winner hs ls base (first_block n base gap) (n / base))))

-- the best of all blocks
unfoldable pub max_contribution : List Float → List Float → ℕ → Result ℕ Refusal
max_contribution hs ls base = max_gap_contribution hs ls base (length hs)
