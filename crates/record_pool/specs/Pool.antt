-- A pool of thirty records of equal size in one lent buffer, which document 02 calls the chest: what stands where in its bytes, the chains of used and of free
-- records, rule 13, and where a drawer is. A header of 32 bytes, then records 1 to 30 of 2,048 bytes each; whole numbers in 4 bytes, the lowest first.
use Rattle.std.specs.Prelude.{ℕ, ◌+◌, ◌-◌, ◌*◌, Bool, true, false, cond, ◌&&◌, List, ◌++◌, map, eqb, leb, length, get_or, take, drop, replicate, Result, Ok, Err, Option, Some, None}
use Rattle.types.specs.declared.Refusal.TheVariants as Refusals
use Rattle.layout.specs.Places.{state_length, auto_threshold_at, auto_adjust_at}
use Rattle.layout.specs.Numbers.{le4, bytes4, pasted}
use Rattle.record_pool.specs.Chains.{chain, is_number, rules_hold, holder, in_front}
use Rattle.record_pool.specs.declared.Slot.{Slot}
use Rattle.types.specs.declared.Refusal.{Refusal}

-- ---- the layout
abbrev pub pool_length : ℕ
pool_length = 61472

-- The header: how many drawers there are, the first used record and the first free one, 0 where there is none.
abbrev pub count_of : List ℕ → ℕ
count_of xs = le4 xs 0

abbrev pub first_used : List ℕ → ℕ
first_used xs = le4 xs 4

abbrev pub first_free : List ℕ → ℕ
first_free xs = le4 xs 8

-- Where record i begins.
unfoldable pub place : ℕ → ℕ
place i = 32 + 2048 * (i - 1)

-- A record: the one behind it in its chain, 0 at the chain's end; a drawer's number; from byte 8 on the chain's state as the crate layout has it.
unfoldable pub next_at : List ℕ → ℕ → ℕ
next_at xs i = le4 xs (place i)

unfoldable pub number_at : List ℕ → ℕ → ℕ
number_at xs i = le4 xs (place i + 4)

unfoldable pub state_at : List ℕ → ℕ → List ℕ
state_at xs i = take state_length (drop (place i + 8) xs)

-- The state's two yes/no bytes are 0 or 1.
unfoldable pub flags_at : List ℕ → ℕ → Bool
flags_at xs i = leb (get_or xs (place i + (8 + auto_threshold_at)) 0) 1 && leb (get_or xs (place i + (8 + auto_adjust_at)) 0) 1

-- ---- the two chains, and rule 13
-- At most 31 records are walked, one more than there are, so that of a chain that does not end one is met twice.
unfoldable pub used_of : List ℕ → List ℕ
used_of xs = chain 31 (next_at xs) (first_used xs)

unfoldable pub free_of : List ℕ → List ℕ
free_of xs = chain 31 (next_at xs) (first_free xs)

-- Whether a pool passes the test of 13. `Chains.Rules` has it in words.
unfoldable pub rules_ok : List ℕ → Bool
rules_ok xs = eqb (length xs) pool_length && rules_hold (count_of xs) (number_at xs) (flags_at xs) (used_of xs) (free_of xs)

-- ---- where a drawer is
-- The record that holds drawer d, 0 where none does; and the used record in front of it, 0 where it is the first.
unfoldable pub record_of : List ℕ → ℕ → ℕ
record_of xs d = holder (number_at xs) d (used_of xs)

unfoldable pub front_of : List ℕ → ℕ → ℕ
front_of xs d = in_front (number_at xs) d 0 (used_of xs)

-- The bytes of its state.
unfoldable pub state_of : List ℕ → ℕ → List ℕ
state_of xs d = state_at xs (record_of xs d)

-- Record i, where its state begins, the used record p in front of it, and the links as they stand.
abbrev pub slot : List ℕ → ℕ → ℕ → Slot
slot xs i p = record { index = i; state = place i + 8; front = p; next = next_at xs i; count = count_of xs; used = first_used xs; free = first_free xs }

-- A drawer that is there: 13, then 11.
unfoldable pub locate : List ℕ → ℕ → Result Slot Refusal
locate xs d =
    cond (rules_ok xs) (cond (eqb (record_of xs d) 0) (Err Refusals.Drawer) (Ok (slot xs (record_of xs d) (front_of xs d)))) (Err Refusals.Pool)

-- The record for a drawer that is to be opened: 13, then 11 for a number that is not 1 to 65,535 or is there already, then 12.
unfoldable pub vacancy : List ℕ → ℕ → Result Slot Refusal
vacancy xs d =
    cond (rules_ok xs)
    (cond (is_number d && eqb (record_of xs d) 0) (cond (eqb (first_free xs) 0) (Err Refusals.Full) (Ok (slot xs (first_free xs) 0))) (Err Refusals.Drawer))
    (Err Refusals.Pool)

-- The drawers' numbers in the used chain's order, then zeros: thirty in all.
unfoldable pub numbers_of : List ℕ → List ℕ
numbers_of xs = map (number_at xs) (used_of xs) ++ replicate (30 - length (used_of xs)) 0

unfoldable pub listing : List ℕ → Option (List ℕ)
listing xs = cond (rules_ok xs) (Some (numbers_of xs)) None

-- ---- writes
unfoldable pub with_header : List ℕ → (count used free : ℕ) → List ℕ
with_header xs count used free = pasted xs 0 (bytes4 count ++ (bytes4 used ++ bytes4 free))

unfoldable pub with_next : List ℕ → (i next : ℕ) → List ℕ
with_next xs i next = pasted xs (place i) (bytes4 next)

-- A whole record: what stands behind its number is 2,040 bytes.
unfoldable pub with_record : List ℕ → (i next number : ℕ) → (rest : List ℕ) → List ℕ
with_record xs i next number rest = pasted xs (place i) (bytes4 next ++ (bytes4 number ++ rest))

-- Bytes put over those of a record's state.
unfoldable pub with_state : List ℕ → ℕ → List ℕ → List ℕ
with_state xs i ys = pasted xs (place i + 8) ys

-- An opening of drawer d: the first free record becomes the first used.
unfoldable pub opened : List ℕ → ℕ → (rest : List ℕ) → List ℕ
opened xs d rest =
    let i = first_free xs in
    with_record (with_header xs (count_of xs + 1) i (next_at xs i)) i (first_used xs) d rest

-- The used chain goes on behind record i without it, p being the used record in front of it (0: it is the first); i becomes the first free one.
unfoldable pub unlinked : List ℕ → (p i : ℕ) → List ℕ
unlinked xs p i =
    cond (eqb p 0) (with_header xs (count_of xs - 1) (next_at xs i) i) (with_next (with_header xs (count_of xs - 1) (first_used xs) i) p (next_at xs i))

-- A removal: the record's other bytes are zero.
unfoldable pub removed : List ℕ → (p i : ℕ) → List ℕ
removed xs p i = with_record (unlinked xs p i) i (first_free xs) 0 (replicate 2040 0)
