-- What the calls on a pool ask of this crate: whether the chains' lengths agree, and the links that an opening or a removal leaves, which the definitions of the calls
-- have again, on bytes. `index` is the record that is opened or removed, `front` the used record in front of it (0 where it is the first), `next` the record behind it
-- in its chain.
use Rattle.std.specs.Prelude.{ℕ, ◌+◌, ◌-◌, Bool, cond, ◌&&◌, eqb, leb, ltb}
use Rattle.pool_links.specs.declared.Header.{Header}
use Rattle.pool_links.specs.declared.Link.{Link}

-- The header's count is the used chain's length, and the two chains have thirty records.
unfoldable pub counts_agree : (count used free : ℕ) → Bool
counts_agree count used free = eqb used count && (leb used 30 && (leb free 30 && eqb (used + free) 30))

-- One more; a pool has at most thirty.
unfoldable pub one_more : ℕ → ℕ
one_more count = cond (ltb count 30) (count + 1) 30

-- The header behind an opening: the record is the first used.
abbrev pub opened : (index next count : ℕ) → Header
opened index next count = record { count = one_more count; used = index; free = next }

-- The header behind a removal: the record is the first free.
abbrev pub removed : (index front next count used : ℕ) → Header
removed index front next count used = record { count = count - 1; used = cond (eqb front 0) next used; free = index }

-- What stands in front of the state of an opened record, and of a removed one's zeros.
abbrev pub opened_link : (used drawer : ℕ) → Link
opened_link used drawer = record { next = used; number = drawer }

abbrev pub removed_link : (free : ℕ) → Link
removed_link free = record { next = free; number = 0 }
