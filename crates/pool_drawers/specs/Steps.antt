-- What this crate's private functions ask of each other. A reader need not read it: no public contract mentions it.
use Rattle.std.specs.Prelude.{ℕ, ◌≤◌, ◌≡◌, List, length}
use Rattle.record_pool.specs.Pool.{count_of, first_used, first_free, next_at}
use Rattle.record_pool.specs.declared.Slot.{Slot}

-- A record of the pool xs, and the links around it as they stand.
pub record Placed (xs : List ℕ) (s : Slot) : Type 0 where
  pub size : length xs ≡ 61472
  pub low : 1 ≤ s.index
  pub high : s.index ≤ 30
  pub front_high : s.front ≤ 30
  pub next : s.next ≡ next_at xs s.index
  pub count : s.count ≡ count_of xs
  pub used : s.used ≡ first_used xs
  pub free : s.free ≡ first_free xs

-- A used one; the first free one.
pub record Held (xs : List ℕ) (s : Slot) : Type 0 where
  pub placed : Placed xs s
  pub some : 1 ≤ s.count

pub record Spare (xs : List ℕ) (s : Slot) : Type 0 where
  pub placed : Placed xs s
  pub fewer : s.count ≤ 29
  pub first : s.index ≡ first_free xs
