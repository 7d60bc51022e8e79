-- Thirty records 1 to 30 in two chains. `next i` is the record behind i, 0 where the chain ends.
use Rattle.std.specs.Prelude.{ℕ, zero, suc, ◌+◌, ◌≤◌, ◌<◌, ◌≡◌, Bool, true, cond, ◌&&◌, List, [], ◌∷◌, map, eqb, leb, length}
unfoldable pub use Rattle.pool_links.specs.Numbers.{is_number}
use Rattle.record_pool.specs.Lists.{occ, every, distinct, down_from}

-- The records from i on, at most k of them.
unfoldable pub chain : ℕ → (ℕ → ℕ) → ℕ → List ℕ
chain zero next i = []
chain (suc k) next zero = []
chain (suc k) next (suc i) = suc i ∷ chain k next (next (suc i))

-- The records from i on to the chain's end are the list.
abbrev pub Chained : (ℕ → ℕ) → ℕ → List ℕ → Type 0
Chained next i [] = i ≡ 0
Chained next i (x ∷ xs) = (i ≡ x) × (0 < x) × Chained next (next x) xs

-- 1 to 30.
unfoldable pub is_record : ℕ → Bool
is_record i = leb 1 i && leb i 30

-- In words: the used chain is us and the free one fs, the count is the used chain's length, each record stands in just one chain and once, the drawer numbers of used
-- records are in range and held once, and their yes/no bytes are 0 or 1 (`flags`).
pub record Rules (count used free : ℕ) (next number : ℕ → ℕ) (flags : ℕ → Bool) (us fs : List ℕ) : Type 0 where
  pub walk_used : Chained next used us
  pub walk_free : Chained next free fs
  pub counted : count ≡ length us
  pub once : (i : ℕ) → 1 ≤ i → i ≤ 30 → occ i us + occ i fs ≡ 1
  pub within : (i : ℕ) → 0 < occ i us + occ i fs → (1 ≤ i) × (i ≤ 30)
  pub ranged : (i : ℕ) → 0 < occ i us → (1 ≤ number i) × (number i ≤ 65535)
  pub apart : (n : ℕ) → occ n (map number us) ≤ 1
  pub flagged : (i : ℕ) → 0 < occ i us → flags i ≡ true

-- The same as a test.
unfoldable pub rules_hold : ℕ → (ℕ → ℕ) → (ℕ → Bool) → List ℕ → List ℕ → Bool
rules_hold count number flags us fs =
    every is_record us && every is_record fs && every (λ i. eqb (occ i us + occ i fs) 1) (down_from 30) && eqb count (length us)
    && every (λ i. is_number (number i)) us && distinct (map number us) && every flags us

-- The record of the list that has the number d, 0 where none has it.
unfoldable pub holder : (ℕ → ℕ) → ℕ → List ℕ → ℕ
holder number d [] = 0
holder number d (i ∷ is) = cond (eqb (number i) d) i (holder number d is)

-- The record in front of it, p where it is the first.
unfoldable pub in_front : (ℕ → ℕ) → ℕ → ℕ → List ℕ → ℕ
in_front number d p [] = p
in_front number d p (i ∷ is) = cond (eqb (number i) d) p (in_front number d i is)
