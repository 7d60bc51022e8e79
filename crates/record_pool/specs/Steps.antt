-- What this crate's private functions promise each other. A reader need not read it: no public contract mentions it.
use Rattle.std.specs.Prelude.{ℕ, ◌+◌, ◌≤◌, ◌<◌, ◌≡◌, Bool, true, false, cond, not, ◌&&◌, List, [], ◌∷◌, map, eqb, leb, ltb, length, get_or, take}
use Rattle.record_pool.specs.Lists.{occ}
use Rattle.record_pool.specs.Chains.{is_number}
use Rattle.record_pool.specs.Pool.{first_used, first_free, next_at, number_at, flags_at, rules_ok}

-- From record i over the records of the list one comes to `at`.
abbrev pub Leads : (ℕ → ℕ) → ℕ → List ℕ → ℕ → Type 0
Leads next i [] at = i ≡ at
Leads next i (x ∷ xs) at = (i ≡ x) × (0 < x) × Leads next (next x) xs at

-- A record that may be marked: within thirty, not marked yet.
unfoldable pub is_unmarked : ℕ → ℕ → ℕ → Bool
is_unmarked mark at n = ltb n 30 && leb at 30 && eqb mark 0

unfoldable pub is_unmarked_at : List ℕ → ℕ → ℕ → Bool
is_unmarked_at seen at n = is_unmarked (get_or seen at 0) at n

unfoldable pub mark_place : ℕ → ℕ
mark_place at = cond (leb at 30) at 0

unfoldable pub is_sound : List ℕ → ℕ → Bool
is_sound xs at = is_number (number_at xs at) && flags_at xs at

-- Whether n is one of the first k numbers.
unfoldable pub is_before : List ℕ → ℕ → ℕ → Bool
is_before numbers k n = not (eqb (occ n (take k numbers)) 0)

-- The same, where a place of 64 that no number has taken yet says that it is not.
unfoldable pub is_taken : ℕ → List ℕ → ℕ → ℕ → Bool
is_taken mark numbers k n = cond (eqb mark 0) false (is_before numbers k n)

-- The used chain as far as `at`: n records, their marks and their numbers.
pub record UsedWalk (xs : List ℕ) (at n : ℕ) (seen numbers us : List ℕ) : Type 0 where
  pub whole : Leads (next_at xs) (first_used xs) us at
  pub long : length us ≡ n
  pub marks : (j : ℕ) → j ≤ 30 → get_or seen j 0 ≡ occ j us
  pub once : (j : ℕ) → occ j us ≤ 1
  pub within : (j : ℕ) → 0 < occ j us → (1 ≤ j) × (j ≤ 30)
  pub images : take n numbers ≡ map (number_at xs) us
  pub rest : (k : ℕ) → n ≤ k → get_or numbers k 0 ≡ 0
  pub ranged : (j : ℕ) → 0 < occ j us → (1 ≤ number_at xs j) × (number_at xs j ≤ 65535)
  pub flagged : (j : ℕ) → 0 < occ j us → flags_at xs j ≡ true

-- The free chain as far as `at`, behind the used chain us.
pub record FreeWalk (xs : List ℕ) (at n : ℕ) (seen us fs : List ℕ) : Type 0 where
  pub whole : Leads (next_at xs) (first_free xs) fs at
  pub long : length fs ≡ n
  pub marks : (j : ℕ) → j ≤ 30 → get_or seen j 0 ≡ occ j us + occ j fs
  pub once : (j : ℕ) → occ j us + occ j fs ≤ 1
  pub within : (j : ℕ) → 0 < occ j us + occ j fs → (1 ≤ j) × (j ≤ 30)

-- Both walks came to their ends.
pub record Both (xs : List ℕ) (used free : ℕ) (numbers : List ℕ) : Type 0 where
  pub seen : List ℕ
  pub seen' : List ℕ
  pub us : List ℕ
  pub fs : List ℕ
  pub first : UsedWalk xs 0 used seen numbers us
  pub second : FreeWalk xs 0 free seen' us fs

abbrev pub WalksTell : List ℕ → Bool → ℕ → ℕ → List ℕ → Type 0
WalksTell xs fine used free numbers = (fine ≡ true → Both xs used free numbers) × (fine ≡ false → rules_ok xs ≡ false)
