-- How many places a scan reads that ends where its answer is settled. Definitions only.
use Rattle.std.specs.Prelude.{ℕ, zero, suc, ◌+◌, ◌-◌, ◌<◌, ◌≤◌, ◌≡◌, Bool, true, false, cond, eqb}

-- How many of n places are read, from place 0 on, by a scan that ends at the first hit: that one's place counted from 1, else all. The test says which places are hits.
unfoldable pub read_until : ℕ → (ℕ → Bool) → ℕ
read_until zero f = 0
read_until (suc n) f = cond (f 0) 1 (suc (read_until n (λ i. f (suc i))))

-- What holds of it for any test.
pub record LawsOf (n : ℕ) (f : ℕ → Bool) : Type 0 where
  -- At most all.
  pub most : read_until n f ≤ n
  -- Where there is a hit, the last place read is one.
  pub hit : (i : ℕ) → i < n → f i ≡ true → (0 < read_until n f) × (f (read_until n f - 1) ≡ true)
  -- None before it.
  pub none : (i : ℕ) → i + 1 < read_until n f → f i ≡ false
  -- Where there is none, all are read.
  pub all : ((i : ℕ) → i < n → f i ≡ false) → read_until n f ≡ n
  -- The places read are enough: a test that says the same of them ends at the same one, whatever it says of the others.
  pub settled : (g : ℕ → Bool) → ((i : ℕ) → i < read_until n f → g i ≡ f i) → read_until n g ≡ read_until n f
  -- Fewer do not say whether there is a hit: of k of them a test whose only hit is the next place says the same, and so does one without a hit.
  pub unsettled : (k : ℕ) → k < read_until n f → (k < n) × ((i : ℕ) → i < k → (eqb k i ≡ f i) × (false ≡ f i))

abbrev pub ReadLaws : Type 0
ReadLaws = (n : ℕ) (f : ℕ → Bool) → LawsOf n f
