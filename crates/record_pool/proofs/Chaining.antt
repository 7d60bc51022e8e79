-- Chains: what a change of links leaves of them. Assumes nothing.
use mathlib.Core.Path.{◌≡◌, refl, ap, ◌∙◌}
use mathlib.Core.Logic.{◌≢◌}
use mathlib.Core.List.{List, [], ◌∷◌, ◌++◌}
use Prim.Native.Nat.{ℕ, zero, suc, ◌+◌, ◌≤◌, ◌<◌}
use native.Mathlib.Omega.{arith}
use lib.ListN.{length}
use Rattle.record_pool.specs.Lists.{same, occ}
use Rattle.record_pool.specs.Chains.{chain, Chained}
use Rattle.record_pool.proofs.Occ.{Either, equal, other, either, same_refl, occ_append}

-- A chain none of whose records changed is the same chain.
pub chain_frame : (f g : ℕ → ℕ) (i : ℕ) (xs : List ℕ) → ((j : ℕ) → 0 < occ j xs → g j ≡ f j) → Chained f i xs → Chained g i xs
chain_frame f g i [] h c = c
chain_frame f g i (x ∷ xs) h c =
    (c.0, c.1, rw (h x (omega (arith, same_refl x))) (chain_frame f g (f x) xs (λ j k. h j (omega arith)) c.2))

-- What is walked with enough fuel is the chain.
pub walked : (k : ℕ) (f : ℕ → ℕ) (i : ℕ) → length (chain k f i) < k → Chained f i (chain k f i)
unfolding chain
walked zero f i h = absurd (omega arith)
walked (suc k) f zero h = refl
walked (suc k) f (suc i) h = (refl, omega arith, walked k f (f (suc i)) (omega arith))

pub walking : (k : ℕ) (f : ℕ → ℕ) (i : ℕ) (xs : List ℕ) → Chained f i xs → length xs < k → chain k f i ≡ xs
unfolding chain
walking zero f i xs c h = absurd (omega arith)
walking (suc k) f i [] c h = ap (chain (suc k) f) c
walking (suc k) f i (zero ∷ xs) c h = absurd (omega (arith, c.1))
walking (suc k) f i (suc x ∷ xs) c h = ap (chain (suc k) f) c.0 ∙ ap (λ (l : List ℕ). suc x ∷ l) (walking k f (f (suc x)) xs c.2 (omega arith))

-- The chain's members are not 0.
pub members : (f : ℕ → ℕ) (i : ℕ) (xs : List ℕ) → Chained f i xs → (j : ℕ) → 0 < occ j xs → 0 < j
members f i [] c j h = absurd (omega arith)
members f i (x ∷ xs) c j h = go (either x j) (λ (k : 0 < occ j xs). members f (f x) xs c.2 j k)
  where
    go : Either x j → (0 < occ j xs → 0 < j) → 0 < j
    go (equal p e) rest = let q = c.1 in omega arith
    go (other p e) rest = rest (omega arith)

-- ---- a record taken out. p is the record in front of it: the last of ys, or q where ys is empty.
abbrev pub last_or : ℕ → List ℕ → ℕ
last_or q [] = q
last_or q (y ∷ ys) = last_or y ys

pub last_in : (y : ℕ) (ys : List ℕ) → 0 < occ (last_or y ys) (y ∷ ys)
last_in y [] = omega (arith, same_refl y)
last_in y (z ∷ ys) = omega (arith, last_in z ys)

-- What the record in front leads to afterwards: u where the list is empty.
pub link_front : (f : ℕ → ℕ) (u i : ℕ) (ys zs : List ℕ) → Chained f u (ys ++ i ∷ zs) → Chained f (f i) zs
link_front f u i [] zs c = c.2
link_front f u i (y ∷ ys) zs c = link_front f (f y) i ys zs c.2

-- ys not empty: its last record now leads to what i led to, and nothing else of ys and zs changed.
pub taken_out : (f g : ℕ → ℕ) (u i y : ℕ) (ys zs : List ℕ) → ((j : ℕ) → 0 < occ j (y ∷ ys) + occ j zs → j ≢ last_or y ys → g j ≡ f j)
    → g (last_or y ys) ≡ f i → ((j : ℕ) → occ j ((y ∷ ys) ++ i ∷ zs) ≤ 1) → Chained f u ((y ∷ ys) ++ i ∷ zs) → Chained g u ((y ∷ ys) ++ zs)
taken_out f g u i y [] zs h e once c =
    (c.0, c.1, rw e (chain_frame f g (f i) zs (λ j k. h j (omega arith) (λ q. let o = once j in let s = same_refl j in omega (arith, ap (λ (n : ℕ). same n j) q))) c.2.2))
taken_out f g u i y (x ∷ ys) zs h e once c =
    let here : 0 < occ (last_or x ys) (x ∷ ys) = last_in x ys in
    let o = once y in
    let a = occ_append y (x ∷ ys) (i ∷ zs) in
    let s = same_refl y in
    let apart : y ≢ last_or x ys = λ q. omega (arith, ap (λ (n : ℕ). occ n (x ∷ ys)) q) in
    (c.0, c.1, rw (h y (omega arith) apart) (taken_out f g (f y) i x ys zs (λ j k n. h j (omega arith) n) e (λ j. omega (arith, once j)) c.2))
