-- What is read of a list over which bytes were put. Assumes nothing.
use mathlib.Core.Path.{◌≡◌, refl, sym, ap, ap₂, ◌∙◌}
use mathlib.Core.Logic.{◌≢◌}
use mathlib.Core.Bool.{Bool, true, false, ◌&&◌}
use mathlib.Core.List.{List, ◌++◌, append_assoc}
use Prim.Native.Nat.{ℕ, ◌+◌, ◌*◌, ◌≤◌, ◌<◌}
use native.Mathlib.Nat.{add-zero, le_dest}
use native.Mathlib.Omega.{arith}
use lib.Dec.{leb, ltb}
use lib.ListN.{length, get_or, take, drop, length-append, length-take, length-drop, get_or-append}
use lib.Seq.{length-take-le, get_or-append-add, get_or-take, get_or-drop, ext_get_or}
use borrow.Author.Tests.{ltb-true, ltb-false}
use Rattle.layout.specs.Numbers.{le4, bytes4, pasted}
use Rattle.layout.proofs.Laws.{le4_back}
use Rattle.record_pool.specs.Pool.{place, next_at, number_at, flags_at, state_at}

module _ (xs : List ℕ) (at : ℕ) (ys : List ℕ) (fits : at ≤ length xs) where
  -- ---- one byte.
  pub byte_before : (n : ℕ) → n < at → get_or (pasted xs at ys) n 0 ≡ get_or xs n 0
  unfolding pasted
  byte_before n h =
      get_or-append (take at xs) (ys ++ drop (at + length ys) xs) 0 n (omega (arith, length-take-le at xs fits)) ∙ get_or-take at xs n 0 h

  pub byte_within : (k : ℕ) → k < length ys → get_or (pasted xs at ys) (at + k) 0 ≡ get_or ys k 0
  unfolding pasted
  byte_within k h =
      ap (λ (n : ℕ). get_or (take at xs ++ (ys ++ drop (at + length ys) xs)) (n + k) 0) (sym (length-take-le at xs fits))
      ∙ get_or-append-add (take at xs) (ys ++ drop (at + length ys) xs) k 0
      ∙ get_or-append ys (drop (at + length ys) xs) 0 k h

  pub byte_behind : (n : ℕ) → at + length ys ≤ n → get_or (pasted xs at ys) n 0 ≡ get_or xs n 0
  unfolding pasted
  byte_behind n h =
      let m = le_dest h in
      let front : length (take at xs ++ ys) ≡ at + length ys = length-append (take at xs) ys ∙ ap (λ (a : ℕ). a + length ys) (length-take-le at xs fits) in
      let here : length (take at xs ++ ys) + m.0 ≡ n = ap (λ (a : ℕ). a + m.0) front ∙ m.1 in
      ap (λ (l : List ℕ). get_or l n 0) (sym (append_assoc (take at xs) ys (drop (at + length ys) xs)))
      ∙ ap (λ (a : ℕ). get_or ((take at xs ++ ys) ++ drop (at + length ys) xs) a 0) (sym here)
      ∙ get_or-append-add (take at xs ++ ys) (drop (at + length ys) xs) m.0 0
      ∙ get_or-drop (at + length ys) xs m.0 0 ∙ ap (λ (a : ℕ). get_or xs a 0) m.1

-- ---- the bytes from a on, up to b, are the same in both lists.
abbrev pub Agree : ℕ → ℕ → List ℕ → List ℕ → Type 0
Agree a b xs ys = (n : ℕ) → a ≤ n → n < b → get_or ys n 0 ≡ get_or xs n 0

pub le4_agree : (i : ℕ) (xs ys : List ℕ) → Agree i (i + 4) xs ys → le4 ys i ≡ le4 xs i
unfolding le4
le4_agree i xs ys h =
    ap₂ ◌+◌ (ap₂ ◌+◌ (ap₂ ◌+◌ (h i (omega arith) (omega arith)) (ap (λ (b : ℕ). 0x100 * b) (h (i + 1) (omega arith) (omega arith))))
    (ap (λ (b : ℕ). 0x1_0000 * b) (h (i + 2) (omega arith) (omega arith)))) (ap (λ (b : ℕ). 0x100_0000 * b) (h (i + 3) (omega arith) (omega arith)))

pub part_agree : (i n : ℕ) (xs ys : List ℕ) → length ys ≡ length xs → Agree i (i + n) xs ys → take n (drop i ys) ≡ take n (drop i xs)
part_agree i n xs ys e h =
    ext_get_or 0 (take n (drop i ys)) (take n (drop i xs)) (length-take n (drop i ys) ∙ simp (length-drop, e) (sym (length-take n (drop i xs) ∙ simp length-drop)))
    (λ k l. let b : k < n = omega (arith, length-take n (drop i ys)) in
    get_or-take n (drop i ys) k 0 b ∙ get_or-drop i ys k 0 ∙ h (i + k) (omega arith) (omega arith) ∙ sym (get_or-take n (drop i xs) k 0 b ∙ get_or-drop i xs k 0))

-- A number read inside of what was put.
pub le4_within : (xs : List ℕ) (at : ℕ) (ys : List ℕ) (k j : ℕ) → at ≤ length xs → k + 4 ≤ length ys → at + k ≡ j → le4 (pasted xs at ys) j ≡ le4 ys k
unfolding le4
le4_within xs at ys k j fits h e =
    let b : (m : ℕ) → m < 4 → get_or (pasted xs at ys) (j + m) 0 ≡ get_or ys (k + m) 0 =
    λ m l. ap (λ (n : ℕ). get_or (pasted xs at ys) n 0) (omega arith) ∙ byte_within xs at ys fits (k + m) (omega arith) in
    ap₂ ◌+◌ (ap₂ ◌+◌ (ap₂ ◌+◌ (ap (λ (n : ℕ). get_or (pasted xs at ys) n 0) (sym (add-zero j)) ∙ b 0 (omega arith) ∙ ap (λ (n : ℕ). get_or ys n 0) (add-zero k)) (ap (λ (b : ℕ). 0x100 * b) (b 1 (omega arith))))
    (ap (λ (b : ℕ). 0x1_0000 * b) (b 2 (omega arith)))) (ap (λ (b : ℕ). 0x100_0000 * b) (b 3 (omega arith)))

pub byte_at : (xs : List ℕ) (at : ℕ) (ys : List ℕ) (k j : ℕ) → at ≤ length xs → k < length ys → at + k ≡ j → get_or (pasted xs at ys) j 0 ≡ get_or ys k 0
byte_at xs at ys k j fits h e = ap (λ (n : ℕ). get_or (pasted xs at ys) n 0) (sym e) ∙ byte_within xs at ys fits k h

-- ---- numbers that stand first in what was put.
pub first_number : (a : ℕ) (ys : List ℕ) → a < 0x1_0000_0000 → le4 (bytes4 a ++ ys) 0 ≡ a
unfolding le4 bytes4
first_number a ys h = le4_back a h

pub second_number : (a b : ℕ) (ys : List ℕ) → b < 0x1_0000_0000 → le4 (bytes4 a ++ (bytes4 b ++ ys)) 4 ≡ b
unfolding le4 bytes4
second_number a b ys h = le4_back b h

pub third_number : (a b c : ℕ) → c < 0x1_0000_0000 → le4 (bytes4 a ++ (bytes4 b ++ bytes4 c)) 8 ≡ c
unfolding le4 bytes4
third_number a b c h = le4_back c h

pub length_bytes4 : (a : ℕ) → length (bytes4 a) ≡ 4
unfolding bytes4
length_bytes4 a = refl

-- ---- two records.
pub data Beside (i j : ℕ) : Type 0 where
  below : place i + 2048 ≤ place j → Beside i j
  above : place j + 2048 ≤ place i → Beside i j

lower : (i j : ℕ) → 1 ≤ i → i < j → place i + 2048 ≤ place j
unfolding place
lower i j h l = omega arith

pub beside : (i j : ℕ) → 1 ≤ i → 1 ≤ j → j ≢ i → Beside i j
beside i j h k n = go (ltb i j) refl
  where
    go : (b : Bool) → ltb i j ≡ b → Beside i j
    go true e = below (lower i j h (ltb-true i j e))
    go false e = above (lower j i k (let l = ltb-false i j e in omega arith))

pub place_low : (i : ℕ) → 32 ≤ place i
unfolding place
place_low i = omega arith

pub place_high : (i : ℕ) → 1 ≤ i → i ≤ 30 → place i + 2048 ≤ 61472
unfolding place
place_high i h k = omega arith

-- Bytes put inside of record i leave every other record and the header.
module _ (xs : List ℕ) (at : ℕ) (ys : List ℕ) (i : ℕ) (size : length xs ≡ 61472) (low : 1 ≤ i) (high : i ≤ 30)
    (from : place i ≤ at) (upto : at + length ys ≤ place i + 2048) where
  fit : at ≤ length xs
  fit = omega (arith, place_high i low high)

  pub others_agree : (j : ℕ) → 1 ≤ j → j ≢ i → Agree (place j) (place j + 2048) xs (pasted xs at ys)
  others_agree j h n m a b = go (beside i j low h n)
    where
      go : Beside i j → get_or (pasted xs at ys) m 0 ≡ get_or xs m 0
      go (below l) = byte_behind xs at ys fit m (omega arith)
      go (above l) = byte_before xs at ys fit m (omega arith)

  pub header_agrees : Agree 0 32 xs (pasted xs at ys)
  header_agrees m a b = byte_before xs at ys fit m (omega (arith, place_low i))

-- Bytes put inside of the header leave every record.
pub records_agree : (xs ys : List ℕ) → length ys ≤ 32 → (j : ℕ) → Agree (place j) (place j + 2048) xs (pasted xs 0 ys)
records_agree xs ys h j m a b = byte_behind xs 0 ys (omega arith) m (omega (arith, place_low j))

-- ---- what is read of a record whose bytes agree.
pub next_agrees : (xs ys : List ℕ) (j : ℕ) → Agree (place j) (place j + 2048) xs ys → next_at ys j ≡ next_at xs j
unfolding next_at
next_agrees xs ys j h = le4_agree (place j) xs ys (λ n a b. h n (omega arith) (omega arith))

-- Of all but its next.
pub behind_next : (xs ys : List ℕ) (j : ℕ) → Agree (place j) (place j + 2048) xs ys → Agree (place j + 4) (place j + 2048) xs ys
behind_next xs ys j h n a b = h n (omega arith) b

module _ (xs ys : List ℕ) (j : ℕ) (h : Agree (place j + 4) (place j + 2048) xs ys) where
  pub number_agrees : number_at ys j ≡ number_at xs j
  unfolding number_at
  number_agrees = le4_agree (place j + 4) xs ys (λ n a b. h n (omega arith) (omega arith))

  pub flags_agree : flags_at ys j ≡ flags_at xs j
  unfolding flags_at
  flags_agree = ap₂ (λ (a b : ℕ). leb a 1 && leb b 1) (h (place j + 132) (omega arith) (omega arith)) (h (place j + 157) (omega arith) (omega arith))

  pub state_agrees : length ys ≡ length xs → state_at ys j ≡ state_at xs j
  unfolding state_at
  state_agrees e = part_agree (place j + 8) 1310 xs ys e (λ n a b. h n (omega arith) (omega arith))

pub agree_trans : (a b : ℕ) (xs ys zs : List ℕ) → Agree a b xs ys → Agree a b ys zs → Agree a b xs zs
agree_trans a b xs ys zs p q n h k = q n h k ∙ p n h k
