-- The library's bytes of a number, and its two's complement, are those of Numbers. Assumes nothing.
use Rattle.std.proofs.Common.{◌≡◌, ℕ, suc, ◌+◌, ◌-◌, ◌/◌, ◌%◌, ◌<◌, Bool, true, false, cond, List, [], ◌∷◌, get_or, take, drop, ltb, ℤ, pos, negsuc, refl, ap, ◌∙◌, add-zero, add_assoc, arith, w32, w64, to_z, of_z, get_or-take, get_or-drop}
use mir.Val.{sel}
use Rattle.std.specs.Int.{to_le_bytes, from_le_bytes, from_bool}
use Rattle.layout.specs.Numbers.{le4, le8, bytes4, bytes8, signed, unsigned, flag_byte}

module _ (xs : List ℕ) (at n : ℕ) where
  part : (i : ℕ) → i < n → get_or (take n (drop at xs)) i 0 ≡ get_or xs (at + i) 0
  part i h = get_or-take n (drop at xs) i 0 h ∙ get_or-drop at xs i 0

  first : 0 < n → get_or (take n (drop at xs)) 0 0 ≡ get_or xs at 0
  first h = part 0 h ∙ ap (λ (k : ℕ). get_or xs k 0) (add-zero at)

pub four_at : (xs : List ℕ) (at : ℕ) → from_le_bytes w32 (take 4 (drop at xs)) ≡ le4 xs at
unfolding le4
four_at xs at =
    let a = first xs at 4 (omega arith) in
    let b = part xs at 4 1 (omega arith) in
    let c = part xs at 4 2 (omega arith) in
    let d = part xs at 4 3 (omega arith) in
    omega arith

pub eight_at : (xs : List ℕ) (at : ℕ) → from_le_bytes w64 (take 8 (drop at xs)) ≡ le8 xs at
unfolding le8 le4
eight_at xs at =
    let a = first xs at 8 (omega arith) in
    let b = part xs at 8 1 (omega arith) in
    let c = part xs at 8 2 (omega arith) in
    let d = part xs at 8 3 (omega arith) in
    let e = part xs at 8 4 (omega arith) in
    let f = rw (← add_assoc at 4 1) at (part xs at 8 5 (omega arith)) in
    let g = rw (← add_assoc at 4 2) at (part xs at 8 6 (omega arith)) in
    let h = rw (← add_assoc at 4 3) at (part xs at 8 7 (omega arith)) in
    omega arith

pub four : (n : ℕ) → to_le_bytes w32 n ≡ bytes4 n
unfolding bytes4
four n = refl

pub eight : (n : ℕ) → to_le_bytes w64 n ≡ bytes8 n
unfolding bytes8 bytes4
eight n =
    let a : n % 0x100 ≡ n % 0x1_0000_0000 % 0x100 = omega arith in
    let b : n / 0x100 % 0x100 ≡ n % 0x1_0000_0000 / 0x100 % 0x100 = omega arith in
    let c : n / 0x1_0000 % 0x100 ≡ n % 0x1_0000_0000 / 0x1_0000 % 0x100 = omega arith in
    let d : n / 0x100_0000 % 0x100 ≡ n % 0x1_0000_0000 / 0x100_0000 % 0x100 = omega arith in
    let f : n / 0x100_0000_0000 % 0x100 ≡ n / 0x1_0000_0000 / 0x100 % 0x100 = omega arith in
    let g : n / 0x1_0000_0000_0000 % 0x100 ≡ n / 0x1_0000_0000 / 0x1_0000 % 0x100 = omega arith in
    let h : n / 0x100_0000_0000_0000 % 0x100 ≡ n / 0x1_0000_0000 / 0x100_0000 % 0x100 = omega arith in
    λ i. a i ∷ b i ∷ c i ∷ d i ∷ n / 0x1_0000_0000 % 0x100 ∷ f i ∷ g i ∷ h i ∷ []

pub signed_is : (n : ℕ) → to_z w32 n ≡ signed n
unfolding signed
signed_is n = go (ltb n 0x8000_0000)
  where
    go : (b : Bool) → sel b (pos n) (negsuc (0x1_0000_0000 - suc n)) ≡ cond b (pos n) (negsuc (0xffff_ffff - n))
    go true = refl
    go false = ap negsuc (omega arith)

pub unsigned_is : (z : ℤ) → of_z w32 z ≡ unsigned z
unfolding unsigned
unsigned_is (pos n) = refl
unsigned_is (negsuc n) = omega arith

pub flag_is : (b : Bool) → from_bool b ≡ flag_byte b
flag_is true = refl
flag_is false = refl
