-- Written back, a decoded state leaves its bytes as they are, NaN patterns made canonical. Assumes nothing.
use mathlib.Core.Path.{◌≡◌, refl, sym, ap, ap₂, ◌∙◌, subst}
use mathlib.Core.Bool.{Bool, true, false, not, cond, true≢false}
use mathlib.Core.List.{List, [], ◌∷◌, ◌++◌}
use Prim.Native.Nat.{ℕ, zero, suc, ◌+◌, ◌-◌, ◌*◌, ◌/◌, ◌%◌, ◌<◌, ◌≤◌}
use native.Mathlib.Nat.{add-zero, zero-add}
use native.Mathlib.Decide.{dec_lt}
use native.Mathlib.Omega.{arith}
use lib.Dec.{T, eqb, leb, ltb}
use lib.IntN.{pos, negsuc}
use lib.ListN.{length, get_or, get_or-append}
use lib.Seq.{ext_get_or, get_or-append-add}
use lib.Ieee.{Float, nan, inf, fin, binary32, binary64, of_bits, to_bits, is_nan, nan_bits}
use lib.Ieee.Bits.{to_bits-of_bits, nan_bits_is}
use borrow.Author.Tests.{lt-ltb, le-ltb, lt-leb, ne_eqb}
use Rattle.layout.specs.Numbers.{le4, le8, bytes4, bytes8, signed, unsigned, f32_at, f64_at, i32_at, flag_at, flag_byte, f32_bytes, f64_bytes, i32_bytes, flag_bytes, pasted}
use Rattle.layout.proofs.Pasting.{pasted_length, deviation_pasted}
use Rattle.deviation.specs.declared.Deviation.{Deviation}
use Rattle.layout.specs.States.{deviation_at, encode_deviation}
use Rattle.stored_state.specs.Canonical.{canonical4, canonical8, canonical_flag, canonical_statistic}
use Rattle.stored_state.proofs.Windows.{Alike, part, front, then, first, le4_alike, le8_alike, put, before, behind}

-- ---- bytes
module _ (xs : List ℕ) (b : (i : ℕ) → get_or xs i 0 < 256) (p : ℕ) where
  pub le4_small : le4 xs p < 0x1_0000_0000
  unfolding le4
  le4_small =
      let h0 = b p in
      let h1 = b (p + 1) in
      let h2 = b (p + 2) in
      let h3 = b (p + 3) in
      omega arith

digits : (a b c d : ℕ) → a < 256 → b < 256 → c < 256 → d < 256
    → bytes4 (a + 0x100 * b + 0x1_0000 * c + 0x100_0000 * d) ≡ a ∷ b ∷ c ∷ d ∷ []
unfolding bytes4
digits a b c d ha hb hc hd =
    let n = a + 0x100 * b + 0x1_0000 * c + 0x100_0000 * d in
    let e0 : n % 0x100 ≡ a = omega arith in
    let q1 : n / 0x100 ≡ b + 0x100 * c + 0x1_0000 * d = omega arith in
    let q2 : n / 0x1_0000 ≡ c + 0x100 * d = omega arith in
    let q3 : n / 0x100_0000 ≡ d = omega arith in
    let e1 : n / 0x100 % 0x100 ≡ b = ap (λ (m : ℕ). m % 0x100) q1 ∙ omega arith in
    let e2 : n / 0x1_0000 % 0x100 ≡ c = ap (λ (m : ℕ). m % 0x100) q2 ∙ omega arith in
    let e3 : n / 0x100_0000 % 0x100 ≡ d = ap (λ (m : ℕ). m % 0x100) q3 ∙ omega arith in
    λ i. e0 i ∷ e1 i ∷ e2 i ∷ e3 i ∷ []

-- ---- a field read and written again
four_long : (n : ℕ) → length (bytes4 n) ≡ 4
unfolding bytes4
four_long n = refl

eight_long : (n : ℕ) → length (bytes8 n) ≡ 8
unfolding bytes8 bytes4
eight_long n = refl

nan32 : to_bits binary32 nan ≡ 0x7fc0_0000
unfolding to_bits
nan32 = refl

nan64 : to_bits binary64 nan ≡ 0x7ff8_0000_0000_0000
unfolding to_bits
nan64 = refl

module _ (xs : List ℕ) (b : (i : ℕ) → get_or xs i 0 < 256) (p : ℕ) where
  pub four_again : Alike (bytes4 (le4 xs p)) 0 xs p 4
  unfolding le4
  four_again = record { at = λ (k : ℕ) (l : k < 4). ap (λ (ys : List ℕ). get_or ys (0 + k) 0) whole ∙ go k l }
    where
      whole : bytes4 (le4 xs p) ≡ get_or xs p 0 ∷ get_or xs (p + 1) 0 ∷ get_or xs (p + 2) 0 ∷ get_or xs (p + 3) 0 ∷ []
      whole = digits (get_or xs p 0) (get_or xs (p + 1) 0) (get_or xs (p + 2) 0) (get_or xs (p + 3) 0) (b p) (b (p + 1)) (b (p + 2)) (b (p + 3))

      go : (k : ℕ) → k < 4 → get_or (get_or xs p 0 ∷ get_or xs (p + 1) 0 ∷ get_or xs (p + 2) 0 ∷ get_or xs (p + 3) 0 ∷ []) (0 + k) 0 ≡ get_or xs (p + k) 0
      go zero l = rw add-zero refl
      go (suc zero) l = refl
      go (suc (suc zero)) l = refl
      go (suc (suc (suc zero))) l = refl
      go (suc (suc (suc (suc k)))) l = absurd (omega arith)

-- Two halves.
module _ (xs : List ℕ) (b : (i : ℕ) → get_or xs i 0 < 256) (p : ℕ) where
  pub eight_again : Alike (bytes8 (le8 xs p)) 0 xs p 8
  unfolding le8 bytes8
  eight_again = record { at = λ (k : ℕ) (l : k < 8). ap (λ (ys : List ℕ). get_or ys (0 + k) 0) whole ∙ go k l (dec_lt k 4) }
    where
      low : le4 xs p < 0x1_0000_0000
      low = le4_small xs b p

      whole : bytes8 (le8 xs p) ≡ bytes4 (le4 xs p) ++ bytes4 (le4 xs (p + 4))
      whole =
          let e0 : (le4 xs p + 0x1_0000_0000 * le4 xs (p + 4)) % 0x1_0000_0000 ≡ le4 xs p = omega (arith, low) in
          let e1 : (le4 xs p + 0x1_0000_0000 * le4 xs (p + 4)) / 0x1_0000_0000 ≡ le4 xs (p + 4) = omega (arith, low) in
          ap₂ (λ (m n : ℕ). bytes4 m ++ bytes4 n) e0 e1

      go : (k : ℕ) → k < 8 → Dec (k < 4) → get_or (bytes4 (le4 xs p) ++ bytes4 (le4 xs (p + 4))) (0 + k) 0 ≡ get_or xs (p + k) 0
      go k l (yes h) =
          ap (λ (q : ℕ). get_or (bytes4 (le4 xs p) ++ bytes4 (le4 xs (p + 4))) q 0) (zero-add k)
          ∙ get_or-append (bytes4 (le4 xs p)) (bytes4 (le4 xs (p + 4))) 0 k (omega (arith, four_long (le4 xs p)))
          ∙ ap (λ (q : ℕ). get_or (bytes4 (le4 xs p)) q 0) (sym (zero-add k)) ∙ (four_again xs b p).at k h
      go k l (no h) =
          let e : 0 + k ≡ length (bytes4 (le4 xs p)) + (0 + (k - 4)) = omega (arith, four_long (le4 xs p)) in
          let o : p + 4 + (k - 4) ≡ p + k = omega arith in
          ap (λ (q : ℕ). get_or (bytes4 (le4 xs p) ++ bytes4 (le4 xs (p + 4))) q 0) e
          ∙ get_or-append-add (bytes4 (le4 xs p)) (bytes4 (le4 xs (p + 4))) (0 + (k - 4)) 0
          ∙ (four_again xs b (p + 4)).at (k - 4) (omega arith)
          ∙ ap (λ (q : ℕ). get_or xs q 0) o

  pub le8_small : le8 xs p < 0x1_0000_0000_0000_0000
  unfolding le8
  le8_small = (let h = le4_small xs b p in let k = le4_small xs b (p + 4) in omega arith)

-- ---- numbers read and written again
nan_of : (x : Float) → is_nan x ≡ true → x ≡ nan
unfolding is_nan
nan_of nan e = refl
nan_of (inf s) e = absurd (true≢false (sym e))
nan_of (fin s m e) q = absurd (true≢false (sym q))

pub bits32_again : (n : ℕ) → n < 0x1_0000_0000 → to_bits binary32 (of_bits binary32 n) ≡ cond (nan_bits binary32 n) 0x7fc0_0000 n
bits32_again n h = go (nan_bits binary32 n) refl
  where
    go : (c : Bool) → nan_bits binary32 n ≡ c → to_bits binary32 (of_bits binary32 n) ≡ cond c 0x7fc0_0000 n
    go true e = ap (to_bits binary32) (nan_of (of_bits binary32 n) (sym (nan_bits_is binary32 n) ∙ e)) ∙ nan32
    go false e = to_bits-of_bits binary32 n h (subst (λ (c : Bool). T (not c)) (sym (sym (nan_bits_is binary32 n) ∙ e)) tt)

pub bits64_again : (n : ℕ) → n < 0x1_0000_0000_0000_0000 → to_bits binary64 (of_bits binary64 n) ≡ cond (nan_bits binary64 n) 0x7ff8_0000_0000_0000 n
bits64_again n h = go (nan_bits binary64 n) refl
  where
    go : (c : Bool) → nan_bits binary64 n ≡ c → to_bits binary64 (of_bits binary64 n) ≡ cond c 0x7ff8_0000_0000_0000 n
    go true e = ap (to_bits binary64) (nan_of (of_bits binary64 n) (sym (nan_bits_is binary64 n) ∙ e)) ∙ nan64
    go false e = to_bits-of_bits binary64 n h (subst (λ (c : Bool). T (not c)) (sym (sym (nan_bits_is binary64 n) ∙ e)) tt)

pub signed_again : (n : ℕ) → n < 0x1_0000_0000 → unsigned (signed n) ≡ n
unfolding signed unsigned
signed_again n h = go (dec_lt n 0x8000_0000)
  where
    go : Dec (n < 0x8000_0000) → unsigned (cond (ltb n 0x8000_0000) (pos n) (negsuc (0xffff_ffff - n))) ≡ n
    go (yes l) = rw (lt-ltb n 0x8000_0000 l)
    go (no l) = rw (le-ltb n 0x8000_0000 (omega arith)) (omega arith)

-- ---- put over the bytes that they were read from
pub same_put : (xs : List ℕ) (p : ℕ) (ys : List ℕ) → p + length ys ≤ length xs → Alike ys 0 xs p (length ys) → pasted xs p ys ≡ xs
same_put xs p ys h w = ext_get_or 0 (pasted xs p ys) xs (pasted_length xs p ys h) (λ (i : ℕ) (l : i < length (pasted xs p ys)). go i (dec_lt i p) (dec_lt i (p + length ys)))
  where
    go : (i : ℕ) → Dec (i < p) → Dec (i < p + length ys) → get_or (pasted xs p ys) i 0 ≡ get_or xs i 0
    go i (yes l) d = first (omega arith) (before xs p ys (omega arith) i 1 (omega arith))
    go i (no l) (yes m) =
        let e : i ≡ p + (i - p) = omega arith in
        ap (λ (q : ℕ). get_or (pasted xs p ys) q 0) e ∙ (put xs p ys (omega arith)).at (i - p) (omega arith) ∙ w.at (i - p) (omega arith) ∙ ap (λ (q : ℕ). get_or xs q 0) (sym e)
    go i (no l) (no m) = first (omega arith) (behind xs p ys (omega arith) i 1 (omega arith))

-- ---- windows
pub back : {xs ys : List ℕ} {i j n : ℕ} → Alike xs i ys j n → Alike ys j xs i n
back {n = n} w = record { at = λ (k : ℕ) (l : k < n). sym (w.at k l) }

-- A window further on, its place written otherwise.
pub later : {xs ys : List ℕ} {i n : ℕ} → Alike xs i ys i n → (a m j : ℕ) → i + a ≡ j → a + m ≤ n → Alike xs j ys j m
later {xs} {ys} {i} {n} w a m j e h = subst (λ (q : ℕ). Alike xs q ys q m) e (part w a m h)

-- What a write leaves behind it.
pub put_on : (xs cur : List ℕ) (p : ℕ) (ys : List ℕ) (q m : ℕ) → p + length ys ≡ q → q ≤ length cur → Alike cur q xs q m → (length (pasted cur p ys) ≡ length cur) × Alike (pasted cur p ys) q xs q m
put_on xs cur p ys q m e h w = (pasted_length cur p ys (omega arith), then (behind cur p ys (omega arith) q m (omega arith)) w)

pub double_long : (x : Float) → length (f64_bytes x) ≡ 8
unfolding f64_bytes bytes8 bytes4
double_long x = refl

-- ---- one field: cur is the bytes so far, xs those that the state was read from
module _ (xs : List ℕ) (b : (i : ℕ) → get_or xs i 0 < 256) (cur : List ℕ) (p : ℕ) where
  -- what a write of the very bytes leaves
  same4 : p + 4 ≤ length cur → Alike cur p xs p 4 → pasted cur p (bytes4 (le4 xs p)) ≡ cur
  same4 h w =
      let l = four_long (le4 xs p) in
      same_put cur p (bytes4 (le4 xs p)) (omega arith) (front (then (four_again xs b p) (back w)) (length (bytes4 (le4 xs p))) (omega arith))

  same8 : p + 8 ≤ length cur → Alike cur p xs p 8 → pasted cur p (bytes8 (le8 xs p)) ≡ cur
  same8 h w =
      let l = eight_long (le8 xs p) in
      same_put cur p (bytes8 (le8 xs p)) (omega arith) (front (then (eight_again xs b p) (back w)) (length (bytes8 (le8 xs p))) (omega arith))

  pub single_put : p + 4 ≤ length cur → Alike cur p xs p 4 → pasted cur p (f32_bytes (f32_at xs p)) ≡ canonical4 cur p
  unfolding f32_bytes f32_at
  single_put h w =
      ap (λ (n : ℕ). pasted cur p (bytes4 n)) (bits32_again (le4 xs p) (le4_small xs b p)) ∙ go (nan_bits binary32 (le4 xs p))
      ∙ ap (λ (n : ℕ). cond (nan_bits binary32 n) (pasted cur p (bytes4 0x7fc0_0000)) cur) (sym (le4_alike w))
    where
      go : (c : Bool) → pasted cur p (bytes4 (cond c 0x7fc0_0000 (le4 xs p))) ≡ cond c (pasted cur p (bytes4 0x7fc0_0000)) cur
      go true = refl
      go false = same4 h w

  pub double_put : p + 8 ≤ length cur → Alike cur p xs p 8 → pasted cur p (f64_bytes (f64_at xs p)) ≡ canonical8 cur p
  unfolding f64_bytes f64_at
  double_put h w =
      ap (λ (n : ℕ). pasted cur p (bytes8 n)) (bits64_again (le8 xs p) (le8_small xs b p)) ∙ go (nan_bits binary64 (le8 xs p))
      ∙ ap (λ (n : ℕ). cond (nan_bits binary64 n) (pasted cur p (bytes8 0x7ff8_0000_0000_0000)) cur) (sym (le8_alike w))
    where
      go : (c : Bool) → pasted cur p (bytes8 (cond c 0x7ff8_0000_0000_0000 (le8 xs p))) ≡ cond c (pasted cur p (bytes8 0x7ff8_0000_0000_0000)) cur
      go true = refl
      go false = same8 h w

  pub number_put : p + 4 ≤ length cur → Alike cur p xs p 4 → pasted cur p (bytes4 (le4 xs p)) ≡ cur
  number_put h w = same4 h w

  pub count_put : p + 4 ≤ length cur → Alike cur p xs p 4 → pasted cur p (i32_bytes (i32_at xs p)) ≡ cur
  unfolding i32_bytes i32_at
  count_put h w = ap (λ (n : ℕ). pasted cur p (bytes4 n)) (signed_again (le4 xs p) (le4_small xs b p)) ∙ same4 h w

  pub flag_put : p + 1 ≤ length cur → Alike cur p xs p 1 → pasted cur p (flag_bytes (flag_at xs p)) ≡ canonical_flag cur p
  unfolding flag_bytes flag_at
  flag_put h w =
      ap (λ (n : ℕ). pasted cur p (flag_byte (not (eqb n 0)) ∷ [])) (sym (first (omega arith) w)) ∙ go (get_or cur p 0) refl
    where
      same1 : (n : ℕ) → get_or cur p 0 ≡ n → pasted cur p (n ∷ []) ≡ cur
      same1 n e = same_put cur p (n ∷ []) (omega arith) (record { at = one n e })
        where
          one : (n : ℕ) → get_or cur p 0 ≡ n → (k : ℕ) → k < 1 → get_or (n ∷ []) (0 + k) 0 ≡ get_or cur (p + k) 0
          one n e zero l = rw add-zero (sym e)
          one n e (suc k) l = absurd (omega arith)

      go : (n : ℕ) → get_or cur p 0 ≡ n → pasted cur p (flag_byte (not (eqb n 0)) ∷ []) ≡ cond (leb n 1) cur (pasted cur p (1 ∷ []))
      go zero e = same1 0 e
      go (suc zero) e = same1 1 e
      go (suc (suc n)) e = rw (lt-leb (suc (suc n)) 1 (omega arith), ne_eqb (suc (suc n)) 0 (λ (q : suc (suc n) ≡ 0). absurd (omega arith))) refl

module _ (xs : List ℕ) (b : (i : ℕ) → get_or xs i 0 < 256) (cur : List ℕ) (p : ℕ) (h : p + 36 ≤ length cur) (w : Alike cur p xs p 36) where
  abbrev pub d : Deviation
  d = deviation_at xs p

  abbrev c1 : List ℕ
  c1 = pasted cur p (f64_bytes (f64_at xs p))

  abbrev c2 : List ℕ
  c2 = pasted c1 (p + 8) (f64_bytes (f64_at xs (p + 8)))

  abbrev c3 : List ℕ
  c3 = pasted c2 (p + 16) (f64_bytes (f64_at xs (p + 16)))

  abbrev c4 : List ℕ
  c4 = pasted c3 (p + 24) (f64_bytes (f64_at xs (p + 24)))

  -- the length of each, and what it has not come to yet
  l1 : (length c1 ≡ length cur) × Alike c1 (p + 8) xs (p + 8) 28
  l1 = put_on xs cur p (f64_bytes (f64_at xs p)) (p + 8) 28 (omega (arith, double_long (f64_at xs p))) (omega arith) (part w 8 28 (omega arith))

  l2 : (length c2 ≡ length cur) × Alike c2 (p + 16) xs (p + 16) 20
  l2 =
      let m = put_on xs c1 (p + 8) (f64_bytes (f64_at xs (p + 8))) (p + 16) 20 (omega (arith, double_long (f64_at xs (p + 8)))) (omega (arith, l1.0)) (later l1.1 8 20 (p + 16) (omega arith) (omega arith)) in
      (m.0 ∙ l1.0, m.1)

  l3 : (length c3 ≡ length cur) × Alike c3 (p + 24) xs (p + 24) 12
  l3 =
      let m = put_on xs c2 (p + 16) (f64_bytes (f64_at xs (p + 16))) (p + 24) 12 (omega (arith, double_long (f64_at xs (p + 16)))) (omega (arith, l2.0)) (later l2.1 8 12 (p + 24) (omega arith) (omega arith)) in
      (m.0 ∙ l2.0, m.1)

  l4 : (length c4 ≡ length cur) × Alike c4 (p + 32) xs (p + 32) 4
  l4 =
      let m = put_on xs c3 (p + 24) (f64_bytes (f64_at xs (p + 24))) (p + 32) 4 (omega (arith, double_long (f64_at xs (p + 24)))) (omega (arith, l3.0)) (later l3.1 8 4 (p + 32) (omega arith) (omega arith)) in
      (m.0 ∙ l3.0, m.1)

  whole_is : pasted c4 (p + 32) (i32_bytes (i32_at xs (p + 32))) ≡ pasted cur p (encode_deviation d)
  unfolding deviation_at
  whole_is = deviation_pasted cur p d h

  written_out : c4 ≡ canonical_statistic cur p
  written_out =
      let k1 : c1 ≡ canonical8 cur p = double_put xs b cur p (omega arith) (front w 8 (omega arith)) in
      let k2 : c2 ≡ canonical8 c1 (p + 8) = double_put xs b c1 (p + 8) (omega (arith, l1.0)) (front l1.1 8 (omega arith)) in
      let k3 : c3 ≡ canonical8 c2 (p + 16) = double_put xs b c2 (p + 16) (omega (arith, l2.0)) (front l2.1 8 (omega arith)) in
      let k4 : c4 ≡ canonical8 c3 (p + 24) = double_put xs b c3 (p + 24) (omega (arith, l3.0)) (front l3.1 8 (omega arith)) in
      k4 ∙ ap (λ (l : List ℕ). canonical8 l (p + 24)) (k3 ∙ ap (λ (l : List ℕ). canonical8 l (p + 16)) (k2 ∙ ap (λ (l : List ℕ). canonical8 l (p + 8)) k1))

  pub statistic_put : pasted cur p (encode_deviation d) ≡ canonical_statistic cur p
  statistic_put = sym whole_is ∙ count_put xs b c4 (p + 32) (omega (arith, l4.0)) l4.1 ∙ written_out
