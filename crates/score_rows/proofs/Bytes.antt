-- Bytes written one after the other, and how many there are. Assumes nothing.
use mathlib.Core.Path.{◌≡◌, refl, sym, ap, ap₂, ◌∙◌, subst, subst⁻¹}
use mathlib.Core.Bool.{Bool, true, false, cond}
use mathlib.Core.List.{List, [], ◌∷◌, ◌++◌, append_assoc}
use Prim.Native.Nat.{ℕ, zero, suc, ◌+◌, ◌-◌, ◌/◌, ◌%◌, ◌^◌, ◌≤◌, ◌<◌}
use native.Mathlib.Nat.{le_refl, le_trans, lt_of_not-le, add_assoc, mod-eq_of_lt, le-div_iff_mul-le, div-lt_iff_lt-mul, pow-suc, pow-le-pow_right}
use native.Mathlib.Numerals.{add-one}
use native.Mathlib.Omega.{arith}
use lib.Dec.{leb, ltb}
use lib.Ieee.{Float}
use lib.ListN.{length, take, drop, set, length-append}
use lib.Seq.{paste, paste-zero, length-paste, set_split}
use borrow.Author.Tests.{lt-ltb, le-ltb, le-leb, lt-leb, leb-true, leb-false}
use Rattle.std.proofs.lemmas.List.Edits.{paste-paste}
use Rattle.io.specs.Digits.{hex_digit_ascii, last_digits, IsDigitCount}
use Rattle.types.specs.Refusals as Refusals
use Rattle.types.specs.declared.Refusal.{Refusal}
use Rattle.basicthresholder.specs.declared.Graded.{Graded}
use Rattle.score_kinds.specs.declared.Kind.{Kind}
use Rattle.score_kinds.specs.declared.Kind.TheVariants.{Skipped, Quiet, Raised}
use Rattle.score_kinds.specs.declared.Counts.{Counts}
use Rattle.score_rows.specs.Text.{decimal_by, decimal, bits, graded, shown, row, bad, bad_line, bad_row, counts, longest, has_room, Written}
use Rattle.score_rows.specs.Steps.{Put}

-- ys over xs from the place `at`, and then zs behind them
paste_then : (xs : List ℕ) (at : ℕ) (ys zs : List ℕ) → at + (length ys + length zs) ≤ length xs
    → paste (paste xs at ys (length ys)) (at + length ys) zs (length zs) ≡ paste xs at (ys ++ zs) (length (ys ++ zs))
paste_then xs at ys zs h =
    paste-paste xs at ys zs (length ys) (length zs) refl refl (omega arith) ∙ ap (paste xs at (ys ++ zs)) (sym (length-append ys zs))

pub put_length : {xs ys after : List ℕ} {at end : ℕ} → Put xs at ys end after → at + length ys ≤ length xs → length after ≡ length xs
put_length {xs} {ys} {after} {at} p h = ap length p.bytes ∙ length-paste xs at ys (length ys) h (le_refl (length ys))

pub put_then : {xs ys zs between after : List ℕ} {at middle end : ℕ} → Put xs at ys middle between → Put between middle zs end after
    → at + (length ys + length zs) ≤ length xs → Put xs at (ys ++ zs) end after
put_then {xs} {ys} {zs} {between} {after} {at} {middle} p q h = record {
  place = q.place ∙ ap (λ (k : ℕ). k + length zs) p.place ∙ add_assoc at (length ys) (length zs) ∙ ap (λ (k : ℕ). at + k) (sym (length-append ys zs));
  bytes = q.bytes ∙ ap₂ (λ (l : List ℕ) (k : ℕ). paste l k zs (length zs)) p.bytes p.place ∙ paste_then xs at ys zs h;
}

-- one byte
pub put_one : (xs : List ℕ) (at b : ℕ) → at < length xs → Put xs at (b ∷ []) (at + 1) (set xs at b)
put_one xs at b h = record {
  place = refl;
  bytes = set_split xs at b h ∙ ap (λ (k : ℕ). take at xs ++ (b ∷ drop k xs)) (sym (add-one at)) ∙ sym (append_assoc (take at xs) (b ∷ []) (drop (at + 1) xs));
}

-- ---- the fewest digits that hold a number are those of `decimal`, and eight those of `bits`
before : (j : ℕ) → suc j - 1 ≡ j
before j = omega arith

tenth : (n j : ℕ) → n < 10 ^ suc j → n / 10 < 10 ^ j
tenth n j l = (div-lt_iff_lt-mul {k = 10} {x = n} {y = 10 ^ j} (omega arith)).1 (rw (pow-suc 10 j) at l)

two_digits : (k n : ℕ) → IsDigitCount 10 1 n (suc (suc k)) → (10 ≤ n) × IsDigitCount 10 1 (n / 10) (suc k)
two_digits k n f =
    let low : 10 ^ suc k ≤ n = subst (λ (j : ℕ). 10 ^ j ≤ n) (before (suc k)) (f.2 (omega arith)) in (
      le_trans (pow-le-pow_right {n = 10} (omega arith) {i = 1} {j = suc k} (omega arith)) low,
      (omega arith, tenth n (suc k) f.1, λ q. subst⁻¹ (λ (j : ℕ). 10 ^ j ≤ n / 10) (before k) ((le-div_iff_mul-le {k = 10} (omega arith)).1 (rw (pow-suc 10 k) at low))),
    )

by_fewest : (m k n : ℕ) → n < 10 ^ suc m → IsDigitCount 10 1 n k → decimal_by (suc m) n ≡ last_digits 10 k n
unfolding decimal_by
by_fewest m zero n h f = absurd (omega arith)
by_fewest m (suc zero) n h f = let l : n < 10 = f.1 in simp (lt-ltb n 10 l, mod-eq_of_lt l)
by_fewest zero (suc (suc k)) n h f = absurd (let l : n < 10 = h in omega (arith, (two_digits k n f).0))
by_fewest (suc m) (suc (suc k)) n h f =
    simp (le-ltb n 10 (two_digits k n f).0) (ap (λ (l : List ℕ). l ++ (hex_digit_ascii (n % 10) ∷ [])) (by_fewest m (suc k) (n / 10) (tenth n (suc m) h) (two_digits k n f).1))

pub decimal_is : (n k : ℕ) → n < 2 ^ 64 → IsDigitCount 10 1 n k → decimal n ≡ last_digits 10 k n
unfolding decimal
decimal_is n k h f = by_fewest 19 k n (omega arith) f

pub eight : (n k : ℕ) → n < 2 ^ 32 → IsDigitCount 16 8 n k → k ≡ 8
eight n k h f = let l : k < 9 = lt_of_not-le more in omega (arith, f.0)
  where
    more : 9 ≤ k → ⊥
    more g =
        let p : 16 ^ 8 ≤ 16 ^ (k - 1) = pow-le-pow_right {n = 16} (omega arith) {i = 8} {j = k - 1} (omega arith) in
        omega (arith, p, f.2 (omega arith))

pub cond_length : (t : Bool) (k : ℕ) (xs ys : List ℕ) → length xs ≤ k → length ys ≤ k → length (cond t xs ys) ≤ k
cond_length true k xs ys h g = h
cond_length false k xs ys h g = g

by_length : (k n : ℕ) → length (decimal_by k n) ≤ k
unfolding decimal_by
by_length zero n = omega arith
by_length (suc k) n =
    cond_length (ltb n 10) (suc k) (hex_digit_ascii n ∷ []) (decimal_by k (n / 10) ++ (hex_digit_ascii (n % 10) ∷ [])) (omega arith)
    (simp length-append (omega (arith, by_length k (n / 10))))

pub decimal_length : (n : ℕ) → length (decimal n) ≤ 20
unfolding decimal
decimal_length n = by_length 20 n

pub bits_length : (x : Float) → length (bits x) ≡ 8
unfolding bits
bits_length x = refl

-- Nothing written.
pub put_none : (xs : List ℕ) (at : ℕ) (bytes : List ℕ) → Put xs at (take 0 bytes) at xs
put_none xs at bytes = record { place = omega arith; bytes = paste-zero xs at bytes }

-- Room for b bytes behind the place a.
pub same_room : (a b n : ℕ) → a ≤ n → leb b (n - a) ≡ leb (a + b) n
same_room a b n h = go (leb b (n - a)) refl
  where
    go : (t : Bool) → leb b (n - a) ≡ t → t ≡ leb (a + b) n
    go true e = sym (le-leb (a + b) n (omega (arith, leb-true b (n - a) e)))
    go false e = sym (lt-leb (a + b) n (omega (arith, leb-false b (n - a) e)))

pub no_room : (a b n : ℕ) → n < a → false ≡ leb (a + b) n
no_room a b n h = sym (lt-leb (a + b) n (omega arith))

pub room_true : (xs : List ℕ) (at : ℕ) → has_room xs at ≡ true → at + longest ≤ length xs
room_true xs at h = leb-true (at + longest) (length xs) h

-- A line that was written where there is room for it, and one that was not.
pub written : (xs : List ℕ) (at : ℕ) (ys : List ℕ) (end : ℕ) (after : List ℕ) → has_room xs at ≡ true → Put xs at ys end after → Written xs at ys end after
written xs at ys end after h p = record { place = simp h p.place; bytes = simp h p.bytes }

pub unwritten : (xs : List ℕ) (at : ℕ) (ys : List ℕ) → has_room xs at ≡ false → Written xs at ys at xs
unwritten xs at ys h = record { place = simp h; bytes = simp h }

pub with_room : {xs ys after : List ℕ} {at end : ℕ} → Written xs at ys end after → at + longest ≤ length xs → Put xs at ys end after
with_room {xs} {ys} {after} {at} w h =
    let r : has_room xs at ≡ true = le-leb (at + longest) (length xs) h in
    record { place = simp r at w.place; bytes = simp r at w.bytes }

-- No line is longer than the longest.
pub graded_length : (g : Graded) → length (graded g) ≡ 17
unfolding graded
graded_length g = simp (length-append, bits_length)

pub shown_length : (k : Kind) → length (shown k) ≤ 17
unfolding shown
shown_length Skipped = omega arith
shown_length (Quiet g) = omega (arith, graded_length g)
shown_length (Raised g) = omega (arith, graded_length g)

pub row_length : (n : ℕ) (k : Kind) → length (row n k) ≤ longest
unfolding row
row_length n k = simp length-append (omega (arith, decimal_length n, shown_length k))

pub bad_length : (n : ℕ) → length (bad n) ≤ 29
unfolding bad
bad_length n = simp length-append (omega (arith, decimal_length n))

pub bad_line_length : (n : ℕ) → length (bad_line n) ≤ longest
unfolding bad_line
bad_line_length n = simp length-append (omega (arith, bad_length n))

pub bad_row_length : (n : ℕ) (why : Refusal) → length (bad_row n why) ≤ longest
unfolding bad_row
bad_row_length n why = simp length-append (omega (arith, bad_length n, decimal_length (Refusals.number why)))

pub counts_length : (c : Counts) → length (counts c) ≤ longest
unfolding counts
counts_length c = simp length-append (omega (arith, decimal_length c.quiet, decimal_length c.raised, decimal_length c.skipped))
