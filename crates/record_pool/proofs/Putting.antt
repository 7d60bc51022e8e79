-- Writes one after the other. Assumes nothing.
use mathlib.Core.Path.{◌≡◌, sym, ap, ap₂, ◌∙◌}
use mathlib.Core.List.{List, ◌++◌, append_assoc}
use Prim.Native.Nat.{ℕ, ◌+◌, ◌-◌, ◌≤◌}
use native.Mathlib.Omega.{arith}
use lib.ListN.{length, take, drop, replicate, length-append, length-take, length-drop, length-replicate}
use lib.Seq.{drop-drop, length-take-le, take_at, drop_at, drop-append-le}
use Rattle.layout.specs.Numbers.{bytes4, pasted}
use Rattle.layout.proofs.Pasting.{pasted_length, pasted_next}
use Rattle.record_pool.specs.Pool.{place, count_of, first_used, first_free, next_at, with_header, with_record, with_state, opened}
use Rattle.record_pool.proofs.Writes.{header_length}
use Rattle.record_pool.proofs.Bytes.{length_bytes4, place_high}

pub header_put : (xs a b c : List ℕ) (count used free : ℕ) → length xs ≡ 61472 → a ≡ pasted xs 0 (bytes4 count) → b ≡ pasted a 4 (bytes4 used) → c ≡ pasted b 8 (bytes4 free)
    → c ≡ with_header xs count used free
unfolding with_header bytes4
header_put xs a b c count used free size ea eb ec =
    ec ∙ ap (λ (l : List ℕ). pasted l 8 (bytes4 free)) (eb ∙ ap (λ (l : List ℕ). pasted l 4 (bytes4 used)) ea
    ∙ pasted_next xs 0 (bytes4 count) (bytes4 used) (omega arith))
    ∙ pasted_next xs 0 (bytes4 count ++ bytes4 used) (bytes4 free) (omega arith)

-- A part put in the middle.
pub part_put : (xs ys : List ℕ) (at n : ℕ) → length ys ≡ n → take at xs ++ (ys ++ drop n (drop at xs)) ≡ pasted xs at ys
unfolding pasted
part_put xs ys at n e = ap (λ (l : List ℕ). take at xs ++ (ys ++ l)) (drop-drop n at xs ∙ ap (λ (m : ℕ). drop (at + m) xs) (sym e))

pub record_put : (xs a b ys : List ℕ) (i at next number : ℕ) → length xs ≡ 61472 → 1 ≤ i → i ≤ 30 → at ≡ place i → a ≡ pasted xs at (bytes4 next) → b ≡ pasted a (at + 4) (bytes4 number)
    → ys ≡ replicate (length (take (at + 2048 - (at + 8)) (drop (at + 8) b))) 0
    → take (at + 8) b ++ (ys ++ drop (at + 2048 - (at + 8)) (drop (at + 8) b)) ≡ with_record xs i next number (replicate 2040 0)
unfolding with_record
record_put xs a b ys i at next number size low high ep ea eb ey =
    let zs : List ℕ = replicate 2040 0 in
    let lz : length zs ≡ 2040 = length-replicate {A = ℕ} 2040 0 in
    let l1 = length_bytes4 next in
    let l2 = length_bytes4 number in
    let fits = place_high i low high in
    let n : at + 2048 - (at + 8) ≡ 2040 = omega arith in
    let two : b ≡ pasted xs at (bytes4 next ++ bytes4 number) =
    eb ∙ ap (λ (l : List ℕ). pasted l (at + 4) (bytes4 number)) ea ∙ ap (λ (k : ℕ). pasted (pasted xs at (bytes4 next)) (at + k) (bytes4 number)) (sym l1)
    ∙ pasted_next xs at (bytes4 next) (bytes4 number) (omega arith) in
    let long : length (bytes4 next ++ bytes4 number) ≡ 8 = omega (arith, length-append (bytes4 next) (bytes4 number)) in
    let lb : length b ≡ 61472 = ap length two ∙ pasted_length xs at (bytes4 next ++ bytes4 number) (omega arith) ∙ size in
    let lp : length (take (at + 2048 - (at + 8)) (drop (at + 8) b)) ≡ 2040 =
    omega (arith, length-take (at + 2048 - (at + 8)) (drop (at + 8) b), length-drop (at + 8) b) in
    let ez : ys ≡ zs = ey ∙ ap (λ (k : ℕ). replicate {A = ℕ} k 0) lp in
    ap (λ (k : ℕ). take (at + 8) b ++ (ys ++ drop k (drop (at + 8) b))) n
    ∙ part_put b ys (at + 8) 2040 (ap length ez ∙ lz)
    ∙ ap₂ (λ (l m : List ℕ). pasted l (at + 8) m) two ez
    ∙ ap (λ (k : ℕ). pasted (pasted xs at (bytes4 next ++ bytes4 number)) (at + k) zs) (sym long)
    ∙ pasted_next xs at (bytes4 next ++ bytes4 number) zs (omega arith)
    ∙ ap₂ (λ (k : ℕ) (l : List ℕ). pasted xs k l) ep (append_assoc (bytes4 next) (bytes4 number) zs)

-- ---- state bytes put over a record's zeros are the record with them.
pub over : (xs : List ℕ) (at : ℕ) (zs ys : List ℕ) → at + length zs ≤ length xs → length ys ≤ length zs
    → pasted (pasted xs at zs) at ys ≡ pasted xs at (ys ++ drop (length ys) zs)
unfolding pasted
over xs at zs ys h k =
    let front : length (take at xs) ≡ at = length-take-le at xs (omega arith) in
    let tail : List ℕ = drop (at + length zs) xs in
    let before : take at (take at xs ++ (zs ++ tail)) ≡ take at xs = take_at (take at xs) (zs ++ tail) at front in
    let after : drop (at + length ys) (take at xs ++ (zs ++ tail)) ≡ drop (length ys) zs ++ tail =
    sym (drop-drop (length ys) at (take at xs ++ (zs ++ tail))) ∙ ap (drop (length ys)) (drop_at (take at xs) (zs ++ tail) at front) ∙ drop-append-le (length ys) zs tail k in
    let long : length (ys ++ drop (length ys) zs) ≡ length zs = omega (arith, length-append ys (drop (length ys) zs), length-drop (length ys) zs) in
    ap₂ (λ (p q : List ℕ). p ++ (ys ++ q)) before after
    ∙ ap (λ (l : List ℕ). take at xs ++ l) (sym (append_assoc ys (drop (length ys) zs) tail))
    ∙ ap (λ (n : ℕ). take at xs ++ ((ys ++ drop (length ys) zs) ++ drop (at + n) xs)) (sym long)

pub state_over_record : (xs : List ℕ) (i next number : ℕ) (zs ys : List ℕ) → length xs ≡ 61472 → 1 ≤ i → i ≤ 30 → length zs ≡ 2040 → length ys ≤ 2040
    → with_state (with_record xs i next number zs) i ys ≡ with_record xs i next number (ys ++ drop (length ys) zs)
unfolding with_state with_record
state_over_record xs i next number zs ys size low high lz ly =
    let at : ℕ = place i in
    let head : List ℕ = bytes4 next ++ bytes4 number in
    let l8 : length head ≡ 8 = omega (arith, length-append (bytes4 next) (bytes4 number), length_bytes4 next, length_bytes4 number) in
    let fits = place_high i low high in
    let base : List ℕ = pasted xs (place i) head in
    let lb : length base ≡ length xs = pasted_length xs (place i) head (omega arith) in
    let split : (ws : List ℕ) → pasted xs (place i) (bytes4 next ++ (bytes4 number ++ ws)) ≡ pasted base (place i + 8) ws =
    λ ws. ap (pasted xs (place i)) (sym (append_assoc (bytes4 next) (bytes4 number) ws)) ∙ sym (pasted_next xs (place i) head ws (omega arith))
    ∙ ap (λ (n : ℕ). pasted base (place i + n) ws) l8 in
    ap (λ (l : List ℕ). pasted l (place i + 8) ys) (split zs)
    ∙ over base (place i + 8) zs ys (omega arith) (omega arith)
    ∙ sym (split (ys ++ drop (length ys) zs))

-- An opening with zeros, and then state bytes over them, is the opening with those bytes.
pub state_over_opened : (xs : List ℕ) (d : ℕ) (zs ys : List ℕ) → length xs ≡ 61472 → 1 ≤ first_free xs → first_free xs ≤ 30 → length zs ≡ 2040 → length ys ≤ 2040
    → with_state (opened xs d zs) (first_free xs) ys ≡ opened xs d (ys ++ drop (length ys) zs)
unfolding opened
state_over_opened xs d zs ys size low high lz ly =
    state_over_record (with_header xs (count_of xs + 1) (first_free xs) (next_at xs (first_free xs))) (first_free xs) (first_used xs) d zs ys
    (header_length xs (count_of xs + 1) (first_free xs) (next_at xs (first_free xs)) (omega arith) ∙ size) low high lz ly
