-- What a surprise earns, as a whole number of sixteenths, and that it rises with the surprise. Assumes nothing.
use mathlib.Core.Path.{◌≡◌, refl, sym, ap, ◌∙◌, subst}
use mathlib.Core.Bool.{Bool, true, false, not, cond}
use Prim.Native.Nat.{ℕ, zero, suc, ◌+◌, ◌*◌, ◌/◌, ◌^◌, ◌≤◌, ◌<◌}
use native.Mathlib.Nat.{lt_of_le_of_lt, mul_assoc, mul-pos, mul-le-mul_right, mul-div_cancel}
use native.Mathlib.Omega.{arith}
use lib.IntN.{ℤ, pos}
use lib.Dec.{T, ltb, ltb→lt, nltb→le}
use lib.Ieee.{Float, nan, inf, fin, binary32, up, down, round, mul, div, lt, le, of_bits}
use lib.Ieee.Fits.{down_pos, up_pos}
use lib.Ieee.Exact.{HasValue, round_exact}
use lib.Ieee.Order.{round_mono}
use lib.Ieee.Scale.{round_same}
use lib.Ieee.Nearest.{div_mono}
use Rattle.util.specs.Util.{minf32}
use Rattle.ieee.specs.Round.{floor}
use Rattle.grading.specs.Const.{zero32, one32, sixteen32, twenty32}
use Rattle.grading.specs.Grading.{sixteenths}
use Rattle.grade_order.specs.Sixteenths.{sixteenths_of, Sixteenths, earned}
use Rattle.grade_order.proofs.Rising.{plus, round_plus, above, Rising, to_nan, to_endless, numbers, rounds, quotients, not_under}

-- ---- k / 16
exact : (k : ℕ) → k ≤ 16 → HasValue (round binary32 false k 16) false k 16
exact k h =
    round_exact binary32 false k 16 k 145 (omega arith) (omega arith) (lt_of_le_of_lt (mul-le-mul_right (2 ^ 145) h) (ltb→lt (16 * 2 ^ 145) (2 ^ 277) tt)) (sym (mul_assoc k (2 ^ 145) 16))

read_back : (g : Float) (k : ℕ) → HasValue g false k 16 → sixteenths_of g ≡ k
read_back nan k v = absurd v
read_back (inf s) k v = absurd v
read_back (fin s m e) k v = ap (λ (n : ℕ). n / down e) v.1 ∙ mul-div_cancel k (down_pos e)

pub whole : (g : Float) (k : ℕ) → k ≤ 16 → g ≡ round binary32 false k 16 → Sixteenths g
whole g k h e =
    let v : HasValue g false k 16 = subst (λ (x : Float). HasValue x false k 16) (sym e) (exact k h) in
    let b = read_back g k v in
    record {
      most = subst (λ (n : ℕ). n ≤ 16) (sym b) h;
      value = subst (λ (n : ℕ). HasValue g false n 16) (sym b) v;
      is = e ∙ ap (λ (n : ℕ). round binary32 false n 16) (sym b);
    }

-- ---- a whole number of twentieths, over 16 and at most 1
unfoldable pub cap : ℕ → ℕ
cap n = cond (ltb n 16) n 16

cap_rises : (a b : ℕ) → a ≤ b → cap a ≤ cap b
unfolding cap
cap_rises a b h = go (ltb a 16) (ltb b 16) (ltb→lt a 16) (nltb→le a 16) (ltb→lt b 16)
  where
    go : (x y : Bool) → (T x → a < 16) → (T (not x) → 16 ≤ a) → (T y → b < 16) → cond x a 16 ≤ cond y b 16
    go true true f g k = h
    go true false f g k = let l = f tt in omega arith
    go false true f g k = let l = g tt in let m = k tt in omega arith
    go false false f g k = omega arith

cap_most : (n : ℕ) → cap n ≤ 16
unfolding cap
cap_most n = go (ltb n 16) (ltb→lt n 16)
  where
    go : (x : Bool) → (T x → n < 16) → cond x n 16 ≤ 16
    go true f = let l = f tt in omega arith
    go false f = omega arith

-- the grade that is left of g
abbrev kept : Float → Float
kept g = cond (lt zero32 g) g zero32

abbrev over_sixteen : Float → Float
over_sixteen w = kept (minf32 (div binary32 w sixteen32) one32)

small : (n : ℕ) → n < 16 → over_sixteen (round binary32 false n 1) ≡ round binary32 false n 16
unfolding minf32 round div lt of_bits
small zero h = refl
small (suc zero) h = refl
small (suc (suc zero)) h = refl
small (suc (suc (suc zero))) h = refl
small (suc (suc (suc (suc zero)))) h = refl
small (suc (suc (suc (suc (suc zero))))) h = refl
small (suc (suc (suc (suc (suc (suc zero)))))) h = refl
small (suc (suc (suc (suc (suc (suc (suc zero))))))) h = refl
small (suc (suc (suc (suc (suc (suc (suc (suc zero)))))))) h = refl
small (suc (suc (suc (suc (suc (suc (suc (suc (suc zero))))))))) h = refl
small (suc (suc (suc (suc (suc (suc (suc (suc (suc (suc zero)))))))))) h = refl
small (suc (suc (suc (suc (suc (suc (suc (suc (suc (suc (suc zero))))))))))) h = refl
small (suc (suc (suc (suc (suc (suc (suc (suc (suc (suc (suc (suc zero)))))))))))) h = refl
small (suc (suc (suc (suc (suc (suc (suc (suc (suc (suc (suc (suc (suc zero))))))))))))) h = refl
small (suc (suc (suc (suc (suc (suc (suc (suc (suc (suc (suc (suc (suc (suc zero)))))))))))))) h = refl
small (suc (suc (suc (suc (suc (suc (suc (suc (suc (suc (suc (suc (suc (suc (suc zero))))))))))))))) h = refl
small (suc (suc (suc (suc (suc (suc (suc (suc (suc (suc (suc (suc (suc (suc (suc (suc n)))))))))))))))) h = absurd (omega arith)

pub one_is : one32 ≡ fin false 1 (pos 0)
unfolding of_bits
one_is = refl

sixteen_above : T (lt zero32 sixteen32)
unfolding lt of_bits
sixteen_above = tt

sixteen_over_sixteen : div binary32 (round binary32 false 16 1) sixteen32 ≡ fin false 1 (pos 0)
unfolding div round of_bits
sixteen_over_sixteen = refl

one_kept : kept one32 ≡ round binary32 false 16 16
unfolding round of_bits lt
one_kept = refl

large : (n : ℕ) → 16 ≤ n → over_sixteen (round binary32 false n 1) ≡ round binary32 false 16 16
unfolding minf32
large n h = go (lt (div binary32 (round binary32 false n 1) sixteen32) one32) not_less
  where
    more : Rising (fin false 1 (pos 0)) (div binary32 (round binary32 false n 1) sixteen32)
    more =
        subst (λ (x : Float). Rising x (div binary32 (round binary32 false n 1) sixteen32)) sixteen_over_sixteen
        (quotients (rounds binary32 16 1 n 1 (omega arith) (omega arith) (omega arith)) sixteen32 (above sixteen32 sixteen_above))

    not_less : T (not (lt (div binary32 (round binary32 false n 1) sixteen32) one32))
    not_less = subst (λ (x : Float). T (not (lt (div binary32 (round binary32 false n 1) sixteen32) x))) (sym one_is) (not_under 1 (pos 0) more)

    go : (b : Bool) → T (not b) → kept (cond b (div binary32 (round binary32 false n 1) sixteen32) one32) ≡ round binary32 false 16 16
    go true k = absurd k
    go false k = one_kept

capped : (n : ℕ) → over_sixteen (round binary32 false n 1) ≡ round binary32 false (cap n) 16
unfolding cap
capped n = go (ltb n 16) (ltb→lt n 16) (nltb→le n 16)
  where
    go : (b : Bool) → (T b → n < 16) → (T (not b) → 16 ≤ n) → over_sixteen (round binary32 false n 1) ≡ round binary32 false (cond b n 16) 16
    go true f g = small n (f tt)
    go false f g = large n (g tt)

-- ---- the product of a surprise and 20
-- the whole part of a number that has no minus; 16 at the top
abbrev pub part : Float → ℕ
part nan = 16
part (inf s) = 16
part (fin s m e) = m * up e / down e

top_nan : over_sixteen (floor nan) ≡ round binary32 false (cap 16) 16
unfolding floor div minf32 lt round of_bits cap
top_nan = refl

top_endless : over_sixteen (floor (inf false)) ≡ round binary32 false (cap 16) 16
unfolding floor div minf32 lt round of_bits cap
top_endless = refl

of_product : (p : Float) → T (plus p) → over_sixteen (floor p) ≡ round binary32 false (cap (part p)) 16
unfolding floor
of_product nan h = top_nan
of_product (inf true) h = absurd h
of_product (inf false) h = top_endless
of_product (fin true m e) h = absurd h
of_product (fin false m e) h = capped (m * up e / down e)

twenty_is : twenty32 ≡ fin false 5 (pos 2)
unfolding of_bits
twenty_is = refl

product_is : (s : Bool) (m : ℕ) (e : ℤ) → mul binary32 (fin s m e) (fin false 5 (pos 2)) ≡ round binary32 s (m * up e * 20) (down e * 1)
unfolding mul
product_is false m e = refl
product_is true m e = refl

times_twenty : (s : Bool) (m : ℕ) (e : ℤ) → mul binary32 (fin s m e) twenty32 ≡ round binary32 s (m * up e * 20) (down e * 1)
times_twenty s m e = ap (mul binary32 (fin s m e)) twenty_is ∙ product_is s m e

nan_times : mul binary32 nan twenty32 ≡ nan
unfolding mul
nan_times = refl

endless_times : mul binary32 (inf false) twenty32 ≡ inf false
unfolding mul of_bits
endless_times = refl

product_plus : (v : Float) → T (plus v) → T (plus (mul binary32 v twenty32))
product_plus nan h = subst (λ (x : Float). T (plus x)) (sym nan_times) tt
product_plus (inf true) h = absurd h
product_plus (inf false) h = subst (λ (x : Float). T (plus x)) (sym endless_times) tt
product_plus (fin true m e) h = absurd h
product_plus (fin false m e) h = subst (λ (x : Float). T (plus x)) (sym (times_twenty false m e)) (round_plus binary32 (m * up e * 20) (down e * 1))

products : {a b : Float} → Rising a b → Rising (mul binary32 a twenty32) (mul binary32 b twenty32)
products (to_nan {a} p) = subst (Rising (mul binary32 a twenty32)) (sym nan_times) (to_nan (product_plus a p))
products (to_endless {a} p) = subst (Rising (mul binary32 a twenty32)) (sym endless_times) (to_endless (product_plus a p))
products (numbers {m} {n} {e} {d} h) =
    subst (λ (x : Float). Rising x (mul binary32 (fin false n d) twenty32)) (sym (times_twenty false m e))
    (subst (Rising (round binary32 false (m * up e * 20) (down e * 1))) (sym (times_twenty false n d))
    (rounds binary32 (m * up e * 20) (down e * 1) (n * up d * 20) (down d * 1) (mul-pos (down_pos e) (omega arith)) (mul-pos (down_pos d) (omega arith))
    (let l : m * up e * down d * 20 ≤ n * up d * down e * 20 = mul-le-mul_right 20 h in omega arith)))

parts : {a b : Float} → Rising a b → cap (part a) ≤ cap (part b)
unfolding cap
parts (to_nan {a} p) = cap_most (part a)
parts (to_endless {a} p) = cap_most (part a)
parts (numbers {m} {n} {e} {d} h) = cap_rises (m * up e / down e) (n * up d / down d) (div_mono (m * up e) (down e) (n * up d) (down d) (down_pos e) (down_pos d) h)

-- ---- what a surprise earns
unfoldable pub count : Float → ℕ
count v = cap (part (mul binary32 v twenty32))

pub count_most : (v : Float) → count v ≤ 16
unfolding count
count_most v = cap_most (part (mul binary32 v twenty32))

pub counts : {a b : Float} → Rising a b → count a ≤ count b
unfolding count
counts r = parts (products r)

-- at the top, and of the numbers that need no working out
pub count_nan : count nan ≡ 16
unfolding count mul cap
count_nan = refl

pub count_endless : count (inf false) ≡ 16
unfolding count mul of_bits cap
count_endless = refl

pub count_one : count one32 ≡ 16
unfolding count mul round of_bits cap
count_one = refl

pub count_zero : count zero32 ≡ 0
unfolding count mul round of_bits cap
count_zero = refl

below_zero : T (not (lt (inf true) zero32)) → ⊥
unfolding lt of_bits
below_zero h = h

no_size : (m : ℕ) (e : ℤ) → T (not (lt (fin true m e) zero32)) → m ≡ 0
unfolding lt of_bits
no_size zero e h = refl
no_size (suc m) e h = absurd (let l = nltb→le 0 (suc m * up e * 1 + 0 * 1 * down e) h in let k : 0 < suc m * up e = mul-pos (omega arith) (up_pos e) in omega arith)

minus_product : (e : ℤ) → mul binary32 (fin true 0 e) twenty32 ≡ round binary32 true 0 1
minus_product e = times_twenty true 0 e ∙ round_same binary32 true (0 * up e * 20) (down e * 1) 0 1 (mul-pos (down_pos e) (omega arith)) (omega arith) (omega arith)

part_none : cap (part (round binary32 true 0 1)) ≡ 0
unfolding round cap
part_none = refl

pub count_minus : (m : ℕ) (e : ℤ) → T (not (lt (fin true m e) zero32)) → count (fin true m e) ≡ 0
unfolding count
count_minus m e h =
    ap (λ (k : ℕ). cap (part (mul binary32 (fin true k e) twenty32))) (no_size m e h) ∙ ap (λ (x : Float). cap (part x)) (minus_product e) ∙ part_none

minus_earns : over_sixteen (floor (round binary32 true 0 1)) ≡ round binary32 false (cap (part (round binary32 true 0 1))) 16
unfolding floor div minf32 lt round of_bits cap
minus_earns = refl

pub earned_is : (v : Float) → T (not (lt v zero32)) → earned v ≡ round binary32 false (count v) 16
unfolding sixteenths count
earned_is nan h = of_product (mul binary32 nan twenty32) (product_plus nan tt)
earned_is (inf true) h = absurd (below_zero h)
earned_is (inf false) h = of_product (mul binary32 (inf false) twenty32) (product_plus (inf false) tt)
earned_is (fin false m e) h = of_product (mul binary32 (fin false m e) twenty32) (product_plus (fin false m e) tt)
earned_is (fin true m e) h =
    subst (λ (k : ℕ). over_sixteen (floor (mul binary32 (fin true k e) twenty32)) ≡ round binary32 false (cap (part (mul binary32 (fin true k e) twenty32))) 16) (sym (no_size m e h))
    (subst (λ (x : Float). over_sixteen (floor x) ≡ round binary32 false (cap (part x)) 16) (sym (minus_product e)) minus_earns)

pub earns : (v : Float) → T (not (lt v zero32)) → Sixteenths (earned v)
earns v h = whole (earned v) (count v) (count_most v) (earned_is v h)

pub earned_le : (a b : Float) → T (not (lt a zero32)) → T (not (lt b zero32)) → count a ≤ count b → T (le (earned a) (earned b))
earned_le a b h k l =
    subst (λ (x : Float). T (le x (earned b))) (sym (earned_is a h))
    (subst (λ (x : Float). T (le (round binary32 false (count a) 16) x)) (sym (earned_is b k))
    (round_mono binary32 (count a) 16 (count b) 16 (omega arith) (omega arith) (mul-le-mul_right 16 l)))
