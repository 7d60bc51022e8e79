-- A number is finite exactly if its difference with itself is a number. Assumes nothing.
use Rattle.std.proofs.Common.{◌≡◌, ℕ, ◌+◌, ◌-◌, ◌*◌, Bool, true, false, cond, not, ◌&&◌, T, ltb, refl, eq-eqb}
use mathlib.Core.Bool.{beq}
use lib.Ieee.{Float, Format, nan, inf, fin, up, down, round, eq, add, sub, neg, sum, is_nan}
use lib.Ieee.Scale.{finite}
use Rattle.ieee.proofs.Nans.{round_no_nan}

equal_bools : (s : Bool) → beq s s ≡ true
equal_bools true = refl
equal_bools false = refl

equals_itself : (y : Float) → T (not (is_nan y)) → eq y y ≡ true
unfolding eq is_nan
equals_itself nan h = absurd h
equals_itself (inf s) h = equal_bools s
equals_itself (fin s m e) h = rw (eq-eqb (m * up e * down e) (m * up e * down e) refl, equal_bools s)

unlike_itself : (s : Bool) → beq s (not s) ≡ false
unlike_itself true = refl
unlike_itself false = refl

sum_number : (f : Format) (s t : Bool) (a b c : ℕ) → T (not (is_nan (sum f s a t b c)))
unfolding sum
sum_number f s t a b c = go (beq s t) (ltb a b)
  where
    go : (p q : Bool) → T (not (is_nan (cond p (round f s (a + b) c) (cond q (round f t (b - a) c) (round f (s && ltb b a) (a - b) c)))))
    go true q = round_no_nan f s (a + b) c
    go false true = round_no_nan f t (b - a) c
    go false false = round_no_nan f (s && ltb b a) (a - b) c

pub finite_is : (f : Format) (x : Float) → eq (sub f x x) (sub f x x) ≡ finite x
unfolding sub add neg eq
finite_is f nan = refl
finite_is f (inf s) = rw (unlike_itself s)
finite_is f (fin s m e) = equals_itself (sum f s (m * up e * down e) (not s) (m * up e * down e) (down e * down e)) (sum_number f s (not s) (m * up e * down e) (m * up e * down e) (down e * down e))
