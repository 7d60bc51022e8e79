-- Two f32 that are the same by document 01's sameness, one of them above 0, are one and the same. Assumes nothing.
use mathlib.Core.Path.{◌≡◌, refl, sym, ap, ◌∙◌}
use mathlib.Core.Bool.{Bool, true, false, ◌&&◌, ◌||◌, beq, false≢true}
use Prim.Native.Nat.{ℕ, ◌*◌, ◌<◌}
use native.Mathlib.Nat.{mul-pos}
use native.Mathlib.Omega.{arith}
use lib.IntN.{ℤ}
use lib.Dec.{T, eqb, ltb→lt}
use lib.Ieee.{Float, nan, inf, fin, binary32, fits, up, down, round, eq, lt, is_nan, of_bits}
use lib.Ieee.Fits.{down_pos}
use lib.Ieee.Scale.{round_same}
use borrow.Author.Tests.{eqb-true}
use Rattle.ieee.specs.Round.{narrow}
use Rattle.basicthresholder.specs.Const.{zero32}
use Rattle.layout.proofs.Widened.{narrow_same}
use Rattle.pool_settings.specs.Sameness.{same_float}

flags_one : (s t : Bool) → beq s t || false ≡ true → s ≡ t
flags_one true true e = refl
flags_one false false e = refl
flags_one true false e = absurd (false≢true e)
flags_one false true e = absurd (false≢true e)

-- ±a and b compare equal, b being above 0: a is b, and its sign is no minus.
record Level (s : Bool) (a b : ℕ) : Type 0 where
  sign : s ≡ false
  size : a ≡ b

level : (s : Bool) (a b : ℕ) → 0 < b → (eqb a b && (beq s false || eqb a 0)) || false ≡ true → Level s a b
level s a b h = go (eqb a b) refl s
  where
    signed : a ≡ b → (c : Bool) → eqb a 0 ≡ c → (false || c) || false ≡ true → ⊥
    signed e true q r = omega (arith, e, eqb-true a 0 q, h)
    signed e false q r = false≢true r

    go : (c : Bool) → eqb a b ≡ c → (s : Bool) → (c && (beq s false || eqb a 0)) || false ≡ true → Level s a b
    go true q false r = record { sign = refl; size = eqb-true a b q }
    go true q true r = absurd (signed (eqb-true a b q) (eqb a 0) refl r)
    go false q s r = absurd (false≢true r)

-- A value of the format is the nearest one to its own fraction, and equal fractions have the same nearest value.
written_once : (s t : Bool) (m n : ℕ) (e g : ℤ) → T (fits binary32 (fin s m e)) → T (fits binary32 (fin t n g)) → s ≡ t → m * up e * down g ≡ n * up g * down e
    → fin s m e ≡ fin t n g
unfolding narrow
written_once s t m n e g p q signs sizes =
    sym (narrow_same (fin s m e) p)
    ∙ ap (λ (b : Bool). round binary32 b (m * up e) (down e)) signs
    ∙ round_same binary32 t (m * up e) (down e) (n * up g) (down g) (down_pos e) (down_pos g) sizes
    ∙ narrow_same (fin t n g) q

pub one_way : (x y : Float) → T (fits binary32 x) → T (fits binary32 y) → T (lt zero32 y) → same_float x y ≡ true → x ≡ y
unfolding same_float eq is_nan lt of_bits
one_way x nan p q h e = absurd h
one_way nan (inf t) p q h e = absurd (false≢true e)
one_way (inf s) (inf t) p q h e = ap inf (flags_one s t e)
one_way (fin s m k) (inf t) p q h e = absurd (false≢true e)
one_way nan (fin t n g) p q h e = absurd (false≢true e)
one_way (inf s) (fin t n g) p q h e = absurd (false≢true e)
one_way (fin s m k) (fin true n g) p q h e = absurd h
one_way (fin s m k) (fin false n g) p q h e =
    let above : 0 < n * up g * down k = mul-pos (positive (ltb→lt (0 * 1 * down g) (n * up g * 1) h)) (down_pos k) in
    let l = level s (m * up k * down g) (n * up g * down k) above e in
    written_once s false m n k g p q l.sign l.size
  where
    positive : 0 * 1 * down g < n * up g * 1 → 0 < n * up g
    positive i = omega arith
