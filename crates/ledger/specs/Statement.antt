-- Demand 3 as "a single statement about the list of readings": what the ledger is told, what the watch showed, and that the two agree. The quoted
-- words are the mission's and document 01's. Definitions only.
use Rattle.std.specs.Prelude.{◌≡◌, ◌⊎◌, Bool, true, false, not, cond, ◌&&◌, List, [], ◌∷◌, ℕ, ◌+◌, ◌^◌, ◌≤◌, T, eqb, Float}
use Rattle.std.specs.Float.Ieee.{lt, le, eq}
use Rattle.basicthresholder.specs.Const.{zero32, sixteen32}
use Rattle.ledger.specs.Fractions.{Fraction, over, none, plus, minus, part, larger, Le, fraction_of, plain, plus_zero}
use Rattle.ledger.specs.Ledger.{Ledger, blank, enter, AtOrUnder, AtOrOver, Over}

-- ---- the numbers of the statement, each in this place alone
-- "The two opening thresholds differ by at most M/2048."
abbrev pub closeness : ℕ
closeness = 2048

-- "A score M/1024 or more under the ledger's threshold"; "one more than M/1024 over it".
abbrev pub clearance : ℕ
clearance = 1024

-- "With ten or more counted before it."
abbrev pub enough_scores : ℕ
enough_scores = 10

-- "At most 65,536 accepted readings."
abbrev pub most_readings : ℕ
most_readings = 65536

-- "From 2^-30 to 2^30."
abbrev pub largest_score : ℕ
largest_score = 2 ^ 30

-- ---- what is told, what is shown, and that the two agree
-- "Of each reading it is told besides [its score] only whether the refusal table refuses it."
pub record Told : Type 0 where
  pub refused : Bool
  pub score : Float

-- What the watch showed at a reading: the threshold "that goes with its opening grade", that grade, and "the grade that a reading ends with", "the
-- one that raised carries, otherwise 0".
pub record Shown : Type 0 where
  pub threshold : Float
  pub opening : Float
  pub ends : Float

-- "A zero score is not counted, nor is that of a refused reading."
abbrev pub counted : Told → Bool
counted t = not t.refused && not (eqb (fraction_of t.score).num 0)

-- At one score x: "the two opening thresholds differ by at most M/2048; a score M/1024 or more under the ledger's threshold ends with grade 0; one
-- more than M/1024 over it gets an opening grade above 0".
pub record Judged (z M : Fraction) (b : Ledger) (x : Float) (v : Shown) : Type 0 where
  pub number : T (plain v.threshold)
  pub not_over : AtOrUnder z b (minus (fraction_of v.threshold) (part M closeness))
  pub not_under : AtOrOver z b (plus (fraction_of v.threshold) (part M closeness))
  pub quiet : AtOrUnder z b (plus (fraction_of x) (part M clearance)) → v.ends ≡ plus_zero
  pub raised : Over z b (minus (fraction_of x) (part M clearance)) → T (lt plus_zero v.opening)

abbrev pub Either : Bool → Type 0 → Type 0 → Type 0
Either true A B = A
Either false A B = B

-- The whole list. b is the ledger so far, M "the largest score counted by then"; "at every accepted non-zero score with ten or more counted before it".
abbrev pub Agree : Fraction → Fraction → Ledger → Fraction → List Told → List Shown → Type 0
Agree d z b M [] [] = Unit
Agree d z b M [] (v ∷ vs) = ⊥
Agree d z b M (t ∷ ts) [] = ⊥
Agree d z b M (t ∷ ts) (v ∷ vs) =
    Either (counted t)
    ((enough_scores ≤ b.n → Judged z M b t.score v) × Agree d z (enter d b (fraction_of t.score)) (larger M (fraction_of t.score)) ts vs)
    (Agree d z b M ts vs)

-- The list from its start, for the discount d and the z factor.
abbrev pub Demand3 : Float → Float → List Told → List Shown → Type 0
Demand3 d z ts vs = Agree (fraction_of d) (fraction_of z) blank none ts vs

-- How many readings of a list are accepted.
abbrev pub accepted : List Told → ℕ
accepted [] = 0
accepted (t ∷ ts) = cond t.refused 0 1 + accepted ts

-- "Their scores zero or from 2^-30 to 2^30, none negative."
pub record Sized (x : Float) : Type 0 where
  pub plain : T (plain x)
  pub least : Le (over 1 largest_score) (fraction_of x)
  pub most : Le (fraction_of x) (over largest_score 1)

abbrev pub Sizes : List Told → Type 0
Sizes [] = Unit
Sizes (t ∷ ts) = (T (not t.refused) → T (eq t.score plus_zero) ⊎ Sized t.score) × Sizes ts

-- The bounds of the statement: "a fixed z factor above 0 and at most 16, at most 65,536 accepted readings, their scores zero or from 2^-30 to 2^30, none
-- negative".
pub record InBounds (z : Float) (ts : List Told) : Type 0 where
  pub z_above : T (lt zero32 z)
  pub z_most : T (le z sixteen32)
  pub readings : accepted ts ≤ most_readings
  pub scores : Sizes ts

-- ---- a judge, and what it shows
-- A judge: "each reading takes the state that the one before it returned". Whether a reading is refused may depend on the state.
pub record Judge : Type 1 where
  pub State : Type 0
  pub Reading : Type 0
  pub refused : State → Reading → Bool
  pub score : Reading → Float
  pub next : State → Reading → State
  pub shown : State → Reading → Shown

-- What the ledger is told of a list of readings, and what the judge shows at them, "judged in turn".
abbrev pub told : (J : Judge) → J.State → List J.Reading → List Told
told J s [] = []
told J s (r ∷ rs) = record { refused = J.refused s r; score = J.score r } ∷ told J (J.next s r) rs

abbrev pub showed : (J : Judge) → J.State → List J.Reading → List Shown
showed J s [] = []
showed J s (r ∷ rs) = J.shown s r ∷ showed J (J.next s r) rs
