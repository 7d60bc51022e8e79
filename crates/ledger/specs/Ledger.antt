-- The ledger of demand 3, "in unrounded fractions". Each definition quotes the words of document 01 that it stands for. Definitions only.
use Rattle.std.specs.Prelude.{◌⊎◌, cond, ℕ, suc, ◌+◌, eqb}
use Rattle.ledger.specs.Fractions.{Fraction, over, none, unit, plus, minus, times, divided_by, smaller, Le, Lt, Same}

pub record Ledger : Type 0 where
  pub sum : Fraction
  pub squares : Fraction
  pub weight : Fraction
  -- "n being the scores counted before"
  pub n : ℕ

-- "Its sum, squares, weight and n start at 0."
abbrev pub blank : Ledger
blank = record { sum = none; squares = none; weight = none; n = 0 }

-- "Its factor is 1 for discount 0, otherwise the smaller of 1 - discount and 1 - 1/(n + 2)."
unfoldable pub factor : Fraction → ℕ → Fraction
factor discount n = cond (eqb discount.num 0) unit (smaller (minus unit discount) (minus unit (over 1 (n + 2))))

-- "Sum, sum of squares and weight are each multiplied by the factor, then score, its square and 1 are added."
abbrev pub moved : Fraction → Fraction → Fraction → Fraction
moved f a b = plus (times a f) b

abbrev pub enter : Fraction → Ledger → Fraction → Ledger
enter discount b score = record {
  sum = moved (factor discount b.n) b.sum score;
  squares = moved (factor discount b.n) b.squares (times score score);
  weight = moved (factor discount b.n) b.weight unit;
  n = suc b.n;
}

-- "`mean` is sum/weight."
abbrev pub mean : Ledger → Fraction
mean b = divided_by b.sum b.weight

-- "squares/weight - mean × mean". It is never cut off at 0: `Faithful.variance_whole`.
abbrev pub variance : Ledger → Fraction
variance b = minus (divided_by b.squares b.weight) (times (mean b) (mean b))

-- "Its threshold is mean plus z times the root of squares/weight - mean × mean." "No root is taken: whether a fraction lies under, at or over the
-- threshold is settled by comparing squares of whole numbers." These are the two squares: of what y is over the mean, 0 for a y that is not
-- over it, and of what the threshold is over the mean.
abbrev pub gap_squared : Ledger → Fraction → Fraction
gap_squared b y = times (minus y (mean b)) (minus y (mean b))

abbrev pub spread_squared : Fraction → Ledger → Fraction
spread_squared z b = times (times z z) (variance b)

-- y is under, at or over the threshold of z and b: exactly one holds (`Faithful.one_of_three`).
abbrev pub Under : Fraction → Ledger → Fraction → Type 0
Under z b y = Lt y (mean b) ⊎ Lt (gap_squared b y) (spread_squared z b)

abbrev pub At : Fraction → Ledger → Fraction → Type 0
At z b y = Le (mean b) y × Same (gap_squared b y) (spread_squared z b)

abbrev pub Over : Fraction → Ledger → Fraction → Type 0
Over z b y = Lt (spread_squared z b) (gap_squared b y)

abbrev pub AtOrUnder : Fraction → Ledger → Fraction → Type 0
AtOrUnder z b y = Le (gap_squared b y) (spread_squared z b)

abbrev pub AtOrOver : Fraction → Ledger → Fraction → Type 0
AtOrOver z b y = Le (mean b) y × Le (spread_squared z b) (gap_squared b y)
