-- What a `cond` picks, by a test t that the code made and that the definition writes s. Assumes nothing.
use mathlib.Core.Path.{◌≡◌}
use mathlib.Core.Bool.{Bool, true, false, cond}

pub picked : {A : Type 0} {t s : Bool} (a b : A) → t ≡ s → t ≡ true → a ≡ cond s a b
picked a b e h = rw (← e, h)

pub passed : {A : Type 0} {t s : Bool} (a b : A) → t ≡ s → t ≡ false → b ≡ cond s a b
passed a b e h = rw (← e, h)
