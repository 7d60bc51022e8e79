-- The statement of demand 3 says what it should. Assumes nothing.
use mathlib.Core.List.{List}
use Prim.Native.Nat.{◌<◌}
use native.Mathlib.Nat.{mul-pos}
use lib.Ieee.{Float}
use lib.Ieee.Positive.{den_pos}
use Rattle.ledger.specs.Fractions.{Fraction, Le, fraction_of}
use Rattle.ledger.specs.Ledger.{Ledger, blank, mean, variance, AtOrUnder, AtOrOver, spread_squared}
use Rattle.ledger.specs.Faithful.{after, OneOfThree, Faithful}
use Rattle.ledger.proofs.Impostors.{in_bounds, all_zero_is_out, fixed_is_out, never_updating_is_out, raised_only_is_out}
use Rattle.ledger.proofs.Laws.{default_z}
use Rattle.ledger.proofs.Model.{model_keeps, worked_ledger, worked_watch, default_ledger, default_watch}
use Rattle.ledger.proofs.Order.{in_order}
use Rattle.ledger.proofs.Schwarz.{sound, mean_squared}
use Rattle.ledger.proofs.Sides.{some_side, not_under_at, not_under_over, not_at_over, at_or_under, under_or_at, at_or_over, over_or_at}

one_of_three : (z : Fraction) (b : Ledger) (y : Fraction) → OneOfThree z b y
one_of_three z b y = record {
  some = some_side z b y;
  not_under_at = not_under_at z b y;
  not_under_over = not_under_over z b y;
  not_at_over = not_at_over z b y;
  at_or_under = at_or_under z b y;
  under_or_at = under_or_at z b y;
  at_or_over = at_or_over z b y;
  over_or_at = over_or_at z b y;
}

in_their_order : (d z : Float) (xs : List Float) (y w : Fraction) → 0 < (after d blank xs).n → 0 < y.den → 0 < w.den
    → AtOrUnder (fraction_of z) (after d blank xs) y → AtOrOver (fraction_of z) (after d blank xs) w → Le y w
in_their_order d z xs y w some hy hw u o =
    let b = after d blank xs in
    let s = sound d xs in
    let m : 0 < (mean b).den = mul-pos s.sum_den (s.weight_num some) in
    let v : 0 < (variance b).den = mul-pos (mul-pos s.squares_den (s.weight_num some)) (mul-pos m m) in
    in_order y w (mean b) (spread_squared (fraction_of z) b) hy hw m (mul-pos (mul-pos (den_pos z) (den_pos z)) v) u o.0 o.1

pub faithful : Faithful
faithful = record {
  weight_above = λ (d : Float) (xs : List Float). (sound d xs).weight_num;
  variance_whole = λ (d : Float) (xs : List Float). mean_squared (after d blank xs) (sound d xs);
  one_of_three = one_of_three;
  in_their_order = in_their_order;
  default_z = default_z;
  model = model_keeps;
  worked_ledger = worked_ledger;
  worked_watch = worked_watch;
  default_ledger = default_ledger;
  default_watch = default_watch;
  in_bounds = in_bounds;
  all_zero = all_zero_is_out;
  fixed_threshold = fixed_is_out;
  never_updates = never_updating_is_out;
  only_raised = raised_only_is_out;
}
