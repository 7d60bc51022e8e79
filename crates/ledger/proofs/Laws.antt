-- The thresholder of basicthresholder.rs counts as a judge's must, a new one is new, and its z factor is within demand 3's bounds. Assumes nothing.
use mathlib.Core.Path.{◌≡◌, refl, sym, subst}
use mathlib.Core.Bool.{Bool, true, false, cond}
use mathlib.Core.List.{List}
use Prim.Native.Nat.{◌≤◌}
use lib.Dec.{T}
use lib.Ieee.{Float, lt, le, eq, of_bits}
use Rattle.types.specs.declared.Refusal.TheVariants.{Horizon}
use Rattle.basicthresholder.specs.Const.{zero32, sixteen32, z_factor_default}
use Rattle.basicthresholder.specs.declared.BasicThresholder.{BasicThresholder}
use Rattle.basicthresholder.specs.Updates.{fresh_thresholder, primary_counted, with_z_factor, done, refused, is_horizon, with_score_differencing, set_score_differencing}
use Rattle.ledger.specs.Statement.{most_readings, Told, Shown, accepted, Sizes, InBounds, Demand3}
use Rattle.ledger.specs.Theorem.{Counts, New}

pub primary_counts : (t : BasicThresholder) (x : Float) → Counts t x (primary_counted t x)
unfolding primary_counted
primary_counts t x = record { primary = refl; count = refl; z_factor = refl }

pub new_fresh : (d : Float) (adjust : Bool) → New d z_factor_default (fresh_thresholder d adjust)
new_fresh d adjust = record { primary = refl; count = refl; z_factor = refl }

pub new_z : (d z x : Float) (t : BasicThresholder) → New d z t → New d x (with_z_factor t x)
new_z d z x t n = record { primary = n.primary; count = n.count; z_factor = refl }

z_above : T (lt zero32 z_factor_default)
unfolding lt of_bits
z_above = tt

z_most : T (le z_factor_default sixteen32)
unfolding lt le eq of_bits
z_most = tt

pub default_z : (ts : List Told) → accepted ts ≤ most_readings → Sizes ts → InBounds z_factor_default ts
default_z ts h k = record { z_above = z_above; z_most = z_most; readings = h; scores = k }

-- Demand 3 of a list whose z is a new state's: the bounds on the readings are enough.
pub by_default : (d z : Float) (ts : List Told) (vs : List Shown) → z ≡ z_factor_default → (InBounds z ts → Demand3 d z ts vs)
    → accepted ts ≤ most_readings → Sizes ts → Demand3 d z_factor_default ts vs
by_default d z ts vs e p h k = subst (λ (y : Float). Demand3 d y ts vs) e (p (subst (λ (y : Float). InBounds y ts) (sym e) (default_z ts h k)))

pub new_horizon : (d z x : Float) (t : BasicThresholder) → New d z t → New d z (set_score_differencing t x).state
unfolding set_score_differencing
new_horizon d z x t n = go (is_horizon x)
  where
    go : (b : Bool) → New d z (cond b (done (with_score_differencing t x)) (refused Horizon t)).state
    go true = record { primary = n.primary; count = n.count; z_factor = n.z_factor }
    go false = n
