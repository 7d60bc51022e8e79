-- What calls reach: the thresholder's count is its primary statistic's. Assumes nothing.
use Rattle.std.specs.Prelude.{Result, Ok, Err}
use mathlib.Core.Path.{◌≡◌, refl, ap, ◌∙◌, subst}
use mathlib.Core.Bool.{Bool, true, false, cond}
use lib.IntN.{pos, ◌+ℤ◌}
use lib.Ieee.{Float}
use Rattle.types.specs.declared.Refusal.TheVariants.{Discount, Count, Horizon}
use Rattle.deviation.specs.Statistics as Statistics
use Rattle.deviation.specs.Statistics.{counted, countable, next, one_more, is_discount}
use Rattle.deviation.specs.declared.Deviation.{Deviation}
use Rattle.basicthresholder.specs.Updates.{fresh_thresholder, new_adjustible, done, refused, updated, counts_ok, primary_counted, both_counted, threshold_counted, update_threshold, update_primary, update_both, update, is_horizon, with_score_differencing, set_score_differencing}
use Rattle.basicthresholder.specs.declared.BasicThresholder.{BasicThresholder}
use Rattle.grades.specs.Reached.{Reached, new_adjustible_call, default, update_threshold_call, update_primary_call, update_both_call, update_capped, set_z_factor, set_lower_threshold, set_absolute_threshold, set_initial_threshold, set_score_differencing_call}
use Rattle.types.specs.declared.Refusal.{Refusal}
use Rattle.types.specs.declared.Updated.{Updated}

abbrev Agree : BasicThresholder → Type 0
Agree s = s.primary_deviation.count ≡ s.count

-- ---- updates
one_more_lem : (d : Deviation) (x : Float) → (counted d x).count ≡ one_more d.count
unfolding Statistics.update next one_more
one_more_lem d x = go (countable d.count)
  where
    go : (b : Bool)
        → (cond {A = Updated Deviation} b (record { answer = Ok tt; state = next d x }) (record { answer = Err Count; state = d })).state.count
        ≡ cond b (d.count +ℤ pos 1) d.count
    go true = refl
    go false = refl

threshold_agrees : (s : BasicThresholder) (x : Float) → Agree s → Agree (threshold_counted s x)
unfolding threshold_counted
threshold_agrees s x e = e

primary_agrees : (s : BasicThresholder) (x : Float) → Agree s → Agree (primary_counted s x)
unfolding primary_counted
primary_agrees s x e = one_more_lem s.primary_deviation x ∙ ap one_more e

both_agrees : (s : BasicThresholder) (x y : Float) → Agree s → Agree (both_counted s x y)
unfolding both_counted
both_agrees s x y e = one_more_lem s.primary_deviation x ∙ ap one_more e

updated_agrees : (s after : BasicThresholder) → Agree s → Agree after → Agree (updated s after).state
unfolding updated
updated_agrees s after e f = go (counts_ok s)
  where
    go : (b : Bool) → Agree (cond b (done after) (refused Count s)).state
    go true = f
    go false = e

-- ---- the constructions and the setter that refuse
abbrev MadeAgree : Result BasicThresholder Refusal → Type 0
MadeAgree (Ok s) = Agree s
MadeAgree (Err why) = Unit

made_agrees : (d : Float) (adjust : Bool) → MadeAgree (new_adjustible d adjust)
unfolding new_adjustible
made_agrees d adjust = go (is_discount d)
  where
    go : (b : Bool) → MadeAgree (cond b (Ok (fresh_thresholder d adjust)) (Err Discount))
    go true = refl
    go false = tt

set_agrees : (s : BasicThresholder) (x : Float) → Agree s → Agree (set_score_differencing s x).state
unfolding set_score_differencing
set_agrees s x e = go (is_horizon x)
  where
    go : (b : Bool) → Agree (cond b (done (with_score_differencing s x)) (refused Horizon s)).state
    go true = e
    go false = e

-- ---- every call
pub agree : (s : BasicThresholder) → Reached s → s.primary_deviation.count ≡ s.count
unfolding update_threshold update_primary update_both update
agree s (new_adjustible_call d adjust e) = subst MadeAgree e (made_agrees d adjust)
agree _ default = refl
agree _ (update_threshold_call {s} x r) = updated_agrees s (threshold_counted s x) (agree s r) (threshold_agrees s x (agree s r))
agree _ (update_primary_call {s} x r) = updated_agrees s (primary_counted s x) (agree s r) (primary_agrees s x (agree s r))
agree _ (update_both_call {s} x y r) = updated_agrees s (both_counted s x y) (agree s r) (both_agrees s x y (agree s r))
agree _ (update_capped {s} x y z r) = updated_agrees s (both_counted s _ _) (agree s r) (both_agrees s _ _ (agree s r))
agree _ (set_z_factor {s} x r) = agree s r
agree _ (set_lower_threshold {s} x r) = agree s r
agree _ (set_absolute_threshold {s} x r) = agree s r
agree _ (set_initial_threshold {s} x r) = agree s r
agree _ (set_score_differencing_call {s} x r) = set_agrees s x (agree s r)
