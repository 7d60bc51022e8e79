-- The premises of demand 3 can be met: eleven calm readings are judged in turn, and the entry checks accept each. Assumes nothing.
use mathlib.Core.Path.{◌≡◌, refl, subst, sym}
use mathlib.Core.Logic.{inr}
use mathlib.Core.Bool.{false}
use mathlib.Core.List.{◌∷◌}
use Prim.Native.Nat.{ℕ, zero, suc, ◌≤◌}
use lib.Dec.{lit≤}
use lib.Ieee.{fits, round, add, sub, mul, div, lt, le, eq, ne, of_int, of_bits}
use Rattle.util.specs.Util.{minf32}
use Rattle.ieee.specs.Round.{narrow}
use Rattle.deviation.specs.Statistics as Statistics
use Rattle.deviation.specs.Statistics.{countable, next, one_more}
use Rattle.basicthresholder.specs.Grades.{primary_threshold_and_grade, threshold, threshold_by, primary_grade, grade_over, is_deviation_ready, counts_ready}
use Rattle.basicthresholder.specs.Updates.{counts_ok, updated, update_primary, primary_counted, counted_over, counted_gap}
use Rattle.ledger.specs.Statement.{most_readings, accepted, Sized, Sizes, InBounds}
use Rattle.ledger.proofs.Laws.{default_z}
use Rattle.descriptor.specs.Checks.{every, sizes_ok, dimension, range_ok, lengths_of, points_ok, rows_ok, neighbours_ok, last_points_ok, lengths_ok, numbers_finite, last_finite, finite_ok, is_later, seen_ok, answer_of}
use Rattle.predictorcorrector.specs.State as State
use Rattle.predictorcorrector.specs.State.{fresh_state, fresh_list, state_counts_ok, run_ended}
use Rattle.predictorcorrector.specs.Lists.{list_countable, first_countable}
use Rattle.predictorcorrector.specs.declared.PredictorCorrector.{PredictorCorrector}
use Rattle.detection.specs.Judging as Exits
use Rattle.detection.specs.Judged.{outcome, outcome_of, state_after}
use Rattle.demand3.specs.Calls.{new, JudgedInTurn, InTurn, Made, z_of, ZUnset, told_of}
use Rattle.demand3.specs.Calm.{nought, one, judging, judgings, made, eleven}

kept : (n : ℕ) (s : PredictorCorrector) → JudgedInTurn s (judgings n s)
kept zero s = tt
kept (suc n) s = (
  record { distance = refl; contract = record { says = refl; state = refl; index = refl; point = refl; highs = refl; lows = refl } },
  kept n (judging s).judgment.state,
)

made_is : Made nought false 1 made
unfolding State.new fits lt le eq of_bits
made_is = record { discount = tt; contract = refl }

sized_one : Sized one
sized_one = record { plain = tt; least = lit≤ tt; most = lit≤ tt }

sizes : (n : ℕ) (s : PredictorCorrector) → Sizes (told_of s (judgings n s))
sizes zero s = tt
sizes (suc n) s = ((λ h. inr sized_one), sizes n (judging s).judgment.state)

all_accepted : accepted (told_of made eleven) ≡ 11
unfolding answer_of range_ok sizes_ok lengths_of lengths_ok dimension points_ok rows_ok neighbours_ok last_points_ok finite_ok numbers_finite last_finite every seen_ok is_later
    state_counts_ok counts_ok countable list_countable first_countable State.new fresh_state fresh_list
    lt le eq ne of_bits round add sub mul div of_int
    outcome outcome_of state_after Exits.verdict Exits.decided Exits.opening Exits.after Exits.entered Exits.update_score run_ended State.update_score
    update_primary updated primary_counted counted_over counted_gap Statistics.update next one_more Statistics.factor Statistics.mean Statistics.deviation Statistics.is_empty Statistics.positive_root narrow
    primary_threshold_and_grade threshold threshold_by primary_grade grade_over is_deviation_ready counts_ready minf32
all_accepted = refl

pub calm_met : InTurn (new nought false 1 made ∷ eleven) × ZUnset eleven × InBounds (z_of eleven) (told_of made eleven) × (accepted (told_of made eleven) ≡ 11)
calm_met = (
  (made_is, kept 11 made),
  tt,
  default_z (told_of made eleven) (subst (λ (n : ℕ). n ≤ most_readings) (sym all_accepted) (lit≤ tt)) (sizes 11 made),
  all_accepted,
)
