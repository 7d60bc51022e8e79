-- The drift test looks at the last entries of the two lists alone. Assumes nothing.
use Rattle.std.proofs.Common.{◌≡◌, ℕ, suc, ◌-◌, ◌≤◌, Bool, true, false, ◌&&◌, ltb, List, length, get_or, sym, refl, ap, ◌∙◌, arith}
use lib.Ieee.{Float, nan}
use Rattle.deviation.specs.Const.{zero64}
use Rattle.deviation.specs.Statistics.{fresh, counted}
use Rattle.predictorcorrector.specs.Lists.{first_countable}
use Rattle.predictorcorrector.specs.State.{candidate_counted}
use Rattle.predictorcorrector.specs.declared.PredictorCorrector.{PredictorCorrector}
use Rattle.predictorcorrector.proofs.Rows.{stepped_at, row_fits_lem}
use Rattle.candidate.specs.Candidate.{near_means, drift_within, near_next, drift_at, candidate_with, is_drift}

module _ (s : PredictorCorrector) (y : ℕ) (based : s.base_dimension ≡ suc y) (few : suc y ≤ 16) (long : length s.deviations_actual ≡ 16) (long' : length s.deviations_expected ≡ 16) (xs ys noise : List Float) (wide : suc y ≤ length xs) (wide' : suc y ≤ length ys)
    (counts : s.auto_adjust ≡ true → (first_countable (suc y) s.deviations_actual ≡ true) × (first_countable (suc y) s.deviations_expected ≡ true)) where
  within_at : s.auto_adjust ≡ true → near_next (suc y) (get_or s.deviations_actual y (fresh zero64)) (get_or s.deviations_expected y (fresh zero64)) xs ys noise
      ≡ drift_within (suc y) (candidate_counted s xs ys).deviations_actual (candidate_counted s xs ys).deviations_expected xs ys noise
  unfolding near_next drift_within candidate_counted
  within_at h =
      let a = sym (stepped_at counted (fresh zero64) nan (suc y) y s.deviations_actual xs (omega arith) (omega arith) (omega arith)) in
      let e = sym (stepped_at counted (fresh zero64) nan (suc y) y s.deviations_expected ys (omega arith) (omega arith) (omega arith)) in
      let f = row_fits_lem (suc y) s.deviations_actual xs few wide (counts h).0 in
      let g = row_fits_lem (suc y) s.deviations_expected ys few wide' (counts h).1 in
      let m : suc y - 1 ≡ y = omega arith in
      let p : near_means (counted (get_or s.deviations_actual y (fresh zero64)) (get_or xs y nan)) (counted (get_or s.deviations_expected y (fresh zero64)) (get_or ys y nan)) (get_or xs y nan) (get_or ys y nan) (get_or noise y nan)
      ≡ drift_within (suc y) (candidate_counted s xs ys).deviations_actual (candidate_counted s xs ys).deviations_expected xs ys noise
      = rw (h, based, f, g) (λ i. near_means (a i) (e i) (get_or xs y nan) (get_or ys y nan) (get_or noise y nan)) in
      ap (λ (k : ℕ). near_means (counted (get_or s.deviations_actual y (fresh zero64)) (get_or xs k nan)) (counted (get_or s.deviations_expected y (fresh zero64)) (get_or ys k nan)) (get_or xs k nan) (get_or ys k nan) (get_or noise k nan)) m ∙ p

  -- For a state with its lists, whose entries take an update where auto adjust is on: what it takes of them.
  pub drift_at_lem : (candidate : Bool) → drift_at candidate s.auto_adjust s.run_length (suc y) (get_or s.deviations_actual y (fresh zero64)) (get_or s.deviations_expected y (fresh zero64)) xs ys noise
      ≡ is_drift candidate s (candidate_with candidate s xs ys) (suc y) xs ys noise
  unfolding drift_at is_drift candidate_with
  drift_at_lem true = go s.auto_adjust refl
    where
      go : (t : Bool) → s.auto_adjust ≡ t
          → (s.auto_adjust && (ltb 2 s.run_length && near_next (suc y) (get_or s.deviations_actual y (fresh zero64)) (get_or s.deviations_expected y (fresh zero64)) xs ys noise))
          ≡ (s.auto_adjust && (ltb 2 s.run_length && drift_within (suc y) (candidate_counted s xs ys).deviations_actual (candidate_counted s xs ys).deviations_expected xs ys noise))
      go true h = ap (λ (q : Bool). s.auto_adjust && (ltb 2 s.run_length && q)) (within_at h)
      go false h = rw h refl
  drift_at_lem false = refl
