-- From an exit's tests and calls to what judging leaves. Assumes nothing.
use Rattle.std.specs.Prelude.{Result, Ok, Err}
use mathlib.Core.Path.{◌≡◌, refl, sym, ap, ◌∙◌, subst}
use mathlib.Core.Bool.{Bool, true, false, cond, not, ◌&&◌}
use lib.Dec.{ltb}
use native.Mathlib.Omega.{arith}
use lib.IntN.{ℤ, pos, ◌+ℤ◌, ◌-ℤ◌}
use mathlib.Core.List.{List}
use Prim.Native.Nat.{ℕ, ◌-◌}
use lib.ListN.{length, drop}
use lib.Ieee as Ieee
use lib.Ieee.{Float, binary32}
use Rattle.types.specs.declared.CorrectionMode.TheVariants as Modes
use Rattle.divector.specs.DiVector.{normalized}
use Rattle.divector.proofs.Laws.{one_length_true}
use Rattle.corrector.specs.Corrector.{expected_row, write_row}
use Rattle.corrector.specs.Steps.{Expecting}
use Rattle.corrector.proofs.Rows.{written_row}
use Rattle.descriptor.specs.Checks.{answer_of}
use Rattle.descriptor.specs.Lent.{Lent}
use Rattle.descriptor.specs.declared.Reading.{Reading}
use Rattle.descriptor.specs.declared.LastDescriptor.{LastDescriptor}
use Rattle.uncertainty_box.specs.Box.{within_unertainty_box}
use Rattle.scoring.specs.Scores.{Written}
use Rattle.detection.specs.Const.{zero32}
use Rattle.detection.specs.Judging.{gap, recent, opening, noise_pass, block, start, box, explained, triggered, within_box, expected, newest_of, is_drift_mode, late_verdict, graded_verdict, decided, relative_index, kept}
use Rattle.detection.specs.Judged.{outcome_of, index_after, written}
use Rattle.detection.specs.Decided.{no_row, newest_expected, row_after, drift_of, decision, Decided}
use Rattle.detection.specs.Steps.{Branching, Writing, accepted_way, way, drift_by, late_outcome, expected_outcome, without_row}
use Rattle.detection.specs.declared.Way.{Way}
use Rattle.detection.specs.declared.Way.TheVariants as Ways
use Rattle.detection.specs.declared.Verdict.{Verdict}
use Rattle.detection.specs.declared.Verdict.TheVariants.{Quiet, Corrected, Raised, Skipped}
use Rattle.predictorcorrector.specs.declared.Standing.{Standing}
use Rattle.detection.specs.declared.Decision.{Decision}
use Rattle.detection.proofs.Entry.{branching, writing}
use Rattle.types.specs.Refusals.{Answer}
use Rattle.types.specs.declared.Refusal.{Refusal}

-- ---- an outcome short of the candidate branch
abbrev Calm : Result Verdict Refusal → Type 0
Calm (Ok (Quiet t)) = Unit
Calm (Ok (Corrected t m)) = is_drift_mode m ≡ false
Calm (Ok (Raised t g)) = ⊥
Calm (Ok Skipped) = Unit
Calm (Err why) = Unit

module _ (r : Reading) (l : LastDescriptor) (b : Lent) (e h w : List Float) where
  pub calm_left : (o : Result Verdict Refusal) (j : Decision) → Calm o → j ≡ without_row o → Decided r l b o j e h w e h w
  unfolding without_row index_after relative_index row_after written kept
  calm_left (Ok (Quiet t)) j c q = record { says = ap (λ (x : Decision). x.outcome) q; index = ap (λ (x : Decision). x.relative_index) q; row = ap (λ (x : Decision). x.newest_expected) q; point = refl; highs = refl; lows = refl }
  calm_left (Ok (Corrected t m)) j c q = record {
    says = ap (λ (x : Decision). x.outcome) q;
    index = ap (λ (x : Decision). x.relative_index) q;
    row = ap (λ (x : Decision). x.newest_expected) q ∙ ap (λ (d : Bool). cond d (newest_expected r l b) no_row) (sym c);
    point = refl;
    highs = refl;
    lows = refl;
  }
  calm_left (Ok (Raised t g)) j c q = absurd c
  calm_left (Ok Skipped) j c q = record { says = ap (λ (x : Decision). x.outcome) q; index = ap (λ (x : Decision). x.relative_index) q; row = ap (λ (x : Decision). x.newest_expected) q; point = refl; highs = refl; lows = refl }
  calm_left (Err why) j c q = record { says = ap (λ (x : Decision). x.outcome) q; index = ap (λ (x : Decision). x.relative_index) q; row = ap (λ (x : Decision). x.newest_expected) q; point = refl; highs = refl; lows = refl }

  -- ---- the candidate branch
  pub drift_left : (t : Float) (row : List Float) → row ≡ newest_expected r l b
      → Decided r l b (Ok (Corrected t Modes.DATA_DRIFT)) (record { outcome = Ok (Corrected t Modes.DATA_DRIFT); relative_index = pos 0; newest_expected = row }) e h w e h w
  unfolding index_after relative_index row_after written kept
  drift_left t row q = record { says = refl; index = refl; row = q; point = refl; highs = refl; lows = refl }

  pub raised_left : (t g : Float) (i : ℤ) (row : List Float) (n : ℕ) → row ≡ newest_expected r l b → n ≡ block r l b → i ≡ (pos n -ℤ pos r.shingle_size +ℤ pos 1)
      → (e' h' w' : List Float) → (e' ≡ expected r l b) × (h' ≡ normalized r.score b.high b.low b.high) × (w' ≡ normalized r.score b.high b.low b.low)
      → Decided r l b (Ok (Raised t g)) (record { outcome = Ok (Raised t g); relative_index = i; newest_expected = row }) e h w e' h' w'
  unfolding index_after relative_index row_after written kept
  raised_left t g i row n q at is e' h' w' p =
      record { says = refl; index = is ∙ ap (λ (m : ℕ). pos m -ℤ pos r.shingle_size +ℤ pos 1) at; row = q; point = p.0; highs = p.1; lows = p.2 }

-- ---- the outcome that a way leads to
module _ (k : Standing) (r : Reading) (l : LastDescriptor) (b : Lent) where
  unfoldable pub ended : Way → Result Verdict Refusal
  ended (Ways.Refused why) = Err why
  ended Ways.Skipped = Ok Skipped
  ended (Ways.Quiet t) = Ok (Quiet t)
  ended (Ways.Corrected t m) = Ok (Corrected t m)
  ended (Ways.Past t g) = late_outcome k r l b t g

  picks : (p q : Bool) (x y z : Way) (u v w : Verdict) → ended x ≡ Ok u → ended y ≡ Ok v → ended z ≡ Ok w → ended (cond p x (cond q y z)) ≡ Ok (cond p u (cond q v w))
  picks true q x y z u v w h i m = h
  picks false true x y z u v w h i m = i
  picks false false x y z u v w h i m = m

  abbrev verdict_by : Verdict
  verdict_by = decided r l b k.basic_thresholder k.auto_adjust (drift_of r l b k (opening k.basic_thresholder r r.score).threshold)

  way_ended : (a : Answer) → ended (way r l b k.basic_thresholder a) ≡ outcome_of verdict_by a
  unfolding way accepted_way decided graded_verdict ended late_outcome outcome_of recent
  way_ended (Ok tt) =
      let g = opening k.basic_thresholder r r.score in
      picks (Ieee.eq r.score zero32) (Ieee.eq g.grade zero32) _ _ _ _ _ _ refl refl
      (picks (recent r l b && Ieee.eq (opening k.basic_thresholder r r.corrected_score).grade zero32) (Ieee.eq (Ieee.mul binary32 g.grade (noise_pass r l b)) zero32) _ _ _ _ _ _ refl refl refl)
  way_ended (Err why) = refl

  -- ---- from what a way left to the contract
  pub way_decided : (j : Decision) (e h w e' h' w' : List Float) (a : Answer) → a ≡ answer_of r l b (length e) (length h) (length w) k.base_dimension k.counts_ok
      → (y z : Way) → y ≡ way r l b k.basic_thresholder a → y ≡ z
      → Decided r l b (ended z) j e h w e' h' w' → Decided r l b (decision r l b k (length e) (length h) (length w)) j e h w e' h' w'
  unfolding decision
  way_decided j e h w e' h' w' a said y z is at p = subst (λ (o : Result Verdict Refusal). Decided r l b o j e h w e' h' w') (ap ended (sym at ∙ is) ∙ way_ended a ∙ ap (outcome_of verdict_by) said) p

  -- Data drift by the newest rows.
  pub drift_is : (t : Float) (d : Bool) (x : List Float) → x ≡ newest_of r l b (expected r l b)
      → d ≡ drift_by k r l t (drop (length b.point - r.base_dimension) b.point) x b.difference_deviations → d ≡ drift_of r l b k t
  unfolding drift_of drift_by newest_of
  drift_is t d x q h = h ∙ ap (λ (y : List Float). drift_by k r l t (drop (length b.point - r.base_dimension) b.point) y b.difference_deviations) q

  -- ---- from the expected point on
  module _ (u : List Float) (t g : Float) (j : Decision) (e h w e' h' w' : List Float) where
    pub at_forecast : within_unertainty_box u (start r l b) b.scale b.point (expected r l b) ≡ true → Decided r l b (Ok (Corrected t Modes.FORECAST)) j e h w e' h' w'
        → Decided r l b (expected_outcome k r l b u t g) j e h w e' h' w'
    unfolding expected_outcome
    at_forecast y p = rw y p

    pub at_drift : within_unertainty_box u (start r l b) b.scale b.point (expected r l b) ≡ false → drift_of r l b k t ≡ true → Decided r l b (Ok (Corrected t Modes.DATA_DRIFT)) j e h w e' h' w'
        → Decided r l b (expected_outcome k r l b u t g) j e h w e' h' w'
    unfolding expected_outcome
    at_drift y z p = rw (y, z) p

    pub at_raised : within_unertainty_box u (start r l b) b.scale b.point (expected r l b) ≡ false → drift_of r l b k t ≡ false → Decided r l b (Ok (Raised t g)) j e h w e' h' w'
        → Decided r l b (expected_outcome k r l b u t g) j e h w e' h' w'
    unfolding expected_outcome
    at_raised y z p = rw (y, z) p

  -- ---- past the noise pass
  module _ (t g : Float) (j : Decision) (e h w e' h' w' : List Float) where
    pub at_explained : (k.auto_adjust && explained r l b) ≡ true → Decided r l b (Ok (Corrected t Modes.CONDITIONAL_FORECAST)) j e h w e' h' w' → Decided r l b (late_outcome k r l b t g) j e h w e' h' w'
    unfolding late_outcome late_verdict
    at_explained y p = rw y p

    pub at_shingle : (k.auto_adjust && explained r l b) ≡ false → (ltb (gap r l b) r.shingle_size && not (triggered r l b t)) ≡ true
        → Decided r l b (Ok (Corrected t Modes.ANOMALY_IN_SHINGLE)) j e h w e' h' w' → Decided r l b (late_outcome k r l b t g) j e h w e' h' w'
    unfolding late_outcome late_verdict
    at_shingle y z p = rw (y, z) p

    pub at_expected : (k.auto_adjust && explained r l b) ≡ false → (ltb (gap r l b) r.shingle_size && not (triggered r l b t)) ≡ false
        → (u : List Float) → u ≡ box r l b → Decided r l b (expected_outcome k r l b u t g) j e h w e' h' w' → Decided r l b (late_outcome k r l b t g) j e h w e' h' w'
    unfolding late_outcome late_verdict expected_outcome within_box
    at_expected y z u is p = rw (y, z) (subst (λ (v : List Float). Decided r l b (expected_outcome k r l b v t g) j e h w e' h' w') is p)

  -- ---- what the exits past the noise pass ask
  past_done : (t g : Float) (a : Answer) → way r l b k.basic_thresholder a ≡ Ways.Past t g → a ≡ Ok tt
  unfolding way
  past_done t g (Ok tt) h = refl
  past_done t g (Err why) h = absurd (let z : ◌≡◌ {A = ℕ} 0 1 = cc in omega arith)

  pub past_fits : (e h w : ℕ) (a : Answer) → a ≡ answer_of r l b e h w k.base_dimension k.counts_ok
      → (y : Way) (t g : Float) → y ≡ way r l b k.basic_thresholder a → y ≡ Ways.Past t g → Branching r l b × Writing b e h w
  past_fits e h w a said y t g is at =
      let d = sym said ∙ past_done t g a (sym is ∙ at) in
      (branching r l b k.base_dimension e h w k.counts_ok d, writing r l b k.base_dimension e h w k.counts_ok d)

-- What is written past the last test: the lengths fit.
pub buffers_are : (r : Reading) (l : LastDescriptor) (b : Lent) (n : ℕ) (row : List Float) → n ≡ start r l b → row ≡ expected_row b.high b.low n r.base_dimension b.point b.median
    → (e h w e' h' w' : List Float) → Branching r l b → Writing b (length e) (length h) (length w) → Written r n b.point row b.high b.low e h w e' h' w'
    → (e' ≡ expected r l b) × (h' ≡ normalized r.score b.high b.low b.high) × (w' ≡ normalized r.score b.high b.low b.low)
unfolding expected
buffers_are r l b n row q k e h w e' h' w' f g p =
    let fits = subst (λ (m : ℕ). Expecting (length b.high) (length b.low) (start r l b) r.base_dimension (length b.point) (length b.median) m) (sym g.expected_long) f.expecting in
    let alike = one_length_true (length b.high) (length b.low) (length h) (length w) (record { second = sym g.low_long; third = sym g.out_high_long; fourth = sym g.out_low_long }) in (
      p.point_is
          ∙ ap (λ (x : List Float). write_row b.point n r.base_dimension x e) k
          ∙ ap (λ (m : ℕ). write_row b.point m r.base_dimension (expected_row b.high b.low m r.base_dimension b.point b.median) e) q
          ∙ written_row b.high b.low (start r l b) r.base_dimension b.point b.median e fits,
      p.highs ∙ rw alike,
      p.lows ∙ rw alike,
    )
