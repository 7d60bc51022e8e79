-- What a reading leaves can be stored: each float is a value of its format, each number fits its bytes. Assumes nothing.
use Rattle.std.specs.Prelude.{Ok, Err}
use mathlib.Core.Path.{◌≡◌, refl, sym, ap, ◌∙◌, subst}
use mathlib.Core.Bool.{Bool, true, false, cond, ◌&&◌}
use mathlib.Core.List.{List, [], ◌∷◌}
use Prim.Native.Nat.{ℕ, zero, suc, ◌+◌, ◌*◌, ◌<◌, ◌≤◌}
use native.Mathlib.Omega.{arith}
use lib.Dec.{T, leb, ltb, leb→le}
use borrow.Author.Tests.{le-leb, leb-true}
use lib.IntN.{ℤ, pos, negsuc, ◌+ℤ◌}
use lib.Signed.{mag}
use lib.ListN.{length, get_or}
use lib.Ieee as Ieee
use lib.Ieee.{Float, nan, inf, fin, binary32, binary64, fits}
use lib.Ieee.Bits.{of_bits-fits}
use lib.Ieee.Fits.{round-fits, cond-fits, nan-fits, inf-fits, add-fits}
use Rattle.ieee.specs.Round.{narrow}
use Rattle.util.specs.Util.{minf32, maxf32}
use Rattle.types.specs.Codes.{is_height}
use Rattle.types.specs.declared.Refusal.TheVariants as Refusals
use Rattle.types.specs.declared.ScoringStrategy.{ScoringStrategy}
use Rattle.deviation.specs.Const.{zero64, count_limit}
use Rattle.deviation.specs.Statistics as Statistics
use Rattle.deviation.specs.Statistics.{fresh, reset, mean, counted, next, countable, one_more}
use Rattle.deviation.specs.declared.Deviation.{Deviation}
use Rattle.basicthresholder.specs.Const.{zero32, two32}
use Rattle.basicthresholder.specs.Updates.{with_counted, counted_gap, counted_over, primary_counted, both_counted, counts_ok, done, refused, updated, update_primary, update_both, update, Settings, with_settings, with_z_factor, with_lower_threshold, with_absolute_threshold, with_initial_threshold, with_score_differencing}
use Rattle.basicthresholder.specs.declared.BasicThresholder.{BasicThresholder}
use Rattle.predictorcorrector.specs.Lists.{changed, stepped, row_fits}
use Rattle.predictorcorrector.proofs.Rows.{both, fits_within}
use Rattle.predictorcorrector.specs.State.{with_run, with_thresholder, longer_run, run_ended, auto_adjusted, candidate_counted, run_grown, height_score, update_score}
use Rattle.predictorcorrector.specs.declared.PredictorCorrector.{PredictorCorrector}
use Rattle.descriptor.specs.Lent.{Lent}
use Rattle.descriptor.specs.declared.Reading.{Reading}
use Rattle.descriptor.specs.declared.LastDescriptor.{LastDescriptor}
use Rattle.detection.specs.Judging as Exits
use Rattle.detection.specs.Judging.{entered, candidate_with, candidate_state, is_drift_mode, after}
use Rattle.detection.specs.declared.Verdict.{Verdict}
use Rattle.detection.specs.declared.Verdict.TheVariants.{Quiet, Corrected, Raised, Skipped}
use Rattle.layout.specs.Chain.{entries}
use Rattle.layout.specs.Fits.{DeviationFits, ThresholderFits}
use Rattle.stored_state.specs.Fits.{ListFits, StateFits}
use Rattle.types.specs.declared.Updated.{Updated}

-- ---- numbers
pub narrow_fits : (x : Float) → T (fits binary32 (narrow x))
unfolding narrow
narrow_fits nan = nan-fits binary32
narrow_fits (inf s) = inf-fits binary32 s
narrow_fits (fin s m e) = round-fits binary32 s (m * Ieee.up e) (Ieee.down e)

pub min_fits : (x y : Float) → T (fits binary32 x) → T (fits binary32 y) → T (fits binary32 (minf32 x y))
unfolding minf32
min_fits x y p q = cond-fits binary32 (Ieee.lt x y) x y p q

pub max_fits : (x y : Float) → T (fits binary32 x) → T (fits binary32 y) → T (fits binary32 (maxf32 x y))
unfolding maxf32
max_fits x y p q = cond-fits binary32 (Ieee.lt x y) y x q p

more_small : (z : ℤ) → countable z ≡ true → mag (z +ℤ pos 1) < 0x8000_0000
unfolding countable
more_small (pos n) e = (let h = leb→le n 16777215 (subst T (sym e) tt) in omega arith)
more_small (negsuc n) e = absurd (subst T (sym e) tt)

one_more_small : (z : ℤ) → mag z < 0x8000_0000 → mag (one_more z) < 0x8000_0000
unfolding one_more
one_more_small z h = go (countable z) refl
  where
    go : (c : Bool) → countable z ≡ c → mag (cond c (z +ℤ pos 1) z) < 0x8000_0000
    go true e = more_small z e
    go false e = h

longer_small : (n : ℕ) → n < 0x1_0000_0000 → longer_run n < 0x1_0000_0000
unfolding longer_run
longer_small n h = go (leb n 16777215) (leb→le n 16777215)
  where
    go : (c : Bool) → (T c → n ≤ 16777215) → cond c (n + 1) n < 0x1_0000_0000
    go true l = (let k = l tt in omega arith)
    go false l = h

-- ---- statistics
either_deviation : (c : Bool) (a b : Deviation) → DeviationFits a → DeviationFits b → DeviationFits (cond c a b)
either_deviation true a b p q = p
either_deviation false a b p q = q

pub fresh_fits : (x : Float) → T (fits binary64 x) → DeviationFits (fresh x)
fresh_fits x h = record { discount = h; weight = of_bits-fits binary64 0; squared = of_bits-fits binary64 0; sum = of_bits-fits binary64 0; count = omega arith }

reset_fits : (d : Deviation) → DeviationFits d → DeviationFits (reset d)
unfolding reset
reset_fits d f = fresh_fits d.discount f.discount

counted_fits : (d : Deviation) (x : Float) → DeviationFits d → DeviationFits (counted d x)
unfolding Statistics.update next
counted_fits d x f = go (countable d.count) refl
  where
    go : (c : Bool) → countable d.count ≡ c → DeviationFits (cond {A = Updated Deviation} c (record { answer = Ok tt; state = next d x }) (record { answer = Err Refusals.Count; state = d })).state
    go true e = record {
      discount = f.discount;
      weight = add-fits binary64 _ _;
      squared = add-fits binary64 _ _;
      sum = add-fits binary64 _ _;
      count = more_small d.count e;
    }
    go false e = f

gap_fits : (third : Deviation) (x : Float) → DeviationFits third → DeviationFits (counted_gap third x)
unfolding counted_gap
gap_fits third x f = either_deviation (Ieee.lt zero32 x) (counted third x) third (counted_fits third x f) f

pub over_fits : (third primary : Deviation) (x : Float) → DeviationFits third → DeviationFits (counted_over third primary x)
unfolding counted_over
over_fits third primary x f = gap_fits third (Ieee.sub binary32 x (narrow (mean primary))) f

-- ---- thresholders
pub with_counted_lem : (t : BasicThresholder) (x : Float) (a b c : Deviation) (n : ℤ) → ThresholderFits t → T (fits binary32 x) → DeviationFits a → DeviationFits b → DeviationFits c → mag n < 0x8000_0000
    → ThresholderFits (with_counted t x a b c n)
with_counted_lem t x a b c n f h p q r k = record {
  elasticity = f.elasticity;
  count = k;
  differencing = f.differencing;
  last = h;
  primary = p;
  secondary = q;
  third = r;
  absolute = f.absolute;
  fraction = f.fraction;
  lower = f.lower;
  adjustment = f.adjustment;
  initial = f.initial;
  factor = f.factor;
}

primary_fits : (t : BasicThresholder) (x : Float) → ThresholderFits t → ThresholderFits (primary_counted t x)
unfolding primary_counted
primary_fits t x f =
    with_counted_lem t _ _ _ _ _ f (narrow_fits x) (counted_fits t.primary_deviation x f.primary) f.secondary
    (over_fits t.threshold_deviation _ _ f.third) (one_more_small t.count f.count)

pub both_fits : (t : BasicThresholder) (x y : Float) → T (fits binary32 x) → ThresholderFits t → ThresholderFits (both_counted t x y)
unfolding both_counted
both_fits t x y h f =
    with_counted_lem t _ _ _ _ _ f h (counted_fits t.primary_deviation x f.primary)
    (counted_fits t.secondary_deviation y f.secondary) (over_fits t.threshold_deviation _ _ f.third) (one_more_small t.count f.count)

pub updated_fits : (t after : BasicThresholder) → ThresholderFits t → ThresholderFits after → ThresholderFits (updated t after).state
unfolding updated
updated_fits t after f g = go (counts_ok t)
  where
    go : (c : Bool) → ThresholderFits (cond c (done after) (refused Refusals.Count t)).state
    go true = g
    go false = f

pub capped_fits : (t : BasicThresholder) (x y z : Float) → T (fits binary32 x) → ThresholderFits t → ThresholderFits (update t x y z).state
unfolding update update_both
capped_fits t x y z h f = updated_fits t _ f (both_fits t (minf32 two32 x) (Ieee.sub binary32 y z) (min_fits two32 x (of_bits-fits binary32 0x4000_0000) h) f)

pub distance_fits : (t : BasicThresholder) (x : Float) → ThresholderFits t → ThresholderFits (update_primary t x).state
unfolding update_primary
distance_fits t x f = updated_fits t _ f (primary_fits t x f)

score_fits : (t : BasicThresholder) (k : ScoringStrategy) (x y : Float) (o : ScoringStrategy) (z : Float) → T (fits binary32 x) → ThresholderFits t → ThresholderFits (update_score t k x y o z)
unfolding update_score
score_fits t k x y o z h f = go (is_height k)
  where
    go : (c : Bool) → ThresholderFits (cond c (update t x y (height_score o z)).state (update_primary t x).state)
    go true = capped_fits t x y (height_score o z) h f
    go false = distance_fits t x f

settings_fits : (t : BasicThresholder) (k : Settings) → ThresholderFits t → T (fits binary32 k.score_differencing) → T (fits binary32 k.absolute_threshold) → T (fits binary32 k.lower_threshold)
    → T (fits binary32 k.initial_threshold) → T (fits binary32 k.z_factor) → ThresholderFits (with_settings t k)
settings_fits t k f d a l i z = record {
  elasticity = f.elasticity;
  count = f.count;
  differencing = d;
  last = f.last;
  primary = f.primary;
  secondary = f.secondary;
  third = f.third;
  absolute = a;
  fraction = f.fraction;
  lower = l;
  adjustment = f.adjustment;
  initial = i;
  factor = z;
}

module _ (t : BasicThresholder) (x : Float) (h : T (fits binary32 x)) (f : ThresholderFits t) where
  pub z_fits : ThresholderFits (with_z_factor t x)
  z_fits = settings_fits t _ f f.differencing f.absolute f.lower f.initial h

  pub lower_fits : ThresholderFits (with_lower_threshold t x)
  lower_fits = settings_fits t _ f f.differencing f.absolute h f.initial f.factor

  pub absolute_fits : ThresholderFits (with_absolute_threshold t x)
  absolute_fits = settings_fits t _ f f.differencing h f.lower f.initial f.factor

  pub initial_fits : ThresholderFits (with_initial_threshold t x)
  initial_fits = settings_fits t _ f f.differencing f.absolute f.lower h f.factor

  pub differencing_fits : ThresholderFits (with_score_differencing t x)
  differencing_fits = settings_fits t _ f h f.absolute f.lower f.initial f.factor

-- ---- lists
module _ (z : Deviation) where
  pub changed_length : (f : Deviation → Deviation) (n : ℕ) (ds : List Deviation) → length (changed f n ds) ≡ length ds
  unfolding changed
  changed_length f zero ds = refl
  changed_length f (suc n) [] = refl
  changed_length f (suc n) (d ∷ ds) = ap suc (changed_length f n ds)

  pub changed_other : (f : Deviation → Deviation) (n : ℕ) (ds : List Deviation) (k : ℕ) → n ≤ k → get_or (changed f n ds) k z ≡ get_or ds k z
  unfolding changed
  changed_other f zero ds k h = refl
  changed_other f (suc n) [] k h = refl
  changed_other f (suc n) (d ∷ ds) zero h = absurd (omega arith)
  changed_other f (suc n) (d ∷ ds) (suc k) h = changed_other f n ds k (omega arith)

  pub changed_held : (P : Deviation → Type 0) (f : Deviation → Deviation) → ((d : Deviation) → P d → P (f d)) → (n : ℕ) (ds : List Deviation) (k : ℕ) → P (get_or ds k z) → P (get_or (changed f n ds) k z)
  unfolding changed
  changed_held P f s zero ds k p = p
  changed_held P f s (suc n) [] k p = p
  changed_held P f s (suc n) (d ∷ ds) zero p = s d p
  changed_held P f s (suc n) (d ∷ ds) (suc k) p = changed_held P f s n ds k p

  stepped_length : (f : Deviation → Float → Deviation) (n : ℕ) (ds : List Deviation) (xs : List Float) → length (stepped f n ds xs) ≡ length ds
  unfolding stepped
  stepped_length f zero ds xs = refl
  stepped_length f (suc n) [] xs = refl
  stepped_length f (suc n) (d ∷ ds) [] = refl
  stepped_length f (suc n) (d ∷ ds) (x ∷ xs) = ap suc (stepped_length f n ds xs)

  stepped_other : (f : Deviation → Float → Deviation) (n : ℕ) (ds : List Deviation) (xs : List Float) (k : ℕ) → n ≤ k → get_or (stepped f n ds xs) k z ≡ get_or ds k z
  unfolding stepped
  stepped_other f zero ds xs k h = refl
  stepped_other f (suc n) [] xs k h = refl
  stepped_other f (suc n) (d ∷ ds) [] k h = refl
  stepped_other f (suc n) (d ∷ ds) (x ∷ xs) zero h = absurd (omega arith)
  stepped_other f (suc n) (d ∷ ds) (x ∷ xs) (suc k) h = stepped_other f n ds xs k (omega arith)

  stepped_held : (P : Deviation → Type 0) (f : Deviation → Float → Deviation) → ((d : Deviation) (x : Float) → P d → P (f d x)) → (n : ℕ) (ds : List Deviation) (xs : List Float) (k : ℕ)
      → P (get_or ds k z) → P (get_or (stepped f n ds xs) k z)
  unfolding stepped
  stepped_held P f s zero ds xs k p = p
  stepped_held P f s (suc n) [] xs k p = p
  stepped_held P f s (suc n) (d ∷ ds) [] k p = p
  stepped_held P f s (suc n) (d ∷ ds) (x ∷ xs) zero p = s d x p
  stepped_held P f s (suc n) (d ∷ ds) (x ∷ xs) (suc k) p = stepped_held P f s n ds xs k p

changed_list : (n : ℕ) (ds : List Deviation) → ListFits n ds → ListFits n (changed reset n ds)
changed_list n ds f = record {
  room = changed_length (fresh zero64) reset n ds ∙ f.room;
  held = λ (k : ℕ) (h : k < n). changed_held (fresh zero64) DeviationFits reset reset_fits n ds k (f.held k h);
  rest = λ (k : ℕ) (h : n ≤ k). changed_other (fresh zero64) reset n ds k h ∙ f.rest k h;
}

stepped_list : (n : ℕ) (ds : List Deviation) (xs : List Float) → ListFits n ds → ListFits n (stepped counted n ds xs)
stepped_list n ds xs f = record {
  room = stepped_length (fresh zero64) counted n ds xs ∙ f.room;
  held = λ (k : ℕ) (h : k < n). stepped_held (fresh zero64) DeviationFits counted counted_fits n ds xs k (f.held k h);
  rest = λ (k : ℕ) (h : n ≤ k). stepped_other (fresh zero64) counted n ds xs k h ∙ f.rest k h;
}

entries_are : (auto : Bool) (base : ℕ) → auto ≡ true → base ≤ 16 → entries auto base ≡ base
unfolding entries
entries_are auto base e few = rw (e, le-leb base 16 few)

module _ (auto : Bool) (base : ℕ) (ds : List Deviation) (e : auto ≡ true) (few : base ≤ 16) (f : ListFits (entries auto base) ds) where
  whole : ListFits base ds
  whole = subst (λ (n : ℕ). ListFits n ds) (entries_are auto base e few) f

  reset_list : ListFits (entries auto base) (changed reset base ds)
  reset_list = subst (λ (n : ℕ). ListFits n (changed reset base ds)) (sym (entries_are auto base e few)) (changed_list base ds whole)

  count_list : (xs : List Float) → ListFits (entries auto base) (stepped counted base ds xs)
  count_list xs = subst (λ (n : ℕ). ListFits n (stepped counted base ds xs)) (sym (entries_are auto base e few)) (stepped_list base ds xs whole)

-- ---- states
with_run_lem : (s : PredictorCorrector) (n : ℕ) (us vs : List Deviation) → StateFits s → n < 0x1_0000_0000 → ListFits (entries s.auto_adjust s.base_dimension) us
    → ListFits (entries s.auto_adjust s.base_dimension) vs → StateFits (with_run s n us vs)
with_run_lem s n us vs f h p q = record { thresholder = f.thresholder; run = h; base = f.base; actual = p; expected = q }

pub with_thresholder_lem : (s : PredictorCorrector) (t : BasicThresholder) → StateFits s → ThresholderFits t → StateFits (with_thresholder s t)
with_thresholder_lem s t f h = record { thresholder = h; run = f.run; base = f.base; actual = f.actual; expected = f.expected }

ended_fits : (s : PredictorCorrector) → StateFits s → StateFits (run_ended s)
unfolding run_ended
ended_fits s f = go (s.auto_adjust && leb s.base_dimension 16) refl
  where
    go : (c : Bool) → (s.auto_adjust && leb s.base_dimension 16) ≡ c
        → StateFits (cond c (with_run s 0 (changed reset s.base_dimension s.deviations_actual) (changed reset s.base_dimension s.deviations_expected)) s)
    go true h =
        let p = both s.auto_adjust (leb s.base_dimension 16) h in
        let few = leb-true s.base_dimension 16 p.1 in
        with_run_lem s 0 _ _ f (omega arith) (reset_list _ _ _ p.0 few f.actual) (reset_list _ _ _ p.0 few f.expected)
    go false h = f

pub adjusted_fits : (s : PredictorCorrector) (point : List Float) → StateFits s → StateFits (auto_adjusted s point)
unfolding auto_adjusted
adjusted_fits s point f = go (s.auto_adjust && (ltb 0 s.run_length && (leb s.run_length count_limit && row_fits s.base_dimension s.deviations_actual point))) refl
  where
    go : (c : Bool) → (s.auto_adjust && (ltb 0 s.run_length && (leb s.run_length count_limit && row_fits s.base_dimension s.deviations_actual point))) ≡ c
        → StateFits (cond c (with_run s (longer_run s.run_length) (stepped counted s.base_dimension s.deviations_actual point) s.deviations_expected) s)
    go true h =
        let p = both s.auto_adjust _ h in
        let q = both (ltb 0 s.run_length) _ p.1 in
        let row = fits_within s.base_dimension s.deviations_actual point (both (leb s.run_length count_limit) _ q.1).1 in
        with_run_lem s _ _ _ f (longer_small s.run_length f.run) (count_list _ _ _ p.0 row.0 f.actual point) f.expected
    go false h = f

candidate_fits : (s : PredictorCorrector) (xs ys : List Float) → StateFits s → StateFits (candidate_counted s xs ys)
unfolding candidate_counted
candidate_fits s xs ys f = go (s.auto_adjust && (row_fits s.base_dimension s.deviations_actual xs && row_fits s.base_dimension s.deviations_expected ys)) refl
  where
    go : (c : Bool) → (s.auto_adjust && (row_fits s.base_dimension s.deviations_actual xs && row_fits s.base_dimension s.deviations_expected ys)) ≡ c
        → StateFits (cond c (with_run s s.run_length (stepped counted s.base_dimension s.deviations_actual xs) (stepped counted s.base_dimension s.deviations_expected ys)) s)
    go true h =
        let p = both s.auto_adjust _ h in
        let row = fits_within s.base_dimension s.deviations_actual xs (both (row_fits s.base_dimension s.deviations_actual xs) _ p.1).0 in
        with_run_lem s _ _ _ f f.run (count_list _ _ _ p.0 row.0 f.actual xs) (count_list _ _ _ p.0 row.0 f.expected ys)
    go false h = f

with_fits : (c : Bool) (s : PredictorCorrector) (xs ys : List Float) → StateFits s → StateFits (candidate_with c s xs ys)
unfolding candidate_with
with_fits true s xs ys f = candidate_fits s xs ys f
with_fits false s xs ys f = f

grown_fits : (s : PredictorCorrector) → StateFits s → StateFits (run_grown s)
unfolding run_grown
grown_fits s f = with_run_lem s _ _ _ f (longer_small s.run_length f.run) f.actual f.expected

module _ (r : Reading) (l : LastDescriptor) (b : Lent) (h : T (fits binary32 r.score)) where
  entered_fits : (s : PredictorCorrector) (x : Float) → StateFits s → StateFits (entered s r l x)
  unfolding entered Exits.update_score
  entered_fits s x f = with_thresholder_lem s _ f (score_fits s.basic_thresholder r.scoring_strategy r.score x l.scoring_strategy l.score h f.thresholder)

  branch_fits : (s : PredictorCorrector) (x : Float) → StateFits s → StateFits (candidate_state r l b s x)
  unfolding candidate_state
  branch_fits s x f = with_fits _ s _ _ f

  mode_fits : (s : PredictorCorrector) (x : Float) (drift : Bool) → StateFits s → StateFits (cond drift (candidate_state r l b s x) (auto_adjusted s b.point))
  mode_fits s x true f = branch_fits s x f
  mode_fits s x false f = adjusted_fits s b.point f

  -- The state after any verdict.
  pub after_fits : (s : PredictorCorrector) (v : Verdict) → StateFits s → StateFits (after r l b s v)
  unfolding after
  after_fits s (Quiet t) f = entered_fits (run_ended s) _ (ended_fits s f)
  after_fits s (Corrected t m) f = entered_fits (cond (is_drift_mode m) (candidate_state r l b s t) (auto_adjusted s b.point)) _ (mode_fits s t (is_drift_mode m) f)
  after_fits s (Raised t g) f = entered_fits (run_grown (candidate_state r l b s t)) _ (grown_fits (candidate_state r l b s t) (branch_fits s t f))
  after_fits s Skipped f = f
