-- Document 01's entry checks of a reading: one test for each refusal, and the answer, which asks them in the order of their numbers.
use Rattle.std.specs.Prelude.{ℕ, ◌*◌, ◌%◌, ◌/◌, Bool, true, false, cond, ◌&&◌, List, [], ◌∷◌, leb, ltb, eqb, length, Float, Ok, Err}
use Rattle.std.specs.Float.Ieee.Scale.{finite}
use Rattle.types.specs.declared.Refusal.TheVariants.{Range, Length, NotFinite, ValuesSeen, Count}
use Rattle.descriptor.specs.Lent.{Lent}
use Rattle.descriptor.specs.declared.Reading.{Reading}
use Rattle.descriptor.specs.declared.LastDescriptor.{LastDescriptor}
use Rattle.descriptor.specs.declared.Lengths.{Lengths}
use Rattle.types.specs.Refusals.{Answer}

unfoldable pub every : {A : Type 0} → (A → Bool) → List A → Bool
every f [] = true
every f (x ∷ xs) = f x && every f xs

-- Neither NaN nor an infinity among them.
abbrev pub all_finite : List Float → Bool
all_finite xs = every finite xs

-- Shingle size 1 to 64, base dimension 1 to 16.
unfoldable pub sizes_ok : ℕ → ℕ → Bool
sizes_ok shingle base = leb 1 shingle && (leb shingle 64 && (leb 1 base && leb base 16))

-- D = shingle × base.
unfoldable pub dimension : ℕ → ℕ → ℕ
dimension shingle base = cond (sizes_ok shingle base) (shingle * base) 0

-- Refusal 2 otherwise: both sizes in range, and the base is the state's.
unfoldable pub range_ok : ℕ → ℕ → ℕ → Bool
range_ok shingle base state_base = sizes_ok shingle base && eqb base state_base

-- The lengths of the lent buffers, and of the three that are written.
unfoldable pub lengths_of : Lent → ℕ → ℕ → ℕ → Lengths
lengths_of b expected out_high out_low = record {
  point = length b.point;
  scale = length b.scale;
  shift = length b.shift;
  difference_deviations = length b.difference_deviations;
  last_expected = length b.last_expected;
  last_anomalous = length b.last_anomalous;
  high = length b.high;
  low = length b.low;
  median = length b.median;
  ideal_high = length b.ideal_high;
  ideal_low = length b.ideal_low;
  neighbours = length b.neighbours;
  expected = expected;
  out_high = out_high;
  out_low = out_low;
}

-- D long: the point, the two attributions, the median, and the three that are written.
unfoldable pub points_ok : ℕ → Lengths → Bool
points_ok d n =
    eqb n.point d
    && (eqb n.high d
    && (eqb n.low d
    && (eqb n.median d
    && (eqb n.ideal_high d
    && (eqb n.ideal_low d && (eqb n.expected d && (eqb n.out_high d && eqb n.out_low d)))))))

-- As long as the base: scale, shift and difference deviations.
unfoldable pub rows_ok : ℕ → Lengths → Bool
rows_ok base n = eqb n.scale base && (eqb n.shift base && eqb n.difference_deviations base)

-- 0 to 256 whole points.
unfoldable pub neighbours_ok : ℕ → ℕ → Bool
neighbours_ok d n = cond (eqb d 0) false (eqb (n % d) 0 && leb (n / d) 256)

-- The last anomaly's two points, behind its yes/no.
unfoldable pub last_points_ok : Bool → ℕ → ℕ → ℕ → Bool
last_points_ok has_anomaly d expected anomalous = cond has_anomaly (eqb expected d && eqb anomalous d) true

-- Refusal 3 otherwise.
unfoldable pub lengths_ok : Reading → LastDescriptor → Lengths → Bool
lengths_ok r l n =
    let d = dimension r.shingle_size r.base_dimension in
    points_ok d n
    && (rows_ok r.base_dimension n
    && (neighbours_ok d n.neighbours && last_points_ok l.has_anomaly d n.last_expected n.last_anomalous))

-- The numbers of the reading and of the last descriptor.
unfoldable pub numbers_finite : Reading → LastDescriptor → Bool
numbers_finite r l = finite r.score && (finite r.corrected_score && (finite l.score && finite l.threshold))

-- The last anomaly's score and points, behind its yes/no.
unfoldable pub last_finite : LastDescriptor → List Float → List Float → Bool
last_finite l expected anomalous =
    cond l.has_anomaly (finite l.anomaly.score && (all_finite expected && all_finite anomalous)) true

-- Refusal 4 otherwise: every lent float is finite.
unfoldable pub finite_ok : Reading → LastDescriptor → Lent → Bool
finite_ok r l b =
    numbers_finite r l
    && (last_finite l b.last_expected b.last_anomalous
    && (all_finite b.point
    && (all_finite b.scale
    && (all_finite b.shift
    && (all_finite b.difference_deviations
    && (all_finite b.high
    && (all_finite b.low
    && (all_finite b.median
    && (all_finite b.ideal_high && (all_finite b.ideal_low && all_finite b.neighbours))))))))))

-- Later than the last anomaly, behind its yes/no.
unfoldable pub is_later : ℕ → Bool → ℕ → Bool
is_later seen has_anomaly last_seen = cond has_anomaly (ltb last_seen seen) true

-- Refusal 5 otherwise: values_seen 1 to 16,777,216, and later than the last anomaly's.
unfoldable pub seen_ok : ℕ → Bool → ℕ → Bool
seen_ok seen has_anomaly last_seen = leb 1 seen && (leb seen 16777216 && is_later seen has_anomaly last_seen)

-- The answer to a reading: the smallest number of the table that applies. Of the three buffers that are written only the lengths are looked at; countsOk is
-- refusal 6's test, of the state.
unfoldable pub answer_of : Reading → LastDescriptor → Lent → (expected out_high out_low state_base : ℕ) → Bool → Answer
answer_of r l b expected out_high out_low state_base counts_ok =
    cond (range_ok r.shingle_size r.base_dimension state_base)
    (cond (lengths_ok r l (lengths_of b expected out_high out_low))
    (cond (finite_ok r l b)
    (cond (seen_ok r.values_seen l.has_anomaly l.anomaly.values_seen)
    (cond counts_ok (Ok tt) (Err Count))
    (Err ValuesSeen))
    (Err NotFinite))
    (Err Length))
    (Err Range)
