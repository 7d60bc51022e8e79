-- A run's few scores never reach the limit of a count, so none is refused: the watch is the judge that counts every score. Assumes nothing.
use Rattle.std.specs.Prelude.{Ok, Err}
use mathlib.Core.Path.{◌≡◌, refl, ap, ◌∙◌}
use mathlib.Core.Bool.{Bool, true, false, cond}
use mathlib.Core.List.{List, [], ◌∷◌}
use Prim.Native.Nat.{ℕ, suc, ◌+◌, ◌≤◌}
use native.Mathlib.Omega.{arith}
use lib.IntN.{ℤ, pos, negsuc, ◌+ℤ◌}
use lib.ListN.{length}
use lib.Ieee.{Float, eq}
use borrow.Author.Tests.{le-leb}
use Rattle.ieee.specs.F32.{◌>₃₂◌}
use Rattle.deviation.specs.declared.Deviation.{Deviation}
use Rattle.types.specs.declared.Refusal.TheVariants.{Count}
use Rattle.deviation.specs.Statistics.{counted as one_counted, update, next, countable, one_more}
use Rattle.deviation.specs.Const.{count_limit}
use Rattle.basicthresholder.specs.Const.{zero32}
use Rattle.basicthresholder.specs.declared.BasicThresholder.{BasicThresholder}
use Rattle.basicthresholder.specs.Updates.{counted_gap, counted_over, primary_counted, counts_ok, updated, update_primary}
use Rattle.score_kinds.specs.Watching.{settings, kind_of, counted}
use Rattle.score_rows.specs.Sheet.{Reading, kinds}
use Rattle.ledger.specs.Statement.{Judge, Told, Shown, told, showed}
use Rattle.watch_ledger.specs.Statement.{told_of, shown_at, shown_of}
use Rattle.types.specs.declared.Updated.{Updated}

-- A watch of scores as a judge: no reading is refused.
abbrev pub watch : Judge
watch = record {
  State = BasicThresholder;
  Reading = Reading;
  refused = λ s r. false;
  score = λ r. r.score;
  next = λ s r. counted s r.score;
  shown = λ s r. shown_at (kind_of s r.score);
}

-- It is told what a sheet tells, and shows what a sheet shows.
pub same_told_of : (s : BasicThresholder) (rs : List Reading) → told watch s rs ≡ told_of rs
same_told_of s [] = refl
same_told_of s (r ∷ rs) = ap (λ (ts : List Told). record { refused = false; score = r.score } ∷ ts) (same_told_of (counted s r.score) rs)

pub same_shown_of : (s : BasicThresholder) (rs : List Reading) → showed watch s rs ≡ shown_of (kinds s rs)
unfolding kinds
same_shown_of s [] = refl
same_shown_of s (r ∷ rs) = ap (λ (vs : List Shown). shown_at (kind_of s r.score) ∷ vs) (same_shown_of (counted s r.score) rs)

-- The judge that counts every score but zeros.
abbrev pub steady : Judge
steady = record {
  State = BasicThresholder;
  Reading = Reading;
  refused = watch.refused;
  score = watch.score;
  next = λ s r. cond (eq r.score zero32) s (primary_counted s r.score);
  shown = watch.shown;
}

-- A count of at most k.
abbrev AtMost : ℕ → ℤ → Type 0
AtMost k (pos n) = n ≤ k
AtMost k (negsuc n) = ⊥

more : (k : ℕ) (z : ℤ) → AtMost k z → AtMost (suc k) z
more k (pos n) h = omega arith
more k (negsuc n) h = absurd h

plus_one : (k : ℕ) (z : ℤ) → AtMost k z → AtMost (suc k) (z +ℤ pos 1)
plus_one k (pos n) h = omega arith
plus_one k (negsuc n) h = absurd h

either : (t : Bool) (k : ℕ) (x y : ℤ) → AtMost k x → AtMost k y → AtMost k (cond t x y)
either true k x y f g = f
either false k x y f g = g

one_more_lem : (k : ℕ) (z : ℤ) → AtMost k z → AtMost (suc k) (one_more z)
unfolding one_more
one_more_lem k z h = either (countable z) (suc k) (z +ℤ pos 1) z (plus_one k z h) (more k z h)

score_more : (k : ℕ) (d : Deviation) (x : Float) → AtMost k d.count → AtMost (suc k) (one_counted d x).count
unfolding update next
score_more k d x h = go (countable d.count)
  where
    go : (t : Bool) → AtMost (suc k) (cond {A = Updated Deviation} t (record { answer = Ok tt; state = next d x }) (record { answer = Err Count; state = d })).state.count
    go true = plus_one k d.count h
    go false = more k d.count h

gap_more : (k : ℕ) (d : Deviation) (gap : Float) → AtMost k d.count → AtMost (suc k) (counted_gap d gap).count
unfolding counted_gap
gap_more k d gap h = go (gap >₃₂ zero32)
  where
    go : (t : Bool) → AtMost (suc k) (cond {A = Deviation} t (one_counted d gap) d).count
    go true = score_more k d gap h
    go false = more k d.count h

-- All four counts of a thresholder are at most k.
pub record Few (k : ℕ) (s : BasicThresholder) : Type 0 where
  pub all : AtMost k s.count
  pub primary : AtMost k s.primary_deviation.count
  pub secondary : AtMost k s.secondary_deviation.count
  pub third : AtMost k s.threshold_deviation.count

few_next : (k : ℕ) (s : BasicThresholder) (x : Float) → Few k s → Few (suc k) (primary_counted s x)
unfolding primary_counted counted_over
few_next k s x f = record {
  all = one_more_lem k s.count f.all;
  primary = score_more k s.primary_deviation x f.primary;
  secondary = more k s.secondary_deviation.count f.secondary;
  third = gap_more k s.threshold_deviation _ f.third;
}

few_more : (k : ℕ) (s : BasicThresholder) → Few k s → Few (suc k) s
few_more k s f = record {
  all = more k s.count f.all;
  primary = more k s.primary_deviation.count f.primary;
  secondary = more k s.secondary_deviation.count f.secondary;
  third = more k s.threshold_deviation.count f.third;
}

can_count : (k : ℕ) (z : ℤ) → k ≤ 65536 → AtMost k z → countable z ≡ true
unfolding countable
can_count k (pos n) h a = le-leb n count_limit (omega arith)
can_count k (negsuc n) h a = absurd a

few_ok : (k : ℕ) (s : BasicThresholder) → k ≤ 65536 → Few k s → counts_ok s ≡ true
unfolding counts_ok
few_ok k s h f =
    simp (can_count k s.count h f.all, can_count k s.primary_deviation.count h f.primary, can_count k s.secondary_deviation.count h f.secondary, can_count k s.threshold_deviation.count h f.third)

pub few_settings : Few 0 settings
unfolding settings
few_settings = record { all = omega arith; primary = omega arith; secondary = omega arith; third = omega arith }

-- So both judges go on alike.
module _ (k : ℕ) (s : BasicThresholder) (h : k ≤ 65536) (f : Few k s) where
  same_next : (r : Reading) → watch.next s r ≡ steady.next s r
  unfolding counted update_primary updated
  same_next r = simp (few_ok k s h f)

  next_few : (r : Reading) → Few (suc k) (steady.next s r)
  next_few r = go (eq r.score zero32)
    where
      go : (t : Bool) → Few (suc k) (cond t s (primary_counted s r.score))
      go true = few_more k s f
      go false = few_next k s r.score f

pub same_told : (rs : List Reading) (k : ℕ) (s : BasicThresholder) → k + length rs ≤ 65536 → Few k s → told watch s rs ≡ told steady s rs
same_told [] k s h f = refl
same_told (r ∷ rs) k s h f =
    ap (λ (ts : List Told). record { refused = false; score = r.score } ∷ ts)
    (ap (λ (u : BasicThresholder). told watch u rs) (same_next k s (omega arith) f r) ∙ same_told rs (suc k) (steady.next s r) (omega arith) (next_few k s (omega arith) f r))

pub same_showed : (rs : List Reading) (k : ℕ) (s : BasicThresholder) → k + length rs ≤ 65536 → Few k s → showed watch s rs ≡ showed steady s rs
same_showed [] k s h f = refl
same_showed (r ∷ rs) k s h f =
    ap (λ (vs : List Shown). watch.shown s r ∷ vs)
    (ap (λ (u : BasicThresholder). showed watch u rs) (same_next k s (omega arith) f r) ∙ same_showed rs (suc k) (steady.next s r) (omega arith) (next_few k s (omega arith) f r))
