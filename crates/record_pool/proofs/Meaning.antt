-- The test is the rules in words. Assumes nothing.
use mathlib.Core.Path.{◌≡◌, refl}
use mathlib.Core.Bool.{Bool, true, ◌&&◌}
use mathlib.Core.List.{List, map}
use Prim.Native.Nat.{ℕ, zero, suc, ◌+◌, ◌≤◌, ◌<◌}
use native.Mathlib.Omega.{arith}
use lib.Dec.{eqb, leb}
use lib.ListN.{length}
use borrow.Author.Tests.{eqb-true, eq-eqb, leb-true, le-leb}
use Rattle.record_pool.specs.Lists.{occ, every, distinct, down_from}
use Rattle.record_pool.specs.Chains.{chain, is_record, is_number, Rules, rules_hold}
use Rattle.record_pool.proofs.Occ.{and_left, and_right, and_both, every_true, true_every, distinct_once, once_distinct, down_has, down_within, at_most}
use Rattle.record_pool.proofs.Chaining.{walked, walking}

pub record_true : (i : ℕ) → is_record i ≡ true → (1 ≤ i) × (i ≤ 30)
unfolding is_record
record_true i h = (leb-true 1 i (and_left (leb 1 i) (leb i 30) h), leb-true i 30 (and_right (leb 1 i) (leb i 30) h))

pub true_record : (i : ℕ) → 1 ≤ i → i ≤ 30 → is_record i ≡ true
unfolding is_record
true_record i h k = and_both (leb 1 i) (leb i 30) (le-leb 1 i h) (le-leb i 30 k)

pub number_true : (n : ℕ) → is_number n ≡ true → (1 ≤ n) × (n ≤ 65535)
unfolding is_number
number_true n h = (leb-true 1 n (and_left (leb 1 n) (leb n 65535) h), leb-true n 65535 (and_right (leb 1 n) (leb n 65535) h))

pub true_number : (n : ℕ) → 1 ≤ n → n ≤ 65535 → is_number n ≡ true
unfolding is_number
true_number n h k = and_both (leb 1 n) (leb n 65535) (le-leb 1 n h) (le-leb n 65535 k)

-- Seven tests at once.
pub record Seven (a b c d e f g : Bool) : Type 0 where
  pub t1 : a ≡ true
  pub t2 : b ≡ true
  pub t3 : c ≡ true
  pub t4 : d ≡ true
  pub t5 : e ≡ true
  pub t6 : f ≡ true
  pub t7 : g ≡ true

seven : (a b c d e f g : Bool) → a && b && c && d && e && f && g ≡ true → Seven a b c d e f g
seven a b c d e f g h =
    let h6 = and_left (a && b && c && d && e && f) g h in
    let h5 = and_left (a && b && c && d && e) f h6 in
    let h4 = and_left (a && b && c && d) e h5 in
    let h3 = and_left (a && b && c) d h4 in
    let h2 = and_left (a && b) c h3 in
    record {
      t1 = and_left a b h2;
      t2 = and_right a b h2;
      t3 = and_right (a && b) c h3;
      t4 = and_right (a && b && c) d h4;
      t5 = and_right (a && b && c && d) e h5;
      t6 = and_right (a && b && c && d && e) f h6;
      t7 = and_right (a && b && c && d && e && f) g h;
    }

all_seven : (a b c d e f g : Bool) → Seven a b c d e f g → a && b && c && d && e && f && g ≡ true
all_seven a b c d e f g s = rw (s.t1, s.t2, s.t3, s.t4, s.t5, s.t6, s.t7)

-- What the test says of two lists, whatever chains they are.
pub record Told (count : ℕ) (number : ℕ → ℕ) (flags : ℕ → Bool) (us fs : List ℕ) : Type 0 where
  pub counted : count ≡ length us
  pub once : (i : ℕ) → 1 ≤ i → i ≤ 30 → occ i us + occ i fs ≡ 1
  pub within : (i : ℕ) → 0 < occ i us + occ i fs → (1 ≤ i) × (i ≤ 30)
  pub ranged : (i : ℕ) → 0 < occ i us → (1 ≤ number i) × (number i ≤ 65535)
  pub apart : (n : ℕ) → occ n (map number us) ≤ 1
  pub flagged : (i : ℕ) → 0 < occ i us → flags i ≡ true

module _ (count : ℕ) (number : ℕ → ℕ) (flags : ℕ → Bool) (us fs : List ℕ) where
  abbrev once_here : ℕ → Bool
  once_here i = eqb (occ i us + occ i fs) 1

  abbrev Tests : Type 0
  Tests = Seven (every is_record us) (every is_record fs) (every once_here (down_from 30)) (eqb count (length us)) (every (λ i. is_number (number i)) us)
      (distinct (map number us)) (every flags us)

  tests : rules_hold count number flags us fs ≡ true → Tests
  unfolding rules_hold
  tests h = seven _ _ _ _ _ _ _ h

  hold : Tests → rules_hold count number flags us fs ≡ true
  unfolding rules_hold
  hold t = all_seven _ _ _ _ _ _ _ t

  within_told : every is_record us ≡ true → every is_record fs ≡ true → (i : ℕ) → 0 < occ i us + occ i fs → (1 ≤ i) × (i ≤ 30)
  within_told a b i k = go (occ i us) refl
    where
      go : (n : ℕ) → occ i us ≡ n → (1 ≤ i) × (i ≤ 30)
      go zero e = record_true i (every_true is_record fs b i (omega arith))
      go (suc n) e = record_true i (every_true is_record us a i (omega arith))

  pub told : rules_hold count number flags us fs ≡ true → Told count number flags us fs
  told h =
      let t = tests h in
      record {
        counted = eqb-true count (length us) t.t4;
        once = λ i p q. eqb-true (occ i us + occ i fs) 1 (every_true once_here (down_from 30) t.t3 i (down_has 30 i p q));
        within = within_told t.t1 t.t2;
        ranged = λ i k. number_true (number i) (every_true (λ i. is_number (number i)) us t.t5 i k);
        apart = distinct_once (map number us) t.t6;
        flagged = every_true flags us t.t7;
      }

  pub tell : Told count number flags us fs → rules_hold count number flags us fs ≡ true
  tell t = hold (record {
    t1 = true_every is_record us (λ i k. let w = t.within i (omega arith) in true_record i w.0 w.1);
    t2 = true_every is_record fs (λ i k. let w = t.within i (omega arith) in true_record i w.0 w.1);
    t3 = true_every once_here (down_from 30) (λ i k. let w = down_within 30 i k in eq-eqb (occ i us + occ i fs) 1 (t.once i w.0 w.1));
    t4 = eq-eqb count (length us) t.counted;
    t5 = true_every (λ i. is_number (number i)) us (λ i k. let w = t.ranged i k in true_number (number i) w.0 w.1);
    t6 = once_distinct (map number us) t.apart;
    t7 = true_every flags us t.flagged;
  })

  -- No chain is longer than thirty.
  at_most_once : Told count number flags us fs → (i : ℕ) → occ i us + occ i fs ≤ 1
  at_most_once t i = go (occ i us + occ i fs) refl
    where
      go : (n : ℕ) → occ i us + occ i fs ≡ n → occ i us + occ i fs ≤ 1
      go zero e = omega arith
      go (suc n) e = let w : (1 ≤ i) × (i ≤ 30) = t.within i (omega arith) in omega (arith, t.once i w.0 w.1)

  pub used_short : Told count number flags us fs → length us ≤ 30
  used_short t = at_most 30 us (λ i k. t.within i (omega arith)) (λ i. omega (arith, at_most_once t i))

  pub free_short : Told count number flags us fs → length fs ≤ 30
  free_short t = at_most 30 fs (λ i k. t.within i (omega arith)) (λ i. omega (arith, at_most_once t i))

module _ (count used free : ℕ) (next number : ℕ → ℕ) (flags : ℕ → Bool) where
  -- From the test of the walked lists to the words, and back from the words of any two lists.
  pub means : rules_hold count number flags (chain 31 next used) (chain 31 next free) ≡ true
      → Rules count used free next number flags (chain 31 next used) (chain 31 next free)
  means h =
      let t = told count number flags (chain 31 next used) (chain 31 next free) h in
      record {
        walk_used = walked 31 next used (omega (arith, used_short count number flags (chain 31 next used) (chain 31 next free) t));
        walk_free = walked 31 next free (omega (arith, free_short count number flags (chain 31 next used) (chain 31 next free) t));
        counted = t.counted;
        once = t.once;
        within = t.within;
        ranged = t.ranged;
        apart = t.apart;
        flagged = t.flagged;
      }

  module _ (us fs : List ℕ) (r : Rules count used free next number flags us fs) where
    abbrev as_told : Told count number flags us fs
    as_told = record { counted = r.counted; once = r.once; within = r.within; ranged = r.ranged; apart = r.apart; flagged = r.flagged }

    pub used_is : chain 31 next used ≡ us
    used_is = walking 31 next used us r.walk_used (omega (arith, used_short count number flags us fs as_told))

    pub free_is : chain 31 next free ≡ fs
    free_is = walking 31 next free fs r.walk_free (omega (arith, free_short count number flags us fs as_told))

    pub tested : rules_hold count number flags (chain 31 next used) (chain 31 next free) ≡ true
    tested = rw (used_is, free_is) (tell count number flags us fs as_told)
