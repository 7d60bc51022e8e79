-- The steps of the two walks, and what their ends decide. Assumes nothing.
use mathlib.Core.Path.{◌≡◌, refl, sym, ap, ap₂, ◌∙◌}
use mathlib.Core.Bool.{Bool, true, false, cond, ◌&&◌}
use mathlib.Core.List.{List, [], ◌∷◌, ◌++◌, map}
use Prim.Native.Nat.{ℕ, zero, suc, ◌+◌, ◌≤◌, ◌<◌}
use native.Mathlib.Omega.{arith}
use native.Mathlib.Numerals.{add-one}
use lib.Dec.{eqb, leb, ltb}
use lib.ListN.{length, get_or, take, set, replicate, length-append, get_or-replicate}
use lib.Seq.{get_or-set_same, get_or-set_other, take-suc-set}
use borrow.Author.Tests.{eqb-true, eqb-false, eq-eqb, ltb-true, lt-ltb, leb-true, le-leb}
use Rattle.pool_links.specs.Links.{counts_agree}
use Rattle.record_pool.specs.Lists.{same, occ, distinct}
use Rattle.record_pool.specs.Chains.{Chained, is_number}
use Rattle.record_pool.specs.Pool.{count_of, first_used, first_free, next_at, number_at, flags_at, used_of, free_of, rules_ok}
use Rattle.record_pool.specs.Steps.{Leads, is_unmarked_at, is_unmarked, mark_place, is_sound, UsedWalk, FreeWalk, Both}
use Rattle.record_pool.proofs.Occ.{Either, equal, other, either, same_refl, and_left, and_right, and_both, occ_append, distinct_once, once_distinct, sum_full, full_length, at_most}
use Rattle.record_pool.proofs.Meaning.{number_true, true_number, used_short, free_short}
use Rattle.record_pool.proofs.Passing.{once_only}
use Rattle.record_pool.proofs.Passing.{passes_size, passes, passing}

-- ---- leading.
pub leads_more : (f : ℕ → ℕ) (i : ℕ) (xs : List ℕ) (at : ℕ) → 0 < at → Leads f i xs at → Leads f i (xs ++ at ∷ []) (f at)
leads_more f i [] at h l = (l, h, refl)
leads_more f i (x ∷ xs) at h l = (l.0, l.1, leads_more f (f x) xs at h l.2)

pub leads_end : (f : ℕ → ℕ) (i : ℕ) (xs : List ℕ) → Leads f i xs 0 → Chained f i xs
leads_end f i [] l = l
leads_end f i (x ∷ xs) l = (l.0, l.1, leads_end f (f x) xs l.2)

-- A whole chain begins with what has been walked of it.
pub leads_into : (f : ℕ → ℕ) (i : ℕ) (xs : List ℕ) (at : ℕ) (us : List ℕ) → Leads f i xs at → Chained f i us → (rest : List ℕ) × (us ≡ xs ++ rest) × Chained f at rest
leads_into f i [] at us l c = (us, refl, rw l at c)
leads_into f i (x ∷ xs) at [] l c = absurd (let e : i ≡ x = l.0 in let p : 0 < x = l.1 in omega arith)
leads_into f i (x ∷ xs) at (u ∷ us) l c =
    let same-one : u ≡ x = sym c.0 ∙ l.0 in
    let r = leads_into f (f x) xs at us l.2 (rw same-one at c.2) in
    (r.0, ap₂ (λ (a : ℕ) (b : List ℕ). a ∷ b) same-one r.1, r.2)

-- Where it goes on, the next record is one of the chain.
pub leads_next : (f : ℕ → ℕ) (i : ℕ) (xs : List ℕ) (at : ℕ) (us : List ℕ) → Leads f i xs at → Chained f i us → 0 < at
    → (rest : List ℕ) × (us ≡ xs ++ at ∷ rest)
leads_next f i xs at us l c h = let r = leads_into f i xs at us l c in step r.0 r.1 r.2
  where
    step : (rest : List ℕ) → us ≡ xs ++ rest → Chained f at rest → (rest : List ℕ) × (us ≡ xs ++ at ∷ rest)
    step [] e c = absurd (omega arith)
    step (y ∷ rest) e c = (rest, e ∙ ap (λ (n : ℕ). xs ++ n ∷ rest) (sym c.0))

-- Two chains from one record are the same.
pub chain_same : (f : ℕ → ℕ) (i : ℕ) (us vs : List ℕ) → Chained f i us → Chained f i vs → us ≡ vs
chain_same f i [] [] c d = refl
chain_same f i [] (v ∷ vs) c d = absurd (let a : i ≡ v = d.0 in let b : 0 < v = d.1 in let z : i ≡ 0 = c in omega arith)
chain_same f i (u ∷ us) [] c d = absurd (let a : i ≡ u = c.0 in let b : 0 < u = c.1 in let z : i ≡ 0 = d in omega arith)
chain_same f i (u ∷ us) (v ∷ vs) c d =
    let e : v ≡ u = sym d.0 ∙ c.0 in
    ap₂ (λ (a : ℕ) (b : List ℕ). a ∷ b) (sym e) (chain_same f (f u) us vs c.2 (rw e at d.2))

-- ---- tests.
pub fresh_true : (seen : List ℕ) (at n : ℕ) → is_unmarked_at seen at n ≡ true → (n < 30) × (at ≤ 30) × (get_or seen at 0 ≡ 0)
unfolding is_unmarked_at is_unmarked
fresh_true seen at n h =
    let a = and_left (ltb n 30 && leb at 30) (eqb (get_or seen at 0) 0) h in (
      ltb-true n 30 (and_left (ltb n 30) (leb at 30) a),
      leb-true at 30 (and_right (ltb n 30) (leb at 30) a),
      eqb-true (get_or seen at 0) 0 (and_right (ltb n 30 && leb at 30) (eqb (get_or seen at 0) 0) h),
    )

pub true_fresh : (seen : List ℕ) (at n : ℕ) → n < 30 → at ≤ 30 → get_or seen at 0 ≡ 0 → is_unmarked_at seen at n ≡ true
unfolding is_unmarked_at is_unmarked
true_fresh seen at n a b c = and_both (ltb n 30 && leb at 30) (eqb (get_or seen at 0) 0) (and_both (ltb n 30) (leb at 30) (lt-ltb n 30 a) (le-leb at 30 b)) (eq-eqb _ 0 c)

pub sound_true : (xs : List ℕ) (at : ℕ) → is_sound xs at ≡ true → (1 ≤ number_at xs at) × (number_at xs at ≤ 65535) × (flags_at xs at ≡ true)
unfolding is_sound
sound_true xs at h =
    let n = number_true (number_at xs at) (and_left (is_number (number_at xs at)) (flags_at xs at) h) in
    (n.0, n.1, and_right (is_number (number_at xs at)) (flags_at xs at) h)

pub true_sound : (xs : List ℕ) (at : ℕ) → 1 ≤ number_at xs at → number_at xs at ≤ 65535 → flags_at xs at ≡ true → is_sound xs at ≡ true
unfolding is_sound
true_sound xs at a b c = and_both (is_number (number_at xs at)) (flags_at xs at) (true_number (number_at xs at) a b) c

pub refuted : (b : Bool) → (b ≡ true → ⊥) → b ≡ false
refuted true h = absurd (h refl)
refuted false h = refl

pub not_both : (b : Bool) → b ≡ true → b ≡ false → ⊥
not_both b p q = let z : ◌≡◌ {A = ℕ} 0 1 = sym (ap (λ (t : Bool). cond t 1 0) q) ∙ ap (λ (t : Bool). cond t 1 0) p ∙ refl in omega arith

-- ---- a mark more.
marks_more : (seen : List ℕ) (at : ℕ) (f : ℕ → ℕ) → length seen ≡ 31 → at ≤ 30 → f at ≡ 0 → ((j : ℕ) → j ≤ 30 → get_or seen j 0 ≡ f j)
    → (j : ℕ) → j ≤ 30 → get_or (set seen at 1) j 0 ≡ f j + same at j
marks_more seen at f l h z m j k = go (either at j)
  where
    go : Either at j → get_or (set seen at 1) j 0 ≡ f j + same at j
    go (equal p e) = ap (λ (n : ℕ). get_or (set seen at 1) n 0) (sym p) ∙ get_or-set_same seen at 1 0 (omega arith) ∙ omega (arith, ap f p)
    go (other p e) = get_or-set_other seen at j 1 0 (λ q. p (sym q)) ∙ omega (arith, m j k)

occ_last : (j at : ℕ) (us : List ℕ) → occ j (us ++ at ∷ []) ≡ occ j us + same at j
occ_last j at us = omega (arith, occ_append j us (at ∷ []))

map_last : (f : ℕ → ℕ) (us : List ℕ) (at : ℕ) → map f (us ++ at ∷ []) ≡ map f us ++ f at ∷ []
map_last f [] at = refl
map_last f (u ∷ us) at = ap (λ (l : List ℕ). f u ∷ l) (map_last f us at)

-- ---- the used walk.
module _ (xs : List ℕ) where
  pub used_begin : (seen numbers : List ℕ) → ((j : ℕ) → j ≤ 30 → get_or seen j 0 ≡ 0) → ((k : ℕ) → get_or numbers k 0 ≡ 0) → UsedWalk xs (first_used xs) 0 seen numbers []
  used_begin seen numbers z y = record {
    whole = refl;
    long = refl;
    marks = z;
    once = λ j. omega arith;
    within = λ j k. absurd (omega arith);
    images = refl;
    rest = λ k h. y k;
    ranged = λ j k. absurd (omega arith);
    flagged = λ j k. absurd (omega arith);
  }

  pub used_step : (at n : ℕ) (seen numbers us : List ℕ) → length seen ≡ 31 → length numbers ≡ 30 → 0 < at → is_unmarked_at seen at n ≡ true → is_sound xs at ≡ true
      → UsedWalk xs at n seen numbers us → UsedWalk xs (next_at xs at) (n + 1) (set seen at 1) (set numbers n (number_at xs at)) (us ++ at ∷ [])
  used_step at n seen numbers us ls ln h f s w =
      let image : take (n + 1) (set numbers n (number_at xs at)) ≡ map (number_at xs) (us ++ at ∷ []) =
      rw add-one (take-suc-set numbers n (number_at xs at) (omega (arith, fr.0))) ∙ ap (λ (l : List ℕ). l ++ number_at xs at ∷ []) w.images ∙ sym (map_last (number_at xs) us at) in
      record {
        whole = leads_more (next_at xs) (first_used xs) us at h w.whole;
        long = omega (arith, length-append us (at ∷ []), w.long);
        marks = λ j k. marks_more seen at (λ j. occ j us) ls fr.1 here w.marks j k ∙ sym (occ_last j at us);
        once = λ j. case_once j (either at j);
        within = λ j k. case_within j k (either at j);
        images = image;
        rest = λ k l. get_or-set_other numbers n k (number_at xs at) 0 (λ q. omega arith) ∙ w.rest k (omega arith);
        ranged = λ j k. case_ranged j k (either at j);
        flagged = λ j k. case_flagged j k (either at j);
      }
    where
      fr : (n < 30) × (at ≤ 30) × (get_or seen at 0 ≡ 0)
      fr = fresh_true seen at n f

      so : (1 ≤ number_at xs at) × (number_at xs at ≤ 65535) × (flags_at xs at ≡ true)
      so = sound_true xs at s

      here : occ at us ≡ 0
      here = sym (w.marks at fr.1) ∙ fr.2

      case_once : (j : ℕ) → Either at j → occ j (us ++ at ∷ []) ≤ 1
      case_once j (equal p e) = omega (arith, occ_last j at us, ap (λ (n : ℕ). occ n us) p, here)
      case_once j (other p e) = omega (arith, occ_last j at us, w.once j)

      case_within : (j : ℕ) → 0 < occ j (us ++ at ∷ []) → Either at j → (1 ≤ j) × (j ≤ 30)
      case_within j k (equal p e) = let b : at ≤ 30 = fr.1 in omega arith
      case_within j k (other p e) = w.within j (omega (arith, occ_last j at us))

      case_ranged : (j : ℕ) → 0 < occ j (us ++ at ∷ []) → Either at j → (1 ≤ number_at xs j) × (number_at xs j ≤ 65535)
      case_ranged j k (equal p e) = rw (sym p) (so.0, so.1)
      case_ranged j k (other p e) = w.ranged j (omega (arith, occ_last j at us))

      case_flagged : (j : ℕ) → 0 < occ j (us ++ at ∷ []) → Either at j → flags_at xs j ≡ true
      case_flagged j k (equal p e) = ap (flags_at xs) (sym p) ∙ so.2
      case_flagged j k (other p e) = w.flagged j (omega (arith, occ_last j at us))

  -- A record that is not fresh or not sound breaks the rules.
  used_there : (at n : ℕ) (seen numbers us : List ℕ) → 0 < at → UsedWalk xs at n seen numbers us → rules_ok xs ≡ true
      → (rest : List ℕ) × (used_of xs ≡ us ++ at ∷ rest)
  used_there at n seen numbers us h w ok = leads_next (next_at xs) (first_used xs) us at (used_of xs) w.whole (passes xs ok).walk_used h

  pub short_used : rules_ok xs ≡ true → length (used_of xs) ≤ 30
  short_used ok =
      let r = passes xs ok in
      used_short (count_of xs) (number_at xs) (flags_at xs) (used_of xs) (free_of xs)
      (record { counted = r.counted; once = r.once; within = r.within; ranged = r.ranged; apart = r.apart; flagged = r.flagged })

  short_free : rules_ok xs ≡ true → length (free_of xs) ≤ 30
  short_free ok =
      let r = passes xs ok in
      free_short (count_of xs) (number_at xs) (flags_at xs) (used_of xs) (free_of xs)
      (record { counted = r.counted; once = r.once; within = r.within; ranged = r.ranged; apart = r.apart; flagged = r.flagged })

  pub used_broken : (at n : ℕ) (seen numbers us : List ℕ) → 0 < at → UsedWalk xs at n seen numbers us → is_unmarked_at seen at n ≡ false → rules_ok xs ≡ false
  used_broken at n seen numbers us h w f = refuted (rules_ok xs) (λ ok.
      let t = used_there at n seen numbers us h w ok in
      let rest : List ℕ = t.0 in
      let e : used_of xs ≡ us ++ at ∷ rest = t.1 in
      let r = passes xs ok in
      let o : occ at (used_of xs) ≡ occ at us + (same at at + occ at rest) = ap (occ at) e ∙ occ_append at us (at ∷ rest) in
      let s = same_refl at in
      let b : (1 ≤ at) × (at ≤ 30) = r.within at (omega arith) in
      let m = w.marks at b.1 in
      let l : length (used_of xs) ≡ length us + suc (length rest) = ap length e ∙ length-append us (at ∷ rest) in
      let q = short_used ok in
      let k = w.long in
      let c = once_only r at in
      not_both (is_unmarked_at seen at n) (true_fresh seen at n (omega arith) b.1 (omega arith)) f)

  pub used_unsound : (at n : ℕ) (seen numbers us : List ℕ) → 0 < at → UsedWalk xs at n seen numbers us → is_sound xs at ≡ false → rules_ok xs ≡ false
  used_unsound at n seen numbers us h w f = refuted (rules_ok xs) (λ ok.
      let t = used_there at n seen numbers us h w ok in
      let r = passes xs ok in
      let o : occ at (used_of xs) ≡ occ at us + (same at at + occ at t.0) = ap (occ at) t.1 ∙ occ_append at us (at ∷ t.0) in
      let s = same_refl at in
      let g = r.ranged at (omega arith) in
      not_both (is_sound xs at) (true_sound xs at g.0 g.1 (r.flagged at (omega arith))) f)

  -- ---- the free walk.
  pub free_begin : (n : ℕ) (seen numbers us : List ℕ) → UsedWalk xs 0 n seen numbers us → FreeWalk xs (first_free xs) 0 seen us []
  free_begin n seen numbers us w = record {
    whole = refl;
    long = refl;
    marks = λ j k. w.marks j k ∙ omega arith;
    once = λ j. omega (arith, w.once j);
    within = λ j k. w.within j (omega arith);
  }

  pub free_step : (at n : ℕ) (seen us fs : List ℕ) → length seen ≡ 31 → 0 < at → is_unmarked_at seen at n ≡ true
      → FreeWalk xs at n seen us fs → FreeWalk xs (next_at xs at) (n + 1) (set seen at 1) us (fs ++ at ∷ [])
  free_step at n seen us fs ls h f w = record {
    whole = leads_more (next_at xs) (first_free xs) fs at h w.whole;
    long = omega (arith, length-append fs (at ∷ []), w.long);
    marks = λ j k. marks_more seen at (λ j. occ j us + occ j fs) ls fr.1 here w.marks j k ∙ omega (arith, occ_last j at fs);
    once = λ j. case_once j (either at j);
    within = λ j k. case_within j k (either at j);
  }
    where
      fr : (n < 30) × (at ≤ 30) × (get_or seen at 0 ≡ 0)
      fr = fresh_true seen at n f

      here : occ at us + occ at fs ≡ 0
      here = sym (w.marks at fr.1) ∙ fr.2

      case_once : (j : ℕ) → Either at j → occ j us + occ j (fs ++ at ∷ []) ≤ 1
      case_once j (equal p e) = omega (arith, occ_last j at fs, ap (λ (n : ℕ). occ n us + occ n fs) p, here)
      case_once j (other p e) = omega (arith, occ_last j at fs, w.once j)

      case_within : (j : ℕ) → 0 < occ j us + occ j (fs ++ at ∷ []) → Either at j → (1 ≤ j) × (j ≤ 30)
      case_within j k (equal p e) = let b : at ≤ 30 = fr.1 in omega arith
      case_within j k (other p e) = w.within j (omega (arith, occ_last j at fs))

  -- The used chain is the one walked.
  pub used_same : (n : ℕ) (seen numbers us : List ℕ) → UsedWalk xs 0 n seen numbers us → rules_ok xs ≡ true → used_of xs ≡ us
  used_same n seen numbers us w ok =
      chain_same (next_at xs) (first_used xs) (used_of xs) us (passes xs ok).walk_used (leads_end (next_at xs) (first_used xs) us w.whole)

  pub free_broken : (at n m : ℕ) (seen seen₀ numbers us fs : List ℕ) → 0 < at → UsedWalk xs 0 m seen₀ numbers us → FreeWalk xs at n seen us fs
      → is_unmarked_at seen at n ≡ false → rules_ok xs ≡ false
  free_broken at n m seen seen₀ numbers us fs h u w f = refuted (rules_ok xs) (λ ok.
      let r = passes xs ok in
      let t = leads_next (next_at xs) (first_free xs) fs at (free_of xs) w.whole r.walk_free h in
      let rest : List ℕ = t.0 in
      let e : free_of xs ≡ fs ++ at ∷ rest = t.1 in
      let o : occ at (free_of xs) ≡ occ at fs + (same at at + occ at rest) = ap (occ at) e ∙ occ_append at fs (at ∷ rest) in
      let s = same_refl at in
      let v : occ at (used_of xs) ≡ occ at us = ap (occ at) (used_same m seen₀ numbers us u ok) in
      let b : (1 ≤ at) × (at ≤ 30) = r.within at (omega arith) in
      let mk = w.marks at b.1 in
      let l : length (free_of xs) ≡ length fs + suc (length rest) = ap length e ∙ length-append fs (at ∷ rest) in
      let q = short_free ok in
      let k = w.long in
      let c = once_only r at in
      not_both (is_unmarked_at seen at n) (true_fresh seen at n (omega arith) b.1 (omega arith)) f)

  -- ---- the end.
  module _ (used free : ℕ) (numbers : List ℕ) (b : Both xs used free numbers) where
    chained_used : Chained (next_at xs) (first_used xs) b.us
    chained_used = leads_end (next_at xs) (first_used xs) b.us b.first.whole

    chained_free : Chained (next_at xs) (first_free xs) b.fs
    chained_free = leads_end (next_at xs) (first_free xs) b.fs b.second.whole

    pub other_count : (count_of xs ≡ used → ⊥) → rules_ok xs ≡ false
    other_count n = refuted (rules_ok xs) (λ ok. n ((passes xs ok).counted ∙ ap length (used_same used b.seen numbers b.us b.first ok) ∙ b.first.long))

    both_once : (j : ℕ) → occ j (b.us ++ b.fs) ≤ 1
    both_once j = omega (arith, occ_append j b.us b.fs, b.second.once j)

    both_within : (j : ℕ) → 0 < occ j (b.us ++ b.fs) → (1 ≤ j) × (j ≤ 30)
    both_within j k = b.second.within j (omega (arith, occ_append j b.us b.fs))

    pub all_rules : length xs ≡ 61472 → count_of xs ≡ used → used + free ≡ 30 → distinct (take used numbers) ≡ true → rules_ok xs ≡ true
    all_rules size c s d = passing xs b.us b.fs size (record {
      walk_used = chained_used;
      walk_free = chained_free;
      counted = c ∙ sym b.first.long;
      once = λ j h k. omega (
        arith,
        occ_append j b.us b.fs,
        sum_full 30 (b.us ++ b.fs) both_within both_once
            (omega (arith, length-append b.us b.fs, b.first.long, b.second.long)) j h k,
      );
      within = b.second.within;
      ranged = b.first.ranged;
      apart = λ n. omega (arith, distinct_once (take used numbers) d n, ap (occ n) b.first.images);
      flagged = b.first.flagged;
    })

    pub not_distinct : distinct (take used numbers) ≡ false → rules_ok xs ≡ false
    not_distinct f = refuted (rules_ok xs) (λ ok.
        let e : take used numbers ≡ map (number_at xs) (used_of xs) = b.first.images ∙ ap (map (number_at xs)) (sym (used_same used b.seen numbers b.us b.first ok)) in
        not_both (distinct (take used numbers)) (once_distinct (take used numbers) (λ n. omega (arith, ap (occ n) e, (passes xs ok).apart n))) f)

    -- A pool that passes has thirty records in its chains.
    free_same : rules_ok xs ≡ true → free_of xs ≡ b.fs
    free_same ok = chain_same (next_at xs) (first_free xs) (free_of xs) b.fs (passes xs ok).walk_free chained_free

    pub not_thirty : (used + free ≡ 30 → ⊥) → rules_ok xs ≡ false
    not_thirty n = refuted (rules_ok xs) (λ ok.
        let r = passes xs ok in
        let l : length (used_of xs ++ free_of xs) ≡ 30 = full_length 30 (used_of xs ++ free_of xs)
        (λ i k. r.within i (omega (arith, occ_append i (used_of xs) (free_of xs)))) (λ i a c. occ_append i (used_of xs) (free_of xs) ∙ r.once i a c) in
        n (omega (arith, length-append (used_of xs) (free_of xs), ap length (used_same used b.seen numbers b.us b.first ok), ap length (free_same ok), b.first.long, b.second.long)))

-- ---- the same in the functions' own terms.
pub used_again : (xs : List ℕ) (at n next number : ℕ) (seen numbers : List ℕ) (fresh sound : Bool) → length seen ≡ 31 → length numbers ≡ 30 → 0 < at
    → fresh ≡ is_unmarked_at seen at n → fresh ≡ true → sound ≡ is_sound xs at → sound ≡ true → next ≡ next_at xs at → number ≡ number_at xs at
    → (us : List ℕ) × UsedWalk xs at n seen numbers us
    → (us : List ℕ) × UsedWalk xs next (n + 1) (set seen at 1) (set numbers n number) us
used_again xs at n next number seen numbers fresh sound ls ln h f t s u en em w =
    (w.0 ++ at ∷ [], rw (en, em) (used_step xs at n seen numbers w.0 ls ln h (sym f ∙ t) (sym s ∙ u) w.1))

pub free_again : (xs : List ℕ) (at n next used : ℕ) (seen seen₀ numbers : List ℕ) (fresh : Bool) → length seen ≡ 31 → 0 < at
    → fresh ≡ is_unmarked_at seen at n → fresh ≡ true → next ≡ next_at xs at
    → (us : List ℕ) × (fs : List ℕ) × UsedWalk xs 0 used seen₀ numbers us × FreeWalk xs at n seen us fs
    → (us : List ℕ) × (fs : List ℕ) × UsedWalk xs 0 used seen₀ numbers us × FreeWalk xs next (n + 1) (set seen at 1) us fs
free_again xs at n next used seen seen₀ numbers fresh ls h f t en w =
    (w.0, w.1 ++ at ∷ [], w.2, rw en (free_step xs at n seen w.0 w.1 ls h (sym f ∙ t) w.3))

pub free_first : (xs : List ℕ) (at start used : ℕ) (seen numbers : List ℕ) → at ≡ 0 → start ≡ first_free xs → (us : List ℕ) × UsedWalk xs at used seen numbers us
    → (us : List ℕ) × (fs : List ℕ) × UsedWalk xs 0 used seen numbers us × FreeWalk xs start 0 seen us fs
free_first xs at start used seen numbers z e w =
    let u : UsedWalk xs 0 used seen numbers w.0 = rw z at w.1 in
    (w.0, [], u, rw e (free_begin xs used seen numbers w.0 u))

pub fresh_bounds : (seen : List ℕ) (at n : ℕ) (fresh : Bool) → fresh ≡ is_unmarked_at seen at n → fresh ≡ true → (n < 30) × (at ≤ 30)
fresh_bounds seen at n fresh f t = let r = fresh_true seen at n (sym f ∙ t) in (r.0, r.1)

-- What `broken` tells.
pub told_broken : (xs : List ℕ) (fine : Bool) (used free : ℕ) (numbers : List ℕ) → fine ≡ false → rules_ok xs ≡ false
    → (fine ≡ true → Both xs used free numbers) × (fine ≡ false → rules_ok xs ≡ false)
told_broken xs fine used free numbers f r = (λ t. absurd (not_both fine t f), λ t. r)

pub told_fine : (xs : List ℕ) (used free at : ℕ) (seen seen₀ numbers : List ℕ) → at ≡ 0
    → (us : List ℕ) × (fs : List ℕ) × UsedWalk xs 0 used seen₀ numbers us × FreeWalk xs at free seen us fs
    → (true ≡ true → Both xs used free numbers) × (true ≡ false → rules_ok xs ≡ false)
told_fine xs used free at seen seen₀ numbers z w =
    (λ t. record { seen = seen₀; seen' = seen; us = w.0; fs = w.1; first = w.2; second = rw z at w.3 }, λ t. absurd (not_both true refl t))

get_d_zeros : (n k : ℕ) → ◌≡◌ {A = ℕ} (get_or (replicate n 0) k 0) 0
get_d_zeros zero k = refl
get_d_zeros (suc n) zero = refl
get_d_zeros (suc n) (suc k) = get_d_zeros n k

pub no_mark : (j : ℕ) → j ≤ 30 → ◌≡◌ {A = ℕ} (get_or (replicate 31 0) j 0) 0
no_mark j h = get_or-replicate {A = ℕ} 31 j 0 0 (omega arith)

no_number : (k : ℕ) → ◌≡◌ {A = ℕ} (get_or (replicate 30 0) k 0) 0
no_number k = get_d_zeros 30 k

pub used_first : (xs : List ℕ) (start : ℕ) (seen numbers : List ℕ) → start ≡ first_used xs → seen ≡ replicate 31 0 → numbers ≡ replicate 30 0
    → (us : List ℕ) × UsedWalk xs start 0 seen numbers us
used_first xs start seen numbers e z y =
    ([], rw e (used_begin xs seen numbers (λ j h. ap (λ (l : List ℕ). get_or l j 0) z ∙ no_mark j h) (λ k. ap (λ (l : List ℕ). get_or l k 0) y ∙ no_number k)))

-- ---- what a test of the whole pool answers.
pub decided : (xs : List ℕ) (fine : Bool) (used free : ℕ) (numbers : List ℕ) (count : ℕ) (apart : Bool) → length xs ≡ 61472
    → (fine ≡ true → Both xs used free numbers) × (fine ≡ false → rules_ok xs ≡ false) → fine ≡ true → count ≡ count_of xs → used ≡ count → used + free ≡ 30
    → apart ≡ distinct (take used numbers) → apart ≡ rules_ok xs
decided xs fine used free numbers count true size w t c u s d =
    sym (all_rules xs used free numbers (w.0 t) size (sym c ∙ sym u) s (sym d))
decided xs fine used free numbers count false size w t c u s d = sym (not_distinct xs used free numbers (w.0 t) (sym d))

other_number : (xs : List ℕ) (fine : Bool) (used free : ℕ) (numbers : List ℕ) (count : ℕ)
    → (fine ≡ true → Both xs used free numbers) × (fine ≡ false → rules_ok xs ≡ false) → fine ≡ true → count ≡ count_of xs → (used ≡ count → ⊥) → false ≡ rules_ok xs
other_number xs fine used free numbers count w t c n = sym (other_count xs used free numbers (w.0 t) (λ e. n (sym (c ∙ e))))

other_sum : (xs : List ℕ) (fine : Bool) (used free : ℕ) (numbers : List ℕ)
    → (fine ≡ true → Both xs used free numbers) × (fine ≡ false → rules_ok xs ≡ false) → fine ≡ true → (used + free ≡ 30 → ⊥) → false ≡ rules_ok xs
other_sum xs fine used free numbers w t n = sym (not_thirty xs used free numbers (w.0 t) n)

pub other_size : (xs : List ℕ) → (length xs ≡ 61472 → ⊥) → false ≡ rules_ok xs
other_size xs n = sym (refuted (rules_ok xs) (λ ok. n (passes_size xs ok)))

pub both_small : (xs : List ℕ) (fine : Bool) (used free : ℕ) (numbers : List ℕ)
    → (fine ≡ true → Both xs used free numbers) × (fine ≡ false → rules_ok xs ≡ false) → fine ≡ true → (used ≤ 30) × (free ≤ 30)
both_small xs fine used free numbers w t =
    let b = w.0 t in (
      omega (arith, at_most 30 b.us b.first.within b.first.once, b.first.long),
      omega (arith, at_most 30 b.fs (λ j k. b.second.within j (omega arith)) (λ j. omega (arith, b.second.once j)), b.second.long),
    )

-- The mark that the code looks at.
pub fresh_is : (seen : List ℕ) (at n slot : ℕ) (b : Bool) → slot ≡ mark_place at → b ≡ is_unmarked (get_or seen slot 0) at n → b ≡ is_unmarked_at seen at n
unfolding is_unmarked_at is_unmarked mark_place
fresh_is seen at n slot b es e = e ∙ ap (λ (s : ℕ). is_unmarked (get_or seen s 0) at n) es ∙ go (leb at 30) refl
  where
    go : (t : Bool) → leb at 30 ≡ t → is_unmarked (get_or seen (mark_place at) 0) at n ≡ is_unmarked (get_or seen at 0) at n
    go true p = ap (λ (c : Bool). is_unmarked (get_or seen (cond c at 0) 0) at n) p
    go false p =
        ap (λ (c : Bool). ltb n 30 && c && eqb (get_or seen (mark_place at) 0) 0) p ∙ off (ltb n 30) _ ∙ sym (off (ltb n 30) (eqb (get_or seen at 0) 0))
        ∙ sym (ap (λ (c : Bool). ltb n 30 && c && eqb (get_or seen at 0) 0) p)
      where
        off : (a b : Bool) → a && false && b ≡ false
        off true b = refl
        off false b = refl

-- The lengths agree, or the rules do not hold.
pub agreed : (count used free : ℕ) (b : Bool) → b ≡ counts_agree count used free → b ≡ true → (used ≡ count) × (used + free ≡ 30)
unfolding counts_agree
agreed count used free b e t =
    let h = sym e ∙ t in
    let r = and_right (eqb used count) _ h in
    (eqb-true used count (and_left (eqb used count) _ h), eqb-true (used + free) 30 (and_right (leb free 30) _ (and_right (leb used 30) _ r)))

pub disagreed : (xs : List ℕ) (fine : Bool) (used free : ℕ) (numbers : List ℕ) (count : ℕ) (b : Bool)
    → (fine ≡ true → Both xs used free numbers) × (fine ≡ false → rules_ok xs ≡ false) → fine ≡ true → count ≡ count_of xs → b ≡ counts_agree count used free → b ≡ false
    → false ≡ rules_ok xs
unfolding counts_agree
disagreed xs fine used free numbers count b w t c e f = go (eqb used count) (eqb (used + free) 30) refl refl
  where
    small : (used ≤ 30) × (free ≤ 30)
    small = both_small xs fine used free numbers w t

    go : (p q : Bool) → eqb used count ≡ p → eqb (used + free) 30 ≡ q → false ≡ rules_ok xs
    go false q ep eq = other_number xs fine used free numbers count w t c (eqb-false used count ep)
    go true false ep eq = other_sum xs fine used free numbers w t (eqb-false (used + free) 30 eq)
    go true true ep eq =
        absurd (let z : ◌≡◌ {A = Bool} true false = sym (and_both (eqb used count) _ ep (and_both (leb used 30) _ (le-leb used 30 small.0) (and_both (leb free 30) _ (le-leb free 30 small.1) eq))) ∙ sym e ∙ f in
        not_both true refl z)
