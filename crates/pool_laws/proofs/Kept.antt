-- The rules are kept when the first free record is opened, when a used record is removed, and where no link changes. Assumes nothing.
use mathlib.Core.Path.{◌≡◌, refl, sym, ap, ◌∙◌}
use mathlib.Core.Logic.{◌≢◌}
use mathlib.Core.Bool.{Bool, true}
use mathlib.Core.List.{List, [], ◌∷◌, ◌++◌, map}
use Prim.Native.Nat.{ℕ, ◌+◌, ◌-◌, ◌≤◌, ◌<◌}
use native.Mathlib.Omega.{arith}
use lib.ListN.{length-append}
use Rattle.record_pool.specs.Lists.{same, occ}
use Rattle.record_pool.specs.Chains.{Chained, Rules}
use Rattle.record_pool.proofs.Occ.{Either, equal, other, either, same_refl, occ_append, map_agree}
use Rattle.record_pool.proofs.Passing.{once_only}
use Rattle.record_pool.proofs.Chaining.{chain_frame}

-- ---- opening. i is the first free record, d the new drawer's number.
module _ (c u i d : ℕ) (next number : ℕ → ℕ) (flags : ℕ → Bool) (us fs : List ℕ) (r : Rules c u i next number flags us (i ∷ fs))
    (next' number' : ℕ → ℕ) (flags' : ℕ → Bool)
    (next-i : next' i ≡ u) (number-i : number' i ≡ d) (flags-i : flags' i ≡ true)
    (next-j : (j : ℕ) → 1 ≤ j → j ≤ 30 → j ≢ i → next' j ≡ next j)
    (number-j : (j : ℕ) → 1 ≤ j → j ≤ 30 → j ≢ i → number' j ≡ number j)
    (flags-j : (j : ℕ) → 1 ≤ j → j ≤ 30 → j ≢ i → flags' j ≡ flags j)
    (low : 1 ≤ d) (high : d ≤ 65535) (new : occ d (map number us) ≡ 0) where
  inside : (j : ℕ) → 0 < occ j us + occ j fs → (1 ≤ j) × (j ≤ 30)
  inside j k = r.within j (omega arith)

  not_i : (j : ℕ) → 0 < occ j us + occ j fs → j ≢ i
  not_i j k e = omega (arith, once_only r j, ap (λ (n : ℕ). same n j) e, same_refl j)

  images : map number' us ≡ map number us
  images = map_agree number' number us (λ j k. let w = inside j (omega arith) in number-j j w.0 w.1 (not_i j (omega arith)))

  open_ranged : (j : ℕ) → 0 < occ j (i ∷ us) → (1 ≤ number' j) × (number' j ≤ 65535)
  open_ranged j k = go (either i j)
    where
      go : Either i j → (1 ≤ number' j) × (number' j ≤ 65535)
      go (equal p e) = let q : number' j ≡ d = ap number' (sym p) ∙ number-i in omega arith
      go (other p e) =
          let w = inside j (omega arith) in
          let q : number' j ≡ number j = number-j j w.0 w.1 (λ s. p (sym s)) in
          let g : (1 ≤ number j) × (number j ≤ 65535) = r.ranged j (omega arith) in
          omega arith

  open_flagged : (j : ℕ) → 0 < occ j (i ∷ us) → flags' j ≡ true
  open_flagged j k = go (either i j)
    where
      go : Either i j → flags' j ≡ true
      go (equal p e) = ap flags' (sym p) ∙ flags-i
      go (other p e) = let w = inside j (omega arith) in flags-j j w.0 w.1 (λ s. p (sym s)) ∙ r.flagged j (omega arith)

  open_apart : (n : ℕ) → occ n (number' i ∷ map number' us) ≤ 1
  open_apart n = rw (number-i, images) (go (either d n))
    where
      go : Either d n → same d n + occ n (map number us) ≤ 1
      go (equal p e) = omega (arith, ap (λ (m : ℕ). occ m (map number us)) p)
      go (other p e) = omega (arith, r.apart n)

  pub open_kept : Rules (c + 1) i (next i) next' number' flags' (i ∷ us) fs
  open_kept = record {
    walk_used = (refl, r.walk_free.1, rw next-i (chain_frame next next' u us (λ j k. let w = inside j (omega arith) in next-j j w.0 w.1 (not_i j (omega arith))) r.walk_used));
    walk_free = chain_frame next next' (next i) fs (λ j k. let w = inside j (omega arith) in next-j j w.0 w.1 (not_i j (omega arith))) r.walk_free.2;
    counted = omega (arith, r.counted);
    once = λ j p q. omega (arith, r.once j p q);
    within = λ j k. r.within j (omega arith);
    ranged = open_ranged;
    apart = open_apart;
    flagged = open_flagged;
  }

-- ---- removing. us is ys, then the record i, then zs.
module _ (c u u' f i : ℕ) (next number : ℕ → ℕ) (flags : ℕ → Bool) (ys zs fs : List ℕ) (r : Rules c u f next number flags (ys ++ i ∷ zs) fs)
    (next' number' : ℕ → ℕ) (flags' : ℕ → Bool)
    (next-i : next' i ≡ f) (walk : Chained next' u' (ys ++ zs))
    (next-free : (j : ℕ) → 0 < occ j fs → next' j ≡ next j)
    (number-j : (j : ℕ) → 1 ≤ j → j ≤ 30 → j ≢ i → number' j ≡ number j)
    (flags-j : (j : ℕ) → 1 ≤ j → j ≤ 30 → j ≢ i → flags' j ≡ flags j) where
  parts : (j : ℕ) → occ j (ys ++ i ∷ zs) ≡ same i j + occ j (ys ++ zs)
  parts j = omega (arith, occ_append j ys (i ∷ zs), occ_append j ys zs)

  left_of : (j : ℕ) → 0 < occ j (ys ++ zs) → (0 < occ j (ys ++ i ∷ zs)) × (j ≢ i)
  left_of j k =
      (omega (arith, parts j), λ e. omega (arith, parts j, once_only r j, ap (λ (n : ℕ). same n j) e, same_refl j))

  inside_removed : (j : ℕ) → 0 < occ j (ys ++ zs) → (1 ≤ j) × (j ≤ 30)
  inside_removed j k = r.within j (omega (arith, (left_of j k).0))

  images_left : map number' (ys ++ zs) ≡ map number (ys ++ zs)
  images_left = map_agree number' number (ys ++ zs) (λ j k. let w = inside_removed j k in number-j j w.0 w.1 (left_of j k).1)

  occ_left : (n : ℕ) (as' bs : List ℕ) → occ n (map number (as' ++ bs)) ≤ occ n (map number (as' ++ i ∷ bs))
  occ_left n [] bs = omega arith
  occ_left n (a ∷ as') bs = omega (arith, occ_left n as' bs)

  remove_ranged : (j : ℕ) → 0 < occ j (ys ++ zs) → (1 ≤ number' j) × (number' j ≤ 65535)
  remove_ranged j k =
      let w = inside_removed j k in
      let q : number' j ≡ number j = number-j j w.0 w.1 (left_of j k).1 in
      let g : (1 ≤ number j) × (number j ≤ 65535) = r.ranged j (left_of j k).0 in
      omega arith

  pub remove_kept : Rules (c - 1) u' i next' number' flags' (ys ++ zs) (i ∷ fs)
  remove_kept = record {
    walk_used = walk;
    walk_free = (refl, (r.within i (omega (arith, parts i, same_refl i))).0, rw next-i (chain_frame next next' f fs next-free r.walk_free));
    counted = omega (arith, r.counted, length-append ys (i ∷ zs), length-append ys zs);
    once = λ j p q. omega (arith, r.once j p q, parts j);
    within = λ j k. r.within j (omega (arith, parts j));
    ranged = remove_ranged;
    apart = λ n. rw images_left (omega (arith, occ_left n ys zs, r.apart n));
    flagged = λ j k. let w = inside_removed j k in flags-j j w.0 w.1 (left_of j k).1 ∙ r.flagged j (left_of j k).0;
  }

-- ---- a write that leaves the links: only yes/no bytes of used records matter.
pub kept_still : (c u f : ℕ) (next number : ℕ → ℕ) (flags : ℕ → Bool) (us fs : List ℕ) (next' number' : ℕ → ℕ) (flags' : ℕ → Bool)
    → Rules c u f next number flags us fs
    → ((j : ℕ) → 1 ≤ j → j ≤ 30 → next' j ≡ next j) → ((j : ℕ) → 1 ≤ j → j ≤ 30 → number' j ≡ number j)
    → ((j : ℕ) → 1 ≤ j → j ≤ 30 → flags j ≡ true → flags' j ≡ true) → Rules c u f next' number' flags' us fs
kept_still c u f next number flags us fs next' number' flags' r hn hm hf = record {
  walk_used = chain_frame next next' u us (λ j k. let w = r.within j (omega arith) in hn j w.0 w.1) r.walk_used;
  walk_free = chain_frame next next' f fs (λ j k. let w = r.within j (omega arith) in hn j w.0 w.1) r.walk_free;
  counted = r.counted;
  once = r.once;
  within = r.within;
  ranged = λ j k. let w = r.within j (omega arith) in rw (hm j w.0 w.1) (r.ranged j k);
  apart = λ n. rw (map_agree number' number us (λ j k. let w = r.within j (omega arith) in hm j w.0 w.1)) (r.apart n);
  flagged = λ j k. let w = r.within j (omega arith) in hf j w.0 w.1 (r.flagged j k);
}
