-- Rule 13 and the chains, and isolation: the two statements. Assumes nothing.
use Rattle.std.specs.Prelude.{Ok}
use mathlib.Core.Path.{◌≡◌, refl, sym, ap, ◌∙◌}
use mathlib.Core.Bool.{Bool, true, false, cond}
use mathlib.Core.List.{List, [], ◌∷◌, ◌++◌, map}
use Prim.Native.Nat.{ℕ, zero, suc, ◌+◌, ◌-◌, ◌≤◌, ◌<◌}
use native.Mathlib.Omega.{arith}
use lib.Dec.{eqb, ltb}
use lib.ListN.{length, get_or, replicate, length-append, length-replicate}
use lib.Seq.{take_at}
use lib.Ieee.{Float}
use Rattle.layout.specs.Places.{state_length}
use Rattle.layout.specs.Chain.{encode_state_over}
use Rattle.layout.specs.Left.{Left}
use Rattle.predictorcorrector.specs.State.{new, fresh_state}
use borrow.Author.Tests.{eqb-true, eqb-false, ltb-true, ltb-false, lt-ltb, le-ltb}
use Rattle.record_pool.specs.Lists.{occ}
use Rattle.record_pool.specs.Pool.{place, count_of, first_used, first_free, next_at, state_at, state_of, used_of, free_of, rules_ok, record_of, number_at, numbers_of, with_header, opened}
use Rattle.record_pool.specs.declared.Slot.{Slot}
use Rattle.record_pool.proofs.Passing.{passes, passes_size, used_of_lem, free_of_lem, passing, within_used, count_small}
use Rattle.record_pool.proofs.Occ.{same_other, occ_append, occ_map}
use Rattle.record_pool.proofs.Finding.{not_held, held, held_in}
use Rattle.record_pool.proofs.Locating.{Vacant, its_used}
use Rattle.record_pool.proofs.Writes.{header_length, record_state}
use Rattle.pool_drawers.specs.Drawers.{opening, remove}
use Rattle.pool_laws.specs.Rules.{PoolRules}
use Rattle.pool_laws.specs.Isolation.{Isolation}
use Rattle.pool_laws.proofs.Removing.{removed_gone, removed_free, removed_used, removed_zeros}
use Rattle.pool_laws.proofs.Settling.{settled_used, settled_free}
use Rattle.pool_laws.proofs.LayingOut.{empty_passes, empty_used, empty_free}
use Rattle.pool_laws.proofs.Frames.{made, accepted, made_bytes, made_long, rest, rest_long, which, refused, opens, opens_record, opens_used, opens_free, removed_or_refused, Wrote}
use Rattle.pool_laws.proofs.Frames as Frames
use Rattle.pool_laws.proofs.Alone.{set_wrote, judged_wrote, alone, isolated}
use Rattle.pool_laws.proofs.Answers.{kept, unchanged}

-- ---- opening.
module _ (xs : List ℕ) (d : ℕ) (discount : Float) (adjust base : ℕ) where
  abbrev tail : List ℕ
  tail = rest xs d discount adjust base

  -- The new record's state is the new state.
  new_state : (s : Slot) → Vacant xs d s → (made xs d discount adjust base).answer ≡ 0
      → state_at (opened xs d tail) (first_free xs) ≡ encode_state_over (replicate state_length 0) (fresh_state discount (eqb adjust 1) base)
  unfolding state_at opened
  new_state s v z =
      let i : s.index ≡ first_free xs = ap (λ (s : Slot). s.index) v.same in
      record_state (with_header xs (count_of xs + 1) (first_free xs) (next_at xs (first_free xs))) (first_free xs) (first_used xs) d tail
      (header_length xs (count_of xs + 1) (first_free xs) (next_at xs (first_free xs)) (omega (arith, v.size)) ∙ v.size) (omega (arith, v.low)) (omega (arith, v.high))
      (rest_long xs d discount adjust base z)
      ∙ take_at (made xs d discount adjust base).bytes (replicate 730 0) state_length (made_long xs d discount adjust base z)
      ∙ made_bytes xs d discount adjust base z

  abbrev Opened : Left → Type 0
  Opened o =
      (used_of o.bytes ≡ first_free xs ∷ used_of xs) × (free_of xs ≡ first_free xs ∷ free_of o.bytes) × (record_of o.bytes d ≡ first_free xs)
      × (new discount (eqb adjust 1) base ≡ Ok (fresh_state discount (eqb adjust 1) base))
      × (state_of o.bytes d ≡ encode_state_over (replicate state_length 0) (fresh_state discount (eqb adjust 1) base))

  opened_so : (opening d discount adjust base xs).answer ≡ 0 → Opened (opening d discount adjust base xs)
  unfolding state_of
  opened_so z = go (which xs d discount adjust base)
    where
      go : Frames.Opening xs d discount adjust base → Opened (opening d discount adjust base xs)
      go (refused q n) = absurd (n z)
      go (opens s v m q) =
          let r = opens_record xs d discount adjust base s v m in
          rw q (opens_used xs d discount adjust base s v m, opens_free xs d discount adjust base s v m, r, accepted xs d discount adjust base m, ap (state_at (opened xs d tail)) r ∙ new_state s v m)

-- ---- removing.
abbrev Removed : List ℕ → ℕ → Left → Type 0
Removed xs d o =
    (record_of o.bytes d ≡ 0)
    × (free_of o.bytes ≡ record_of xs d ∷ free_of xs)
    × ((ys : List ℕ) × (zs : List ℕ) × (used_of xs ≡ ys ++ record_of xs d ∷ zs) × (used_of o.bytes ≡ ys ++ zs))
    × ((n : ℕ) → place (record_of xs d) + 4 ≤ n → n < place (record_of xs d) + 2048 → get_or o.bytes n 0 ≡ 0)

removed_so : (xs : List ℕ) (d : ℕ) → (remove d xs).answer ≡ 0 → Removed xs d (remove d xs)
removed_so xs d z =
    let r = removed_or_refused xs d z in
    rw r.2 (removed_gone xs d r.1 r.0, removed_free xs d r.1 r.0, removed_used xs d r.1 r.0, removed_zeros xs d r.1 r.0)

-- ---- settings and judgments.
stays : (xs : List ℕ) (d : ℕ) (ys : List ℕ) → Wrote xs d ys → (used_of ys ≡ used_of xs) × (free_of ys ≡ free_of xs)
stays xs d ys (Frames.nothing q) = (ap used_of q, ap free_of q)
stays xs d ys (Frames.state zs ok there size f q) = (
  ap used_of q ∙ settled_used xs (record_of xs d) zs ok (its_used xs d ok there) (omega arith) (omega arith) f,
  ap free_of q ∙ settled_free xs (record_of xs d) zs ok (its_used xs d ok there) (omega arith) (omega arith) f,
)

-- ---- listing.
map_long : (f : ℕ → ℕ) (xs : List ℕ) → length (map f xs) ≡ length xs
map_long f [] = refl
map_long f (x ∷ xs) = ap suc (map_long f xs)

no_zeros : (d k : ℕ) → 1 ≤ d → occ d (replicate k 0) ≡ 0
no_zeros d zero h = refl
no_zeros d (suc k) h = omega (arith, same_other 0 d (λ e. omega arith), no_zeros d k h)

-- At each place the number of the used record there, or 0.
shifted : (k n : ℕ) → ltb k n ≡ ltb (suc k) (suc n)
shifted k n = go (ltb k n) refl
  where
    go : (b : Bool) → ltb k n ≡ b → ltb k n ≡ ltb (suc k) (suc n)
    go true e = let l = ltb-true k n e in e ∙ sym (lt-ltb (suc k) (suc n) (omega arith))
    go false e = let l = ltb-false k n e in e ∙ sym (le-ltb (suc k) (suc n) (omega arith))

zeros_there : (m k : ℕ) → ◌≡◌ {A = ℕ} (get_or (replicate m 0) k 0) 0
zeros_there zero k = refl
zeros_there (suc m) zero = refl
zeros_there (suc m) (suc k) = zeros_there m k

ordered : (f : ℕ → ℕ) (us : List ℕ) (m k : ℕ) → get_or (map f us ++ replicate m 0) k 0 ≡ cond (ltb k (length us)) (f (get_or us k 0)) 0
ordered f [] m k = zeros_there m k ∙ sym (ap (λ (b : Bool). cond b (f 0) 0) (le-ltb k 0 (omega arith)))
ordered f (u ∷ us) m zero = sym (ap (λ (b : Bool). cond b (f u) 0) (lt-ltb 0 (suc (length us)) (omega arith)))
ordered f (u ∷ us) m (suc k) = ordered f us m k ∙ ap (λ (b : Bool). cond b (f (get_or us k 0)) 0) (shifted k (length us))

module _ (xs : List ℕ) (ok : rules_ok xs ≡ true) where
  few : length (used_of xs) ≤ 30
  few = omega (arith, count_small (passes xs ok), (passes xs ok).counted)

  listed_long : length (numbers_of xs) ≡ 30
  unfolding numbers_of
  listed_long =
      omega (arith, length-append (map (number_at xs) (used_of xs)) (replicate (30 - length (used_of xs)) 0), map_long (number_at xs) (used_of xs), length-replicate {A = ℕ} (30 - length (used_of xs)) 0, few)

  held_once : (d : ℕ) (b : Bool) → eqb (record_of xs d) 0 ≡ b → occ d (map (number_at xs) (used_of xs)) ≡ cond b 0 1
  unfolding record_of
  held_once d true e = not_held (number_at xs) d (used_of xs) (λ j k. (within_used (passes xs ok) j k).0) (eqb-true (record_of xs d) 0 e)
  held_once d false e =
      let n = eqb-false (record_of xs d) 0 e in
      let f = held (number_at xs) d 0 (used_of xs) (omega arith) in
      let some = occ_map (number_at xs) (record_of xs d) (used_of xs) (held_in (number_at xs) d (used_of xs) (omega arith)) in
      omega (arith, ap (λ (n : ℕ). occ n (map (number_at xs) (used_of xs))) f.has, some, (passes xs ok).apart d)

  listed_so : (length (numbers_of xs) ≡ 30) × ((k : ℕ) → get_or (numbers_of xs) k 0 ≡ cond (ltb k (count_of xs)) (number_at xs (get_or (used_of xs) k 0)) 0) × ((d : ℕ) → 1 ≤ d → occ d (numbers_of xs) ≡ cond (eqb (record_of xs d) 0) 0 1)
  unfolding numbers_of
  listed_so = (
    listed_long,
    λ k. ordered (number_at xs) (used_of xs) (30 - length (used_of xs)) k
        ∙ ap (λ (n : ℕ). cond (ltb k n) (number_at xs (get_or (used_of xs) k 0)) 0) (sym (passes xs ok).counted),
    λ d h. occ_append d (map (number_at xs) (used_of xs)) (replicate (30 - length (used_of xs)) 0)
        ∙ omega (arith, no_zeros d (30 - length (used_of xs)) h, held_once d (eqb (record_of xs d) 0) refl),
  )

pub pool_rules : PoolRules
pool_rules = record {
  means = λ xs ok. (passes_size xs ok, passes xs ok);
  meant = λ xs us fs size w. (passing xs us fs size w, used_of_lem xs us fs size w, free_of_lem xs us fs size w);
  empty = (empty_passes, empty_used, empty_free);
  kept = kept;
  refused = unchanged;
  opened = opened_so;
  removed = removed_so;
  set_stays = λ xs d c n ys e. stays xs d ys (set_wrote xs d c n ys e);
  judged_stays = λ xs d a t ys e. stays xs d ys (judged_wrote xs d a t ys e);
  listed = listed_so;
}

pub pool_isolation : Isolation
pool_isolation = record { alone = alone; isolated = isolated }
