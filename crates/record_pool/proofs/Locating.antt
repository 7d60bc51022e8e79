-- Where a drawer is, and what is so of the record that was found. Assumes nothing.
use Rattle.std.specs.Prelude.{Result, Ok, Err}
use mathlib.Core.Path.{◌≡◌, refl, sym, ap, ap₂, ◌∙◌}
use mathlib.Core.Bool.{Bool, true, false, cond, ◌&&◌}
use mathlib.Core.List.{List, [], ◌∷◌, ◌++◌}
use Prim.Native.Nat.{ℕ, ◌+◌, ◌≤◌, ◌<◌}
use native.Mathlib.Omega.{arith}
use lib.Dec.{eqb}
use lib.ListN.{length}
use borrow.Author.Tests.{eqb-true, eqb-false, eq-eqb, ne_eqb}
use Rattle.types.specs.declared.Refusal.{Refusal}
use Rattle.types.specs.declared.Refusal.TheVariants as Refusals
use Rattle.layout.specs.Numbers.{le4}
use Rattle.record_pool.specs.Lists.{occ}
use Rattle.record_pool.specs.Chains.{is_number}
use Rattle.record_pool.specs.Pool.{place, count_of, first_used, first_free, used_of, free_of, next_at, number_at, rules_ok, record_of, front_of, slot, locate, vacancy}
use Rattle.record_pool.specs.declared.Slot.{Slot}
use Rattle.record_pool.proofs.Occ.{same_le, occ_append}
use Rattle.record_pool.proofs.Chaining.{last_or, last_in}
use Rattle.record_pool.proofs.Bytes.{place_high}
use Rattle.record_pool.proofs.Finding.{held, held_in}
use Rattle.record_pool.proofs.Meaning.{number_true}
use Rattle.record_pool.proofs.Passing.{passes, passes_size, within_used, within_free, count_small, count_below, start_small}

-- ---- the code's branches.
pub slot_is : (xs : List ℕ) (i front at next count used free : ℕ) → at ≡ place i → next ≡ le4 xs at → count ≡ count_of xs → used ≡ first_used xs → free ≡ first_free xs
    → record { index = i; state = at + 8; front = front; next = next; count = count; used = used; free = free } ≡ slot xs i front
unfolding next_at
slot_is xs i front at next count used free ep en ec eu ef =
    λ t. record { index = i; state = ep t + 8; front = front; next = (en ∙ ap (le4 xs) ep) t; count = ec t; used = eu t; free = ef t }

module _ (xs : List ℕ) (d : ℕ) (b : Bool) (e : b ≡ rules_ok xs) where
  abbrev there : Result Slot Refusal
  there = Ok (slot xs (record_of xs d) (front_of xs d))

  pub locate_broken : b ≡ false → Err Refusals.Pool ≡ locate xs d
  unfolding locate
  locate_broken f = sym (ap (λ (c : Bool). cond c (cond (eqb (record_of xs d) 0) (Err Refusals.Drawer) there) (Err Refusals.Pool)) (sym e ∙ f))

  searched : (z : Bool) → b ≡ true → eqb (record_of xs d) 0 ≡ z → locate xs d ≡ cond z (Err Refusals.Drawer) there
  unfolding locate
  searched z t q =
      ap (λ (c : Bool). cond c (cond (eqb (record_of xs d) 0) (Err Refusals.Drawer) there) (Err Refusals.Pool)) (sym e ∙ t)
      ∙ ap (λ (c : Bool). cond c (Err Refusals.Drawer) there) q

  pub locate_absent : (i front : ℕ) → b ≡ true → (i ≡ record_of xs d) × (front ≡ front_of xs d) → i ≡ 0 → Err Refusals.Drawer ≡ locate xs d
  locate_absent i front t s z = sym (searched true t (eq-eqb (record_of xs d) 0 (sym s.0 ∙ z)))

  pub locate_there : (i front : ℕ) (r : Slot) → b ≡ true → (i ≡ record_of xs d) × (front ≡ front_of xs d) → (i ≡ 0 → ⊥) → r ≡ slot xs i front → Ok r ≡ locate xs d
  locate_there i front r t s n q =
      ap Ok (q ∙ ap₂ (slot xs) s.0 s.1) ∙ sym (searched false t (ne_eqb (record_of xs d) 0 (λ z. n (s.0 ∙ z))))

  abbrev spare : Result Slot Refusal
  spare = Ok (slot xs (first_free xs) 0)

  pub vacancy_broken : b ≡ false → Err Refusals.Pool ≡ vacancy xs d
  unfolding vacancy
  vacancy_broken f =
      sym (ap (λ (c : Bool). cond c (cond (is_number d && eqb (record_of xs d) 0) (cond (eqb (first_free xs) 0) (Err Refusals.Full) spare) (Err Refusals.Drawer)) (Err Refusals.Pool))
      (sym e ∙ f))

  asked : (n z : Bool) → b ≡ true → is_number d ≡ n → eqb (record_of xs d) 0 ≡ z → vacancy xs d ≡ cond (n && z) (cond (eqb (first_free xs) 0) (Err Refusals.Full) spare) (Err Refusals.Drawer)
  unfolding vacancy
  asked n z t en ez =
      ap (λ (c : Bool). cond c (cond (is_number d && eqb (record_of xs d) 0) (cond (eqb (first_free xs) 0) (Err Refusals.Full) spare) (Err Refusals.Drawer)) (Err Refusals.Pool))
      (sym e ∙ t)
      ∙ ap₂ (λ (n z : Bool). cond (n && z) (cond (eqb (first_free xs) 0) (Err Refusals.Full) spare) (Err Refusals.Drawer)) en ez

  pub vacancy_unnumbered : (n : Bool) → b ≡ true → n ≡ is_number d → n ≡ false → Err Refusals.Drawer ≡ vacancy xs d
  vacancy_unnumbered n t en f = sym (asked false (eqb (record_of xs d) 0) t (sym en ∙ f) refl)

  pub vacancy_taken : (n : Bool) (i front : ℕ) → b ≡ true → n ≡ is_number d → n ≡ true → (i ≡ record_of xs d) × (front ≡ front_of xs d) → (i ≡ 0 → ⊥)
      → Err Refusals.Drawer ≡ vacancy xs d
  vacancy_taken n i front t en f s k = sym (asked true false t (sym en ∙ f) (ne_eqb (record_of xs d) 0 (λ q. k (s.0 ∙ q))))

  module _ (n : Bool) (i front j : ℕ) (t : b ≡ true) (en : n ≡ is_number d) (f : n ≡ true) (s : (i ≡ record_of xs d) × (front ≡ front_of xs d)) (z : i ≡ 0) (ej : j ≡ first_free xs) where
    absent : (full : Bool) → eqb (first_free xs) 0 ≡ full → vacancy xs d ≡ cond full (Err Refusals.Full) spare
    absent full q =
        asked true true t (sym en ∙ f) (eq-eqb (record_of xs d) 0 (sym s.0 ∙ z)) ∙ ap (λ (c : Bool). cond c (Err Refusals.Full) spare) q

    pub vacancy_full : j ≡ 0 → Err Refusals.Full ≡ vacancy xs d
    vacancy_full q = sym (absent true (eq-eqb (first_free xs) 0 (sym ej ∙ q)))

    pub vacancy_there : (r : Slot) → (j ≡ 0 → ⊥) → r ≡ slot xs j 0 → Ok r ≡ vacancy xs d
    vacancy_there r k q = ap Ok (q ∙ ap (λ (m : ℕ). slot xs m 0) ej) ∙ sym (absent false (ne_eqb (first_free xs) 0 (λ p. k (ej ∙ p))))

-- ---- what is so of a record that was found.
-- A drawer that is there.
pub record Occupied (xs : List ℕ) (d : ℕ) (s : Slot) : Type 0 where
  pub ok : rules_ok xs ≡ true
  pub there : 0 < record_of xs d
  pub same : s ≡ slot xs (record_of xs d) (front_of xs d)
  pub size : length xs ≡ 61472
  pub place : s.state ≡ place s.index + 8
  pub room : s.state + 2040 ≤ 61472
  pub low : 1 ≤ s.index
  pub high : s.index ≤ 30
  pub front : s.front ≤ 30
  pub some : 1 ≤ s.count
  pub few : s.count ≤ 30

-- The first free record, for a drawer that is not there.
pub record Vacant (xs : List ℕ) (d : ℕ) (s : Slot) : Type 0 where
  pub ok : rules_ok xs ≡ true
  pub absent : record_of xs d ≡ 0
  pub number : (1 ≤ d) × (d ≤ 65535)
  pub same : s ≡ slot xs (first_free xs) 0
  pub size : length xs ≡ 61472
  pub place : s.state ≡ place s.index + 8
  pub room : s.state + 2040 ≤ 61472
  pub low : 1 ≤ s.index
  pub high : s.index ≤ 30
  pub fewer : s.count ≤ 29

none : (s : Slot) (why : Refusal) → Err why ≡ Ok s → ⊥
none s why e = let z : ◌≡◌ {A = ℕ} 0 1 = cc in omega arith

occ_length : (j : ℕ) (l : List ℕ) → occ j l ≤ length l
occ_length j [] = omega arith
occ_length j (x ∷ l) = omega (arith, occ_length j l, same_le x j)

last_small : (ys zs us : List ℕ) (i : ℕ) → us ≡ ys ++ i ∷ zs → ((j : ℕ) → 0 < occ j us → (1 ≤ j) × (j ≤ 30)) → last_or 0 ys ≤ 30
last_small [] zs us i e w = omega arith
last_small (y ∷ ys) zs us i e w =
    let b : (1 ≤ last_or y ys) × (last_or y ys ≤ 30) = w (last_or y ys)
    (omega (arith, ap (occ (last_or y ys)) e, occ_append (last_or y ys) (y ∷ ys) (i ∷ zs), last_in y ys)) in
    omega arith

module _ (xs : List ℕ) (d : ℕ) (ok : rules_ok xs ≡ true) (there : 0 < record_of xs d) where
  pub its_used : 0 < occ (record_of xs d) (used_of xs)
  unfolding record_of
  its_used = held_in (number_at xs) d (used_of xs) there

  its_front : front_of xs d ≤ 30
  unfolding record_of front_of
  its_front =
      let f = held (number_at xs) d 0 (used_of xs) there in
      omega (arith, f.front, last_small f.before f.behind (used_of xs) (record_of xs d) f.whole (within_used (passes xs ok)))

  pub occupied : (s : Slot) → s ≡ slot xs (record_of xs d) (front_of xs d) → Occupied xs d s
  occupied s e =
      let r = passes xs ok in
      let w : (1 ≤ record_of xs d) × (record_of xs d ≤ 30) = within_used r (record_of xs d) its_used in
      let i : s.index ≡ record_of xs d = ap (λ (s : Slot). s.index) e in
      let p : s.front ≡ front_of xs d = ap (λ (s : Slot). s.front) e in
      let q : s.state ≡ place (record_of xs d) + 8 = ap (λ (s : Slot). s.state) e in
      let c : s.count ≡ count_of xs = ap (λ (s : Slot). s.count) e in
      record {
        ok = ok;
        there = there;
        same = e;
        size = passes_size xs ok;
        place = q ∙ ap (λ (n : ℕ). place n + 8) (sym i);
        room = omega (arith, place_high (record_of xs d) w.0 w.1);
        low = omega arith;
        high = omega arith;
        front = omega (arith, its_front);
        some = omega (arith, r.counted, occ_length (record_of xs d) (used_of xs), its_used);
        few = omega (arith, count_small r);
      }

pub located : (xs : List ℕ) (d : ℕ) (s : Slot) → locate xs d ≡ Ok s → Occupied xs d s
unfolding locate
located xs d s h = go (rules_ok xs) (eqb (record_of xs d) 0) refl refl h
  where
    go : (b z : Bool) → rules_ok xs ≡ b → eqb (record_of xs d) 0 ≡ z
        → cond b (cond z (Err Refusals.Drawer) (Ok (slot xs (record_of xs d) (front_of xs d)))) (Err Refusals.Pool) ≡ Ok s → Occupied xs d s
    go false z eb ez e = absurd (none s Refusals.Pool e)
    go true true eb ez e = absurd (none s Refusals.Drawer e)
    go true false eb ez e =
        let n = eqb-false (record_of xs d) 0 ez in
        let same : s ≡ slot xs (record_of xs d) (front_of xs d) = cc in
        occupied xs d eb (omega arith) s same

pub vacant : (xs : List ℕ) (d : ℕ) (s : Slot) → vacancy xs d ≡ Ok s → Vacant xs d s
unfolding vacancy
vacant xs d s h = go (rules_ok xs) (is_number d) (eqb (record_of xs d) 0) (eqb (first_free xs) 0) refl refl refl refl h
  where
    go : (b n z f : Bool) → rules_ok xs ≡ b → is_number d ≡ n → eqb (record_of xs d) 0 ≡ z → eqb (first_free xs) 0 ≡ f
        → cond b (cond (n && z) (cond f (Err Refusals.Full) (Ok (slot xs (first_free xs) 0))) (Err Refusals.Drawer)) (Err Refusals.Pool) ≡ Ok s → Vacant xs d s
    go false n z f eb en ez ef e = absurd (none s Refusals.Pool e)
    go true false z f eb en ez ef e = absurd (none s Refusals.Drawer e)
    go true true false f eb en ez ef e = absurd (none s Refusals.Drawer e)
    go true true true true eb en ez ef e = absurd (none s Refusals.Full e)
    go true true true false eb en ez ef e =
        let same : s ≡ slot xs (first_free xs) 0 = cc in
        let r = passes xs eb in
        let k = eqb-false (first_free xs) 0 ef in
        let small : first_free xs ≤ 30 = start_small (next_at xs) (first_free xs) (free_of xs) r.walk_free (within_free r) in
        let i : s.index ≡ first_free xs = ap (λ (s : Slot). s.index) same in
        let c : s.count ≡ count_of xs = ap (λ (s : Slot). s.count) same in
        let q : s.state ≡ place (first_free xs) + 8 = ap (λ (s : Slot). s.state) same in
        record {
          ok = eb;
          absent = eqb-true (record_of xs d) 0 ez;
          number = number_true d en;
          same = same;
          size = passes_size xs eb;
          place = q ∙ ap (λ (n : ℕ). place n + 8) (sym i);
          room = omega (arith, place_high (first_free xs) (omega arith) small);
          low = omega arith;
          high = omega arith;
          fewer = omega (arith, count_below r (omega arith));
        }

-- What `slot_of` asks for, from what the code has found.
pub slot_there : (xs : List ℕ) (d i front : ℕ) (b : Bool) → b ≡ rules_ok xs → b ≡ true → (i ≡ record_of xs d) × (front ≡ front_of xs d) → (i ≡ 0 → ⊥)
    → (length xs ≡ 61472) × ((1 ≤ i) × (i ≤ 30))
slot_there xs d i front b e t f n =
    let is : i ≡ record_of xs d = f.0 in
    let s = occupied xs d (sym e ∙ t) (omega arith) (slot xs (record_of xs d) (front_of xs d)) refl in
    (s.size, (omega (arith, s.low), omega (arith, s.high)))

pub slot_spare : (xs : List ℕ) (i : ℕ) (b : Bool) → b ≡ rules_ok xs → b ≡ true → i ≡ first_free xs → (i ≡ 0 → ⊥) → (length xs ≡ 61472) × ((1 ≤ i) × (i ≤ 30))
slot_spare xs i b e t f n =
    let r = passes xs (sym e ∙ t) in
    let small : first_free xs ≤ 30 = start_small (next_at xs) (first_free xs) (free_of xs) r.walk_free (within_free r) in
    (passes_size xs (sym e ∙ t), (omega arith, omega arith))
