-- The calls' branches over plain variables. Assumes nothing.
use Rattle.std.specs.Prelude.{Result, Ok, Err}
use mathlib.Core.Path.{◌≡◌, refl, sym, ap, subst, ◌∙◌}
use mathlib.Core.Bool.{Bool, true, false, cond}
use mathlib.Core.List.{List, ◌++◌}
use Prim.Native.Nat.{ℕ, ◌+◌, ◌-◌, ◌≤◌}
use native.Mathlib.Omega.{arith}
use lib.ListN.{length, take, drop}
use lib.Ieee.{Float, of_bits, binary32}
use Rattle.types.specs.Refusals.{number}
use Rattle.types.specs.declared.Refusal.{Refusal}
use Rattle.types.specs.declared.Refusal.TheVariants.{Horizon}
use Rattle.basicthresholder.specs.Updates.{is_horizon, set_score_differencing, with_score_differencing}
use Rattle.predictorcorrector.specs.declared.PredictorCorrector.{PredictorCorrector}
use Rattle.predictorcorrector.specs.State.{updated, with_thresholder, set_horizon}
use Rattle.layout.specs.Places.{state_length, score_differencing_at}
use Rattle.layout.specs.Numbers.{le4, f32_at, pasted}
use Rattle.layout.specs.Chain.{decode_state, encode_state_over}
use Rattle.layout.specs.Left.{Left, left}
use Rattle.c_chain.specs.States.{chain_refusal, chain_set, horizon_set_in}
use Rattle.record_pool.specs.Pool.{locate, place, state_at, with_state}
use Rattle.record_pool.specs.declared.Slot.{Slot}
use Rattle.record_pool.proofs.Locating.{Occupied, located}
use Rattle.record_pool.proofs.Putting.{part_put}
use Rattle.pool_settings.specs.Sameness.{same_float, same_state}
use Rattle.pool_settings.specs.Settings.{Setting, horizon, stored_unless_same, changed, stored_on, set_on, in_record, set_by, set}
use Rattle.pool_settings.specs.Steps.{found_by, found, horizon_answer}
use Rattle.pool_settings.specs.declared.Found.{Found}
use Rattle.pool_settings.specs.declared.Found.TheVariants.{At, Same, Refused}
use Rattle.pool_settings.proofs.Sameness.{horizon_compared}
use Rattle.pool_settings.proofs.Stored.{state_single, state_long, state_kept, occupied_fits, occupied_ready}
use Rattle.types.specs.declared.Updated.{Updated}

-- ---- `find`.
module _ (xs : List ℕ) (d k : ℕ) (x : Float) where
  pub found_there : (s : Slot) (n : ℕ) (y : Float) (b c : Bool) → locate xs d ≡ Ok s → n ≡ le4 xs (s.state + k) → y ≡ of_bits binary32 n → b ≡ same_float y x → b ≡ c
      → cond c Same (At s.state) ≡ found xs d k x
  unfolding found f32_at
  found_there s n y b c e en ey eb ec =
      let tells : c ≡ same_float (of_bits binary32 (le4 xs (s.state + k))) x = sym ec ∙ eb ∙ ap (λ (z : Float). same_float z x) (ey ∙ ap (of_bits binary32) en) in
      ap (λ (b : Bool). cond b Same (At s.state)) tells ∙ sym (ap (λ (l : Result Slot Refusal). found_by l xs k x) e)

  pub found_refused : (why : Refusal) → locate xs d ≡ Err why → Refused why ≡ found xs d k x
  unfolding found
  found_refused why e = sym (ap (λ (l : Result Slot Refusal). found_by l xs k x) e)

  -- ---- what its answer tells: the drawer's record, and whether its number at place k is x.
  pub record Met (same : Bool) (from : ℕ) : Type 0 where
    pub slot : Slot
    pub there : locate xs d ≡ Ok slot
    pub told : same_float (f32_at xs (slot.state + k)) x ≡ same
    pub start : from ≡ slot.state

  abbrev Tells : Found → Type 0
  Tells (At from) = Met false from
  Tells Same = (from : ℕ) × Met true from
  Tells (Refused why) = locate xs d ≡ Err why

  by_located : (l : Result Slot Refusal) → locate xs d ≡ l → Tells (found_by l xs k x)
  by_located (Ok s) e = go (same_float (f32_at xs (s.state + k)) x) refl
    where
      go : (b : Bool) → same_float (f32_at xs (s.state + k)) x ≡ b → Tells (cond b Same (At s.state))
      go true q = (s.state, record { slot = s; there = e; told = q; start = refl })
      go false q = record { slot = s; there = e; told = q; start = refl }
  by_located (Err why) e = e

  tells : (f : Found) → f ≡ found xs d k x → (g : Found) → f ≡ g → Tells g
  unfolding found
  tells f e g q = subst Tells (sym e ∙ q) (by_located (locate xs d) refl)

  -- ---- the record that was met.
  module _ (same : Bool) (from : ℕ) (m : Met same from) where
    abbrev index : ℕ
    index = m.slot.index

    occupied_is : Occupied xs d m.slot
    occupied_is = located xs d m.slot m.there

    room : (from + state_length ≤ 61472) × (length xs ≡ 61472)
    room = let s = occupied_is in (omega (arith, m.start, s.room), s.size)

    begins : from ≡ place index + 8
    begins = m.start ∙ occupied_is.place

    fits : place index + 8 + state_length ≤ length xs
    fits = occupied_fits xs d m.slot occupied_is

    ready : chain_refusal (state_at xs index) ≡ 0
    ready = occupied_ready xs d m.slot occupied_is

    number_is : k + 4 ≤ state_length → same_float (f32_at (state_at xs index) k) x ≡ same
    number_is h =
        ap (λ (z : Float). same_float z x) (state_single xs index k h ∙ ap (λ (n : ℕ). f32_at xs (n + k)) (sym occupied_is.place)) ∙ m.told

    set_is : (c : Setting) → set c d xs ≡ in_record xs index (stored_on (changed c (decode_state (state_at xs index))) (state_at xs index))
    unfolding set set_on
    set_is c = ap (λ (l : Result Slot Refusal). set_by l c xs) m.there

    -- The part that is lent to the setter is the state, and the pool afterwards has its bytes in place of the state.
    part_is : take (from + state_length - from) (drop from xs) ≡ state_at xs index
    unfolding state_at
    part_is =
        let n : from + state_length - from ≡ state_length = omega arith in
        ap (λ (n : ℕ). take n (drop from xs)) n ∙ ap (λ (a : ℕ). take state_length (drop a xs)) begins

    whole_is : (ys : List ℕ) → length ys ≡ length (take (from + state_length - from) (drop from xs))
        → take from xs ++ (ys ++ drop (from + state_length - from) (drop from xs)) ≡ with_state xs index ys
    unfolding with_state
    whole_is ys e =
        let long : length ys ≡ from + state_length - from = omega (arith, e, ap length part_is, state_long xs index fits) in
        part_put xs ys from (from + state_length - from) long ∙ ap (λ (a : ℕ). pasted xs a ys) begins

  -- Where a setter may write.
  pub found_room : (g : Found) → g ≡ found xs d k x → (from : ℕ) → g ≡ At from → (from + state_length ≤ 61472) × (length xs ≡ 61472)
  found_room g e from q = room false from (tells g e (At from) q)

  pub set_refused : (c : Setting) (g : Found) → g ≡ found xs d k x → (why : Refusal) (n : ℕ) → g ≡ Refused why → n ≡ number why → left n xs ≡ set c d xs
  unfolding set
  set_refused c g e why n q p = ap (λ (n : ℕ). left n xs) p ∙ sym (ap (λ (l : Result Slot Refusal). set_by l c xs) (tells g e (Refused why) q))

  -- ---- a setting that no value is refused of, f being what it makes of a state.
  module _ (small : k + 4 ≤ state_length) (c : Setting) (f : PredictorCorrector → PredictorCorrector) (plain : (s : PredictorCorrector) → changed c s ≡ updated (Ok tt) (f s))
      (compared : (ys : List ℕ) → same_state (decode_state ys) (f (decode_state ys)) ≡ same_float (f32_at ys k) x) where
    stored : (same : Bool) (from : ℕ) (m : Met same from) → set c d xs
        ≡ left 0 (with_state xs m.slot.index (cond same (state_at xs m.slot.index) (encode_state_over (state_at xs m.slot.index) (f (decode_state (state_at xs m.slot.index))))))
    unfolding stored_unless_same
    stored same from m =
        let i = m.slot.index in
        let ys = state_at xs i in
        set_is same from m c ∙ ap (λ (u : Updated PredictorCorrector). in_record xs i (stored_on u ys)) (plain (decode_state ys))
        ∙ ap (λ (b : Bool). left 0 (with_state xs i (cond b ys (encode_state_over ys (f (decode_state ys)))))) (compared ys ∙ number_is same from m small)

    pub set_same : (g : Found) → g ≡ found xs d k x → g ≡ Same → left 0 xs ≡ set c d xs
    set_same g e q =
        let m = tells g e Same q in
        sym (stored true m.0 m.1 ∙ ap (left 0) (state_kept xs m.1.slot.index (fits true m.0 m.1)))

    pub set_other : (g : Found) → g ≡ found xs d k x → (from : ℕ) → g ≡ At from → (r : ℕ) (ys : List ℕ) → length ys ≡ length (take (from + state_length - from) (drop from xs))
        → left r ys ≡ chain_set f (take (from + state_length - from) (drop from xs)) → left r (take from xs ++ (ys ++ drop (from + state_length - from) (drop from xs))) ≡ set c d xs
    unfolding chain_set
    set_other g e from q r ys long h =
        let m = tells g e (At from) q in
        let i = m.slot.index in
        let done : left r ys ≡ left 0 (encode_state_over (state_at xs i) (f (decode_state (state_at xs i)))) = h ∙ ap (chain_set f) (part_is false from m) ∙ rw (ready false from m) in
        ap (left r) (whole_is false from m ys long) ∙ ap (λ (l : Left). left l.answer (with_state xs i l.bytes)) done ∙ sym (stored false from m)

-- ---- the horizon: one that may be set is a setting as the others are, any other leaves the pool.
abbrev with_horizon : Float → PredictorCorrector → PredictorCorrector
with_horizon x s = with_thresholder s (with_score_differencing s.basic_thresholder x)

module _ (x : Float) where
  valid : is_horizon x ≡ true → (s : PredictorCorrector) → set_horizon s x ≡ updated (Ok tt) (with_horizon x s)
  unfolding set_horizon set_score_differencing
  valid h s = rw h

  invalid : is_horizon x ≡ false → (s : PredictorCorrector) → set_horizon s x ≡ updated (Err Horizon) s
  unfolding set_horizon set_score_differencing
  invalid h s = rw h

  module _ (ys : List ℕ) (none : chain_refusal ys ≡ 0) where
    set_in : is_horizon x ≡ true → horizon_set_in x ys ≡ chain_set (with_horizon x) ys
    unfolding horizon_set_in chain_set
    set_in h = rw (none, valid h (decode_state ys))

    kept_in : is_horizon x ≡ false → horizon_set_in x ys ≡ left 7 ys
    unfolding horizon_set_in
    kept_in h = rw (none, invalid h (decode_state ys))

module _ (xs : List ℕ) (d : ℕ) (x : Float) where
  abbrev at : ℕ
  at = score_differencing_at

  kept : is_horizon x ≡ false → (same : Bool) (from : ℕ) → Met xs d at x same from → left 7 xs ≡ set (horizon x) d xs
  kept h same from m =
      let i = m.slot.index in
      sym (set_is xs d at x same from m (horizon x) ∙ ap (λ (u : Updated PredictorCorrector). in_record xs i (stored_on u (state_at xs i))) (invalid x h (decode_state (state_at xs i)))
      ∙ ap (left 7) (state_kept xs i (fits xs d at x same from m)))

  module _ (g : Found) (e : g ≡ found xs d at x) where
    pub horizon_same : g ≡ Same → (n : ℕ) → n ≡ horizon_answer x → left n xs ≡ set (horizon x) d xs
    unfolding horizon_answer
    horizon_same q n p = ap (λ (n : ℕ). left n xs) p ∙ go (is_horizon x) refl
      where
        go : (b : Bool) → is_horizon x ≡ b → left (cond b 0 7) xs ≡ set (horizon x) d xs
        go true h = set_same xs d at x (omega arith) (horizon x) (with_horizon x) (valid x h) (horizon_compared x) g e q
        go false h = let m = tells xs d at x g e Same q in kept h true m.0 m.1

    module _ (from : ℕ) (q : g ≡ At from) (r : ℕ) (ys : List ℕ) (long : length ys ≡ length (take (from + state_length - from) (drop from xs)))
        (h : left r ys ≡ horizon_set_in x (take (from + state_length - from) (drop from xs))) where
      met : Met xs d at x false from
      met = tells xs d at x g e (At from) q

      accepts : chain_refusal (take (from + state_length - from) (drop from xs)) ≡ 0
      accepts = rw (part_is xs d at x false from met) (ready xs d at x false from met)

      pub horizon_other : left r (take from xs ++ (ys ++ drop (from + state_length - from) (drop from xs))) ≡ set (horizon x) d xs
      horizon_other = go (is_horizon x) refl
        where
          part : List ℕ
          part = take (from + state_length - from) (drop from xs)

          go : (b : Bool) → is_horizon x ≡ b → left r (take from xs ++ (ys ++ drop (from + state_length - from) (drop from xs))) ≡ set (horizon x) d xs
          go true v =
              set_other xs d at x (omega arith) (horizon x) (with_horizon x) (valid x v) (horizon_compared x) g e from q r ys long (h ∙ set_in x part accepts v)
          go false v =
              let i = met.slot.index in
              ap (left r) (whole_is xs d at x false from met ys long)
              ∙ ap (λ (l : Left). left l.answer (with_state xs i l.bytes)) (h ∙ kept_in x part accepts v ∙ ap (left 7) (part_is xs d at x false from met))
              ∙ ap (left 7) (state_kept xs i (fits xs d at x false from met)) ∙ kept v false from met
