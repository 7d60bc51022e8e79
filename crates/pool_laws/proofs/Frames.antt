-- Each call leaves a pool that passes 13 one that passes it, and no call on one drawer touches another. Assumes nothing.
use Rattle.std.specs.Prelude.{Result, Ok, Err}
use mathlib.Core.Path.{◌≡◌, refl, sym, ap, ap₂, ◌∙◌}
use mathlib.Core.Logic.{◌≢◌}
use mathlib.Core.Bool.{Bool, true, false, cond, ◌&&◌}
use mathlib.Core.List.{List, ◌∷◌, ◌++◌}
use Prim.Native.Nat.{ℕ, ◌<◌}
use native.Mathlib.Omega.{arith}
use lib.Dec.{eqb, leb}
use lib.ListN.{length, replicate, length-append, length-replicate, get_or-append}
use lib.Ieee.{Float}
use borrow.Author.Tests.{eqb-true, eqb-false, eq-eqb}
use Rattle.types.specs.Refusals.{number}
use Rattle.types.specs.declared.Refusal.{Refusal}
use Rattle.types.specs.declared.Refusal.TheVariants as Refusals
use Rattle.deviation.specs.Statistics.{is_discount}
use Rattle.predictorcorrector.specs.declared.PredictorCorrector.{PredictorCorrector}
use Rattle.predictorcorrector.specs.State.{new, fresh_state}
use Rattle.layout.specs.Places.{state_length}
use Rattle.layout.specs.Numbers.{flag_byte, flag_bytes, f32_bytes, f64_bytes, i32_bytes, bytes4, bytes8}
use Rattle.layout.specs.States.{joined, encode_thresholder, encode_deviation}
use Rattle.layout.specs.Chain.{encode_head, encode_state_over}
use Rattle.layout.specs.Left.{Left, left}
use Rattle.stored_state.proofs.Back.{state_length_lem, head_put}
use Rattle.c_chain.specs.States.{chain_made}
use Rattle.c_chain.proofs.Steps.{refused_number}
use Rattle.record_pool.specs.Pool.{first_free, number_at, state_at, state_of, used_of, free_of, rules_ok, record_of, front_of, locate, vacancy, with_state, opened, removed}
use Rattle.record_pool.specs.declared.Slot.{Slot}
use Rattle.record_pool.proofs.Writes.{flags_in}
use Rattle.record_pool.proofs.Passing.{passes, passes_size, within_used}
use Rattle.record_pool.proofs.Finding.{held}
use Rattle.record_pool.proofs.Locating.{located, Vacant, vacant, its_used}
use Rattle.pool_drawers.specs.Drawers.{laid_out, lay_out, open_by, opening, remove_by, remove}
use Rattle.pool_laws.proofs.Opening.{opened_passes, opened_others, opened_states, opened_record, opened_used, opened_free}
use Rattle.pool_laws.proofs.Removing.{removed_passes, removed_others, removed_states}
use Rattle.pool_laws.proofs.Settling.{settled_passes, settled_records, settled_states}
use Rattle.pool_laws.proofs.LayingOut.{empty_passes}

-- ---- drawers and records.
its_number : (xs : List ℕ) (d : ℕ) → 0 < record_of xs d → number_at xs (record_of xs d) ≡ d
unfolding record_of
its_number xs d there = (held (number_at xs) d 0 (used_of xs) there).has

two_drawers : (xs : List ℕ) (d e : ℕ) → 0 < record_of xs d → 0 < record_of xs e → e ≢ d → record_of xs e ≢ record_of xs d
two_drawers xs d e hd he n q = n (sym (its_number xs e he) ∙ ap (number_at xs) q ∙ its_number xs d hd)

-- Drawer e is where it was, with the state it had.
pub record Undisturbed (xs out : List ℕ) (e : ℕ) : Type 0 where
  pub place_kept : record_of out e ≡ record_of xs e
  pub state_kept : 0 < record_of xs e → state_of out e ≡ state_of xs e

pub undisturbed_by : (xs out : List ℕ) (e : ℕ) → out ≡ xs → Undisturbed xs out e
undisturbed_by xs out e q = record { place_kept = ap (λ (l : List ℕ). record_of l e) q; state_kept = λ h. ap (λ (l : List ℕ). state_of l e) q }

from_records : (xs out : List ℕ) (e : ℕ) → record_of out e ≡ record_of xs e → (0 < record_of xs e → state_at out (record_of xs e) ≡ state_at xs (record_of xs e)) → Undisturbed xs out e
unfolding state_of
from_records xs out e p s = record { place_kept = p; state_kept = λ h. ap (state_at out) p ∙ s h }

above : (why : Refusal) → number why ≡ 0 → ⊥
above why e = eqb-false (number why) 0 (refused_number why) e

-- ---- laying out.
pub lay_out_kept : (xs : List ℕ) → rules_ok xs ≡ true → rules_ok (lay_out xs).bytes ≡ true
unfolding lay_out
lay_out_kept xs ok = ap (λ (b : Bool). rules_ok (cond b (left 0 laid_out) (left 13 xs)).bytes) (eq-eqb (length xs) 61472 (passes_size xs ok)) ∙ empty_passes

-- ---- removing.
module _ (xs : List ℕ) (d : ℕ) where
  removes_it : (s : Slot) → locate xs d ≡ Ok s → remove d xs ≡ left 0 (removed xs (front_of xs d) (record_of xs d))
  unfolding remove
  removes_it s e = ap (λ (l : Result Slot Refusal). remove_by l xs) e ∙ ap (λ (s : Slot). left 0 (removed xs s.front s.index)) (located xs d s e).same

  pub removed_or_refused : (remove d xs).answer ≡ 0 → (0 < record_of xs d) × (rules_ok xs ≡ true) × (remove d xs ≡ left 0 (removed xs (front_of xs d) (record_of xs d)))
  unfolding remove
  removed_or_refused z = go (locate xs d) refl
    where
      go : (l : Result Slot Refusal) → locate xs d ≡ l → (0 < record_of xs d) × (rules_ok xs ≡ true) × (remove d xs ≡ left 0 (removed xs (front_of xs d) (record_of xs d)))
      go (Ok s) e = let t = located xs d s e in (t.there, t.ok, removes_it s e)
      go (Err why) e = absurd (above why (sym (ap (λ (l : Result Slot Refusal). (remove_by l xs).answer) e) ∙ z))

  pub remove_kept : rules_ok xs ≡ true → rules_ok (remove d xs).bytes ≡ true
  unfolding remove
  remove_kept ok = go (locate xs d) refl
    where
      go : (l : Result Slot Refusal) → locate xs d ≡ l → rules_ok (remove_by (locate xs d) xs).bytes ≡ true
      go (Ok s) e = let t = located xs d s e in ap (λ (l : Left). rules_ok l.bytes) (removes_it s e) ∙ removed_passes xs d ok t.there
      go (Err why) e = ap (λ (l : Result Slot Refusal). rules_ok (remove_by l xs).bytes) e ∙ ok

  pub remove_leaves : (e : ℕ) → e ≢ d → Undisturbed xs (remove d xs).bytes e
  unfolding remove
  remove_leaves e n = go (locate xs d) refl
    where
      go : (l : Result Slot Refusal) → locate xs d ≡ l → Undisturbed xs (remove_by (locate xs d) xs).bytes e
      go (Ok s) q =
          let t = located xs d s q in
          rw (removes_it s q) (from_records xs (removed xs (front_of xs d) (record_of xs d)) e (removed_others xs d t.ok t.there e n)
          (λ h. removed_states xs d t.ok t.there (record_of xs e) (its_used xs e t.ok h) (two_drawers xs d e t.there h n)))
      go (Err why) q = undisturbed_by xs (remove_by (locate xs d) xs).bytes e (ap (λ (l : Result Slot Refusal). (remove_by l xs).bytes) q)

-- ---- the yes/no bytes of a state that was written.
flag_small : (b : Bool) → leb (flag_byte b) 1 ≡ true
flag_small true = refl
flag_small false = refl

head_flags : (s : PredictorCorrector) → flags_in (encode_head s) ≡ true
unfolding flags_in encode_head encode_thresholder encode_deviation joined f32_bytes f64_bytes i32_bytes flag_bytes bytes8 bytes4
head_flags s = ap₂ (λ (a b : Bool). a && b) (flag_small s.basic_thresholder.auto_threshold) (flag_small s.auto_adjust)

pub stored_flags : (ys : List ℕ) (s : PredictorCorrector) → length ys ≡ state_length → flags_in (encode_state_over ys s) ≡ true
unfolding flags_in
stored_flags ys s size =
    let w = head_put ys s size in
    ap₂ (λ (a b : ℕ). leb a 1 && leb b 1) (w.at 124 (omega arith)) (w.at 149 (omega arith)) ∙ head_flags s

-- ---- opening.
-- A construction whose state was stored is one that `new` accepts.
new_is : (d : Float) (auto : Bool) (base adjust : ℕ) (out : List ℕ) → (chain_made (new d auto base) adjust out).answer ≡ 0 → new d auto base ≡ Ok (fresh_state d auto base)
unfolding chain_made new
new_is d auto base adjust out = go (is_discount d) (leb 1 base && leb base 16)
  where
    go : (b c : Bool) → (chain_made (cond b (cond c (Ok (fresh_state d auto base)) (Err Refusals.Range)) (Err Refusals.Discount)) adjust out).answer ≡ 0
        → cond b (cond c (Ok (fresh_state d auto base)) (Err Refusals.Range)) (Err Refusals.Discount) ≡ Ok (fresh_state d auto base)
    go true true z = refl
    go true false z = absurd (omega arith)
    go false c z = absurd (omega arith)

made_is : (s : PredictorCorrector) (adjust : ℕ) (out : List ℕ) → (chain_made (Ok s) adjust out).answer ≡ 0 → (chain_made (Ok s) adjust out).bytes ≡ encode_state_over (replicate (length out) 0) s
unfolding chain_made
made_is s adjust out z = go (leb adjust 1) (eqb (length out) state_length) z
  where
    go : (b c : Bool) → (cond b (cond c (left 0 (encode_state_over (replicate (length out) 0) s)) (left 3 out)) (left 2 out)).answer ≡ 0
        → (cond b (cond c (left 0 (encode_state_over (replicate (length out) 0) s)) (left 3 out)) (left 2 out)).bytes ≡ encode_state_over (replicate (length out) 0) s
    go false c e = absurd (omega arith)
    go true false e = absurd (omega arith)
    go true true e = refl

flags_front : (ys zs : List ℕ) → length ys ≡ state_length → flags_in ys ≡ true → flags_in (ys ++ zs) ≡ true
unfolding flags_in
flags_front ys zs size f =
    ap₂ (λ (a b : ℕ). leb a 1 && leb b 1) (get_or-append ys zs 0 124 (omega arith)) (get_or-append ys zs 0 149 (omega arith)) ∙ f

module _ (xs : List ℕ) (d : ℕ) (discount : Float) (adjust base : ℕ) where
  abbrev pub made : Left
  made = chain_made (new discount (eqb adjust 1) base) adjust (replicate state_length 0)

  abbrev pub rest : List ℕ
  rest = made.bytes ++ replicate 730 0

  -- The bytes of a new state, and zeros behind them.
  module _ (z : made.answer ≡ 0) where
    zeros_long : length (replicate {A = ℕ} state_length 0) ≡ state_length
    zeros_long = length-replicate {A = ℕ} state_length 0

    pub accepted : new discount (eqb adjust 1) base ≡ Ok (fresh_state discount (eqb adjust 1) base)
    accepted = new_is discount (eqb adjust 1) base adjust (replicate state_length 0) z

    pub made_bytes : made.bytes ≡ encode_state_over (replicate state_length 0) (fresh_state discount (eqb adjust 1) base)
    made_bytes =
        let by : made ≡ chain_made (Ok (fresh_state discount (eqb adjust 1) base)) adjust (replicate state_length 0) =
        ap (λ (u : Result PredictorCorrector Refusal). chain_made u adjust (replicate state_length 0)) accepted in
        ap (λ (l : Left). l.bytes) by
        ∙ made_is (fresh_state discount (eqb adjust 1) base) adjust (replicate state_length 0) (sym (ap (λ (l : Left). l.answer) by) ∙ z)
        ∙ ap (λ (n : ℕ). encode_state_over (replicate n 0) (fresh_state discount (eqb adjust 1) base)) zeros_long

    pub made_long : length made.bytes ≡ state_length
    made_long = ap length made_bytes ∙ state_length_lem (replicate state_length 0) (fresh_state discount (eqb adjust 1) base) zeros_long

    pub rest_long : length rest ≡ 2040
    rest_long = omega (arith, length-append made.bytes (replicate 730 0), length-replicate {A = ℕ} 730 0, made_long)

    rest_flags : flags_in rest ≡ true
    rest_flags =
        flags_front made.bytes (replicate 730 0) made_long
        (ap flags_in made_bytes ∙ stored_flags (replicate state_length 0) (fresh_state discount (eqb adjust 1) base) zeros_long)

  -- Either nothing changed, or the drawer was opened.
  pub data Opening : Type 0 where
    refused : (opening d discount adjust base xs).bytes ≡ xs → ((opening d discount adjust base xs).answer ≡ 0 → ⊥) → Opening
    opens : (s : Slot) → Vacant xs d s → made.answer ≡ 0 → opening d discount adjust base xs ≡ left 0 (opened xs d rest) → Opening

  pub which : Opening
  unfolding opening
  which = go (vacancy xs d) refl
    where
      asked : (s : Slot) → vacancy xs d ≡ Ok s → (b : Bool) → eqb made.answer 0 ≡ b → Opening
      asked s e true q =
          opens s (vacant xs d s e) (eqb-true made.answer 0 q)
          (ap (λ (l : Result Slot Refusal). open_by l made d xs) e ∙ ap (λ (b : Bool). cond b (left 0 (opened xs d rest)) (left made.answer xs)) q)
      asked s e false q =
          let is : open_by (vacancy xs d) made d xs ≡ left made.answer xs =
          ap (λ (l : Result Slot Refusal). open_by l made d xs) e ∙ ap (λ (b : Bool). cond b (left 0 (opened xs d rest)) (left made.answer xs)) q in
          refused (ap (λ (l : Left). l.bytes) is) (λ z. eqb-false made.answer 0 q (sym (ap (λ (l : Left). l.answer) is) ∙ z))

      go : (l : Result Slot Refusal) → vacancy xs d ≡ l → Opening
      go (Ok s) e = asked s e (eqb made.answer 0) refl
      go (Err why) e =
          let is : open_by (vacancy xs d) made d xs ≡ left (number why) xs = ap (λ (l : Result Slot Refusal). open_by l made d xs) e in
          refused (ap (λ (l : Left). l.bytes) is) (λ z. above why (sym (ap (λ (l : Left). l.answer) is) ∙ z))

  module _ (s : Slot) (v : Vacant xs d s) (z : made.answer ≡ 0) where
    spare : 0 < first_free xs
    spare = let i : s.index ≡ first_free xs = ap (λ (s : Slot). s.index) v.same in omega (arith, v.low)

    pub opens_passes : rules_ok (opened xs d rest) ≡ true
    opens_passes = opened_passes xs d rest v.ok spare v.number.0 v.number.1 v.absent (rest_long z) (rest_flags z)

    pub opens_leaves : (e : ℕ) → e ≢ d → Undisturbed xs (opened xs d rest) e
    opens_leaves e n =
        from_records xs (opened xs d rest) e (opened_others xs d rest v.ok spare v.number.0 v.number.1 v.absent (rest_long z) (rest_flags z) e n)
        (λ h. opened_states xs d rest v.ok spare v.number.0 v.number.1 v.absent (rest_long z) (rest_flags z) (record_of xs e) (its_used xs e v.ok h))

    pub opens_record : record_of (opened xs d rest) d ≡ first_free xs
    opens_record = opened_record xs d rest v.ok spare v.number.0 v.number.1 v.absent (rest_long z) (rest_flags z)

    pub opens_used : used_of (opened xs d rest) ≡ first_free xs ∷ used_of xs
    opens_used = opened_used xs d rest v.ok spare v.number.0 v.number.1 v.absent (rest_long z) (rest_flags z)

    pub opens_free : free_of xs ≡ first_free xs ∷ free_of (opened xs d rest)
    opens_free = opened_free xs d rest v.ok spare v.number.0 v.number.1 v.absent (rest_long z) (rest_flags z)

  pub open_kept : rules_ok xs ≡ true → rules_ok (opening d discount adjust base xs).bytes ≡ true
  open_kept ok = go which
    where
      go : Opening → rules_ok (opening d discount adjust base xs).bytes ≡ true
      go (refused e n) = ap rules_ok e ∙ ok
      go (opens s v z e) = ap (λ (l : Left). rules_ok l.bytes) e ∙ opens_passes s v z

  pub open_leaves : (e : ℕ) → e ≢ d → Undisturbed xs (opening d discount adjust base xs).bytes e
  open_leaves e n = go which
    where
      go : Opening → Undisturbed xs (opening d discount adjust base xs).bytes e
      go (refused q m) = undisturbed_by xs (opening d discount adjust base xs).bytes e q
      go (opens s v z q) = rw q (opens_leaves s v z e n)

-- ---- a call on a state's bytes: it wrote nothing, or as many bytes as a state has, of which the yes/no ones are 0 or 1.
pub data Wrote (xs : List ℕ) (d : ℕ) (out : List ℕ) : Type 0 where
  nothing : out ≡ xs → Wrote xs d out
  state : (ys : List ℕ) → rules_ok xs ≡ true → 0 < record_of xs d → length ys ≡ state_length → flags_in ys ≡ true → out ≡ with_state xs (record_of xs d) ys → Wrote xs d out

module _ (xs : List ℕ) (d : ℕ) (out : List ℕ) where
  pub wrote_kept : Wrote xs d out → rules_ok xs ≡ true → rules_ok out ≡ true
  wrote_kept (nothing q) ok = ap rules_ok q ∙ ok
  wrote_kept (state ys o there size f q) ok =
      ap rules_ok q ∙ settled_passes xs (record_of xs d) ys ok (its_used xs d ok there) (omega arith) (omega arith) f

  pub wrote_records : Wrote xs d out → (e : ℕ) → record_of out e ≡ record_of xs e
  wrote_records (nothing q) e = ap (λ (l : List ℕ). record_of l e) q
  wrote_records (state ys ok there size f q) e =
      ap (λ (l : List ℕ). record_of l e) q ∙ settled_records xs (record_of xs d) ys ok (its_used xs d ok there) (omega arith) (omega arith) f e

  pub wrote_leaves : Wrote xs d out → (e : ℕ) → e ≢ d → Undisturbed xs out e
  wrote_leaves (nothing q) e n = undisturbed_by xs out e q
  wrote_leaves (state ys ok there size f q) e n =
      from_records xs out e (wrote_records (state ys ok there size f q) e)
      (λ h. ap (λ (l : List ℕ). state_at l (record_of xs e)) q
      ∙ settled_states xs (record_of xs d) ys ok (its_used xs d ok there) (omega arith) (omega arith) f (record_of xs e)
      (within_used (passes xs ok) (record_of xs e) (its_used xs e ok h)).0 (two_drawers xs d e there h n))
