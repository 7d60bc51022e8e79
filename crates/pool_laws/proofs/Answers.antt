-- What a call's answer says: not 13, that the rules hold of the pool afterwards; not 0, that no byte changed. Assumes nothing.
use Rattle.std.specs.Prelude.{Result, Ok, Err}
use mathlib.Core.Path.{◌≡◌, refl, ap, subst, ◌∙◌}
use mathlib.Core.Logic.{◌≢◌}
use mathlib.Core.Bool.{Bool, true, false, cond, ◌&&◌}
use mathlib.Core.List.{List}
use Prim.Native.Nat.{ℕ}
use lib.Dec.{eqb}
use lib.IntN.{ℤ}
use lib.ListN.{length, replicate}
use lib.Ieee.{Float}
use Rattle.types.specs.Refusals.{answered}
use Rattle.types.specs.declared.Refusal.{Refusal}
use Rattle.types.specs.declared.Refusal.TheVariants as Refusals
use Rattle.predictorcorrector.specs.declared.PredictorCorrector.{PredictorCorrector}
use Rattle.detection.specs.Judged.{outcome_number, written}
use Rattle.verdict_bytes.specs.Bytes.{state_left, verdict_left}
use Rattle.predictorcorrector.specs.State.{new}
use Rattle.layout.specs.Places.{state_length}
use Rattle.layout.specs.Chain.{decode_state}
use Rattle.layout.specs.Left.{Left, left}
use Rattle.c_chain.specs.States.{chain_made}
use Rattle.c_judging.specs.Judging.{outcome_over, state_over}
use Rattle.record_pool.specs.Pool.{rules_ok, record_of, state_at, locate, vacancy, numbers_of, with_state}
use Rattle.record_pool.proofs.Locating.{located}
use Rattle.pool_drawers.specs.Drawers.{laid_out, lay_out, open_by, opening, remove_by, remove, list}
use Rattle.pool_settings.specs.Settings.{Setting, changed, stored_unless_same, set_on, set_by, set}
use Rattle.pool_settings.proofs.Stored.{state_kept}
use Rattle.pool_judging.specs.Judging.{Unjudged, JudgedBy}
use Rattle.pool_laws.specs.Calls.{Asked, Reply, Call, lays_out, opens, removes, lists, sets, judges, Contract, after, answer_of, SlicesStay}
use Rattle.pool_laws.specs.Isolation.{Holds}
use Rattle.pool_laws.proofs.LayingOut.{empty_passes}
use Rattle.pool_laws.proofs.Frames.{which}
use Rattle.pool_laws.proofs.Frames as Frames
use Rattle.pool_laws.proofs.Alone.{still_sound, its_room, set_is, judged_in}
use Rattle.detection.specs.declared.Verdict.{Verdict}
use Rattle.record_pool.specs.declared.Slot.{Slot}
use Rattle.types.specs.declared.Updated.{Updated}

-- ---- a pool that breaks the rules is answered 13.
module _ (xs : List ℕ) (d : ℕ) (broken : rules_ok xs ≡ false) where
  not_located : locate xs d ≡ Err Refusals.Pool
  unfolding locate
  not_located = rw broken

  no_vacancy : vacancy xs d ≡ Err Refusals.Pool
  unfolding vacancy
  no_vacancy = rw broken

neither : (a : Bool) (l m : Left) → cond (a && false) l m ≡ m
neither true l m = refl
neither false l m = refl

-- What a call other than laying out answers to it.
thirteen_open : (xs : List ℕ) (d : ℕ) (discount : Float) (adjust base n : ℕ) (ys : List ℕ) → left n ys ≡ opening d discount adjust base xs → rules_ok xs ≡ false → n ≡ 13
unfolding opening
thirteen_open xs d discount adjust base n ys e b =
    ap (λ (l : Left). l.answer) (e ∙ ap (λ (l : Result Slot Refusal). open_by l (chain_made (new discount (eqb adjust 1) base) adjust (replicate state_length 0)) d xs) (no_vacancy xs d b))

thirteen_remove : (xs : List ℕ) (d n : ℕ) (ys : List ℕ) → left n ys ≡ remove d xs → rules_ok xs ≡ false → n ≡ 13
unfolding remove
thirteen_remove xs d n ys e b = ap (λ (l : Left). l.answer) (e ∙ ap (λ (l : Result Slot Refusal). remove_by l xs) (not_located xs d b))

thirteen_set : (xs : List ℕ) (d : ℕ) (c : Setting) (n : ℕ) (ys : List ℕ) → left n ys ≡ set c d xs → rules_ok xs ≡ false → n ≡ 13
unfolding set
thirteen_set xs d c n ys e b = ap (λ (l : Left). l.answer) (e ∙ ap (λ (l : Result Slot Refusal). set_by l c xs) (not_located xs d b))

thirteen_list : (xs out : List ℕ) (n : ℕ) (out' : List ℕ) → left n out' ≡ list xs out → rules_ok xs ≡ false → n ≡ 13
unfolding list
thirteen_list xs out n out' e b =
    ap (λ (l : Left). l.answer) (e ∙ ap (λ (b : Bool). cond (eqb (length out) 30 && b) (left 0 (numbers_of xs)) (left 13 out)) b ∙ neither (eqb (length out) 30) (left 0 (numbers_of xs)) (left 13 out))

unjudged : (xs : List ℕ) (d : ℕ) (a : Asked) (t : Reply) (ys : List ℕ) (why : Refusal) → Contract xs (judges d a t ys) → locate xs d ≡ Err why
    → Unjudged xs a.reading a.last a.lent t.answer a.expected a.high a.low a.verdict ys t.expected t.high t.low t.verdict why
unjudged xs d a t ys why c q =
    subst (JudgedBy xs a.reading a.last a.lent t.answer a.expected a.high a.low a.verdict ys t.expected t.high t.low t.verdict) q c

-- So the rules hold of a pool that was not answered 13, and then afterwards too.
by_answer : (xs : List ℕ) (c : Call) → Contract xs c → (rules_ok xs ≡ false → answer_of c ≡ 13) → answer_of c ≢ 13 → rules_ok (after xs c) ≡ true
by_answer xs c e told n = go (rules_ok xs) refl
  where
    go : (b : Bool) → rules_ok xs ≡ b → rules_ok (after xs c) ≡ true
    go true q = still_sound xs c e q
    go false q = absurd (n (told q))

pub kept : (xs : List ℕ) (c : Call) → Contract xs c → answer_of c ≢ 13 → rules_ok (after xs c) ≡ true
unfolding lay_out
kept xs (lays_out n ys) e m = go (eqb (length xs) 61472) refl
  where
    go : (b : Bool) → eqb (length xs) 61472 ≡ b → rules_ok ys ≡ true
    go true q = ap (λ (l : Left). rules_ok l.bytes) (e ∙ ap (λ (b : Bool). cond b (left 0 laid_out) (left 13 xs)) q) ∙ empty_passes
    go false q = absurd (m (ap (λ (l : Left). l.answer) (e ∙ ap (λ (b : Bool). cond b (left 0 laid_out) (left 13 xs)) q)))
kept xs (opens d discount adjust base n ys) e m = by_answer xs (opens d discount adjust base n ys) e (thirteen_open xs d discount adjust base n ys e) m
kept xs (removes d n ys) e m = by_answer xs (removes d n ys) e (thirteen_remove xs d n ys e) m
kept xs (lists out n out') e m = by_answer xs (lists out n out') e (thirteen_list xs out n out' e) m
kept xs (sets d c n ys) e m = by_answer xs (sets d c n ys) e (thirteen_set xs d c n ys e) m
kept xs (judges d a t ys) e m = by_answer xs (judges d a t ys) e (λ b. (unjudged xs d a t ys Refusals.Pool e (not_located xs d b)).answer) m

-- ---- a refused call.
refused_on : (c : Setting) (ys : List ℕ) → (set_on c ys).answer ≢ 0 → (set_on c ys).bytes ≡ ys
unfolding set_on
refused_on c ys n = go (eqb (answered (changed c (decode_state ys)).answer) 0) n
  where
    u : Updated PredictorCorrector
    u = changed c (decode_state ys)

    go : (b : Bool) → (cond b (left 0 (stored_unless_same ys u.state)) (left (answered u.answer) ys)).answer ≢ 0
        → (cond b (left 0 (stored_unless_same ys u.state)) (left (answered u.answer) ys)).bytes ≡ ys
    go true m = absurd (m refl)
    go false m = refl

refused_left : (o : Result Verdict Refusal) (zs : List ℕ) (s : PredictorCorrector) → outcome_number o ≢ 0 → state_left o zs s ≡ zs
unfolding state_left
refused_left (Ok v) zs s n = absurd (n refl)
refused_left (Err why) zs s n = refl

refused_written : (o : Result Verdict Refusal) (old new : List Float) → outcome_number o ≢ 0 → written o old new ≡ old
unfolding written
refused_written (Ok v) old new n = absurd (n refl)
refused_written (Err why) old new n = refl

refused_verdict : (o : Result Verdict Refusal) (old : List ℕ) (index : ℤ) → outcome_number o ≢ 0 → verdict_left o old index ≡ old
unfolding verdict_left
refused_verdict (Ok v) old index n = absurd (n refl)
refused_verdict (Err why) old index n = refl

refused_set : (xs : List ℕ) (d : ℕ) (c : Setting) (n : ℕ) (ys : List ℕ) → left n ys ≡ set c d xs → n ≢ 0 → ys ≡ xs
unfolding set
refused_set xs d c n ys e m = go (locate xs d) refl
  where
    go : (l : Result Slot Refusal) → locate xs d ≡ l → ys ≡ xs
    go (Ok s) q =
        let k = located xs d s q in
        let h : Holds xs d = record { sound = k.ok; there = k.there } in
        let i : ℕ = record_of xs d in
        let r = set_is xs d h c n ys e in
        let z = refused_on c (state_at xs i) (λ p. m (ap (λ (l : Left). l.answer) r ∙ p)) in
        ap (λ (l : Left). l.bytes) r ∙ ap (with_state xs i) z ∙ state_kept xs i (its_room xs d h)
    go (Err why) q = ap (λ (l : Left). l.bytes) (e ∙ ap (λ (l : Result Slot Refusal). set_by l c xs) q)

refused_judgment : (xs : List ℕ) (d : ℕ) (a : Asked) (t : Reply) (ys : List ℕ) → Contract xs (judges d a t ys) → t.answer ≢ 0
    → (ys ≡ xs) × SlicesStay (judges d a t ys)
refused_judgment xs d a t ys c m = go (locate xs d) refl
  where
    go : (l : Result Slot Refusal) → locate xs d ≡ l → (ys ≡ xs) × SlicesStay (judges d a t ys)
    go (Ok s) q =
        let k = located xs d s q in
        let h : Holds xs d = record { sound = k.ok; there = k.there } in
        let i : ℕ = record_of xs d in
        let j = judged_in xs d h a t ys c in
        let o : (Result Verdict Refusal) = outcome_over (state_at xs i) a.reading a.last a.lent (length a.expected) (length a.high) (length a.low) (length a.verdict) in
        let r : outcome_number o ≢ 0 = λ p. m (j.judged.answer ∙ p) in
        let z = j.judged.bytes ∙ refused_left o (state_at xs i) (state_over (state_at xs i) a.reading a.last a.lent o) r in
        let slices : SlicesStay (judges d a t ys) = (
          j.judged.point ∙ refused_written o a.expected _ r,
          j.judged.highs ∙ refused_written o a.high _ r,
          j.judged.lows ∙ refused_written o a.low _ r,
          j.judged.verdict ∙ refused_verdict o a.verdict _ r,
        ) in
        (j.bytes ∙ ap (with_state xs i) z ∙ state_kept xs i (its_room xs d h), slices)
    go (Err why) q = let u = unjudged xs d a t ys why c q in (u.bytes, (u.point, u.highs, u.lows, u.verdict))

refused_list : (xs out : List ℕ) (n : ℕ) (out' : List ℕ) → left n out' ≡ list xs out → n ≢ 0 → out' ≡ out
unfolding list
refused_list xs out n out' e m = go (eqb (length out) 30 && rules_ok xs) refl
  where
    go : (b : Bool) → (eqb (length out) 30 && rules_ok xs) ≡ b → out' ≡ out
    go true q = absurd (m (ap (λ (l : Left). l.answer) (e ∙ ap (λ (b : Bool). cond b (left 0 (numbers_of xs)) (left 13 out)) q)))
    go false q = ap (λ (l : Left). l.bytes) (e ∙ ap (λ (b : Bool). cond b (left 0 (numbers_of xs)) (left 13 out)) q)

pub unchanged : (xs : List ℕ) (c : Call) → Contract xs c → answer_of c ≢ 0 → (after xs c ≡ xs) × SlicesStay c
unfolding lay_out remove
unchanged xs (lays_out n ys) e m = (go (eqb (length xs) 61472) refl, tt)
  where
    go : (b : Bool) → eqb (length xs) 61472 ≡ b → ys ≡ xs
    go true q = absurd (m (ap (λ (l : Left). l.answer) (e ∙ ap (λ (b : Bool). cond b (left 0 laid_out) (left 13 xs)) q)))
    go false q = ap (λ (l : Left). l.bytes) (e ∙ ap (λ (b : Bool). cond b (left 0 laid_out) (left 13 xs)) q)
unchanged xs (opens d discount adjust base n ys) e m = (go (which xs d discount adjust base), tt)
  where
    go : Frames.Opening xs d discount adjust base → ys ≡ xs
    go (Frames.refused q k) = ap (λ (l : Left). l.bytes) e ∙ q
    go (Frames.opens s v z q) = absurd (m (ap (λ (l : Left). l.answer) (e ∙ q)))
unchanged xs (removes d n ys) e m = (go (locate xs d) refl, tt)
  where
    go : (l : Result Slot Refusal) → locate xs d ≡ l → ys ≡ xs
    go (Ok s) q = absurd (m (ap (λ (l : Left). l.answer) (e ∙ ap (λ (l : Result Slot Refusal). remove_by l xs) q)))
    go (Err why) q = ap (λ (l : Left). l.bytes) (e ∙ ap (λ (l : Result Slot Refusal). remove_by l xs) q)
unchanged xs (lists out n out') e m = (refl, refused_list xs out n out' e m)
unchanged xs (sets d c n ys) e m = (refused_set xs d c n ys e m, tt)
unchanged xs (judges d a t ys) e m = refused_judgment xs d a t ys e m
