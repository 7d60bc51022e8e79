-- A drawer in a pool and its state's bytes alone: what is asked and told is the same. Assumes nothing.
use Rattle.std.specs.Prelude.{Result, Ok, Err}
use mathlib.Core.Path.{◌≡◌, refl, sym, ap, ap₂, ◌∙◌, subst}
use mathlib.Core.Bool.{Bool, true, false, cond, ◌&&◌}
use mathlib.Core.List.{List, [], ◌∷◌, ◌++◌}
use Prim.Native.Nat.{ℕ, ◌+◌, ◌≤◌}
use native.Mathlib.Omega.{arith}
use lib.Dec.{eqb, leb}
use lib.ListN.{length, get_or, take, drop}
use lib.Seq.{length-take-le, take_at, drop_at}
use lib.Ieee.{Float}
use borrow.Author.Tests.{eqb-true, eqb-false, ne_eqb}
use Rattle.types.specs.Refusals.{answered}
use Rattle.types.specs.declared.Refusal.TheVariants as Refusals
use Rattle.predictorcorrector.specs.declared.PredictorCorrector.{PredictorCorrector}
use Rattle.verdict_bytes.specs.Bytes.{changes_state, stored, state_left}
use Rattle.layout.specs.Places.{state_length}
use Rattle.layout.specs.Numbers.{pasted}
use Rattle.layout.specs.Chain.{decode_state, encode_state_over}
use Rattle.layout.specs.Left.{Left, left}
use Rattle.stored_state.proofs.Back.{state_length_lem}
use Rattle.c_judging.specs.Judging.{Answered, outcome_over, state_over}
use Rattle.record_pool.specs.Pool.{place, flags_at, state_at, state_of, rules_ok, record_of, front_of, slot, locate, with_state}
use Rattle.record_pool.proofs.Passing.{passes, passes_size, within_used}
use Rattle.record_pool.proofs.Bytes.{place_high}
use Rattle.record_pool.proofs.Writes.{flags_in}
use Rattle.record_pool.proofs.Locating.{located, its_used}
use Rattle.pool_drawers.specs.Drawers.{opening, remove}
use Rattle.pool_settings.proofs.Stored.{state_byte, state_long}
use Rattle.pool_settings.specs.Sameness.{same_state}
use Rattle.pool_settings.specs.Settings.{Setting, changed, stored_unless_same, stored_on, set_on, in_record, set_by, set}
use Rattle.pool_judging.specs.Judging.{JudgedIn, Unjudged, JudgedBy}
use Rattle.pool_laws.specs.Calls.{Asked, Reply, Call, lays_out, opens, removes, lists, sets, judges, Contract, after, InTurn, after_all}
use Rattle.pool_laws.specs.Isolation.{Ask, setting, judgment, Tell, answer, judged, asks, tells, Stays, Alone, Holds}
use Rattle.pool_laws.proofs.Frames.{Undisturbed, undisturbed_by, lay_out_kept, remove_kept, remove_leaves, stored_flags, which, open_kept, open_leaves, Wrote, nothing, state, wrote_kept, wrote_records, wrote_leaves}
use Rattle.pool_laws.proofs.Frames as Frames
use Rattle.detection.specs.declared.Verdict.{Verdict}
use Rattle.record_pool.specs.declared.Slot.{Slot}
use Rattle.types.specs.declared.Refusal.{Refusal}
use Rattle.types.specs.declared.Updated.{Updated}

-- ---- a state's bytes within the pool.
module _ (xs : List ℕ) (i : ℕ) (size : length xs ≡ 61472) (low : 1 ≤ i) (high : i ≤ 30) where
  flags_of : flags_in (state_at xs i) ≡ flags_at xs i
  unfolding flags_in flags_at
  flags_of =
      ap₂ (λ (a b : ℕ). leb a 1 && leb b 1)
      (state_byte xs i 124 (omega arith) ∙ ap (λ (n : ℕ). get_or xs n 0) (omega arith))
      (state_byte xs i 149 (omega arith) ∙ ap (λ (n : ℕ). get_or xs n 0) (omega arith))

  -- What was put there is read.
  pub state_read : (ys : List ℕ) → length ys ≡ state_length → state_at (with_state xs i ys) i ≡ ys
  unfolding state_at with_state pasted
  state_read ys long =
      ap (take state_length) (drop_at (take (place i + 8) xs) (ys ++ drop (place i + 8 + length ys) xs) (place i + 8)
      (length-take-le (place i + 8) xs (omega (arith, place_high i low high))))
      ∙ take_at ys (drop (place i + 8 + length ys) xs) state_length long

-- ---- a drawer that is there.
module _ (xs : List ℕ) (d : ℕ) (h : Holds xs d) where
  abbrev i : ℕ
  i = record_of xs d

  in_range : (1 ≤ i) × (i ≤ 30)
  in_range = within_used (passes xs h.sound) i (its_used xs d h.sound h.there)

  its_size : length xs ≡ 61472
  its_size = passes_size xs h.sound

  pub its_room : place i + 8 + state_length ≤ length xs
  its_room = omega (arith, its_size, place_high i in_range.0 in_range.1)

  pub its_state_long : length (state_at xs i) ≡ state_length
  its_state_long = state_long xs i its_room

  its_flags : flags_in (state_at xs i) ≡ true
  its_flags = flags_of xs i its_size in_range.0 in_range.1 ∙ (passes xs h.sound).flagged i (its_used xs d h.sound h.there)

  pub is_there : locate xs d ≡ Ok (slot xs (record_of xs d) (front_of xs d))
  unfolding locate
  is_there =
      ap (λ (b : Bool). cond b (cond (eqb (record_of xs d) 0) (Err Refusals.Drawer) (Ok (slot xs (record_of xs d) (front_of xs d)))) (Err Refusals.Pool)) h.sound
      ∙ ap (λ (b : Bool). cond b (Err Refusals.Drawer) (Ok (slot xs (record_of xs d) (front_of xs d)))) (ne_eqb (record_of xs d) 0 (λ e. omega (arith, h.there)))

  -- Bytes of a state put there.
  put_there : (ys out : List ℕ) → length ys ≡ state_length → flags_in ys ≡ true → out ≡ with_state xs i ys → Wrote xs d out × (state_of out d ≡ ys)
  unfolding state_of
  put_there ys out long f q =
      let w : Wrote xs d out = state ys h.sound h.there long f q in
      (w, ap (state_at out) (wrote_records xs d out w d) ∙ ap (λ (l : List ℕ). state_at l i) q ∙ state_read xs i its_size in_range.0 in_range.1 ys long)

  -- ---- a setting.
  stored_fine : (s : PredictorCorrector) → (length (stored_unless_same (state_at xs i) s) ≡ state_length) × (flags_in (stored_unless_same (state_at xs i) s) ≡ true)
  unfolding stored_unless_same
  stored_fine s = go (same_state (decode_state (state_at xs i)) s)
    where
      go : (b : Bool) → (length (cond b (state_at xs i) (encode_state_over (state_at xs i) s)) ≡ state_length) × (flags_in (cond b (state_at xs i) (encode_state_over (state_at xs i) s)) ≡ true)
      go true = (its_state_long, its_flags)
      go false = (state_length_lem (state_at xs i) s its_state_long, stored_flags (state_at xs i) s its_state_long)

  set_fine : (c : Setting) → (length (set_on c (state_at xs i)).bytes ≡ state_length) × (flags_in (set_on c (state_at xs i)).bytes ≡ true)
  unfolding set_on
  set_fine c = go (changed c (decode_state (state_at xs i)))
    where
      by : (u : Updated PredictorCorrector) (b : Bool) → (length (cond b (left 0 (stored_unless_same (state_at xs i) u.state)) (left (answered u.answer) (state_at xs i))).bytes ≡ state_length)
          × (flags_in (cond b (left 0 (stored_unless_same (state_at xs i) u.state)) (left (answered u.answer) (state_at xs i))).bytes ≡ true)
      by u true = stored_fine u.state
      by u false = (its_state_long, its_flags)

      go : (u : Updated PredictorCorrector) → (length (stored_on u (state_at xs i)).bytes ≡ state_length) × (flags_in (stored_on u (state_at xs i)).bytes ≡ true)
      go u = by u (eqb (answered u.answer) 0)

  module _ (c : Setting) (n : ℕ) (out : List ℕ) (e : left n out ≡ set c d xs) where
    pub set_is : left n out ≡ in_record xs i (set_on c (state_at xs i))
    unfolding set
    set_is = e ∙ ap (λ (l : Result Slot Refusal). set_by l c xs) is_there

    pub set_there : Wrote xs d out × (left n (state_of out d) ≡ set_on c (state_of xs d))
    unfolding state_of
    set_there =
        let f = set_fine c in
        let w = put_there (set_on c (state_at xs i)).bytes out f.0 f.1 (ap (λ (l : Left). l.bytes) set_is) in
        (w.0, λ t. left (set_is t).answer (w.1 t))

  -- ---- a judgment.
  left_fine : (o : Result Verdict Refusal) (s : PredictorCorrector) → (length (state_left o (state_at xs i) s) ≡ state_length) × (flags_in (state_left o (state_at xs i) s) ≡ true)
  unfolding state_left stored
  left_fine (Ok v) s = go (changes_state v)
    where
      go : (b : Bool) → (length (cond b (encode_state_over (state_at xs i) s) (state_at xs i)) ≡ state_length) × (flags_in (cond b (encode_state_over (state_at xs i) s) (state_at xs i)) ≡ true)
      go false = (its_state_long, its_flags)
      go true = (state_length_lem (state_at xs i) s its_state_long, stored_flags (state_at xs i) s its_state_long)
  left_fine (Err why) s = (its_state_long, its_flags)

  -- What was told of the judgment a over the bytes zs, which it left as ys.
  abbrev pub AnsweredBy : List ℕ → Asked → Reply → List ℕ → Type 0
  AnsweredBy zs a t ys =
      Answered zs a.reading a.last a.lent t.answer a.expected a.high a.low a.verdict ys t.expected t.high t.low t.verdict

  pub judged_in : (a : Asked) (t : Reply) (out : List ℕ) → Contract xs (judges d a t out)
      → JudgedIn xs a.reading a.last a.lent t.answer a.expected a.high a.low a.verdict out t.expected t.high t.low t.verdict i
  judged_in a t out c =
      subst (JudgedBy xs a.reading a.last a.lent t.answer a.expected a.high a.low a.verdict out t.expected t.high t.low t.verdict) is_there c

  pub judged_there : (a : Asked) (t : Reply) (out : List ℕ) → Contract xs (judges d a t out) → Wrote xs d out × AnsweredBy (state_of xs d) a t (state_of out d)
  unfolding state_of
  judged_there a t out c =
      let j = judged_in a t out c in
      let b = j.judged.bytes in
      let o : (Result Verdict Refusal) = outcome_over (state_at xs i) a.reading a.last a.lent (length a.expected) (length a.high) (length a.low) (length a.verdict) in
      let s : PredictorCorrector = state_over (state_at xs i) a.reading a.last a.lent o in
      let f = left_fine o s in
      let w = put_there j.state' out (ap length b ∙ f.0) (ap flags_in b ∙ f.1) j.bytes in
      (w.0, subst (AnsweredBy (state_at xs i) a t) (sym w.1) j.judged)

-- ---- what a setting or a judgment wrote, whether the drawer is there or not.
pub set_wrote : (xs : List ℕ) (d : ℕ) (c : Setting) (n : ℕ) (out : List ℕ) → left n out ≡ set c d xs → Wrote xs d out
unfolding set
set_wrote xs d c n out e = go (locate xs d) refl
  where
    go : (l : Result Slot Refusal) → locate xs d ≡ l → Wrote xs d out
    go (Ok s) q = let t = located xs d s q in (set_there xs d (record { sound = t.ok; there = t.there }) c n out e).0
    go (Err why) q = nothing (ap (λ (l : Left). l.bytes) (e ∙ ap (λ (l : Result Slot Refusal). set_by l c xs) q))

pub judged_wrote : (xs : List ℕ) (d : ℕ) (a : Asked) (t : Reply) (out : List ℕ) → Contract xs (judges d a t out) → Wrote xs d out
judged_wrote xs d a t out c = go (locate xs d) refl
  where
    go : (l : Result Slot Refusal) → locate xs d ≡ l → Wrote xs d out
    go (Ok s) q = let k = located xs d s q in (judged_there xs d (record { sound = k.ok; there = k.there }) a t out c).0
    go (Err why) q =
        let u : Unjudged xs a.reading a.last a.lent t.answer a.expected a.high a.low a.verdict out t.expected t.high t.low t.verdict why =
        subst (JudgedBy xs a.reading a.last a.lent t.answer a.expected a.high a.low a.verdict out t.expected t.high t.low t.verdict) q c in
        nothing u.bytes

-- ---- every call leaves a pool that passes 13 one that does.
pub still_sound : (xs : List ℕ) (c : Call) → Contract xs c → rules_ok xs ≡ true → rules_ok (after xs c) ≡ true
still_sound xs (lays_out n ys) e ok = ap (λ (l : Left). rules_ok l.bytes) e ∙ lay_out_kept xs ok
still_sound xs (opens d discount adjust base n ys) e ok = ap (λ (l : Left). rules_ok l.bytes) e ∙ open_kept xs d discount adjust base ok
still_sound xs (removes d n ys) e ok = ap (λ (l : Left). rules_ok l.bytes) e ∙ remove_kept xs d ok
still_sound xs (lists out n out') e ok = ok
still_sound xs (sets d c n ys) e ok = wrote_kept xs d ys (set_wrote xs d c n ys e) ok
still_sound xs (judges d a t ys) e ok = wrote_kept xs d ys (judged_wrote xs d a t ys e) ok

-- ---- calls in turn.
-- A pool in which nothing of the drawer has changed.
still : (xs ys : List ℕ) (d : ℕ) → Holds xs d → rules_ok ys ≡ true → Undisturbed xs ys d → Holds ys d × (state_of ys d ≡ state_of xs d)
still xs ys d h ok u = (record { sound = ok; there = omega (arith, u.place_kept, h.there) }, u.state_kept h.there)

-- It stays where it is when it is written.
still_there : (xs ys : List ℕ) (d : ℕ) → Holds xs d → Wrote xs d ys → Holds ys d
still_there xs ys d h w = record { sound = wrote_kept xs d ys w h.sound; there = omega (arith, wrote_records xs d ys w d, h.there) }

-- An opening leaves it: another drawer's by what an opening leaves, its own since that is refused.
open_still : (xs ys : List ℕ) (d e : ℕ) (discount : Float) (adjust base n : ℕ) → Holds xs d → left n ys ≡ opening e discount adjust base xs → Undisturbed xs ys d
open_still xs ys d e discount adjust base n h c = go (eqb e d) refl
  where
    bytes : ys ≡ (opening e discount adjust base xs).bytes
    bytes = ap (λ (l : Left). l.bytes) c

    own : Frames.Opening xs e discount adjust base → e ≡ d → Undisturbed xs ys d
    own (Frames.refused q m) p = undisturbed_by xs ys d (bytes ∙ q)
    own (Frames.opens s v z q) p = absurd (let a : record_of xs d ≡ 0 = sym (ap (record_of xs) p) ∙ v.absent in omega (arith, h.there))

    go : (b : Bool) → eqb e d ≡ b → Undisturbed xs ys d
    go true q = own (which xs e discount adjust base) (eqb-true e d q)
    go false q = rw bytes (open_leaves xs e discount adjust base d (λ p. eqb-false e d q (sym p)))

-- Behind a call that left the drawer alone.
passed : (d : ℕ) (xs ys zs : List ℕ) (qs : List Ask) (ts : List Tell) → state_of ys d ≡ state_of xs d → Holds zs d × Alone (state_of ys d) qs ts (state_of zs d)
    → Holds zs d × Alone (state_of xs d) qs ts (state_of zs d)
passed d xs ys zs qs ts e g = (g.0, subst (λ (ws : List ℕ). Alone ws qs ts (state_of zs d)) e g.1)

pub alone : (d : ℕ) (xs : List ℕ) (cs : List Call) → Holds xs d → Stays d cs → InTurn xs cs
    → Holds (after_all xs cs) d × Alone (state_of xs d) (asks d cs) (tells d cs) (state_of (after_all xs cs) d)
alone d xs [] h s t = (h, refl)
alone d xs (lays_out n ys ∷ cs) h s t = absurd s
alone d xs (opens e discount adjust base n ys ∷ cs) h s t =
    let k = still xs ys d h (still_sound xs (opens e discount adjust base n ys) t.0 h.sound) (open_still xs ys d e discount adjust base n h t.0) in
    passed d xs ys (after_all ys cs) (asks d cs) (tells d cs) k.1 (alone d ys cs k.0 s t.1)
alone d xs (removes e n ys ∷ cs) h s t =
    let q : ys ≡ (remove e xs).bytes = ap (λ (l : Left). l.bytes) t.0 in
    let k = still xs ys d h (still_sound xs (removes e n ys) t.0 h.sound) (rw q (remove_leaves xs e d (λ p. s.0 (sym p)))) in
    passed d xs ys (after_all ys cs) (asks d cs) (tells d cs) k.1 (alone d ys cs k.0 s.1 t.1)
alone d xs (lists out n out' ∷ cs) h s t = alone d xs cs h s t.1
alone d xs (sets e c n ys ∷ cs) h s t = go (eqb e d) refl (λ (k : Holds ys d). alone d ys cs k s t.1)
  where
    go : (b : Bool) → eqb e d ≡ b → (Holds ys d → Holds (after_all ys cs) d × Alone (state_of ys d) (asks d cs) (tells d cs) (state_of (after_all ys cs) d))
        → Holds (after_all ys cs) d
        × Alone (state_of xs d) (cond (eqb e d) (setting c ∷ asks d cs) (asks d cs)) (cond (eqb e d) (answer n ∷ tells d cs) (tells d cs)) (state_of (after_all ys cs) d)
    go true q rest =
        let w = set_there xs d h c n ys (t.0 ∙ ap (λ (m : ℕ). set c m xs) (eqb-true e d q)) in
        let r = rest (still_there xs ys d h w.0) in
        rw q (r.0, (state_of ys d, w.1, r.1))
    go false q rest =
        let w = set_wrote xs e c n ys t.0 in
        let k = still xs ys d h (wrote_kept xs e ys w h.sound) (wrote_leaves xs e ys w d (λ p. eqb-false e d q (sym p))) in
        rw q (passed d xs ys (after_all ys cs) (asks d cs) (tells d cs) k.1 (rest k.0))
alone d xs (judges e a t ys ∷ cs) h s r = go (eqb e d) refl (λ (k : Holds ys d). alone d ys cs k s r.1)
  where
    go : (b : Bool) → eqb e d ≡ b → (Holds ys d → Holds (after_all ys cs) d × Alone (state_of ys d) (asks d cs) (tells d cs) (state_of (after_all ys cs) d))
        → Holds (after_all ys cs) d
        × Alone (state_of xs d) (cond (eqb e d) (judgment a ∷ asks d cs) (asks d cs)) (cond (eqb e d) (judged t ∷ tells d cs) (tells d cs)) (state_of (after_all ys cs) d)
    go true q rest =
        let w = judged_there xs d h a t ys (subst (λ (m : ℕ). Contract xs (judges m a t ys)) (eqb-true e d q) r.0) in
        let k = rest (still_there xs ys d h w.0) in
        rw q (k.0, (state_of ys d, w.1, k.1))
    go false q rest =
        let w = judged_wrote xs e a t ys r.0 in
        let k = still xs ys d h (wrote_kept xs e ys w h.sound) (wrote_leaves xs e ys w d (λ p. eqb-false e d q (sym p))) in
        rw q (passed d xs ys (after_all ys cs) (asks d cs) (tells d cs) k.1 (rest k.0))

-- ---- what is told is settled by the bytes and by what is asked.
same_judgment : (zs : List ℕ) (a : Asked) (t u : Reply) (ys ws : List ℕ)
    → Answered zs a.reading a.last a.lent t.answer a.expected a.high a.low a.verdict ys t.expected t.high t.low t.verdict
    → Answered zs a.reading a.last a.lent u.answer a.expected a.high a.low a.verdict ws u.expected u.high u.low u.verdict
    → (t ≡ u) × (ys ≡ ws)
same_judgment zs a t u ys ws p q = (
  λ i. record {
    answer = (p.answer ∙ sym q.answer) i;
    expected = (p.point ∙ sym q.point) i;
    high = (p.highs ∙ sym q.highs) i;
    low = (p.lows ∙ sym q.lows) i;
    verdict = (p.verdict ∙ sym q.verdict) i;
  },
  p.bytes ∙ sym q.bytes,
)

pub settled : (zs : List ℕ) (qs : List Ask) (ts us : List Tell) (ys ws : List ℕ) → Alone zs qs ts ys → Alone zs qs us ws → (ts ≡ us) × (ys ≡ ws)
settled zs [] [] [] ys ws p q = (refl, p ∙ sym q)
settled zs [] [] (u ∷ us) ys ws p q = absurd q
settled zs [] (t ∷ ts) us ys ws p q = absurd p
settled zs (setting c ∷ qs) [] us ys ws p q = absurd p
settled zs (setting c ∷ qs) (answer n ∷ ts) [] ys ws p q = absurd q
settled zs (setting c ∷ qs) (answer n ∷ ts) (answer m ∷ us) ys ws p q =
    let e : left n p.0 ≡ left m q.0 = p.1 ∙ sym q.1 in
    let r = settled p.0 qs ts us ys ws p.2 (subst (λ (l : Left). Alone l.bytes qs us ws) (sym e) q.2) in
    (λ i. answer (e i).answer ∷ r.0 i, r.1)
settled zs (setting c ∷ qs) (answer n ∷ ts) (judged u ∷ us) ys ws p q = absurd q
settled zs (setting c ∷ qs) (judged t ∷ ts) us ys ws p q = absurd p
settled zs (judgment a ∷ qs) [] us ys ws p q = absurd p
settled zs (judgment a ∷ qs) (answer n ∷ ts) us ys ws p q = absurd p
settled zs (judgment a ∷ qs) (judged t ∷ ts) [] ys ws p q = absurd q
settled zs (judgment a ∷ qs) (judged t ∷ ts) (answer m ∷ us) ys ws p q = absurd q
settled zs (judgment a ∷ qs) (judged t ∷ ts) (judged u ∷ us) ys ws p q =
    let e = same_judgment zs a t u p.0 q.0 p.1 q.1 in
    let r = settled p.0 qs ts us ys ws p.2 (subst (λ (l : List ℕ). Alone l qs us ws) (sym e.1) q.2) in
    (λ i. judged (e.0 i) ∷ r.0 i, r.1)

pub isolated : (d : ℕ) (xs ys : List ℕ) (cs ds : List Call) → Holds xs d → Holds ys d → state_of xs d ≡ state_of ys d → Stays d cs → Stays d ds
    → InTurn xs cs → InTurn ys ds → asks d cs ≡ asks d ds → (tells d cs ≡ tells d ds) × (state_of (after_all xs cs) d ≡ state_of (after_all ys ds) d)
isolated d xs ys cs ds hx hy same sx sy tx ty asked =
    let p = (alone d xs cs hx sx tx).1 in
    let q = (alone d ys ds hy sy ty).1 in
    settled (state_of xs d) (asks d cs) (tells d cs) (tells d ds) (state_of (after_all xs cs) d) (state_of (after_all ys ds) d) p
    (subst (λ (qs : List Ask). Alone (state_of xs d) qs (tells d ds) (state_of (after_all ys ds) d)) (sym asked)
    (subst (λ (zs : List ℕ). Alone zs (asks d ds) (tells d ds) (state_of (after_all ys ds) d)) (sym same) q))
