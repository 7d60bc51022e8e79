-- Demand 3 of a drawer in a pool: its calls are those of the C functions over its state's bytes, but for the settings that change nothing. Assumes nothing.
use mathlib.Core.Path.{◌≡◌, refl, sym, ap, ◌∙◌, subst}
use mathlib.Core.Bool.{Bool, true, false, cond, ◌&&◌}
use mathlib.Core.List.{List, [], ◌∷◌}
use Prim.Native.Nat.{ℕ, ◌≤◌}
use native.Mathlib.Omega.{arith}
use lib.Dec.{T, eqb, leb}
use lib.ListN.{length, replicate, length-replicate}
use lib.Ieee.{Float, binary32, binary64, fits, lt}
use lib.Ieee.Bits.{of_bits-fits}
use borrow.Author.Tests.{eq-eqb}
use Rattle.types.specs.Refusals.{answered}
use Rattle.types.specs.declared.Refusal.TheVariants.{Discount, Range, Horizon}
use Rattle.deviation.specs.Statistics.{is_discount}
use Rattle.basicthresholder.specs.Const.{zero32, z_factor_default}
use Rattle.basicthresholder.specs.Updates.{done, refused, is_horizon, with_score_differencing, set_score_differencing}
use Rattle.ledger.specs.Statement as Ledgers
use Rattle.ledger.specs.Statement.{most_readings, Told, Shown, Sizes, InBounds, Demand3}
use Rattle.ledger.proofs.Laws.{by_default}
use Rattle.predictorcorrector.specs.State.{new, fresh_state, updated, z_factor_set, set_horizon}
use Rattle.predictorcorrector.specs.declared.PredictorCorrector.{PredictorCorrector}
use Rattle.layout.specs.Places.{state_length, z_factor_at}
use Rattle.layout.specs.Numbers.{le4, f32_at, f32_bytes, f64_bytes, i32_bytes, flag_bytes, bytes4, bytes8}
use Rattle.layout.specs.States.{joined, decode_thresholder, encode_deviation, encode_thresholder}
use Rattle.layout.specs.Chain.{decode_state, encode_head, encode_state_over, state_codes_ok}
use Rattle.layout.specs.Left.{Left, left}
use Rattle.layout.proofs.Laws.{f32_back}
use Rattle.stored_state.proofs.Windows.{part, f32_alike}
use Rattle.stored_state.proofs.Back.{state_length_lem, head_put}
use Rattle.c_chain.specs.States.{chain_refusal, chain_set, horizon_set_in, chain_made}
use Rattle.demand3_over_c.specs.Calls as OverC
use Rattle.demand3_over_c.proofs.OverC.{demand_3_over_c}
use Rattle.record_pool.specs.Pool.{first_free, state_of, rules_ok, record_of}
use Rattle.record_pool.specs.declared.Slot.{Slot}
use Rattle.record_pool.proofs.Writes.{flags_in}
use Rattle.pool_drawers.specs.Drawers.{opening}
use Rattle.pool_settings.specs.Sameness.{same_float, same_state}
use Rattle.pool_settings.specs.Settings.{z_factor, lower_threshold, initial_threshold, horizon, stored_unless_same, set_on}
use Rattle.pool_settings.proofs.Sameness.{float_same, z_factor_compared}
use Rattle.pool_laws.specs.Calls.{Asked, Call, opens, Contract, InTurn}
use Rattle.pool_laws.specs.Calls as Pools
use Rattle.pool_laws.specs.Isolation.{Ask, setting, judgment, Tell, answer, judged, asks, tells, Stays, Alone, Holds}
use Rattle.pool_laws.proofs.Frames.{made_bytes, which, opens_passes, stored_flags}
use Rattle.pool_laws.proofs.Frames as Frames
use Rattle.pool_laws.proofs.Alone.{alone}
use Rattle.pool_laws.proofs.Theorems.{pool_rules}
use Rattle.demand3_in_pool.specs.Statement.{Judgments, SetFirst, z_after, z_asked, ZUnasked, told_in, shown_in, Demand3InPool}
use Rattle.demand3_in_pool.proofs.OneWay.{one_way}
use Rattle.demand3_in_pool.proofs.Witness.{calm_met}
use Rattle.types.specs.declared.Updated.{Updated}

-- ---- bytes that hold a state with the z factor z, and that no setter refuses
record Ready (zs : List ℕ) (z : Float) : Type 0 where
  size : length zs ≡ state_length
  flags : flags_in zs ≡ true
  factor : f32_at zs z_factor_at ≡ z

head_factor : (s : PredictorCorrector) → T (fits binary32 s.basic_thresholder.z_factor) → f32_at (encode_head s) z_factor_at ≡ s.basic_thresholder.z_factor
unfolding encode_head encode_thresholder encode_deviation joined f32_at f32_bytes f64_bytes i32_bytes flag_bytes bytes8 bytes4 le4
head_factor s h = f32_back s.basic_thresholder.z_factor h

put_ready : (zs : List ℕ) (s : PredictorCorrector) (z : Float) → length zs ≡ state_length → s.basic_thresholder.z_factor ≡ z → T (fits binary32 z) → Ready (encode_state_over zs s) z
put_ready zs s z size e h = record {
  size = state_length_lem zs s size;
  flags = stored_flags zs s size;
  factor = f32_alike (part (head_put zs s size) z_factor_at 4 (omega arith)) ∙ head_factor s (subst (λ (x : Float). T (fits binary32 x)) (sym e) h) ∙ e;
}

not_refused : (zs : List ℕ) (z : Float) → Ready zs z → chain_refusal zs ≡ 0
unfolding chain_refusal state_codes_ok flags_in
not_refused zs z r = rw (eq-eqb (length zs) state_length r.size, r.flags)

held_factor : (zs : List ℕ) → (decode_state zs).basic_thresholder.z_factor ≡ f32_at zs z_factor_at
unfolding decode_state decode_thresholder
held_factor zs = refl

-- ---- a setting over such bytes: it wrote nothing, or what the C function writes
-- The z factor x is asked for: the one that the bytes zs hold is the same, and stays, or x is written.
data FactorSet (x z : Float) (n : ℕ) (zs ys : List ℕ) : Type 0 where
  same : ys ≡ zs → same_float z x ≡ true → FactorSet x z n zs ys
  written : left n ys ≡ chain_set (λ (s : PredictorCorrector). z_factor_set s x) zs → Ready ys x → FactorSet x z n zs ys

data HorizonSet (x z : Float) (n : ℕ) (zs ys : List ℕ) : Type 0 where
  same : ys ≡ zs → HorizonSet x z n zs ys
  written : left n ys ≡ horizon_set_in x zs → Ready ys z → HorizonSet x z n zs ys

module _ (x z : Float) (n : ℕ) (zs ys : List ℕ) (r : Ready zs z) (h : T (fits binary32 x)) where
  factor_set : left n ys ≡ set_on (z_factor x) zs → FactorSet x z n zs ys
  unfolding set_on stored_unless_same chain_set
  factor_set e = go (same_float (f32_at zs z_factor_at) x) refl
    where
      stored : (b : Bool) → same_float (f32_at zs z_factor_at) x ≡ b → left n ys ≡ left 0 (cond b zs (encode_state_over zs (z_factor_set (decode_state zs) x)))
      stored b q = e ∙ ap (λ (b : Bool). left 0 (cond b zs (encode_state_over zs (z_factor_set (decode_state zs) x)))) (z_factor_compared x zs ∙ q)

      go : (b : Bool) → same_float (f32_at zs z_factor_at) x ≡ b → FactorSet x z n zs ys
      go true q = same (ap (λ (l : Left). l.bytes) (stored true q)) (ap (λ (y : Float). same_float y x) (sym r.factor) ∙ q)
      go false q =
          let p = stored false q in
          written (p ∙ sym (rw (not_refused zs z r)))
          (subst (λ (l : List ℕ). Ready l x) (sym (ap (λ (l : Left). l.bytes) p)) (put_ready zs (z_factor_set (decode_state zs) x) x r.size refl h))

  horizon_factor : (set_horizon (decode_state zs) x).state.basic_thresholder.z_factor ≡ z
  unfolding set_horizon set_score_differencing
  horizon_factor = go (is_horizon x) ∙ held_factor zs ∙ r.factor
    where
      go : (b : Bool) → (cond b (done (with_score_differencing (decode_state zs).basic_thresholder x)) (refused Horizon (decode_state zs).basic_thresholder)).state.z_factor
          ≡ (decode_state zs).basic_thresholder.z_factor
      go true = refl
      go false = refl

  horizon_set : left n ys ≡ set_on (horizon x) zs → HorizonSet x z n zs ys
  unfolding set_on stored_unless_same horizon_set_in f32_at
  horizon_set e = go (eqb (answered u.answer) 0) (same_state (decode_state zs) u.state) refl refl
    where
      u : Updated PredictorCorrector
      u = set_horizon (decode_state zs) x

      stored : (a b : Bool) → eqb (answered u.answer) 0 ≡ a → same_state (decode_state zs) u.state ≡ b
          → left n ys ≡ cond a (left 0 (cond b zs (encode_state_over zs u.state))) (left (answered u.answer) zs)
      stored a b p q = e ∙ (λ i. cond (p i) (left 0 (cond (q i) zs (encode_state_over zs u.state))) (left (answered u.answer) zs))

      go : (a b : Bool) → eqb (answered u.answer) 0 ≡ a → same_state (decode_state zs) u.state ≡ b → HorizonSet x z n zs ys
      go false b p q = same (ap (λ (l : Left). l.bytes) (stored false b p q))
      go true true p q = same (ap (λ (l : Left). l.bytes) (stored true true p q))
      go true false p q =
          let k = stored true false p q in
          written (k ∙ sym (rw (not_refused zs z r, p)))
          (subst (λ (l : List ℕ). Ready l z) (sym (ap (λ (l : Left). l.bytes) k))
          (put_ready zs u.state z r.size horizon_factor (subst (λ (y : Float). T (fits binary32 y)) r.factor (of_bits-fits binary32 _))))

-- ---- the calls over C of what a drawer is asked and told, its bytes zs holding the z factor z while y was asked for
record Matched (Turn : List ℕ → List OverC.Call → Type 0) (zs : List ℕ) (z y : Float) (qs : List Ask) (ts : List Tell) : Type 0 where
  calls : List OverC.Call
  turn : Turn zs calls
  told : OverC.told_of calls ≡ told_in qs ts
  shown : OverC.shown_of calls ≡ shown_in ts
  factor : T (lt zero32 (z_after y qs)) → OverC.z_after z calls ≡ z_after y qs

abbrev called : Asked → Pools.Reply → List ℕ → OverC.Judging
called a t ys = record {
  reading = a.reading;
  last = a.last;
  lent = a.lent;
  answer = t.answer;
  expected = a.expected;
  high = a.high;
  low = a.low;
  verdict = a.verdict;
  state' = ys;
  expected' = t.expected;
  high' = t.high;
  low' = t.low;
  verdict' = t.verdict;
}

-- Judgments in turn.
judgments : (qs : List Ask) (ts : List Tell) (zs zs' : List ℕ) (z y : Float) → Judgments qs → Alone zs qs ts zs' → (T (lt zero32 y) → z ≡ y) → Matched OverC.JudgedInTurn zs z y qs ts
judgments [] [] zs zs' z y j a f = record { calls = []; turn = tt; told = refl; shown = refl; factor = f }
judgments [] (t ∷ ts) zs zs' z y j a f = absurd a
judgments (setting c ∷ qs) ts zs zs' z y j a f = absurd j
judgments (judgment q ∷ qs) [] zs zs' z y j a f = absurd a
judgments (judgment q ∷ qs) (answer n ∷ ts) zs zs' z y j a f = absurd a
judgments (judgment q ∷ qs) (judged t ∷ ts) zs zs' z y j a f =
    let m = judgments qs ts a.0 zs' z y j.1 a.2 f in
    let c = called q t a.0 in
    record {
      calls = OverC.krcf_detect_and_modify c ∷ m.calls;
      turn = (record { contract = a.1; distance = j.0 }, m.turn);
      told = ap (λ (l : List Told). record { refused = OverC.is_refused c; score = OverC.score_of c } ∷ l) m.told;
      shown = ap (λ (l : List Shown). record { threshold = OverC.threshold_in t.verdict; opening = OverC.opening_in t.verdict; ends = OverC.grade_in t.verdict } ∷ l) m.shown;
      factor = m.factor;
    }

-- They are a list of settings and judgments that has no setting.
no_settings : (cs : List OverC.Call) (zs : List ℕ) → OverC.JudgedInTurn zs cs → OverC.SetInTurn zs cs
no_settings [] zs t = tt
no_settings (OverC.krcf_new d auto base out n ys ∷ cs) zs t = absurd t
no_settings (OverC.krcf_chain_set_z_factor x n ys ∷ cs) zs t = absurd t
no_settings (OverC.krcf_chain_set_horizon x n ys ∷ cs) zs t = absurd t
no_settings (OverC.krcf_detect_and_modify c ∷ cs) zs t = t

-- Settings before them. One that changes nothing is none of the calls over C; the z factor that was asked for is then the same as the one that is held.
record Asking (zs : List ℕ) (z y : Float) : Type 0 where
  ready : Ready zs z
  held : T (fits binary32 z)
  asked : T (fits binary32 y)
  alike : same_float z y ≡ true

one_factor : (zs : List ℕ) (z y : Float) → Asking zs z y → T (lt zero32 y) → z ≡ y
one_factor zs z y k l = one_way z y k.held k.asked l k.alike

abbrev Rest : List Ask → List Tell → List ℕ → Type 0
Rest qs ts zs' = (zs : List ℕ) (z y : Float) → Alone zs qs ts zs' → Asking zs z y → Matched OverC.SetInTurn zs z y qs ts

settings : (qs : List Ask) (ts : List Tell) (zs' : List ℕ) → SetFirst qs → Rest qs ts zs'
settings [] [] zs' s zs z y a k = record { calls = []; turn = tt; told = refl; shown = refl; factor = one_factor zs z y k }
settings [] (t ∷ ts) zs' s zs z y a k = absurd a
settings (setting c ∷ qs) [] zs' s zs z y a k = absurd a
settings (setting c ∷ qs) (judged t ∷ ts) zs' s zs z y a k = absurd a
settings (setting (lower_threshold x) ∷ qs) (answer n ∷ ts) zs' s zs z y a k = absurd s
settings (setting (initial_threshold x) ∷ qs) (answer n ∷ ts) zs' s zs z y a k = absurd s
settings (setting (z_factor x) ∷ qs) (answer n ∷ ts) zs' s zs z y a k = go (settings qs ts zs' s.1) (factor_set x z n zs a.0 k.ready s.0 a.1)
  where
    go : Rest qs ts zs' → FactorSet x z n zs a.0 → Matched OverC.SetInTurn zs z y (setting (z_factor x) ∷ qs) (answer n ∷ ts)
    go rest (same q e) =
        let m = rest zs z x (subst (λ (l : List ℕ). Alone l qs ts zs') q a.2) (record { ready = k.ready; held = k.held; asked = s.0; alike = e }) in
        record { calls = m.calls; turn = m.turn; told = m.told; shown = m.shown; factor = m.factor }
    go rest (written q r) =
        let m = rest a.0 x x a.2 (record { ready = r; held = s.0; asked = s.0; alike = float_same x }) in
        record { calls = OverC.krcf_chain_set_z_factor x n a.0 ∷ m.calls; turn = (s.0, q, m.turn); told = m.told; shown = m.shown; factor = m.factor }
settings (setting (horizon x) ∷ qs) (answer n ∷ ts) zs' s zs z y a k = go (settings qs ts zs' s.1) (horizon_set x z n zs a.0 k.ready s.0 a.1)
  where
    go : Rest qs ts zs' → HorizonSet x z n zs a.0 → Matched OverC.SetInTurn zs z y (setting (horizon x) ∷ qs) (answer n ∷ ts)
    go rest (same q) =
        let m = rest zs z y (subst (λ (l : List ℕ). Alone l qs ts zs') q a.2) k in
        record { calls = m.calls; turn = m.turn; told = m.told; shown = m.shown; factor = m.factor }
    go rest (written q r) =
        let m = rest a.0 z y a.2 (record { ready = r; held = k.held; asked = k.asked; alike = k.alike }) in
        record { calls = OverC.krcf_chain_set_horizon x n a.0 ∷ m.calls; turn = (s.0, q, m.turn); told = m.told; shown = m.shown; factor = m.factor }
settings (judgment q ∷ qs) ts zs' s zs z y a k =
    let m = judgments (judgment q ∷ qs) ts zs zs' z y s a (one_factor zs z y k) in
    record { calls = m.calls; turn = no_settings m.calls zs m.turn; told = m.told; shown = m.shown; factor = m.factor }

-- ---- the drawer that an opening made
unasked : (z : Float) (qs : List Ask) → ZUnasked qs → z_after z qs ≡ z
unasked z [] u = refl
unasked z (setting (z_factor x) ∷ qs) u = absurd u
unasked z (setting (lower_threshold x) ∷ qs) u = unasked z qs u
unasked z (setting (initial_threshold x) ∷ qs) u = unasked z qs u
unasked z (setting (horizon x) ∷ qs) u = unasked z qs u
unasked z (judgment a ∷ qs) u = unasked z qs u

new_factor : (d : Float) (auto : Bool) (base : ℕ) → (fresh_state d auto base).basic_thresholder.z_factor ≡ z_factor_default
unfolding fresh_state
new_factor d auto base = refl

module _ (xs : List ℕ) (d : ℕ) (discount : Float) (adjust base : ℕ) (ys : List ℕ) (c : Contract xs (opens d discount adjust base 0 ys)) where
  bytes : ys ≡ (opening d discount adjust base xs).bytes
  bytes = ap (λ (l : Left). l.bytes) c

  accepted : (opening d discount adjust base xs).answer ≡ 0
  accepted = sym (ap (λ (l : Left). l.answer) c)

  -- The pool passes 13 and holds it, and its state's bytes are what `krcf_new` leaves.
  record Opened : Type 0 where
    holds : Holds ys d
    contract : left 0 (state_of ys d) ≡ chain_made (new discount (eqb adjust 1) base) adjust (replicate state_length 0)

  state_is : state_of ys d ≡ encode_state_over (replicate state_length 0) (fresh_state discount (eqb adjust 1) base)
  state_is = ap (λ (l : List ℕ). state_of l d) bytes ∙ (pool_rules.opened xs d discount adjust base accepted).4

  opened : Opened
  opened = go (which xs d discount adjust base)
    where
      go : Frames.Opening xs d discount adjust base → Opened
      go (Frames.refused q n) = absurd (n accepted)
      go (Frames.opens s v z q) =
          let first : record_of ys d ≡ first_free xs = ap (λ (l : List ℕ). record_of l d) bytes ∙ (pool_rules.opened xs d discount adjust base accepted).2 in
          let index : s.index ≡ first_free xs = ap (λ (s : Slot). s.index) v.same in
          record {
            holds = record { sound = ap rules_ok (bytes ∙ ap (λ (l : Left). l.bytes) q) ∙ opens_passes xs d discount adjust base s v z; there = omega (arith, first, index, v.low) };
            contract = λ i. left (sym z i) ((state_is ∙ sym (made_bytes xs d discount adjust base z)) i);
          }

  default_fits : T (fits binary32 z_factor_default)
  default_fits = of_bits-fits binary32 _

  asking : Asking (state_of ys d) z_factor_default z_factor_default
  asking = record {
    ready = subst (λ (l : List ℕ). Ready l z_factor_default) (sym state_is)
        (put_ready (replicate state_length 0) (fresh_state discount (eqb adjust 1) base) z_factor_default (length-replicate {A = ℕ} state_length 0) (new_factor discount (eqb adjust 1) base) default_fits);
    held = default_fits;
    asked = default_fits;
    alike = float_same z_factor_default;
  }

  in_pool : (cs : List Call) → T (fits binary64 discount) → InTurn ys cs → Stays d cs → SetFirst (asks d cs) → InBounds (z_asked (asks d cs)) (told_in (asks d cs) (tells d cs))
      → Demand3 discount (z_asked (asks d cs)) (told_in (asks d cs) (tells d cs)) (shown_in (tells d cs))
  in_pool cs f t stays s b =
      let a = alone d ys cs opened.holds stays t in
      let m = settings (asks d cs) (tells d cs) (state_of (Pools.after_all ys cs) d) s (state_of ys d) z_factor_default z_factor_default a.1 asking in
      let e : OverC.z_of m.calls ≡ z_asked (asks d cs) = m.factor b.z_above in
      let bounds : InBounds (OverC.z_of m.calls) (OverC.told_of m.calls) = rw (e, m.told) b in
      let proved = demand_3_over_c.demand_3 discount adjust base (replicate state_length 0) 0 (state_of ys d) m.calls
      (record { discount = f; contract = opened.contract; accepted = refl }, m.turn) bounds in
      rw (sym e, sym m.told, sym m.shown) proved

  default_z : (cs : List Call) → T (fits binary64 discount) → InTurn ys cs → Stays d cs → SetFirst (asks d cs) → ZUnasked (asks d cs)
      → Ledgers.accepted (told_in (asks d cs) (tells d cs)) ≤ most_readings → Sizes (told_in (asks d cs) (tells d cs))
      → Demand3 discount z_factor_default (told_in (asks d cs) (tells d cs)) (shown_in (tells d cs))
  default_z cs f t stays s u =
      by_default discount (z_asked (asks d cs)) (told_in (asks d cs) (tells d cs)) (shown_in (tells d cs)) (unasked z_factor_default (asks d cs) u) (in_pool cs f t stays s)

pub demand_3_in_pool : Demand3InPool
demand_3_in_pool = record {
  demand_3 = λ xs d discount adjust base ys cs f c t stays s b. in_pool xs d discount adjust base ys c cs f t stays s b;
  default_z = λ xs d discount adjust base ys cs f c t stays s u. default_z xs d discount adjust base ys c cs f t stays s u;
  met = calm_met;
}
