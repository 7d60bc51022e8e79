-- The shapes that the calls share. Assumes nothing.
use Rattle.std.specs.Prelude.{Result, Ok, Err}
use mathlib.Core.Path.{◌≡◌, refl, sym, ap, ap₂, ◌∙◌}
use mathlib.Core.Bool.{Bool, true, false, cond}
use mathlib.Core.List.{List}
use Prim.Native.Nat.{ℕ}
use native.Mathlib.Omega.{arith}
use lib.Dec.{eqb, leb}
use lib.ListN.{length, replicate, length-replicate}
use lib.Ieee.{Float}
use Rattle.types.specs.Refusals.{number, answered, Answer}
use Rattle.types.specs.declared.Refusal.{Refusal}
use Rattle.types.specs.declared.Refusal.TheVariants as Whys
use Rattle.types.specs.declared.Refusal.TheVariants.{Range, Length}
use Rattle.basicthresholder.specs.Updates.{set_score_differencing}
use Rattle.basicthresholder.specs.declared.BasicThresholder.{BasicThresholder}
use Rattle.divector.specs.DiVector.{After, after}
use Rattle.predictorcorrector.specs.declared.PredictorCorrector.{PredictorCorrector}
use Rattle.predictorcorrector.specs.State.{with_thresholder, set_horizon, standing}
use Rattle.layout.specs.Places.{state_length}
use Rattle.layout.specs.Numbers.{written_of, f64_bytes, bytes8}
use Rattle.layout.specs.Chain.{decode_state, encode_state_over, state_codes_ok, read_standing}
use Rattle.layout.specs.InPlace.{kept}
use Rattle.predictorcorrector.specs.declared.Standing.{Standing}
use Rattle.layout.proofs.Taken.{standing_read}
use Rattle.layout.specs.Left.{Left, left, put_into}
use Rattle.c_chain.specs.Vectors.{pair, numbered, number_into, block_into}
use Rattle.c_chain.specs.States.{chain_refusal, chain_set, horizon_set_in, chain_made}
use Rattle.types.specs.declared.Updated.{Updated}

-- ---- a slice that must have n bytes.
module _ (n : ℕ) (xs ys : List ℕ) where
  pub put_done : (zs : List ℕ) → eqb (length xs) n ≡ true → zs ≡ written_of n xs ys → left 0 zs ≡ put_into n xs ys
  unfolding put_into written_of
  put_done zs h e = simp (e, h)

  pub put_refused : eqb (length xs) n ≡ false → left 3 xs ≡ put_into n xs ys
  unfolding put_into
  put_refused h = simp h

-- ---- vectors.
pub pair_changed : (n : ℕ) (a : Answer) (h w : List Float) (x : After) → n ≡ answered a → after a h w ≡ x → pair n h w ≡ numbered x
pair_changed n a h w x e p = ap (λ (m : ℕ). pair m h w) e ∙ ap numbered p

pub number_put : (m : Result Float Refusal) (out : List ℕ) (x : Float) (w : Left) → m ≡ Ok x → w ≡ put_into 8 out (f64_bytes x) → w ≡ number_into m out
unfolding number_into
number_put m out x w e p = p ∙ rw e

pub number_refused : (m : Result Float Refusal) (out : List ℕ) (r : Refusal) (why : ℕ) → m ≡ Err r → why ≡ number r → left why out ≡ number_into m out
unfolding number_into
number_refused m out r why e p = rw (e, p)

module _ (b : Result ℕ Refusal) (out : List ℕ) where
  pub block_put : (k : ℕ) (w : Left) → b ≡ Ok k → w ≡ put_into 8 out (bytes8 k) → w ≡ block_into b out
  unfolding block_into
  block_put k w e p = p ∙ rw e

  module _ (r : Refusal) (e : b ≡ Err r) where
    pub block_refused : (why : ℕ) → eqb (length out) 8 ≡ true → why ≡ number r → left why out ≡ block_into b out
    unfolding block_into
    block_refused why h p = rw (e, h, p)

    pub block_unput : eqb (length out) 8 ≡ false → left 3 out ≡ block_into b out
    unfolding block_into
    block_unput h = rw (e, h)

-- A refusal's number is not 0.
pub refused_number : (why : Refusal) → eqb (number why) 0 ≡ false
refused_number Whys.Discount = refl
refused_number Whys.Range = refl
refused_number Whys.Length = refl
refused_number Whys.NotFinite = refl
refused_number Whys.ValuesSeen = refl
refused_number Whys.Count = refl
refused_number Whys.Horizon = refl
refused_number Whys.Blocks = refl
refused_number Whys.Row = refl
refused_number Whys.Field = refl
refused_number Whys.Drawer = refl
refused_number Whys.Full = refl
refused_number Whys.Pool = refl

-- ---- a stored state.
-- The tests of a slice that was not read, and its refusal's number.
refusal : (long codes : Bool) (k : Standing) (why : Refusal) → cond long (cond codes (Ok k) (Err Range)) (Err Length) ≡ Err why
    → (number why ≡ cond long (cond codes 0 2) 3) × (eqb (number why) 0 ≡ false)
refusal true true k why e = let z : ◌≡◌ {A = ℕ} 0 1 = cc in absurd (omega arith)
refusal true false k why e = let w : why ≡ Range = cc in (rw w, rw w)
refusal false codes k why e = let w : why ≡ Length = cc in (rw w, rw w)

module _ (xs : List ℕ) where
  module _ (k : Standing) (e : read_standing xs ≡ Ok k) where
    full : eqb (length xs) state_length ≡ true
    full = (standing_read xs k e).0

    none : chain_refusal xs ≡ 0
    unfolding chain_refusal
    none = rw (full, (standing_read xs k e).1)

    over : (g : BasicThresholder → BasicThresholder) (t : BasicThresholder) (zs : List ℕ) → t ≡ g k.basic_thresholder
        → zs ≡ written_of state_length xs (encode_state_over xs (kept (decode_state xs) t k.run_length))
        → zs ≡ encode_state_over xs (with_thresholder (decode_state xs) (g (decode_state xs).basic_thresholder))
    unfolding written_of standing
    over g t zs p q =
        let same = (standing_read xs k e).2 in
        q ∙ rw full (λ i. encode_state_over xs (kept (decode_state xs) ((p ∙ ap (λ (c : Standing). g c.basic_thresholder) same) i) (same i).run_length))

    pub chain_set_lem : (g : BasicThresholder → BasicThresholder) (t : BasicThresholder) (zs : List ℕ) → t ≡ g k.basic_thresholder
        → zs ≡ written_of state_length xs (encode_state_over xs (kept (decode_state xs) t k.run_length))
        → left 0 zs ≡ chain_set (λ (s : PredictorCorrector). with_thresholder s (g s.basic_thresholder)) xs
    unfolding chain_set
    chain_set_lem g t zs p q = ap (left 0) (over g t zs p q) ∙ rw none

    module _ (x : Float) (u : Updated BasicThresholder) (d : u ≡ set_score_differencing k.basic_thresholder x) where
      set_is : set_score_differencing (decode_state xs).basic_thresholder x ≡ u
      unfolding standing
      set_is = sym (d ∙ ap (λ (c : Standing). set_score_differencing c.basic_thresholder x) (standing_read xs k e).2)

      pub horizon_set : (zs : List ℕ) → u.answer ≡ Ok tt → zs ≡ written_of state_length xs (encode_state_over xs (kept (decode_state xs) u.state k.run_length))
          → left 0 zs ≡ horizon_set_in x xs
      unfolding horizon_set_in set_horizon
      horizon_set zs h q =
          let done : (set_score_differencing (decode_state xs).basic_thresholder x).answer ≡ (Ok tt) = ap (λ (v : Updated BasicThresholder). v.answer) set_is ∙ h in
          ap (left 0) (over (λ (t : BasicThresholder). (set_score_differencing t x).state) u.state zs (ap (λ (v : Updated BasicThresholder). v.state) d) q) ∙ rw (none, done)

      pub horizon_refused : (why : Refusal) (n : ℕ) → u.answer ≡ Err why → n ≡ number why → left n xs ≡ horizon_set_in x xs
      unfolding horizon_set_in set_horizon
      horizon_refused why n h p =
          let not : (set_score_differencing (decode_state xs).basic_thresholder x).answer ≡ Err why = ap (λ (v : Updated BasicThresholder). v.answer) set_is ∙ h in
          ap (λ (m : ℕ). left m xs) p ∙ rw (none, not, refused_number why)

  module _ (why : Refusal) (e : read_standing xs ≡ Err why) (n : ℕ) (p : n ≡ number why) where
    kept_by : (n ≡ chain_refusal xs) × (eqb n 0 ≡ false)
    unfolding chain_refusal read_standing
    kept_by =
        let r = refusal (eqb (length xs) state_length) (state_codes_ok xs) (standing (decode_state xs)) why e in
        (p ∙ r.0, ap (λ (m : ℕ). eqb m 0) p ∙ r.1)

    pub chain_kept : (f : PredictorCorrector → PredictorCorrector) → left n xs ≡ chain_set f xs
    unfolding chain_set
    chain_kept f = rw (← kept_by.0, kept_by.1)

    pub horizon_kept : (x : Float) → left n xs ≡ horizon_set_in x xs
    unfolding horizon_set_in
    horizon_kept x = rw (← kept_by.0, kept_by.1)

-- ---- a new state.
module _ (made : Result PredictorCorrector Refusal) (adjust : ℕ) (out : List ℕ) where
  pub made_refused : (why : Refusal) (n : ℕ) → made ≡ Err why → n ≡ number why → left n out ≡ chain_made made adjust out
  unfolding chain_made
  made_refused why n h p = rw (h, p)

  module _ (s : PredictorCorrector) (m : made ≡ Ok s) where
    pub made_range : leb adjust 1 ≡ false → left 2 out ≡ chain_made made adjust out
    unfolding chain_made
    made_range h = rw (m, h)

    module _ (h : leb adjust 1 ≡ true) where
      pub made_length : eqb (length out) state_length ≡ false → left 3 out ≡ chain_made made adjust out
      unfolding chain_made
      made_length l = rw (m, h, l)

      pub made_done : (zeros zs : List ℕ) → eqb (length out) state_length ≡ true → zeros ≡ replicate (length out) 0
          → zs ≡ written_of state_length zeros (encode_state_over zeros s) → left 0 zs ≡ chain_made made adjust out
      unfolding chain_made written_of
      made_done zeros zs l c w =
          let same : length zeros ≡ length out = ap length c ∙ length-replicate {A = ℕ} (length out) 0 in
          let long : eqb (length zeros) state_length ≡ true = rw same l in
          let full : written_of state_length zeros (encode_state_over zeros s) ≡ encode_state_over zeros s = rw long in
          let over : encode_state_over zeros s ≡ encode_state_over (replicate (length out) 0) s = ap (λ (ys : List ℕ). encode_state_over ys s) c in
          ap (left 0) (w ∙ full ∙ over) ∙ rw (m, h, l)
