-- The premises can be met: an empty pool has room for drawer 1, and calm readings in it are told what the C functions tell over its state's bytes. Assumes nothing.
use Rattle.std.specs.Prelude.{Result, Ok}
use mathlib.Core.Path.{◌≡◌, refl, sym, ap, ◌∙◌, subst}
use mathlib.Core.Bool.{not}
use mathlib.Core.List.{List, [], ◌∷◌}
use Prim.Native.Nat.{ℕ, zero, suc}
use native.Mathlib.Omega.{arith}
use lib.Dec.{T, eqb}
use lib.ListN.{length, replicate, length-replicate}
use lib.Ieee.{Float, binary64, fits}
use borrow.Author.Tests.{eq-eqb, ne_eqb}
use Rattle.basicthresholder.specs.Const.{z_factor_default}
use Rattle.ledger.specs.Statement.{Told, accepted, InBounds}
use Rattle.predictorcorrector.specs.State.{new, fresh_state}
use Rattle.layout.specs.Places.{reading_length, state_length}
use Rattle.layout.specs.Chain.{encode_state_over}
use Rattle.layout.specs.Left.{Left, left}
use Rattle.c_chain.specs.States.{chain_made}
use Rattle.demand3_over_c.specs.Calls as OverC
use Rattle.demand3_over_c.specs.Calm.{reading, judging, judgings, made}
use Rattle.demand3_over_c.specs.Calm as Calm
use Rattle.demand3_over_c.proofs.OverC.{demand_3_over_c}
use Rattle.record_pool.specs.Chains.{Chained, is_number, holder}
use Rattle.record_pool.specs.Pool.{first_free, next_at, number_at, state_of, record_of, slot, vacancy}
use Rattle.pool_drawers.specs.Drawers.{laid_out, open_by, opening}
use Rattle.pool_laws.specs.Calls.{opens, judges, Contract, InTurn}
use Rattle.pool_laws.specs.Isolation.{Ask, setting, judgment, asks, tells, Stays, Holds}
use Rattle.pool_laws.proofs.Frames.{wrote_kept, wrote_records}
use Rattle.pool_laws.proofs.Alone.{is_there, judged_there}
use Rattle.pool_laws.proofs.Theorems.{pool_rules}
use Rattle.demand3_in_pool.specs.Calm.{nought, asked, reply, calm, next, calms, pool, eleven}
use Rattle.demand3_in_pool.specs.Statement.{Judgments, SetFirst, z_after, z_asked, ZUnasked, told_in}
use Rattle.record_pool.specs.declared.Slot.{Slot}
use Rattle.types.specs.declared.Refusal.{Refusal}

-- ---- one calm reading in a pool that holds drawer 1
module _ (xs : List ℕ) (h : Holds xs 1) where
  contract : Contract xs (judges 1 (asked (calm xs)) (reply (calm xs)) (next xs))
  unfolding state_of
  contract =
      rw (is_there xs 1 h)
      (record { state' = (calm xs).state'; judged = record { answer = refl; bytes = refl; point = refl; highs = refl; lows = refl; verdict = refl }; bytes = refl })

  -- The drawer is still there, and the bytes that the call left are its state's.
  after : Holds (next xs) 1 × (state_of (next xs) 1 ≡ (calm xs).state')
  after =
      let w = judged_there xs 1 h (asked (calm xs)) (reply (calm xs)) (next xs) contract in
      (record { sound = wrote_kept xs 1 (next xs) w.0 h.sound; there = omega (arith, wrote_records xs 1 (next xs) w.0 1, h.there) }, w.1.bytes)

-- ---- such readings in turn
in_turn : (k : ℕ) (xs : List ℕ) → Holds xs 1 → InTurn xs (calms k xs)
unfolding calms
in_turn zero xs h = tt
in_turn (suc k) xs h = (contract xs h, in_turn k (next xs) (after xs h).0)

stays : (k : ℕ) (xs : List ℕ) → Stays 1 (calms k xs)
unfolding calms
stays zero xs = tt
stays (suc k) xs = stays k (next xs)

judgments : (k : ℕ) (xs : List ℕ) → Judgments (asks 1 (calms k xs))
unfolding calms
judgments zero xs = tt
judgments (suc k) xs = ((λ (e : length reading ≡ reading_length). tt), judgments k (next xs))

unasked : (k : ℕ) (xs : List ℕ) → ZUnasked (asks 1 (calms k xs))
unfolding calms
unasked zero xs = tt
unasked (suc k) xs = unasked k (next xs)

set_first : (qs : List Ask) → Judgments qs → SetFirst qs
set_first [] j = tt
set_first (setting c ∷ qs) j = absurd j
set_first (judgment a ∷ qs) j = j

factor : (z : Float) (k : ℕ) (xs zs : List ℕ) → OverC.z_after z (judgings k zs) ≡ z_after z (asks 1 (calms k xs))
unfolding calms
factor z zero xs zs = refl
factor z (suc k) xs zs = factor z k (next xs) (judging zs).state'

-- What the ledger is told of them is what it is told of the calls over the drawer's bytes.
told : (k : ℕ) (xs : List ℕ) → Holds xs 1 → OverC.told_of (judgings k (state_of xs 1)) ≡ told_in (asks 1 (calms k xs)) (tells 1 (calms k xs))
unfolding calms
told zero xs h = refl
told (suc k) xs h =
    let a = after xs h in
    ap (λ (l : List Told). record { refused = not (eqb (calm xs).answer 0); score = OverC.score_of (calm xs) } ∷ l)
    (ap (λ (l : List ℕ). OverC.told_of (judgings k l)) (sym a.1) ∙ told k (next xs) a.0)

-- ---- an empty pool has room for it
absent : record_of laid_out 1 ≡ 0
unfolding record_of holder
absent = ap (holder (number_at laid_out) 1) pool_rules.empty.1

first_free_lem : first_free laid_out ≡ 1
first_free_lem = (subst (Chained (next_at laid_out) (first_free laid_out)) pool_rules.empty.2 (pool_rules.means laid_out pool_rules.empty.0).1.walk_free).0

room : vacancy laid_out 1 ≡ Ok (slot laid_out (first_free laid_out) 0)
unfolding vacancy is_number
room = rw (pool_rules.empty.0, eq-eqb (record_of laid_out 1) 0 absent, ne_eqb (first_free laid_out) 0 (λ e. omega (arith, first_free_lem))) refl

-- ---- `krcf_new` over zeros, and eleven calm readings over what it leaves
abbrev zeros : List ℕ
zeros = replicate state_length 0

zeros_long : length zeros ≡ state_length
zeros_long = length-replicate {A = ℕ} state_length 0

over_c : OverC.InTurn (OverC.krcf_new nought 0 1 zeros 0 (made zeros) ∷ Calm.eleven (made zeros))
    × OverC.ZUnset (Calm.eleven (made zeros)) × InBounds (OverC.z_of (Calm.eleven (made zeros))) (OverC.told_of (Calm.eleven (made zeros))) × (accepted (OverC.told_of (Calm.eleven (made zeros))) ≡ 11)
over_c = demand_3_over_c.met zeros zeros_long

-- ---- the opening
opens_it : (opening 1 nought 0 1 laid_out).answer ≡ 0
unfolding opening
opens_it =
    let z : (chain_made (new nought (eqb 0 1) 1) 0 zeros).answer ≡ 0 = sym (ap (λ (l : Left). l.answer) over_c.0.0.contract) in
    ap (λ (l : Result Slot Refusal). (open_by l (chain_made (new nought (eqb 0 1) 1) 0 zeros) 1 laid_out).answer) room ∙ rw z refl

open_contract : Contract laid_out (opens 1 nought 0 1 0 pool)
open_contract = λ i. left (sym opens_it i) pool

holds : Holds pool 1
holds = record {
  sound = pool_rules.kept laid_out (opens 1 nought 0 1 0 pool) open_contract (λ (e : ◌≡◌ {A = ℕ} 0 13). omega (arith, e));
  there = omega (arith, (pool_rules.opened laid_out 1 nought 0 1 opens_it).2, first_free_lem);
}

state_is : state_of pool 1 ≡ made zeros
state_is =
    (pool_rules.opened laid_out 1 nought 0 1 opens_it).4
    ∙ sym (ap (λ (n : ℕ). encode_state_over (replicate n 0) (fresh_state nought (eqb 0 1) 1)) zeros_long)

-- ---- the statement
pub calm_met : T (fits binary64 nought) × Contract laid_out (opens 1 nought 0 1 0 pool) × InTurn pool eleven × Stays 1 eleven × SetFirst (asks 1 eleven)
    × ZUnasked (asks 1 eleven) × InBounds (z_asked (asks 1 eleven)) (told_in (asks 1 eleven) (tells 1 eleven)) × (accepted (told_in (asks 1 eleven) (tells 1 eleven)) ≡ 11)
calm_met =
    let t : OverC.told_of (Calm.eleven (made zeros)) ≡ told_in (asks 1 eleven) (tells 1 eleven) =
    ap (λ (l : List ℕ). OverC.told_of (Calm.eleven l)) (sym state_is) ∙ told 11 pool holds in
    let z : OverC.z_of (Calm.eleven (made zeros)) ≡ z_asked (asks 1 eleven) = factor z_factor_default 11 pool (made zeros) in (
      over_c.0.0.discount,
      open_contract,
      in_turn 11 pool holds,
      stays 11 pool,
      set_first (asks 1 eleven) (judgments 11 pool),
      unasked 11 pool,
      rw (sym z, sym t) over_c.2,
      ap accepted (sym t) ∙ over_c.3,
    )
