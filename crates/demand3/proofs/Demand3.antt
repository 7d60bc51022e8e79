-- Demand 3 of calls: a construction, settings of z and horizon, then DISTANCE readings judged in turn. Assumes nothing.
use Rattle.std.specs.Prelude.{Result, Ok, Err, is_ok}
use Rattle.std.specs.Result.{result_unwrap_or}
use mathlib.Core.Path.{◌≡◌, refl, sym, ap, ap₂, ◌∙◌, subst}
use mathlib.Core.Bool.{Bool, true, false, cond, ◌&&◌, true≢false}
use mathlib.Core.List.{List, [], ◌∷◌}
use Prim.Native.Nat.{ℕ, ◌≤◌}
use lib.Dec.{T, leb}
use lib.Ieee.{Float, binary64, fits}
use Rattle.types.specs.declared.Refusal.{Refusal}
use Rattle.types.specs.declared.Refusal.TheVariants as Refusals
use Rattle.deviation.specs.Statistics.{is_discount}
use Rattle.basicthresholder.specs.Const.{z_factor_default}
use Rattle.ledger.specs.Statement.{most_readings, Told, Shown, told, showed, accepted, Sizes, InBounds, Demand3}
use Rattle.ledger.specs.Theorem.{New}
use Rattle.ledger.proofs.Laws.{new_fresh, new_z, new_horizon, by_default}
use Rattle.ledger.proofs.WholeList as WholeList
use Rattle.predictorcorrector.specs.State as State
use Rattle.predictorcorrector.specs.State.{fresh_state, set_horizon}
use Rattle.predictorcorrector.specs.declared.PredictorCorrector.{PredictorCorrector}
use Rattle.demand3.specs.Calls.{Judging, Call, new, set_z_factor, set_horizon_call, detect_and_modify, Contract, JudgedInTurn, SetInTurn, InTurn, z_after, z_of, ZUnset, answer_at, is_refusal, told_of, shown_by, shown_of}
use Rattle.demand3.specs.Statement.{Returned, Demand3OfCalls}
use Rattle.demand3.proofs.Keeps.{Lending, watch, returned_at, watch_keeps}
use Rattle.demand3.proofs.Calmness.{calm_met}
use Rattle.types.specs.declared.Updated.{Updated}

pub returned : (s : PredictorCorrector) (c : Judging) → Contract s c → Returned s c c.judgment.outcome
returned s c k = subst (Returned s c) (sym k.says) (returned_at s c)

-- ---- judgments in turn, as the watch judges
lendings : (cs : List Call) (s : PredictorCorrector) → JudgedInTurn s cs → List Lending
lendings [] s k = []
lendings (new d auto base r ∷ cs) s k = absurd k
lendings (set_z_factor x s' ∷ cs) s k = absurd k
lendings (set_horizon_call x r ∷ cs) s k = absurd k
lendings (detect_and_modify c ∷ cs) s k = record { call = c; distance = k.0.distance } ∷ lendings cs c.judgment.state k.1

told_of_lem : (cs : List Call) (s : PredictorCorrector) (k : JudgedInTurn s cs) → told watch s (lendings cs s k) ≡ told_of s cs
unfolding lendings
told_of_lem [] s k = refl
told_of_lem (new d auto base r ∷ cs) s k = absurd k
told_of_lem (set_z_factor x s' ∷ cs) s k = absurd k
told_of_lem (set_horizon_call x r ∷ cs) s k = absurd k
told_of_lem (detect_and_modify c ∷ cs) s k =
    ap (λ (ts : List Told). record { refused = is_refusal (answer_at s c); score = c.reading.score } ∷ ts)
    (ap (λ (u : PredictorCorrector). told watch u (lendings cs c.judgment.state k.1)) (sym k.0.contract.state) ∙ told_of_lem cs c.judgment.state k.1)

showed_of : (cs : List Call) (s : PredictorCorrector) (k : JudgedInTurn s cs) → showed watch s (lendings cs s k) ≡ shown_of s cs
unfolding lendings
showed_of [] s k = refl
showed_of (new d auto base r ∷ cs) s k = absurd k
showed_of (set_z_factor x s' ∷ cs) s k = absurd k
showed_of (set_horizon_call x r ∷ cs) s k = absurd k
showed_of (detect_and_modify c ∷ cs) s k =
    ap₂ (λ (v : Shown) (vs : List Shown). v ∷ vs)
    (ap (shown_by s c.reading) (sym k.0.contract.says))
    (ap (λ (u : PredictorCorrector). showed watch u (lendings cs c.judgment.state k.1)) (sym k.0.contract.state) ∙ showed_of cs c.judgment.state k.1)

pub judged_in_turn : (d z : Float) (s : PredictorCorrector) (cs : List Call) → T (fits binary64 d) → T (is_discount d) → New d z s.basic_thresholder → JudgedInTurn s cs
    → InBounds z (told_of s cs) → Demand3 d z (told_of s cs) (shown_of s cs)
judged_in_turn d z s cs f i n k b =
    let t = told_of_lem cs s k in
    subst (λ (ts : List Told). Demand3 d z ts (shown_of s cs)) t
    (subst (λ (vs : List Shown). Demand3 d z (told watch s (lendings cs s k)) vs) (showed_of cs s k)
    (WholeList.demand_3 watch (λ (s : PredictorCorrector). s.basic_thresholder) watch_keeps d z f i s n (lendings cs s k) (subst (InBounds z) (sym t) b)))

z_stays : (cs : List Call) (s : PredictorCorrector) (z : Float) → JudgedInTurn s cs → z_after z cs ≡ z
z_stays [] s z k = refl
z_stays (new d auto base r ∷ cs) s z k = absurd k
z_stays (set_z_factor x s' ∷ cs) s z k = absurd k
z_stays (set_horizon_call x r ∷ cs) s z k = absurd k
z_stays (detect_and_modify c ∷ cs) s z k = z_stays cs c.judgment.state z k.1

-- ---- settings before them
horizon_left : (d z x : Float) (s : PredictorCorrector) (r : Updated PredictorCorrector) → r ≡ set_horizon s x → New d z s.basic_thresholder → New d z r.state.basic_thresholder
unfolding set_horizon
horizon_left d z x s r e n = subst (λ (u : Updated PredictorCorrector). New d z u.state.basic_thresholder) (sym e) (new_horizon d z x s.basic_thresholder n)

set_in_turn : (d : Float) → T (fits binary64 d) → T (is_discount d) → (cs : List Call) (z : Float) (s : PredictorCorrector) → New d z s.basic_thresholder → SetInTurn s cs
    → InBounds (z_after z cs) (told_of s cs) → Demand3 d (z_after z cs) (told_of s cs) (shown_of s cs)
set_in_turn d f i [] z s n k b = judged_in_turn d z s [] f i n tt b
set_in_turn d f i (new e auto base r ∷ cs) z s n k b = absurd k
set_in_turn d f i (set_z_factor x s' ∷ cs) z s n k b =
    set_in_turn d f i cs x s' (subst (λ (u : PredictorCorrector). New d x u.basic_thresholder) (sym k.0) (new_z d z x s.basic_thresholder n)) k.1 b
set_in_turn d f i (set_horizon_call x r ∷ cs) z s n k b =
    set_in_turn d f i cs z r.state (horizon_left d z x s r k.0 n) k.1 b
set_in_turn d f i (detect_and_modify c ∷ cs) z s n k b =
    let e = z_stays (detect_and_modify c ∷ cs) s z k in
    subst (λ (y : Float). Demand3 d y (told_of s (detect_and_modify c ∷ cs)) (shown_of s (detect_and_modify c ∷ cs))) (sym e)
    (judged_in_turn d z s (detect_and_modify c ∷ cs) f i n k (subst (λ (y : Float). InBounds y (told_of s (detect_and_modify c ∷ cs))) e b))

-- ---- a new state before those
pub record Fresh (d : Float) (s : PredictorCorrector) : Type 0 where
  pub discount : T (is_discount d)
  pub new : New d z_factor_default s.basic_thresholder

pub fresh : (d : Float) (auto : Bool) (base : ℕ) (s : PredictorCorrector) → State.new d auto base ≡ Ok s → Fresh d s
unfolding State.new fresh_state
fresh d auto base s e = (let p = go (is_discount d) (leb 1 base && leb base 16) e in record { discount = p.0; new = p.1 })
  where
    go : (c k : Bool) → cond c (cond k (Ok (fresh_state d auto base)) (Err Refusals.Range)) (Err Refusals.Discount) ≡ Ok s → T c × New d z_factor_default s.basic_thresholder
    go true true q = (tt, subst (λ (u : PredictorCorrector). New d z_factor_default u.basic_thresholder) (ap (λ (r : Result PredictorCorrector Refusal). result_unwrap_or r s) q) (new_fresh d false))
    go true false q = absurd (true≢false (ap is_ok (sym q)))
    go false k q = absurd (true≢false (ap is_ok (sym q)))

pub demand_3 : (d : Float) (auto : Bool) (base : ℕ) (s : PredictorCorrector) (cs : List Call) → InTurn (new d auto base s ∷ cs) → InBounds (z_of cs) (told_of s cs)
    → Demand3 d (z_of cs) (told_of s cs) (shown_of s cs)
demand_3 d auto base s cs k b =
    let n = fresh d auto base s k.0.contract in
    set_in_turn d k.0.discount n.discount cs z_factor_default s n.new k.1 b

z_unset : (z : Float) (cs : List Call) → ZUnset cs → z_after z cs ≡ z
z_unset z [] u = refl
z_unset z (new d auto base r ∷ cs) u = z_unset z cs u
z_unset z (set_z_factor x s ∷ cs) u = absurd u
z_unset z (set_horizon_call x r ∷ cs) u = z_unset z cs u
z_unset z (detect_and_modify c ∷ cs) u = z_unset z cs u

default_z : (d : Float) (auto : Bool) (base : ℕ) (s : PredictorCorrector) (cs : List Call) → InTurn (new d auto base s ∷ cs) → ZUnset cs
    → accepted (told_of s cs) ≤ most_readings → Sizes (told_of s cs) → Demand3 d z_factor_default (told_of s cs) (shown_of s cs)
default_z d auto base s cs k u = by_default d (z_of cs) (told_of s cs) (shown_of s cs) (z_unset z_factor_default cs u) (demand_3 d auto base s cs k)

pub demand_3_of_calls : Demand3OfCalls
demand_3_of_calls = record { returned = returned; demand_3 = demand_3; default_z = default_z; met = calm_met }
