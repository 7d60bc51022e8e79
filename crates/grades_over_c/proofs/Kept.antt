-- Bytes that calls reach hold a thresholder that calls reach and that its bytes can hold. Assumes nothing.
use Rattle.std.specs.Prelude.{Result, Ok, Err}
use mathlib.Core.Path.{◌≡◌, refl, sym, ap, ◌∙◌, subst}
use mathlib.Core.Bool.{Bool, true, false, cond}
use mathlib.Core.List.{List}
use Prim.Native.Nat.{ℕ, ◌≤◌}
use native.Mathlib.Omega.{arith}
use lib.Dec.{T, eqb, leb}
use lib.ListN.{length, get_or}
use lib.Ieee.{Float, binary64, fits}
use borrow.Author.Tests.{eq-eqb, le-leb}
use Rattle.types.specs.Refusals.{number, Answer}
use Rattle.types.specs.declared.Refusal.TheVariants.{Length, Range}
use Rattle.basicthresholder.specs.Updates.{new_adjustible, update_threshold, update_primary, update_both, update, with_z_factor, with_lower_threshold, with_absolute_threshold, with_initial_threshold, set_score_differencing}
use Rattle.basicthresholder.specs.declared.BasicThresholder.{BasicThresholder}
use Rattle.basicthresholder.proofs.Laws.{made_ready}
use Rattle.grades.specs.Reached.{Reached, new_adjustible_call, update_threshold_call, update_primary_call, update_both_call, update_capped, set_z_factor, set_lower_threshold, set_absolute_threshold, set_initial_threshold, set_score_differencing_call}
use Rattle.layout.specs.Places.{thresholder_length, auto_threshold_at}
use Rattle.layout.specs.Numbers.{flag_byte, f32_bytes, f64_bytes, i32_bytes, flag_bytes, bytes4, bytes8}
use Rattle.layout.specs.States.{joined, encode_deviation, encode_thresholder, read_thresholder}
use Rattle.layout.specs.Left.{left, put_into}
use Rattle.layout.specs.Fits.{ThresholderFits}
use Rattle.layout.proofs.Laws.{thresholder_length_lem, thresholder_back}
use Rattle.c_interface.specs.Calls.{stored, thresholder_made, thresholder_changed, thresholder_done, new_into, changed_in}
use Rattle.demand3_over_c.proofs.Held.{capped_fits, distance_fits, z_fits, lower_fits, absolute_fits, initial_fits}
use Rattle.demand3_over_c.proofs.Start.{fresh_thresholder_lem}
use Rattle.grades_over_c.specs.Bytes.{ReachedBytes, krcf_thresholder_new, krcf_update_threshold, krcf_update_primary, krcf_update_both, krcf_update, krcf_set_z_factor, krcf_set_lower_threshold, krcf_set_absolute_threshold, krcf_set_initial_threshold, krcf_set_score_differencing}
use Rattle.grades_over_c.proofs.Answered.{left_bytes, not_refused, put}
use Rattle.grades_over_c.proofs.Fitting.{threshold_fits, both_updated_fits, horizon_fits}
use Rattle.types.specs.declared.Refusal.{Refusal}
use Rattle.types.specs.declared.Updated.{Updated}

pub record Kept (xs : List ℕ) : Type 0 where
  pub state : BasicThresholder
  pub reads : read_thresholder xs ≡ Ok state
  pub fits : ThresholderFits state
  pub reached : Reached state

-- ---- a thresholder comes back from its bytes
flag_most : (b : Bool) → flag_byte b ≤ 1
flag_most true = omega arith
flag_most false = omega arith

flag_is : (s : BasicThresholder) → get_or (encode_thresholder s) auto_threshold_at 0 ≡ flag_byte s.auto_threshold
unfolding encode_thresholder encode_deviation joined f32_bytes f64_bytes i32_bytes flag_bytes bytes8 bytes4
flag_is s = refl

pub put_reads : (s : BasicThresholder) → ThresholderFits s → read_thresholder (encode_thresholder s) ≡ Ok s
unfolding read_thresholder
put_reads s f =
    let flag : get_or (encode_thresholder s) auto_threshold_at 0 ≤ 1 = subst (λ (n : ℕ). n ≤ 1) (sym (flag_is s)) (flag_most s.auto_threshold) in
    rw (eq-eqb (length (encode_thresholder s)) thresholder_length (thresholder_length_lem s), le-leb (get_or (encode_thresholder s) auto_threshold_at 0) 1 flag) (ap Ok (thresholder_back s f))

put_kept : (ys : List ℕ) (s : BasicThresholder) → ys ≡ encode_thresholder s → ThresholderFits s → Reached s → Kept ys
put_kept ys s e f r = subst Kept (sym e) (record { state = s; reads = put_reads s f; fits = f; reached = r })

-- ---- a new one
made_kept : (d : Float) (adjust : ℕ) (out ys : List ℕ) → T (fits binary64 d) → left 0 ys ≡ new_into d adjust out → Kept ys
unfolding thresholder_made
made_kept d adjust out ys h = go (new_adjustible d (eqb adjust 1)) refl
  where
    ready : (s : BasicThresholder) → new_adjustible d (eqb adjust 1) ≡ Ok s → (b : Bool)
        → left 0 ys ≡ cond b (put_into thresholder_length out (encode_thresholder s)) (left (number Range) out) → Kept ys
    ready s m true e =
        put_kept ys s (put out ys thresholder_length (encode_thresholder s) e)
        (subst ThresholderFits (sym (made_ready d (eqb adjust 1) s m).1) (fresh_thresholder_lem d (eqb adjust 1) h)) (new_adjustible_call d (eqb adjust 1) m)
    ready s m false e = absurd (not_refused out ys Range e)

    go : (m : Result BasicThresholder Refusal) → new_adjustible d (eqb adjust 1) ≡ m → left 0 ys ≡ thresholder_made m adjust out → Kept ys
    go (Ok s) m e = ready s m (leb adjust 1) e
    go (Err why) m e = absurd (not_refused out ys why e)

-- ---- a change: it is stored, or the bytes stay
abbrev Changed : (BasicThresholder → Updated BasicThresholder) → List ℕ → ℕ → List ℕ → Type 0
Changed f xs n ys = left n ys ≡ changed_in f xs

abbrev Keeps : (BasicThresholder → Updated BasicThresholder) → Type 0
Keeps f = (s : BasicThresholder) → ThresholderFits s → Reached s → ThresholderFits (f s).state × Reached (f s).state

stored_kept : (a : Answer) (s : BasicThresholder) (n : ℕ) (xs ys : List ℕ) → left n ys ≡ stored a thresholder_length xs (encode_thresholder s)
    → ThresholderFits s → Reached s → Kept xs → Kept ys
unfolding stored put_into
stored_kept (Err why) s n xs ys e f r k = subst Kept (sym (left_bytes n (number why) ys xs e)) k
stored_kept (Ok _) s n xs ys e f r k = go (eqb (length xs) thresholder_length) e
  where
    go : (b : Bool) → left n ys ≡ cond b (left 0 (encode_thresholder s)) (left (number Length) xs) → Kept ys
    go true q = put_kept ys s (left_bytes n 0 ys (encode_thresholder s) q) f r
    go false q = subst Kept (sym (left_bytes n (number Length) ys xs q)) k

changed_kept : (f : BasicThresholder → Updated BasicThresholder) → Keeps f → (xs : List ℕ) (n : ℕ) (ys : List ℕ) → Changed f xs n ys → Kept xs → Kept ys
unfolding thresholder_changed
changed_kept f keeps xs n ys e k =
    let after = keeps k.state k.fits k.reached in
    stored_kept (f k.state).answer (f k.state).state n xs ys (e ∙ ap (λ (t : Result BasicThresholder Refusal). thresholder_changed f t xs) k.reads) after.0 after.1 k

-- ---- every call
pub kept : (xs : List ℕ) → ReachedBytes xs → Kept xs
kept ys (krcf_thresholder_new d adjust out h e) = made_kept d adjust out ys h e
kept _ (krcf_update_threshold {xs} x n ys e r) = changed_kept (λ s. update_threshold s x) (λ s f k. (threshold_fits s x f, update_threshold_call x k)) xs n ys e (kept xs r)
kept _ (krcf_update_primary {xs} x n ys e r) = changed_kept (λ s. update_primary s x) (λ s f k. (distance_fits s x f, update_primary_call x k)) xs n ys e (kept xs r)
kept _ (krcf_update_both {xs} x y n ys h e r) = changed_kept (λ s. update_both s x y) (λ s f k. (both_updated_fits s x y h f, update_both_call x y k)) xs n ys e (kept xs r)
kept _ (krcf_update {xs} x y z n ys h e r) = changed_kept (λ s. update s x y z) (λ s f k. (capped_fits s x y z h f, update_capped x y z k)) xs n ys e (kept xs r)
kept _ (krcf_set_z_factor {xs} x n ys h e r) = changed_kept (λ s. thresholder_done (with_z_factor s x)) (λ s f k. (z_fits s x h f, set_z_factor x k)) xs n ys e (kept xs r)
kept _ (krcf_set_lower_threshold {xs} x n ys h e r) = changed_kept (λ s. thresholder_done (with_lower_threshold s x)) (λ s f k. (lower_fits s x h f, set_lower_threshold x k)) xs n ys e (kept xs r)
kept _ (krcf_set_absolute_threshold {xs} x n ys h e r) =
    changed_kept (λ s. thresholder_done (with_absolute_threshold s x)) (λ s f k. (absolute_fits s x h f, set_absolute_threshold x k)) xs n ys e (kept xs r)
kept _ (krcf_set_initial_threshold {xs} x n ys h e r) =
    changed_kept (λ s. thresholder_done (with_initial_threshold s x)) (λ s f k. (initial_fits s x h f, set_initial_threshold x k)) xs n ys e (kept xs r)
kept _ (krcf_set_score_differencing {xs} x n ys h e r) = changed_kept (λ s. set_score_differencing s x) (λ s f k. (horizon_fits s x h f, set_score_differencing_call x k)) xs n ys e (kept xs r)
