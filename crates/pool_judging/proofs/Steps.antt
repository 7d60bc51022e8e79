-- The call's two branches over plain variables. Assumes nothing.
use Rattle.std.specs.Prelude.{Result, Ok, Err}
use mathlib.Core.Path.{◌≡◌, refl, sym, ap, subst, ◌∙◌}
use mathlib.Core.List.{List, ◌++◌}
use Prim.Native.Nat.{ℕ, ◌+◌, ◌-◌, ◌≤◌}
use native.Mathlib.Omega.{arith}
use lib.ListN.{length, take, drop, length-drop}
use lib.Seq.{length-take-le}
use lib.Ieee.{Float}
use Rattle.types.specs.Refusals.{number}
use Rattle.types.specs.declared.Refusal.{Refusal}
use Rattle.descriptor.specs.Lent.{Lent}
use Rattle.layout.specs.Places.{state_length}
use Rattle.layout.specs.Numbers.{pasted}
use Rattle.c_judging.specs.Judging.{Answered}
use Rattle.record_pool.specs.Pool.{locate, state_at, with_state}
use Rattle.record_pool.specs.declared.Slot.{Slot}
use Rattle.record_pool.proofs.Locating.{Occupied, located}
use Rattle.record_pool.proofs.Putting.{part_put}
use Rattle.pool_judging.specs.Judging.{JudgedBy, Judged}

-- ---- the part that is lent to the judge.
module _ (xs : List ℕ) (d : ℕ) (l : Result Slot Refusal) (el : l ≡ locate xs d) (s : Slot) (es : l ≡ Ok s) where
  occupied_is : Occupied xs d s
  occupied_is = located xs d s (sym el ∙ es)

  pub judged_room : (s.state + state_length ≤ 61472) × (length xs ≡ 61472)
  judged_room = let k = occupied_is in (omega (arith, k.room), k.size)

  part_is : take (s.state + state_length - s.state) (drop s.state xs) ≡ state_at xs s.index
  unfolding state_at
  part_is =
      let n : s.state + state_length - s.state ≡ state_length = omega arith in
      ap (λ (n : ℕ). take n (drop s.state xs)) n ∙ ap (λ (a : ℕ). take state_length (drop a xs)) occupied_is.place

  whole_is : (ys : List ℕ) → length ys ≡ length (take (s.state + state_length - s.state) (drop s.state xs))
      → take s.state xs ++ (ys ++ drop (s.state + state_length - s.state) (drop s.state xs)) ≡ with_state xs s.index ys
  unfolding with_state
  whole_is ys e =
      let n : ℕ = s.state + state_length - s.state in
      let fits : n ≤ length (drop s.state xs) = omega (arith, judged_room.0, judged_room.1, length-drop s.state xs) in
      part_put xs ys s.state n (e ∙ length-take-le n (drop s.state xs) fits) ∙ ap (λ (a : ℕ). pasted xs a ys) occupied_is.place

module _ (xs reading last : List ℕ) (b : Lent) (n : ℕ) (e h w : List Float) (v : List ℕ) (d : ℕ) (l : Result Slot Refusal) (el : l ≡ locate xs d) where
  pub judged_there : (s : Slot) → l ≡ Ok s → (ys : List ℕ) (e' h' w' : List Float) (v' : List ℕ)
      → length ys ≡ length (take (s.state + state_length - s.state) (drop s.state xs))
      → Answered (take (s.state + state_length - s.state) (drop s.state xs)) reading last b n e h w v ys e' h' w' v'
      → Judged xs reading last b n e h w v (take s.state xs ++ (ys ++ drop (s.state + state_length - s.state) (drop s.state xs))) e' h' w' v' d
  judged_there s es ys e' h' w' v' long a =
      let xs' : List ℕ = take s.state xs ++ (ys ++ drop (s.state + state_length - s.state) (drop s.state xs)) in
      subst (JudgedBy xs reading last b n e h w v xs' e' h' w' v') (sym es ∙ el)
      (record {
        state' = ys;
        judged = subst (λ (zs : List ℕ). Answered zs reading last b n e h w v ys e' h' w' v') (part_is xs d l el s es) a;
        bytes = whole_is xs d l el s es ys long;
      })

  -- Refused ahead of judging.
  pub judged_nowhere : (why : Refusal) → l ≡ Err why → n ≡ number why → Judged xs reading last b n e h w v xs e h w v d
  judged_nowhere why es p =
      subst (JudgedBy xs reading last b n e h w v xs e h w v) (sym es ∙ el)
      (record { answer = p; bytes = refl; point = refl; highs = refl; lows = refl; verdict = refl })
