-- The search for a drawer's record. Assumes nothing.
use mathlib.Core.Path.{◌≡◌, refl, sym, ap, ◌∙◌}
use mathlib.Core.Bool.{Bool, true, false, cond}
use mathlib.Core.List.{List, [], ◌∷◌}
use Prim.Native.Nat.{ℕ, ◌≤◌, ◌<◌}
use native.Mathlib.Omega.{arith}
use lib.Dec.{eqb}
use lib.ListN.{length}
use borrow.Author.Tests.{eq-eqb, ne_eqb}
use Rattle.record_pool.specs.Lists.{occ}
use Rattle.record_pool.specs.Chains.{Chained, chain, holder, in_front}
use Rattle.record_pool.specs.Pool.{first_used, next_at, number_at, used_of, rules_ok, record_of, front_of}
use Rattle.record_pool.proofs.Occ.{same_refl}
use Rattle.record_pool.proofs.Chaining.{walking}
use Rattle.record_pool.proofs.Passing.{passes, within_used}
use Rattle.record_pool.proofs.Walking.{short_used}

-- What is left of the used chain holds the drawer where the whole does.
pub record Left (xs : List ℕ) (d at front : ℕ) : Type 0 where
  pub rest : List ℕ
  pub chained : Chained (next_at xs) at rest
  pub short : length rest ≤ 30
  pub within : (j : ℕ) → 0 < occ j rest → (1 ≤ j) × (j ≤ 30)
  pub holds : record_of xs d ≡ holder (number_at xs) d rest
  pub fronts : front_of xs d ≡ in_front (number_at xs) d front rest

pub left_first : (xs : List ℕ) (d start : ℕ) → rules_ok xs ≡ true → start ≡ first_used xs → Left xs d start 0
unfolding record_of front_of
left_first xs d start ok e = record {
  rest = used_of xs;
  chained = rw e (passes xs ok).walk_used;
  short = short_used xs ok;
  within = within_used (passes xs ok);
  holds = refl;
  fronts = refl;
}

-- The list that is left begins with `at`.
begins : (f : ℕ → ℕ) (at : ℕ) (rest : List ℕ) → Chained f at rest → (at ≡ 0 → ⊥) → (t : List ℕ) × (rest ≡ at ∷ t) × Chained f (f at) t
begins f at [] c n = absurd (n c)
begins f at (x ∷ t) c n = (t, ap (λ (m : ℕ). m ∷ t) (sym c.0), rw (sym c.0) at c.2)

pub at_range : (xs : List ℕ) (d at front : ℕ) → (at ≡ 0 → ⊥) → Left xs d at front → (1 ≤ at) × (at ≤ 30)
at_range xs d at front n l =
    let b = begins (next_at xs) at l.rest l.chained n in
    l.within at (omega (arith, ap (occ at) b.1, same_refl at))

pub left_next : (xs : List ℕ) (d at front number next : ℕ) → (at ≡ 0 → ⊥) → number ≡ number_at xs at → (number ≡ d → ⊥) → next ≡ next_at xs at → Left xs d at front
    → Left xs d next at
unfolding holder in_front
left_next xs d at front number next n em ne en l =
    let b = begins (next_at xs) at l.rest l.chained n in
    let other : eqb (number_at xs at) d ≡ false = ne_eqb (number_at xs at) d (λ q. ne (em ∙ q)) in
    record {
      rest = b.0;
      chained = rw en b.2;
      short = omega (arith, l.short, ap length b.1);
      within = λ j k. l.within j (omega (arith, ap (occ j) b.1));
      holds = l.holds ∙ ap (holder (number_at xs) d) b.1 ∙ ap (λ (t : Bool). cond t at (holder (number_at xs) d b.0)) other;
      fronts = l.fronts ∙ ap (in_front (number_at xs) d front) b.1 ∙ ap (λ (t : Bool). cond t front (in_front (number_at xs) d at b.0)) other;
    }

-- What is still to be walked.
abbrev pub ahead : List ℕ → ℕ → ℕ
ahead xs at = length (chain 31 (next_at xs) at)

pub ahead_less : (xs : List ℕ) (d at front next : ℕ) → (at ≡ 0 → ⊥) → next ≡ next_at xs at → Left xs d at front → ahead xs next < ahead xs at
ahead_less xs d at front next n en l =
    let b = begins (next_at xs) at l.rest l.chained n in
    let whole = ap length (walking 31 (next_at xs) at l.rest l.chained (omega (arith, l.short))) in
    let after = ap length (walking 31 (next_at xs) (next_at xs at) b.0 b.2 (omega (arith, l.short, ap length b.1))) in
    rw en (omega (arith, whole, after, ap length b.1))

pub found_here : (xs : List ℕ) (d at front number : ℕ) → (at ≡ 0 → ⊥) → number ≡ number_at xs at → number ≡ d → Left xs d at front
    → (at ≡ record_of xs d) × (front ≡ front_of xs d)
unfolding holder in_front
found_here xs d at front number n em e l =
    let b = begins (next_at xs) at l.rest l.chained n in
    let it : eqb (number_at xs at) d ≡ true = eq-eqb (number_at xs at) d (sym em ∙ e) in (
      sym (l.holds ∙ ap (holder (number_at xs) d) b.1 ∙ ap (λ (t : Bool). cond t at (holder (number_at xs) d b.0)) it),
      sym (l.fronts ∙ ap (in_front (number_at xs) d front) b.1 ∙ ap (λ (t : Bool). cond t front (in_front (number_at xs) d at b.0)) it),
    )

pub found_nowhere : (xs : List ℕ) (d at front : ℕ) → at ≡ 0 → Left xs d at front → (0 ≡ record_of xs d) × (front ≡ front_of xs d)
unfolding holder in_front
found_nowhere xs d at front z l = go l.rest l.chained l.holds l.fronts
  where
    go : (rest : List ℕ) → Chained (next_at xs) at rest → record_of xs d ≡ holder (number_at xs) d rest → front_of xs d ≡ in_front (number_at xs) d front rest
        → (0 ≡ record_of xs d) × (front ≡ front_of xs d)
    go [] c h f = (sym h, sym f)
    go (x ∷ rest) c h f = absurd (let a : at ≡ x = c.0 in let b : 0 < x = c.1 in omega arith)
