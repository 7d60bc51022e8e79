-- The record that holds a drawer, and the one in front of it. Assumes nothing.
use mathlib.Core.Path.{◌≡◌, refl, sym, ap, ◌∙◌}
use mathlib.Core.Logic.{◌≢◌}
use mathlib.Core.Bool.{Bool, true, false, cond}
use mathlib.Core.List.{List, [], ◌∷◌, ◌++◌, map}
use Prim.Native.Nat.{ℕ, ◌+◌, ◌<◌}
use native.Mathlib.Omega.{arith}
use lib.Dec.{eqb}
use borrow.Author.Tests.{eqb-true, eqb-false, ne_eqb, eq-eqb}
use Rattle.record_pool.specs.Lists.{same, occ}
use Rattle.record_pool.specs.Chains.{holder, in_front}
use Rattle.record_pool.proofs.Occ.{same_refl, same_other}
use Rattle.record_pool.proofs.Chaining.{last_or}

-- Not found: the number is held by none.
pub not_held : (number : ℕ → ℕ) (d : ℕ) (us : List ℕ) → ((j : ℕ) → 0 < occ j us → 0 < j) → holder number d us ≡ 0 → occ d (map number us) ≡ 0
unfolding holder
not_held number d [] h e = refl
not_held number d (x ∷ us) h e = go (eqb (number x) d) refl (λ (e : holder number d us ≡ 0). not_held number d us (λ j k. h j (omega arith)) e)
  where
    go : (b : Bool) → eqb (number x) d ≡ b → (holder number d us ≡ 0 → occ d (map number us) ≡ 0) → same (number x) d + occ d (map number us) ≡ 0
    go true t rest =
        let z : x ≡ 0 = sym (ap (λ (b : Bool). cond b x (holder number d us)) t) ∙ e in
        absurd (omega (arith, h x (omega (arith, same_refl x))))
    go false t rest =
        let z : holder number d us ≡ 0 = sym (ap (λ (b : Bool). cond b x (holder number d us)) t) ∙ e in
        omega (arith, same_other (number x) d (eqb-false (number x) d t), rest z)

-- Found: where it stands, and that its number is d.
pub record Found (number : ℕ → ℕ) (d p : ℕ) (us : List ℕ) (i : ℕ) : Type 0 where
  pub before : List ℕ
  pub behind : List ℕ
  pub whole : us ≡ before ++ i ∷ behind
  pub has : number i ≡ d
  pub front : in_front number d p us ≡ last_or p before

pub held : (number : ℕ → ℕ) (d p : ℕ) (us : List ℕ) → 0 < holder number d us → Found number d p us (holder number d us)
unfolding holder in_front
held number d p [] h = absurd (omega arith)
held number d p (x ∷ us) h = go (eqb (number x) d) refl (λ (k : 0 < holder number d us). held number d x us k) h
  where
    go : (b : Bool) → eqb (number x) d ≡ b → (0 < holder number d us → Found number d x us (holder number d us))
        → 0 < holder number d (x ∷ us) → Found number d p (x ∷ us) (holder number d (x ∷ us))
    go true t rest k = rw (t, holder) (record {
      before = [];
      behind = us;
      whole = refl;
      has = eqb-true (number x) d t;
      front = ap (λ (b : Bool). cond b p (in_front number d x us)) t;
    })
    go false t rest k =
        let same-one : holder number d (x ∷ us) ≡ holder number d us = ap (λ (b : Bool). cond b x (holder number d us)) t in
        let f = rest (omega arith) in
        rw same-one (record {
          before = x ∷ f.before;
          behind = f.behind;
          whole = ap (λ (l : List ℕ). x ∷ l) f.whole;
          has = f.has;
          front = ap (λ (b : Bool). cond b p (in_front number d x us)) t ∙ f.front;
        })

-- A found record is one of the list.
pub occ_mid : (i : ℕ) (ys zs : List ℕ) → 0 < occ i (ys ++ i ∷ zs)
occ_mid i [] zs = omega (arith, same_refl i)
occ_mid i (y ∷ ys) zs = omega (arith, occ_mid i ys zs)

pub held_in : (number : ℕ → ℕ) (d : ℕ) (us : List ℕ) → 0 < holder number d us → 0 < occ (holder number d us) us
held_in number d us h =
    let f = held number d 0 us h in
    omega (arith, ap (occ (holder number d us)) f.whole, occ_mid (holder number d us) f.before f.behind)

-- Numbers that agree on the list find the same record.
pub holder_agrees : (f g : ℕ → ℕ) (d : ℕ) (us : List ℕ) → ((j : ℕ) → 0 < occ j us → g j ≡ f j) → holder g d us ≡ holder f d us
unfolding holder
holder_agrees f g d [] h = refl
holder_agrees f g d (x ∷ us) h =
    λ t. cond (eqb (h x (omega (arith, same_refl x)) t) d) x (holder_agrees f g d us (λ j k. h j (omega arith)) t)

-- A record with another number is passed over.
pub passed_first : (f : ℕ → ℕ) (e i : ℕ) (us : List ℕ) → f i ≢ e → holder f e (i ∷ us) ≡ holder f e us
unfolding holder
passed_first f e i us n = ap (λ (b : Bool). cond b i (holder f e us)) (ne_eqb (f i) e n)

pub found_first : (f : ℕ → ℕ) (e i : ℕ) (us : List ℕ) → f i ≡ e → holder f e (i ∷ us) ≡ i
unfolding holder
found_first f e i us n = ap (λ (b : Bool). cond b i (holder f e us)) (eq-eqb (f i) e n)

pub passed : (f : ℕ → ℕ) (e i : ℕ) (ys zs : List ℕ) → f i ≢ e → holder f e (ys ++ i ∷ zs) ≡ holder f e (ys ++ zs)
unfolding holder
passed f e i [] zs n = passed_first f e i zs n
passed f e i (y ∷ ys) zs n = ap (λ (k : ℕ). cond (eqb (f y) e) y k) (passed f e i ys zs n)

-- A number that none of the list has is not found.
pub none_holds : (f : ℕ → ℕ) (e : ℕ) (us : List ℕ) → occ e (map f us) ≡ 0 → holder f e us ≡ 0
unfolding holder
none_holds f e [] h = refl
none_holds f e (x ∷ us) h =
    passed_first f e x us (λ q. omega (arith, ap (λ (n : ℕ). same n e) q, same_refl e)) ∙ none_holds f e us (omega arith)
