-- What an answer of 0 says of a call: it refused nothing that it took, and left its bytes. Assumes nothing.
use Rattle.std.specs.Prelude.{Result, Ok, Err}
use mathlib.Core.Path.{◌≡◌, refl, ap, ◌∙◌}
use mathlib.Core.Bool.{Bool, true, false, cond, true≢false}
use mathlib.Core.List.{List}
use Prim.Native.Nat.{ℕ}
use lib.Dec.{eqb}
use lib.ListN.{length}
use Rattle.types.specs.Refusals.{number}
use Rattle.types.specs.declared.Refusal.{Refusal}
use Rattle.types.specs.declared.Refusal.TheVariants.{Length}
use Rattle.types.specs.declared.TransformMethod.{TransformMethod}
use Rattle.basicthresholder.specs.declared.BasicThresholder.{BasicThresholder}
use Rattle.basicthresholder.specs.declared.Graded.{Graded}
use Rattle.layout.specs.States.{encode_graded}
use Rattle.layout.specs.Left.{Left, left, put_into}
use Rattle.c_chain.proofs.Steps.{refused_number}
use Rattle.c_interface.specs.Calls.{thresholder_read, graded_by}

pub left_bytes : (n m : ℕ) (xs ys : List ℕ) → left n xs ≡ left m ys → xs ≡ ys
left_bytes n m xs ys e = ap (λ (l : Left). l.bytes) e

module _ (out ys : List ℕ) where
  pub not_refused : (why : Refusal) → left 0 ys ≡ left (number why) out → ⊥
  not_refused why e = true≢false (ap (λ (l : Left). eqb l.answer 0) e ∙ refused_number why)

  pub put : (n : ℕ) (zs : List ℕ) → left 0 ys ≡ put_into n out zs → ys ≡ zs
  unfolding put_into
  put n zs = go (eqb (length out) n)
    where
      go : (b : Bool) → left 0 ys ≡ cond b (left 0 zs) (left (number Length) out) → ys ≡ zs
      go true e = left_bytes 0 0 ys zs e
      go false e = absurd (not_refused Length e)

  -- A thresholder was read, and what was asked of it is left.
  module _ (f : BasicThresholder → List ℕ) (n : ℕ) where
    pub read : (t : Result BasicThresholder Refusal) → left 0 ys ≡ thresholder_read f n t out → (s : BasicThresholder) × (t ≡ Ok s)
    unfolding thresholder_read
    read (Ok s) e = (s, refl)
    read (Err why) e = absurd (not_refused why e)

    pub asked : (t : Result BasicThresholder Refusal) (s : BasicThresholder) → t ≡ Ok s → left 0 ys ≡ thresholder_read f n t out → ys ≡ f s
    unfolding thresholder_read
    asked t s k e = put n (f s) (e ∙ ap (λ (r : Result BasicThresholder Refusal). thresholder_read f n r out) k)

  -- The code is a method's, and a thresholder was read.
  module _ (f : BasicThresholder → TransformMethod → Graded) (t : Result BasicThresholder Refusal) where
    pub known : (c : Result TransformMethod Refusal) → left 0 ys ≡ graded_by f c t out → (m : TransformMethod) × (c ≡ Ok m)
    unfolding graded_by
    known (Ok m) e = (m, refl)
    known (Err why) e = absurd (not_refused why e)

    pub graded : (c : Result TransformMethod Refusal) → left 0 ys ≡ graded_by f c t out → (s : BasicThresholder) × (t ≡ Ok s)
    unfolding graded_by
    graded (Ok m) e = read (λ s. encode_graded (f s m)) 8 t e
    graded (Err why) e = absurd (not_refused why e)
