-- The shapes that the calls share: a slice written or refused, a state changed in place or read. Assumes nothing.
use Rattle.std.specs.Prelude.{Result, Option, Ok, Err, Some, None}
use mathlib.Core.Path.{◌≡◌, sym, ap, ◌∙◌}
use mathlib.Core.Bool.{true, false}
use mathlib.Core.List.{List, [], ◌∷◌, ◌++◌, append-nil}
use Prim.Native.Nat.{ℕ}
use native.Mathlib.Omega.{arith}
use lib.Dec.{eqb, leb}
use lib.ListN.{length, take, drop, set, length-take, drop_of_length-le}
use lib.Ieee.{Float}
use Rattle.deviation.specs.declared.Deviation.{Deviation}
use Rattle.basicthresholder.specs.declared.BasicThresholder.{BasicThresholder}
use Rattle.basicthresholder.specs.declared.Graded.{Graded}
use Rattle.types.specs.Refusals.{number, Answer}
use Rattle.types.specs.declared.Refusal.{Refusal}
use Rattle.types.specs.declared.TransformMethod.{TransformMethod}
use Rattle.layout.specs.Places.{deviation_length, thresholder_length}
use Rattle.layout.specs.Numbers.{written_of, f64_bytes}
use Rattle.layout.specs.States.{encode_deviation, encode_thresholder, encode_graded}
use Rattle.layout.specs.Left.{Left, left, put_into}
use Rattle.c_interface.specs.Calls.{stored, deviation_made, deviation_stored, deviation_changed, deviation_read, measured_over, thresholder_made, thresholder_stored, thresholder_changed, thresholder_read, graded_by}
use Rattle.types.specs.declared.Updated.{Updated}

-- ---- a slice that must have n bytes.
module _ (n : ℕ) (xs ys : List ℕ) where
  pub put_done : (zs : List ℕ) → eqb (length xs) n ≡ true → zs ≡ written_of n xs ys → left 0 zs ≡ put_into n xs ys
  unfolding put_into written_of
  put_done zs h e = simp (e, h)

  pub put_over : (zs : List ℕ) → eqb (length xs) n ≡ true → zs ≡ ys → left 0 zs ≡ put_into n xs ys
  unfolding put_into
  put_over zs h e = simp (e, h)

  pub put_refused : eqb (length xs) n ≡ false → left 3 xs ≡ put_into n xs ys
  unfolding put_into
  put_refused h = simp h

  module _ (a : Answer) where
    pub stored_done : (w : Left) → a ≡ Ok tt → w ≡ put_into n xs ys → w ≡ stored a n xs ys
    unfolding stored
    stored_done w h p = p ∙ rw h

    pub stored_refused : (r : Refusal) (why : ℕ) → a ≡ Err r → why ≡ number r → left why xs ≡ stored a n xs ys
    unfolding stored
    stored_refused r why h p = rw (h, p)

-- ---- a yes/no byte, and the eight bytes behind it.
module _ (m : Option Float) where
  pub set_no : (xs : List ℕ) → length xs ≡ 9 → m ≡ None → set xs 0 0 ≡ measured_over m xs
  unfolding measured_over
  set_no [] h e = absurd (omega (arith, h))
  set_no (x ∷ xs) h e = rw e

  pub set_yes : (x : Float) (xs ys : List ℕ) → length xs ≡ 9 → m ≡ Some x → ys ≡ written_of 8 (take 8 (drop 1 xs)) (f64_bytes x)
      → set (take 1 xs ++ (ys ++ drop 8 (drop 1 xs))) 0 1 ≡ measured_over m xs
  unfolding measured_over written_of
  set_yes x [] ys h e w = absurd (omega (arith, h))
  set_yes x (y ∷ xs) ys h e w =
      let eight : length xs ≡ 8 = omega (arith, h) in
      simp (e, w, drop_of_length-le xs {i = 8} (omega (arith, eight)), length-take 8 xs, eight, append-nil)

-- ---- a stored statistic, as k was read.
module _ (k b : Result Deviation Refusal) (e : k ≡ b) (xs : List ℕ) where
  module _ (d : Deviation) (h : k ≡ Ok d) where
    pub deviation_changed_lem : (f : Deviation → Updated Deviation) (u : Updated Deviation) (w : Left) → u ≡ f d → w ≡ deviation_stored u xs → w ≡ deviation_changed f b xs
    unfolding deviation_changed
    deviation_changed_lem f u w p q = q ∙ ap (λ (v : Updated Deviation). deviation_stored v xs) p ∙ rw (sym e ∙ h)

    pub deviation_read_lem : (f : Deviation → List ℕ) (n : ℕ) (ys : List ℕ) (w : Left) → ys ≡ f d → w ≡ put_into n xs ys → w ≡ deviation_read f n b xs
    unfolding deviation_read
    deviation_read_lem f n ys w p q = q ∙ ap (put_into n xs) p ∙ rw (sym e ∙ h)

  module _ (r : Refusal) (h : k ≡ Err r) (why : ℕ) (p : why ≡ number r) where
    pub deviation_unchanged : (f : Deviation → Updated Deviation) → left why xs ≡ deviation_changed f b xs
    unfolding deviation_changed
    deviation_unchanged f = rw (p, sym e ∙ h)

    pub deviation_unread : (f : Deviation → List ℕ) (n : ℕ) → left why xs ≡ deviation_read f n b xs
    unfolding deviation_read
    deviation_unread f n = rw (p, sym e ∙ h)

-- ---- a stored thresholder, as k was read.
module _ (k b : Result BasicThresholder Refusal) (e : k ≡ b) (xs : List ℕ) where
  module _ (s : BasicThresholder) (h : k ≡ Ok s) where
    pub thresholder_changed_lem : (f : BasicThresholder → Updated BasicThresholder) (u : Updated BasicThresholder) (w : Left) → u ≡ f s → w ≡ thresholder_stored u xs → w ≡ thresholder_changed f b xs
    unfolding thresholder_changed
    thresholder_changed_lem f u w p q = q ∙ ap (λ (v : Updated BasicThresholder). thresholder_stored v xs) p ∙ rw (sym e ∙ h)

    pub thresholder_read_lem : (f : BasicThresholder → List ℕ) (n : ℕ) (ys : List ℕ) (w : Left) → ys ≡ f s → w ≡ put_into n xs ys → w ≡ thresholder_read f n b xs
    unfolding thresholder_read
    thresholder_read_lem f n ys w p q = q ∙ ap (put_into n xs) p ∙ rw (sym e ∙ h)

  module _ (r : Refusal) (h : k ≡ Err r) (why : ℕ) (p : why ≡ number r) where
    pub thresholder_unchanged : (f : BasicThresholder → Updated BasicThresholder) → left why xs ≡ thresholder_changed f b xs
    unfolding thresholder_changed
    thresholder_unchanged f = rw (p, sym e ∙ h)

    pub thresholder_unread : (f : BasicThresholder → List ℕ) (n : ℕ) → left why xs ≡ thresholder_read f n b xs
    unfolding thresholder_read
    thresholder_unread f n = rw (p, sym e ∙ h)

-- ---- a new state, and a grade by a method's code: what is there to match is m.
module _ (m : Result BasicThresholder Refusal) (adjust : ℕ) (out : List ℕ) where
  module _ (s : BasicThresholder) (e : m ≡ Ok s) where
    pub thresholder_made_lem : (w : Left) → leb adjust 1 ≡ true → w ≡ put_into thresholder_length out (encode_thresholder s) → w ≡ thresholder_made m adjust out
    unfolding thresholder_made
    thresholder_made_lem w h p = p ∙ rw (e, h)

    pub thresholder_range : leb adjust 1 ≡ false → left 2 out ≡ thresholder_made m adjust out
    unfolding thresholder_made
    thresholder_range h = rw (e, h)

  pub thresholder_refused : (r : Refusal) (why : ℕ) → m ≡ Err r → why ≡ number r → left why out ≡ thresholder_made m adjust out
  unfolding thresholder_made
  thresholder_refused r why e p = rw (e, p)

module _ (m : Result Deviation Refusal) (out : List ℕ) where
  pub deviation_made_lem : (d : Deviation) (w : Left) → m ≡ Ok d → w ≡ put_into deviation_length out (encode_deviation d) → w ≡ deviation_made m out
  unfolding deviation_made
  deviation_made_lem d w e p = p ∙ rw e

  pub deviation_refused : (r : Refusal) (why : ℕ) → m ≡ Err r → why ≡ number r → left why out ≡ deviation_made m out
  unfolding deviation_made
  deviation_refused r why e p = rw (e, p)

module _ (f : BasicThresholder → TransformMethod → Graded) (k : Result TransformMethod Refusal) (t : Result BasicThresholder Refusal) (out : List ℕ) where
  pub graded_known : (m : TransformMethod) (w : Left) → k ≡ Ok m → w ≡ thresholder_read (λ s. encode_graded (f s m)) 8 t out → w ≡ graded_by f k t out
  unfolding graded_by
  graded_known m w e p = p ∙ rw e

  pub graded_refused : (r : Refusal) (why : ℕ) → k ≡ Err r → why ≡ number r → left why out ≡ graded_by f k t out
  unfolding graded_by
  graded_refused r why e p = rw (e, p)
