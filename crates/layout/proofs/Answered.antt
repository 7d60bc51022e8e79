-- The answer to a reading from the answers of its tests. Assumes nothing.
use Rattle.std.proofs.Common.{◌≡◌, ℕ, Bool, true, false, cond, ◌&&◌, eqb, List, length, sym, refl, ◌∙◌, Err}
use Rattle.types.specs.declared.Refusal.{Refusal}
use Rattle.types.specs.declared.Refusal.TheVariants.{Range, Length}
use Rattle.types.specs.Refusals.{of_misfit, of_fitting, Answer}
use Rattle.descriptor.specs.declared.Reading.{Reading}
use Rattle.descriptor.specs.Checks.{sizes_ok, range_ok}
use Rattle.descriptor.proofs.Bounds.{both}
use Rattle.predictorcorrector.specs.State.{state_counts_ok}
use Rattle.layout.specs.Places.{state_length}
use Rattle.layout.specs.Chain.{state_codes_ok, decode_state}
use Rattle.layout.specs.InPlace.{reading_answer}

by_sizes : {A : Type 0} (f : Refusal → A) (b : Bool) → f (of_misfit b) ≡ cond b (f Length) (f Range)
by_sizes f true = refl
by_sizes f false = refl

-- f is what the test of the sizes answered.
module _ (xs : List ℕ) (r : Reading) (lengths : Bool) (codes : state_codes_ok xs ≡ true) where
  module _ {f : Bool} (long : eqb (length xs) state_length ≡ true) (sizes : f ≡ range_ok r.shingle_size r.base_dimension (decode_state xs).base_dimension) where
    pub fitting : (f && lengths) ≡ true → of_fitting true true (state_counts_ok (decode_state xs)) ≡ reading_answer xs r lengths
    unfolding reading_answer
    fitting t = let p = both f lengths t in simp (codes, long, sym sizes ∙ p.0, p.1)

    pub misfit : (f && lengths) ≡ false → Err (of_misfit f) ≡ reading_answer xs r lengths
    unfolding reading_answer
    misfit t = simp (codes, long, sym sizes) (go f lengths t (of_fitting true true (state_counts_ok (decode_state xs))))
      where
        go : (x y : Bool) → (x && y) ≡ false → (a : Answer) → Err (of_misfit x) ≡ cond x (cond y a (Err Length)) (Err Range)
        go true y t a = simp t
        go false y t a = refl

  pub other_length : eqb (length xs) state_length ≡ false → Err (of_misfit (sizes_ok r.shingle_size r.base_dimension)) ≡ reading_answer xs r lengths
  unfolding reading_answer
  other_length short = simp (codes, short, by_sizes {A = Answer} Err (sizes_ok r.shingle_size r.base_dimension))
