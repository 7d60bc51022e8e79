-- A state that was read has its length, and its codes are in their lists. Assumes nothing.
use Rattle.std.proofs.Common.{◌≡◌, ℕ, Bool, true, false, cond, eqb, List, length, refl, arith, Ok, Err}
use Rattle.types.specs.declared.Refusal.TheVariants.{Range, Length}
use Rattle.layout.specs.Places.{state_length}
use Rattle.predictorcorrector.specs.State.{standing}
use Rattle.layout.specs.Chain.{decode_state, state_codes_ok, read_standing}
use Rattle.predictorcorrector.specs.declared.Standing.{Standing}

was_read : (long codes : Bool) (x y : Standing) → cond long (cond codes (Ok x) (Err Range)) (Err Length) ≡ Ok y → (long ≡ true) × (codes ≡ true) × (y ≡ x)
was_read true true x y e = (refl, refl, cc)
was_read true false x y e = absurd (let z : ◌≡◌ {A = ℕ} 0 1 = cc in omega arith)
was_read false codes x y e = absurd (let z : ◌≡◌ {A = ℕ} 0 1 = cc in omega arith)

pub standing_read : (xs : List ℕ) (k : Standing) → read_standing xs ≡ Ok k → (eqb (length xs) state_length ≡ true) × (state_codes_ok xs ≡ true) × (k ≡ standing (decode_state xs))
unfolding read_standing
standing_read xs k e = was_read (eqb (length xs) state_length) (state_codes_ok xs) (standing (decode_state xs)) k e
