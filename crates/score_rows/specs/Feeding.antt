-- A run that is fed its input in parts, byte by byte: `step` is the run after a byte, `said` what that byte prints, `closing` what the end of the input prints.
use Rattle.std.specs.Prelude.{ℕ, List, [], ◌∷◌, ◌++◌}

-- A part of the input: the run after it, and what it prints.
unfoldable pub fed : {R : Type 0} → (R → ℕ → R) → R → List ℕ → R
fed step run [] = run
fed step run (b ∷ bs) = fed step (step run b) bs

unfoldable pub printed : {R : Type 0} → (R → ℕ → R) → (R → ℕ → List ℕ) → R → List ℕ → List ℕ
printed step said run [] = []
printed step said run (b ∷ bs) = said run b ++ printed step said (step run b) bs

-- An input that comes in parts: all of it, the run that is fed one after the other, and what that run prints until it is finished.
unfoldable pub joined : List (List ℕ) → List ℕ
joined [] = []
joined (p ∷ ps) = p ++ joined ps

unfoldable pub fed_parts : {R : Type 0} → (R → ℕ → R) → R → List (List ℕ) → R
fed_parts step run [] = run
fed_parts step run (p ∷ ps) = fed_parts step (fed step run p) ps

unfoldable pub in_parts : {R : Type 0} → (R → ℕ → R) → (R → ℕ → List ℕ) → (R → List ℕ) → R → List (List ℕ) → List ℕ
in_parts step said closing run [] = closing run
in_parts step said closing run (p ∷ ps) = printed step said run p ++ in_parts step said closing (fed step run p) ps
