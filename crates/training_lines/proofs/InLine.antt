-- A run in a line of digits, of either base: what it prints in the end is what is due for the lines from this one on. Assumes nothing.
use Rattle.std.proofs.Common.{◌≡◌, ℕ, ◌+◌, ◌%◌, ◌^◌, ◌<◌, ◌≤◌, Bool, true, false, cond, ◌&&◌, eqb, ltb, List, [], ◌∷◌, ◌++◌, length, sym, refl, ap, ◌∙◌, le_trans, lt_of_lt_of_le, mod-eq_of_lt, length-append, eqb-true}
use native.Mathlib.Nat.{pow-le-pow_right}
use borrow.Author.Tests.{eqb-false}
use Rattle.score_rows.specs.Text.{bad_line}
use Rattle.score_rows.specs.Feeding as Feeding
use Rattle.score_rows.proofs.Feeding.{still_fed}
use Rattle.score_lines.specs.Output.{digit_of, is_digit, number, lines_from}
use Rattle.score_lines.proofs.Numbers.{Good, Faulty, Pushed, more, spoilt, push_one, faulty_snoc, number_snoc, below}
use Rattle.score_lines.proofs.Whole.{either}
use Rattle.training_lines.specs.declared.Run.{Run}
use Rattle.training_lines.specs.declared.Run.TheVariants.{Bad}
use Rattle.training_lines.specs.Feeding.{pushed, step, fed, closing}

-- A bad line stays bad.
pub bad_closing : (line : ℕ) (bs : List ℕ) → closing (fed (Bad line) bs) ≡ bad_line line
unfolding step closing
bad_closing line bs = ap closing (still_fed step (Bad line) bs (λ b. refl))

-- The number of a line that fits 64 bits does not wrap.
no_wrap : (base most : ℕ) → 0 < base → base ^ most ≤ 2 ^ 64 → (line : List ℕ) (b : ℕ) → Good base most (line ++ (b ∷ []))
    → pushed (number base 0 line) base (digit_of b) ≡ number base 0 (line ++ (b ∷ []))
no_wrap base most p room line b good =
    let l : base ^ length (line ++ (b ∷ [])) ≤ 2 ^ 64 = le_trans (pow-le-pow_right {n = base} p good.short) room in
    ap (λ (n : ℕ). n % 2 ^ 64) (sym (number_snoc base 0 line b)) ∙ mod-eq_of_lt (lt_of_lt_of_le (below (line ++ (b ∷ [])) good) l)

-- The line's base and most digits, the run in it, its number where it is bad, and what is due for a list of lines that begins with it.
module _ (base most : ℕ) (in_line : ℕ → ℕ → Run) (bad : ℕ) (due : List (List ℕ) → List ℕ)
    (positive : 0 < base) (room : base ^ most ≤ 2 ^ 64)
    (inside : (n digits b : ℕ) → (b ≡ 10 → ⊥) → step (in_line n digits) b ≡ cond (ltb digits most && is_digit base b) (in_line (pushed n base (digit_of b)) (digits + 1)) (Bad bad))
    (at_end : (line bs : List ℕ) → Good base most line → closing (fed (step (in_line (number base 0 line) (length line)) 10) bs) ≡ due (line ∷ lines_from [] bs))
    (at_last : (line : List ℕ) → Good base most line → closing (in_line (number base 0 line) (length line)) ≡ due (lines_from line []))
    (faulty : (line : List ℕ) (rest : List (List ℕ)) → Faulty base most line → due (line ∷ rest) ≡ bad_line bad) where
  abbrev here : List ℕ → Run
  here line = in_line (number base 0 line) (length line)

  -- A faulty line is bad, whatever follows.
  faulty_line : (bs : List ℕ) (a : ℕ) (line : List ℕ) → Faulty base most (a ∷ line) → due (lines_from (a ∷ line) bs) ≡ bad_line bad
  unfolding lines_from
  faulty_line [] a line f = faulty (a ∷ line) [] f
  faulty_line (b ∷ bs) a line f =
      either due (eqb b 10) ((a ∷ line) ∷ lines_from [] bs) (lines_from ((a ∷ line) ++ (b ∷ [])) bs) (bad_line bad)
      (faulty (a ∷ line) (lines_from [] bs) f)
      (faulty_line bs a (line ++ (b ∷ [])) (faulty_snoc (a ∷ line) b f))

  snoc_faulty : (bs line : List ℕ) (b : ℕ) → Faulty base most (line ++ (b ∷ [])) → due (lines_from (line ++ (b ∷ [])) bs) ≡ bad_line bad
  snoc_faulty bs [] b f = faulty_line bs b [] f
  snoc_faulty bs (a ∷ line) b f = faulty_line bs a (line ++ (b ∷ [])) f

  one_digit : (line : List ℕ) (b : ℕ) → (b ≡ 10 → ⊥) → Good base most (line ++ (b ∷ [])) → ltb (length line) most ≡ true → is_digit base b ≡ true → step (here line) b ≡ here (line ++ (b ∷ []))
  one_digit line b i g t d =
      inside (number base 0 line) (length line) b i
      ∙ simp (t, d) (λ k. in_line (no_wrap base most positive room line b g k) (sym (length-append line (b ∷ [])) k))

  -- A byte inside a line, the rest of the input settled for a line that is still good.
  inner : (bs line : List ℕ) (b : ℕ) → (b ≡ 10 → ⊥) → (Good base most (line ++ (b ∷ [])) → closing (fed (here (line ++ (b ∷ []))) bs) ≡ due (lines_from (line ++ (b ∷ [])) bs))
      → Pushed base most line b → closing (fed (step (here line) b) bs) ≡ due (lines_from (line ++ (b ∷ [])) bs)
  inner bs line b i rest (more g t d) = ap (λ (r : Run). closing (fed r bs)) (one_digit line b i g t d) ∙ rest g
  inner bs line b i rest (spoilt f t) =
      ap (λ (r : Run). closing (fed r bs)) (inside (number base 0 line) (length line) b i ∙ simp t) ∙ bad_closing bad bs ∙ sym (snoc_faulty bs line b f)

  by_byte : (t : Bool) (bs line : List ℕ) (b : ℕ) → eqb b 10 ≡ t → Good base most line
      → (Good base most (line ++ (b ∷ [])) → closing (fed (here (line ++ (b ∷ []))) bs) ≡ due (lines_from (line ++ (b ∷ [])) bs))
      → closing (fed (step (here line) b) bs) ≡ due (cond t (line ∷ lines_from [] bs) (lines_from (line ++ (b ∷ [])) bs))
  by_byte true bs line b e good rest = ap (λ (x : ℕ). closing (fed (step (here line) x) bs)) (eqb-true b 10 e) ∙ at_end line bs good
  by_byte false bs line b e good rest = inner bs line b (eqb-false b 10 e) rest (push_one base most line b good)

  pub follows : (bs line : List ℕ) → Good base most line → closing (fed (here line) bs) ≡ due (lines_from line bs)
  unfolding Feeding.fed lines_from
  follows [] line good = at_last line good
  follows (b ∷ bs) line good = by_byte (eqb b 10) bs line b refl good (follows bs (line ++ (b ∷ [])))
