-- How much of its input a run takes: no more than two lines, and 23 bytes. Assumes nothing.
use Rattle.std.proofs.Common.{◌≡◌, ℕ, suc, ◌-◌, ◌≤◌, Bool, true, false, cond, ◌&&◌, eqb, ltb, leb, List, [], ◌∷◌, ◌++◌, length, sym, refl, ap, ◌∙◌, append_assoc, le_trans, arith, ltb-true, eqb-true}
use Rattle.score_rows.specs.Feeding as Feeding
use Rattle.score_rows.proofs.Feeding.{fed_append, still_fed}
use Rattle.score_lines.specs.Output.{is_digit}
use Rattle.training_lines.specs.declared.Run.{Run}
use Rattle.training_lines.specs.declared.Run.TheVariants.{Seed, Count, Both, Bad}
use Rattle.training_lines.specs.Feeding.{begin, seed_step, count_step, step, is_over, fed, closing, NoMore}
use Rattle.training_lines.proofs.Whole.{whole}

still : (run : Run) (b : ℕ) → is_over run ≡ true → step run b ≡ run
unfolding is_over step
still (Seed seed digits) b e = absurd (let z : ◌≡◌ {A = ℕ} 0 1 = cc in omega arith)
still (Count seed count digits) b e = absurd (let z : ◌≡◌ {A = ℕ} 0 1 = cc in omega arith)
still (Both seed count) b e = refl
still (Bad line) b e = refl

-- The line ends that a run still waits for, and the bytes: none exactly where it is over.
abbrev line_ends : Run → ℕ
line_ends (Seed seed digits) = 2
line_ends (Count seed count digits) = 1
line_ends (Both seed count) = 0
line_ends (Bad line) = 0

abbrev pub bytes_left : Run → ℕ
bytes_left (Seed seed digits) = suc (22 - digits)
bytes_left (Count seed count digits) = suc (5 - digits)
bytes_left (Both seed count) = 0
bytes_left (Bad line) = 0

none_over : (run : Run) → line_ends run ≤ 0 → is_over run ≡ true
unfolding is_over
none_over (Seed seed digits) h = absurd (omega arith)
none_over (Count seed count digits) h = absurd (omega arith)
none_over (Both seed count) h = refl
none_over (Bad line) h = refl

pub no_bytes : (run : Run) → bytes_left run ≤ 0 → is_over run ≡ true
unfolding is_over
no_bytes (Seed seed digits) h = absurd (omega arith)
no_bytes (Count seed count digits) h = absurd (omega arith)
no_bytes (Both seed count) h = refl
no_bytes (Bad line) h = refl

pick : (f : Run → ℕ) (t : Bool) (x y : Run) (k : ℕ) → (t ≡ true → f x ≤ k) → f y ≤ k → f (cond t x y) ≤ k
pick f true x y k h g = h refl
pick f false x y k h g = g

-- No byte adds to either, a line end takes one of the first, and every byte one of the second.
ends_kept : (run : Run) (b : ℕ) → line_ends (step run b) ≤ line_ends run
unfolding step seed_step count_step
ends_kept (Seed seed digits) b =
    pick line_ends (eqb b 10) _ _ 2 (λ _. pick line_ends (eqb digits 16) _ _ 2 (λ _. omega arith) (omega arith)) (pick line_ends (ltb digits 16 && is_digit 16 b) _ _ 2 (λ _. omega arith) (omega arith))
ends_kept (Count seed count digits) b =
    pick line_ends (eqb b 10) _ _ 1 (λ _. pick line_ends (leb 1 digits) _ _ 1 (λ _. omega arith) (omega arith)) (pick line_ends (ltb digits 5 && is_digit 10 b) _ _ 1 (λ _. omega arith) (omega arith))
ends_kept (Both seed count) b = omega arith
ends_kept (Bad line) b = omega arith

end_taken : (run : Run) → line_ends (step run 10) ≤ line_ends run - 1
unfolding step seed_step count_step
end_taken (Seed seed digits) = pick line_ends (eqb digits 16) _ _ 1 (λ _. omega arith) (omega arith)
end_taken (Count seed count digits) = pick line_ends (leb 1 digits) _ _ 0 (λ _. omega arith) (omega arith)
end_taken (Both seed count) = omega arith
end_taken (Bad line) = omega arith

first_true : (t u : Bool) → t && u ≡ true → t ≡ true
first_true true u e = refl
first_true false u e = e

pub byte_taken : (run : Run) (b : ℕ) → bytes_left (step run b) ≤ bytes_left run - 1
unfolding step seed_step count_step
byte_taken (Seed seed digits) b =
    pick bytes_left (eqb b 10) _ _ (suc (22 - digits) - 1) (λ _. pick bytes_left (eqb digits 16) _ _ (suc (22 - digits) - 1) (λ e. omega (arith, eqb-true digits 16 e)) (omega arith))
    (pick bytes_left (ltb digits 16 && is_digit 16 b) _ _ (suc (22 - digits) - 1) (λ e. omega (arith, ltb-true digits 16 (first_true (ltb digits 16) (is_digit 16 b) e))) (omega arith))
byte_taken (Count seed count digits) b =
    pick bytes_left (eqb b 10) _ _ (suc (5 - digits) - 1) (λ _. pick bytes_left (leb 1 digits) _ _ (suc (5 - digits) - 1) (λ _. omega arith) (omega arith))
    (pick bytes_left (ltb digits 5 && is_digit 10 b) _ _ (suc (5 - digits) - 1) (λ e. omega (arith, ltb-true digits 5 (first_true (ltb digits 5) (is_digit 10 b) e))) (omega arith))
byte_taken (Both seed count) b = omega arith
byte_taken (Bad line) b = omega arith

ends_fed : (run : Run) (bs : List ℕ) → line_ends (fed run bs) ≤ line_ends run
unfolding Feeding.fed
ends_fed run [] = omega arith
ends_fed run (b ∷ bs) = le_trans (ends_fed (step run b) bs) (ends_kept run b)

bytes_fed : (run : Run) (bs : List ℕ) → bytes_left (fed run bs) ≤ bytes_left run - length bs
unfolding Feeding.fed
bytes_fed run [] = omega arith
bytes_fed run (b ∷ bs) = omega (arith, bytes_fed (step run b) bs, byte_taken run b)

-- A line and its end.
line_taken : (run : Run) (line : List ℕ) → line_ends (fed run (line ++ (10 ∷ []))) ≤ line_ends run - 1
unfolding Feeding.fed
line_taken run line = rw (fed_append step run line (10 ∷ [])) (omega (arith, end_taken (fed run line), ends_fed run line))

two_lines : (first second : List ℕ) → is_over (fed begin (first ++ (10 ∷ (second ++ (10 ∷ []))))) ≡ true
unfolding begin
two_lines first second =
    let e : first ++ (10 ∷ (second ++ (10 ∷ []))) ≡ (first ++ (10 ∷ [])) ++ (second ++ (10 ∷ [])) = sym (append_assoc first (10 ∷ []) (second ++ (10 ∷ []))) in
    rw (e, fed_append step (Seed 0 0) (first ++ (10 ∷ [])) (second ++ (10 ∷ [])))
    (none_over _ (omega (arith, line_taken (Seed 0 0) first, line_taken (fed (Seed 0 0) (first ++ (10 ∷ []))) second)))

pub no_more : NoMore
unfolding begin
no_more = record {
  still = still;
  two_lines = two_lines;
  short = λ input h. no_bytes (fed begin input) (omega (arith, bytes_fed begin input));
  settled = λ input rest e. sym (whole (input ++ rest)) ∙ ap closing (fed_append step begin input rest ∙ still_fed step (fed begin input) rest (λ b. still (fed begin input) b e)) ∙ whole input;
}
