-- A run that is fed its input prints `output` of it. Assumes nothing.
use Rattle.std.proofs.Common.{◌≡◌, ℕ, ◌+◌, Bool, true, false, cond, ◌&&◌, eqb, ltb, leb, List, [], ◌∷◌, length, refl, ap, ◌∙◌, arith, ne_eqb, le-leb}
use borrow.Author.Tests.{lt-leb}
use Rattle.score_rows.specs.Text.{bad_line}
use Rattle.score_rows.proofs.Feeding.{still_fed}
use Rattle.score_lines.specs.Output.{digit_of, is_digit, number, lines_from}
use Rattle.score_lines.proofs.Numbers.{Good, Faulty, long, odd, and_no, nothing_yet}
use Rattle.training_lines.specs.declared.Run.TheVariants.{Seed, Count, Both, Bad}
use Rattle.training_lines.specs.Output.{is_seed, seed_of, is_count, count_of, load, behind_seed, printed, output}
use Rattle.training_lines.specs.Feeding.{begin, pushed, seed_step, count_step, step, fed, asked, closing, Whole}
use Rattle.training_lines.proofs.InLine.{bad_closing, follows}

-- ---- the second line
module _ (seed : ℕ) where
  count_inside : (n digits b : ℕ) → (b ≡ 10 → ⊥) → step (Count seed n digits) b ≡ cond (ltb digits 5 && is_digit 10 b) (Count seed (pushed n 10 (digit_of b)) (digits + 1)) (Bad 2)
  unfolding step count_step
  count_inside n digits b h = simp (ne_eqb b 10 h)

  -- What a line of at most five digits is worth.
  by_count : (line : List ℕ) (rest : List (List ℕ)) → Good 10 5 line → cond (leb 1 (length line)) (asked seed (number 10 0 line)) (bad_line 2) ≡ behind_seed seed (line ∷ rest)
  unfolding behind_seed is_count count_of asked
  by_count line rest good = simp (le-leb (length line) 5 good.short, good.digits) (go (leb 1 (length line)) (leb (number 10 0 line) 65536))
    where
      go : (t u : Bool) → cond t (cond u (load seed (number 10 0 line)) (bad_line 2)) (bad_line 2) ≡ cond (t && u) (load seed (number 10 0 line)) (bad_line 2)
      go true u = refl
      go false u = refl

  count_end : (line bs : List ℕ) → Good 10 5 line → closing (fed (step (Count seed (number 10 0 line) (length line)) 10) bs) ≡ behind_seed seed (line ∷ lines_from [] bs)
  unfolding step count_step closing
  count_end line bs good = go (leb 1 (length line)) ∙ by_count line (lines_from [] bs) good
    where
      go : (t : Bool) → closing (fed (cond t (Both seed (number 10 0 line)) (Bad 2)) bs) ≡ cond t (asked seed (number 10 0 line)) (bad_line 2)
      go true = ap closing (still_fed step (Both seed (number 10 0 line)) bs (λ b. refl))
      go false = bad_closing 2 bs

  count_last : (line : List ℕ) → Good 10 5 line → closing (Count seed (number 10 0 line) (length line)) ≡ behind_seed seed (lines_from line [])
  unfolding closing lines_from behind_seed
  count_last [] good = refl
  count_last (a ∷ line) good = by_count (a ∷ line) [] good

  count_faulty : (line : List ℕ) (rest : List (List ℕ)) → Faulty 10 5 line → behind_seed seed (line ∷ rest) ≡ bad_line 2
  unfolding behind_seed is_count
  count_faulty line rest (long h) = simp (lt-leb (length line) 5 h, and_no (leb 1 (length line)))
  count_faulty line rest (odd e) = simp (e, and_no (leb (length line) 5), and_no (leb 1 (length line)))

  second : (bs : List ℕ) → closing (fed (Count seed 0 0) bs) ≡ behind_seed seed (lines_from [] bs)
  unfolding number
  second bs = follows 10 5 (Count seed) 2 (behind_seed seed) (omega arith) (omega arith) count_inside count_end count_last count_faulty bs [] (nothing_yet 10 5)

-- ---- the first line
seed_inside : (n digits b : ℕ) → (b ≡ 10 → ⊥) → step (Seed n digits) b ≡ cond (ltb digits 16 && is_digit 16 b) (Seed (pushed n 16 (digit_of b)) (digits + 1)) (Bad 1)
unfolding step seed_step
seed_inside n digits b h = simp (ne_eqb b 10 h)

seed_end : (line bs : List ℕ) → Good 16 16 line → closing (fed (step (Seed (number 16 0 line) (length line)) 10) bs) ≡ printed (line ∷ lines_from [] bs)
unfolding step seed_step printed is_seed seed_of
seed_end line bs good = simp good.digits (go (eqb (length line) 16))
  where
    go : (t : Bool) → closing (fed (cond t (Count (number 16 0 line) 0 0) (Bad 1)) bs) ≡ cond (t && true) (behind_seed (number 16 0 line) (lines_from [] bs)) (bad_line 1)
    go true = second (number 16 0 line) bs
    go false = bad_closing 1 bs

seed_last : (line : List ℕ) → Good 16 16 line → closing (Seed (number 16 0 line) (length line)) ≡ printed (lines_from line [])
unfolding closing lines_from printed is_seed behind_seed
seed_last [] good = refl
seed_last (a ∷ line) good = simp good.digits (go (eqb (length (a ∷ line)) 16))
  where
    go : (t : Bool) → cond t (bad_line 2) (bad_line 1) ≡ cond (t && true) (bad_line 2) (bad_line 1)
    go true = refl
    go false = refl

seed_faulty : (line : List ℕ) (rest : List (List ℕ)) → Faulty 16 16 line → printed (line ∷ rest) ≡ bad_line 1
unfolding printed is_seed
seed_faulty line rest (long h) = simp (ne_eqb (length line) 16 (λ e. omega arith))
seed_faulty line rest (odd e) = simp (e, and_no (eqb (length line) 16))

pub whole : Whole
unfolding output begin number
whole input = follows 16 16 Seed 1 printed (omega arith) (omega arith) seed_inside seed_end seed_last seed_faulty input [] (nothing_yet 16 16)
