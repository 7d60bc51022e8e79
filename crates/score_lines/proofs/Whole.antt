-- A run that is fed its input, in whatever parts, prints `output` of it. Assumes nothing.
use mathlib.Core.Path.{◌≡◌, refl, sym, ap, ap₂, ◌∙◌}
use mathlib.Core.Bool.{Bool, true, false, cond}
use mathlib.Core.List.{List, [], ◌∷◌, ◌++◌, append-nil}
use lib.Ieee.{Float}
use Prim.Native.Nat.{ℕ, suc, ◌+◌, ◌≤◌}
use native.Mathlib.Omega.{arith}
use lib.Dec.{eqb}
use lib.ListN.{length}
use borrow.Author.Tests.{ne_eqb, eqb-true, eqb-false}
use Rattle.basicthresholder.specs.declared.BasicThresholder.{BasicThresholder}
use Rattle.std.specs.Prelude.{Option, Some, None}
use Rattle.score_lines.specs.declared.Run.{Run}
use Rattle.score_kinds.specs.declared.Counts.{Counts}
use Rattle.score_kinds.specs.Watching.{settings, kind_of, counted}
use Rattle.score_kinds.specs.Counting.{lines, no_lines, one_more}
use Rattle.score_rows.specs.Text.{header, row, bad_line}
use Rattle.score_rows.specs.Sheet.{AllRead, Bad, ends, first, last_line}
use Rattle.score_rows.proofs.Sheet as Sheets
use Rattle.score_rows.proofs.Sheet.{one_line_more, behind, behind_ends, behind_first, behind_header}
use Rattle.score_lines.specs.Output.{number, read_line, lines_from, by_line, sheet_from, sheet, output}
use Rattle.score_lines.specs.Feeding.{run_of, begin, pushed, line_of, with_score, ended, ended_by, said_by, line_ended, line_said, step, said, total_said, closing, Whole, AddUp}
use Rattle.score_rows.specs.Feeding as Feeding
use Rattle.score_rows.specs.Feeding.{joined}
use Rattle.score_rows.proofs.Feeding as Feeds
use Rattle.score_lines.proofs.Parts.{over_step, over_said, line_step, line_said_lem, bad_step, bad_said, digit_step, digit_said}
use Rattle.score_lines.proofs.Digits.{read, read_faulty, part_begun, part_positive, pushed_more, pushed_spoilt}
use Rattle.score_lines.proofs.Numbers.{Good, Faulty, Pushed, more, spoilt, nothing_yet, push_one, faulty_snoc}

-- All that a run prints from here on, the rest of its input being bs.
abbrev coming : Run → List ℕ → List ℕ
coming run bs = Feeds.coming step said closing run bs

coming_step : (run : Run) (b : ℕ) (bs : List ℕ) → coming run (b ∷ bs) ≡ said run b ++ coming (step run b) bs
coming_step run b bs = Feeds.coming_step step said closing run b bs

coming_over : (run : Run) (bs : List ℕ) → coming (ended run) bs ≡ []
unfolding ended closing
coming_over run bs = Feeds.still_coming step said closing (ended run) bs (over_step (ended run) refl) (over_said (ended run) refl) refl

-- What is due of the lines from number n on, from a run with the statistics s and the counts c.
abbrev due : ℕ → BasicThresholder → Counts → List (List ℕ) → List ℕ
due n s c ls = behind s c (sheet_from n ls)

-- By what a line holds.
abbrev due_by : Option Float → ℕ → BasicThresholder → Counts → List (List ℕ) → List ℕ
due_by l n s c rest = behind s c (by_line l (ends (Bad n)) (λ x. first n x (sheet_from (n + 1) rest)))

-- Lines that are still to come, from a run between two lines.
abbrev Between : List ℕ → Type 0
Between bs = (s : BasicThresholder) (c : Counts) → coming (run_of s c 1 false) bs ≡ due (lines c + 1) s c (lines_from [] bs)

module _ (bs : List ℕ) (later : Between bs) where
  by_line_lem : (s : BasicThresholder) (c : Counts) (part : ℕ) (l : Option Float)
      → said_by (run_of s c part false) l ++ coming (ended_by (run_of s c part false) l) bs ≡ due_by l (lines c + 1) s c (lines_from [] bs)
  unfolding said_by ended_by by_line with_score last_line
  by_line_lem s c part None =
      ap (λ (l : List ℕ). bad_line (lines c + 1) ++ l) (coming_over (run_of s c part false) bs)
      ∙ append-nil (bad_line (lines c + 1)) ∙ sym (behind_ends s c (Bad (lines c + 1)))
  by_line_lem s c part (Some x) =
      let k = kind_of s x in
      ap (λ (l : List ℕ). row (lines c + 1) k ++ l)
      (later (counted s x) (one_more c k) ∙ ap (λ (n : ℕ). due (n + 1) (counted s x) (one_more c k) (lines_from [] bs)) (one_line_more c k))
      ∙ sym (behind_first s c (lines c + 1) x (sheet_from (lines c + 1 + 1) (lines_from [] bs)))

  -- A line that ends here.
  whole_line : (line : List ℕ) (s : BasicThresholder) (c : Counts) → Good 16 8 line
      → line_said (run_of s c (number 16 1 line) false) ++ coming (line_ended (run_of s c (number 16 1 line) false)) bs ≡ due (lines c + 1) s c (line ∷ lines_from [] bs)
  unfolding line_said line_ended sheet_from
  whole_line line s c good =
      by_line_lem s c (number 16 1 line) (line_of (lines c) (number 16 1 line))
      ∙ ap (λ (l : Option Float). due_by l (lines c + 1) s c (lines_from [] bs)) (sym (read line good (lines c)))

-- The end of the input.
last_total : (s : BasicThresholder) (c : Counts) (part : ℕ) (l : Option Float) → total_said (ended_by (run_of s c part false) l) ≡ coming (ended_by (run_of s c part false) l) []
unfolding ended_by with_score ended total_said Feeds.coming closing Feeding.fed Feeding.printed
last_total s c part None = refl
last_total s c part (Some x) = refl

nothing_left : Between []
unfolding Feeds.coming closing total_said Feeding.fed Feeding.printed lines_from sheet_from last_line
nothing_left s c = sym (behind_ends s c AllRead)

last_open : (s : BasicThresholder) (c : Counts) (part : ℕ) → 16 ≤ part
    → coming (run_of s c part false) [] ≡ line_said (run_of s c part false) ++ total_said (line_ended (run_of s c part false))
unfolding Feeds.coming closing Feeding.fed Feeding.printed
last_open s c part h = simp (ne_eqb part 1 (λ e. omega arith))

last_line_lem : (a : ℕ) (line : List ℕ) (s : BasicThresholder) (c : Counts) → Good 16 8 (a ∷ line)
    → coming (run_of s c (number 16 1 (a ∷ line)) false) [] ≡ due (lines c + 1) s c ((a ∷ line) ∷ lines_from [] [])
unfolding line_ended
last_line_lem a line s c good =
    let part = number 16 1 (a ∷ line) in
    last_open s c part (part_begun (a ∷ line) good (omega arith))
    ∙ ap (λ (l : List ℕ). line_said (run_of s c part false) ++ l) (last_total s c part (line_of (lines c) part))
    ∙ whole_line [] nothing_left (a ∷ line) s c good

-- A faulty line is bad, whatever follows.
pub either : {A B : Type 0} (f : A → B) (t : Bool) (x y : A) (z : B) → f x ≡ z → f y ≡ z → f (cond t x y) ≡ z
either f true x y z e h = e
either f false x y z e h = h

bad_line_lem : (s : BasicThresholder) (c : Counts) (n : ℕ) (line : List ℕ) (rest : List (List ℕ)) → Faulty 16 8 line → due n s c (line ∷ rest) ≡ bad_line n
unfolding sheet_from by_line last_line
bad_line_lem s c n line rest f = ap (λ (l : Option Float). due_by l n s c rest) (read_faulty n line f) ∙ behind_ends s c (Bad n)

faulty_line : (bs : List ℕ) (a : ℕ) (line : List ℕ) (n : ℕ) (s : BasicThresholder) (c : Counts) → Faulty 16 8 (a ∷ line) → due n s c (lines_from (a ∷ line) bs) ≡ bad_line n
unfolding lines_from
faulty_line [] a line n s c f = bad_line_lem s c n (a ∷ line) [] f
faulty_line (b ∷ bs) a line n s c f =
    either (due n s c) (eqb b 10) ((a ∷ line) ∷ lines_from [] bs) (lines_from ((a ∷ line) ++ (b ∷ [])) bs) (bad_line n)
    (bad_line_lem s c n (a ∷ line) (lines_from [] bs) f)
    (faulty_line bs a (line ++ (b ∷ [])) n s c (faulty_snoc (a ∷ line) b f))

snoc_faulty : (bs line : List ℕ) (b n : ℕ) (s : BasicThresholder) (c : Counts) → Faulty 16 8 (line ++ (b ∷ [])) → due n s c (lines_from (line ++ (b ∷ [])) bs) ≡ bad_line n
snoc_faulty bs [] b n s c f = faulty_line bs b [] n s c f
snoc_faulty bs (a ∷ line) b n s c f = faulty_line bs a (line ++ (b ∷ [])) n s c f

-- A byte inside a line, the rest of the input settled for a line that is still good.
module _ (bs line : List ℕ) (b : ℕ) (s : BasicThresholder) (c : Counts) (good : Good 16 8 line) (inside : b ≡ 10 → ⊥) where
  abbrev here : Run
  here = run_of s c (number 16 1 line) false

  inner : (Good 16 8 (line ++ (b ∷ [])) → coming (run_of s c (number 16 1 (line ++ (b ∷ []))) false) bs ≡ due (lines c + 1) s c (lines_from (line ++ (b ∷ [])) bs))
      → Pushed 16 8 line b → coming here (b ∷ bs) ≡ due (lines c + 1) s c (lines_from (line ++ (b ∷ [])) bs)
  inner rest (more g t d) =
      let e = pushed_more line b good t d in
      let nonzero : pushed (number 16 1 line) b ≡ 0 → ⊥ = λ z. omega (arith, part_positive (line ++ (b ∷ [])) g, e, z) in
      coming_step here b bs
      ∙ ap₂ (λ (l : List ℕ) (x : Run). l ++ coming x bs) (digit_said here b refl inside nonzero) (digit_step here b refl inside nonzero ∙ ap (λ (p : ℕ). run_of s c p false) e)
      ∙ rest g
  inner rest (spoilt f t) =
      let e = pushed_spoilt line b good t in
      coming_step here b bs
      ∙ ap₂ (λ (l : List ℕ) (x : Run). l ++ coming x bs) (bad_said here b refl inside e) (bad_step here b refl inside e)
      ∙ ap (λ (l : List ℕ). bad_line (lines c + 1) ++ l) (coming_over here bs)
      ∙ append-nil (bad_line (lines c + 1))
      ∙ sym (snoc_faulty bs line b (lines c + 1) s c f)

-- A byte that ends a line.
line_end : (bs line : List ℕ) (s : BasicThresholder) (c : Counts) → Good 16 8 line → Between bs
    → coming (run_of s c (number 16 1 line) false) (10 ∷ bs) ≡ due (lines c + 1) s c (line ∷ lines_from [] bs)
line_end bs line s c good later =
    let run = run_of s c (number 16 1 line) false in
    coming_step run 10 bs
    ∙ ap₂ (λ (l : List ℕ) (x : Run). l ++ coming x bs) (line_said_lem run 10 refl refl) (line_step run 10 refl refl)
    ∙ whole_line bs later line s c good

-- By the byte: is it a line end?
by_byte : (t : Bool) (bs line : List ℕ) (b : ℕ) (s : BasicThresholder) (c : Counts) → eqb b 10 ≡ t → Good 16 8 line → Between bs
    → (Good 16 8 (line ++ (b ∷ [])) → coming (run_of s c (number 16 1 (line ++ (b ∷ []))) false) bs ≡ due (lines c + 1) s c (lines_from (line ++ (b ∷ [])) bs))
    → coming (run_of s c (number 16 1 line) false) (b ∷ bs) ≡ due (lines c + 1) s c (cond t (line ∷ lines_from [] bs) (lines_from (line ++ (b ∷ [])) bs))
by_byte true bs line b s c e good later rest =
    ap (λ (x : ℕ). coming (run_of s c (number 16 1 line) false) (x ∷ bs)) (eqb-true b 10 e) ∙ line_end bs line s c good later
by_byte false bs line b s c e good later rest = inner bs line b s c good (eqb-false b 10 e) rest (push_one 16 8 line b good)

-- A run in a line of good digits prints what is due for the lines from this one on.
follows : (bs line : List ℕ) (s : BasicThresholder) (c : Counts) → Good 16 8 line → coming (run_of s c (number 16 1 line) false) bs ≡ due (lines c + 1) s c (lines_from line bs)
unfolding lines_from number
follows [] [] s c good = nothing_left s c
follows [] (a ∷ line) s c good = last_line_lem a line s c good
follows (b ∷ bs) line s c good =
    by_byte (eqb b 10) bs line b s c refl good (λ s' c'. follows bs [] s' c' (nothing_yet 16 8)) (λ g. follows bs (line ++ (b ∷ [])) s c g)

-- The whole: however the input is cut, header, parts and end together print its output.
pub whole : Whole
unfolding output sheet begin number lines no_lines
whole parts =
    ap (λ (l : List ℕ). header ++ l) (Feeds.in_one step said closing begin parts ∙ follows (joined parts) [] settings no_lines (nothing_yet 16 8))
    ∙ behind_header (sheet (joined parts))

-- An input that is read to its end has a row for each line.
all_lines : (ls : List (List ℕ)) (n : ℕ) → (sheet_from n ls).end ≡ AllRead → length (sheet_from n ls).readings ≡ length ls
unfolding sheet_from by_line
all_lines [] n e = refl
all_lines (line ∷ rest) n e = go (read_line n line) (λ h. all_lines rest (n + 1) h) e
  where
    go : (l : Option Float) → ((sheet_from (n + 1) rest).end ≡ AllRead → length (sheet_from (n + 1) rest).readings ≡ length rest)
        → (by_line l (ends (Bad n)) (λ x. first n x (sheet_from (n + 1) rest))).end ≡ AllRead
        → length (by_line l (ends (Bad n)) (λ x. first n x (sheet_from (n + 1) rest))).readings ≡ suc (length rest)
    go None later e = absurd (let z : ◌≡◌ {A = ℕ} 0 1 = cc in omega arith)
    go (Some x) later e = ap suc (later e)

pub add_up : AddUp
unfolding sheet
add_up input e = Sheets.add_up settings (sheet input).readings ∙ all_lines (lines_from [] input) 1 e
