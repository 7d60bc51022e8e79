-- A run that is fed its input, in whatever parts, prints `output` of it. Assumes nothing.
use mathlib.Core.Path.{◌≡◌, refl, sym, ap, ap₂, ◌∙◌}
use mathlib.Core.Bool.{Bool, true, false, cond}
use mathlib.Core.List.{List, [], ◌∷◌, ◌++◌, append_assoc, append-nil}
use Prim.Native.Nat.{ℕ, ◌+◌, ◌-◌, ◌^◌, ◌<◌, min}
use native.Mathlib.Omega.{arith}
use lib.ListN.{length}
use Rattle.csv_rows.specs.declared.Entry.{Entry}
use Rattle.csv_rows.specs.declared.Row.{Row}
use Rattle.csv_rows.specs.declared.Row.TheVariants as Rows
use Rattle.csv_rows.specs.declared.Scan.{Scan}
use Rattle.csv_rows.specs.Scanning as Scanning
use Rattle.csv_rows.specs.Scanning.{stepped, finished, told, heard}
use Rattle.csv_rows.proofs.Whole as Read
use Rattle.score_kinds.specs.declared.Kind.{Kind}
use Rattle.score_kinds.specs.Watching.{kind_of, counted}
use Rattle.score_kinds.specs.Counting.{lines, no_lines, one_more}
use Rattle.score_rows.specs.Text.{header, row, bad_line, bad_row}
use Rattle.score_rows.specs.Sheet as Sheet
use Rattle.score_rows.specs.Sheet.{AllRead, Bad, ends, first, last_line}
use Rattle.score_rows.proofs.Sheet.{one_line_more, behind, behind_ends, behind_first, behind_header}
use Rattle.score_rows.specs.Feeding.{joined}
use Rattle.score_rows.proofs.Feeding as Feeds
use Rattle.watched_rows.specs.Deciding.{is_watched, goes_on, first_number, next_number}
use Rattle.export_rows.specs.declared.Watch.{Watch}
use Rattle.export_rows.specs.declared.Ending.{Ending}
use Rattle.export_rows.specs.declared.Ending.TheVariants.{Open, Refused, Full}
use Rattle.export_rows.specs.declared.Line.TheVariants as Lines
use Rattle.export_rows.specs.declared.Course.{Course}
use Rattle.export_rows.specs.Output.{sheet_from, sheet, output}
use Rattle.export_rows.specs.Taking.{unwatched, with_row, course_of, is_open, passed, ended, sound, met, taken, text}
use Rattle.export_rows.specs.Taking as Taking
use Rattle.export_bytes.specs.declared.Run.{Run}
use Rattle.export_bytes.specs.Feeding.{run_of, begin, step, said, total_said, closing, Whole}
use Rattle.export_bytes.proofs.Parts.{over_step, over_said, open_step, open_said}

abbrev largest : ℕ
largest = 2 ^ 64 - 1

-- What is due of the rows from number n on, from a run with the watch w.
abbrev due : ℕ → Watch → List Row → List ℕ
due n w rs = behind w.thresholder w.counts (sheet_from n w.drawer (lines w.counts) rs)

-- A row that a run meets, with the number n and the watch w: what it prints, and then what `later` has for the run after it, is what is due of it and the rest.
module _ (w : Watch) (n : ℕ) (rest : List Row) (later : Course → List ℕ)
    (here : later (course_of w n Open) ≡ due n w rest)
    (next : (w' : Watch) → later (course_of w' (min (n + 1) largest) Open) ≡ due (n + 1) w' rest)
    (over : (e : Ending) → is_open e ≡ false → later (course_of w n e) ≡ []) where
  abbrev course : Course
  course = course_of w n Open

  module _ (e : Entry) where
    abbrev its : Kind
    its = kind_of w.thresholder e.score

    judged_or_skipped : row n its ++ later (passed course (with_row w e its)) ≡ behind w.thresholder w.counts (first n e.score (sheet_from (n + 1) e.drawer (lines w.counts + 1) rest))
    unfolding passed next_number with_row
    judged_or_skipped =
        let s = counted w.thresholder e.score in
        ap (λ (l : List ℕ). row n its ++ l)
        (next (with_row w e its) ∙ ap (λ (k : ℕ). behind s (one_more w.counts its) (sheet_from (n + 1) e.drawer k rest)) (one_line_more w.counts its))
        ∙ sym (behind_first w.thresholder w.counts n e.score (sheet_from (n + 1) e.drawer (lines w.counts + 1) rest))

    by_sound : text n (sound course e).line ++ later (sound course e).course ≡ due n w (Rows.Sound e ∷ rest)
    unfolding sound passed next_number ended text sheet_from is_open last_line
    by_sound = go (is_watched w.drawer e.drawer) (goes_on (lines w.counts))
      where
        go : (t u : Bool)
            → text n (cond t (cond u (Taking.taken_of (passed course (with_row w e its)) (Lines.Shown its)) (Taking.taken_of (ended course Full) Lines.Full)) (Taking.taken_of (passed course w) Lines.Nothing)).line
            ++ later (cond t (cond u (Taking.taken_of (passed course (with_row w e its)) (Lines.Shown its)) (Taking.taken_of (ended course Full) Lines.Full)) (Taking.taken_of (passed course w) Lines.Nothing)).course
            ≡ behind w.thresholder w.counts
            (cond t (cond u (first n e.score (sheet_from (n + 1) e.drawer (lines w.counts + 1) rest)) (ends (Bad n))) (sheet_from (n + 1) w.drawer (lines w.counts) rest))
        go true true = judged_or_skipped
        go true false = ap (λ (l : List ℕ). bad_line n ++ l) (over Full refl) ∙ append-nil (bad_line n) ∙ sym (behind_ends w.thresholder w.counts (Bad n))
        go false u = next w

  by_row : (r : Row) → text n (taken course r).line ++ later (taken course r).course ≡ due n w (told r ++ rest)
  unfolding taken met passed next_number ended text told sheet_from is_open last_line
  by_row Rows.Nothing = here
  by_row Rows.Header = next w
  by_row (Rows.Sound e) = by_sound e
  by_row (Rows.Faulty why) =
      ap (λ (l : List ℕ). bad_row n why ++ l) (over (Refused why) refl) ∙ append-nil (bad_row n why) ∙ sym (behind_ends w.thresholder w.counts (Sheet.Refused n why))

-- All that a run prints from here on, and the rows that are read from here on, the rest of its input being bs.
abbrev coming : Run → List ℕ → List ℕ
coming run bs = Feeds.coming step said closing run bs

abbrev pub left : Scan → List ℕ → List Row
left s bs = heard s bs ++ told (finished (Scanning.fed s bs)).row

silent : (w : Watch) (n : ℕ) (e : Ending) (r : Row) → is_open e ≡ false → text n (taken (course_of w n e) r).line ++ total_said (taken (course_of w n e) r).course ≡ []
unfolding taken text total_said
silent w n e r o = simp o

-- The counts behind the last row, and nothing behind an end.
last_total : (w : Watch) (m k : ℕ) → total_said (course_of w m Open) ≡ due k w []
unfolding total_said is_open sheet_from last_line
last_total w m k = sym (behind_ends w.thresholder w.counts AllRead)

no_total : (w : Watch) (n : ℕ) (e : Ending) → is_open e ≡ false → total_said (course_of w n e) ≡ []
unfolding total_said
no_total w n e o = simp o

coming_over : (s : Scan) (w : Watch) (n : ℕ) (e : Ending) (bs : List ℕ) → is_open e ≡ false → coming (run_of s (course_of w n e)) bs ≡ []
unfolding closing
coming_over s w n e bs o =
    let run = run_of s (course_of w n e) in
    Feeds.still_coming step said closing run bs (over_step run o) (over_said run o) (silent w n e (finished s).row o)

follows : (bs : List ℕ) (s : Scan) (w : Watch) (n : ℕ) → n + length bs < 2 ^ 64 → coming (run_of s (course_of w n Open)) bs ≡ due n w (left s bs)
unfolding heard Scanning.fed closing is_open
follows [] s w n h =
    Feeds.coming_end step said closing (run_of s (course_of w n Open))
    ∙ by_row w n [] total_said (last_total w n n) (λ w'. last_total w' _ (n + 1)) (no_total w n) (finished s).row
    ∙ ap (due n w) (append-nil (told (finished s).row))
follows (b ∷ bs) s w n h =
    let run = run_of s (course_of w n Open) in
    let next = stepped s b in
    Feeds.coming_step step said closing run b bs
    ∙ ap₂ (λ (l : List ℕ) (r : Run). l ++ coming r bs) (open_said run b refl) (open_step run b refl)
    ∙ by_row w n (left next.scan bs) (λ c. coming (run_of next.scan c) bs)
    (follows bs next.scan w n (omega arith))
    (λ w'. ap (λ (m : ℕ). coming (run_of next.scan (course_of w' m Open)) bs) (numbered n bs h) ∙ follows bs next.scan w' (n + 1) (omega arith))
    (λ e o. coming_over next.scan w n e bs o)
    next.row
    ∙ ap (due n w) (sym (append_assoc (told next.row) (heard next.scan bs) (told (finished (Scanning.fed next.scan bs)).row)))
  where
    numbered : (n : ℕ) (bs : List ℕ) → n + length (b ∷ bs) < 2 ^ 64 → min (n + 1) largest ≡ n + 1
    numbered n bs h = omega arith

-- The whole: however the input is cut, header, parts and end together print its output.
pub whole : Whole
unfolding output sheet begin Taking.begin unwatched lines no_lines
whole parts h =
    ap (λ (l : List ℕ). header ++ l)
    (Feeds.in_one step said closing begin parts
    ∙ follows (joined parts) Scanning.begin unwatched first_number (omega arith)
    ∙ ap (due first_number unwatched) (Read.whole_one (joined parts)))
    ∙ behind_header (sheet (joined parts))
