-- A run that is fed its input, in whatever parts, ends as `ending` says of it. Assumes nothing.
use mathlib.Core.Path.{◌≡◌, refl, sym, ap, ◌∙◌}
use mathlib.Core.Bool.{Bool, true, false, cond}
use mathlib.Core.List.{List, [], ◌∷◌, ◌++◌, append_assoc, append-nil}
use Prim.Native.Nat.{ℕ, ◌+◌}
use Rattle.csv_rows.specs.declared.Entry.{Entry}
use Rattle.csv_rows.specs.declared.Row.{Row}
use Rattle.csv_rows.specs.declared.Row.TheVariants as Rows
use Rattle.csv_rows.specs.declared.Scan.{Scan}
use Rattle.csv_rows.specs.Scanning as Scanning
use Rattle.csv_rows.specs.Scanning.{stepped, finished, told, heard}
use Rattle.csv_rows.proofs.Whole as Read
use Rattle.score_kinds.specs.declared.Kind.{Kind}
use Rattle.score_kinds.specs.Watching.{kind_of}
use Rattle.score_kinds.specs.Counting.{lines, no_lines}
use Rattle.score_rows.specs.Sheet.{Bad, ends, first}
use Rattle.score_rows.proofs.Sheet.{one_line_more}
use Rattle.score_rows.specs.Feeding as Feeding
use Rattle.score_rows.specs.Feeding.{joined}
use Rattle.score_rows.proofs.Feeding as Feeds
use Rattle.watched_rows.specs.Deciding.{is_watched, goes_on, first_number, next_number}
use Rattle.export_rows.specs.declared.Watch.{Watch}
use Rattle.export_rows.specs.declared.Ending.{Ending}
use Rattle.export_rows.specs.declared.Ending.TheVariants.{Open, Refused, Full}
use Rattle.export_rows.specs.declared.Line.TheVariants as Lines
use Rattle.export_rows.specs.declared.Course.{Course}
use Rattle.export_rows.specs.Output.{sheet_from, sheet, ending_of, ending}
use Rattle.export_rows.specs.Taking.{unwatched, with_row, course_of, is_open, passed, ended, sound, met, taken, totalled}
use Rattle.export_rows.specs.Taking as Taking
use Rattle.export_bytes.specs.declared.Run.{Run}
use Rattle.export_bytes.specs.Feeding.{run_of, begin, step, fed, closed, WholeEnding}
use Rattle.export_bytes.proofs.Parts.{over_step, open_step}
use Rattle.export_bytes.proofs.Whole.{left}

-- How a run with the watch w ends over these rows. Their numbers, from m on, do not tell: those of a run stop at the largest of 64 bits.
abbrev ends_as : ℕ → Watch → List Row → Ending
ends_as m w rs = ending_of (sheet_from m w.drawer (lines w.counts) rs).end

-- A row that a run meets, with the watch w: what `later` has for the run after it is how it ends over it and the rest.
module _ (w : Watch) (n m : ℕ) (rest : List Row) (later : Course → Ending)
    (here : later (course_of w n Open) ≡ ends_as m w rest)
    (next : (w' : Watch) → later (course_of w' (next_number n) Open) ≡ ends_as (m + 1) w' rest)
    (over : (e : Ending) → is_open e ≡ false → later (course_of w n e) ≡ e) where
  abbrev course : Course
  course = course_of w n Open

  module _ (e : Entry) where
    abbrev its : Kind
    its = kind_of w.thresholder e.score

    judged_or_skipped : later (passed course (with_row w e its)) ≡ ending_of (sheet_from (m + 1) e.drawer (lines w.counts + 1) rest).end
    unfolding passed with_row
    judged_or_skipped = next (with_row w e its) ∙ ap (λ (k : ℕ). ending_of (sheet_from (m + 1) e.drawer k rest).end) (one_line_more w.counts its)

    by_sound : later (sound course e).course ≡ ends_as m w (Rows.Sound e ∷ rest)
    unfolding sound passed ended sheet_from ending_of is_open
    by_sound = go (is_watched w.drawer e.drawer) (goes_on (lines w.counts))
      where
        go : (t u : Bool)
            → later (cond t (cond u (Taking.taken_of (passed course (with_row w e its)) (Lines.Shown its)) (Taking.taken_of (ended course Full) Lines.Full)) (Taking.taken_of (passed course w) Lines.Nothing)).course
            ≡ ending_of (cond t (cond u (first m e.score (sheet_from (m + 1) e.drawer (lines w.counts + 1) rest)) (ends (Bad m))) (sheet_from (m + 1) w.drawer (lines w.counts) rest)).end
        go true true = judged_or_skipped
        go true false = over Full refl
        go false u = next w

  by_row : (r : Row) → later (taken course r).course ≡ ends_as m w (told r ++ rest)
  unfolding taken met passed ended told sheet_from ending_of is_open
  by_row Rows.Nothing = here
  by_row Rows.Header = next w
  by_row (Rows.Sound e) = by_sound e
  by_row (Rows.Faulty why) = over (Refused why) refl

-- How a run ends whose input ends here.
abbrev end_of : Run → Ending
end_of run = (closed run).course.ending

total_open : (w : Watch) (n m : ℕ) → (totalled (course_of w n Open)).ending ≡ ends_as m w []
unfolding totalled ended is_open sheet_from ending_of
total_open w n m = refl

total_over : (w : Watch) (n : ℕ) (e : Ending) → is_open e ≡ false → (totalled (course_of w n e)).ending ≡ e
unfolding totalled
total_over w n e o = simp o

end_over : (s : Scan) (w : Watch) (n : ℕ) (e : Ending) → is_open e ≡ false → end_of (run_of s (course_of w n e)) ≡ e
unfolding closed taken totalled is_open
end_over s w n e o = simp o

over_fed : (s : Scan) (w : Watch) (n : ℕ) (e : Ending) (bs : List ℕ) → is_open e ≡ false → end_of (fed (run_of s (course_of w n e)) bs) ≡ e
over_fed s w n e bs o = let run = run_of s (course_of w n e) in ap end_of (Feeds.still_fed step run bs (over_step run o)) ∙ end_over s w n e o

follows : (bs : List ℕ) (s : Scan) (w : Watch) (n m : ℕ) → end_of (fed (run_of s (course_of w n Open)) bs) ≡ ends_as m w (left s bs)
unfolding heard Scanning.fed Feeding.fed closed is_open
follows [] s w n m =
    by_row w n m [] (λ c. (totalled c).ending) (total_open w n m) (λ w'. total_open w' (next_number n) (m + 1)) (total_over w n) (finished s).row
    ∙ ap (ends_as m w) (append-nil (told (finished s).row))
follows (b ∷ bs) s w n m =
    let next = stepped s b in
    ap (λ (r : Run). end_of (fed r bs)) (open_step (run_of s (course_of w n Open)) b refl)
    ∙ by_row w n m (left next.scan bs) (λ c. end_of (fed (run_of next.scan c) bs))
    (follows bs next.scan w n m)
    (λ w'. follows bs next.scan w' (next_number n) (m + 1))
    (λ e o. over_fed next.scan w n e bs o)
    next.row
    ∙ ap (ends_as m w) (sym (append_assoc (told next.row) (heard next.scan bs) (told (finished (Scanning.fed next.scan bs)).row)))

-- The whole: however the input is cut, the run ends as `ending` says of it.
pub whole : WholeEnding
unfolding ending sheet begin Taking.begin unwatched lines no_lines
whole parts =
    ap end_of (Feeds.parts_in_one step begin parts)
    ∙ follows (joined parts) Scanning.begin unwatched first_number first_number
    ∙ ap (ends_as first_number unwatched) (Read.whole_one (joined parts))
