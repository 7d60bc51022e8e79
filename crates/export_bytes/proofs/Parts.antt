-- What a byte does and prints, how much that is, and what a call leaves. Assumes nothing.
use mathlib.Core.Path.{◌≡◌, refl, sym, ap, ap₂, ◌∙◌, subst}
use mathlib.Core.Bool.{Bool, true, false, cond, not}
use mathlib.Core.List.{List, [], ◌∷◌, ◌++◌, append-nil}
use Prim.Native.Nat.{ℕ, suc, ◌+◌, ◌-◌, ◌*◌, ◌≤◌, ◌<◌}
use native.Mathlib.Nat.{le_refl, zero-add}
use native.Mathlib.Omega.{arith}
use lib.ListN.{length, take, drop, get_or, length-append}
use lib.Seq.{take_all, take-add, take-nil}
use Rattle.csv_rows.specs.declared.Row.{Row}
use Rattle.csv_rows.specs.declared.Row.TheVariants as Rows
use Rattle.csv_rows.specs.declared.Scan.{Scan}
use Rattle.csv_rows.specs.declared.Reached.{Reached}
use Rattle.csv_rows.specs.Scanning.{stepped, is_nothing, reached_of, read_on}
use Rattle.csv_fields.proofs.InOneGo.{at_byte}
use Rattle.score_rows.specs.Text.{longest, counts}
use Rattle.score_rows.specs.Feeding as Feeding
use Rattle.score_rows.specs.Steps.{Put}
use Rattle.score_rows.proofs.Feeding.{fed_append, printed_append}
use Rattle.score_rows.proofs.Bytes.{put_then, row_length, bad_line_length, bad_row_length, counts_length, cond_length}
use Rattle.watched_rows.specs.Deciding.{is_watched, next_number}
use Rattle.export_rows.specs.declared.Ending.{Ending}
use Rattle.export_rows.specs.declared.Ending.TheVariants as Endings
use Rattle.export_rows.specs.declared.Course.{Course}
use Rattle.export_rows.specs.declared.Line.{Line}
use Rattle.export_rows.specs.declared.Line.TheVariants as Lines
use Rattle.export_rows.specs.declared.Taken.{Taken}
use Rattle.export_rows.specs.Taking as Taking
use Rattle.export_bytes.specs.declared.Run.{Run}
use Rattle.export_bytes.specs.declared.Fed.{Fed}
use Rattle.export_bytes.specs.Feeding.{run_of, is_open, taken, taken_said, step, said, fed, printed, total_said, Prints}

pub not_true : (t : Bool) → not t ≡ true → t ≡ false
not_true true e = sym e
not_true false e = refl

pub not_false : (t : Bool) → not t ≡ false → t ≡ true
not_false true e = refl
not_false false e = sym e

-- A run that is over reads on without a word.
module _ (run : Run) (over : is_open run ≡ false) where
  pub over_step : (b : ℕ) → step run b ≡ run
  unfolding step
  over_step b = simp over

  pub over_said : (b : ℕ) → said run b ≡ []
  unfolding said
  over_said b = simp over

-- A byte of an open run: one that ends no row, and any.
module _ (run : Run) (b : ℕ) (going : is_open run ≡ true) where
  pub open_step : step run b ≡ taken (stepped run.scan b) run.course
  unfolding step
  open_step = simp going

  pub open_said : said run b ≡ taken_said (stepped run.scan b) run.course
  unfolding said
  open_said = simp going

  inside : (r : Row) → is_nothing r ≡ true → Taking.taken run.course r ≡ Taking.taken_of run.course Lines.Nothing
  unfolding is_nothing Taking.taken Taking.met
  inside Rows.Nothing e = simp going
  inside Rows.Header e = absurd (let z : ◌≡◌ {A = ℕ} 0 1 = cc in omega arith)
  inside (Rows.Sound x) e = absurd (let z : ◌≡◌ {A = ℕ} 0 1 = cc in omega arith)
  inside (Rows.Faulty x) e = absurd (let z : ◌≡◌ {A = ℕ} 0 1 = cc in omega arith)

  pub inside_step : is_nothing (stepped run.scan b).row ≡ true → step run b ≡ run_of (stepped run.scan b).scan run.course
  inside_step e = open_step ∙ ap (λ (t : Taken). run_of (stepped run.scan b).scan t.course) (inside (stepped run.scan b).row e)

  pub inside_said : is_nothing (stepped run.scan b).row ≡ true → said run b ≡ []
  unfolding Taking.text
  inside_said e = open_said ∙ ap (λ (t : Taken). Taking.text run.course.row t.line) (inside (stepped run.scan b).row e)

-- What an open run does and prints on the way to the end of a row: i is the place of the first byte.
record Read (s : Scan) (c : Course) (i : ℕ) (bs : List ℕ) : Type 0 where
  from : i ≤ (read_on s i bs).next
  run : fed (run_of s c) (take ((read_on s i bs).next - i) bs) ≡ run_of (read_on s i bs).scan (Taking.taken c (read_on s i bs).row).course
  text : printed (run_of s c) (take ((read_on s i bs).next - i) bs) ≡ Taking.text c.row (Taking.taken c (read_on s i bs).row).line

cut : (b : ℕ) (bs : List ℕ) (i next : ℕ) → i + 1 ≤ next → take (next - i) (b ∷ bs) ≡ b ∷ take (next - (i + 1)) bs
cut b bs i next h = ap (λ (k : ℕ). take k (b ∷ bs)) (shift i next h)
  where
    shift : (i next : ℕ) → i + 1 ≤ next → next - i ≡ suc (next - (i + 1))
    shift i next h = omega arith

module _ (s : Scan) (c : Course) (i b : ℕ) (bs : List ℕ) (going : Taking.is_open c.ending ≡ true) where
  abbrev here : Run
  here = run_of s c

  inner : is_nothing (stepped s b).row ≡ true → Read (stepped s b).scan c (i + 1) bs → Read s c i (b ∷ bs)
  unfolding read_on Feeding.fed Feeding.printed
  inner e r =
      let next = (read_on (stepped s b).scan (i + 1) bs).next in
      record {
        from = simp e (omega (arith, r.from));
        run = simp e (ap (fed here) (cut b bs i next r.from) ∙ ap (λ (x : Run). fed x (take (next - (i + 1)) bs)) (inside_step here b going e) ∙ r.run);
        text = simp e (ap (printed here) (cut b bs i next r.from) ∙ ap₂ (λ (l : List ℕ) (x : Run). l ++ printed x (take (next - (i + 1)) bs)) (inside_said here b going e) (inside_step here b going e) ∙ r.text);
      }

  ended : is_nothing (stepped s b).row ≡ false → Read s c i (b ∷ bs)
  unfolding read_on Feeding.fed Feeding.printed
  ended e = record {
    from = simp e (omega arith);
    run = simp e (ap (fed here) (cut b bs i (i + 1) (omega arith) ∙ ap (λ (k : ℕ). b ∷ take k bs) (none i)) ∙ open_step here b going);
    text = simp e (ap (printed here) (cut b bs i (i + 1) (omega arith) ∙ ap (λ (k : ℕ). b ∷ take k bs) (none i)) ∙ append-nil (said here b) ∙ open_said here b going);
  }
    where
      none : (i : ℕ) → i + 1 - (i + 1) ≡ 0
      none i = omega arith

  by_row : (t : Bool) → is_nothing (stepped s b).row ≡ t → Read (stepped s b).scan c (i + 1) bs → Read s c i (b ∷ bs)
  by_row true e r = inner e r
  by_row false e r = ended e

read_on_lem : (bs : List ℕ) (s : Scan) (c : Course) (i : ℕ) → Taking.is_open c.ending ≡ true → Read s c i bs
unfolding read_on Feeding.fed Feeding.printed Taking.taken Taking.met Taking.text
read_on_lem [] s c i going = record {
  from = omega arith;
  run = ap (λ (l : List ℕ). fed (run_of s c) l) (take-nil (i - i)) ∙ simp going;
  text = ap (λ (l : List ℕ). printed (run_of s c) l) (take-nil (i - i)) ∙ simp going;
}
read_on_lem (b ∷ bs) s c i going = by_row s c i b bs going (is_nothing (stepped s b).row) refl (read_on_lem bs (stepped s b).scan c (i + 1) going)

-- A row that an open run passes over.
open_is : (e : Ending) → Taking.is_open e ≡ true → e ≡ Endings.Open
unfolding Taking.is_open
open_is Endings.Open h = refl
open_is (Endings.Refused why) h = absurd (let z : ◌≡◌ {A = ℕ} 0 1 = cc in omega arith)
open_is Endings.Full h = absurd (let z : ◌≡◌ {A = ℕ} 0 1 = cc in omega arith)
open_is Endings.Counted h = absurd (let z : ◌≡◌ {A = ℕ} 0 1 = cc in omega arith)

abbrev passed_over : Course → Taken
passed_over c = Taking.taken_of (Taking.course_of c.watch (next_number c.row) c.ending) Lines.Nothing

pub passed_over_lem : (c : Course) (r : Row) → Taking.is_open c.ending ≡ true → Taking.is_passed_over c.watch.drawer r ≡ true → passed_over c ≡ Taking.taken c r
unfolding Taking.is_passed_over Taking.taken Taking.met Taking.sound Taking.passed
passed_over_lem c Rows.Nothing going e = absurd (let z : ◌≡◌ {A = ℕ} 0 1 = cc in omega arith)
passed_over_lem c Rows.Header going e = absurd (let z : ◌≡◌ {A = ℕ} 0 1 = cc in omega arith)
passed_over_lem c (Rows.Faulty why) going e = absurd (let z : ◌≡◌ {A = ℕ} 0 1 = cc in omega arith)
passed_over_lem c (Rows.Sound x) going e =
    ap (λ (k : Ending). Taking.taken_of (Taking.course_of c.watch (next_number c.row) k) Lines.Nothing) (open_is c.ending going)
    ∙ sym (simp (going, not_true (is_watched c.watch.drawer x.drawer) e))

-- What a row and the end of the input print is short.
pub text_length : (n : ℕ) (l : Line) → length (Taking.text n l) ≤ longest
unfolding Taking.text
text_length n Lines.Nothing = omega arith
text_length n (Lines.Shown k) = row_length n k
text_length n Lines.Full = bad_line_length n
text_length n (Lines.Faulty why) = bad_row_length n why

pub total_length : (c : Course) → length (total_said c) ≤ longest
unfolding total_said
total_length c = cond_length (Taking.is_open c.ending) longest (counts c.watch.counts) [] (counts_length c.watch.counts) (omega arith)

-- Reading on moves on.
next_from : (bs : List ℕ) (s : Scan) (i : ℕ) → i ≤ (read_on s i bs).next
unfolding read_on
next_from [] s i = omega arith
next_from (b ∷ bs) s i = go (is_nothing (stepped s b).row) (next_from bs (stepped s b).scan (i + 1))
  where
    go : (t : Bool) → i + 1 ≤ (read_on (stepped s b).scan (i + 1) bs).next
        → i ≤ (cond t (read_on (stepped s b).scan (i + 1) bs) (reached_of (stepped s b).scan (stepped s b).row (i + 1))).next
    go true h = omega arith
    go false h = omega arith

pub next_more : (xs : List ℕ) (s : Scan) (i : ℕ) → i < length xs → i + 1 ≤ (read_on s i (drop i xs)).next
unfolding read_on
next_more xs s i h = rw (at_byte xs i h) (go (is_nothing (stepped s (get_or xs i 0)).row))
  where
    go : (t : Bool) → i + 1 ≤ (cond t (read_on (stepped s (get_or xs i 0)).scan (i + 1) (drop (i + 1) xs)) (reached_of (stepped s (get_or xs i 0)).scan (stepped s (get_or xs i 0)).row (i + 1))).next
    go true = next_from (drop (i + 1) xs) (stepped s (get_or xs i 0)).scan (i + 1)
    go false = omega arith

-- A turn of the loop over a part xs of the input, the run being open at its place i: it reads on to the end of a row or of the part.
module _ (run : Run) (xs : List ℕ) (i : ℕ) (s : Scan) (c : Course) (e : run_of s c ≡ fed run (take i xs)) (going : Taking.is_open c.ending ≡ true) where
  abbrev reached : Reached
  reached = read_on s i (drop i xs)

  read : Read s c i (drop i xs)
  read = read_on_lem (drop i xs) s c i going

  front : take reached.next xs ≡ take i xs ++ take (reached.next - i) (drop i xs)
  front = ap (λ (k : ℕ). take k xs) (back i reached.next read.from) ∙ take-add i (reached.next - i) xs
    where
      back : (i next : ℕ) → i ≤ next → next ≡ i + (next - i)
      back i next h = omega arith

  turn_run : run_of reached.scan (Taking.taken c reached.row).course ≡ fed run (take reached.next xs)
  turn_run =
      sym read.run ∙ ap (λ (r : Run). fed r (take (reached.next - i) (drop i xs))) e
      ∙ sym (ap (fed run) front ∙ fed_append step run (take i xs) (take (reached.next - i) (drop i xs)))

  turn_printed : printed run (take reached.next xs) ≡ printed run (take i xs) ++ Taking.text c.row (Taking.taken c reached.row).line
  turn_printed =
      ap (printed run) front ∙ printed_append step said run (take i xs) (take (reached.next - i) (drop i xs))
      ∙ ap (λ (l : List ℕ). printed run (take i xs) ++ l) (ap (λ (r : Run). printed r (take (reached.next - i) (drop i xs))) (sym e) ∙ read.text)

  turn_put : {first out out' : List ℕ} {to to' : ℕ} → i < length xs → to ≤ longest * i → longest * length xs ≤ length first → Put first 0 (printed run (take i xs)) to out
      → Put out to (Taking.text c.row (Taking.taken c reached.row).line) to' out' → (to' ≤ longest * reached.next) × Put first 0 (printed run (take reached.next xs)) to' out'
  turn_put {first} {out} {out'} {to} {to'} h t room p q =
      let short = text_length c.row (Taking.taken c reached.row).line in
      (omega (arith, q.place, next_more xs s i h), rw turn_printed (put_then p q (omega (arith, p.place))))

  -- The same, of what the two calls answered.
  module _ (first out out' : List ℕ) (to to' : ℕ) (h : i < length xs) (few : to ≤ longest * i) (room : longest * length xs ≤ length first) (p : Put first 0 (printed run (take i xs)) to out) where
    abbrev Turned : Reached → Taken → Type 0
    Turned r t =
        Put out to (Taking.text c.row t.line) to' out'
        → (run_of r.scan t.course ≡ fed run (take r.next xs)) × (to' ≤ longest * r.next) × Put first 0 (printed run (take r.next xs)) to' out'

    pub turn : (r : Reached) → r ≡ reached → (t : Taken) → t ≡ Taking.taken c r.row → Turned r t
    turn r is = subst (λ (r : Reached). (t : Taken) → t ≡ Taking.taken c r.row → Turned r t) (sym is)
        (λ t took. subst (λ (t : Taken). Turned reached t) (sym took) (λ q. let w = turn_put h few room p q in (turn_run, w.0, w.1)))

-- The contract of a call, from what it left; and what it has written is within the buffer.
fed_of : Run → ℕ → Fed
fed_of run written = record { run = run; written = written }

pub prints : {next : Run} {text out after : List ℕ} {r : Fed} → r.run ≡ next → Put out 0 text r.written after → Prints next text out r after
unfolding fed_of
prints {next} {text} {out} {after} {r} e p = record {
  answer = ap₂ fed_of e (p.place ∙ zero-add (length text));
  bytes = p.bytes ∙ ap₂ (λ (l : List ℕ) (k : ℕ). l ++ drop k out) (take_all (length text) text (le_refl (length text))) (zero-add (length text));
}

pub within : {next : Run} {text out after : List ℕ} {r : Fed} → Prints next text out r after → r.written ≤ length after
within {next} {text} {out} f = rw (f.answer, f.bytes, length-append text (drop (length text) out)) (omega arith)
