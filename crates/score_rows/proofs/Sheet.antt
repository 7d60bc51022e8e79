-- A sheet's counts add up to its lines; and what is printed of a sheet from any line on. Assumes nothing.
use mathlib.Core.Path.{◌≡◌, refl, ap, ap₂, ◌∙◌}
use mathlib.Core.List.{List, [], ◌∷◌, ◌++◌, append_assoc}
use Prim.Native.Nat.{ℕ, suc, ◌+◌, ◌<◌}
use native.Mathlib.Omega.{arith}
use lib.ListN.{length}
use borrow.Author.Tests.{lt-ltb}
use lib.Ieee.{Float}
use Rattle.basicthresholder.specs.declared.BasicThresholder.{BasicThresholder}
use Rattle.score_kinds.specs.declared.Kind.{Kind}
use Rattle.score_kinds.specs.declared.Kind.TheVariants.{Skipped, Quiet, Raised}
use Rattle.score_kinds.specs.declared.Counts.{Counts}
use Rattle.score_kinds.specs.Watching.{settings, kind_of, counted}
use Rattle.score_kinds.specs.Counting.{counts_of, is_quiet, is_raised, is_skipped, how_many, tally, lines, no_lines, one_more, with_line}
use Rattle.score_rows.specs.Text.{header, row}
use Rattle.score_rows.specs.Sheet.{Reading, End, Sheet, ends, first, kinds, rows, AddUp, last_line, text}

-- ---- counts
same : {q r k q' r' k' : ℕ} → q ≡ q' → r ≡ r' → k ≡ k' → counts_of q r k ≡ counts_of q' r' k'
same {k = k} {q' = q'} {r' = r'} a b c = ap₂ (λ (x y : ℕ). counts_of x y k) a b ∙ ap (λ (z : ℕ). counts_of q' r' z) c

abbrev plus : Counts → Counts → Counts
plus c d = counts_of (c.quiet + d.quiet) (c.raised + d.raised) (c.skipped + d.skipped)

plus_none : (c : Counts) → plus c (tally []) ≡ c
unfolding tally how_many
plus_none c = same (omega arith) (omega arith) (omega arith)

none_plus : (c : Counts) → plus no_lines c ≡ c
unfolding no_lines
none_plus c = same (omega arith) (omega arith) (omega arith)

plus_more : (c : Counts) (k : Kind) (ks : List Kind) → plus c (tally (k ∷ ks)) ≡ plus (one_more c k) (tally ks)
unfolding tally how_many one_more is_quiet is_raised is_skipped
plus_more c Skipped ks = same (omega arith) (omega arith) (omega arith)
plus_more c (Quiet g) ks = same (omega arith) (omega arith) (omega arith)
plus_more c (Raised g) ks = same (omega arith) (omega arith) (omega arith)

pub one_line_more : (c : Counts) (k : Kind) → lines (one_more c k) ≡ lines c + 1
unfolding lines one_more
one_line_more c Skipped = omega arith
one_line_more c (Quiet g) = omega arith
one_line_more c (Raised g) = omega arith

pub still_few : (c : Counts) (k : Kind) → lines c < 65536 → with_line c k ≡ one_more c k
unfolding with_line
still_few c k h = simp (lt-ltb (lines c) 65536 h)

one_of_three : (ks : List Kind) → lines (tally ks) ≡ length ks
unfolding lines tally how_many is_quiet is_raised is_skipped
one_of_three [] = refl
one_of_three (Skipped ∷ ks) = omega (arith, one_of_three ks)
one_of_three (Quiet g ∷ ks) = omega (arith, one_of_three ks)
one_of_three (Raised g ∷ ks) = omega (arith, one_of_three ks)

kinds_length : (rs : List Reading) (s : BasicThresholder) → length (kinds s rs) ≡ length rs
unfolding kinds
kinds_length [] s = refl
kinds_length (r ∷ rs) s = ap suc (kinds_length rs _)

pub add_up : AddUp
add_up s rs = one_of_three (kinds s rs) ∙ kinds_length rs s

-- ---- what is printed from here on, of a run with the statistics s and the counts c
unfoldable pub behind : BasicThresholder → Counts → Sheet → List ℕ
behind s c sheet =
    let ks = kinds s sheet.readings in
    rows sheet.readings ks ++ last_line sheet.end (plus c (tally ks))

pub behind_ends : (s : BasicThresholder) (c : Counts) (end : End) → behind s c (ends end) ≡ last_line end c
unfolding behind rows kinds
behind_ends s c end = ap (last_line end) (plus_none c)

pub behind_first : (s : BasicThresholder) (c : Counts) (n : ℕ) (x : Float) (sheet : Sheet)
    → behind s c (first n x sheet) ≡ row n (kind_of s x) ++ behind (counted s x) (one_more c (kind_of s x)) sheet
unfolding behind rows kinds
behind_first s c n x sheet =
    let ks = kinds (counted s x) sheet.readings in
    append_assoc (row n (kind_of s x)) (rows sheet.readings ks) _
    ∙ ap (λ (d : Counts). row n (kind_of s x) ++ (rows sheet.readings ks ++ last_line sheet.end d)) (plus_more c (kind_of s x) ks)

-- All of it.
pub behind_header : (sheet : Sheet) → header ++ behind settings no_lines sheet ≡ text sheet
unfolding behind text
behind_header sheet =
    let ks = kinds settings sheet.readings in
    ap (λ (d : Counts). header ++ (rows sheet.readings ks ++ last_line sheet.end d)) (none_plus (tally ks))
