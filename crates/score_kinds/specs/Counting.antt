-- How many lines are quiet, raised and skipped: of a list of kinds, each count on its own; and as a run counts them, line by line.
use Rattle.std.specs.Prelude.{ℕ, ◌+◌, Bool, true, false, cond, List, [], ◌∷◌, ltb}
use Rattle.score_kinds.specs.declared.Kind.{Kind}
use Rattle.score_kinds.specs.declared.Kind.TheVariants.{Skipped, Quiet, Raised}
use Rattle.score_kinds.specs.declared.Counts.{Counts}

abbrev pub counts_of : ℕ → ℕ → ℕ → Counts
counts_of quiet raised skipped = record { quiet = quiet; raised = raised; skipped = skipped }

unfoldable pub is_quiet : Kind → Bool
is_quiet Skipped = false
is_quiet (Quiet g) = true
is_quiet (Raised g) = false

unfoldable pub is_raised : Kind → Bool
is_raised Skipped = false
is_raised (Quiet g) = false
is_raised (Raised g) = true

unfoldable pub is_skipped : Kind → Bool
is_skipped Skipped = true
is_skipped (Quiet g) = false
is_skipped (Raised g) = false

unfoldable pub how_many : (Kind → Bool) → List Kind → ℕ
how_many is [] = 0
how_many is (k ∷ ks) = cond (is k) 1 0 + how_many is ks

unfoldable pub tally : List Kind → Counts
tally ks = counts_of (how_many is_quiet ks) (how_many is_raised ks) (how_many is_skipped ks)

-- The lines judged or skipped.
unfoldable pub lines : Counts → ℕ
lines c = c.quiet + c.raised + c.skipped

-- Before the first line, and with one line more.
unfoldable pub no_lines : Counts
no_lines = counts_of 0 0 0

unfoldable pub one_more : Counts → Kind → Counts
one_more c Skipped = counts_of c.quiet c.raised (c.skipped + 1)
one_more c (Quiet g) = counts_of (c.quiet + 1) c.raised c.skipped
one_more c (Raised g) = counts_of c.quiet (c.raised + 1) c.skipped

-- No run judges or skips more than 65,536 lines, so that the counts of so many stay as they are.
unfoldable pub with_line : Counts → Kind → Counts
with_line c k = cond (ltb (lines c) 65536) (one_more c k) c
