-- A load with one more line behind it, how long it is, and what a call that prints leaves. Assumes nothing.
use Rattle.std.proofs.Common.{◌≡◌, ℕ, zero, suc, ◌+◌, ◌*◌, ◌≤◌, List, [], ◌++◌, length, drop, sym, refl, ap, ◌∙◌, ap₂, append_assoc, append-nil, le_refl, zero-add, add-one, arith, length-append, take_all}
use lib.Ieee.{Float}
use Rattle.score_rows.specs.Steps.{Put}
use Rattle.score_rows.proofs.Bytes.{bits_length, put_then}
use Rattle.training_scores.specs.Recurrence.{next, score, scores}
use Rattle.training_lines.specs.Output.{score_line, lines, load}
use Rattle.training_lines.specs.Feeding.{Prints}

pub line_length : (x : Float) → length (score_line x) ≡ 9
unfolding score_line
line_length x = simp (length-append, bits_length)

-- The state behind so many steps.
unfoldable pub after : ℕ → ℕ → ℕ
after seed zero = seed
after seed (suc n) = after (next seed) n

pub after_last : (seed n : ℕ) → after seed (suc n) ≡ next (after seed n)
unfolding after
after_last seed zero = refl
after_last seed (suc n) = after_last (next seed) n

pub load_none : (seed : ℕ) → load seed 0 ≡ []
unfolding load scores lines
load_none seed = refl

load_last : (seed n : ℕ) → load seed (suc n) ≡ load seed n ++ score_line (score (next (after seed n)))
unfolding load scores lines after
load_last seed zero = append-nil (score_line (score (next seed)))
load_last seed (suc n) =
    ap (λ (l : List ℕ). score_line (score (next seed)) ++ l) (load_last (next seed) n)
    ∙ sym (append_assoc (score_line (score (next seed))) (load (next seed) n) (score_line (score (next (after (next seed) n)))))

load_length : (seed n : ℕ) → length (load seed n) ≡ 9 * n
load_length seed zero = ap length (load_none seed)
load_length seed (suc n) = ap length (load_last seed n) ∙ simp (length-append, line_length) (omega (arith, load_length seed n))

-- One more line, written behind a load.
pub load_more : {xs out out' : List ℕ} {at to state : ℕ} {x : Float} (seed i : ℕ) → state ≡ after seed i → x ≡ score (next state) → 9 * (i + 1) ≤ length xs
    → Put xs 0 (load seed i) at out → Put out at (score_line x) to out' → Put xs 0 (load seed (i + 1)) to out'
load_more {x = x} seed i e f room p q =
    rw (add-one i, load_last seed i)
    (put_then p (rw (f ∙ ap (λ (s : ℕ). score (next s)) e) at q) (omega (arith, load_length seed i, line_length (score (next (after seed i))))))

-- The contract of a call, from what it left; and what it has written is within the buffer.
pub prints : {text out after : List ℕ} {end : ℕ} → Put out 0 text end after → Prints text out end after
prints {text} {out} {after} {end} p = record {
  place = p.place ∙ zero-add (length text);
  bytes = p.bytes ∙ ap₂ (λ (l : List ℕ) (k : ℕ). l ++ drop k out) (take_all (length text) text (le_refl (length text))) (zero-add (length text));
}

pub within : {text out after : List ℕ} {end : ℕ} → Prints text out end after → end ≤ length after
within {text} {out} p = rw (p.place, p.bytes, length-append text (drop (length text) out)) (omega arith)
