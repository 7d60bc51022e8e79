-- Input that comes in parts: feeding xs and then ys is feeding xs ++ ys. And what a turn of a loop over its bytes leaves. Assumes nothing.
use mathlib.Core.Path.{◌≡◌, refl, sym, ap, ap₂, ◌∙◌}
use mathlib.Core.List.{List, [], ◌∷◌, ◌++◌, append_assoc, append-nil}
use Prim.Native.Nat.{ℕ, ◌+◌, ◌*◌, ◌≤◌, ◌<◌}
use native.Mathlib.Numerals.{add-one}
use native.Mathlib.Omega.{arith}
use lib.ListN.{length, take, drop, get_or, take-append-drop}
use lib.Seq.{take-suc}
use Rattle.score_rows.specs.Text.{longest}
use Rattle.score_rows.specs.Steps.{Put}
use Rattle.score_rows.specs.Feeding.{fed, printed, joined, fed_parts, in_parts}
use Rattle.score_rows.proofs.Bytes.{put_then}

module _ {R : Type 0} (step : R → ℕ → R) where
  pub fed_append : (run : R) (xs ys : List ℕ) → fed step run (xs ++ ys) ≡ fed step (fed step run xs) ys
  unfolding fed
  fed_append run [] ys = refl
  fed_append run (x ∷ xs) ys = fed_append (step run x) xs ys

  -- Parts that are fed one after the other lead where they lead in one piece.
  pub parts_in_one : (run : R) (parts : List (List ℕ)) → fed_parts step run parts ≡ fed step run (joined parts)
  unfolding fed_parts joined fed
  parts_in_one run [] = refl
  parts_in_one run (p ∷ ps) = parts_in_one (fed step run p) ps ∙ sym (fed_append run p (joined ps))

  -- A run that no byte changes.
  pub still_fed : (run : R) (xs : List ℕ) → ((b : ℕ) → step run b ≡ run) → fed step run xs ≡ run
  unfolding fed
  still_fed run [] still = refl
  still_fed run (x ∷ xs) still = ap (λ (r : R). fed step r xs) (still x) ∙ still_fed run xs still

  -- A run at the byte i of its input.
  module _ (run : R) (xs : List ℕ) (i : ℕ) {state : R} (e : state ≡ fed step run (take i xs)) where
    pub one_more_lem : i < length xs → take (i + 1) xs ≡ take i xs ++ (get_or xs i 0 ∷ [])
    one_more_lem h = rw add-one (take-suc xs i 0 h)

    pub next_run : {after : R} → i < length xs → after ≡ step state (get_or xs i 0) → after ≡ fed step run (take (i + 1) xs)
    unfolding fed
    next_run h s = s ∙ ap (λ (r : R). step r (get_or xs i 0)) e ∙ sym (ap (fed step run) (one_more_lem h) ∙ fed_append run (take i xs) (get_or xs i 0 ∷ []))

    pub still_run : ((b : ℕ) → step state b ≡ state) → fed step run xs ≡ state
    still_run still =
        ap (fed step run) (sym (take-append-drop i xs)) ∙ fed_append run (take i xs) (drop i xs) ∙ ap (λ (r : R). fed step r (drop i xs)) (sym e) ∙ still_fed state (drop i xs) still

module _ {R : Type 0} (step : R → ℕ → R) (said : R → ℕ → List ℕ) where
  pub printed_append : (run : R) (xs ys : List ℕ) → printed step said run (xs ++ ys) ≡ printed step said run xs ++ printed step said (fed step run xs) ys
  unfolding fed printed
  printed_append run [] ys = refl
  printed_append run (x ∷ xs) ys =
      ap (λ (l : List ℕ). said run x ++ l) (printed_append (step run x) xs ys) ∙ sym (append_assoc (said run x) (printed step said (step run x) xs) (printed step said (fed step (step run x) xs) ys))

  pub still_printed : (run : R) (xs : List ℕ) → ((b : ℕ) → step run b ≡ run) → ((b : ℕ) → said run b ≡ []) → printed step said run xs ≡ []
  unfolding printed
  still_printed run [] still silent = refl
  still_printed run (x ∷ xs) still silent =
      ap₂ (λ (a : List ℕ) (r : R). a ++ printed step said r xs) (silent x) (still x) ∙ still_printed run xs still silent

  -- A run at the byte i of its input, and what it has printed by then.
  module _ (run : R) (xs : List ℕ) (i : ℕ) {state : R} (e : state ≡ fed step run (take i xs)) where
    next_printed : i < length xs → printed step said run (take (i + 1) xs) ≡ printed step said run (take i xs) ++ said state (get_or xs i 0)
    unfolding printed
    next_printed h =
        ap (printed step said run) (one_more_lem step run xs i e h) ∙ printed_append run (take i xs) (get_or xs i 0 ∷ [])
        ∙ ap (λ (l : List ℕ). printed step said run (take i xs) ++ l) (append-nil (said (fed step run (take i xs)) (get_or xs i 0)) ∙ ap (λ (r : R). said r (get_or xs i 0)) (sym e))

    pub next_put : {first out out' ys : List ℕ} {to to' : ℕ} → ((r : R) (b : ℕ) → length (said r b) ≤ longest) → i < length xs → to ≤ longest * i → longest * length xs ≤ length first
        → Put first 0 (printed step said run (take i xs)) to out → said state (get_or xs i 0) ≡ ys → Put out to ys to' out'
        → (to' ≤ longest * (i + 1)) × Put first 0 (printed step said run (take (i + 1) xs)) to' out'
    next_put {first} {out} {out'} {ys} {to} {to'} few h t room p s q =
        let short : length ys ≤ longest = rw s at (few state (get_or xs i 0)) in
        (omega (arith, q.place), rw (next_printed h ∙ ap (λ (l : List ℕ). printed step said run (take i xs) ++ l) s) (put_then p q (omega (arith, p.place))))

    pub still_all : ((b : ℕ) → step state b ≡ state) → ((b : ℕ) → said state b ≡ []) → printed step said run xs ≡ printed step said run (take i xs)
    still_all still silent =
        ap (printed step said run) (sym (take-append-drop i xs)) ∙ printed_append run (take i xs) (drop i xs)
        ∙ ap (λ (l : List ℕ). printed step said run (take i xs) ++ l) (ap (λ (r : R). printed step said r (drop i xs)) (sym e) ∙ still_printed state (drop i xs) still silent)
        ∙ append-nil (printed step said run (take i xs))

  -- All that a run prints from here on, the rest of its input being bs.
  module _ (closing : R → List ℕ) where
    unfoldable pub coming : R → List ℕ → List ℕ
    coming run bs = printed step said run bs ++ closing (fed step run bs)

    pub coming_step : (run : R) (b : ℕ) (bs : List ℕ) → coming run (b ∷ bs) ≡ said run b ++ coming (step run b) bs
    unfolding coming fed printed
    coming_step run b bs = append_assoc (said run b) (printed step said (step run b) bs) (closing (fed step (step run b) bs))

    pub coming_end : (run : R) → coming run [] ≡ closing run
    unfolding coming fed printed
    coming_end run = refl

    pub still_coming : (run : R) (bs : List ℕ) → ((b : ℕ) → step run b ≡ run) → ((b : ℕ) → said run b ≡ []) → closing run ≡ [] → coming run bs ≡ []
    unfolding coming
    still_coming run bs still silent closed =
        ap₂ (λ (l : List ℕ) (r : R). l ++ closing r) (still_printed run bs still silent) (still_fed step run bs still) ∙ closed

    -- Parts that are fed one after the other print what they print in one piece.
    pub in_one : (run : R) (parts : List (List ℕ)) → in_parts step said closing run parts ≡ coming run (joined parts)
    unfolding in_parts joined coming fed printed
    in_one run [] = refl
    in_one run (p ∷ ps) =
        ap (λ (l : List ℕ). printed step said run p ++ l) (in_one (fed step run p) ps)
        ∙ sym (append_assoc (printed step said run p) (printed step said (fed step run p) (joined ps)) (closing (fed step (fed step run p) (joined ps))))
        ∙ ap₂ (λ (l : List ℕ) (r : R). l ++ closing r) (sym (printed_append run p (joined ps))) (sym (fed_append step run p (joined ps)))
