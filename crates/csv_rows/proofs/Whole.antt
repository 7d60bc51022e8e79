-- A scan that is fed its input, in whatever parts, reads `readings_of` it. Assumes nothing.
use mathlib.Core.Path.{◌≡◌, refl, sym, ap, ap₂, ◌∙◌, subst}
use mathlib.Core.Bool.{Bool, true, false, cond, not, ◌&&◌, ◌||◌, true≢false}
use mathlib.Core.Logic.{◌⊎◌, inl, inr}
use mathlib.Core.List.{List, [], ◌∷◌, ◌++◌, append_assoc}
use Prim.Native.Nat.{ℕ, ◌+◌, ◌≤◌}
use native.Mathlib.Omega.{arith}
use lib.Dec.{eqb, ltb}
use lib.Ieee.{Float}
use borrow.Author.Tests.{ne_eqb}
use Rattle.types.specs.declared.Refusal.TheVariants as Why
use Rattle.csv_fields.specs.declared.Content.{Content}
use Rattle.csv_fields.specs.Contents.{number, is_number, most_drawer, most_seen, is_score, score_of}
use Rattle.csv_fields.specs.Pushing.{fresh, push, pushed, good, score}
use Rattle.csv_fields.proofs.Numbers.{word_is, spells_0, spells_1, spells_2, drawer_is, seen_is, drawer_value, score_is, score_value}
use Rattle.csv_rows.specs.declared.Scan.{Scan}
use Rattle.csv_rows.specs.declared.Stepped.{Stepped}
use Rattle.csv_rows.specs.declared.Row.{Row}
use Rattle.csv_rows.specs.declared.Row.TheVariants.{Nothing, Header, Sound, Faulty}
use Rattle.csv_rows.specs.Rows.{is_empty, without_return, rows_from, Field, Holds, BrokenQuote, field_of, is_broken, content_in, entry, header_of, entry_of, three_of, fields_of, row_of, is_faulty, readings, readings_of}
use Rattle.csv_rows.specs.Scanning.{scan_of, stepped_of, start, begin_row, begin, refused, field_after, next_field, verdict, after_row, row_ended, stepped, finished, told, fed, heard, joined, in_parts, Whole}
use Rattle.csv_rows.proofs.Walking.{comma, quote, feed, return, Spot, Start, Plain, Return, Quoted, Closed, Ending, Broken, Reach, reach, begun, broken, plainly, walk, ended, ended_line, is_start, is_quoted, is_lost, false_true, place_of, token_of, lost, goes_on, ends_field, ends_row, no_row, comma_takes, feed_takes, quoted_takes, other_takes, end_takes}
use Rattle.csv_rows.proofs.Fields.{walked, walked_snoc, reached, field_end, line_end}

-- ---- what a row's end comes to
abbrev over : Scan → Scan
over s = scan_of true s.header s.field s.good s.drawer s.token

abbrev ending : Scan → Content → Row
ending s p = verdict s.header s.field s.good s.drawer p

-- the scan behind a row
unfoldable behind : Scan → Row → Stepped
behind s r = stepped_of (cond (is_faulty r) (over s) (begin_row false)) r

behind_is : (s : Scan) (r : Row) → after_row s r ≡ behind s r
unfolding after_row behind refused is_faulty
behind_is s Nothing = refl
behind_is s Header = refl
behind_is s (Sound e) = refl
behind_is s (Faulty why) = refl

-- ---- all that a scan tells from here on, the rest of its input being bs
unfoldable coming : Scan → List ℕ → List Row
coming s bs = heard s bs ++ told (finished (fed s bs)).row

coming_step : (s : Scan) (b : ℕ) (bs : List ℕ) → coming s (b ∷ bs) ≡ told (stepped s b).row ++ coming (stepped s b).scan bs
unfolding coming fed heard
coming_step s b bs = append_assoc (told (stepped s b).row) (heard (stepped s b).scan bs) (told (finished (fed (stepped s b).scan bs)).row)

step_then : (s : Scan) (b : ℕ) (bs : List ℕ) (r : Stepped) → stepped s b ≡ r → coming s (b ∷ bs) ≡ told r.row ++ coming r.scan bs
step_then s b bs r e = coming_step s b bs ∙ ap (λ (x : Stepped). told x.row ++ coming x.scan bs) e

over_step : (s : Scan) (b : ℕ) → stepped (over s) b ≡ stepped_of (over s) Nothing
unfolding stepped
over_step s b = refl

coming_over : (s : Scan) (bs : List ℕ) → coming (over s) bs ≡ []
unfolding coming finished fed heard told
coming_over s [] = refl
coming_over s (b ∷ bs) = step_then (over s) b bs (stepped_of (over s) Nothing) (over_step s b) ∙ coming_over s bs

-- ---- a row's fields before the one under way
abbrev part_of : Bool → ℕ → List ℕ → Content
part_of h f text = pushed h f fresh (content_in (field_of text))

unfoldable gathered : Bool → Scan → List (List ℕ) → Scan
gathered h s [] = s
gathered h s (t ∷ ts) = gathered h (next_field s (part_of h s.field t)) ts

gathered_snoc : (h : Bool) (ts : List (List ℕ)) (s : Scan) (t : List ℕ) → gathered h s (ts ++ (t ∷ [])) ≡ next_field (gathered h s ts) (part_of h (gathered h s ts).field t)
unfolding gathered
gathered_snoc h [] s t = refl
gathered_snoc h (u ∷ ts) s t = gathered_snoc h ts (next_field s (part_of h s.field u)) t

record Going (h : Bool) (s : Scan) : Type 0 where
  going : s.over ≡ false
  row : s.header ≡ h
  begins : s.token ≡ start

gathered_going : (h : Bool) (ts : List (List ℕ)) (s : Scan) → Going h s → Going h (gathered h s ts)
unfolding gathered next_field
gathered_going h [] s g = g
gathered_going h (t ∷ ts) s g = gathered_going h ts (next_field s (part_of h s.field t)) (record { going = g.going; row = g.row; begins = refl })

after_three : field_after 3 ≡ 3
unfolding field_after
after_three = refl

after_some : (field : ℕ) → 1 ≤ field_after field
unfolding field_after
after_some field = go (ltb field 3)
  where
    go : (t : Bool) → 1 ≤ cond t (field + 1) 3
    go true = omega arith
    go false = omega arith

gathered_full : (h : Bool) (ts : List (List ℕ)) (s : Scan) → s.field ≡ 3 → (gathered h s ts).field ≡ 3
unfolding gathered next_field
gathered_full h [] s e = e
gathered_full h (t ∷ ts) s e = gathered_full h ts (next_field s (part_of h s.field t)) (ap field_after e ∙ after_three)

gathered_some : (h : Bool) (ts : List (List ℕ)) (s : Scan) → 1 ≤ s.field → 1 ≤ (gathered h s ts).field
unfolding gathered next_field
gathered_some h [] s e = e
gathered_some h (t ∷ ts) s e = gathered_some h ts (next_field s (part_of h s.field t)) (after_some s.field)

abbrev so_far : Bool → List (List ℕ) → Scan
so_far h fields = gathered h (begin_row h) fields

-- the scan behind those fields and behind this text of the next
abbrev at : Bool → List (List ℕ) → List ℕ → Scan
at h fields text = scan_of false h (so_far h fields).field (so_far h fields).good (so_far h fields).drawer (token_of (walked h (so_far h fields).field begun text))

at_begun : (h : Bool) → at h [] [] ≡ begin_row h
unfolding gathered walked begin_row begun start place_of
at_begun h = refl

at_start : (h : Bool) (fields : List (List ℕ)) → so_far h fields ≡ at h fields []
unfolding walked begin_row begun start place_of
at_start h fields =
    let s = so_far h fields in
    let g : Going h s = gathered_going h fields (begin_row h) (record { going = refl; row = refl; begins = refl }) in
    λ i. scan_of (g.going i) (g.row i) s.field s.good s.drawer (g.begins i)

at_next : (h : Bool) (fields : List (List ℕ)) (text : List ℕ)
    → next_field (at h fields text) (part_of h (so_far h fields).field text) ≡ at h (fields ++ (text ∷ [])) []
unfolding next_field
at_next h fields text =
    ap (λ (s : Scan). next_field s (part_of h (so_far h fields).field text)) (sym (at_start h fields))
    ∙ sym (gathered_snoc h fields (begin_row h) text)
    ∙ at_start h (fields ++ (text ∷ []))

at_snoc : (h : Bool) (fields : List (List ℕ)) (text : List ℕ) (b : ℕ)
    → scan_of false h (so_far h fields).field (so_far h fields).good (so_far h fields).drawer
    (token_of (walk h (so_far h fields).field (walked h (so_far h fields).field begun text).spot (walked h (so_far h fields).field begun text).content b))
    ≡ at h fields (text ++ (b ∷ []))
at_snoc h fields text b =
    let s = so_far h fields in
    ap (λ (r : Reach). scan_of false h s.field s.good s.drawer (token_of r)) (sym (walked_snoc h s.field begun text b))

-- ---- a row with a broken quote
unfoldable any_broken : List (List ℕ) → Bool
any_broken [] = false
any_broken (t ∷ ts) = is_broken (field_of t) || any_broken ts

nine : (x y z : Bool) (r : Row) → (x || (y || (z || false))) ≡ true → cond (x || (y || z)) (Faulty Why.Row) r ≡ Faulty Why.Row
nine true y z r e = refl
nine false true z r e = refl
nine false false true r e = refl
nine false false false r e = false_true e

broken_row : (h : Bool) (row : List (List ℕ)) → any_broken row ≡ true → row_of h row ≡ Faulty Why.Row
unfolding any_broken row_of three_of fields_of
broken_row true [] e = refl
broken_row false [] e = refl
broken_row true (a ∷ []) e = refl
broken_row false (a ∷ []) e = refl
broken_row true (a ∷ b ∷ []) e = refl
broken_row false (a ∷ b ∷ []) e = refl
broken_row true (a ∷ b ∷ c ∷ []) e = nine (is_broken (field_of a)) (is_broken (field_of b)) (is_broken (field_of c)) _ e
broken_row false (a ∷ b ∷ c ∷ []) e = nine (is_broken (field_of a)) (is_broken (field_of b)) (is_broken (field_of c)) _ e
broken_row true (a ∷ b ∷ c ∷ d ∷ ds) e = refl
broken_row false (a ∷ b ∷ c ∷ d ∷ ds) e = refl

or_true : (x : Bool) → (x || true) ≡ true
or_true true = refl
or_true false = refl

broken_before : (row : List (List ℕ)) (t : List ℕ) → any_broken row ≡ true → any_broken (row ++ (t ∷ [])) ≡ true
unfolding any_broken
broken_before [] t e = false_true e
broken_before (u ∷ row) t e = go (is_broken (field_of u)) e (λ g. broken_before row t g)
  where
    go : (x : Bool) → (x || any_broken row) ≡ true → (any_broken row ≡ true → any_broken (row ++ (t ∷ [])) ≡ true) → (x || any_broken (row ++ (t ∷ []))) ≡ true
    go true e rest = refl
    go false e rest = rest e

broken_last : (row : List (List ℕ)) (t : List ℕ) → is_broken (field_of t) ≡ true → any_broken (row ++ (t ∷ [])) ≡ true
unfolding any_broken
broken_last [] t e = simp e
broken_last (u ∷ row) t e = simp (broken_last row t e) (or_true (is_broken (field_of u)))

sound_snoc : (row : List (List ℕ)) (t : List ℕ) → any_broken row ≡ false → is_broken (field_of t) ≡ false → any_broken (row ++ (t ∷ [])) ≡ false
unfolding any_broken
sound_snoc [] t e g = simp g
sound_snoc (u ∷ row) t e g = go (is_broken (field_of u)) e (λ k. sound_snoc row t k g)
  where
    go : (x : Bool) → (x || any_broken row) ≡ false → (any_broken row ≡ false → any_broken (row ++ (t ∷ [])) ≡ false) → (x || any_broken (row ++ (t ∷ []))) ≡ false
    go true e rest = false_true (sym e)
    go false e rest = rest e

-- what a broken end says of a text
broken_reached : (h : Bool) (f : ℕ) (x : Field) → reached h f x ≡ broken → is_broken x ≡ true
unfolding reached is_broken broken is_lost
broken_reached h f BrokenQuote e = refl
broken_reached h f (Holds c) e = absurd (plain_not_broken (ap (λ (t : Reach). is_lost t.spot) e))
  where
    plain_not_broken : is_lost Plain ≡ is_lost Broken → ⊥
    plain_not_broken e = true≢false (sym e)

-- ---- a broken quote makes its row faulty, whatever follows
module _ (h : Bool) (f : ℕ) where
  abbrev Lost : List (List ℕ) → List ℕ → Type 0
  Lost fields text = (any_broken fields ≡ true) ⊎ (walked h f begun text ≡ broken)

  broken_text : (text : List ℕ) → walked h f begun text ≡ broken → is_broken (field_of text) ≡ true
  unfolding ended broken
  broken_text text e = broken_reached h f (field_of text) (sym (field_end h f text) ∙ ap (λ (t : Reach). ended h f t.spot t.content) e)

  broken_line : (text : List ℕ) → walked h f begun text ≡ broken → is_broken (field_of (without_return text)) ≡ true
  unfolding ended_line broken
  broken_line text e = broken_reached h f (field_of (without_return text)) (sym (line_end h f text) ∙ ap (λ (t : Reach). ended_line t.spot t.content) e)

  faulty_first : (row : List (List ℕ)) (rest : List (List (List ℕ))) → any_broken row ≡ true → readings h (row ∷ rest) ≡ Faulty Why.Row ∷ []
  unfolding readings is_faulty
  faulty_first row rest e = ap (λ (r : Row). r ∷ cond (is_faulty r) [] (readings false rest)) (broken_row h row e)

  any_text : (fields : List (List ℕ)) (text : List ℕ) → Lost fields text → any_broken (fields ++ (text ∷ [])) ≡ true
  any_text fields text (inl e) = broken_before fields text e
  any_text fields text (inr e) = broken_last fields text (broken_text text e)

  any_line : (fields : List (List ℕ)) (text : List ℕ) → Lost fields text → any_broken (fields ++ (without_return text ∷ [])) ≡ true
  any_line fields text (inl e) = broken_before fields (without_return text) e
  any_line fields text (inr e) = broken_last fields (without_return text) (broken_line text e)

  -- there is a row
  some_row : (fields : List (List ℕ)) (text : List ℕ) → Lost fields text → (is_empty fields && is_empty text) ≡ false
  unfolding is_empty any_broken walked begun broken is_lost
  some_row [] [] (inl e) = false_true e
  some_row [] [] (inr e) = absurd (true≢false (sym (ap (λ (t : Reach). is_lost t.spot) e)))
  some_row [] (b ∷ bs) l = refl
  some_row (t ∷ ts) [] l = refl
  some_row (t ∷ ts) (b ∷ bs) l = refl

  lost_snoc : (fields : List (List ℕ)) (text : List ℕ) (b : ℕ) → Lost fields text → Lost fields (text ++ (b ∷ []))
  unfolding walk broken
  lost_snoc fields text b (inl e) = inl e
  lost_snoc fields text b (inr e) = inr (walked_snoc h f begun text b ∙ ap (λ (t : Reach). walk h f t.spot t.content b) e)

  abbrev Ends : List ℕ → Type 0
  Ends bs = (inside : Bool) (fields : List (List ℕ)) (text : List ℕ) → Lost fields text → readings h (rows_from inside fields text bs) ≡ Faulty Why.Row ∷ []

  lost_byte : (t u : Bool) (b : ℕ) (bs : List ℕ) → eqb b comma ≡ t → eqb b feed ≡ u → Ends bs → (fields : List (List ℕ)) (text : List ℕ) → Lost fields text
      → readings h (rows_from false fields text (b ∷ bs)) ≡ Faulty Why.Row ∷ []
  unfolding rows_from
  lost_byte true u b bs e g rest fields text l = simp e (rest false (fields ++ (text ∷ [])) [] (inl (any_text fields text l)))
  lost_byte false true b bs e g rest fields text l = simp (e, g) (faulty_first (fields ++ (without_return text ∷ [])) (rows_from false [] [] bs) (any_line fields text l))
  lost_byte false false b bs e g rest fields text l = simp (e, g) (rest (eqb b quote) fields (text ++ (b ∷ [])) (lost_snoc fields text b l))

  lost_ends : (bs : List ℕ) (inside : Bool) (fields : List (List ℕ)) (text : List ℕ) → Lost fields text → readings h (rows_from inside fields text bs) ≡ Faulty Why.Row ∷ []
  unfolding rows_from
  lost_ends [] true fields text l = simp (some_row fields text l) (faulty_first (fields ++ (text ∷ [])) [] (any_text fields text l))
  lost_ends [] false fields text l = simp (some_row fields text l) (faulty_first (fields ++ (text ∷ [])) [] (any_text fields text l))
  lost_ends (b ∷ bs) true fields text l = lost_ends bs (not (eqb b quote)) fields (text ++ (b ∷ [])) (lost_snoc fields text b l)
  lost_ends (b ∷ bs) false fields text l = lost_byte (eqb b comma) (eqb b feed) b bs refl refl (λ i fs t k. lost_ends bs i fs t k) fields text l

-- ---- a row of sound fields: what is gathered says what the row holds
three_sound : (f : List ℕ → List ℕ → List ℕ → Row) (a b c : Field) → is_broken a ≡ false → is_broken b ≡ false → is_broken c ≡ false
    → three_of f (a ∷ b ∷ c ∷ []) ≡ f (content_in a) (content_in b) (content_in c)
unfolding three_of
three_sound f a b c x y z = simp (x, y, z)

both : (x y z : Bool) → (((true && x) && y) && z) ≡ (x && (y && z))
both true true z = refl
both true false z = refl
both false y z = refl

header_row : (a b c : List ℕ)
    → cond (((true && good true 0 (pushed true 0 fresh a)) && good true 1 (pushed true 1 fresh b)) && good true 2 (pushed true 2 fresh c)) Header (Faulty Why.Row)
    ≡ header_of a b c
unfolding header_of
header_row a b c =
    ap (λ (t : Bool). cond t Header (Faulty Why.Row))
    (both (good true 0 (pushed true 0 fresh a)) (good true 1 (pushed true 1 fresh b)) (good true 2 (pushed true 2 fresh c))
    ∙ (λ i. word_is 0 a spells_0 i && (word_is 1 b spells_1 i && word_is 2 c spells_2 i)))

and_left : (x y : Bool) → (x && y) ≡ true → x ≡ true
and_left true y e = refl
and_left false y e = e

and_right : (x y : Bool) → (x && y) ≡ true → y ≡ true
and_right true y e = e
and_right false y e = false_true e

entry_row : (a b c : List ℕ)
    → cond (((true && good false 0 (pushed false 0 fresh a)) && good false 1 (pushed false 1 fresh b)) && good false 2 (pushed false 2 fresh c))
    (entry (pushed false 0 fresh a).number (score (pushed false 2 fresh c))) (Faulty Why.Field)
    ≡ entry_of a b c
unfolding entry_of
entry_row a b c =
    ap (λ (t : Bool). cond t (entry (pushed false 0 fresh a).number (score (pushed false 2 fresh c))) (Faulty Why.Field))
    (both (good false 0 (pushed false 0 fresh a)) (good false 1 (pushed false 1 fresh b)) (good false 2 (pushed false 2 fresh c))
    ∙ (λ i. drawer_is a i && (seen_is b i && score_is c i)))
    ∙ go (is_number most_drawer a && (is_number most_seen b && is_score c)) refl
  where
    go : (t : Bool) → (is_number most_drawer a && (is_number most_seen b && is_score c)) ≡ t
        → cond t (entry (pushed false 0 fresh a).number (score (pushed false 2 fresh c))) (Faulty Why.Field)
        ≡ cond t (entry (number 0 a) (score_of c)) (Faulty Why.Field)
    go false e = refl
    go true e =
        ap₂ entry (drawer_value a (and_left (is_number most_drawer a) (is_number most_seen b && is_score c) e))
        (score_value c (and_right (is_number most_seen b) (is_score c) (and_right (is_number most_drawer a) (is_number most_seen b && is_score c) e)))

or_left : (x y : Bool) → (x || y) ≡ false → x ≡ false
or_left true y e = e
or_left false y e = refl

or_right : (x y : Bool) → (x || y) ≡ false → y ≡ false
or_right true y e = false_true (sym e)
or_right false y e = e

abbrev verdict_at : Bool → List (List ℕ) → List ℕ → List ℕ → Row
verdict_at h fields x text = ending (at h fields x) (part_of h (so_far h fields).field text)

full_row : (h : Bool) (fields : List (List ℕ)) (x text : List ℕ) → (so_far h fields).field ≡ 3 → verdict_at h fields x text ≡ Faulty Why.Row
unfolding verdict
full_row h fields x text e = simp e

row_is : (h : Bool) (fields : List (List ℕ)) (x text : List ℕ) → any_broken fields ≡ false → is_broken (field_of text) ≡ false
    → verdict_at h fields x text ≡ row_of h (fields ++ (text ∷ []))
unfolding verdict gathered next_field begin_row field_after row_of fields_of three_of any_broken
row_is true [] x text s k = refl
row_is false [] x text s k = refl
row_is true (a ∷ []) x text s k = refl
row_is false (a ∷ []) x text s k = refl
row_is true (a ∷ b ∷ []) x text s k =
    header_row (content_in (field_of a)) (content_in (field_of b)) (content_in (field_of text))
    ∙ sym (three_sound header_of (field_of a) (field_of b) (field_of text) (or_left (is_broken (field_of a)) _ s) (or_left (is_broken (field_of b)) _ (or_right (is_broken (field_of a)) _ s)) k)
row_is false (a ∷ b ∷ []) x text s k =
    entry_row (content_in (field_of a)) (content_in (field_of b)) (content_in (field_of text))
    ∙ sym (three_sound entry_of (field_of a) (field_of b) (field_of text) (or_left (is_broken (field_of a)) _ s) (or_left (is_broken (field_of b)) _ (or_right (is_broken (field_of a)) _ s)) k)
row_is true (a ∷ b ∷ c ∷ []) x text s k = refl
row_is false (a ∷ b ∷ c ∷ []) x text s k = refl
row_is true (a ∷ b ∷ c ∷ d ∷ ds) x text s k = full_row true (a ∷ b ∷ c ∷ d ∷ ds) x text (gathered_full true (d ∷ ds) (so_far true (a ∷ b ∷ c ∷ [])) refl)
row_is false (a ∷ b ∷ c ∷ d ∷ ds) x text s k = full_row false (a ∷ b ∷ c ∷ d ∷ ds) x text (gathered_full false (d ∷ ds) (so_far false (a ∷ b ∷ c ∷ [])) refl)

-- ---- a byte of a text
module _ (h : Bool) (f : ℕ) where
  abbrev plainly_by : Content → ℕ → Bool → Reach
  plainly_by p b y = cond y (reach Return p) (reach Plain (push h f p b))

  abbrev walk_by : Spot → Content → ℕ → Bool → Bool → Reach
  walk_by Start p b x y = cond x (reach Quoted p) (plainly_by p b y)
  walk_by Plain p b x y = cond x broken (plainly_by p b y)
  walk_by Return p b x y = cond x broken (plainly_by (push h f p return) b y)
  walk_by Quoted p b x y = cond x (reach Closed p) (reach Quoted (push h f p b))
  walk_by Closed p b x y = cond x (reach Quoted (push h f p quote)) (cond y (reach Ending p) broken)
  walk_by Ending p b x y = broken
  walk_by Broken p b x y = broken

  walk_is : (q : Spot) (p : Content) (b : ℕ) → walk h f q p b ≡ walk_by q p b (eqb b quote) (eqb b return)
  unfolding walk plainly
  walk_is Start p b = refl
  walk_is Plain p b = refl
  walk_is Return p b = refl
  walk_is Quoted p b = refl
  walk_is Closed p b = refl
  walk_is Ending p b = refl
  walk_is Broken p b = refl

record Walked (q : Spot) (x : Bool) (t : Reach) : Type 0 where
  begun_no : is_start t.spot ≡ false
  lost_is : is_lost t.spot ≡ true → t ≡ broken
  inside : is_quoted q ≡ false → is_lost t.spot ≡ false → is_quoted t.spot ≡ x
  within : is_quoted q ≡ true → (is_lost t.spot ≡ false) × (is_quoted t.spot ≡ not x)

walked_by : (h : Bool) (f : ℕ) (q : Spot) (p : Content) (b : ℕ) (x y : Bool) → Walked q x (walk_by h f q p b x y)
unfolding is_start is_lost is_quoted broken
walked_by h f Start p b true y = record { begun_no = refl; lost_is = λ e. false_true e; inside = λ _ _. refl; within = λ e. false_true e }
walked_by h f Start p b false true = record { begun_no = refl; lost_is = λ e. false_true e; inside = λ _ _. refl; within = λ e. false_true e }
walked_by h f Start p b false false = record { begun_no = refl; lost_is = λ e. false_true e; inside = λ _ _. refl; within = λ e. false_true e }
walked_by h f Plain p b true y = record { begun_no = refl; lost_is = λ _. refl; inside = λ _ e. false_true (sym e); within = λ e. false_true e }
walked_by h f Plain p b false true = record { begun_no = refl; lost_is = λ e. false_true e; inside = λ _ _. refl; within = λ e. false_true e }
walked_by h f Plain p b false false = record { begun_no = refl; lost_is = λ e. false_true e; inside = λ _ _. refl; within = λ e. false_true e }
walked_by h f Return p b true y = record { begun_no = refl; lost_is = λ _. refl; inside = λ _ e. false_true (sym e); within = λ e. false_true e }
walked_by h f Return p b false true = record { begun_no = refl; lost_is = λ e. false_true e; inside = λ _ _. refl; within = λ e. false_true e }
walked_by h f Return p b false false = record { begun_no = refl; lost_is = λ e. false_true e; inside = λ _ _. refl; within = λ e. false_true e }
walked_by h f Quoted p b true y = record { begun_no = refl; lost_is = λ e. false_true e; inside = λ e _. false_true (sym e); within = λ _. (refl, refl) }
walked_by h f Quoted p b false y = record { begun_no = refl; lost_is = λ e. false_true e; inside = λ e _. false_true (sym e); within = λ _. (refl, refl) }
walked_by h f Closed p b true y = record { begun_no = refl; lost_is = λ e. false_true e; inside = λ _ _. refl; within = λ e. false_true e }
walked_by h f Closed p b false true = record { begun_no = refl; lost_is = λ e. false_true e; inside = λ _ _. refl; within = λ e. false_true e }
walked_by h f Closed p b false false = record { begun_no = refl; lost_is = λ _. refl; inside = λ _ e. false_true (sym e); within = λ e. false_true e }
walked_by h f Ending p b x y = record { begun_no = refl; lost_is = λ _. refl; inside = λ _ e. false_true (sym e); within = λ e. false_true e }
walked_by h f Broken p b x y = record { begun_no = refl; lost_is = λ _. refl; inside = λ _ e. false_true (sym e); within = λ e. false_true e }

walked_one : (h : Bool) (f : ℕ) (q : Spot) (p : Content) (b : ℕ) → Walked q (eqb b quote) (walk h f q p b)
walked_one h f q p b = subst (Walked q (eqb b quote)) (sym (walk_is h f q p b)) (walked_by h f q p b (eqb b quote) (eqb b return))

-- ---- nothing read yet
not_started : (h : Bool) (f : ℕ) (bs : List ℕ) (t : Reach) → is_start t.spot ≡ false → is_start (walked h f t bs).spot ≡ false
unfolding walked
not_started h f [] t e = e
not_started h f (b ∷ bs) t e = not_started h f bs (walk h f t.spot t.content b) (walked_one h f t.spot t.content b).begun_no

start_is : (h : Bool) (f : ℕ) (text : List ℕ) → is_start (walked h f begun text).spot ≡ is_empty text
unfolding walked begun is_start is_empty
start_is h f [] = refl
start_is h f (b ∷ bs) = not_started h f bs (walk h f Start fresh b) (walked_one h f Start fresh b).begun_no

field_is : (h : Bool) (fields : List (List ℕ)) → eqb (so_far h fields).field 0 ≡ is_empty fields
unfolding gathered next_field begin_row is_empty
field_is h [] = refl
field_is h (t ∷ ts) = ne_eqb _ 0 (λ e. some (gathered h (next_field (begin_row h) (part_of h 0 t)) ts).field (gathered_some h ts (next_field (begin_row h) (part_of h 0 t)) (after_some 0)) e)
  where
    some : (n : ℕ) → 1 ≤ n → n ≡ 0 → ⊥
    some n l e = omega arith

-- ---- what the end of a field, and of a row, come to
field_done : (h : Bool) (f : ℕ) (s : Scan) (x : Field)
    → ends_field s (reached h f x) ≡ cond (is_broken x) (lost s) (stepped_of (next_field s (pushed h f fresh (content_in x))) Nothing)
unfolding reached is_broken content_in is_lost broken
field_done h f s BrokenQuote = refl
field_done h f s (Holds c) = refl

row_done : (h : Bool) (f : ℕ) (s : Scan) (x : Field)
    → ends_row s (reached h f x) ≡ cond (is_broken x) (lost s) (behind s (ending s (pushed h f fresh (content_in x))))
unfolding reached is_broken content_in is_lost broken row_ended
row_done h f s BrokenQuote = refl
row_done h f s (Holds c) = behind_is s (ending s (pushed h f fresh c))

told_verdict : (s : Scan) (p : Content) → told (ending s p) ≡ ending s p ∷ []
unfolding verdict told entry
told_verdict s p = go (eqb s.field 2) (s.good && good s.header s.field p) s.header _ _
  where
    go : (t u v : Bool) (d : ℕ) (x : Float) → told (cond t (cond u (cond v Header (entry d x)) (cond v (Faulty Why.Row) (Faulty Why.Field))) (Faulty Why.Row)) ≡ cond t (cond u (cond v Header (entry d x)) (cond v (Faulty Why.Row) (Faulty Why.Field))) (Faulty Why.Row) ∷ []
    go true true true d x = refl
    go true true false d x = refl
    go true false true d x = refl
    go true false false d x = refl
    go false u v d x = refl

-- ---- the rest of the input
abbrev place_at : Bool → List (List ℕ) → List ℕ → Spot
place_at h fields text = (walked h (so_far h fields).field begun text).spot

abbrev Follows : List ℕ → Type 0
Follows bs = (h : Bool) (fields : List (List ℕ)) (text : List ℕ) → any_broken fields ≡ false → is_lost (place_at h fields text) ≡ false
    → coming (at h fields text) bs ≡ readings h (rows_from (is_quoted (place_at h fields text)) fields text bs)

-- a scan that has lost its way tells error 9 and no more
told_lost : (s : Scan) (b : ℕ) (bs : List ℕ) → stepped s b ≡ lost s → coming s (b ∷ bs) ≡ Faulty Why.Row ∷ []
unfolding refused told
told_lost s b bs e = step_then s b bs (lost s) e ∙ ap (λ (l : List Row). Faulty Why.Row ∷ l) (coming_over s bs)

module _ (h : Bool) (fields : List (List ℕ)) (text : List ℕ) (sound : any_broken fields ≡ false) (alive : is_lost (place_at h fields text) ≡ false) where
  abbrev s : Scan
  s = at h fields text

  abbrev f : ℕ
  f = (so_far h fields).field

  abbrev r : Reach
  r = walked h f begun text

  -- the end of the row with the field w for its last
  row_step : (w : List ℕ) (t : Bool) → is_broken (field_of w) ≡ t → ends_row s (reached h f (field_of w)) ≡ cond t (lost s) (behind s (row_of h (fields ++ (w ∷ []))))
  row_step w true e = row_done h f s (field_of w) ∙ ap (λ (x : Bool). cond x (lost s) (behind s (verdict_at h fields text w))) e
  row_step w false e =
      row_done h f s (field_of w) ∙ ap (λ (x : Bool). cond x (lost s) (behind s (verdict_at h fields text w))) e
      ∙ ap (behind s) (row_is h fields text w sound e)

  told_row : (w : List ℕ) → is_broken (field_of w) ≡ false → told (row_of h (fields ++ (w ∷ []))) ≡ row_of h (fields ++ (w ∷ [])) ∷ []
  told_row w e =
      ap told (sym (row_is h fields text w sound e)) ∙ told_verdict s (part_of h f w) ∙ ap (λ (r : Row). r ∷ []) (row_is h fields text w sound e)

  -- the end of the input
  rows_end : (inside : Bool) → rows_from inside fields text [] ≡ cond (is_empty fields && is_empty text) [] ((fields ++ (text ∷ [])) ∷ [])
  unfolding rows_from
  rows_end true = refl
  rows_end false = refl

  abbrev last : Bool → Stepped
  last none = cond none (no_row s) (ends_row s (reached h f (field_of text)))

  finished_is : finished s ≡ last (is_empty fields && is_empty text)
  unfolding finished
  finished_is =
      end_takes s r.spot r.content alive
      ∙ ap₂ (λ (x y : Bool). cond (x && y) (no_row s) (ends_row s (ended h f r.spot r.content))) (field_is h fields) (start_is h f text)
      ∙ ap (λ (t : Reach). cond (is_empty fields && is_empty text) (no_row s) (ends_row s t)) (field_end h f text)

  last_empty : (t : Bool) → told (cond t (lost s) (stepped_of s Nothing)).row ≡ readings t []
  unfolding refused told readings
  last_empty true = refl
  last_empty false = refl

  none_left : (u : Bool) → cond u [] (readings false []) ≡ []
  unfolding readings
  none_left true = refl
  none_left false = refl

  alone : readings h ((fields ++ (text ∷ [])) ∷ []) ≡ row_of h (fields ++ (text ∷ [])) ∷ []
  unfolding readings
  alone = ap (λ (l : List Row). row_of h (fields ++ (text ∷ [])) ∷ l) (none_left (is_faulty (row_of h (fields ++ (text ∷ [])))))

  last_row : (t : Bool) → is_broken (field_of text) ≡ t → told (ends_row s (reached h f (field_of text))).row ≡ readings h ((fields ++ (text ∷ [])) ∷ [])
  unfolding refused told behind
  last_row true e = ap (λ (x : Stepped). told x.row) (row_step text true e) ∙ sym (faulty_first h f (fields ++ (text ∷ [])) [] (broken_last fields text e))
  last_row false e = ap (λ (x : Stepped). told x.row) (row_step text false e) ∙ told_row text e ∙ sym alone

  at_end : (t : Bool) → (is_empty fields && is_empty text) ≡ t → told (finished s).row ≡ readings h (cond t [] ((fields ++ (text ∷ [])) ∷ []))
  at_end true e = ap (λ (x : Stepped). told x.row) (finished_is ∙ ap last e) ∙ last_empty h
  at_end false e = ap (λ (x : Stepped). told x.row) (finished_is ∙ ap last e) ∙ last_row (is_broken (field_of text)) refl

  -- a comma
  comma_step : (b : ℕ) → is_quoted (place_at h fields text) ≡ false → eqb b comma ≡ true → stepped s b ≡ ends_field s (reached h f (field_of text))
  unfolding stepped
  comma_step b q e = comma_takes s r.spot r.content b e alive q ∙ ap (ends_field s) (field_end h f text)

  after_comma : (t : Bool) (b : ℕ) (bs : List ℕ) → is_broken (field_of text) ≡ t → is_quoted (place_at h fields text) ≡ false → eqb b comma ≡ true → Follows bs
      → coming s (b ∷ bs) ≡ readings h (rows_from false (fields ++ (text ∷ [])) [] bs)
  unfolding walked begun is_lost is_quoted told
  after_comma true b bs k q e rest =
      told_lost s b bs (comma_step b q e ∙ field_done h f s (field_of text) ∙ ap (λ (x : Bool). cond x (lost s) (stepped_of (next_field s (part_of h f text)) Nothing)) k)
      ∙ sym (lost_ends h f bs false (fields ++ (text ∷ [])) [] (inl (broken_last fields text k)))
  after_comma false b bs k q e rest =
      step_then s b bs (stepped_of (next_field s (part_of h f text)) Nothing) (comma_step b q e ∙ field_done h f s (field_of text) ∙ ap (λ (x : Bool). cond x (lost s) (stepped_of (next_field s (part_of h f text)) Nothing)) k)
      ∙ ap (λ (z : Scan). coming z bs) (at_next h fields text)
      ∙ rest h (fields ++ (text ∷ [])) [] (sound_snoc fields text sound k) refl

  -- a line feed
  feed_step : (b : ℕ) → is_quoted (place_at h fields text) ≡ false → eqb b comma ≡ false → eqb b feed ≡ true → stepped s b ≡ ends_row s (reached h f (field_of (without_return text)))
  unfolding stepped
  feed_step b q e g = feed_takes s r.spot r.content b g alive q ∙ ap (ends_row s) (line_end h f text)

  after_feed : (t : Bool) (b : ℕ) (bs : List ℕ) → is_broken (field_of (without_return text)) ≡ t → is_quoted (place_at h fields text) ≡ false → eqb b comma ≡ false → eqb b feed ≡ true → Follows bs
      → coming s (b ∷ bs) ≡ readings h ((fields ++ (without_return text ∷ [])) ∷ rows_from false [] [] bs)
  unfolding readings behind walked begun is_lost is_quoted any_broken
  after_feed true b bs k q e g rest =
      told_lost s b bs (feed_step b q e g ∙ row_step (without_return text) true k)
      ∙ sym (faulty_first h f (fields ++ (without_return text ∷ [])) (rows_from false [] [] bs) (broken_last fields (without_return text) k))
  after_feed false b bs k q e g rest =
      let r = row_of h (fields ++ (without_return text ∷ [])) in
      step_then s b bs (behind s r) (feed_step b q e g ∙ row_step (without_return text) false k)
      ∙ ap (λ (l : List Row). l ++ coming (cond (is_faulty r) (over s) (begin_row false)) bs) (told_row (without_return text) k)
      ∙ ap (λ (l : List Row). r ∷ l) (go (is_faulty r))
    where
      go : (t : Bool) → coming (cond t (over s) (begin_row false)) bs ≡ cond t [] (readings false (rows_from false [] [] bs))
      go true = coming_over s bs
      go false = ap (λ (z : Scan). coming z bs) (sym (at_begun false)) ∙ rest false [] [] refl refl

  -- any other byte
  abbrev walked_on : ℕ → Reach
  walked_on b = walk h f r.spot r.content b

  went : (b : ℕ) → Walked (place_at h fields text) (eqb b quote) (walked_on b)
  went b = walked_one h f r.spot r.content b

  place_on : (b : ℕ) → place_at h fields (text ++ (b ∷ [])) ≡ (walked_on b).spot
  place_on b = ap (λ (t : Reach). t.spot) (walked_snoc h f begun text b)

  abbrev on : Reach → Stepped
  on t = stepped_of (scan_of false h f (so_far h fields).good (so_far h fields).drawer (token_of t)) Nothing

  moved_on : (b : ℕ) (bs : List ℕ) (inside : Bool) → stepped s b ≡ goes_on s (walked_on b) → is_lost (walked_on b).spot ≡ false → is_quoted (walked_on b).spot ≡ inside → Follows bs
      → coming s (b ∷ bs) ≡ readings h (rows_from inside fields (text ++ (b ∷ [])) bs)
  unfolding told
  moved_on b bs inside e k i rest =
      step_then s b bs (on (walked_on b)) (e ∙ ap (λ (x : Bool). cond x (lost s) (on (walked_on b))) k)
      ∙ ap (λ (z : Scan). coming z bs) (at_snoc h fields text b)
      ∙ rest h fields (text ++ (b ∷ [])) sound (ap is_lost (place_on b) ∙ k)
      ∙ ap (λ (x : Bool). readings h (rows_from x fields (text ++ (b ∷ [])) bs)) (ap is_quoted (place_on b) ∙ i)

  moved_off : (b : ℕ) (bs : List ℕ) (inside : Bool) → stepped s b ≡ goes_on s (walked_on b) → is_lost (walked_on b).spot ≡ true
      → coming s (b ∷ bs) ≡ readings h (rows_from inside fields (text ++ (b ∷ [])) bs)
  moved_off b bs inside e k =
      told_lost s b bs (e ∙ ap (λ (x : Bool). cond x (lost s) (on (walked_on b))) k)
      ∙ sym (lost_ends h f bs inside fields (text ++ (b ∷ [])) (inr (walked_snoc h f begun text b ∙ (went b).lost_is k)))

  inside_step : (b : ℕ) → is_quoted (place_at h fields text) ≡ true → stepped s b ≡ goes_on s (walked_on b)
  unfolding stepped
  inside_step b q = quoted_takes s (eqb b quote) r.spot r.content b refl alive q

  other_step : (b : ℕ) → is_quoted (place_at h fields text) ≡ false → eqb b comma ≡ false → eqb b feed ≡ false → stepped s b ≡ goes_on s (walked_on b)
  unfolding stepped
  other_step b q e g = other_takes s (eqb b quote) r.spot r.content b refl e g alive q

  after_other : (t : Bool) (b : ℕ) (bs : List ℕ) → is_lost (walked_on b).spot ≡ t → is_quoted (place_at h fields text) ≡ false → eqb b comma ≡ false → eqb b feed ≡ false → Follows bs
      → coming s (b ∷ bs) ≡ readings h (rows_from (eqb b quote) fields (text ++ (b ∷ [])) bs)
  after_other true b bs k q e g rest = moved_off b bs (eqb b quote) (other_step b q e g) k
  after_other false b bs k q e g rest = moved_on b bs (eqb b quote) (other_step b q e g) k ((went b).inside q k) rest

  outside_byte : (t u : Bool) (b : ℕ) (bs : List ℕ) → eqb b comma ≡ t → eqb b feed ≡ u → is_quoted (place_at h fields text) ≡ false → Follows bs
      → coming s (b ∷ bs) ≡ readings h (rows_from false fields text (b ∷ bs))
  unfolding rows_from
  outside_byte true u b bs e g q rest = simp e (after_comma (is_broken (field_of text)) b bs refl q e rest)
  outside_byte false true b bs e g q rest = simp (e, g) (after_feed (is_broken (field_of (without_return text))) b bs refl q e g rest)
  outside_byte false false b bs e g q rest = simp (e, g) (after_other (is_lost (walked_on b).spot) b bs refl q e g rest)

  by_place : (t : Bool) (b : ℕ) (bs : List ℕ) → is_quoted (place_at h fields text) ≡ t → Follows bs → coming s (b ∷ bs) ≡ readings h (rows_from t fields text (b ∷ bs))
  unfolding rows_from
  by_place true b bs q rest =
      moved_on b bs (not (eqb b quote)) (inside_step b q) ((went b).within q).0 ((went b).within q).1 rest
  by_place false b bs q rest = outside_byte (eqb b comma) (eqb b feed) b bs refl refl q rest

  the_end : (inside : Bool) → coming s [] ≡ readings h (rows_from inside fields text [])
  unfolding coming heard fed
  the_end inside = at_end (is_empty fields && is_empty text) refl ∙ ap (readings h) (sym (rows_end inside))

follows : (bs : List ℕ) (h : Bool) (fields : List (List ℕ)) (text : List ℕ) → any_broken fields ≡ false → is_lost (place_at h fields text) ≡ false
    → coming (at h fields text) bs ≡ readings h (rows_from (is_quoted (place_at h fields text)) fields text bs)
follows [] h fields text sound k = the_end h fields text sound k (is_quoted (place_at h fields text))
follows (b ∷ bs) h fields text sound k =
    by_place h fields text sound k (is_quoted (place_at h fields text)) b bs refl (λ h' fs t s' k'. follows bs h' fs t s' k')

-- ---- parts that are fed one after the other are read as in one piece
pub fed_append : (s : Scan) (xs ys : List ℕ) → fed s (xs ++ ys) ≡ fed (fed s xs) ys
unfolding fed
fed_append s [] ys = refl
fed_append s (x ∷ xs) ys = fed_append (stepped s x).scan xs ys

pub heard_append : (s : Scan) (xs ys : List ℕ) → heard s (xs ++ ys) ≡ heard s xs ++ heard (fed s xs) ys
unfolding fed heard
heard_append s [] ys = refl
heard_append s (x ∷ xs) ys =
    ap (λ (l : List Row). told (stepped s x).row ++ l) (heard_append (stepped s x).scan xs ys)
    ∙ sym (append_assoc (told (stepped s x).row) (heard (stepped s x).scan xs) (heard (fed (stepped s x).scan xs) ys))

in_one : (s : Scan) (parts : List (List ℕ)) → in_parts s parts ≡ coming s (joined parts)
unfolding in_parts joined coming fed heard
in_one s [] = refl
in_one s (p ∷ ps) =
    ap (λ (l : List Row). heard s p ++ l) (in_one (fed s p) ps)
    ∙ sym (append_assoc (heard s p) (heard (fed s p) (joined ps)) (told (finished (fed (fed s p) (joined ps))).row))
    ∙ ap₂ (λ (l : List Row) (r : Scan). l ++ told (finished r).row) (sym (heard_append s p (joined ps))) (sym (fed_append s p (joined ps)))

-- A scan that is fed the whole input in one piece.
pub whole_one : (input : List ℕ) → heard begin input ++ told (finished (fed begin input)).row ≡ readings_of input
unfolding coming begin readings_of walked begun is_lost is_quoted any_broken
whole_one input = ap (λ (z : Scan). coming z input) (sym (at_begun true)) ∙ follows input true [] [] refl refl

-- However the input is cut.
pub whole : Whole
unfolding coming
whole parts = in_one begin parts ∙ whole_one (joined parts)
