-- A field's text read byte by byte as if commas and line feeds ended nothing, broken quotes included; and what that has to do with the scan.
-- Assumes nothing.
use mathlib.Core.Path.{◌≡◌, refl, sym, ap, ◌∙◌}
use mathlib.Core.Bool.{Bool, true, false, cond, ◌&&◌, true≢false}
use Prim.Native.Nat.{ℕ}
use lib.Dec.{eqb}
use borrow.Author.Tests.{eqb-true}
use Rattle.types.specs.declared.Refusal.TheVariants as Why
use Rattle.csv_fields.specs.declared.Content.{Content}
use Rattle.csv_fields.specs.Pushing.{fresh, spoil, push}
use Rattle.csv_fields.specs.Quoting.{plain_turn, closed_turn, byte_turn, end_turn, spoils, held}
use Rattle.csv_fields.proofs.Numbers.{quote_spoils, return_spoils}
use Rattle.csv_rows.specs.declared.Token.{Token}
use Rattle.csv_rows.specs.declared.Scan.{Scan}
use Rattle.csv_rows.specs.declared.Stepped.{Stepped}
use Rattle.csv_fields.specs.declared.Place.{Place}
use Rattle.csv_fields.specs.declared.Place.TheVariants as At
use Rattle.csv_fields.specs.declared.Turn.{Turn}
use Rattle.csv_fields.specs.declared.Turn.TheVariants.{Waits, RowEnds, Breaks}
use Rattle.csv_rows.specs.declared.Row.TheVariants.{Nothing}
use Rattle.csv_rows.specs.Scanning.{token, scan_of, stepped_of, refused, next_field, row_ended, taken, closed_by}

abbrev pub comma : ℕ
comma = 44

abbrev pub quote : ℕ
quote = 34

abbrev pub feed : ℕ
feed = 10

abbrev pub return : ℕ
return = 13

-- The places of a scan, and one behind a broken quote.
pub data Spot : Type 0 where
  Start : Spot
  Plain : Spot
  Return : Spot
  Quoted : Spot
  Closed : Spot
  Ending : Spot
  Broken : Spot

-- How far a text has been read.
pub record Reach : Type 0 where
  pub spot : Spot
  pub content : Content

abbrev pub reach : Spot → Content → Reach
reach spot content = record { spot = spot; content = content }

unfoldable pub begun : Reach
begun = reach Start fresh

unfoldable pub broken : Reach
broken = reach Broken fresh

-- A byte of a field without quotes, and a byte in each place.
unfoldable pub plainly : Bool → ℕ → Content → ℕ → Reach
plainly header field p b = cond (eqb b return) (reach Return p) (reach Plain (push header field p b))

unfoldable pub walk : Bool → ℕ → Spot → Content → ℕ → Reach
walk header field Start p b = cond (eqb b quote) (reach Quoted p) (plainly header field p b)
walk header field Plain p b = cond (eqb b quote) broken (plainly header field p b)
walk header field Return p b = cond (eqb b quote) broken (plainly header field (push header field p return) b)
walk header field Quoted p b = cond (eqb b quote) (reach Closed p) (reach Quoted (push header field p b))
walk header field Closed p b = cond (eqb b quote) (reach Quoted (push header field p quote)) (cond (eqb b return) (reach Ending p) broken)
walk header field Ending p b = broken
walk header field Broken p b = broken

-- The end of a field at a comma or at the end of the input, and at a line feed.
unfoldable pub ended : Bool → ℕ → Spot → Content → Reach
ended header field Start p = reach Plain p
ended header field Plain p = reach Plain p
ended header field Return p = reach Plain (push header field p return)
ended header field Quoted p = broken
ended header field Closed p = reach Plain p
ended header field Ending p = broken
ended header field Broken p = broken

unfoldable pub ended_line : Spot → Content → Reach
ended_line Start p = reach Plain p
ended_line Plain p = reach Plain p
ended_line Return p = reach Plain p
ended_line Quoted p = broken
ended_line Closed p = reach Plain p
ended_line Ending p = reach Plain p
ended_line Broken p = broken

unfoldable pub is_start : Spot → Bool
is_start Start = true
is_start Plain = false
is_start Return = false
is_start Quoted = false
is_start Closed = false
is_start Ending = false
is_start Broken = false

unfoldable pub is_quoted : Spot → Bool
is_quoted Start = false
is_quoted Plain = false
is_quoted Return = false
is_quoted Quoted = true
is_quoted Closed = false
is_quoted Ending = false
is_quoted Broken = false

unfoldable pub is_lost : Spot → Bool
is_lost Start = false
is_lost Plain = false
is_lost Return = false
is_lost Quoted = false
is_lost Closed = false
is_lost Ending = false
is_lost Broken = true

pub false_true : {A : Type 0} → false ≡ true → A
false_true e = absurd (true≢false (sym e))

-- ---- the scan
-- The place of a scan; a scan behind a broken quote has none, as it is over.
unfoldable pub place_of : Spot → Place
place_of Start = At.Start
place_of Plain = At.Plain
place_of Return = At.Return
place_of Quoted = At.Quoted
place_of Closed = At.Closed
place_of Ending = At.Ending
place_of Broken = At.Start

abbrev pub token_of : Reach → Token
token_of r = token (place_of r.spot) r.content

-- What a byte does to a scan: the text goes on, its field ends, its row ends; or its quote is broken.
module _ (s : Scan) where
  abbrev pub lost : Stepped
  lost = refused s Why.Row

  abbrev pub goes_on : Reach → Stepped
  goes_on r = cond (is_lost r.spot) lost (stepped_of (scan_of s.over s.header s.field s.good s.drawer (token_of r)) Nothing)

  abbrev pub ends_field : Reach → Stepped
  ends_field r = cond (is_lost r.spot) lost (stepped_of (next_field s r.content) Nothing)

  abbrev pub ends_row : Reach → Stepped
  ends_row r = cond (is_lost r.spot) lost (row_ended s r.content)

  abbrev h : Bool
  h = s.header

  abbrev f : ℕ
  f = s.field

  abbrev pub took : Spot → Content → ℕ → Stepped
  took q p b = taken s (byte_turn (place_of q) b) (held (spoils (place_of q) b) p) b

  as_spoilt : (p : Content) → held true p ≡ push h f p return
  unfolding held spoil
  as_spoilt p = sym (return_spoils h f p)

  as_quoted : (p : Content) → held true p ≡ push h f p quote
  unfolding held spoil
  as_quoted p = sym (quote_spoils h f p)

  at_comma : (q : Spot) (p : Content) → is_lost q ≡ false → is_quoted q ≡ false → took q p comma ≡ ends_field (ended h f q p)
  unfolding taken byte_turn plain_turn closed_turn spoils held place_of ended is_lost is_quoted broken
  at_comma Start p k e = refl
  at_comma Plain p k e = refl
  at_comma Return p k e = ap (λ (x : Content). stepped_of (next_field s x) Nothing) (as_spoilt p)
  at_comma Quoted p k e = false_true (sym e)
  at_comma Closed p k e = refl
  at_comma Ending p k e = refl
  at_comma Broken p k e = false_true (sym k)

  pub comma_takes : (q : Spot) (p : Content) (b : ℕ) → eqb b comma ≡ true → is_lost q ≡ false → is_quoted q ≡ false → took q p b ≡ ends_field (ended h f q p)
  comma_takes q p b g k e = ap (took q p) (eqb-true b comma g) ∙ at_comma q p k e

  at_feed : (q : Spot) (p : Content) → is_lost q ≡ false → is_quoted q ≡ false → took q p feed ≡ ends_row (ended_line q p)
  unfolding taken byte_turn plain_turn closed_turn spoils held place_of ended_line is_lost is_quoted broken
  at_feed Start p k e = refl
  at_feed Plain p k e = refl
  at_feed Return p k e = refl
  at_feed Quoted p k e = false_true (sym e)
  at_feed Closed p k e = refl
  at_feed Ending p k e = refl
  at_feed Broken p k e = false_true (sym k)

  pub feed_takes : (q : Spot) (p : Content) (b : ℕ) → eqb b feed ≡ true → is_lost q ≡ false → is_quoted q ≡ false → took q p b ≡ ends_row (ended_line q p)
  feed_takes q p b g k e = ap (took q p) (eqb-true b feed g) ∙ at_feed q p k e

  -- a quote, wherever it stands
  at_quote : (q : Spot) (p : Content) → is_lost q ≡ false → took q p quote ≡ goes_on (walk h f q p quote)
  unfolding taken byte_turn plain_turn closed_turn spoils held place_of walk is_lost broken
  at_quote Start p k = refl
  at_quote Plain p k = refl
  at_quote Return p k = refl
  at_quote Quoted p k = refl
  at_quote Closed p k = ap (λ (x : Content). stepped_of (scan_of s.over s.header s.field s.good s.drawer (token At.Quoted x)) Nothing) (as_quoted p)
  at_quote Ending p k = refl
  at_quote Broken p k = false_true (sym k)

  quote_takes : (q : Spot) (p : Content) (b : ℕ) → eqb b quote ≡ true → is_lost q ≡ false → took q p b ≡ goes_on (walk h f q p b)
  quote_takes q p b g k =
      ap (took q p) (eqb-true b quote g) ∙ at_quote q p k ∙ ap (λ (x : ℕ). goes_on (walk h f q p x)) (sym (eqb-true b quote g))

  -- a carriage return outside quotes
  at_return : (q : Spot) (p : Content) → is_lost q ≡ false → is_quoted q ≡ false → took q p return ≡ goes_on (walk h f q p return)
  unfolding taken byte_turn plain_turn closed_turn spoils held place_of walk plainly is_lost is_quoted broken
  at_return Start p k e = refl
  at_return Plain p k e = refl
  at_return Return p k e = ap (λ (x : Content). stepped_of (scan_of s.over s.header s.field s.good s.drawer (token At.Return x)) Nothing) (as_spoilt p)
  at_return Quoted p k e = false_true (sym e)
  at_return Closed p k e = refl
  at_return Ending p k e = refl
  at_return Broken p k e = false_true (sym k)

  return_takes : (q : Spot) (p : Content) (b : ℕ) → eqb b return ≡ true → is_lost q ≡ false → is_quoted q ≡ false → took q p b ≡ goes_on (walk h f q p b)
  return_takes q p b g k e =
      ap (took q p) (eqb-true b return g) ∙ at_return q p k e ∙ ap (λ (x : ℕ). goes_on (walk h f q p x)) (sym (eqb-true b return g))

  -- a byte inside quotes
  inside_takes : (q : Spot) (p : Content) (b : ℕ) → eqb b quote ≡ false → is_quoted q ≡ true → took q p b ≡ goes_on (walk h f q p b)
  unfolding taken byte_turn spoils held place_of walk is_lost is_quoted
  inside_takes Start p b g e = false_true e
  inside_takes Plain p b g e = false_true e
  inside_takes Return p b g e = false_true e
  inside_takes Quoted p b g e = simp g
  inside_takes Closed p b g e = false_true e
  inside_takes Ending p b g e = false_true e
  inside_takes Broken p b g e = false_true e

  -- any other byte outside quotes
  module _ (b : ℕ) (u : eqb b quote ≡ false) (c : eqb b comma ≡ false) (l : eqb b feed ≡ false) (n : eqb b return ≡ false) where
    ordinary : (q : Spot) (p : Content) → is_lost q ≡ false → is_quoted q ≡ false → took q p b ≡ goes_on (walk h f q p b)
    unfolding taken byte_turn plain_turn closed_turn spoils place_of walk plainly is_lost is_quoted broken held
    ordinary Start p k e = simp (u, c, l, n)
    ordinary Plain p k e = simp (u, c, l, n)
    ordinary Return p k e =
        simp (u, c, l, n) (ap (λ (x : Content). stepped_of (scan_of s.over s.header s.field s.good s.drawer (token At.Plain (push h f x b))) Nothing) (as_spoilt p))
    ordinary Quoted p k e = false_true (sym e)
    ordinary Closed p k e = simp (u, c, l, n)
    ordinary Ending p k e = simp l
    ordinary Broken p k e = false_true (sym k)

  outside_takes : (t : Bool) (q : Spot) (p : Content) (b : ℕ) → eqb b return ≡ t → eqb b quote ≡ false → eqb b comma ≡ false → eqb b feed ≡ false → is_lost q ≡ false
      → is_quoted q ≡ false → took q p b ≡ goes_on (walk h f q p b)
  outside_takes true q p b n u c l k e = return_takes q p b n k e
  outside_takes false q p b n u c l k e = ordinary b u c l n q p k e

  pub quoted_takes : (t : Bool) (q : Spot) (p : Content) (b : ℕ) → eqb b quote ≡ t → is_lost q ≡ false → is_quoted q ≡ true → took q p b ≡ goes_on (walk h f q p b)
  quoted_takes true q p b u k e = quote_takes q p b u k
  quoted_takes false q p b u k e = inside_takes q p b u e

  pub other_takes : (t : Bool) (q : Spot) (p : Content) (b : ℕ) → eqb b quote ≡ t → eqb b comma ≡ false → eqb b feed ≡ false → is_lost q ≡ false → is_quoted q ≡ false
      → took q p b ≡ goes_on (walk h f q p b)
  other_takes true q p b u c l k e = quote_takes q p b u k
  other_takes false q p b u c l k e = outside_takes (eqb b return) q p b refl u c l k e

  -- the end of the input
  abbrev pub no_row : Stepped
  no_row = cond h lost (stepped_of s Nothing)

  abbrev closes : Turn → Content → Stepped
  closes turn p = closed_by s turn p

  at_start : (t u : Bool) (p : Content) → closes (cond t (cond u Breaks (Waits At.Start)) RowEnds) p ≡ cond (t && true) (cond u lost (stepped_of s Nothing)) (row_ended s p)
  unfolding closed_by
  at_start true true p = refl
  at_start true false p = refl
  at_start false u p = refl

  later : (t : Bool) (x y : Stepped) → y ≡ cond (t && false) x y
  later true x y = refl
  later false x y = refl

  pub end_takes : (q : Spot) (p : Content) → is_lost q ≡ false
      → closed_by s (end_turn h f (place_of q)) (held (spoils (place_of q) comma) p) ≡ cond (eqb f 0 && is_start q) no_row (ends_row (ended h f q p))
  unfolding closed_by end_turn place_of spoils held ended is_start is_lost broken
  end_takes Start p k = at_start (eqb f 0) h p
  end_takes Plain p k = later (eqb f 0) no_row (row_ended s p)
  end_takes Return p k = ap (row_ended s) (as_spoilt p) ∙ later (eqb f 0) no_row (row_ended s (push h f p return))
  end_takes Quoted p k = later (eqb f 0) no_row lost
  end_takes Closed p k = later (eqb f 0) no_row (row_ended s p)
  end_takes Ending p k = later (eqb f 0) no_row lost
  end_takes Broken p k = false_true (sym k)
