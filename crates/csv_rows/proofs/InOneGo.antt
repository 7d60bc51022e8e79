-- Digits of a drawer or a seen number that are taken in one go are read as one by one; and a turn of the loop that reads on. Assumes nothing.
use mathlib.Core.Path.{◌≡◌, refl, sym, ap, ap₂, ◌∙◌, subst}
use mathlib.Core.Bool.{Bool, true, false, cond, not, ◌&&◌}
use mathlib.Core.List.{List, [], ◌∷◌}
use Prim.Native.Nat.{ℕ, suc, ◌+◌, ◌-◌, ◌≤◌, ◌<◌}
use native.Mathlib.Nat.{lt_irrefl}
use native.Mathlib.Omega.{arith}
use lib.Dec.{ltb}
use lib.ListN.{length, drop, get_or, drop_of_length-le}
use lib.Seq.{drop-drop, drop-nil}
use borrow.Author.Tests.{ltb-true, lt-ltb, ne_eqb}
use Rattle.csv_fields.specs.declared.Content.{Content}
use Rattle.csv_fields.specs.declared.Digits.{Digits}
use Rattle.csv_fields.specs.Contents.{is_digit}
use Rattle.csv_fields.specs.Pushing.{content_of, grown, push, push_digit, digits_from}
use Rattle.csv_fields.proofs.Numbers.{digit_from, digit_le}
use Rattle.csv_fields.proofs.InOneGo.{at_byte}
use Rattle.csv_fields.specs.declared.Place.{Place}
use Rattle.csv_fields.specs.declared.Place.TheVariants.{Start, Plain, Return, Quoted, Closed, Ending}
use Rattle.csv_fields.specs.declared.Turn.TheVariants.{Reads}
use Rattle.csv_fields.specs.Quoting.{plain_turn, byte_turn, spoils, held, is_plain}
use Rattle.csv_rows.specs.declared.Row.TheVariants.{Nothing}
use Rattle.csv_rows.specs.declared.Scan.{Scan}
use Rattle.csv_rows.specs.declared.Reached.{Reached}
use Rattle.csv_rows.specs.Scanning.{token, scan_of, stepped_of, taken, stepped, reached_of, is_nothing, read_on}
use Rattle.csv_rows.specs.Steps.{in_number, digits_at, with_number}
use Rattle.csv_rows.proofs.Walking.{false_true}

and_true : (t u : Bool) → t && u ≡ true → (t ≡ true) × (u ≡ true)
and_true true u e = (refl, e)
and_true false u e = false_true e

not_true : (t : Bool) → not t ≡ true → t ≡ false
not_true true e = sym e
not_true false e = refl

-- ---- a digit of such a number
digit_turn : (b : ℕ) → is_digit b ≡ true → plain_turn b ≡ Reads Plain
unfolding plain_turn
digit_turn b d =
    let lo = digit_from b d in
    let hi = digit_le b d in
    simp (ne_eqb b 34 (λ e. omega arith), ne_eqb b 44 (λ e. omega arith), ne_eqb b 10 (λ e. omega arith), ne_eqb b 13 (λ e. omega arith))

pushed : (field : ℕ) (c : Content) (b : ℕ) → field < 2 → is_digit b ≡ true → push false field c b ≡ content_of c.spoilt (grown c.number b) c.whole c.point c.places
unfolding push push_digit
pushed field c b h d = simp (ne_eqb field 2 (λ e. omega arith), d)

at_place : (place : Place) (field : ℕ) (good : Bool) (drawer : ℕ) (c : Content) (b : ℕ) → field < 2 → is_plain place ≡ true → is_digit b ≡ true
    → stepped (scan_of false false field good drawer (token place c)) b
    ≡ stepped_of (scan_of false false field good drawer (token Plain (content_of c.spoilt (grown c.number b) c.whole c.point c.places))) Nothing
unfolding stepped byte_turn spoils held taken is_plain
at_place Start field good drawer c b h p d = simp (ne_eqb b 34 (λ e. omega (arith, digit_from b d)), digit_turn b d) (ap (λ (x : Content). stepped_of (scan_of false false field good drawer (token Plain x)) Nothing) (pushed field c b h d))
at_place Plain field good drawer c b h p d = simp (digit_turn b d) (ap (λ (x : Content). stepped_of (scan_of false false field good drawer (token Plain x)) Nothing) (pushed field c b h d))
at_place Return field good drawer c b h p d = false_true p
at_place Quoted field good drawer c b h p d = false_true p
at_place Closed field good drawer c b h p d = false_true p
at_place Ending field good drawer c b h p d = false_true p

record Inside (s : Scan) : Type 0 where
  open_scan : s.over ≡ false
  below : s.header ≡ false
  number : s.field < 2
  unquoted : is_plain s.token.place ≡ true

inside : (s : Scan) → in_number s ≡ true → Inside s
unfolding in_number
inside s e =
    let a = and_true (not s.over && not s.header) (ltb s.field 2 && is_plain s.token.place) e in
    let o = and_true (not s.over) (not s.header) a.0 in
    let f = and_true (ltb s.field 2) (is_plain s.token.place) a.1 in
    record { open_scan = not_true s.over o.0; below = not_true s.header o.1; number = ltb-true s.field 2 f.0; unquoted = f.1 }

one_digit : (s : Scan) (b : ℕ) → in_number s ≡ true → is_digit b ≡ true → stepped s b ≡ stepped_of (with_number s (grown s.token.content.number b)) Nothing
unfolding with_number
one_digit s b e d =
    let i = inside s e in
    ap₂ (λ (o h : Bool). stepped (scan_of o h s.field s.good s.drawer s.token) b) i.open_scan i.below
    ∙ at_place s.token.place s.field s.good s.drawer s.token.content b i.number i.unquoted d
    ∙ sym (ap₂ (λ (o h : Bool). stepped_of (scan_of o h s.field s.good s.drawer (token Plain (content_of s.token.content.spoilt (grown s.token.content.number b) s.token.content.whole s.token.content.point s.token.content.places))) Nothing) i.open_scan i.below)

still_inside : (s : Scan) (n : ℕ) → in_number s ≡ true → in_number (with_number s n) ≡ true
unfolding in_number with_number is_plain
still_inside s n e = let i = inside s e in simp (i.open_scan, i.below, lt-ltb s.field 2 i.number)

read_digit : (s : Scan) (i b : ℕ) (bs : List ℕ) → in_number s ≡ true → is_digit b ≡ true → read_on s i (b ∷ bs) ≡ read_on (with_number s (grown s.token.content.number b)) (i + 1) bs
unfolding read_on is_nothing
read_digit s i b bs e d = simp (one_digit s b e d)

-- ---- a run of digits
next_from : (bs : List ℕ) (n i : ℕ) → i ≤ (digits_from n i bs).next
unfolding digits_from
next_from [] n i = omega arith
next_from (b ∷ bs) n i = go (is_digit b) (next_from bs (grown n b) (i + 1))
  where
    go : (t : Bool) → i + 1 ≤ (digits_from (grown n b) (i + 1) bs).next → i ≤ (cond t (digits_from (grown n b) (i + 1) bs) (record { number = n; next = i })).next
    go true h = omega arith
    go false h = omega arith

rest : (b : ℕ) (bs : List ℕ) (i next : ℕ) → i + 1 ≤ next → drop (next - i) (b ∷ bs) ≡ drop (next - (i + 1)) bs
rest b bs i next h = ap (λ (k : ℕ). drop k (b ∷ bs)) (shift i next h)
  where
    shift : (i next : ℕ) → i + 1 ≤ next → next - i ≡ suc (next - (i + 1))
    shift i next h = omega arith

abbrev Run : List ℕ → Scan → ℕ → ℕ → Type 0
Run bs s n i = read_on (with_number s n) i bs ≡ read_on (with_number s (digits_from n i bs).number) (digits_from n i bs).next (drop ((digits_from n i bs).next - i) bs)

module _ (b : ℕ) (bs : List ℕ) (s : Scan) (i n : ℕ) (e : in_number s ≡ true) where
  after : Digits → Reached
  after d = read_on (with_number s d.number) d.next (drop (d.next - i) (b ∷ bs))

  one_more_lem : is_digit b ≡ true → digits_from n i (b ∷ bs) ≡ digits_from (grown n b) (i + 1) bs
  unfolding digits_from
  one_more_lem d = simp d

  no_more : is_digit b ≡ false → digits_from n i (b ∷ bs) ≡ record { number = n; next = i }
  unfolding digits_from
  no_more d = simp d

  -- Behind the first digit.
  behind : is_digit b ≡ true → Run bs s (grown n b) (i + 1) → read_on (with_number s (grown n b)) (i + 1) bs ≡ after (digits_from n i (b ∷ bs))
  unfolding after
  behind d r =
      r
      ∙ ap (λ (l : List ℕ). read_on (with_number s (digits_from (grown n b) (i + 1) bs).number) (digits_from (grown n b) (i + 1) bs).next l) (sym (rest b bs i (digits_from (grown n b) (i + 1) bs).next (next_from bs (grown n b) (i + 1))))
      ∙ ap after (sym (one_more_lem d))

  in_run : (t : Bool) → is_digit b ≡ t → Run bs s (grown n b) (i + 1) → Run (b ∷ bs) s n i
  unfolding after with_number
  in_run true d r = read_digit (with_number s n) i b bs (still_inside s n e) d ∙ behind d r
  in_run false d r = ap (λ (k : ℕ). read_on (with_number s n) i (drop k (b ∷ bs))) (none i) ∙ ap after (sym (no_more d))
    where
      none : (i : ℕ) → 0 ≡ i - i
      none i = omega arith

  first : (t : Bool) → is_digit b ≡ t → n ≡ s.token.content.number → Run bs s (grown n b) (i + 1) → i < (digits_from n i (b ∷ bs)).next → read_on s i (b ∷ bs) ≡ after (digits_from n i (b ∷ bs))
  first true d m r h = read_digit s i b bs e d ∙ ap (λ (k : ℕ). read_on (with_number s (grown k b)) (i + 1) bs) (sym m) ∙ behind d r
  first false d m r h = absurd (lt_irrefl i (subst (λ (x : Digits). i < x.next) (no_more d) h))

run : (bs : List ℕ) (s : Scan) (n i : ℕ) → in_number s ≡ true → Run bs s n i
unfolding digits_from
run [] s n i e = ap (read_on (with_number s n) i) (sym (drop-nil (i - i)))
run (b ∷ bs) s n i e = in_run b bs s i n e (is_digit b) refl (run bs s (grown n b) (i + 1) e)

from_first : (bs : List ℕ) (s : Scan) (i : ℕ) → in_number s ≡ true → i < (digits_from s.token.content.number i bs).next
    → read_on s i bs ≡ read_on (with_number s (digits_from s.token.content.number i bs).number) (digits_from s.token.content.number i bs).next (drop ((digits_from s.token.content.number i bs).next - i) bs)
unfolding digits_from after
from_first [] s i e h = absurd (lt_irrefl i h)
from_first (b ∷ bs) s i e h = first b bs s i s.token.content.number e (is_digit b) refl refl (run bs s (grown s.token.content.number b) (i + 1) e) h

back : (i next : ℕ) → i < next → i + (next - i) ≡ next
back i next h = omega arith

-- ---- the loop's turns, from the place i of xs on: a run of digits, a byte that ends no row, one that does, the end
module _ (s : Scan) (xs : List ℕ) (i : ℕ) where
  pub digits_turn : i < (digits_at s i (drop i xs)).next
      → read_on s i (drop i xs) ≡ read_on (with_number s (digits_at s i (drop i xs)).number) (digits_at s i (drop i xs)).next (drop (digits_at s i (drop i xs)).next xs)
  unfolding digits_at
  digits_turn h = go (in_number s) refl h
    where
      d : Digits
      d = digits_from s.token.content.number i (drop i xs)

      go : (t : Bool) → in_number s ≡ t → i < (cond t d (record { number = 0; next = i })).next
          → read_on s i (drop i xs) ≡ read_on (with_number s (cond t d (record { number = 0; next = i })).number) (cond t d (record { number = 0; next = i })).next (drop (cond t d (record { number = 0; next = i })).next xs)
      go true e h =
          from_first (drop i xs) s i e h
          ∙ ap (read_on (with_number s d.number) d.next) (drop-drop (d.next - i) i xs ∙ ap (λ (k : ℕ). drop k xs) (back i d.next h))
      go false e h = absurd (lt_irrefl i h)

  abbrev byte : ℕ
  byte = get_or xs i 0

  pub inner_turn : i < length xs → is_nothing (stepped s byte).row ≡ true → read_on s i (drop i xs) ≡ read_on (stepped s byte).scan (i + 1) (drop (i + 1) xs)
  unfolding read_on
  inner_turn h e = ap (read_on s i) (at_byte xs i h) ∙ simp e

  pub row_turn : i < length xs → is_nothing (stepped s byte).row ≡ false → read_on s i (drop i xs) ≡ reached_of (stepped s byte).scan (stepped s byte).row (i + 1)
  unfolding read_on
  row_turn h e = ap (read_on s i) (at_byte xs i h) ∙ simp e

  pub last_turn : length xs ≤ i → read_on s i (drop i xs) ≡ reached_of s Nothing i
  unfolding read_on
  last_turn h = ap (read_on s i) (drop_of_length-le xs h)
