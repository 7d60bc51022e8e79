-- What has been read of a content tells what `Contents` says of it. Assumes nothing.
use mathlib.Core.Path.{◌≡◌, refl, sym, ap, ap₂, ◌∙◌, subst}
use mathlib.Core.Bool.{Bool, true, false, cond, not, ◌&&◌, ◌||◌, true≢false}
use mathlib.Core.List.{List, [], ◌∷◌, ◌++◌}
use Prim.Native.Nat.{ℕ, zero, suc, ◌+◌, ◌-◌, ◌*◌, ◌^◌, ◌≤◌, ◌<◌, min}
use native.Mathlib.Nat.{le_trans, le_of_eq, mul-le-mul_right, mul_assoc, mul_comm, pow-suc, one-mul, pow-le-pow_right, lt_of_not-le, not-le_of_lt, not-suc-le-zero, le_of_suc-le-suc}
use native.Mathlib.Omega.{arith}
use lib.Dec.{eqb, leb, ltb, lit<}
use lib.ListN.{length, length-append, get_or}
use lib.Ieee.{binary32, round}
use borrow.Author.Tests.{eqb-true, eq-eqb, ne_eqb, leb-true, leb-false, le-leb, lt-leb, ltb-true, ltb-false, lt-ltb}
use Rattle.csv_fields.specs.declared.Content.{Content}
use Rattle.csv_fields.specs.Contents.{is_digit, all_digits, number, is_number, most_drawer, most_seen, before, behind, between, has_byte, is_score, score_of, same_bytes, bytes, word}
use Rattle.csv_fields.specs.Pushing.{content_of, fresh, spoil, cap, grown, letter, word_length, push_letter, limit, push_digit, score_digit, score_point, push_score, push, pushed, good_word, good_number, good_score, good, score}

abbrev point : ℕ
point = 46

-- ---- a spoilt content stays spoilt
either_spoilt : (t : Bool) (x y : Content) → x.spoilt ≡ true → y.spoilt ≡ true → (cond t x y).spoilt ≡ true
either_spoilt true x y e g = e
either_spoilt false x y e g = g

push_spoilt : (h : Bool) (f : ℕ) (p : Content) (b : ℕ) → p.spoilt ≡ true → (push h f p b).spoilt ≡ true
unfolding push push_letter push_digit push_score score_digit score_point spoil
push_spoilt h f p b e =
    either_spoilt h (push_letter f p b) _ (either_spoilt (eqb (letter f p.whole) b) _ (spoil p) e refl)
    (either_spoilt (eqb f 2) (push_score p b) (push_digit p b)
    (either_spoilt (is_digit b) _ _ (either_spoilt p.point _ _ (either_spoilt (ltb p.places 6) _ (spoil p) e refl) (either_spoilt (ltb p.whole 3) _ (spoil p) e refl))
    (either_spoilt (eqb b point && not p.point) _ (spoil p) e refl))
    (either_spoilt (is_digit b) _ (spoil p) e refl))

pushed_spoilt : (h : Bool) (f : ℕ) (c : List ℕ) (p : Content) → p.spoilt ≡ true → (pushed h f p c).spoilt ≡ true
unfolding pushed
pushed_spoilt h f [] p e = e
pushed_spoilt h f (b ∷ bs) p e = pushed_spoilt h f bs (push h f p b) (push_spoilt h f p b e)

spoilt_word : (f : ℕ) (p : Content) → p.spoilt ≡ true → good_word f p ≡ false
unfolding good_word
spoilt_word f p e = simp e

spoilt_number : (f : ℕ) (p : Content) → p.spoilt ≡ true → good_number f p ≡ false
unfolding good_number
spoilt_number f p e = simp e

spoilt_score : (p : Content) → p.spoilt ≡ true → good_score p ≡ false
unfolding good_score
spoilt_score p e = simp e

spoil_is : (p : Content) → (spoil p).spoilt ≡ true
unfolding spoil
spoil_is p = refl

false_true : {A : Type 0} → false ≡ true → A
false_true e = absurd (true≢false (sym e))

and_true : (x : Bool) → (x && true) ≡ x
and_true true = refl
and_true false = refl

and_false : (x : Bool) → (x && false) ≡ false
and_false true = refl
and_false false = refl

and_left : (x y : Bool) → (x && y) ≡ true → x ≡ true
and_left true y e = refl
and_left false y e = e

pub and_right : (x y : Bool) → (x && y) ≡ true → y ≡ true
and_right true y e = e
and_right false y e = false_true e

or_left : (x y : Bool) → (x || y) ≡ false → x ≡ false
or_left true y e = e
or_left false y e = refl

or_right : (x y : Bool) → (x || y) ≡ false → y ≡ false
or_right true y e = false_true (sym e)
or_right false y e = e

-- ---- a place within a list
pub within : (xs : List ℕ) (i d e : ℕ) → i < length xs → get_or xs i d ≡ get_or xs i e
within [] i d e h = absurd (not-suc-le-zero h)
within (x ∷ xs) zero d e h = refl
within (x ∷ xs) (suc i) d e h = within xs i d e (le_of_suc-le-suc h)

-- ---- a digit
pub digit_from : (b : ℕ) → is_digit b ≡ true → 48 ≤ b
unfolding is_digit
digit_from b e = leb-true 48 b (and_left (leb 48 b) (leb b 57) e)

pub digit_le : (b : ℕ) → is_digit b ≡ true → b ≤ 57
unfolding is_digit
digit_le b e = leb-true b 57 (and_right (leb 48 b) (leb b 57) e)

-- ---- the header's words
abbrev Spells : ℕ → ℕ → List ℕ → Type 0
Spells f n [] = n ≡ word_length f
Spells f n (w ∷ ws) = (letter f n ≡ w) × (eqb n (word_length f) ≡ false) × Spells f (n + 1) ws

longer : (p : Content) → Content
longer p = content_of p.spoilt p.number (p.whole + 1) p.point p.places

module _ (f : ℕ) where
  letter_yes : (p : Content) (b : ℕ) → eqb (letter f p.whole) b ≡ true → push true f p b ≡ longer p
  unfolding push push_letter longer
  letter_yes p b e = simp e

  letter_no : (p : Content) (b : ℕ) → eqb (letter f p.whole) b ≡ false → push true f p b ≡ spoil p
  unfolding push push_letter
  letter_no p b e = simp e

  spoilt_after : (p : Content) (b : ℕ) (bs : List ℕ) → push true f p b ≡ spoil p → good_word f (pushed true f p (b ∷ bs)) ≡ false
  unfolding pushed
  spoilt_after p b bs e = spoilt_word f (pushed true f (push true f p b) bs) (pushed_spoilt true f bs (push true f p b) (ap (λ (q : Content). q.spoilt) e ∙ spoil_is p))

  -- behind the word's end
  past_step : (t : Bool) (p : Content) (b : ℕ) (bs : List ℕ) → eqb (letter f p.whole) b ≡ t → (good_word f (pushed true f (longer p) bs) ≡ false) → good_word f (pushed true f p (b ∷ bs)) ≡ false
  unfolding pushed
  past_step true p b bs e rest = ap (λ (q : Content). good_word f (pushed true f q bs)) (letter_yes p b e) ∙ rest
  past_step false p b bs e rest = spoilt_after p b bs (letter_no p b e)

  past : (c : List ℕ) (p : Content) → word_length f < p.whole → good_word f (pushed true f p c) ≡ false
  unfolding pushed good_word longer
  past [] p l = simp (ne_eqb p.whole (word_length f) (λ e. omega arith)) (and_false (not p.spoilt))
  past (b ∷ bs) p l = past_step (eqb (letter f p.whole) b) p b bs refl (past bs (longer p) (omega arith))

  same_step : (t : Bool) (w b : ℕ) (ws bs : List ℕ) (p : Content) → letter f p.whole ≡ w → eqb w b ≡ t → good_word f (pushed true f (longer p) bs) ≡ same_bytes ws bs
      → good_word f (pushed true f p (b ∷ bs)) ≡ same_bytes (w ∷ ws) (b ∷ bs)
  unfolding pushed same_bytes
  same_step true w b ws bs p l e rest = simp e (ap (λ (q : Content). good_word f (pushed true f q bs)) (letter_yes p b (ap (λ (x : ℕ). eqb x b) l ∙ e)) ∙ rest)
  same_step false w b ws bs p l e rest = simp e (spoilt_after p b bs (letter_no p b (ap (λ (x : ℕ). eqb x b) l ∙ e)))

  word_from : (ws c : List ℕ) (p : Content) → p.spoilt ≡ false → Spells f p.whole ws → good_word f (pushed true f p c) ≡ same_bytes ws c
  unfolding pushed good_word same_bytes longer
  word_from [] [] p e g = simp (e, eq-eqb p.whole (word_length f) g)
  word_from [] (b ∷ bs) p e g = past_step (eqb (letter f p.whole) b) p b bs refl (past bs (longer p) (omega (arith, g)))
  word_from (w ∷ ws) [] p e g = simp (e, g.1)
  word_from (w ∷ ws) (b ∷ bs) p e g = same_step (eqb w b) w b ws bs p g.0 refl (word_from ws bs (longer p) e g.2)

pub word_is : (f : ℕ) (c : List ℕ) → Spells f 0 (word f) → good true f (pushed true f fresh c) ≡ same_bytes (word f) c
unfolding good fresh
word_is f c h = word_from f (word f) c fresh refl h

pub spells_0 : Spells 0 0 (word 0)
unfolding word letter word_length
spells_0 = (refl, refl, (refl, refl, (refl, refl, (refl, refl, (refl, refl, (refl, refl, refl))))))

pub spells_1 : Spells 1 0 (word 1)
unfolding word letter word_length
spells_1 = (refl, refl, (refl, refl, (refl, refl, (refl, refl, refl))))

pub spells_2 : Spells 2 0 (word 2)
unfolding word letter word_length
spells_2 = (refl, refl, (refl, refl, (refl, refl, (refl, refl, (refl, refl, refl)))))

-- ---- whole numbers
leb_same : (a b c d : ℕ) → (a ≤ b → c ≤ d) → (c ≤ d → a ≤ b) → leb a b ≡ leb c d
leb_same a b c d x y = go (leb a b) refl
  where
    go : (t : Bool) → leb a b ≡ t → leb a b ≡ leb c d
    go true e = e ∙ sym (le-leb c d (x (leb-true a b e)))
    go false e = e ∙ sym (lt-leb c d (lt_of_not-le (λ (g : c ≤ d). not-le_of_lt (leb-false a b e) (y g))))

module _ (f : ℕ) (field : eqb f 2 ≡ false) where
  digit_yes : (p : Content) (b : ℕ) → is_digit b ≡ true → push false f p b ≡ content_of p.spoilt (grown p.number b) p.whole p.point p.places
  unfolding push push_digit
  digit_yes p b e = simp (field, e)

  digit_no : (p : Content) (b : ℕ) → is_digit b ≡ false → push false f p b ≡ spoil p
  unfolding push push_digit
  digit_no p b e = simp (field, e)

grown_is : (n m b : ℕ) → n ≡ min m cap → grown n b ≡ min (m * 10 + (b - 48)) cap
unfolding grown
grown_is n m b e = omega arith

-- one more digit
abbrev more : Content → ℕ → Content
more p b = content_of p.spoilt (grown p.number b) p.whole p.point p.places

module _ (f : ℕ) (field : eqb f 2 ≡ false) (small : limit f < cap) where
  number_step : (t : Bool) (b : ℕ) (bs : List ℕ) (p : Content) (n : ℕ) → is_digit b ≡ t
      → (t ≡ true → good_number f (pushed false f (more p b) bs) ≡ (all_digits bs && (leb 1 (number n bs) && leb (number n bs) (limit f))))
      → good_number f (pushed false f p (b ∷ bs)) ≡ ((t && all_digits bs) && (leb 1 (number n bs) && leb (number n bs) (limit f)))
  unfolding pushed
  number_step true b bs p n e rest = ap (λ (q : Content). good_number f (pushed false f q bs)) (digit_yes f field p b e) ∙ rest refl
  number_step false b bs p n e rest =
      spoilt_number f (pushed false f (push false f p b) bs) (pushed_spoilt false f bs (push false f p b) (ap (λ (q : Content). q.spoilt) (digit_no f field p b e) ∙ spoil_is p))

  number_from : (c : List ℕ) (p : Content) (n : ℕ) → p.spoilt ≡ false → p.number ≡ min n cap
      → good_number f (pushed false f p c) ≡ (all_digits c && (leb 1 (number n c) && leb (number n c) (limit f)))
  unfolding pushed good_number all_digits number
  number_from [] p n e g =
      ap (λ (t : Bool). not t && (leb 1 p.number && leb p.number (limit f))) e
      ∙ ap₂ ◌&&◌ (leb_same 1 p.number 1 n (λ l. omega arith) (λ l. omega arith)) (leb_same p.number (limit f) n (limit f) (λ l. omega arith) (λ l. omega arith))
  number_from (b ∷ bs) p n e g =
      number_step (is_digit b) b bs p (n * 10 + (b - 48)) refl
      (λ _. number_from bs (more p b) (n * 10 + (b - 48)) e (grown_is p.number n b g))

  value_step : (t : Bool) (b : ℕ) (bs : List ℕ) (p : Content) (n : ℕ) → is_digit b ≡ t → (t && all_digits bs) ≡ true
      → (all_digits bs ≡ true → (pushed false f (more p b) bs).number ≡ min (number n bs) cap)
      → (pushed false f p (b ∷ bs)).number ≡ min (number n bs) cap
  unfolding pushed
  value_step true b bs p n e h rest = ap (λ (q : Content). (pushed false f q bs).number) (digit_yes f field p b e) ∙ rest h
  value_step false b bs p n e h rest = false_true h

  value_from : (c : List ℕ) (p : Content) (n : ℕ) → p.number ≡ min n cap → all_digits c ≡ true → (pushed false f p c).number ≡ min (number n c) cap
  unfolding pushed all_digits number
  value_from [] p n g h = g
  value_from (b ∷ bs) p n g h =
      value_step (is_digit b) b bs p (n * 10 + (b - 48)) refl h
      (λ k. value_from bs (more p b) (n * 10 + (b - 48)) (grown_is p.number n b g) k)

pub drawer_is : (c : List ℕ) → good false 0 (pushed false 0 fresh c) ≡ is_number most_drawer c
unfolding good fresh is_number limit
drawer_is c = number_from 0 refl (lit< tt) c fresh 0 refl (omega arith)

pub seen_is : (c : List ℕ) → good false 1 (pushed false 1 fresh c) ≡ is_number most_seen c
unfolding good fresh is_number limit
seen_is c = number_from 1 refl (lit< tt) c fresh 0 refl (omega arith)

pub drawer_value : (c : List ℕ) → is_number most_drawer c ≡ true → (pushed false 0 fresh c).number ≡ number 0 c
unfolding fresh is_number limit
drawer_value c h =
    let n = number 0 c in
    let r = and_right (all_digits c) (leb 1 n && leb n 65535) h in
    value_from 0 refl (lit< tt) c fresh 0 (omega arith) (and_left (all_digits c) (leb 1 n && leb n 65535) h) ∙ small n (leb-true n 65535 (and_right (leb 1 n) (leb n 65535) r))
  where
    small : (n : ℕ) → n ≤ 65535 → min n cap ≡ n
    small n h = omega arith

-- ---- a score
-- a digit behind the point, and one before it
abbrev behind_more : Content → ℕ → Content
behind_more p b = content_of p.spoilt (grown p.number b) p.whole true (p.places + 1)

abbrev before_more : Content → ℕ → Content
before_more p b = content_of p.spoilt (grown p.number b) (p.whole + 1) false p.places

abbrev pointed : Content → Content
pointed p = content_of p.spoilt p.number p.whole true p.places

module _ (p : Content) (b : ℕ) where
  behind_yes : p.point ≡ true → is_digit b ≡ true → ltb p.places 6 ≡ true → push false 2 p b ≡ behind_more p b
  unfolding push push_score score_digit score_point
  behind_yes o e g = simp (e, o, g)

  behind_over : p.point ≡ true → is_digit b ≡ true → ltb p.places 6 ≡ false → push false 2 p b ≡ spoil p
  unfolding push push_score score_digit score_point
  behind_over o e g = simp (e, o, g)

  behind_no : p.point ≡ true → is_digit b ≡ false → push false 2 p b ≡ spoil p
  unfolding push push_score score_digit score_point
  behind_no o e = simp (e, o, and_false (eqb b point))

  before_yes : p.point ≡ false → is_digit b ≡ true → ltb p.whole 3 ≡ true → push false 2 p b ≡ before_more p b
  unfolding push push_score score_digit score_point
  before_yes o e g = simp (e, o, g)

  before_over : p.point ≡ false → is_digit b ≡ true → ltb p.whole 3 ≡ false → push false 2 p b ≡ spoil p
  unfolding push push_score score_digit score_point
  before_over o e g = simp (e, o, g)

  before_point : p.point ≡ false → is_digit b ≡ false → eqb b point ≡ true → push false 2 p b ≡ pointed p
  unfolding push push_score score_digit score_point
  before_point o e g = simp (e, o, g)

  before_no : p.point ≡ false → is_digit b ≡ false → eqb b point ≡ false → push false 2 p b ≡ spoil p
  unfolding push push_score score_digit score_point
  before_no o e g = simp (e, o, g)

spoilt_rest : (p : Content) (b : ℕ) (bs : List ℕ) → push false 2 p b ≡ spoil p → good_score (pushed false 2 p (b ∷ bs)) ≡ false
unfolding pushed
spoilt_rest p b bs e = spoilt_score (pushed false 2 (push false 2 p b) bs) (pushed_spoilt false 2 bs (push false 2 p b) (ap (λ (q : Content). q.spoilt) e ∙ spoil_is p))

then_push : (p q : Content) (b : ℕ) (bs : List ℕ) → push false 2 p b ≡ q → pushed false 2 p (b ∷ bs) ≡ pushed false 2 q bs
unfolding pushed
then_push p q b bs e = ap (λ (x : Content). pushed false 2 x bs) e

between_over : (low high n : ℕ) → high < n → between low high n ≡ false
unfolding between
between_over low high n l = ap (λ (t : Bool). leb low n && t) (lt-leb n high l) ∙ and_false (leb low n)

three_false : (w d : Bool) → (w && (d && false)) ≡ false
three_false true d = and_false d
three_false false d = refl

-- behind the point
behind_step : (t u : Bool) (b : ℕ) (bs : List ℕ) (p : Content) → is_digit b ≡ t → ltb p.places 6 ≡ u → p.point ≡ true → p.places ≤ 6
    → (p.places + 1 ≤ 6 → good_score (pushed false 2 (behind_more p b) bs) ≡ (leb 1 p.whole && (all_digits bs && between 1 6 (p.places + 1 + length bs))))
    → good_score (pushed false 2 p (b ∷ bs)) ≡ (leb 1 p.whole && ((t && all_digits bs) && between 1 6 (p.places + length (b ∷ bs))))
behind_step true true b bs p e g o k rest =
    ap good_score (then_push p (behind_more p b) b bs (behind_yes p b o e g))
    ∙ rest (omega (arith, ltb-true p.places 6 g))
    ∙ ap (λ (n : ℕ). leb 1 p.whole && (all_digits bs && between 1 6 n)) (omega arith)
behind_step true false b bs p e g o k rest =
    spoilt_rest p b bs (behind_over p b o e g)
    ∙ sym (ap (λ (t : Bool). leb 1 p.whole && (all_digits bs && t)) (between_over 1 6 (p.places + length (b ∷ bs)) (omega (arith, ltb-false p.places 6 g))) ∙ three_false (leb 1 p.whole) (all_digits bs))
behind_step false u b bs p e g o k rest = spoilt_rest p b bs (behind_no p b o e) ∙ sym (and_false (leb 1 p.whole))

score_behind : (c : List ℕ) (p : Content) → p.spoilt ≡ false → p.point ≡ true → p.places ≤ 6
    → good_score (pushed false 2 p c) ≡ (leb 1 p.whole && (all_digits c && between 1 6 (p.places + length c)))
unfolding pushed good_score all_digits between
score_behind [] p e o k =
    ap₂ (λ (x y : Bool). not x && (leb 1 p.whole && (not y || leb 1 p.places))) e o
    ∙ ap (λ (t : Bool). leb 1 p.whole && t) (last p.places k)
  where
    last : (n : ℕ) → n ≤ 6 → leb 1 n ≡ (leb 1 (n + 0) && leb (n + 0) 6)
    last n k = sym (ap₂ ◌&&◌ (leb_same 1 (n + 0) 1 n (λ l. omega arith) (λ l. omega arith)) (le-leb (n + 0) 6 (omega arith)) ∙ and_true (leb 1 n))
score_behind (b ∷ bs) p e o k = behind_step (is_digit b) (ltb p.places 6) b bs p refl refl o k (λ l. score_behind bs (behind_more p b) e refl l)

-- before the point
abbrev fraction : List ℕ → Bool
fraction c = cond (has_byte point c) (all_digits (behind c) && between 1 6 (length (behind c))) true

-- the point is no digit
digit_point : (b : ℕ) → is_digit b ≡ true → eqb b point ≡ false
unfolding is_digit
digit_point b e = ne_eqb b point (λ g. absurd (above b (digit_from b e) g))
  where
    above : (b : ℕ) → 48 ≤ b → b ≡ 46 → ⊥
    above b l e = omega arith

Before : List ℕ → Content → Type 0
Before c p = good_score (pushed false 2 p c) ≡ (all_digits (before c) && (between 1 3 (p.whole + length (before c)) && fraction c))

at_point : (b : ℕ) (bs : List ℕ) → eqb b point ≡ true → (before (b ∷ bs) ≡ []) × (behind (b ∷ bs) ≡ bs) × (has_byte point (b ∷ bs) ≡ true)
unfolding before behind has_byte
at_point b bs e = (simp e, simp e, simp e)

no_point : (b : ℕ) (bs : List ℕ) → eqb b point ≡ false → (before (b ∷ bs) ≡ b ∷ before bs) × (behind (b ∷ bs) ≡ behind bs) × (has_byte point (b ∷ bs) ≡ has_byte point bs)
unfolding before behind has_byte
no_point b bs e = (simp e, simp e, simp e)

abbrev Said : List ℕ → List ℕ → Bool → ℕ → Bool
Said front back dot n = all_digits front && (between 1 3 (n + length front) && cond dot (all_digits back && between 1 6 (length back)) true)

one_digit : (b : ℕ) (front back : List ℕ) (dot : Bool) (n : ℕ) → is_digit b ≡ true → Said front back dot (n + 1) ≡ Said (b ∷ front) back dot n
unfolding all_digits
one_digit b front back dot n e =
    ap (λ (m : ℕ). all_digits front && (between 1 3 m && cond dot (all_digits back && between 1 6 (length back)) true)) (omega arith)
    ∙ ap (λ (t : Bool). (t && all_digits front) && (between 1 3 (n + length (b ∷ front)) && cond dot (all_digits back && between 1 6 (length back)) true)) (sym e)

no_digit : (back : List ℕ) (n k : ℕ) → n ≤ 3 → k ≡ 0 → (leb 1 n && (all_digits back && between 1 6 (k + length back))) ≡ Said [] back true n
unfolding all_digits between
no_digit back n k h z =
    let e : k + length back ≡ length back = omega arith in
    ap₂ (λ (x : Bool) (m : ℕ). x && (all_digits back && between 1 6 m))
    (sym (ap₂ ◌&&◌ (leb_same 1 (n + 0) 1 n (λ l. omega arith) (λ l. omega arith)) (le-leb (n + 0) 3 (omega arith)) ∙ and_true (leb 1 n)))
    e

other_byte : (b : ℕ) (bs : List ℕ) → is_digit b ≡ false → all_digits (b ∷ bs) ≡ false
unfolding all_digits
other_byte b bs e = simp e

before_step : (t u v : Bool) (b : ℕ) (bs : List ℕ) (p : Content) → is_digit b ≡ t → ltb p.whole 3 ≡ u → eqb b point ≡ v → p.spoilt ≡ false → p.point ≡ false → p.places ≡ 0 → p.whole ≤ 3
    → (p.whole + 1 ≤ 3 → Before bs (before_more p b)) → Before (b ∷ bs) p
unfolding Before
before_step true true v b bs p e g d s o z k rest =
    let c = no_point b bs (digit_point b e) in
    ap good_score (then_push p (before_more p b) b bs (before_yes p b o e g))
    ∙ rest (omega (arith, ltb-true p.whole 3 g))
    ∙ one_digit b (before bs) (behind bs) (has_byte point bs) p.whole e
    ∙ sym (λ i. Said (c.0 i) (c.1 i) (c.2 i) p.whole)
before_step true false v b bs p e g d s o z k rest =
    let c = no_point b bs (digit_point b e) in
    spoilt_rest p b bs (before_over p b o e g)
    ∙ sym ((λ i. Said (c.0 i) (c.1 i) (c.2 i) p.whole)
    ∙ ap (λ (t : Bool). all_digits (b ∷ before bs) && (t && fraction bs)) (between_over 1 3 (p.whole + length (b ∷ before bs)) (omega (arith, ltb-false p.whole 3 g)))
    ∙ and_false (all_digits (b ∷ before bs)))
before_step false u true b bs p e g d s o z k rest =
    let c = at_point b bs d in
    ap good_score (then_push p (pointed p) b bs (before_point p b o e d))
    ∙ score_behind bs (pointed p) s refl (omega (arith, z))
    ∙ no_digit bs p.whole p.places k z
    ∙ sym (λ i. Said (c.0 i) (c.1 i) (c.2 i) p.whole)
before_step false u false b bs p e g d s o z k rest =
    let c = no_point b bs d in
    spoilt_rest p b bs (before_no p b o e d)
    ∙ sym ((λ i. Said (c.0 i) (c.1 i) (c.2 i) p.whole) ∙ ap (λ (t : Bool). t && (between 1 3 (p.whole + length (b ∷ before bs)) && fraction bs)) (other_byte b (before bs) e))

score_before : (c : List ℕ) (p : Content) → p.spoilt ≡ false → p.point ≡ false → p.places ≡ 0 → p.whole ≤ 3 → Before c p
unfolding Before pushed good_score before behind has_byte all_digits between
score_before [] p s o z k =
    ap₂ (λ (x y : Bool). not x && (leb 1 p.whole && (not y || leb 1 p.places))) s o
    ∙ ap (λ (t : Bool). t && true) (sym (ap₂ ◌&&◌ (leb_same 1 (p.whole + 0) 1 p.whole (λ l. omega arith) (λ l. omega arith)) (le-leb (p.whole + 0) 3 (omega arith)) ∙ and_true (leb 1 p.whole)))
score_before (b ∷ bs) p s o z k =
    before_step (is_digit b) (ltb p.whole 3) (eqb b point) b bs p refl refl refl s o z k (λ l. score_before bs (before_more p b) s refl z l)

pub score_is : (c : List ℕ) → good false 2 (pushed false 2 fresh c) ≡ is_score c
unfolding good fresh is_score Before
score_is c = score_before c fresh refl refl refl (omega arith) ∙ ap (λ (n : ℕ). all_digits (before c) && (between 1 3 n && fraction c)) (omega arith)

-- ---- its value
record Valued (q : Content) (n k : ℕ) : Type 0 where
  digits : q.number ≡ min n cap
  places : q.places ≡ k

valued_behind : (c : List ℕ) (p : Content) (n : ℕ) → p.point ≡ true → p.number ≡ min n cap → all_digits c ≡ true → p.places + length c ≤ 6
    → Valued (pushed false 2 p c) (number n c) (p.places + length c)
unfolding pushed number all_digits
valued_behind [] p n o e a l = record { digits = e; places = omega arith }
valued_behind (b ∷ bs) p n o e a l =
    let d = and_left (is_digit b) (all_digits bs) a in
    let step = behind_yes p b o d (lt-ltb p.places 6 (omega arith)) in
    let r = valued_behind bs (behind_more p b) (n * 10 + (b - 48)) refl (grown_is p.number n b e) (and_right (is_digit b) (all_digits bs) a) (omega arith) in
    record {
      digits = ap (λ (q : Content). (pushed false 2 q bs).number) step ∙ r.digits;
      places = ap (λ (q : Content). (pushed false 2 q bs).places) step ∙ r.places ∙ one p.places (length bs);
    }
  where
    one : (a b : ℕ) → a + 1 + b ≡ a + suc b
    one a b = omega arith

-- what `is_score` says, from a part before the point on
pub record Fine (c : List ℕ) (w : ℕ) : Type 0 where
  pub front : all_digits (before c) ≡ true
  pub short : w + length (before c) ≤ 3
  pub back : has_byte point c ≡ true → (all_digits (behind c) ≡ true) × (length (behind c) ≤ 6)

point_no_digit : (b : ℕ) → eqb b point ≡ true → is_digit b ≡ false
unfolding is_digit
point_no_digit b e = ap is_digit (eqb-true b point e)

abbrev Score : List ℕ → Content → ℕ → Type 0
Score c p n = Valued (pushed false 2 p c) (number n (before c ++ behind c)) (length (behind c))

valued_step : (t : Bool) (b : ℕ) (bs : List ℕ) (p : Content) (n : ℕ) → eqb b point ≡ t → p.point ≡ false → p.places ≡ 0 → p.number ≡ min n cap → Fine (b ∷ bs) p.whole
    → (Fine bs (p.whole + 1) → Score bs (before_more p b) (n * 10 + (b - 48))) → Score (b ∷ bs) p n
unfolding number all_digits
valued_step true b bs p n t o z e fine rest =
    let c = at_point b bs t in
    let k = fine.back c.2 in
    let r = valued_behind bs (pointed p) n refl e (ap all_digits (sym c.1) ∙ k.0) (short p.places (length bs) (length (behind (b ∷ bs))) z (ap length c.1) k.1) in
    let step = then_push p (pointed p) b bs (before_point p b o (point_no_digit b t) t) in
    record {
      digits = ap (λ (q : Content). q.number) step ∙ r.digits ∙ sym (λ i. min (number n (c.0 i ++ c.1 i)) cap);
      places = ap (λ (q : Content). q.places) step ∙ r.places ∙ zero_first p.places (length bs) z ∙ ap length (sym c.1);
    }
  where
    short : (k m l : ℕ) → k ≡ 0 → l ≡ m → l ≤ 6 → k + m ≤ 6
    short k m l z e h = omega arith

    zero_first : (k m : ℕ) → k ≡ 0 → k + m ≡ m
    zero_first k m z = omega arith
valued_step false b bs p n t o z e fine rest =
    let c = no_point b bs t in
    let a : (is_digit b && all_digits (before bs)) ≡ true = ap all_digits (sym c.0) ∙ fine.front in
    let l : p.whole + suc (length (before bs)) ≤ 3 = subst (λ (m : ℕ). p.whole + m ≤ 3) (ap length c.0) fine.short in
    let r = rest (record {
      front = and_right (is_digit b) (all_digits (before bs)) a;
      short = omega (arith, l);
      back = λ h.
          let k = fine.back (c.2 ∙ h) in
          (ap all_digits (sym c.1) ∙ k.0, subst (λ (x : List ℕ). length x ≤ 6) c.1 k.1);
    }) in
    let step = then_push p (before_more p b) b bs (before_yes p b o (and_left (is_digit b) (all_digits (before bs)) a) (lt-ltb p.whole 3 (omega (arith, l)))) in
    record {
      digits = ap (λ (q : Content). q.number) step ∙ r.digits ∙ sym (λ i. min (number n (c.0 i ++ c.1 i)) cap);
      places = ap (λ (q : Content). q.places) step ∙ r.places ∙ ap length (sym c.1);
    }

valued_score : (c : List ℕ) (p : Content) (n : ℕ) → p.point ≡ false → p.places ≡ 0 → p.number ≡ min n cap → Fine c p.whole → Score c p n
unfolding pushed number before behind
valued_score [] p n o z e fine = record { digits = e; places = z }
valued_score (b ∷ bs) p n o z e fine =
    valued_step (eqb b point) b bs p n refl o z e fine (λ f. valued_score bs (before_more p b) (n * 10 + (b - 48)) refl z (grown_is p.number n b e) f)

-- so many digits write no more
number_lt : (ds : List ℕ) (n : ℕ) → all_digits ds ≡ true → number n ds + 1 ≤ (n + 1) * 10 ^ length ds
unfolding number all_digits
number_lt [] n a = omega arith
number_lt (b ∷ bs) n a =
    let d = digit_le b (and_left (is_digit b) (all_digits bs) a) in
    let r = number_lt bs (n * 10 + (b - 48)) (and_right (is_digit b) (all_digits bs) a) in
    le_trans r (le_trans (mul-le-mul_right (10 ^ length bs) (ten n b d)) (le_of_eq (mul_assoc (n + 1) 10 (10 ^ length bs) ∙ ap (λ (x : ℕ). (n + 1) * x) (mul_comm 10 (10 ^ length bs) ∙ sym (pow-suc 10 (length bs))))))
  where
    ten : (n b : ℕ) → b ≤ 57 → n * 10 + (b - 48) + 1 ≤ (n + 1) * 10
    ten n b h = omega arith

digits_append : (xs ys : List ℕ) → all_digits xs ≡ true → all_digits ys ≡ true → all_digits (xs ++ ys) ≡ true
unfolding all_digits
digits_append [] ys a b = b
digits_append (x ∷ xs) ys a b =
    ap₂ ◌&&◌ (and_left (is_digit x) (all_digits xs) a) (digits_append xs ys (and_right (is_digit x) (all_digits xs) a) b)

-- without a point nothing stands behind it
nothing_behind : (c : List ℕ) → has_byte point c ≡ false → behind c ≡ []
unfolding has_byte behind
nothing_behind [] e = refl
nothing_behind (b ∷ bs) e = go (eqb b point) e (λ g. nothing_behind bs g)
  where
    go : (t : Bool) → (t || has_byte point bs) ≡ false → (has_byte point bs ≡ false → behind bs ≡ []) → cond t bs (behind bs) ≡ []
    go true e rest = false_true (sym e)
    go false e rest = rest e

pub record Scored (c : List ℕ) : Type 0 where
  pub fine : Fine c 0
  pub all : all_digits (before c ++ behind c) ≡ true
  pub few : length (behind c) ≤ 6

pub scored : (c : List ℕ) → is_score c ≡ true → Scored c
unfolding is_score between all_digits
scored c h = go (has_byte point c) refl (and_right (between 1 3 (length (before c))) _ rest)
  where
    front : all_digits (before c) ≡ true
    front = and_left (all_digits (before c)) _ h

    rest : (between 1 3 (length (before c)) && fraction c) ≡ true
    rest = and_right (all_digits (before c)) _ h

    short : 0 + length (before c) ≤ 3
    short = omega (arith, leb-true (length (before c)) 3 (and_right (leb 1 (length (before c))) _ (and_left (between 1 3 (length (before c))) _ rest)))

    go : (t : Bool) → has_byte point c ≡ t → cond t (all_digits (behind c) && between 1 6 (length (behind c))) true ≡ true → Scored c
    go true e f =
        let a = and_left (all_digits (behind c)) _ f in
        let l = leb-true (length (behind c)) 6 (and_right (leb 1 (length (behind c))) _ (and_right (all_digits (behind c)) _ f)) in
        record { fine = record { front = front; short = short; back = λ _. (a, l) }; all = digits_append (before c) (behind c) front a; few = l }
    go false e f =
        let n = nothing_behind c e in
        record {
          fine = record { front = front; short = short; back = λ g. false_true (sym e ∙ g) };
          all = digits_append (before c) (behind c) front (ap all_digits n ∙ refl);
          few = subst (λ (x : List ℕ). length x ≤ 6) (sym n) (omega arith);
        }

-- its digits are fewer than ten
pub score_lt : (c : List ℕ) → is_score c ≡ true → number 0 (before c ++ behind c) < 10 ^ 9
score_lt c h =
    let s = scored c h in
    let ds = before c ++ behind c in
    let short : length ds ≤ 9 = subst (λ (n : ℕ). n ≤ 9) (sym (length-append (before c) (behind c))) (omega (arith, s.fine.short, s.few)) in
    let small : number 0 ds + 1 ≤ 10 ^ 9 = le_trans (number_lt ds 0 s.all) (le_trans (le_of_eq (one-mul (10 ^ length ds))) (pow-le-pow_right (lit< tt) short)) in
    omega arith

pub score_value : (c : List ℕ) → is_score c ≡ true → score (pushed false 2 fresh c) ≡ score_of c
unfolding score score_of fresh
score_value c h =
    let s = scored c h in
    let ds = before c ++ behind c in
    let v = valued_score c fresh 0 refl refl (omega arith) s.fine in
    let short : length ds ≤ 9 = subst (λ (n : ℕ). n ≤ 9) (sym (length-append (before c) (behind c))) (omega (arith, s.fine.short, s.few)) in
    let small : number 0 ds + 1 ≤ 10 ^ 9 = le_trans (number_lt ds 0 s.all) (le_trans (le_of_eq (one-mul (10 ^ length ds))) (pow-le-pow_right (lit< tt) short)) in
    ap₂ (λ (n k : ℕ). round binary32 false n (10 ^ k)) (v.digits ∙ whole (number 0 ds) small) (ap (λ (k : ℕ). min k 6) v.places ∙ six (length (behind c)) s.few)
  where
    whole : (n : ℕ) → n + 1 ≤ 10 ^ 9 → min n cap ≡ n
    whole n h = omega arith

    six : (k : ℕ) → k ≤ 6 → min k 6 ≡ k
    six k h = omega arith

-- ---- a quote and a carriage return are of no word and of no number
no_letter : (x : ℕ) (ws : List ℕ) (i : ℕ) → has_byte x ws ≡ false → eqb 256 x ≡ false → eqb (get_or ws i 256) x ≡ false
unfolding has_byte
no_letter x [] i e g = g
no_letter x (w ∷ ws) zero e g = or_left (eqb w x) (has_byte x ws) e
no_letter x (w ∷ ws) (suc i) e g = no_letter x ws i (or_right (eqb w x) (has_byte x ws) e) g

module _ (x : ℕ) (none : (f : ℕ) → has_byte x (word f) ≡ false) (beyond : eqb 256 x ≡ false) (digit : is_digit x ≡ false) (dot : eqb x point ≡ false) where
  spoils : (h : Bool) (f : ℕ) (p : Content) → push h f p x ≡ spoil p
  unfolding push push_letter push_score score_point push_digit letter
  spoils true f p = simp (no_letter x (word f) p.whole (none f) beyond)
  spoils false f p = go (eqb f 2)
    where
      go : (t : Bool) → cond t (push_score p x) (push_digit p x) ≡ spoil p
      go true = simp (digit, dot)
      go false = simp digit

no_quote : (f : ℕ) → has_byte 34 (word f) ≡ false
unfolding word has_byte
no_quote f = go (eqb f 0) (eqb f 1)
  where
    go : (t u : Bool) → has_byte 34 (cond t (bytes "drawer") (cond u (bytes "seen") (bytes "score"))) ≡ false
    go true u = refl
    go false true = refl
    go false false = refl

no_return : (f : ℕ) → has_byte 13 (word f) ≡ false
unfolding word has_byte
no_return f = go (eqb f 0) (eqb f 1)
  where
    go : (t u : Bool) → has_byte 13 (cond t (bytes "drawer") (cond u (bytes "seen") (bytes "score"))) ≡ false
    go true u = refl
    go false true = refl
    go false false = refl

pub quote_spoils : (h : Bool) (f : ℕ) (p : Content) → push h f p 34 ≡ spoil p
unfolding is_digit
quote_spoils h f p = spoils 34 no_quote refl refl refl h f p

pub return_spoils : (h : Bool) (f : ℕ) (p : Content) → push h f p 13 ≡ spoil p
unfolding is_digit
return_spoils h f p = spoils 13 no_return refl refl refl h f p
