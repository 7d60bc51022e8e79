-- A field's text walked byte by byte comes to what `field_of` says of it. Assumes nothing.
use mathlib.Core.Path.{◌≡◌, refl, sym, ap, ◌∙◌}
use mathlib.Core.Bool.{Bool, true, false, cond}
use mathlib.Core.List.{List, [], ◌∷◌, ◌++◌}
use Prim.Native.Nat.{ℕ}
use lib.Dec.{eqb}
use borrow.Author.Tests.{eqb-true}
use Rattle.csv_fields.specs.declared.Content.{Content}
use Rattle.csv_fields.specs.Contents.{has_byte}
use Rattle.csv_fields.specs.Pushing.{fresh, push, pushed}
use Rattle.csv_rows.specs.Rows.{without_return, Field, Holds, BrokenQuote, quoted, closed, field_of}
use Rattle.csv_rows.proofs.Walking.{quote, return, Spot, Start, Plain, Return, Quoted, Closed, Ending, Broken, Reach, reach, begun, broken, plainly, walk, ended, ended_line}

module _ (h : Bool) (f : ℕ) where
  -- a text, byte by byte
  unfoldable pub walked : Reach → List ℕ → Reach
  walked t [] = t
  walked t (b ∷ bs) = walked (walk h f t.spot t.content b) bs

  abbrev pub end : Reach → Reach
  end t = ended h f t.spot t.content

  abbrev pub end_line : Reach → Reach
  end_line t = ended_line t.spot t.content

  pub walked_snoc : (t : Reach) (bs : List ℕ) (b : ℕ) → walked t (bs ++ (b ∷ [])) ≡ walk h f (walked t bs).spot (walked t bs).content b
  unfolding walked
  walked_snoc t [] b = refl
  walked_snoc t (a ∷ bs) b = walked_snoc (walk h f t.spot t.content a) bs b

  pushed_snoc : (p : Content) (bs : List ℕ) (b : ℕ) → pushed h f p (bs ++ (b ∷ [])) ≡ push h f (pushed h f p bs) b
  unfolding pushed
  pushed_snoc p [] b = refl
  pushed_snoc p (a ∷ bs) b = pushed_snoc (push h f p a) bs b

  -- what a field comes to
  unfoldable pub reached : Field → Reach
  reached BrokenQuote = broken
  reached (Holds c) = reach Plain (pushed h f fresh c)

  -- behind a broken quote
  pub broken_stays : (bs : List ℕ) → walked broken bs ≡ broken
  unfolding walked walk broken
  broken_stays [] = refl
  broken_stays (b ∷ bs) = broken_stays bs

  broken_end : (bs : List ℕ) → end (walked broken bs) ≡ broken
  unfolding ended broken
  broken_end bs = ap end (broken_stays bs)

  ending_end : (p : Content) (bs : List ℕ) → end (walked (reach Ending p) bs) ≡ broken
  unfolding walked walk ended
  ending_end p [] = refl
  ending_end p (b ∷ bs) = broken_end bs

  -- in quotes
  abbrev QuotedAs : List ℕ → Type 0
  QuotedAs bs = (c : List ℕ) (p : Content) → p ≡ pushed h f fresh c → end (walked (reach Quoted p) bs) ≡ reached (quoted c bs)

  abbrev ClosedAs : List ℕ → Type 0
  ClosedAs bs = (c : List ℕ) (p : Content) → p ≡ pushed h f fresh c → end (walked (reach Closed p) bs) ≡ reached (closed c bs)

  quoted_byte : (t : Bool) (b : ℕ) (bs : List ℕ) → eqb b quote ≡ t → QuotedAs bs → ClosedAs bs → QuotedAs (b ∷ bs)
  unfolding walked walk quoted
  quoted_byte true b bs e rest shut c p is = simp e (shut c p is)
  quoted_byte false b bs e rest shut c p is = simp e (rest (c ++ (b ∷ [])) (push h f p b) (ap (λ (x : Content). push h f x b) is ∙ sym (pushed_snoc fresh c b)))

  closed_byte : (t u : Bool) (b : ℕ) (bs : List ℕ) → eqb b quote ≡ t → eqb b return ≡ u → QuotedAs bs → ClosedAs (b ∷ bs)
  unfolding walked walk closed reached
  closed_byte true u b bs e g rest c p is = simp e (rest (c ++ (quote ∷ [])) (push h f p quote) (ap (λ (x : Content). push h f x quote) is ∙ sym (pushed_snoc fresh c quote)))
  closed_byte false true b bs e g rest c p is = simp (e, g) (ending_end p bs)
  closed_byte false false b bs e g rest c p is = simp (e, g) (broken_end bs)

  quoting : (bs : List ℕ) → QuotedAs bs × ClosedAs bs
  unfolding walked ended quoted reached
  quoting [] = (λ c p is. refl, λ c p is. ap (reach Plain) is)
  quoting (b ∷ bs) =
      (quoted_byte (eqb b quote) b bs refl (quoting bs).0 (quoting bs).1, closed_byte (eqb b quote) (eqb b return) b bs refl refl (quoting bs).0)

  -- without quotes
  abbrev PlainAs : List ℕ → Type 0
  PlainAs bs = (p : Content) → end (walked (reach Plain p) bs) ≡ cond (has_byte quote bs) broken (reach Plain (pushed h f p bs))

  abbrev ReturnAs : List ℕ → Type 0
  ReturnAs bs = (p : Content) → end (walked (reach Return p) bs) ≡ cond (has_byte quote bs) broken (reach Plain (pushed h f (push h f p return) bs))

  plainly_as : (u : Bool) (b : ℕ) (bs : List ℕ) → eqb b return ≡ u → PlainAs bs → ReturnAs bs → (p : Content)
      → end (walked (plainly h f p b) bs) ≡ cond (has_byte quote bs) broken (reach Plain (pushed h f (push h f p b) bs))
  unfolding plainly
  plainly_as true b bs g rest ret p = simp g (ret p ∙ ap (λ (x : ℕ). cond (has_byte quote bs) broken (reach Plain (pushed h f (push h f p x) bs))) (sym (eqb-true b return g)))
  plainly_as false b bs g rest ret p = simp g (rest (push h f p b))

  plain_byte : (t : Bool) (b : ℕ) (bs : List ℕ) → eqb b quote ≡ t → PlainAs bs → ReturnAs bs → PlainAs (b ∷ bs)
  unfolding walked walk has_byte pushed
  plain_byte true b bs e rest ret p = simp e (broken_end bs)
  plain_byte false b bs e rest ret p = simp e (plainly_as (eqb b return) b bs refl rest ret p)

  return_byte : (t : Bool) (b : ℕ) (bs : List ℕ) → eqb b quote ≡ t → PlainAs bs → ReturnAs bs → ReturnAs (b ∷ bs)
  unfolding walked walk has_byte pushed
  return_byte true b bs e rest ret p = simp e (broken_end bs)
  return_byte false b bs e rest ret p = simp e (plainly_as (eqb b return) b bs refl rest ret (push h f p return))

  plain_text : (bs : List ℕ) → PlainAs bs × ReturnAs bs
  unfolding walked ended has_byte pushed
  plain_text [] = (λ p. refl, λ p. refl)
  plain_text (b ∷ bs) =
      (plain_byte (eqb b quote) b bs refl (plain_text bs).0 (plain_text bs).1, return_byte (eqb b quote) b bs refl (plain_text bs).0 (plain_text bs).1)

  -- a text
  first_byte : (t : Bool) (b : ℕ) (bs : List ℕ) → eqb b quote ≡ t → end (walked begun (b ∷ bs)) ≡ reached (field_of (b ∷ bs))
  unfolding walked walk begun field_of has_byte reached pushed
  first_byte true b bs e = simp e ((quoting bs).0 [] fresh refl)
  first_byte false b bs e = simp e (plainly_as (eqb b return) b bs refl (plain_text bs).0 (plain_text bs).1 fresh ∙ pick (has_byte quote bs))
    where
      pick : (u : Bool) → cond u broken (reach Plain (pushed h f (push h f fresh b) bs)) ≡ reached (cond u BrokenQuote (Holds (b ∷ bs)))
      pick true = refl
      pick false = refl

  pub field_end : (text : List ℕ) → end (walked begun text) ≡ reached (field_of text)
  unfolding walked begun ended field_of reached pushed
  field_end [] = refl
  field_end (b ∷ bs) = first_byte (eqb b quote) b bs refl

  -- at a line feed the carriage return before it counts for nothing
  return_dropped : (q : Spot) (p : Content) → end_line (walk h f q p return) ≡ ended h f q p
  unfolding walk plainly ended ended_line broken
  return_dropped Start p = refl
  return_dropped Plain p = refl
  return_dropped Return p = refl
  return_dropped Quoted p = refl
  return_dropped Closed p = refl
  return_dropped Ending p = refl
  return_dropped Broken p = refl

  none_dropped : (q : Spot) (p : Content) (b : ℕ) → eqb b return ≡ false → end_line (walk h f q p b) ≡ end (walk h f q p b)
  unfolding walk plainly ended ended_line broken
  none_dropped Start p b e = go (eqb b quote)
    where
      go : (t : Bool) → end_line (cond t (reach Quoted p) (plainly h f p b)) ≡ end (cond t (reach Quoted p) (plainly h f p b))
      go true = refl
      go false = simp e
  none_dropped Plain p b e = go (eqb b quote)
    where
      go : (t : Bool) → end_line (cond t broken (plainly h f p b)) ≡ end (cond t broken (plainly h f p b))
      go true = refl
      go false = simp e
  none_dropped Return p b e = go (eqb b quote)
    where
      go : (t : Bool) → end_line (cond t broken (plainly h f (push h f p return) b)) ≡ end (cond t broken (plainly h f (push h f p return) b))
      go true = refl
      go false = simp e
  none_dropped Quoted p b e = go (eqb b quote)
    where
      go : (t : Bool) → end_line (cond t (reach Closed p) (reach Quoted (push h f p b))) ≡ end (cond t (reach Closed p) (reach Quoted (push h f p b)))
      go true = refl
      go false = refl
  none_dropped Closed p b e = go (eqb b quote)
    where
      go : (t : Bool) → end_line (cond t (reach Quoted (push h f p quote)) (cond (eqb b return) (reach Ending p) broken)) ≡ end (cond t (reach Quoted (push h f p quote)) (cond (eqb b return) (reach Ending p) broken))
      go true = refl
      go false = simp e
  none_dropped Ending p b e = refl
  none_dropped Broken p b e = refl

  last_byte : (u : Bool) (t : Reach) (b : ℕ) → eqb b return ≡ u → end_line (walked t (b ∷ [])) ≡ end (walked t (without_return (b ∷ [])))
  unfolding walked without_return
  last_byte true t b g = simp g (ap (λ (x : ℕ). end_line (walk h f t.spot t.content x)) (eqb-true b return g) ∙ return_dropped t.spot t.content)
  last_byte false t b g = simp g (none_dropped t.spot t.content b g)

  line_some : (bs : List ℕ) (t : Reach) (b : ℕ) → end_line (walked t (b ∷ bs)) ≡ end (walked t (without_return (b ∷ bs)))
  unfolding walked without_return
  line_some [] t b = last_byte (eqb b return) t b refl
  line_some (c ∷ cs) t b = line_some cs (walk h f t.spot t.content b) c

  line_from : (t : Reach) (bs : List ℕ) → end_line t ≡ end t → end_line (walked t bs) ≡ end (walked t (without_return bs))
  unfolding walked without_return
  line_from t [] e = e
  line_from t (b ∷ bs) e = line_some bs t b

  pub line_end : (text : List ℕ) → end_line (walked begun text) ≡ reached (field_of (without_return text))
  unfolding begun ended ended_line
  line_end text = line_from begun text refl ∙ field_end (without_return text)
