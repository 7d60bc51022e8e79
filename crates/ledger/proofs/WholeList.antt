-- Demand 3 over a whole list of readings, for any judge that keeps `Laws`. Assumes nothing.
use mathlib.Core.Path.{◌≡◌, refl, sym, ap, ◌∙◌, subst}
use mathlib.Core.Logic.{◌⊎◌, inl, inr}
use mathlib.Core.List.{List, [], ◌∷◌}
use Prim.Native.Nat.{ℕ, zero, suc, ◌+◌, ◌*◌, ◌^◌, ◌≤◌, ◌<◌, zero-le}
use native.Mathlib.Nat.{le_trans, le_of_eq, le_refl, le_of_lt, mul-le-mul_right, mul-le-mul, le_of_mul-le-mul_right, mul-pos, zero-lt-suc, zero-mul, zero-add}
use native.Mathlib.Omega.{arith}
use native.Mathlib.Numerals.{add-one}
use mathlib.Core.Bool.{Bool, true, false, not, ◌&&◌, cond}
use lib.IntN.{ℤ, pos}
use lib.Dec.{T, leb, ltb, eqb, lit≤, leb→le, nleb→lt, eqb→eq, le→leb, ltb→lt, lt→ltb}
use lib.Ieee.{Float, nan, inf, fin, up, down, eq, lt, le, ne, of_bits}
use lib.Ieee.Positive.{num as num_of, den as den_of, den_pos, positive, le→cross}
use Rattle.deviation.specs.declared.Deviation.{Deviation}
use Rattle.deviation.specs.Const.{count_limit}
use Rattle.deviation.specs.Statistics as Statistics
use Rattle.basicthresholder.specs.Const.{zero32, sixteen32}
use Rattle.basicthresholder.specs.declared.BasicThresholder.{BasicThresholder}
use Rattle.basicthresholder.specs.Grades.{primary_threshold_and_grade, threshold, primary_grade, is_deviation_ready, counts_ready}
use Rattle.ledger.specs.Fractions.{Fraction, over, none, plus, minus, part, larger, Le, plain, fraction_of, plus_zero}
use Rattle.ledger.specs.Ledger.{Ledger, blank, enter, AtOrUnder, AtOrOver, Over}
use Rattle.ledger.specs.Statement.{closeness, clearance, enough_scores, counted, Told, Judged, Either, Agree, accepted, Sized, Sizes, Judge, told, showed}
use Rattle.ledger.specs.Theorem.{Laws, New, Theorem}
use Rattle.ledger.proofs.Factor.{eq_is, zero_num, Discount, discount_of}
use Rattle.ledger.proofs.OneScore.{compared, opening_grade}
use Rattle.ledger.proofs.Opening.{Capped, capped_step, opening}
use Rattle.ledger.proofs.Update.{Track, sized_range, track_fresh, track_step}
use Rattle.ledger.proofs.Values.{Range, num_pos}

-- ---- small facts
true_of : (b : Bool) → T b → b ≡ true
true_of true t = refl
true_of false t = absurd t

pick_either : (c : Bool) (A B : Type 0) → (T c → A) → (T (not c) → B) → Either c A B
pick_either true A B f g = f tt
pick_either false A B f g = g tt

sized_pos : (x : Float) → Sized x → 0 < num_of x
sized_pos x w = num_pos (num_of x) (den_of x) (2 ^ 30) (den_pos x) (sized_range x w).least

split_and : (a b : Bool) → T (not a && not b) → T (not a) × T (not b)
split_and true b h = absurd h
split_and false true h = absurd h
split_and false false h = (tt, tt)

not_and : (a b : Bool) → T (not (not a && not b)) → T a ⊎ (T (not a) × T b)
not_and true b h = inl tt
not_and false true h = inr (tt, tt)
not_and false false h = absurd h

-- what it means that a reading is counted, and that it is not
counted_told : (t : Told) → T (counted t) → T (not t.refused) × T (not (eqb (num_of t.score) 0))
counted_told t h = split_and t.refused (eqb (num_of t.score) 0) h

other_told : (t : Told) → T (not (counted t)) → T t.refused ⊎ (T (not t.refused) × T (eqb (num_of t.score) 0))
other_told t h = not_and t.refused (eqb (num_of t.score) 0) h

left : (c : Bool) (n k N : ℕ) → n + (cond c 0 1 + k) ≤ N → n + k ≤ N
left true n k N h = omega arith
left false n k N h = omega arith

one_more_lem : (c : Bool) (n k N : ℕ) → T (not c) → n + (cond c 0 1 + k) ≤ N → suc n + k ≤ N
one_more_lem true n k N t h = absurd t
one_more_lem false n k N t h = omega arith

clash : (b : Bool) → T b → T (not b) → ⊥
clash true p q = q
clash false p q = p

eqb_zero : (n : ℕ) → n ≡ 0 → T (eqb n 0)
eqb_zero n e = subst (λ (k : ℕ). T (eqb k 0)) (sym e) tt

no_zero : (n : ℕ) → 0 < n → T (eqb n 0) → ⊥
no_zero n h t = (let e : n ≡ 0 = eqb→eq n 0 t in omega arith)

-- ---- a larger M
more_in : (a a' b b' m m' k k' : ℕ) → 0 < m' → a * (m' * b') ≤ m * b * a' → m * k' ≤ k * m' → a * (k' * b') ≤ k * b * a'
more_in a a' b b' m m' k k' C h l =
    le_of_mul-le-mul_right
    (let x : a * (m' * b') * k' ≤ m * b * a' * k' = mul-le-mul_right k' h in
    let y : m * k' * (b * a') ≤ k * m' * (b * a') = mul-le-mul_right (b * a') l in
    let g : a * (k' * b') * m' ≤ k * b * a' * m' = omega arith in g) C

capped_more : (M M' : Fraction) (b : Ledger) → 0 < M.den → Le M M' → Capped M b → Capped M' b
capped_more M M' b hM l c = record {
  sum = more_in b.sum.num b.sum.den b.weight.num b.weight.den M.num M.den M'.num M'.den hM c.sum l;
  squares = more_in b.squares.num b.squares.den b.weight.num b.weight.den (M.num * M.num) (M.den * M.den) (M'.num * M'.num) (M'.den * M'.den) (mul-pos hM hM) c.squares (sq M.num M.den M'.num M'.den l);
}
  where
    sq : (a a' b b' : ℕ) → a * b' ≤ b * a' → a * a * (b' * b') ≤ b * b * (a' * a')
    sq a a' b b' h = (let x : a * b' * (a * b') ≤ b * a' * (b * a') = mul-le-mul h h in omega arith)

record Larger (M x L : Fraction) : Type 0 where
  M_le : Le M L
  x_le : Le x L
  den : 0 < L.den
  range : Range 30 30 L

larger_is : (M x : Fraction) → 0 < M.den → 0 < x.den → (M.num ≡ 0) ⊎ Range 30 30 M → Range 30 30 x → Larger M x (larger M x)
larger_is M x hM hx m r = go (leb (M.num * x.den) (x.num * M.den)) (leb→le (M.num * x.den) (x.num * M.den)) (nleb→lt (M.num * x.den) (x.num * M.den))
  where
    some : (M.num ≡ 0) ⊎ Range 30 30 M → x.num * M.den < M.num * x.den → Range 30 30 M
    some (inl e) h = absurd (let i : M.num * x.den ≡ 0 = ap (λ (k : ℕ). k * x.den) e ∙ zero-mul x.den in omega arith)
    some (inr q) h = q

    go : (c : Bool) → (T c → M.num * x.den ≤ x.num * M.den) → (T (not c) → x.num * M.den < M.num * x.den) → Larger M x (cond c x M)
    go true h k = record { M_le = h tt; x_le = le_refl (x.num * x.den); den = hx; range = r }
    go false h k = record { M_le = le_refl (M.num * M.den); x_le = le_of_lt (k tt); den = hM; range = some m (k tt) }

-- ---- counts up to 65,536
countable_is : (n : ℕ) (c : ℤ) → n ≤ 65536 → c ≡ pos n → Statistics.countable c ≡ true
unfolding Statistics.countable
countable_is n c l e = ap Statistics.countable e ∙ true_of (leb n count_limit) (le→leb n count_limit (le_trans l (lit≤ tt)))

counted_is : (n : ℕ) (s : Deviation) (x : Float) → n ≤ 65536 → s.count ≡ pos n → Statistics.counted s x ≡ Statistics.next s x
unfolding Statistics.update
counted_is n s x l e = rw (Statistics.counted, countable_is n s.count l e) refl

more_is : (n : ℕ) (c : ℤ) → n ≤ 65536 → c ≡ pos n → Statistics.one_more c ≡ pos (suc n)
unfolding Statistics.one_more
more_is n c l e = rw (countable_is n c l e, e) (ap pos (add-one n))

-- both counts are n, and n is ten or more: ready, whatever the horizon
ready : (n : ℕ) (t : BasicThresholder) → 10 ≤ n → t.count ≡ pos n → t.primary_deviation.count ≡ pos n → is_deviation_ready t ≡ true
unfolding is_deviation_ready counts_ready
ready n t h e f = rw (e, f) (go (ltb n 10) (ne t.score_differencing zero32) (leb 10 n) (ltb→lt n 10) (true_of (leb 10 n) (le→leb 10 n h)))
  where
    go : (a b c : Bool) → (T a → n < 10) → c ≡ true → cond a false (cond b c true) ≡ true
    go true b c l q = absurd (let i : n < 10 = l tt in omega arith)
    go false true c l q = q
    go false false c l q = refl

-- ---- the z factor: above 0 and at most 16
z_positive : (z : Float) → T (lt zero32 z) → T (le z sixteen32) → T (positive z)
unfolding lt le eq of_bits
z_positive nan h k = absurd h
z_positive (inf true) h k = absurd h
z_positive (inf false) h k = absurd k
z_positive (fin true m e) h k = absurd h
z_positive (fin false m e) h k = above m (up e) (down e) (ltb→lt (0 * down e) (m * up e * 1) h)
  where
    above : (m u d : ℕ) → 0 * d < m * u * 1 → T (ltb 0 m)
    above zero u d h = absurd (omega arith)
    above (suc m) u d h = lt→ltb 0 (suc m) (zero-lt-suc m)

z_plain : (z : Float) → T (positive z) → T (plain z)
z_plain nan p = absurd p
z_plain (inf s) p = absurd p
z_plain (fin true m e) p = absurd p
z_plain (fin false m e) p = tt

z_most : (z : Float) → T (positive z) → T (le z sixteen32) → Le (fraction_of z) (over 16 1)
unfolding of_bits
z_most z p h = le→cross z sixteen32 p tt h

module _ (J : Judge) (thresholder : J.State → BasicThresholder) (F : Laws J thresholder) (d z : Float) (D : Discount d) (z-p : T (plain z)) (z_le : Le (fraction_of z) (over 16 1)) where
  -- what holds after n scores: b the ledger, M the largest score
  record Inv (n : ℕ) (s : J.State) (b : Ledger) (M : Fraction) : Type 0 where
    track : Track d n (thresholder s).primary_deviation b
    count : (thresholder s).count ≡ pos n
    z_factor : (thresholder s).z_factor ≡ z
    capped : Capped M b
    den : 0 < M.den
    range : ((n ≡ 0) × (M.num ≡ 0)) ⊎ Range 30 30 M

  kept : (n : ℕ) (s : J.State) (b : Ledger) (M : Fraction) (r : J.Reading) → J.next s r ≡ s → Inv n s b M → Inv n (J.next s r) b M
  kept n s b M r e i = subst (λ (t : J.State). Inv n t b M) (sym e) i

  grown : (n : ℕ) (s : J.State) (b : Ledger) (M : Fraction) (r : J.Reading) → n ≤ 65536 → T (not (J.refused s r)) → T (not (eq (J.score r) zero32)) → Sized (J.score r) → Inv n s b M
      → Inv (suc n) (J.next s r) (enter (fraction_of d) b (fraction_of (J.score r))) (larger M (fraction_of (J.score r)))
  grown n s b M r l a c w i =
      let x = J.score r in
      let p = (thresholder s).primary_deviation in
      let q = larger_is M (fraction_of x) i.den (den_pos x) (weak i.range) (sized_range x w) in
      let k = F.counts s r a c in
      let e : (thresholder (J.next s r)).primary_deviation ≡ Statistics.next p x = k.primary ∙ counted_is n p x l i.track.count in
      record {
        track = subst (λ (v : Deviation). Track d (suc n) v (enter (fraction_of d) b (fraction_of x))) (sym e) (track_step d n p b x D l w i.track);
        count = k.count ∙ more_is n (thresholder s).count l i.count;
        z_factor = k.z_factor ∙ i.z_factor;
        capped = capped_step (larger M (fraction_of x)) (fraction_of d) (fraction_of x) b q.x_le (capped_more M (larger M (fraction_of x)) b i.den q.M_le i.capped);
        den = q.den;
        range = inr q.range;
      }
    where
      weak : {n : ℕ} {M : Fraction} → ((n ≡ 0) × (M.num ≡ 0)) ⊎ Range 30 30 M → (M.num ≡ 0) ⊎ Range 30 30 M
      weak (inl p) = inl p.1
      weak (inr p) = inr p

  opened_threshold : (t : BasicThresholder) (x : Float) → t.z_factor ≡ z → (primary_threshold_and_grade t x).threshold ≡ opening z t.primary_deviation
  unfolding primary_threshold_and_grade threshold
  opened_threshold t x e = ap (λ (k : Float). opening k t.primary_deviation) e

  opened_grade : (n : ℕ) (t : BasicThresholder) (x : Float) → 10 ≤ n → t.count ≡ pos n → t.primary_deviation.count ≡ pos n → t.z_factor ≡ z → (primary_threshold_and_grade t x).grade ≡ opening_grade z t.primary_deviation x
  unfolding primary_threshold_and_grade primary_grade threshold
  opened_grade n t x h e f g = ap (λ (k : Bool). cond k (opening_grade t.z_factor t.primary_deviation x) zero32) (ready n t h e f) ∙ ap (λ (k : Float). opening_grade k t.primary_deviation x) g

  judged : (n : ℕ) (s : J.State) (b : Ledger) (M : Fraction) (r : J.Reading) → n ≤ 65536 → T (not (J.refused s r)) → T (not (eq (J.score r) zero32)) → Sized (J.score r) → Inv n s b M
      → enough_scores ≤ b.n → Judged (fraction_of z) M b (J.score r) (J.shown s r)
  unfolding of_bits
  judged n s b M r l a c w i ten =
      let n-ten : 10 ≤ n = le_trans (lit≤ tt) (subst (λ (k : ℕ). enough_scores ≤ k) i.track.counted ten) in
      let x = J.score r in
      let p = (thresholder s).primary_deviation in
      let t-is : (J.shown s r).threshold ≡ opening z p = F.opens_threshold s r a c ∙ opened_threshold (thresholder s) x i.z_factor in
      let g-is : (J.shown s r).opening ≡ opening_grade z p x = F.opens_grade s r a c ∙ opened_grade n (thresholder s) x n-ten i.count i.track.count i.z_factor in
      let m = compared d n p b z M (le_trans (lit≤ tt) n-ten) l i.track i.capped i.den (full n-ten i.range) z-p z_le x w in
      record {
        number = subst (λ (k : Float). T (plain k)) (sym t-is) m.number;
        not_over = subst (λ (k : Float). AtOrUnder (fraction_of z) b (minus (fraction_of k) (part M closeness))) (sym t-is) m.not_over;
        not_under = subst (λ (k : Float). AtOrOver (fraction_of z) b (plus (fraction_of k) (part M closeness))) (sym t-is) m.not_under;
        quiet = λ (h : AtOrUnder (fraction_of z) b (plus (fraction_of x) (part M clearance))). F.ends s r a c (g-is ∙ m.quiet h);
        raised = λ (h : Over (fraction_of z) b (minus (fraction_of x) (part M clearance))). subst (λ (k : Float). T (lt plus_zero k)) (sym g-is) (m.raised h);
      }
    where
      full : {n : ℕ} {M : Fraction} → 10 ≤ n → ((n ≡ 0) × (M.num ≡ 0)) ⊎ Range 30 30 M → Range 30 30 M
      full h (inl p) = absurd (let e = p.0 in omega arith)
      full h (inr p) = p

  -- ---- the list
  along : (rs : List J.Reading) (n : ℕ) (s : J.State) (b : Ledger) (M : Fraction) → Inv n s b M → n + accepted (told J s rs) ≤ 65536 → Sizes (told J s rs) → Agree (fraction_of d) (fraction_of z) b M (told J s rs) (showed J s rs)
  unfolding of_bits
  along [] n s b M i l w = tt
  along (r ∷ rs) n s b M i l w = go (along rs)
    where
      same : T (J.refused s r) ⊎ (T (not (J.refused s r)) × T (eqb (num_of (J.score r)) 0)) → Inv n (J.next s r) b M
      same (inl q) = kept n s b M r (F.refused_keeps s r q) i
      same (inr q) = elim (w.0 q.0) [
        | inl e ↦ kept n s b M r (F.zero_keeps s r q.0 e) i
        | inr e ↦ absurd (no_zero (num_of (J.score r)) (sized_pos (J.score r) e) q.1)
      ]

      fit : T (not (J.refused s r)) × T (not (eqb (num_of (J.score r)) 0)) → Sized (J.score r)
      fit a = elim (w.0 a.0) [
        | inl q ↦ absurd (clash (eqb (num_of (J.score r)) 0) (eqb_zero (num_of (J.score r)) (zero_num (J.score r) q)) a.1)
        | inr q ↦ q
      ]

      go : ((n : ℕ) (s : J.State) (b : Ledger) (M : Fraction) → Inv n s b M → n + accepted (told J s rs) ≤ 65536 → Sizes (told J s rs) → Agree (fraction_of d) (fraction_of z) b M (told J s rs) (showed J s rs))
          → Agree (fraction_of d) (fraction_of z) b M (told J s (r ∷ rs)) (showed J s (r ∷ rs))
      go ih =
          let x = J.score r in
          let t : Told = record { refused = J.refused s r; score = J.score r } in
          pick_either (counted t) _ _
          (λ (h : T (counted t)).
          let a = counted_told t h in
          let q = fit a in
          let nz : T (not (eq x zero32)) = subst (λ (k : Bool). T (not k)) (sym (eq_is x q.plain)) a.1 in
          let m : suc n + accepted (told J (J.next s r) rs) ≤ 65536 = one_more_lem (J.refused s r) n (accepted (told J (J.next s r) rs)) 65536 a.0 l in
          let n-le : n ≤ 65536 = (let k : n ≤ suc n + accepted (told J (J.next s r) rs) = omega arith in le_trans k m) in
          (judged n s b M r n-le a.0 nz q i, ih (suc n) (J.next s r) (enter (fraction_of d) b (fraction_of x)) (larger M (fraction_of x)) (grown n s b M r n-le a.0 nz q i) m w.1))
          (λ (h : T (not (counted t))). ih n (J.next s r) b M (same (other_told t h)) (left (J.refused s r) n (accepted (told J (J.next s r) rs)) 65536 l) w.1)

  start : (s : J.State) → New d z (thresholder s) → Inv 0 s blank none
  start s w = record {
    track = subst (λ (k : Deviation). Track d 0 k blank) (sym w.primary) (track_fresh d);
    count = w.count;
    z_factor = w.z_factor;
    capped = record { sum = zero-le; squares = zero-le };
    den = zero-lt-suc 0;
    range = inl (refl, refl);
  }

-- ---- demand 3: any list of readings, judged in turn from a new state
pub demand_3 : Theorem
demand_3 J thresholder F d z f D s w rs b =
    let p = z_positive z b.z_above b.z_most in
    let D' = discount_of d f D in
    let z_le = z_most z p b.z_most in
    let few : 0 + accepted (told J s rs) ≤ 65536 = le_trans (le_of_eq (zero-add (accepted (told J s rs)))) (le_trans b.readings (lit≤ tt)) in
    along J thresholder F d z D' (z_plain z p) z_le rs 0 s blank none (start J thresholder F d z D' (z_plain z p) z_le s w) few b.scores
