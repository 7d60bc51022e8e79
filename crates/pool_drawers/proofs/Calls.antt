-- The calls against their definitions. Assumes nothing.
use Rattle.std.specs.Prelude.{Option, Some, None, is_some, Result, Ok, Err}
use Rattle.std.specs.Option.{unwrap_or}
use mathlib.Core.Path.{◌≡◌, refl, sym, ap, ap₂, ◌∙◌}
use mathlib.Core.Bool.{Bool, true, false, cond, ◌&&◌, true≢false}
use mathlib.Core.List.{List, ◌∷◌, ◌++◌}
use Prim.Native.Nat.{ℕ, zero, suc, ◌+◌, ◌-◌, ◌≤◌}
use native.Mathlib.Nat.{le_antisymm}
use native.Mathlib.Numerals.{add-one}
use native.Mathlib.Omega.{arith}
use lib.Dec.{eqb, leb, lit≤}
use lib.Ieee.{Float}
use lib.ListN.{length, take, drop, replicate, length-replicate, length-take, length-drop}
use borrow.Author.Tests.{eq-eqb, ne_eqb, lt-ltb}
use Rattle.types.specs.Refusals.{number}
use Rattle.types.specs.declared.Refusal.{Refusal}
use Rattle.predictorcorrector.specs.declared.PredictorCorrector.{PredictorCorrector}
use Rattle.predictorcorrector.specs.State.{new}
use Rattle.layout.specs.Places.{state_length}
use Rattle.layout.specs.Chain.{encode_state_over}
use Rattle.layout.specs.Left.{Left, left}
use Rattle.layout.specs.Numbers.{pasted, written_of}
use Rattle.stored_state.proofs.Back.{state_length_lem}
use Rattle.c_chain.proofs.Steps.{refused_number, made_refused, made_range, made_done}
use Rattle.c_chain.specs.States.{chain_made}
use Rattle.record_pool.specs.Pool.{place, count_of, first_used, first_free, next_at, rules_ok, locate, vacancy, numbers_of, listing, with_header, with_next, with_record, with_state, opened, unlinked, removed}
use Rattle.pool_links.specs.Links as Links
use Rattle.pool_links.specs.declared.Header.{Header}
use Rattle.pool_links.specs.declared.Link.{Link}
use Rattle.record_pool.specs.declared.Slot.{Slot}
use Rattle.record_pool.proofs.Locating.{located, vacant}
use Rattle.record_pool.proofs.Writes.{header_length, record_length, record_state}
use Rattle.record_pool.proofs.Putting.{part_put, state_over_opened}
use Rattle.pool_drawers.specs.Drawers.{behind, laid_records, laid_out, lay_out, opened_with, open_by, opening, remove_by, remove, list}
use Rattle.pool_drawers.specs.Steps.{Held, Spare}

-- ---- zeros.
take_zeros : (n m : ℕ) → n ≤ m → take n (replicate {A = ℕ} m 0) ≡ replicate n 0
take_zeros zero m h = refl
take_zeros (suc n) zero h = absurd (omega arith)
take_zeros (suc n) (suc m) h = ap (λ (l : List ℕ). 0 ∷ l) (take_zeros n m (omega arith))

drop_zeros : (n m k : ℕ) → m ≡ n + k → drop n (replicate {A = ℕ} m 0) ≡ replicate k 0
drop_zeros zero m k e = let same : m ≡ k = omega arith in ap (λ (i : ℕ). replicate {A = ℕ} i 0) same
drop_zeros (suc n) zero k e = absurd (omega arith)
drop_zeros (suc n) (suc m) k e = drop_zeros n m k (omega arith)

-- ---- removing.
pub unlink_first : (xs a : List ℕ) (s : Slot) (index front : ℕ) (h : Header) → Held xs s → index ≡ s.index → front ≡ s.front → h ≡ Links.removed index front s.next s.count s.used
    → s.front ≡ 0 → a ≡ with_header xs h.count h.used h.free → a ≡ unlinked xs s.front s.index
unfolding unlinked
unlink_first xs a s index front h k ei ef eh z ea =
    ea ∙ ap (λ (h : Header). with_header xs h.count h.used h.free) eh
    ∙ ap (λ (b : Bool). with_header xs (s.count - 1) (cond b s.next s.used) index) (eq-eqb front 0 (ef ∙ z))
    ∙ (λ t. with_header xs (k.placed.count t - 1) (k.placed.next t) (ei t))
    ∙ sym (ap (λ (b : Bool). cond b (with_header xs (count_of xs - 1) (next_at xs s.index) s.index)
    (with_next (with_header xs (count_of xs - 1) (first_used xs) s.index) s.front (next_at xs s.index))) (eq-eqb s.front 0 z))

pub unlink_later : (xs a b : List ℕ) (s : Slot) (index front : ℕ) (h : Header) → Held xs s → index ≡ s.index → front ≡ s.front
    → h ≡ Links.removed index front s.next s.count s.used → (s.front ≡ 0 → ⊥) → a ≡ with_header xs h.count h.used h.free
    → b ≡ with_next a s.front s.next → b ≡ unlinked xs s.front s.index
unfolding unlinked
unlink_later xs a b s index front h k ei ef eh z ea eb =
    eb ∙ ap (λ (l : List ℕ). with_next l s.front s.next) (ea ∙ ap (λ (h : Header). with_header xs h.count h.used h.free) eh
    ∙ ap (λ (b : Bool). with_header xs (s.count - 1) (cond b s.next s.used) index) (ne_eqb front 0 (λ q. z (sym ef ∙ q))))
    ∙ (λ t. with_next (with_header xs (k.placed.count t - 1) (k.placed.used t) (ei t)) s.front (k.placed.next t))
    ∙ sym (ap (λ (b : Bool). cond b (with_header xs (count_of xs - 1) (next_at xs s.index) s.index)
    (with_next (with_header xs (count_of xs - 1) (first_used xs) s.index) s.front (next_at xs s.index))) (ne_eqb s.front 0 z))

pub taken_out : (xs a b : List ℕ) (s : Slot) (l : Link) → Held xs s → a ≡ unlinked xs s.front s.index → l ≡ Links.removed_link s.free
    → b ≡ with_record a s.index l.next l.number (replicate 2040 0) → b ≡ removed xs s.front s.index
unfolding removed
taken_out xs a b s l h ea el eb =
    eb ∙ (λ t. with_record (ea t) s.index (el t).next (el t).number (replicate 2040 0))
    ∙ ap (λ (f : ℕ). with_record (unlinked xs s.front s.index) s.index f 0 (replicate 2040 0)) h.placed.free

pub held : (xs : List ℕ) (d : ℕ) (r : Result Slot Refusal) (s : Slot) → r ≡ locate xs d → r ≡ Ok s → Held xs s
held xs d r s e q =
    let t = located xs d s (sym e ∙ q) in
    let f = t.same in
    record {
      placed = record {
        size = t.size;
        low = t.low;
        high = t.high;
        front_high = t.front;
        next = ap (λ (s : Slot). s.next) f ∙ ap (next_at xs) (sym (ap (λ (s : Slot). s.index) f));
        count = ap (λ (s : Slot). s.count) f;
        used = ap (λ (s : Slot). s.used) f;
        free = ap (λ (s : Slot). s.free) f;
      };
      some = t.some;
    }

pub remove_done : (xs out : List ℕ) (d : ℕ) (r : Result Slot Refusal) (s : Slot) → r ≡ locate xs d → r ≡ Ok s → out ≡ removed xs s.front s.index → left 0 out ≡ remove d xs
unfolding remove
remove_done xs out d r s e q eo = ap (left 0) eo ∙ sym (ap (λ (l : Result Slot Refusal). remove_by l xs) (sym e ∙ q))

pub remove_refused : (xs : List ℕ) (d n : ℕ) (r : Result Slot Refusal) (why : Refusal) → r ≡ locate xs d → r ≡ Err why → n ≡ number why → left n xs ≡ remove d xs
unfolding remove
remove_refused xs d n r why e q en = ap (λ (m : ℕ). left m xs) en ∙ sym (ap (λ (l : Result Slot Refusal). remove_by l xs) (sym e ∙ q))

-- ---- laying out.
pub laid_more : (xs out out' : List ℕ) (k next : ℕ) → out ≡ laid_records k xs → next ≡ behind (k + 1) → out' ≡ with_next out (k + 1) next → out' ≡ laid_records (k + 1) xs
unfolding laid_records
laid_more xs out out' k next e en eo = rw add-one (eo ∙ (λ t. with_next (e t) (add-one k t) ((en ∙ ap behind (add-one k)) t)))

pub laid_all : (xs out : List ℕ) (k : ℕ) → k ≤ 30 → 30 ≤ k → out ≡ laid_records k xs → out ≡ laid_records 30 xs
laid_all xs out k a b e = e ∙ ap (λ (n : ℕ). laid_records n xs) (le_antisymm a b)

pub lay_done : (xs a b c : List ℕ) → length xs ≡ 61472 → a ≡ replicate (length xs) 0 → b ≡ with_header a 0 0 1 → c ≡ laid_records 30 b → left 0 c ≡ lay_out xs
unfolding lay_out laid_out
lay_done xs a b c size ea eb ec =
    (λ t. left 0 ((ec ∙ ap (laid_records 30) (eb ∙ ap (λ (l : List ℕ). with_header l 0 0 1) (ea ∙ ap (λ (n : ℕ). replicate {A = ℕ} n 0) size))) t))
    ∙ sym (ap (λ (t : Bool). cond t (left 0 laid_out) (left 13 xs)) (eq-eqb (length xs) 61472 size))

pub lay_refused : (xs : List ℕ) → (length xs ≡ 61472 → ⊥) → left 13 xs ≡ lay_out xs
unfolding lay_out
lay_refused xs n = sym (ap (λ (t : Bool). cond t (left 0 laid_out) (left 13 xs)) (ne_eqb (length xs) 61472 n))

-- ---- opening.
pub taken_in : (xs a b : List ℕ) (d : ℕ) (s : Slot) (index : ℕ) (h : Header) (l : Link) → Spare xs s → index ≡ s.index → h ≡ Links.opened index s.next s.count
    → a ≡ with_header xs h.count h.used h.free → l ≡ Links.opened_link s.used d
    → b ≡ with_record a s.index l.next l.number (replicate 2040 0) → b ≡ opened xs d (replicate 2040 0)
unfolding opened Links.one_more
taken_in xs a b d s index h l k ei eh ea el eb =
    let more : Links.one_more s.count ≡ count_of xs + 1 = rw (lt-ltb s.count 30 (omega (arith, k.fewer))) (ap (λ (n : ℕ). n + 1) k.placed.count) in
    eb ∙ (λ t. with_record (ea t) s.index (el t).next (el t).number (replicate 2040 0))
    ∙ ap (λ (h : Header). with_record (with_header xs h.count h.used h.free) s.index s.used d (replicate 2040 0)) eh
    ∙ (λ t. with_record (with_header xs (more t) ((ei ∙ k.first) t) ((k.placed.next ∙ ap (next_at xs) k.first) t)) (k.first t) (k.placed.used t) d (replicate 2040 0))

pub spare : (xs : List ℕ) (d : ℕ) (r : Result Slot Refusal) (s : Slot) → r ≡ vacancy xs d → r ≡ Ok s → Spare xs s
spare xs d r s e q =
    let t = vacant xs d s (sym e ∙ q) in
    let f = t.same in
    let front : s.front ≡ 0 = ap (λ (s : Slot). s.front) f in
    record {
      placed = record {
        size = t.size;
        low = t.low;
        high = t.high;
        front_high = omega arith;
        next = ap (λ (s : Slot). s.next) f ∙ ap (next_at xs) (sym (ap (λ (s : Slot). s.index) f));
        count = ap (λ (s : Slot). s.count) f;
        used = ap (λ (s : Slot). s.used) f;
        free = ap (λ (s : Slot). s.free) f;
      };
      fewer = t.fewer;
      first = ap (λ (s : Slot). s.index) f;
    }

pub open_room : (xs a : List ℕ) (d : ℕ) (r : Result Slot Refusal) (s : Slot) → r ≡ vacancy xs d → r ≡ Ok s → a ≡ opened xs d (replicate 2040 0)
    → (length a ≡ 61472) × (s.state + state_length ≤ 61472)
unfolding opened
open_room xs a d r s e q ea =
    let t = vacant xs d s (sym e ∙ q) in
    let i : s.index ≡ first_free xs = ap (λ (s : Slot). s.index) t.same in
    let low = t.low in
    let high = t.high in
    let room = t.room in (
      ap length ea ∙ record_length (with_header xs (count_of xs + 1) (first_free xs) (next_at xs (first_free xs))) (first_free xs) (first_used xs) d (replicate 2040 0)
          (header_length xs (count_of xs + 1) (first_free xs) (next_at xs (first_free xs)) (omega (arith, t.size)) ∙ t.size) (omega arith) (omega arith) (length-replicate {A = ℕ} 2040 0),
      omega arith,
    )

pub open_refused : (xs : List ℕ) (d n adjust base : ℕ) (discount : Float) (r : Result Slot Refusal) (why : Refusal) → r ≡ vacancy xs d → r ≡ Err why → n ≡ number why
    → left n xs ≡ opening d discount adjust base xs
unfolding opening
open_refused xs d n adjust base discount r why e q en =
    ap (λ (m : ℕ). left m xs) en
    ∙ sym (ap (λ (l : Result Slot Refusal). open_by l (chain_made (new discount (eqb adjust 1) base) adjust (replicate state_length 0)) d xs) (sym e ∙ q))

-- The state's bytes of an opened record are zero, and a state put over them is the record opened with it.
opened_zeros : (xs : List ℕ) (d : ℕ) → length xs ≡ 61472 → 1 ≤ first_free xs → first_free xs ≤ 30
    → take state_length (drop (place (first_free xs) + 8) (opened xs d (replicate 2040 0))) ≡ replicate state_length 0
unfolding opened
opened_zeros xs d size low high =
    record_state (with_header xs (count_of xs + 1) (first_free xs) (next_at xs (first_free xs))) (first_free xs) (first_used xs) d (replicate 2040 0)
    (header_length xs (count_of xs + 1) (first_free xs) (next_at xs (first_free xs)) (omega arith) ∙ size) low high (length-replicate {A = ℕ} 2040 0)
    ∙ take_zeros 1310 2040 (lit≤ tt)

over_opened : (xs : List ℕ) (d : ℕ) (zs : List ℕ) → length xs ≡ 61472 → 1 ≤ first_free xs → first_free xs ≤ 30 → length zs ≡ state_length
    → pasted (opened xs d (replicate 2040 0)) (place (first_free xs) + 8) zs ≡ opened xs d (zs ++ replicate 730 0)
unfolding with_state
over_opened xs d zs size low high long =
    state_over_opened xs d (replicate 2040 0) zs size low high (length-replicate {A = ℕ} 2040 0) (omega arith)
    ∙ ap (λ (l : List ℕ). opened xs d (zs ++ l)) (ap (λ (n : ℕ). drop n (replicate {A = ℕ} 2040 0)) long ∙ drop_zeros 1310 2040 730 refl)

pub state_put : (xs ys : List ℕ) (at n : ℕ) (s : PredictorCorrector) → length xs ≡ 61472 → at + state_length ≤ 61472 → n ≡ state_length
    → ys ≡ written_of state_length (take n (drop at xs)) (encode_state_over (take n (drop at xs)) s)
    → take at xs ++ (ys ++ drop n (drop at xs)) ≡ pasted xs at (encode_state_over (take state_length (drop at xs)) s)
unfolding written_of
state_put xs ys at n s size room e ey =
    let ps : List ℕ = take state_length (drop at xs) in
    let long : length ps ≡ state_length = omega (arith, length-take state_length (drop at xs), length-drop at xs) in
    let is : ys ≡ encode_state_over ps s =
    ey ∙ ap (λ (m : ℕ). written_of state_length (take m (drop at xs)) (encode_state_over (take m (drop at xs)) s)) e
    ∙ ap (λ (b : Bool). cond b (encode_state_over ps s) ps) (eq-eqb (length ps) state_length long) in
    part_put xs ys at n (ap length is ∙ state_length_lem ps s long ∙ sym e) ∙ ap (pasted xs at) is

module _ (xs a : List ℕ) (d adjust base : ℕ) (discount : Float) (r : Result Slot Refusal) (s : Slot) (e : r ≡ vacancy xs d) (q : r ≡ Ok s) where
  abbrev zeros : List ℕ
  zeros = replicate state_length 0

  abbrev made : Result PredictorCorrector Refusal
  made = new discount (eqb adjust 1) base

  abbrev asked : Left
  asked = chain_made made adjust zeros

  by : opening d discount adjust base xs ≡ opened_with asked d xs
  unfolding opening
  by = ap (λ (l : Result Slot Refusal). open_by l asked d xs) (sym e ∙ q)

  answered_by : (n : ℕ) (ys : List ℕ) → left n ys ≡ asked → opened_with asked d xs ≡ opened_with (left n ys) d xs
  answered_by n ys h = ap (λ (l : Left). opened_with l d xs) (sym h)

  pub open_unmade : (why : Refusal) (n : ℕ) → made ≡ Err why → n ≡ number why → left n xs ≡ opening d discount adjust base xs
  open_unmade why n m w =
      let some : eqb n 0 ≡ false = ap (λ (k : ℕ). eqb k 0) w ∙ refused_number why in
      sym (by ∙ answered_by n zeros (made_refused made adjust zeros why n m w)
      ∙ ap (λ (b : Bool). cond b (left 0 (opened xs d (zeros ++ replicate 730 0))) (left n xs)) some)

  module _ (t : PredictorCorrector) (m : made ≡ Ok t) where
    pub open_range : leb adjust 1 ≡ false → left 2 xs ≡ opening d discount adjust base xs
    open_range l = sym (by ∙ answered_by 2 zeros (made_range made adjust zeros t m l))

    pub open_done : (out : List ℕ) → leb adjust 1 ≡ true → a ≡ opened xs d (replicate 2040 0)
        → out ≡ pasted a s.state (encode_state_over (take state_length (drop s.state a)) t) → left 0 out ≡ opening d discount adjust base xs
    unfolding written_of
    open_done out l ea eo =
        let v = vacant xs d s (sym e ∙ q) in
        let i : s.index ≡ first_free xs = ap (λ (s : Slot). s.index) v.same in
        let at : s.state ≡ place (first_free xs) + 8 = v.place ∙ ap (λ (n : ℕ). place n + 8) i in
        let low = v.low in
        let high = v.high in
        let long : length zeros ≡ state_length = length-replicate {A = ℕ} state_length 0 in
        let state : take state_length (drop s.state a) ≡ zeros =
        ap₂ (λ (n : ℕ) (l : List ℕ). take state_length (drop n l)) at ea ∙ opened_zeros xs d v.size (omega arith) (omega arith) in
        let zs : List ℕ = encode_state_over zeros t in
        let size : length zs ≡ state_length = state_length_lem zeros t long in
        let told : left 0 zs ≡ asked =
        made_done made adjust zeros t m l zeros zs (eq-eqb (length zeros) state_length long) (ap (λ (n : ℕ). replicate {A = ℕ} n 0) (sym long))
        (sym (ap (λ (b : Bool). cond b zs zeros) (eq-eqb (length zeros) state_length long))) in
        let whole : out ≡ opened xs d (zs ++ replicate 730 0) =
        eo ∙ (λ k. pasted (ea k) (at k) (encode_state_over (state k) t))
        ∙ over_opened xs d zs v.size (omega arith) (omega arith) size in
        ap (left 0) whole ∙ sym (by ∙ answered_by 0 zs told)

-- ---- listing.
pub list_done : (xs out out' ns : List ℕ) → length out ≡ 30 → Some ns ≡ listing xs → out' ≡ ns → left 0 out' ≡ list xs out
unfolding list listing
list_done xs out out' ns l e eo =
    go (rules_ok xs) e ∙ sym (ap (λ (a : Bool). cond (a && rules_ok xs) (left 0 (numbers_of xs)) (left 13 out)) (eq-eqb (length out) 30 l))
  where
    go : (b : Bool) → Some ns ≡ cond b (Some (numbers_of xs)) None → left 0 out' ≡ cond b (left 0 (numbers_of xs)) (left 13 out)
    go true q = ap (left 0) (eo ∙ ap (λ (o : Option (List ℕ)). unwrap_or o ns) q)
    go false q = absurd (true≢false (ap is_some q))

neither : (a : Bool) (l m : Left) → cond (a && false) l m ≡ m
neither true l m = refl
neither false l m = refl

pub list_broken : (xs out : List ℕ) → None ≡ listing xs → left 13 out ≡ list xs out
unfolding list listing
list_broken xs out e = go (rules_ok xs) e
  where
    go : (b : Bool) → None ≡ cond b (Some (numbers_of xs)) None → left 13 out ≡ cond (eqb (length out) 30 && b) (left 0 (numbers_of xs)) (left 13 out)
    go true q = absurd (true≢false (sym (ap is_some q)))
    go false q = sym (neither (eqb (length out) 30) (left 0 (numbers_of xs)) (left 13 out))

pub list_short : (xs out : List ℕ) → (length out ≡ 30 → ⊥) → left 13 out ≡ list xs out
unfolding list
list_short xs out n = sym (ap (λ (a : Bool). cond (a && rules_ok xs) (left 0 (numbers_of xs)) (left 13 out)) (ne_eqb (length out) 30 n))
