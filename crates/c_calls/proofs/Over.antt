-- What the forest is asked for, over the bytes, and its numbers: the shapes over plain variables. Assumes nothing.
use Rattle.std.specs.Prelude.{Result, Ok, Err, is_ok}
use mathlib.Core.Path.{◌≡◌, refl, sym, ap, ◌∙◌}
use mathlib.Core.Bool.{Bool, true, false, cond, true≢false}
use mathlib.Core.List.{List}
use Prim.Native.Nat.{ℕ}
use lib.Dec.{eqb}
use lib.ListN.{length}
use borrow.Author.Tests.{eqb-true}
use Rattle.types.specs.Refusals.{number}
use Rattle.types.specs.declared.Refusal.{Refusal}
use Rattle.types.specs.declared.Refusal.TheVariants.{Range, Length}
use Rattle.descriptor.proofs.Bounds.{both}
use Rattle.layout.specs.Places.{state_length, reading_length, last_length}
use Rattle.predictorcorrector.specs.State.{standing}
use Rattle.layout.specs.Chain.{decode_state}
use Rattle.layout.specs.Readings.{decode_reading, decode_last}
use Rattle.layout.specs.Call.{codes_ok, slices_ok, sizes_fit, read_call}
use Rattle.layout.specs.Left.{left}
use Rattle.calls.specs.declared.Asked.{Asked}
use Rattle.c_calls.specs.Forest.{asked_by, asked_over, numbered, noted_by, asked_of_forest}
use Rattle.layout.specs.declared.CallRead.{CallRead}

-- What is asked for goes into a slice of five.
by_tests : (c s f : Bool) (k : Result CallRead Refusal) (a : Asked) → asked_by (cond c (cond s k (cond f (Err Length) (Err Range))) (Err Range)) ≡ Ok a → s ≡ true
unfolding asked_by
by_tests true true f k a h = refl
by_tests true false true k a h = absurd (true≢false (ap is_ok (sym h)))
by_tests true false false k a h = absurd (true≢false (ap is_ok (sym h)))
by_tests false s f k a h = absurd (true≢false (ap is_ok (sym h)))

out_long : (state reading last : ℕ) (out : Bool) → slices_ok state reading last out ≡ true → out ≡ true
unfolding slices_ok
out_long state reading last out h =
    let p = both (eqb state state_length) _ h in
    let q = both (eqb reading reading_length) _ p.1 in
    (both (eqb last last_length) out q.1).1

module _ (state reading last out : List ℕ) (x : Result Asked Refusal) (e : x ≡ asked_over state reading last (length out)) where
  pub five_long : (a : Asked) → x ≡ Ok a → length out ≡ 5
  unfolding asked_over read_call
  five_long a d =
      let s = by_tests (codes_ok state reading last) (slices_ok (length state) (length reading) (length last) (eqb (length out) 5)) (sizes_fit state reading)
      (Ok (record { standing = standing (decode_state state); reading = decode_reading reading; last = decode_last last })) a (sym e ∙ d) in
      eqb-true (length out) 5 (out_long (length state) (length reading) (length last) (eqb (length out) 5) s)

  through : noted_by x out ≡ asked_of_forest state reading last out
  unfolding asked_of_forest
  through = ap (λ (a : Result Asked Refusal). noted_by a out) e

  pub asked_placed : (a : Asked) (out' : List ℕ) → x ≡ Ok a → out' ≡ numbered a → left 0 out' ≡ asked_of_forest state reading last out
  unfolding noted_by
  asked_placed a out' d w =
      let done : left 0 out' ≡ noted_by x out = ap (left 0) w ∙ rw d in
      done ∙ through

  pub asked_refused : (why : Refusal) (n : ℕ) → x ≡ Err why → n ≡ number why → left n out ≡ asked_of_forest state reading last out
  unfolding noted_by
  asked_refused why n d h =
      let kept : left n out ≡ noted_by x out = rw (h, d) in
      kept ∙ through
