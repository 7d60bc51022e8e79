use Rattle.std.proofs.Common.{[], ◌∷◌, ◌∙◌, arith, eq-eqb, ne_eqb}
use Rattle.layout.specs.Numbers.{written_of, f32_bytes, bytes4}
use Rattle.layout.specs.States.{encode_graded, joined}
use Rattle.layout.proofs.Pasting.{pasted_all_lem, pasted_whole}
use Rattle.layout.proofs.write_graded.Goals as goal

pub returns-then-out-eq8 : goal.returns-then-out-eq8
unfolding written_of encode_graded joined f32_bytes bytes4
returns-then-out-eq8 c = rw (eq-eqb _ _ c.if-out-eq8.true, c.put_f32-then-out-eq8.ensures, c.put_f32.ensures)
    (pasted_all_lem c.args.out.now 0 (f32_bytes c.args.g.threshold ∷ f32_bytes c.args.g.grade ∷ []) (omega arith) ∙ pasted_whole c.args.out.now (encode_graded c.args.g) c.if-out-eq8.true)

pub returns-else-out-eq8 : goal.returns-else-out-eq8
unfolding written_of
returns-else-out-eq8 c = simp (ne_eqb _ _ c.if-out-eq8.false)
