use Rattle.std.specs.Prelude.{Ok}
use mathlib.Core.Path.{◌≡◌, ◌∙◌, sym, ap, refl}
use native.Mathlib.Omega.{arith}
use lib.ListN.{length, take}
use lib.Seq.{length-take-le}
use mir.Syntax.{w32}
use mir.ValLaws.{to_z-of_z}
use Rattle.types.specs.declared.CorrectionMode.TheVariants.{FORECAST}
use Rattle.detection.proofs.ByState.{row_front}
use Rattle.detection.proofs.ExpectedRow.{within_is, newest_is}
use Rattle.detection.proofs.Settle.{calm_left, drift_is, drift_left, raised_left, at_forecast, at_drift, at_raised, buffers_are}
use Rattle.descriptor.specs.Lent.{lists_of}
use Rattle.detection.specs.declared.Verdict.TheVariants.{Corrected}
use Rattle.detection.proofs.expected_exits.Goals as goal

pub returns-then-within_expected : goal.returns-then-within_expected
returns-then-within_expected c =
    let a = c.args in
    let b = lists_of a.b in
    let r = a.r in
    let l = a.l in
    let f = c.requires.branching in
    let at = c.requires.start in
    let u = take r.base_dimension a.block.edges in
    let full = c.requires.edges in
    let most = f.base_most in
    let wide : length u ≡ r.base_dimension = length-take-le r.base_dimension a.block.edges (omega arith) in
    let q = within_is r l b f a.block.start at c.expected_row-row.result c.expected_row-row.ensures u c.within_expected.result wide c.within_expected.ensures in
    at_forecast a.k r l b u a.working.threshold a.working.grade _ a.expected.now a.out_high.now a.out_low.now _ _ _ (sym q ∙ c.if-within_expected.true)
    (calm_left r l b a.expected.now a.out_high.now a.out_low.now (Ok (Corrected a.working.threshold FORECAST)) _ refl c.without_row.ensures)

pub returns-then-is_drift : goal.returns-then-is_drift
returns-then-is_drift c =
    let a = c.args in
    let b = lists_of a.b in
    let r = a.r in
    let l = a.l in
    let f = c.requires.branching in
    let at = c.requires.start in
    let u = take r.base_dimension a.block.edges in
    let full = c.requires.edges in
    let most = f.base_most in
    let wide : length u ≡ r.base_dimension = length-take-le r.base_dimension a.block.edges (omega arith) in
    let q = within_is r l b f a.block.start at c.expected_row-row.result c.expected_row-row.ensures u c.within_expected.result wide c.within_expected.ensures in
    let row = newest_is r l b f a.block.start at c.expected_row-row.result c.expected_row-row.ensures c.newest_with-newest_expected.result c.newest_with-newest_expected.ensures in
    let d = drift_is a.k r l b a.working.threshold c.is_drift.result _ (ap (take r.base_dimension) row ∙ row_front r l b f) c.is_drift.ensures in
    at_drift a.k r l b u a.working.threshold a.working.grade _ a.expected.now a.out_high.now a.out_low.now _ _ _ (sym q ∙ c.if-within_expected.false) (sym d ∙ c.if-is_drift.true) (drift_left r l b a.expected.now a.out_high.now a.out_low.now a.working.threshold c.newest_with-newest_expected.result row)

pub returns : goal.returns
returns c =
    let a = c.args in
    let b = lists_of a.b in
    let r = a.r in
    let l = a.l in
    let f = c.requires.branching in
    let at = c.requires.start in
    let u = take r.base_dimension a.block.edges in
    let full = c.requires.edges in
    let most = f.base_most in
    let wide : length u ≡ r.base_dimension = length-take-le r.base_dimension a.block.edges (omega arith) in
    let q = within_is r l b f a.block.start at c.expected_row-row.result c.expected_row-row.ensures u c.within_expected.result wide c.within_expected.ensures in
    let row = newest_is r l b f a.block.start at c.expected_row-row.result c.expected_row-row.ensures c.newest_with-newest_expected.result c.newest_with-newest_expected.ensures in
    let d = drift_is a.k r l b a.working.threshold c.is_drift.result _ (ap (take r.base_dimension) row ∙ row_front r l b f) c.is_drift.ensures in
    let n = to_z-of_z w32 c.relative_index.result (record { sfits = c.relative_index.type_inv }) ∙ c.relative_index.ensures in
    let p = buffers_are r l b a.block.start c.expected_row-row.result at c.expected_row-row.ensures a.expected.now a.out_high.now a.out_low.now _ _ _ f c.requires.writing c.write_raised.ensures in
    at_raised a.k r l b u a.working.threshold a.working.grade _ a.expected.now a.out_high.now a.out_low.now _ _ _ (sym q ∙ c.if-within_expected.false) (sym d ∙ c.if-is_drift.false)
    (raised_left r l b a.expected.now a.out_high.now a.out_low.now a.working.threshold a.working.grade _ c.newest_with-newest_expected.result a.block.index row c.requires.index n _ _ _ p)
