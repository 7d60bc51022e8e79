use Rattle.std.specs.Prelude.{Ok}
use mathlib.Core.Path.{◌∙◌, sym, subst, refl}
use Prim.Native.Nat.{ℕ, ◌≤◌}
use lib.ListN.{take}
use Rattle.types.specs.declared.CorrectionMode.TheVariants.{CONDITIONAL_FORECAST, ANOMALY_IN_SHINGLE}
use Rattle.detection.proofs.Stages.{block_is, start_by, box_is, explained_is, shingle_is}
use Rattle.detection.proofs.Settle.{calm_left, at_explained, at_shingle, at_expected}
use Rattle.descriptor.specs.Lent.{lists_of}
use Rattle.detection.specs.declared.Verdict.TheVariants.{Corrected}
use borrow.Author.Rules.{rules}
use Rattle.detection.proofs.past_noise.Goals as goal

pub block_start-start-requires-clause-block_small : goal.block_start-start-requires-clause-block_small
block_start-start-requires-clause-block_small c = let b = lists_of c.args.b in
    let r = c.args.r in
    let l = c.args.l in
    let k = block_is r l b c.anomaly_block-index.result c.anomaly_block-index.ensures in
    subst (λ (n : ℕ). n ≤ 1024) (sym k) c.requires.branching.block_small

pub returns-then-auto_explained : goal.returns-then-auto_explained
returns-then-auto_explained c =
    let b = lists_of c.args.b in
    let r = c.args.r in
    let l = c.args.l in
    let k = block_is r l b c.anomaly_block-index.result c.anomaly_block-index.ensures in
    let k₀ = c.args.k in
    let u = take r.base_dimension c.box_of-edges.result in
    let st = start_by r l b c.anomaly_block-index.result c.block_start-start.result k c.block_start-start.ensures in
    let bx = box_is r l b c.block_start-start.result u st c.box_of-edges.ensures in
    let x = explained_is r l b k₀.auto_adjust c.auto_explained.result u c.block_start-start.result bx st c.auto_explained.ensures in
    at_explained k₀ r l b c.args.working.threshold c.args.working.grade _ c.args.expected.now c.args.out_high.now c.args.out_low.now _ _ _ (sym x ∙ c.if-auto_explained.true) (calm_left r l b c.args.expected.now c.args.out_high.now c.args.out_low.now (Ok (Corrected c.args.working.threshold CONDITIONAL_FORECAST)) _ refl c.without_row.ensures)

pub returns-then-explained_by_last : goal.returns-then-explained_by_last
returns-then-explained_by_last c =
    let b = lists_of c.args.b in
    let r = c.args.r in
    let l = c.args.l in
    let k = block_is r l b c.anomaly_block-index.result c.anomaly_block-index.ensures in
    let k₀ = c.args.k in
    let u = take r.base_dimension c.box_of-edges.result in
    let st = start_by r l b c.anomaly_block-index.result c.block_start-start.result k c.block_start-start.ensures in
    let bx = box_is r l b c.block_start-start.result u st c.box_of-edges.ensures in
    let x = explained_is r l b k₀.auto_adjust c.auto_explained.result u c.block_start-start.result bx st c.auto_explained.ensures in
    let y = shingle_is r l b c.explained_by_last.result c.args.working.threshold c.explained_by_last.ensures in
    at_shingle k₀ r l b c.args.working.threshold c.args.working.grade _ c.args.expected.now c.args.out_high.now c.args.out_low.now _ _ _ (sym x ∙ c.if-auto_explained.false) (sym y ∙ c.if-explained_by_last.true) (calm_left r l b c.args.expected.now c.args.out_high.now c.args.out_low.now (Ok (Corrected c.args.working.threshold ANOMALY_IN_SHINGLE)) _ refl c.without_row-then-explained_by_last.ensures)

pub expected_exits-requires : goal.expected_exits-requires
expected_exits-requires c =
    let b = lists_of c.args.b in
    let r = c.args.r in
    let l = c.args.l in
    let k = block_is r l b c.anomaly_block-index.result c.anomaly_block-index.ensures in
    record {
      branching = c.requires.branching;
      writing = c.requires.writing;
      index = k;
      start = start_by r l b c.anomaly_block-index.result c.block_start-start.result k c.block_start-start.ensures;
      edges = search rules;
    }

pub returns : goal.returns
returns c =
    let b = lists_of c.args.b in
    let r = c.args.r in
    let l = c.args.l in
    let k = block_is r l b c.anomaly_block-index.result c.anomaly_block-index.ensures in
    let k₀ = c.args.k in
    let u = take r.base_dimension c.box_of-edges.result in
    let st = start_by r l b c.anomaly_block-index.result c.block_start-start.result k c.block_start-start.ensures in
    let bx = box_is r l b c.block_start-start.result u st c.box_of-edges.ensures in
    let x = explained_is r l b k₀.auto_adjust c.auto_explained.result u c.block_start-start.result bx st c.auto_explained.ensures in
    let y = shingle_is r l b c.explained_by_last.result c.args.working.threshold c.explained_by_last.ensures in
    at_expected k₀ r l b c.args.working.threshold c.args.working.grade _ c.args.expected.now c.args.out_high.now c.args.out_low.now _ _ _ (sym x ∙ c.if-auto_explained.false) (sym y ∙ c.if-explained_by_last.false) u bx c.expected_exits.ensures
