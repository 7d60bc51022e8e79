use Rattle.std.proofs.Common.{cond, ap, ◌∙◌}
use lib.Ieee.{Float}
use Rattle.divector.specs.DiVector.{After, all_alike, normalized, normalize_into}
use Rattle.divector.proofs.Laws.{changed_high, changed_low}
use Rattle.scoring.proofs.write_raised.Goals as goal

pub returns : goal.returns
unfolding normalize_into
returns c =
    let a = c.args in
    let f = c.f32_to_f64_with_nan.ensures in
    let t = all_alike a.high.now a.low.now a.out_high.now a.out_low.now in
    record {
      point_is = c.write_row.ensures;
      highs =
          ap (λ (x : After). x.high) c.normalize_into.ensures
          ∙ changed_high t a.out_high.now a.out_low.now _ _
          ∙ ap (λ (x : Float). cond t (normalized x a.high.now a.low.now a.high.now) a.out_high.now) f;
      lows =
          ap (λ (x : After). x.low) c.normalize_into.ensures
          ∙ changed_low t a.out_high.now a.out_low.now _ _
          ∙ ap (λ (x : Float). cond t (normalized x a.high.now a.low.now a.low.now) a.out_low.now) f;
    }
