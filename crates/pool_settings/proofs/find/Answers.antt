use mathlib.Core.Path.{sym, ◌∙◌}
use mathlib.Core.Bool.{true, false}
use native.Mathlib.Omega.{arith}
use Rattle.record_pool.proofs.Locating.{located}
use Rattle.pool_settings.proofs.Steps.{found_there, found_refused}
use Rattle.pool_settings.proofs.find.Goals as goal

pub overflow_add-from : goal.overflow_add-from
overflow_add-from c = record { fits = omega (arith, (located _ _ _ (sym c.locate.ensures ∙ c.in-Ok.is)).room, c.requires) }

pub u32_at-requires : goal.u32_at-requires
u32_at-requires c =
    let s = located _ _ _ (sym c.locate.ensures ∙ c.in-Ok.is) in
    omega (arith, s.size, s.room, c.requires)

pub returns-then-same : goal.returns-then-same
returns-then-same c = found_there _ _ _ _ _ _ _ _ true (sym c.locate.ensures ∙ c.in-Ok.is) c.u32_at.ensures c.f32_from_bits.ensures c.same.ensures c.if-same.true

pub returns-else-same : goal.returns-else-same
returns-else-same c = found_there _ _ _ _ _ _ _ _ false (sym c.locate.ensures ∙ c.in-Ok.is) c.u32_at.ensures c.f32_from_bits.ensures c.same.ensures c.if-same.false

pub returns-in-Err : goal.returns-in-Err
returns-in-Err c = found_refused _ _ _ _ _ (sym c.locate.ensures ∙ c.in-Err.is)
