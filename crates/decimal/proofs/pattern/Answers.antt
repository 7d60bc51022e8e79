-- `decimal::pattern` meets its contract: the loops double a while it is below 2 ^ 23 units; `proofs/Rounded.antt` has the end. Assumes nothing.
use Prim.Native.Nat.{ℕ, ◌-◌, ◌*◌, ◌≤◌, ◌<◌}
use native.Mathlib.Omega.{arith}
use Rattle.decimal.proofs.Rounded.{field_above, doubled_by, pattern_is}
use Rattle.decimal.proofs.pattern.Goals as goal
use Rattle.decimal.proofs.pattern.Invariants.{Going}

above : (n ten a field : ℕ) → 1 ≤ n → ten ≤ 1_000_000 → Going n ten a field → a < ten * 256 * 0x80_0000 → 98 < field
above n ten a field N T g h = field_above n ten a field N T g.0 g.1 h

lower : (ten a : ℕ) → a < ten * 256 * 0x8000 → a < ten * 256 * 0x80_0000
lower ten a h = omega arith

eightfold : (n ten a field : ℕ) → 98 < field → Going n ten a field → a < ten * 256 * 0x8000 → Going n ten (a * 256) (field - 8)
eightfold n ten a field F g h = (omega (arith, g.0), doubled_by 8 n a field (omega arith) g.0 g.1, omega arith)

twofold : (n ten a field : ℕ) → 98 < field → Going n ten a field → a < ten * 256 * 0x80_0000 → Going n ten (a * 2) (field - 1)
twofold n ten a field F g h = (omega (arith, g.0), doubled_by 1 n a field (omega arith) g.0 g.1, omega arith)

pub overflow_sub-field : goal.overflow_sub-field
overflow_sub-field c = omega (arith, above c.args.n c.args.ten c.loop-a.a c.loop-a.field c.requires.n_nonzero c.requires.ten_bound c.loop-a.invariant (lower c.args.ten c.loop-a.a c.loop-a-test.true))

pub loop-a-preserved : goal.loop-a-preserved
loop-a-preserved c = eightfold c.args.n c.args.ten c.loop-a.a c.loop-a.field (above c.args.n c.args.ten c.loop-a.a c.loop-a.field c.requires.n_nonzero c.requires.ten_bound c.loop-a.invariant (lower c.args.ten c.loop-a.a c.loop-a-test.true)) c.loop-a.invariant c.loop-a-test.true

pub loop-a-2-preserved : goal.loop-a-2-preserved
loop-a-2-preserved c = twofold c.args.n c.args.ten c.loop-a-2.a c.loop-a-2.field (above c.args.n c.args.ten c.loop-a-2.a c.loop-a-2.field c.requires.n_nonzero c.requires.ten_bound c.loop-a-2.invariant c.loop-a-2-test.true) c.loop-a-2.invariant c.loop-a-2-test.true

pub returns-clause-value : goal.returns-clause-value
returns-clause-value c = rw c.to_nearest.ensures (pattern_is c.args.n c.args.ten c.loop-a-2.a c.loop-a-2.field c.requires.n_nonzero c.requires.ten_nonzero c.loop-a-2.invariant.0 c.loop-a-2.invariant.1 c.loop-a-2-test.false c.loop-a-2.invariant.2)
