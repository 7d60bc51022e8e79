-- The numbers that deviation.rs and document 01's table write.
use Rattle.std.specs.Prelude.{ℕ}
pub use Rattle.ieee.specs.F64.{zero64, one64}

-- The largest count, and the longest run, that refusal 6 lets pass.
abbrev pub count_limit : ℕ
count_limit = 16777215
