-- The drawer numbers of a record pool.
use Rattle.std.specs.Prelude.{ℕ, Bool, ◌&&◌, leb}

-- 1 to 65,535.
unfoldable pub is_number : ℕ → Bool
is_number n = leb 1 n && leb n 65535
