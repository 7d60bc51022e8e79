-- What this crate's private functions promise each other. A reader need not read them: no public contract mentions them.
use Rattle.std.specs.Prelude.{◌≡◌, ℕ, ◌+◌, ◌-◌, ◌*◌, ◌/◌, ◌^◌, ◌<◌, ◌≤◌, Bool, false, cond, from_bits, Float}
use Rattle.std.specs.Float.Ieee.Exact.{HasValue}
use Rattle.std.specs.Float.{binary32, binary64}
use Rattle.ieee.specs.Round.{narrow, floor, sqrt}

-- A pattern's magnitude a is outside the normal range of an `f32`.
abbrev pub Outside : ℕ → Type 0
Outside a = 897 * 2 ^ 52 ≤ a → 1151 * 2 ^ 52 ≤ a

-- r is the magnitude of the pattern of `narrow`, for a pattern's magnitude a, whatever the sign.
abbrev pub Narrowed : ℕ → ℕ → Type 0
Narrowed a r = (s : Bool) → from_bits binary32 (cond s (2 ^ 31) 0 + r) ≡ narrow (from_bits binary64 (cond s (2 ^ 63) 0 + a))

-- r is the magnitude of the pattern of `floor`, for a pattern's magnitude a and the sign's bit `up`.
abbrev pub Floored : ℕ → ℕ → ℕ → Type 0
Floored a up r = (s : Bool) → cond s 1 0 ≡ up → from_bits binary32 (cond s (2 ^ 31) 0 + r) ≡ floor (from_bits binary32 (cond s (2 ^ 31) 0 + a))

-- r is the pattern of the root of q * 2 ^ j / 2 ^ 1126.
abbrev pub Rooted : ℕ → ℕ → ℕ → Type 0
Rooted q j r = (x : Float) → HasValue x false (q * 2 ^ j) (2 ^ 1126) → from_bits binary64 r ≡ sqrt x

-- r is the whole number nearest to the root of w * 2 ^ 52: (r - 1) * r < w * 2 ^ 52 ≤ r * (r + 1).
pub record NearRoot (w r : ℕ) : Type 0 where
  pub low : 1 ≤ r
  pub high : r < 2 ^ 54
  pub over : ((r - 1) * (r - 1) + (r - 1)) / 2 ^ 52 < w
  pub under : w ≤ (r * r + r) / 2 ^ 52
