-- A score that is read is zero or from 2 ^ -30 to 2 ^ 30, and it is the `f32` nearest to its decimal. Assumes nothing.
use mathlib.Core.Path.{◌≡◌}
use mathlib.Core.Bool.{true, false}
use mathlib.Core.Logic.{inl, inr}
use mathlib.Core.List.{List, ◌++◌}
use Prim.Native.Nat.{ℕ, zero, suc, ◌^◌, ◌≤◌, ◌<◌}
use native.Mathlib.Nat.{zero-lt-suc}
use native.Mathlib.Omega.{arith}
use lib.ListN.{length}
use lib.Ieee.{binary32, round}
use Rattle.decimal.proofs.Meaning.{positive_decimal, at_least, at_most, zero_decimal, nearest_decimal}
use Rattle.csv_fields.specs.Contents.{number, before, behind, is_score, score_of}
use Rattle.csv_fields.specs.Sizes.{ZeroOrSized, NearestScores}
use Rattle.csv_fields.proofs.Numbers.{score_lt, scored}

of_32_bits : (n : ℕ) → n < 10 ^ 9 → n < 2 ^ 32
of_32_bits n h = omega arith

decimal_size : (n k : ℕ) → n < 10 ^ 9 → k ≤ 6 → ZeroOrSized (round binary32 false n (10 ^ k))
decimal_size zero k M K = inl (zero_decimal k)
decimal_size (suc n) k M K =
    let small = of_32_bits (suc n) M in
    inr
    (record {
      positive = positive_decimal (suc n) k (zero-lt-suc n) small K;
      least = at_least (suc n) k (zero-lt-suc n) small K;
      most = at_most (suc n) k (zero-lt-suc n) small K M;
    })

pub score_size : (content : List ℕ) → is_score content ≡ true → ZeroOrSized (score_of content)
unfolding score_of
score_size c h = decimal_size (number 0 (before c ++ behind c)) (length (behind c)) (score_lt c h) (scored c h).few

pub score_nearest : NearestScores
unfolding score_of
score_nearest c h = nearest_decimal (number 0 (before c ++ behind c)) (length (behind c)) (of_32_bits (number 0 (before c ++ behind c)) (score_lt c h)) (scored c h).few
