-- The threshold against the ledger's, in whole numbers over one unit: what the roundings add up to. Assumes nothing.
use mathlib.Core.Path.{◌≡◌, subst, subst₂}
use Prim.Native.Nat.{ℕ, ◌+◌, ◌-◌, ◌*◌, ◌^◌, ◌≤◌, ◌<◌}
use native.Mathlib.Nat.{le_trans, mul_comm, mul-le-mul_right, mul-le-mul_left, mul-le-mul, sub-le, add-mul}
use native.Mathlib.Omega.{arith}
use lib.Dec.{lit≤}
use lib.Pow.{pow_pos}
use Rattle.ledger.proofs.Absolute.{Off, off_trans, off_weaken, off_plus, off_times, off_less, off_cancel, near_off, sq_le, final_low, final_high}

-- Every number is in units of 1 / D, and of 1 / (D * D) where two are multiplied: X squares / weight and u the mean of the ledger, M the largest score, z the factor;
-- x, y, v, s what the watch has for squares / weight, the mean's square, their difference and its root; k its mean; a, d, p, t its mean, deviation, product and threshold in f32.
pub record Doubles (D X u M z x y v s k K J : ℕ) : Type 0 where
  pub squares_le : X * D ≤ M * M
  pub mean_le : u ≤ M
  pub factor_le : z ≤ 16 * D
  pub few : K ≤ 1000000
  pub few' : J ≤ 2000000
  pub x_up : x * (2 ^ 53 - K) ≤ X * 2 ^ 53
  pub x_down : X * (2 ^ 53 - K) ≤ x * 2 ^ 53
  pub y_up : y * D * (2 ^ 53 - J) ≤ u * u * 2 ^ 53
  pub y_down : u * u * (2 ^ 53 - J) ≤ y * D * 2 ^ 53
  pub difference : Off (2 ^ 53) (3 * (M * M)) (v * D) (x * D - y * D)
  pub root_up : s * s * (2 ^ 53 - 4) ≤ v * D * 2 ^ 53
  pub root_down : v * D * (2 ^ 53 - 4) ≤ s * s * 2 ^ 53
  pub mean_up : k * (2 ^ 53 - K) ≤ u * 2 ^ 53
  pub mean_down : u * (2 ^ 53 - K) ≤ k * 2 ^ 53

-- the two numbers in f32
pub record Singles (M s k a d : ℕ) : Type 0 where
  pub narrow_mean : Off (2 ^ 24) (k + M) a k
  pub narrow_dev : Off (2 ^ 24) (s + M) d s

-- the facts on constants
few_sq : (K : ℕ) → K ≤ 2000000 → K * K + K ≤ 2 ^ 53
few_sq K h =
    let a : K * K ≤ 2000000 * 2000000 = mul-le-mul h h in
    omega arith

few_lt : (K : ℕ) → K ≤ 2000000 → K < 2 ^ 53
few_lt K h = omega arith

-- ---- the variance: the root's square is within M * M / 2 ^ 31 of it
scaled : (a b c r P : ℕ) → a * r ≤ b * P → a * c * r ≤ b * c * P
scaled a b c r P h = let x : a * r * c ≤ b * P * c = mul-le-mul_right c h in omega arith

v_bound : (w MM : ℕ) → w * 2 ^ 53 ≤ 2 * MM * 2 ^ 53 + 3 * MM → w ≤ 4 * MM
v_bound w MM h = omega arith

x_bound : (a b MM K : ℕ) → a * 2 ^ 53 ≤ b * 2 ^ 53 + (K + 1) * MM → b ≤ MM → K ≤ 2000000 → a ≤ 2 * MM
x_bound a b MM K h l k =
    let z : (K + 1) * MM ≤ 2000001 * MM = mul-le-mul_right MM (let i : K + 1 ≤ 2000001 = omega arith in i) in
    omega arith

module _ (D X u M z x y v s k K J : ℕ) (g : Doubles D X u M z x y v s k K J) where
  variance : Off (2 ^ 31) (M * M) (s * s) (X * D - u * u)
  variance =
      let MM = M * M in
      let k' : K ≤ 2000000 = (let i = g.few in omega arith) in
      let c1 = near_off (2 ^ 53) K (x * D) (X * D) MM (few_lt K k') (few_sq K k') (scaled x X D (2 ^ 53 - K) (2 ^ 53) g.x_up) (scaled X x D (2 ^ 53 - K) (2 ^ 53) g.x_down) g.squares_le in
      let c2 = near_off (2 ^ 53) J (y * D) (u * u) MM (few_lt J g.few') (few_sq J g.few') g.y_up g.y_down (mul-le-mul g.mean_le g.mean_le) in
      let c3 = off_less (2 ^ 53) ((K + 1) * MM) ((J + 1) * MM) (x * D) (X * D) (y * D) (u * u) c1 c2 in
      let c4 = off_trans (2 ^ 53) (3 * MM) ((K + 1) * MM + (J + 1) * MM) (v * D) (x * D - y * D) (X * D - u * u) g.difference c3 in
      let xb : x * D ≤ 2 * MM = x_bound (x * D) (X * D) MM K c1.up g.squares_le k' in
      let vb : v * D ≤ 4 * MM = v_bound (v * D) MM (le_trans g.difference.up (le3 (x * D) (y * D) MM xb)) in
      let c5 = near_off (2 ^ 53) 4 (s * s) (v * D) (4 * MM) (lit≤ tt) (lit≤ tt) g.root_up g.root_down vb in
      let c6 = off_trans (2 ^ 53) (5 * (4 * MM)) (3 * MM + ((K + 1) * MM + (J + 1) * MM)) (s * s) (v * D) (X * D - u * u) c5 c4 in
      off_cancel (2 ^ 31) MM (s * s) (X * D - u * u) (2 ^ 22) (pow_pos 22)
      (off_weaken (2 ^ 53) (5 * (4 * MM) + (3 * MM + ((K + 1) * MM + (J + 1) * MM))) (MM * 2 ^ 22) (s * s) (X * D - u * u) (total_le K J MM g.few g.few') c6)
    where
      le3 : (a b m : ℕ) → a ≤ 2 * m → (a - b) * 2 ^ 53 + 3 * m ≤ 2 * m * 2 ^ 53 + 3 * m
      le3 a b m h = (let i : a - b ≤ 2 * m = le_trans (sub-le a b) h in let j : (a - b) * 2 ^ 53 ≤ 2 * m * 2 ^ 53 = mul-le-mul_right (2 ^ 53) i in omega arith)

      total_le : (K J m : ℕ) → K ≤ 1000000 → J ≤ 2000000 → 5 * (4 * m) + (3 * m + ((K + 1) * m + (J + 1) * m)) ≤ m * 2 ^ 22
      total_le K J m h l =
          let i : K * m ≤ 1000000 * m = mul-le-mul_right m h in
          let j : J * m ≤ 2000000 * m = mul-le-mul_right m l in
          omega arith

  -- ---- the watch's numbers are no larger than a few times the largest score
  spread_le : X * D - u * u ≤ M * M
  spread_le = le_trans (sub-le (X * D) (u * u)) g.squares_le

  pub dev_le : s ≤ 2 * M
  dev_le = sq_le s (2 * M) (bound (s * s) (X * D - u * u) (M * M) (2 * M * (2 * M)) variance.up spread_le (sq M))
    where
      sq : (m : ℕ) → 4 * (m * m) ≡ 2 * m * (2 * m)
      sq m = omega arith

      bound : (a b m q : ℕ) → a * 2 ^ 31 ≤ b * 2 ^ 31 + m → b ≤ m → 4 * m ≡ q → a ≤ q
      bound a b m q h l e = omega arith

  mean_off : Off (2 ^ 24) M k u
  mean_off =
      let k' : K ≤ 2000000 = (let i = g.few in omega arith) in
      off_cancel (2 ^ 24) M k u (2 ^ 29) (pow_pos 29)
      (off_weaken (2 ^ 53) ((K + 1) * M) (M * 2 ^ 29) k u (le K M k') (near_off (2 ^ 53) K k u M (few_lt K k') (few_sq K k') g.mean_up g.mean_down g.mean_le))
    where
      le : (K m : ℕ) → K ≤ 2000000 → (K + 1) * m ≤ m * 2 ^ 29
      le K m h = (let i : K * m ≤ 2000000 * m = mul-le-mul_right m h in omega arith)

  pub mean_two : k ≤ 2 * M
  mean_two = (let h = mean_off.up in let l = g.mean_le in omega arith)

module _ (D X u M z x y v s k K J a d : ℕ) (g : Doubles D X u M z x y v s k K J) (w : Singles M s k a d) where
  dev_le' : s ≤ 2 * M
  dev_le' = dev_le D X u M z x y v s k K J g

  mean_two' : k ≤ 2 * M
  mean_two' = mean_two D X u M z x y v s k K J g

  a_off : Off (2 ^ 24) (3 * M) a k
  a_off = off_weaken (2 ^ 24) (k + M) (3 * M) a k (let l = mean_two' in omega arith) w.narrow_mean

  pub a_le : a ≤ 3 * M
  a_le = (let h = a_off.up in let l = mean_two' in omega arith)

  d_off : Off (2 ^ 24) (3 * M) d s
  d_off = off_weaken (2 ^ 24) (s + M) (3 * M) d s (let l = dev_le' in omega arith) w.narrow_dev

  pub d_le : d ≤ 3 * M
  d_le = (let h = d_off.up in let l = dev_le' in omega arith)

  pub zd_le : z * d ≤ 48 * (M * D)
  zd_le = (let h : z * d ≤ 16 * D * (3 * M) = mul-le-mul g.factor_le d_le in omega arith)

  zds_off : Off (2 ^ 24) (48 * (M * D)) (z * d) (z * s)
  zds_off =
      off_weaken (2 ^ 24) (3 * M * z) (48 * (M * D)) (z * d) (z * s) (let h : 3 * M * z ≤ 3 * M * (16 * D) = mul-le-mul_left (3 * M) g.factor_le in omega arith)
      (subst₂ (λ (i j : ℕ). Off (2 ^ 24) (3 * M * z) i j) (mul_comm d z) (mul_comm s z) (off_times (2 ^ 24) (3 * M) d s z d_off))

module _ (D X u M z x y v s k K J a d p : ℕ) (g : Doubles D X u M z x y v s k K J) (w : Singles M s k a d) (product : Off (2 ^ 24) (z * d + M * D) (p * D) (z * d)) where
  p_off : Off (2 ^ 24) (49 * (M * D)) (p * D) (z * d)
  p_off = off_weaken (2 ^ 24) (z * d + M * D) (49 * (M * D)) (p * D) (z * d) (let h = zd_le D X u M z x y v s k K J a d g w in omega arith) product

  pub p_le : p * D ≤ 49 * (M * D)
  p_le = (let h = p_off.up in let l = zd_le D X u M z x y v s k K J a d g w in omega arith)

module _ (D X u M z x y v s k K J a d p t : ℕ) (g : Doubles D X u M z x y v s k K J) (w : Singles M s k a d) (product : Off (2 ^ 24) (z * d + M * D) (p * D) (z * d))
    (total : Off (2 ^ 24) (a + p + M) t (a + p)) where
  t_off : Off (2 ^ 24) (53 * (M * D)) (t * D) (a * D + p * D)
  t_off =
      off_weaken (2 ^ 24) ((a + p + M) * D) (53 * (M * D)) (t * D) (a * D + p * D) (let i : a * D ≤ 3 * M * D = mul-le-mul_right D (a_le D X u M z x y v s k K J a d g w) in let j = p_le D X u M z x y v s k K J a d p g w product in omega arith)
      (subst (λ (i : ℕ). Off (2 ^ 24) ((a + p + M) * D) (t * D) i) (add-mul a p D) (off_times (2 ^ 24) (a + p + M) t (a + p) D total))

  -- ---- what the roundings add up to
  pub threshold_off : Off 8192 (M * D) (t * D) (u * D + z * s)
  threshold_off =
      let q = M * D in
      let e1 = off_times (2 ^ 24) (3 * M) a k D (a_off D X u M z x y v s k K J a d g w) in
      let e2 = off_times (2 ^ 24) M k u D (mean_off D X u M z x y v s k K J g) in
      let e3 = off_trans (2 ^ 24) (3 * M * D) (M * D) (a * D) (k * D) (u * D) e1 e2 in
      let e4 = off_trans (2 ^ 24) (49 * q) (48 * q) (p * D) (z * d) (z * s) (p_off D X u M z x y v s k K J a d p g w product) (zds_off D X u M z x y v s k K J a d g w) in
      let e5 = off_plus (2 ^ 24) (3 * M * D + M * D) (49 * q + 48 * q) (a * D) (u * D) (p * D) (z * s) e3 e4 in
      let e6 = off_trans (2 ^ 24) (53 * q) (3 * M * D + M * D + (49 * q + 48 * q)) (t * D) (a * D + p * D) (u * D + z * s) t_off e5 in
      off_cancel 8192 q (t * D) (u * D + z * s) 2048 (lit≤ tt)
      (off_weaken (2 ^ 24) (53 * q + (3 * M * D + M * D + (49 * q + 48 * q))) (q * 2048) (t * D) (u * D + z * s) (omega arith) e6)

  squares_off : Off (2 ^ 23) (M * D * (M * D)) (z * s * (z * s)) (z * z * (X * D - u * u))
  squares_off =
      off_cancel (2 ^ 23) (M * D * (M * D)) (z * s * (z * s)) (z * z * (X * D - u * u)) 256 (lit≤ tt)
      (off_weaken (2 ^ 31) (M * M * (z * z)) (M * D * (M * D) * 256) (z * s * (z * s)) (z * z * (X * D - u * u)) (zz M D z g.factor_le)
      (subst₂ (λ (i j : ℕ). Off (2 ^ 31) (M * M * (z * z)) i j) (re s z) (mul_comm (X * D - u * u) (z * z)) (off_times (2 ^ 31) (M * M) (s * s) (X * D - u * u) (z * z) (variance D X u M z x y v s k K J g))))
    where
      re : (s z : ℕ) → s * s * (z * z) ≡ z * s * (z * s)
      re s z = omega arith

      zz : (M D z : ℕ) → z ≤ 16 * D → M * M * (z * z) ≤ M * D * (M * D) * 256
      zz M D z h =
          let i : z * z ≤ 16 * D * (16 * D) = mul-le-mul h h in
          let j : M * M * (z * z) ≤ M * M * (16 * D * (16 * D)) = mul-le-mul_left (M * M) i in
          omega arith

  pub squares_up : z * s * (z * s) * 67108864 ≤ z * z * (X * D - u * u) * 67108864 + M * D * (M * D) * 9
  squares_up = eight (z * s * (z * s)) (z * z * (X * D - u * u)) (M * D * (M * D)) squares_off.up
    where
      eight : (a b q : ℕ) → a * 2 ^ 23 ≤ b * 2 ^ 23 + q → a * 67108864 ≤ b * 67108864 + q * 9
      eight a b q h = omega arith

  pub squares_down : z * z * (X * D - u * u) * 67108864 ≤ z * s * (z * s) * 67108864 + M * D * (M * D) * 9
  squares_down = eight (z * z * (X * D - u * u)) (z * s * (z * s)) (M * D * (M * D)) squares_off.down
    where
      eight : (a b q : ℕ) → a * 2 ^ 23 ≤ b * 2 ^ 23 + q → a * 67108864 ≤ b * 67108864 + q * 9
      eight a b q h = omega arith

  pub low : (2048 * (t * D) - M * D - 2048 * (u * D)) * (2048 * (t * D) - M * D - 2048 * (u * D)) ≤ z * z * (X * D - u * u) * 4194304
  low = final_low (t * D) (u * D) (z * s) (M * D) (z * z * (X * D - u * u)) threshold_off squares_up

  pub high : (2048 * (u * D) ≤ 2048 * (t * D) + M * D) × (z * z * (X * D - u * u) * 4194304 ≤ (2048 * (t * D) + M * D - 2048 * (u * D)) * (2048 * (t * D) + M * D - 2048 * (u * D)))
  high = final_high (t * D) (u * D) (z * s) (M * D) (z * z * (X * D - u * u)) threshold_off squares_down
