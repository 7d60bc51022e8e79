-- Bytes put over a list one after the other are their join put over it at once. Assumes nothing.
use Rattle.std.proofs.Common.{◌≡◌, ℕ, ◌+◌, ◌<◌, ◌≤◌, List, [], ◌∷◌, ◌++◌, length, take, drop, set, ℤ, sym, ap, ◌∙◌, ap₂, append_assoc, append-nil, add-zero, add_assoc, add-one, arith, length-append, length-drop, take-append-drop, drop_of_length-le, length-take-le, drop-drop, take_at, drop_at}
use lib.Seq.{set_split}
use lib.Ieee.{Float}
use Rattle.deviation.specs.declared.Deviation.{Deviation}
use Rattle.basicthresholder.specs.declared.BasicThresholder.{BasicThresholder}
use Rattle.layout.specs.Places.{deviation_length, thresholder_length, auto_threshold_at, verdict_length}
use Rattle.layout.specs.Numbers.{bytes4, bytes8, f32_bytes, f64_bytes, i32_bytes, flag_byte, flag_bytes, pasted}
use Rattle.layout.specs.Readings.{verdict_bytes}
use Rattle.layout.specs.States.{joined, encode_deviation, encode_thresholder}

-- ---- one paste after another.
module _ (xs : List ℕ) (at : ℕ) (ys : List ℕ) where
  pub front : at ≤ length xs → length (take at xs ++ ys) ≡ at + length ys
  front h = length-append (take at xs) ys ∙ ap (λ (n : ℕ). n + length ys) (length-take-le at xs h)

  pub pasted_split : pasted xs at ys ≡ (take at xs ++ ys) ++ drop (at + length ys) xs
  unfolding pasted
  pasted_split = sym (append_assoc (take at xs) ys (drop (at + length ys) xs))

  pub pasted_length : at + length ys ≤ length xs → length (pasted xs at ys) ≡ length xs
  pasted_length h =
      ap length pasted_split ∙ length-append (take at xs ++ ys) (drop (at + length ys) xs)
      ∙ ap₂ (λ (a b : ℕ). a + b) (front (omega arith)) (length-drop (at + length ys) xs) ∙ omega arith

  pub pasted_next : (zs : List ℕ) → at ≤ length xs → pasted (pasted xs at ys) (at + length ys) zs ≡ pasted xs at (ys ++ zs)
  unfolding pasted
  pasted_next zs h =
      let whole = pasted_split in
      let before : take (at + length ys) (pasted xs at ys) ≡ take at xs ++ ys =
      ap (take (at + length ys)) whole ∙ take_at (take at xs ++ ys) (drop (at + length ys) xs) (at + length ys) (front h) in
      let after : drop (at + length ys + length zs) (pasted xs at ys) ≡ drop (at + (length ys + length zs)) xs =
      sym (drop-drop (length zs) (at + length ys) (pasted xs at ys))
      ∙ ap (drop (length zs)) (ap (drop (at + length ys)) whole ∙ drop_at (take at xs ++ ys) (drop (at + length ys) xs) (at + length ys) (front h))
      ∙ drop-drop (length zs) (at + length ys) xs ∙ ap (λ (n : ℕ). drop n xs) (add_assoc at (length ys) (length zs)) in
      ap₂ (λ (a b : List ℕ). a ++ (zs ++ b)) before after
      ∙ append_assoc (take at xs) ys (zs ++ drop (at + (length ys + length zs)) xs)
      ∙ simp (append_assoc, length-append)

-- The bytes of each list of cs put over xs, one behind the other.
abbrev pub pasted_all : List ℕ → ℕ → List (List ℕ) → List ℕ
pasted_all xs at [] = xs
pasted_all xs at (c ∷ cs) = pasted_all (pasted xs at c) (at + length c) cs

pub pasted_all_lem : (xs : List ℕ) (at : ℕ) (cs : List (List ℕ)) → at + length (joined cs) ≤ length xs → pasted_all xs at cs ≡ pasted xs at (joined cs)
unfolding joined pasted
pasted_all_lem xs at [] h = rw add-zero (sym (take-append-drop at xs))
pasted_all_lem xs at (c ∷ cs) h =
    let l = length-append c (joined cs) in
    pasted_all_lem (pasted xs at c) (at + length c) cs (omega (arith, pasted_length xs at c (omega arith)))
    ∙ pasted_next xs at c (joined cs) (omega arith)

pub pasted_onwards : (xs ys : List ℕ) (cs : List (List ℕ)) → length ys + length (joined cs) ≤ length xs
    → pasted_all (pasted xs 0 ys) (0 + length ys) cs ≡ pasted xs 0 (ys ++ joined cs)
pasted_onwards xs ys cs h =
    let size = pasted_length xs 0 ys (omega arith) in
    pasted_all_lem (pasted xs 0 ys) (0 + length ys) cs (omega arith) ∙ pasted_next xs 0 ys (joined cs) (omega arith)

pub pasted_whole : (xs ys : List ℕ) → length xs ≡ length ys → pasted xs 0 ys ≡ ys
unfolding pasted
pasted_whole xs ys e = rw (drop_of_length-le xs {i = 0 + length ys} (omega arith)) (append-nil ys)

-- ---- single bytes.
pub set_is : (xs : List ℕ) (at b : ℕ) → at < length xs → set xs at b ≡ pasted xs at (b ∷ [])
unfolding pasted
set_is xs at b h = rw add-one (set_split xs at b h)

pub set_next : (xs : List ℕ) (at : ℕ) (ys : List ℕ) (b : ℕ) → at + length ys < length xs → set (pasted xs at ys) (at + length ys) b ≡ pasted xs at (ys ++ (b ∷ []))
set_next xs at ys b h =
    let size = pasted_length xs at ys (omega arith) in
    set_is (pasted xs at ys) (at + length ys) b (omega arith) ∙ pasted_next xs at ys (b ∷ []) (omega arith)

-- ---- what is put over a list, part by part. A place is the length of what stands before.
module _ (xs : List ℕ) where
  pub deviation_pasted : (at : ℕ) (d : Deviation) → at + deviation_length ≤ length xs
      → pasted (pasted (pasted (pasted (pasted xs at (f64_bytes d.discount)) (at + 8) (f64_bytes d.weight)) (at + 16) (f64_bytes d.sum_squared)) (at + 24) (f64_bytes d.sum)) (at + 32) (i32_bytes d.count)
      ≡ pasted xs at (encode_deviation d)
  unfolding encode_deviation joined f64_bytes i32_bytes bytes8 bytes4
  deviation_pasted at d h =
      let a = f64_bytes d.discount in
      let b = f64_bytes d.weight in
      let c = f64_bytes d.sum_squared in
      let e = f64_bytes d.sum in
      let n = i32_bytes d.count in
      ap (λ (l : List ℕ). pasted (pasted (pasted l (at + 16) c) (at + 24) e) (at + 32) n) (pasted_next xs at a b (omega arith))
      ∙ ap (λ (l : List ℕ). pasted (pasted l (at + 24) e) (at + 32) n) (pasted_next xs at (a ++ b) c (omega arith))
      ∙ ap (λ (l : List ℕ). pasted l (at + 32) n) (pasted_next xs at ((a ++ b) ++ c) e (omega arith))
      ∙ pasted_next xs at (((a ++ b) ++ c) ++ e) n (omega arith)

  pub thresholder_pasted : (s : BasicThresholder) → thresholder_length ≤ length xs
      → pasted (pasted (pasted (pasted (pasted (pasted (set (pasted (pasted (pasted (pasted (pasted (pasted (pasted xs
      0 (f32_bytes s.elasticity)) 4 (i32_bytes s.count)) 8 (f32_bytes s.score_differencing)) 12 (f32_bytes s.last_score))
      16 (encode_deviation s.primary_deviation)) 52 (encode_deviation s.secondary_deviation)) 88 (encode_deviation s.threshold_deviation))
      auto_threshold_at (flag_byte s.auto_threshold)) 125 (f32_bytes s.absolute_threshold)) 129 (f32_bytes s.absolute_score_fraction))
      133 (f32_bytes s.lower_threshold)) 137 (f32_bytes s.factor_adjustment_threshold)) 141 (f32_bytes s.initial_threshold)) 145 (f32_bytes s.z_factor)
      ≡ pasted xs 0 (encode_thresholder s)
  unfolding encode_thresholder encode_deviation joined f32_bytes f64_bytes i32_bytes flag_bytes bytes8 bytes4
  thresholder_pasted s h =
      let first = f32_bytes s.elasticity ∷ i32_bytes s.count ∷ f32_bytes s.score_differencing ∷ f32_bytes s.last_score
      ∷ encode_deviation s.primary_deviation ∷ encode_deviation s.secondary_deviation ∷ encode_deviation s.threshold_deviation ∷ [] in
      let flag = flag_byte s.auto_threshold in
      let rest = f32_bytes s.absolute_threshold ∷ f32_bytes s.absolute_score_fraction ∷ f32_bytes s.lower_threshold
      ∷ f32_bytes s.factor_adjustment_threshold ∷ f32_bytes s.initial_threshold ∷ f32_bytes s.z_factor ∷ [] in
      ap (λ (l : List ℕ). pasted_all (set l auto_threshold_at flag) 125 rest) (pasted_all_lem xs 0 first (omega arith))
      ∙ ap (λ (l : List ℕ). pasted_all l 125 rest) (set_next xs 0 (joined first) flag (omega arith))
      ∙ pasted_onwards xs (joined first ++ (flag ∷ [])) rest (omega arith)

  pub verdict_pasted : (kind mode : ℕ) (t g : Float) (n : ℤ) → length xs ≡ verdict_length
      → pasted (pasted (pasted (set (set xs 0 kind) 1 mode) 2 (f32_bytes t)) 6 (f32_bytes g)) 10 (i32_bytes n) ≡ verdict_bytes kind mode t g n
  unfolding verdict_bytes joined f32_bytes i32_bytes bytes4
  verdict_pasted kind mode t g n h =
      let rest = f32_bytes t ∷ f32_bytes g ∷ i32_bytes n ∷ [] in
      ap (λ (l : List ℕ). pasted_all (set l 1 mode) 2 rest) (set_is xs 0 kind (omega arith))
      ∙ ap (λ (l : List ℕ). pasted_all l 2 rest) (set_next xs 0 (kind ∷ []) mode (omega arith))
      ∙ pasted_onwards xs (kind ∷ mode ∷ []) rest (omega arith)
      ∙ pasted_whole xs (verdict_bytes kind mode t g n) (omega arith)
