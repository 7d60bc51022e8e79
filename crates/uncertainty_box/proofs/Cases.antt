-- Closed cases that hold the definitions to Rust, beside the drill sheet's rows: bit patterns in and out. Assumes nothing.
use Rattle.std.proofs.Common.{◌≡◌, ℕ, Bool, true, false, List, [], ◌∷◌, map, refl}
use lib.Ieee as Ieee
use lib.Ieee.{Float, binary32, of_bits, to_bits}
use Rattle.scan.specs.Read.{read_until}
use Rattle.util.specs.Util.{absf32, maxf32, minf32}
use Rattle.uncertainty_box.specs.Scan.{some, count, listed}
use Rattle.uncertainty_box.specs.Box.{outside, outside_at, within_unertainty_box, path_step, path_mean, path_loop, path_deviation, edge_of, edge_at, uncertainty_box, supported, whole_points, explained_by_conditional_field}
use Rattle.uncertainty_box.specs.Pass.{over_line, over_at, noise_step, noise_loop, noise_pass, passable, centered_transform_pass}
use Rattle.uncertainty_box.specs.Box as Box
use Rattle.uncertainty_box.specs.Pass as Pass

abbrev floats : List ℕ → List Float
floats bs = map (of_bits binary32) bs

-- A box of 0.5 around 1, scale 1: points at 0.5 and 1.5 are on its edges and within it, the next number beyond either edge is not, NaN is.
abbrev inside : ℕ → Bool
inside b = within_unertainty_box (floats (0x3F00_0000 ∷ [])) 0 (floats (0x3F80_0000 ∷ [])) (floats (b ∷ [])) (floats (0x3F80_0000 ∷ []))

insides : map inside (0x3F00_0000 ∷ 0x3FC0_0000 ∷ 0x3EFF_FFFF ∷ 0x3FC0_0001 ∷ 0x7FC0_0000 ∷ []) ≡ true ∷ true ∷ false ∷ false ∷ true ∷ []
unfolding within_unertainty_box some outside_at outside of_bits Ieee.mul Ieee.add Ieee.sub Ieee.lt
insides = refl

-- Weight and total: none of none, 1 of 10 and 26 of 256 are enough; none of one, 1 of 11 and 25 of 256 are not.
supports :
    supported 0 0 ∷ supported 1 10 ∷ supported 26 256 ∷ supported 0 1 ∷ supported 1 11 ∷ supported 25 256 ∷ []
    ≡ true ∷ true ∷ true ∷ false ∷ false ∷ false ∷ []
unfolding supported of_bits Ieee.mul Ieee.of_int Ieee.le
supports = refl

-- No neighbours at all, of any dimension from 1 on.
unpeopled : (box point : List Float) (start : ℕ) (scale : List Float) → explained_by_conditional_field box point start scale [] 3 ≡ true
unfolding explained_by_conditional_field whole_points count supported of_bits Ieee.mul Ieee.of_int Ieee.le
unpeopled box point start scale = refl

-- Two rows of two, 1, 5 and 3, 1: the path gaps are 2 and 4. With scale 1, shift 0 and deviations 3 and 1 the edges are 3 and 4.
edges :
    map (to_bits binary32)
    (uncertainty_box
    (floats (0x3F80_0000 ∷ 0x40A0_0000 ∷ 0x4040_0000 ∷ 0x3F80_0000 ∷ []))
    0
    (floats (0x3F80_0000 ∷ 0x3F80_0000 ∷ []))
    (floats (0 ∷ 0 ∷ []))
    (floats (0x4040_0000 ∷ 0x3F80_0000 ∷ []))
    false
    (floats (0 ∷ 0 ∷ [])))
    ≡ 0x4040_0000 ∷ 0x4080_0000 ∷ []
unfolding uncertainty_box listed edge_at edge_of path_deviation path_loop path_mean path_step absf32 maxf32 of_bits to_bits Ieee.add Ieee.sub Ieee.mul Ieee.div Ieee.of_int Ieee.lt
edges = refl

-- A lone coordinate at 0.001 is on its precision line and gives 0; the next number gives 1, also with a deviation of NaN.
abbrev pass : ℕ → ℕ → ℕ
pass deviation b = to_bits binary32 (centered_transform_pass 1 (floats (0x3F80_0000 ∷ [])) (floats (0 ∷ [])) (floats (deviation ∷ [])) (floats (b ∷ [])))

passes : pass 0 0x3A83_126F ∷ pass 0 0x3A83_1270 ∷ pass 0x7FC0_0000 0xBA83_1270 ∷ [] ≡ 0 ∷ 0x3F80_0000 ∷ 0x3F80_0000 ∷ []
unfolding centered_transform_pass passable noise_pass noise_loop noise_step some over_at over_line absf32 maxf32 minf32 of_bits to_bits Ieee.neg Ieee.add Ieee.mul Ieee.div Ieee.lt
passes = refl

-- Read of the points (0, 9), (9, 0), (9, 9) and (0, 0), base 1, line at 0.001: up to the first 9, else both; none by a base of 0.
abbrev read : ℕ → ℕ → ℕ → ℕ
read base a b = Pass.coordinates_read base (floats (0x3F80_0000 ∷ [])) (floats (0 ∷ [])) (floats (0 ∷ [])) (floats (a ∷ b ∷ []))

pass_reads : read 1 0 0x4110_0000 ∷ read 1 0x4110_0000 0 ∷ read 1 0x4110_0000 0x4110_0000 ∷ read 1 0 0 ∷ read 0 0 0x4110_0000 ∷ [] ≡ 2 ∷ 1 ∷ 1 ∷ 2 ∷ 0 ∷ []
unfolding Pass.coordinates_read passable read_until over_at over_line absf32 of_bits Ieee.neg Ieee.add Ieee.mul Ieee.lt
pass_reads = refl

-- Read of the same points, held against boxes of 0.5 around (0, 0): likewise. From the second coordinate on none where the box has two edges, and one where it has one; none of an empty box.
abbrev held : List ℕ → ℕ → ℕ → ℕ → ℕ
held edges start a b = Box.coordinates_read (floats edges) start (floats (0x3F80_0000 ∷ 0x3F80_0000 ∷ [])) (floats (a ∷ b ∷ [])) (floats (0 ∷ 0 ∷ []))

abbrev both : ℕ → ℕ → ℕ → ℕ
both = held (0x3F00_0000 ∷ 0x3F00_0000 ∷ [])

box_reads :
    both 0 0 0x4110_0000 ∷ both 0 0x4110_0000 0 ∷ both 0 0x4110_0000 0x4110_0000 ∷ both 0 0 0 ∷ both 1 0 0x4110_0000 ∷ held (0x3F00_0000 ∷ []) 1 0 0x4110_0000 ∷ held [] 0 0 0 ∷ []
    ≡ 2 ∷ 1 ∷ 1 ∷ 2 ∷ 0 ∷ 1 ∷ 0 ∷ []
unfolding Box.coordinates_read Box.box_fits read_until outside_at outside of_bits Ieee.add Ieee.sub Ieee.mul Ieee.lt
box_reads = refl
