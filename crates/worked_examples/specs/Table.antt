-- The starred lines of document 01's "Small presses", each as a test that computes. Definitions only.
use Rattle.std.specs.Prelude.{Bool, true, false, ◌&&◌, List, [], ◌∷◌, ℕ, eqb, ℤ, pos, neg_ℤ, length, Float}
use Rattle.std.specs.Float.{binary64}
use Rattle.std.specs.Float.Ieee.{of_bits, of_int, to_bits}
use Rattle.float.specs.Float.{zero64, one64}
use Rattle.float.specs.Sqrt.{sqrt_of}
use Rattle.store.specs.Vector.{filled}
use Rattle.aggregation.specs.Pairs.{Weighted, strengths_of, pairs_of}
use Rattle.pattern.specs.Pattern.{Pattern, entries}
use Rattle.matrix.specs.Kernel.{Kernel}
use Rattle.dic.specs.Dic.{dic_of}
use Rattle.gauss_seidel.specs.Sweep.{gauss_seidel_of}
use Rattle.cholesky.specs.Factor.{cholesky_of}
use Rattle.hierarchy.specs.Level.{kernel_of, csr_of}
use Rattle.hierarchy.specs.Build.{Mesh, kernel_asked, coarsened, last_shape}
use Rattle.refusal.specs.Outcome.{Outcome, accepted, refused, ◌>>=◌}
use Rattle.options.specs.Counts.{pre_sweeps_of, post_sweeps_of}
use Rattle.options.specs.declared.options.MultigridSmoother.{MultigridSmoother}
use Rattle.options.specs.declared.options.MultigridResidualNorm.{MultigridResidualNorm}
use Rattle.options.specs.declared.options.MultigridCoarseSolver.{MultigridCoarseSolver}
use Rattle.options.specs.declared.options.MultigridOptions.{MultigridOptions}

-- the bits of the root of the f64 with these bits
unfoldable pub root_bits : ℕ → ℕ
unfolding of_bits to_bits sqrt_of
root_bits b = to_bits binary64 (sqrt_of (of_bits binary64 b))

-- controls with these sweep counts, this multiplier and this maximum; of the others none tells how often a level below the finest is smoothed
unfoldable pub sweeps : ℕ → ℕ → ℕ → ℕ → MultigridOptions
sweeps pre post multiplier maximum = record {
  smoother = MultigridSmoother.DicGaussSeidel;
  residual_norm = MultigridResidualNorm.NormalizedL1;
  pre_sweeps = pre;
  post_sweeps = post;
  finest_sweeps = 1;
  sweep_level_multiplier = multiplier;
  max_sweeps = maximum;
  coarsest_cells = 10;
  max_levels = 64;
  merge_levels = 2;
  krylov_dimension = 4;
  coarse_solver = MultigridCoarseSolver.PcgDic;
  coarse_absolute_tolerance = zero64;
  coarse_relative_tolerance = zero64;
  coarse_max_iterations = 500;
  scale_correction = true;
  max_aggregate_cells = 0;
}

-- whether two lists are the same
unfoldable pub same : List ℕ → List ℕ → Bool
same [] [] = true
same [] (y ∷ ys) = false
same (x ∷ xs) [] = false
same (x ∷ xs) (y ∷ ys) = eqb x y && same xs ys

-- the bits of each float of a list
unfoldable pub bits : List Float → List ℕ
unfolding to_bits
bits [] = []
bits (x ∷ xs) = to_bits binary64 x ∷ bits xs

-- the floats of a list of whole numbers
unfoldable pub floats : List ℤ → List Float
unfolding of_int
floats [] = []
floats (z ∷ zs) = of_int binary64 z ∷ floats zs

-- the bits of what was accepted; none where it was refused
unfoldable pub accepted_bits : Outcome (List Float) → List ℕ
unfolding bits
accepted_bits (accepted v) = bits v
accepted_bits (refused q) = []

-- ---- the matrices, each as a build takes it

-- the pattern of the path of 4 rows, each row with its diagonal
abbrev pub path4 : Pattern
path4 = record { rows = 4; offsets = 0 ∷ 2 ∷ 5 ∷ 8 ∷ 10 ∷ []; columns = 0 ∷ 1 ∷ 0 ∷ 1 ∷ 2 ∷ 1 ∷ 2 ∷ 3 ∷ 2 ∷ 3 ∷ [] }

-- of the path of 3
abbrev pub path3 : Pattern
path3 = record { rows = 3; offsets = 0 ∷ 2 ∷ 5 ∷ 7 ∷ []; columns = 0 ∷ 1 ∷ 0 ∷ 1 ∷ 2 ∷ 1 ∷ 2 ∷ [] }

-- of the faces 0-1, 0-2, 2-3
abbrev pub tree4 : Pattern
tree4 = record { rows = 4; offsets = 0 ∷ 3 ∷ 5 ∷ 8 ∷ 10 ∷ []; columns = 0 ∷ 1 ∷ 2 ∷ 0 ∷ 1 ∷ 0 ∷ 2 ∷ 3 ∷ 2 ∷ 3 ∷ [] }

-- of two joined rows
abbrev pub joined2 : Pattern
joined2 = record { rows = 2; offsets = 0 ∷ 2 ∷ 4 ∷ []; columns = 0 ∷ 1 ∷ 0 ∷ 1 ∷ [] }

-- the pattern p with these whole values, and no weights
abbrev pub matrix : Pattern → List ℤ → Mesh
matrix p v = record { pattern = p; values = floats v; weights = [] }

-- the path of 4 with diagonal 2 and off-diagonal −1
abbrev pub path_of4 : Mesh
path_of4 =
    let d = pos 2 in
    let a = neg_ℤ (pos 1) in
    matrix path4 (d ∷ a ∷ a ∷ d ∷ a ∷ a ∷ d ∷ a ∷ a ∷ d ∷ [])

-- that of 3
abbrev pub path_of3 : Mesh
path_of3 =
    let d = pos 2 in
    let a = neg_ℤ (pos 1) in
    matrix path3 (d ∷ a ∷ a ∷ d ∷ a ∷ a ∷ d ∷ [])

-- 4, a; a, 2
abbrev pub two_rows : ℤ → Mesh
two_rows a = matrix joined2 (pos 4 ∷ a ∷ a ∷ pos 2 ∷ [])

-- P
abbrev pub P : Mesh
P = two_rows (neg_ℤ (pos 2))

-- the kernel of a matrix, with the faces of its pattern and the reciprocals of `update`
abbrev pub kernel_made : Mesh → Outcome Kernel
kernel_made m = do
  c ← kernel_asked 0 m
  accepted (kernel_of (last_shape m.pattern) c.diagonal c.inverse c.coefficients)

-- ---- the lines

-- the pattern p with these weights, and no cap
abbrev pub weigh : Pattern → List Float → Weighted
weigh p v = record { rows = p.rows; offsets = p.offsets; columns = p.columns; weights = v; cap = 0 }

-- all weights of p equal to x
abbrev pub alike : Pattern → Float → Weighted
alike p x = weigh p (filled (entries p) x)

-- a matrix with the absolute values for weights
abbrev pub by_values : Mesh → Weighted
by_values m = weigh m.pattern (strengths_of true m.values)

-- path of 4, up and down; path of 3, up; faces 0-1, 0-2, 2-3, equal weights, up; all weights zero, 3 rows
abbrev pub aggregates : List Bool
aggregates =
    same (pairs_of (by_values path_of4) true).map (0 ∷ 0 ∷ 1 ∷ 1 ∷ [])
    ∷ same (pairs_of (by_values path_of4) false).map (1 ∷ 1 ∷ 0 ∷ 0 ∷ [])
    ∷ same (pairs_of (by_values path_of3) true).map (0 ∷ 0 ∷ 0 ∷ [])
    ∷ same (pairs_of (alike tree4 one64) true).map (0 ∷ 0 ∷ 1 ∷ 1 ∷ [])
    ∷ eqb (pairs_of (alike path3 zero64) true).count 3
    ∷ []

-- path of 3 with a cap of 2, up and down: the last row finds its neighbour's aggregate full (Q-3)
abbrev pub capped_path : List Bool
capped_path =
    let capped : Weighted = record { rows = 3; offsets = path3.offsets; columns = path3.columns; weights = filled (entries path3) one64; cap = 2 } in
    same (pairs_of capped true).map (0 ∷ 0 ∷ 1 ∷ []) ∷ same (pairs_of capped false).map (1 ∷ 0 ∷ 0 ∷ []) ∷ []

-- path of 4, diagonal 2, pairs 0 0 1 1: coarse 2, −1; −1, 2, as a build without weights makes it
abbrev pub coarse_path : List Bool
coarse_path =
    let c = coarsened false path_of4 (0 ∷ 0 ∷ 1 ∷ 1 ∷ []) 2 in
    same c.pattern.offsets (0 ∷ 2 ∷ 4 ∷ [])
    ∷ same c.pattern.columns (0 ∷ 1 ∷ 0 ∷ 1 ∷ [])
    ∷ same (bits c.values) (bits (floats (pos 2 ∷ neg_ℤ (pos 1) ∷ neg_ℤ (pos 1) ∷ pos 2 ∷ [])))
    ∷ []

-- P factors as 2; −1, 1
abbrev pub factors : List Bool
factors =
    let s = last_shape P.pattern in
    same (accepted_bits (cholesky_of 0 (csr_of s P.values) (length s.links) s.links)) (bits (floats (pos 2 ∷ neg_ℤ (pos 1) ∷ pos 1 ∷ []))) ∷ []

-- 0.25 by its bits
abbrev pub quarter_bits : ℕ
quarter_bits = 0x3fd0_0000_0000_0000

-- 0.5
abbrev pub half_bits : ℕ
half_bits = 0x3fe0_0000_0000_0000

-- 0.75
abbrev pub three_quarter_bits : ℕ
three_quarter_bits = 0x3fe8_0000_0000_0000

-- the DIC inverses of a matrix
abbrev pub inverses_of : ℕ → Mesh → Outcome (List Float)
inverses_of level m = do
  k ← kernel_made m
  dic_of level k

-- matrix 4, 2; 2, 2: DIC inverses 0.25, 1
abbrev pub dic_inverses : List Bool
dic_inverses = same (accepted_bits (inverses_of 0 (two_rows (pos 2)))) (quarter_bits ∷ to_bits binary64 one64 ∷ []) ∷ []

-- P, right-hand side 2, 0, start 0: one Gauss-Seidel sweep, and a symmetric one
abbrev pub swept_p : Bool → Outcome (List Float)
swept_p symmetric = do
  k ← kernel_made P
  accepted (gauss_seidel_of k symmetric (floats (pos 2 ∷ pos 0 ∷ [])) (filled 2 zero64)).x

-- they give 0.5, 0.5 and 0.75, 0.5
abbrev pub gauss_seidel : List Bool
gauss_seidel = same (accepted_bits (swept_p false)) (half_bits ∷ half_bits ∷ []) ∷ same (accepted_bits (swept_p true)) (three_quarter_bits ∷ half_bits ∷ []) ∷ []

-- root of 2; of 2 ^ −1074; of minus zero
abbrev pub roots : List Bool
roots =
    eqb (root_bits 0x4000_0000_0000_0000) 0x3ff6_a09e_667f_3bcd
    ∷ eqb (root_bits 0x0000_0000_0000_0001) 0x1e60_0000_0000_0000
    ∷ eqb (root_bits 0x8000_0000_0000_0000) 0x8000_0000_0000_0000
    ∷ []

-- pre-sweeps 1, multiplier 2, maximum 4: at depth 0, 1, 3
abbrev pub growing : List Bool
growing =
    eqb (pre_sweeps_of (sweeps 1 2 2 4) 0) 0
    ∷ eqb (pre_sweeps_of (sweeps 1 2 2 4) 1) 1
    ∷ eqb (pre_sweeps_of (sweeps 1 2 2 4) 3) 4
    ∷ []

-- post-sweeps 0, multiplier 1, maximum 4, depth 3; pre-sweeps 0 there
abbrev pub resting : List Bool
resting =
    eqb (post_sweeps_of (sweeps 0 0 1 4) 3) 2
    ∷ eqb (pre_sweeps_of (sweeps 0 0 1 4) 3) 0
    ∷ []

-- every line of a table holds
unfoldable pub all : List Bool → Bool
all [] = true
all (b ∷ bs) = b && all bs

-- every table holds
unfoldable pub all_of : List (List Bool) → Bool
unfolding all
all_of [] = true
all_of (t ∷ ts) = all t && all_of ts

-- the starred lines, in the order of the crates that they concern
unfoldable pub table : List (List Bool)
unfolding root_bits sweeps pre_sweeps_of post_sweeps_of
table = aggregates ∷ coarse_path ∷ factors ∷ dic_inverses ∷ gauss_seidel ∷ roots ∷ growing ∷ resting ∷ []
