-- Worked examples that document 01 does not star, over the matrices of the table. Each holds by computing.
-- Assumes nothing.
use mathlib.Core.Path.{◌≡◌, refl}
use mathlib.Core.List.{List, [], ◌∷◌}
use lib.IntN.{pos}
use lib.Ieee.{Float, nan, of_int, of_bits, add, sub, mul, div, lt, le}
use Rattle.float.specs.Float.{zero64, one64, is_finite, is_positive}
use Rattle.store.specs.Loop.{iter, for}
use Rattle.store.specs.Vector.{tab}
use Rattle.options.specs.declared.options.MultigridSmoother.{MultigridSmoother}
use Rattle.refusal.specs.Refusal.{bad_dic_pivot}
use Rattle.refusal.specs.Outcome.{Outcome, accepted, refused, ask_rows, ◌>>=◌}
use Rattle.coefficients.specs.Update.{diagonal_asked, kernel_update_of}
use Rattle.pattern.specs.Pattern as pattern
use Rattle.faces.specs.Faces as faces
use Rattle.matrix.specs.Kernel.{Kernel, spread_face, spread_row, spread_of, residual_of}
use Rattle.gauss_seidel.specs.Sweep.{gather_face, cast_face, lower_row, upper_row, dic_sweep_of}
use Rattle.dic.specs.Dic.{is_pivot, pivot_face, pivot_row, pivots_of, reciprocals_of, dic_of}
use Rattle.smoother.specs.Smooth.{dic_sweeps_of, gauss_seidels_of, swept_of, smooth_of}
use Rattle.worked_examples.specs.Table.{floats, two_rows, P, kernel_made, inverses_of}

-- 2, 0
abbrev rhs : List Float
rhs = floats (pos 2 ∷ pos 0 ∷ [])

-- 4, 4; 4, 2 has a second pivot below zero.
negative : inverses_of 3 (two_rows (pos 4)) ≡ refused (bad_dic_pivot 3 1)
unfolding floats of_int faces.above faces.faces_of faces.uppers_of faces.face_offsets_of faces.neighbors_of faces.stands_at faces.diagonals_of pattern.how_many pattern.those pattern.row_of is_positive diagonal_asked kernel_update_of lt dic_of pivots_of pivot_row pivot_face reciprocals_of is_pivot is_finite ask_rows for iter tab of_bits sub mul div le
negative = refl

-- a DIC sweep of P from zero
abbrev swept_by_dic : Outcome (List Float)
swept_by_dic = do
  k ← kernel_made P
  d ← dic_of 0 k
  accepted (dic_sweep_of k d rhs (zero64 ∷ zero64 ∷ [])).x

-- It solves P x = 2, 0.
solved : swept_by_dic ≡ accepted (one64 ∷ one64 ∷ [])
unfolding floats of_int faces.above faces.faces_of faces.uppers_of faces.face_offsets_of faces.neighbors_of faces.stands_at faces.diagonals_of pattern.how_many pattern.those pattern.row_of is_positive diagonal_asked kernel_update_of lt dic_of pivots_of pivot_row pivot_face reciprocals_of is_pivot is_finite ask_rows dic_sweep_of lower_row upper_row gather_face cast_face residual_of spread_of spread_row spread_face for iter tab of_bits add sub mul div le
solved = refl

-- No sweep asks nothing: x stays, finite or not.
unasked : (k : Kernel) (d : List Float) → smooth_of k d rhs MultigridSmoother.DicGaussSeidel 0 (nan ∷ nan ∷ []) ≡ accepted (nan ∷ nan ∷ [])
unfolding smooth_of swept_of gauss_seidels_of dic_sweeps_of for iter
unasked k d = refl
