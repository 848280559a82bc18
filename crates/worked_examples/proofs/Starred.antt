-- Every starred line holds, by computing. Assumes nothing.
use mathlib.Core.Path.{◌≡◌, refl}
use mathlib.Core.Bool.{true}
use lib.Ieee.{of_bits, to_bits, lt, le, add, sub, mul, div}
use Rattle.float.specs.Float.{abs_of, is_finite, is_positive}
use Rattle.float.specs.Sqrt.{sqrt_of}
use Rattle.store.specs.Loop.{for, iter}
use Rattle.store.specs.Vector.{tab}
use Rattle.aggregation.specs.Pairs.{strengths_of, size_of, consider_of, strongest_of, assign_of, pair_row_of, pairs_of}
use Rattle.aggregation.specs.Turns.{entry_of, turn_of}
use Rattle.pattern.specs.Pattern as pattern
use Rattle.pattern.specs.Steps as pattern-steps
use Rattle.faces.specs.Faces as faces
use Rattle.coefficients.specs.Update.{diagonal_asked, kernel_update_of}
use Rattle.galerkin.specs.Values.{sums_of, average_face, symmetrize_of}
use Rattle.galerkin.specs.Turns.{add_entry}
use Rattle.refusal.specs.Outcome.{ask_rows}
use Rattle.dic.specs.Dic.{is_pivot, pivot_face, pivot_row, pivots_of, reciprocals_of, dic_of}
use Rattle.gauss_seidel.specs.Sweep.{gather_face, cast_face, fresh_of, forward_row, backward_row, gauss_seidel_of}
use Rattle.cholesky.specs.Triangle.{tri}
use Rattle.cholesky.specs.Turns.{less_of, column_of}
use Rattle.cholesky.specs.Factor.{seek_of, get_of, rest_of, columns_of, factor_row_of, rows_of, cholesky_of}
use Rattle.worked_examples.specs.Table.{same, bits, floats, accepted_bits, all, all_of, table, capped_path}

-- Each line of the table computes to true.
pub starred : all_of table ≡ true
unfolding of_bits to_bits lt le add sub mul div abs_of is_finite sqrt_of for iter tab strengths_of consider_of entry_of strongest_of assign_of pair_row_of turn_of pairs_of pattern.some pattern.how_many pattern.those pattern.sum_to pattern.flat pattern.row_of pattern.start_of pattern.column_place_of pattern-steps.joins_by pattern.joins pattern.coarse_offsets pattern.coarse_columns pattern.coarse_positions faces.above faces.faces_of faces.uppers_of faces.face_offsets_of faces.neighbors_of faces.stands_at faces.lowers_of faces.diagonals_of faces.coupled_of faces.coupled_rows_of is_positive diagonal_asked kernel_update_of add_entry sums_of average_face symmetrize_of ask_rows is_pivot pivot_face pivot_row pivots_of reciprocals_of dic_of gather_face cast_face fresh_of forward_row backward_row gauss_seidel_of tri seek_of get_of less_of rest_of column_of columns_of factor_row_of rows_of cholesky_of same bits floats accepted_bits all all_of table
starred = refl

-- With a cap of 2 an end of the path of 3 stands alone.
pub capped_path_lem : all capped_path ≡ true
unfolding of_bits lt for iter tab size_of consider_of entry_of strongest_of assign_of pair_row_of turn_of pairs_of same all
capped_path_lem = refl
