-- `questions::space::workspace_at` meets its contract: the temporaries one after the other.
use Rattle.build.proofs.questions.Products.{spaced}
use native.Mathlib.Omega.{arith}
use Rattle.build.proofs.questions.space.workspace_at.Goals as goal

pub returns : goal.returns
returns c = spaced c.requires c.vectors.ensures

pub overflow_mul-offsets : goal.overflow_mul-offsets
overflow_mul-offsets c = omega (arith, c.requires, c.ranges.words, c.ranges.floats)

pub overflow_mul-offsets-2 : goal.overflow_mul-offsets-2
overflow_mul-offsets-2 c = omega (arith, c.requires, c.ranges.words, c.ranges.floats)

pub overflow_add-offsets : goal.overflow_add-offsets
overflow_add-offsets c = omega (arith, c.requires, c.ranges.words, c.ranges.floats)

pub overflow_add-offsets-2 : goal.overflow_add-offsets-2
overflow_add-offsets-2 c = omega (arith, c.requires, c.ranges.words, c.ranges.floats)

pub overflow_sub-offsets : goal.overflow_sub-offsets
overflow_sub-offsets c = omega (arith, c.requires, c.ranges.words, c.ranges.floats)

pub overflow_add-columns : goal.overflow_add-columns
overflow_add-columns c = omega (arith, c.requires, c.ranges.words, c.ranges.floats)

pub overflow_add-columns-2 : goal.overflow_add-columns-2
overflow_add-columns-2 c = omega (arith, c.requires, c.ranges.words, c.ranges.floats)

pub overflow_add-merged_offsets : goal.overflow_add-merged_offsets
overflow_add-merged_offsets c = omega (arith, c.requires, c.ranges.words, c.ranges.floats)

pub overflow_add-merged_columns : goal.overflow_add-merged_columns
overflow_add-merged_columns c = omega (arith, c.requires, c.ranges.words, c.ranges.floats)

pub overflow_add-merged_columns-2 : goal.overflow_add-merged_columns-2
overflow_add-merged_columns-2 c = omega (arith, c.requires, c.ranges.words, c.ranges.floats)

pub overflow_add-map : goal.overflow_add-map
overflow_add-map c = omega (arith, c.requires, c.ranges.words, c.ranges.floats)

pub overflow_add-positions : goal.overflow_add-positions
overflow_add-positions c = omega (arith, c.requires, c.ranges.words, c.ranges.floats)

pub overflow_add-coarse_offsets : goal.overflow_add-coarse_offsets
overflow_add-coarse_offsets c = omega (arith, c.requires, c.ranges.words, c.ranges.floats)

pub overflow_add-coarse_columns : goal.overflow_add-coarse_columns
overflow_add-coarse_columns c = omega (arith, c.requires, c.ranges.words, c.ranges.floats)

pub overflow_add-coarse_columns-2 : goal.overflow_add-coarse_columns-2
overflow_add-coarse_columns-2 c = omega (arith, c.requires, c.ranges.words, c.ranges.floats)

pub overflow_add-scratch : goal.overflow_add-scratch
overflow_add-scratch c = omega (arith, c.requires, c.ranges.words, c.ranges.floats)

pub overflow_mul-starts : goal.overflow_mul-starts
overflow_mul-starts c = omega (arith, c.requires, c.ranges.words, c.ranges.floats)

pub overflow_add-starts : goal.overflow_add-starts
overflow_add-starts c = omega (arith, c.requires, c.ranges.words, c.ranges.floats)

pub overflow_add-diagonals : goal.overflow_add-diagonals
overflow_add-diagonals c = omega (arith, c.requires, c.ranges.words, c.ranges.floats)

pub overflow_add-diagonals-2 : goal.overflow_add-diagonals-2
overflow_add-diagonals-2 c = omega (arith, c.requires, c.ranges.words, c.ranges.floats)

pub overflow_add-neighbors : goal.overflow_add-neighbors
overflow_add-neighbors c = omega (arith, c.requires, c.ranges.words, c.ranges.floats)

pub overflow_mul-values : goal.overflow_mul-values
overflow_mul-values c = omega (arith, c.requires, c.ranges.words, c.ranges.floats, c.vectors.ensures)

pub overflow_add-values : goal.overflow_add-values
overflow_add-values c = omega (arith, c.requires, c.ranges.words, c.ranges.floats, c.vectors.ensures)

pub overflow_sub-values : goal.overflow_sub-values
overflow_sub-values c = omega (arith, c.requires, c.ranges.words, c.ranges.floats, c.vectors.ensures)

pub overflow_add-result : goal.overflow_add-result
overflow_add-result c = omega (arith, c.requires, c.ranges.words, c.ranges.floats, c.vectors.ensures)

pub overflow_mul-result : goal.overflow_mul-result
overflow_mul-result c = omega (arith, c.requires, c.ranges.words, c.ranges.floats, c.vectors.ensures)

pub overflow_add-result-2 : goal.overflow_add-result-2
overflow_add-result-2 c = omega (arith, c.requires, c.ranges.words, c.ranges.floats, c.vectors.ensures)

pub overflow_add-result-3 : goal.overflow_add-result-3
overflow_add-result-3 c = omega (arith, c.requires, c.ranges.words, c.ranges.floats, c.vectors.ensures)

pub overflow_mul-result-2 : goal.overflow_mul-result-2
overflow_mul-result-2 c = omega (arith, c.requires, c.ranges.words, c.ranges.floats, c.vectors.ensures)

pub overflow_add-result-4 : goal.overflow_add-result-4
overflow_add-result-4 c = omega (arith, c.requires, c.ranges.words, c.ranges.floats, c.vectors.ensures)

pub overflow_mul-result-3 : goal.overflow_mul-result-3
overflow_mul-result-3 c = omega (arith, c.requires, c.ranges.words, c.ranges.floats, c.vectors.ensures)

pub overflow_add-result-5 : goal.overflow_add-result-5
overflow_add-result-5 c = omega (arith, c.requires, c.ranges.words, c.ranges.floats, c.vectors.ensures)

pub overflow_mul-result-4 : goal.overflow_mul-result-4
overflow_mul-result-4 c = omega (arith, c.requires, c.ranges.words, c.ranges.floats, c.vectors.ensures)

pub overflow_add-result-6 : goal.overflow_add-result-6
overflow_add-result-6 c = omega (arith, c.requires, c.ranges.words, c.ranges.floats, c.vectors.ensures)

pub overflow_mul-result-5 : goal.overflow_mul-result-5
overflow_mul-result-5 c = omega (arith, c.requires, c.ranges.words, c.ranges.floats, c.vectors.ensures)

pub overflow_add-result-7 : goal.overflow_add-result-7
overflow_add-result-7 c = omega (arith, c.requires, c.ranges.words, c.ranges.floats, c.vectors.ensures)
