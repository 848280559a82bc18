-- The refusals of documents 01 and 02, each named for what is wrong. Definitions only.
use Rattle.std.specs.Prelude.{ℕ}
use Rattle.refusal.specs.declared.Refusal.{Refusal}

-- question n, at a level and a row of it
abbrev pub question_at : ℕ → ℕ → ℕ → Refusal
question_at n l r = record { number = n; level = l; row = r }

-- question n where it names no place
abbrev pub question : ℕ → Refusal
question n = question_at n 0 0

-- there are more than 65,536 rows or 1,048,576 entries
abbrev pub too_large : Refusal
too_large = question 1

-- the offsets do not rise from 0 to the number of entries, one more than rows, or there are not as many values as columns
abbrev pub bad_offsets : Refusal
bad_offsets = question 2

-- the columns of a row do not rise, or one is not below the number of rows
abbrev pub bad_columns : Refusal
bad_columns = question 3

-- there are not as many weights as entries
abbrev pub weight_count : Refusal
weight_count = question 4

-- a weight is not finite or below zero
abbrev pub bad_weight : Refusal
bad_weight = question 5

-- the controls are outside their ranges
abbrev pub invalid_controls : Refusal
invalid_controls = question 6

-- the coarse solver is not Cholesky
abbrev pub not_cholesky : Refusal
not_cholesky = question 7

-- there is no row
abbrev pub no_rows : Refusal
no_rows = question 8

-- the stores or the statistics are too small
abbrev pub store_too_small : Refusal
store_too_small = question 9

-- an entry off the diagonal has no mirror, differs from it by more than 1e-12, or is not finite
abbrev pub not_symmetric : Refusal
not_symmetric = question 10

-- a diagonal entry is missing
abbrev pub missing_diagonal : ℕ → ℕ → Refusal
missing_diagonal l r = question_at 11 l r

-- a diagonal is not finite or not above zero
abbrev pub bad_diagonal : ℕ → ℕ → Refusal
bad_diagonal l r = question_at 12 l r

-- the reciprocal of a diagonal is not finite
abbrev pub bad_reciprocal : ℕ → ℕ → Refusal
bad_reciprocal l r = question_at 13 l r

-- more rows are coupled on the last level than coarsest_cells allows
abbrev pub too_many_coupled : Refusal
too_many_coupled = question 14

-- a Cholesky pivot is not finite or not above zero
abbrev pub bad_pivot : ℕ → ℕ → Refusal
bad_pivot l r = question_at 15 l r

-- a DIC pivot is not finite or not above zero
abbrev pub bad_dic_pivot : ℕ → ℕ → Refusal
bad_dic_pivot l r = question_at 16 l r

-- the reciprocal of a DIC pivot is not finite
abbrev pub bad_dic_reciprocal : ℕ → ℕ → Refusal
bad_dic_reciprocal l r = question_at 17 l r

-- a Galerkin value is not finite
abbrev pub bad_coarse_value : Refusal
bad_coarse_value = question 18

-- the stores do not hold a hierarchy of this handle
abbrev pub unsound_stores : Refusal
unsound_stores = question 19

-- the right-hand side or the solution has not as many elements as there are rows
abbrev pub wrong_length : Refusal
wrong_length = question 20

-- the iteration limit is zero, a tolerance is not finite or below zero, or a vector is not finite
abbrev pub bad_input : Refusal
bad_input = question 21

-- the normalization is not finite
abbrev pub bad_normalization : Refusal
bad_normalization = question 22

-- the norm of a residual is not finite
abbrev pub bad_residual : Refusal
bad_residual = question 23

-- the solution of the last level is not finite
abbrev pub bad_coarse_solution : Refusal
bad_coarse_solution = question 24

-- what the smoother gives is not finite
abbrev pub bad_smoother_output : Refusal
bad_smoother_output = question 25

-- a product of a correction is not finite
abbrev pub bad_correction_product : Refusal
bad_correction_product = question 26

-- the scale of a correction is not finite
abbrev pub bad_correction_scale : Refusal
bad_correction_scale = question 27

-- a dot product of the accelerator is not finite
abbrev pub bad_dot_product : Refusal
bad_dot_product = question 28

-- the image of a correction is zero
abbrev pub zero_image : Refusal
zero_image = question 29

-- a direction of the accelerator is not finite
abbrev pub bad_direction : Refusal
bad_direction = question 30

-- offsets or columns are not those of the build, or there are not as many values as columns
abbrev pub other_pattern : Refusal
other_pattern = question 31

-- a load's seed or an extent is zero, there are more than 65,536 cells, or the slices are too short
abbrev pub bad_load : Refusal
bad_load = question 35

-- a matrix file has another header, a size line not of three numbers or not square, or an entry that is malformed, repeated, missing or surplus
abbrev pub bad_matrix_file : Refusal
bad_matrix_file = question 38

-- a value of a matrix file is no number of at most 15 digits and a power of ten from -22 to 22
abbrev pub bad_number : Refusal
bad_number = question 39

-- a matrix to be written as symmetric has an entry whose mirror is missing or unequal
abbrev pub unequal_mirrors : Refusal
unequal_mirrors = question 40
