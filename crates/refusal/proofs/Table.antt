-- The table of refusals: the numbers run from 1 to 31, then comes 35, and level and row stand where the question names a place. Assumes nothing.
use mathlib.Core.Path.{◌≡◌, refl}
use mathlib.Core.List.{List, [], ◌∷◌}
use Prim.Native.Nat.{ℕ}
use Rattle.refusal.specs.declared.Refusal.{Refusal}
use Rattle.refusal.specs.Refusal.{question_at, too_large, bad_offsets, bad_columns, weight_count, bad_weight, invalid_controls, not_cholesky, no_rows, store_too_small, not_symmetric, missing_diagonal, bad_diagonal, bad_reciprocal, too_many_coupled, bad_pivot, bad_dic_pivot, bad_dic_reciprocal, bad_coarse_value, unsound_stores, wrong_length, bad_input, bad_normalization, bad_residual, bad_coarse_solution, bad_smoother_output, bad_correction_product, bad_correction_scale, bad_dot_product, zero_image, bad_direction, other_pattern, bad_load}

-- the refusals at level l and row r, in the order of documents 01 and 02
abbrev table : ℕ → ℕ → List Refusal
table l r =
    too_large ∷ bad_offsets ∷ bad_columns ∷ weight_count ∷ bad_weight ∷ invalid_controls ∷ not_cholesky ∷ no_rows ∷ store_too_small ∷ not_symmetric ∷ (missing_diagonal l r) ∷ (bad_diagonal l r) ∷ (bad_reciprocal l r) ∷ too_many_coupled ∷ (bad_pivot l r) ∷ (bad_dic_pivot l r) ∷ (bad_dic_reciprocal l r) ∷ bad_coarse_value ∷ unsound_stores ∷ wrong_length ∷ bad_input ∷ bad_normalization ∷ bad_residual ∷ bad_coarse_solution ∷ bad_smoother_output ∷ bad_correction_product ∷ bad_correction_scale ∷ bad_dot_product ∷ zero_image ∷ bad_direction ∷ other_pattern ∷ bad_load ∷ []

-- question n of document 01 is the n-th of them, and the six that name a place carry it; document 02's follow by number
in_order : (l r : ℕ) → table l r ≡ question_at 1 0 0 ∷ question_at 2 0 0 ∷ question_at 3 0 0 ∷ question_at 4 0 0 ∷ question_at 5 0 0 ∷ question_at 6 0 0 ∷ question_at 7 0 0 ∷ question_at 8 0 0 ∷ question_at 9 0 0 ∷ question_at 10 0 0 ∷ question_at 11 l r ∷ question_at 12 l r ∷ question_at 13 l r ∷ question_at 14 0 0 ∷ question_at 15 l r ∷ question_at 16 l r ∷ question_at 17 l r ∷ question_at 18 0 0 ∷ question_at 19 0 0 ∷ question_at 20 0 0 ∷ question_at 21 0 0 ∷ question_at 22 0 0 ∷ question_at 23 0 0 ∷ question_at 24 0 0 ∷ question_at 25 0 0 ∷ question_at 26 0 0 ∷ question_at 27 0 0 ∷ question_at 28 0 0 ∷ question_at 29 0 0 ∷ question_at 30 0 0 ∷ question_at 31 0 0 ∷ question_at 35 0 0 ∷ []
in_order l r = refl
