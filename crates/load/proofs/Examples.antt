-- Worked examples: the draws of seed 1, and its load on two cells by two. They hold by computing. Assumes nothing.
use Rattle.std.proofs.Common.{◌≡◌, [], ◌∷◌, pos, negsuc, refl}
use Rattle.pattern.specs.Pattern.{sum_to}
use Rattle.load.specs.Box.{axes_from, along, has_ahead, has_behind, ahead_of, behind_of, cells_of, box}
use Rattle.load.specs.Draw.{next_of, state_of, draw_of}
use Rattle.load.specs.Load.{joined, place_in, total, draws_before, face_of, conductance_of, columns_in, own_of, wholes_in, pattern_of, wholes_of}

-- the first three draws of seed 1
draw_first : draw_of 1 0 ≡ 0x4082_2042
unfolding draw_of state_of next_of
draw_first = refl

draw_second : draw_of 1 1 ≡ 0x1000_4106_0c01_1442
unfolding draw_of state_of next_of
draw_second = refl

draw_third : draw_of 1 2 ≡ 0x9b1e_842f_6e86_262a
unfolding draw_of state_of next_of
draw_third = refl

-- the columns of two cells by two
two_by_two : (pattern_of (box (2 ∷ 2 ∷ []))).columns ≡ 0 ∷ 1 ∷ 2 ∷ 0 ∷ 1 ∷ 3 ∷ 0 ∷ 2 ∷ 3 ∷ 1 ∷ 2 ∷ 3 ∷ []
unfolding joined columns_in axes_from along has_ahead has_behind ahead_of behind_of cells_of
two_by_two = refl

-- and their entries: 135 −67 −67; −67 623 −555; −67 107 −39; −555 −39 595
two_by_two_rows : wholes_of 1 (box (2 ∷ 2 ∷ [])) ≡
    pos 135 ∷ negsuc 66 ∷ negsuc 66
    ∷ negsuc 66 ∷ pos 623 ∷ negsuc 554
    ∷ negsuc 66 ∷ pos 107 ∷ negsuc 38
    ∷ negsuc 554 ∷ negsuc 38 ∷ pos 595
    ∷ []
unfolding wholes_of joined wholes_in own_of total conductance_of face_of draws_before place_in sum_to draw_of state_of next_of axes_from along has_ahead has_behind ahead_of behind_of cells_of
two_by_two_rows = refl
