-- The sizes that question 19 asks, and what asking requires. Definitions only.
use Rattle.std.specs.Prelude.{◌≡◌, Bool, true, ◌&&◌, List, ℕ, eqb, leb, Ok}
use Rattle.options.specs.declared.options.Handle.{Handle}
use Rattle.layout.specs.Layout.{rows_at, entries_at}
use Rattle.index_check.specs.Sound.{heads_walked, walk_of, handle_sound, cycle_start, scratch_end}

-- the sizes that question 19 asks: the finest level is that of the handle, and the scratch of a solve ends in the floats
abbrev pub sizes_asked : Handle → List ℕ → ℕ → Bool
sizes_asked h w size =
    eqb (rows_at w 0) h.rows && eqb (entries_at w 0) h.entries
    && leb (scratch_end h.levels w 0 (cycle_start h.options.krylov_dimension h.levels w)) size

-- The walk went through the heads of so many levels.
pub record HeadsOk (w : List ℕ) (levels : ℕ) : Type 0 where
  pub heads : heads_walked levels w 0 0 ≡ Ok tt

-- A handle that passes, and levels that the walk went through.
pub record SizesOk (h : Handle) (w : List ℕ) : Type 0 where
  pub handle : handle_sound h ≡ true
  pub sound : walk_of h.levels w 0 0 ≡ Ok tt
