-- `cycle::end` meets its contract.
use Rattle.layout.proofs.Places.{head_within}
use Rattle.cycle.proofs.Steps.{last_room, solve_ok_lem, end_done}
use native.Mathlib.Omega.{arith}
use Rattle.cycle.proofs.end.Goals as goal

pub place_at-p-requires : goal.place_at-p-requires
place_at-p-requires c = c.requires.place

pub overflow_add-a : goal.overflow_add-a
overflow_add-a c = omega (arith, head_within _ _ c.requires.place.words)

pub offset_bounds-w-a : goal.offset_bounds-w-a
offset_bounds-w-a c = omega (arith, head_within _ _ c.requires.place.words)

pub bounds-w-a : goal.bounds-w-a
bounds-w-a c = omega (arith, head_within _ _ c.requires.place.words)

pub level_scratch-v-requires : goal.level_scratch-v-requires
level_scratch-v-requires c = omega (arith, c.well_formed, last_room c.requires c.place_at-p.ensures)

pub solve-r-requires : goal.solve-r-requires
solve-r-requires c = solve_ok_lem c.requires c.place_at-p.ensures c.wide.ensures c.terminal_in-terminal.ensures c.level_scratch-v.ensures

pub returns : goal.returns
returns c = end_done _ c.requires c.place_at-p.ensures c.wide.ensures c.terminal_in-terminal.ensures c.level_scratch-v.ensures c.solve-r.ensures c.count.ensures
