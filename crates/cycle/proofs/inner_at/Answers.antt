-- `cycle::inner_at` meets its contract.
use Rattle.cycle.proofs.Steps.{after_within, vectors_fit, inner_is}
use native.Mathlib.Omega.{arith}
use Rattle.cycle.proofs.inner_at.Goals as goal

pub place_at-p-requires : goal.place_at-p-requires
place_at-p-requires c = c.requires.place

pub overflow_add-after : goal.overflow_add-after
overflow_add-after c = omega (arith, after_within c.requires c.place_at-p.ensures)

pub offset_bounds-w-after : goal.offset_bounds-w-after
offset_bounds-w-after c = omega (arith, after_within c.requires c.place_at-p.ensures)

pub bounds-w-after : goal.bounds-w-after
bounds-w-after c = omega (arith, after_within c.requires c.place_at-p.ensures)

pub level_scratch-vectors-requires : goal.level_scratch-vectors-requires
level_scratch-vectors-requires c = omega (arith, vectors_fit c.requires c.place_at-p.ensures c.wide-next.ensures)

pub overflow_mul-p : goal.overflow_mul-p
overflow_mul-p c = omega (arith, vectors_fit c.requires c.place_at-p.ensures c.wide-next.ensures)

pub overflow_add-s : goal.overflow_add-s
overflow_add-s c = omega (arith, vectors_fit c.requires c.place_at-p.ensures c.wide-next.ensures)

pub level_scratch-below-requires : goal.level_scratch-below-requires
level_scratch-below-requires c = vectors_fit c.requires c.place_at-p.ensures c.wide-next.ensures

pub returns : goal.returns
returns c = inner_is c.args.w.now _ _ _ c.place_at-p.ensures c.kernel_in-matrix.ensures c.wide-next.ensures c.level_scratch-vectors.ensures c.level_scratch-below.ensures
