-- `stepping::places::regions` meets its contract: no place wraps, and each is the definition's.
use mathlib.Core.Path.{refl, ◌∙◌, ap}
use Rattle.layout.specs.Parts.{kernel_in}
use Rattle.iterations.proofs.stepping.Placing.{levels_ok, memory_ok, first_ok, places_fit, places_are}
use native.Mathlib.Omega.{arith}
use Rattle.iterations.proofs.stepping.places.regions.Goals as goal

pub shadow_start-image-requires : goal.shadow_start-image-requires
shadow_start-image-requires c = levels_ok c.requires

pub overflow_mul-start : goal.overflow_mul-start
overflow_mul-start c = omega (arith, places_fit c.requires c.shadow_start-image.ensures refl)

pub cycle_start-residual-requires : goal.cycle_start-residual-requires
cycle_start-residual-requires c = memory_ok c.requires

pub place_at-requires : goal.place_at-requires
place_at-requires c = first_ok c.requires

pub overflow_sub-result : goal.overflow_sub-result
overflow_sub-result c = omega (arith, places_fit c.requires c.shadow_start-image.ensures c.cycle_start-residual.ensures)

pub overflow_add-result : goal.overflow_add-result
overflow_add-result c = omega (arith, places_fit c.requires c.shadow_start-image.ensures c.cycle_start-residual.ensures)

pub overflow_mul-result : goal.overflow_mul-result
overflow_mul-result c = omega (arith, places_fit c.requires c.shadow_start-image.ensures c.cycle_start-residual.ensures)

pub overflow_add-result-2 : goal.overflow_add-result-2
overflow_add-result-2 c = omega (arith, places_fit c.requires c.shadow_start-image.ensures c.cycle_start-residual.ensures)

pub overflow_mul-result-2 : goal.overflow_mul-result-2
overflow_mul-result-2 c = omega (arith, places_fit c.requires c.shadow_start-image.ensures c.cycle_start-residual.ensures)

pub overflow_add-result-3 : goal.overflow_add-result-3
overflow_add-result-3 c = omega (arith, places_fit c.requires c.shadow_start-image.ensures c.cycle_start-residual.ensures)

pub overflow_mul-result-3 : goal.overflow_mul-result-3
overflow_mul-result-3 c = omega (arith, places_fit c.requires c.shadow_start-image.ensures c.cycle_start-residual.ensures)

pub overflow_add-result-4 : goal.overflow_add-result-4
overflow_add-result-4 c = omega (arith, places_fit c.requires c.shadow_start-image.ensures c.cycle_start-residual.ensures)

pub overflow_add-result-5 : goal.overflow_add-result-5
overflow_add-result-5 c = omega (arith, places_fit c.requires c.shadow_start-image.ensures c.cycle_start-residual.ensures)

pub overflow_mul-result-4 : goal.overflow_mul-result-4
overflow_mul-result-4 c = omega (arith, places_fit c.requires c.shadow_start-image.ensures c.cycle_start-residual.ensures)

pub overflow_add-result-6 : goal.overflow_add-result-6
overflow_add-result-6 c = omega (arith, places_fit c.requires c.shadow_start-image.ensures c.cycle_start-residual.ensures)

pub returns : goal.returns
returns c = places_are c.requires c.shadow_start-image.ensures c.cycle_start-residual.ensures (c.kernel_in-matrix.ensures ∙ ap kernel_in c.place_at.ensures)
