-- `matrix_market::lines::line_at` meets its contract: up to the line feed, without the carriage return.
use Rattle.matrix_market.proofs.Data.{line_is, stop_found, to_found}
use native.Mathlib.Omega.{arith}
use mathlib.Core.Path.{refl}
use Rattle.matrix_market.proofs.lines.line_at.Goals as goal

pub overflow_add-stop : goal.overflow_add-stop
overflow_add-stop c = omega (arith, (stop_found c.args.text.now c.args.from c.requires c.find_either.ensures).1)

pub slice_bounds-return_length-end : goal.slice_bounds-return_length-end
slice_bounds-return_length-end c = omega (arith, (stop_found c.args.text.now c.args.from c.requires c.find_either.ensures).1)

pub overflow_add-to : goal.overflow_add-to
overflow_add-to c = omega (arith, (stop_found c.args.text.now c.args.from c.requires c.find_either.ensures).1, (to_found c.args.text.now c.args.from c.requires c.find_either.ensures c.return_length.ensures).1)

pub returns : goal.returns
returns c = let t = c.args.text.now in let f = c.args.from in line_is t f _ c.requires refl (to_found t f c.requires c.find_either.ensures c.return_length.ensures).0 (omega (arith, c.min-next.ensures, (stop_found t f c.requires c.find_either.ensures).0))
