-- `matrix_market::lines::first_line` meets its contract: up to the first line feed, or to the end.
use mathlib.Core.Path.{sym}
use native.Mathlib.Omega.{arith}
use lib.Seq.{length-take-le}
use Rattle.decimal_text.proofs.Digits.{place_within}
use Rattle.matrix_market.proofs.Data.{first_is}
use Rattle.matrix_market.proofs.lines.first_line.Goals as goal

pub slice_bounds-return_length-end : goal.slice_bounds-return_length-end
slice_bounds-return_length-end c = sym (length-take-le c.find_either-stop.result c.args.text.now (omega (arith, c.find_either-stop.ensures, place_within 10 10 c.args.text.now)))

pub returns : goal.returns
returns c = first_is c.args.text.now c.find_either-stop.ensures c.return_length.ensures
