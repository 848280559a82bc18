-- `questions::space::square` meets its contract: the product does not wrap.
use Rattle.build.proofs.questions.Products.{square_few, square_law}
use native.Mathlib.Omega.{arith}
use Rattle.build.proofs.questions.space.square.Goals as goal

pub overflow_mul-result : goal.overflow_mul-result
overflow_mul-result c = omega (arith, square_few _ c.requires)

pub returns : goal.returns
returns c = square_law _ c.requires
