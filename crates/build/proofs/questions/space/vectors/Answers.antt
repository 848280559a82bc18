-- `questions::space::vectors` meets its contract: the product does not wrap.
use Rattle.build.proofs.questions.Products.{vectors_few, vectors_law}
use native.Mathlib.Omega.{arith}
use Rattle.build.proofs.questions.space.vectors.Goals as goal

pub overflow_mul-result-2 : goal.overflow_mul-result-2
overflow_mul-result-2 c = omega (arith, vectors_few c.requires)

pub returns : goal.returns
returns c = vectors_law c.requires
