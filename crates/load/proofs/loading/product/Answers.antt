-- `load::loading::product` meets its contract.
use Rattle.std.proofs.Common.{sym, refl, zero-mul, arith}
use Rattle.load.proofs.loading.Asking.{capped_small, product_large, product_small}
use Rattle.load.proofs.loading.product.Goals as goal

pub returns-then-a-eq0 : goal.returns-then-a-eq0
returns-then-a-eq0 c = rw (c.if-a-eq0.true, zero-mul c.args.b) refl

pub overflow_mul-result : goal.overflow_mul-result
overflow_mul-result c = omega (arith, product_small c.args.a c.args.b c.if-a-eq0.false c.if-a-b.false)

pub returns-then-a-b : goal.returns-then-a-b
returns-then-a-b c = product_large c.args.a c.args.b c.if-a-eq0.false c.if-a-b.true

pub returns-else-a-b : goal.returns-else-a-b
returns-else-a-b c = sym (capped_small _ (product_small c.args.a c.args.b c.if-a-eq0.false c.if-a-b.false))
