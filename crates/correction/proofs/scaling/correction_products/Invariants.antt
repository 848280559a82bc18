use Rattle.store.specs.Region.{part}
use Rattle.store.proofs.store.Loop.{Left}
use Rattle.correction.specs.Scaling.{both, products_turn, products_of}
use Rattle.correction.proofs.scaling.correction_products.Given as goal

abbrev pub invariant-loop-row : goal.invariant-loop-row
invariant-loop-row l =
    Left (products_turn (part l.correction l.n l.f) (part l.residual l.n l.f) (part l.product l.n l.f)) l.row l.n (both l.numerator l.denominator)
    (products_of l.n (part l.correction l.n l.f) (part l.residual l.n l.f) (part l.product l.n l.f))
