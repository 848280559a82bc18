use Rattle.acceleration.proofs.directions.Passes.{Passing}
use Rattle.acceleration.proofs.directions.pass.Given as goal

abbrev pub invariant-loop-index : goal.invariant-loop-index
invariant-loop-index l =
    Passing l.g.rows l.used l.index l.g.directions l.g.images l.pair.direction l.pair.image l.initial.f l.f
