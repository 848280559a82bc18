use Rattle.cycle.proofs.+cycle.Given as goal

abbrev pub decreases-cycle : goal.decreases-cycle
decreases-cycle l = l.left
