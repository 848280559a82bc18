use Rattle.coarsening.proofs.merging.+merge.Given as goal

-- the steps left
abbrev pub decreases-merge : goal.decreases-merge
decreases-merge l = l.steps
