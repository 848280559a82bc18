use Rattle.record_format.proofs.problem.limits_at.Goals as goal

pub returns : goal.returns
returns c = cc
