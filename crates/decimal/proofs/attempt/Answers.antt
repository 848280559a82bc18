-- `decimal::attempt` meets its contract: each way out is a case of `number_of`.
use mathlib.Core.Path.{◌∙◌}
use Rattle.decimal.proofs.Writing.{at_above, at_below, at_none}
use Rattle.decimal.proofs.attempt.Goals as goal

pub returns-in-Some : goal.returns-in-Some
returns-in-Some c = at_above _ _ c.find.ensures c.in-Some.is

pub returns-in_err-m : goal.returns-in_err-m
returns-in_err-m c = c.from_residual.ensures ∙ at_none _ _ c.find.ensures c.in_default.is c.find-2.ensures c.in_err-m.was

pub returns : goal.returns
returns c = at_below _ _ c.find.ensures c.in_default.is c.find-2.ensures c.in_ok-m.was
