-- `solve::solve` meets its contract: questions 20 and 21; then of no levels a report, and else the solve on copies.
use Rattle.solve.proofs.Solving.{not_refused, begin_ok, solve_no, solve_on, solve_empty}
use Rattle.solve.proofs.solve.Goals as goal

pub returns-in-Err : goal.returns-in-Err
returns-in-Err c = solve_no _ _ _ _ _ c.args.s c.requires c.ask_input.ensures c.in-Err.is c.refused.ensures

pub returns-then-h-eq0 : goal.returns-then-h-eq0
returns-then-h-eq0 c = solve_empty _ _ _ _ _ c.args.s c.requires c.ask_input.ensures (not_refused _ c.in_default.not-Err) c.if-h-eq0.true c.empty.ensures

pub begin-requires : goal.begin-requires
begin-requires c = begin_ok c.args.s c.args.rhs.now c.args.x.now c.requires c.if-h-eq0.false c.ask_input.ensures (not_refused _ c.in_default.not-Err)

pub returns : goal.returns
returns c = solve_on _ _ _ _ _ c.args.s c.requires c.ask_input.ensures (not_refused _ c.in_default.not-Err) c.if-h-eq0.false c.begin.ensures
