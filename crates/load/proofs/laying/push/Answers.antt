-- `load::laying::push` meets its contract.
use Rattle.std.proofs.Common.{◌≡◌, refl, arith}
use Rattle.load.specs.Steps.{one}
use Rattle.load.proofs.laying.Pushes.{pushed_one, pushed_none}
use Rattle.load.proofs.laying.push.Goals as goal

pub bounds-columns-p : goal.bounds-columns-p
bounds-columns-p c = let h : one c.args.there ≡ 1 = rw c.if-there.true refl in omega arith

pub bounds-values-p : goal.bounds-values-p
bounds-values-p c = let h : one c.args.there ≡ 1 = rw c.if-there.true refl in omega arith

pub returns-then-there : goal.returns-then-there
returns-then-there c = let a = c.args in pushed_one a.p a.column a.value a.columns.now a.values.now c.if-there.true

pub returns-else-there : goal.returns-else-there
returns-else-there c = let a = c.args in pushed_none a.p a.column a.value a.columns.now a.values.now c.if-there.false
