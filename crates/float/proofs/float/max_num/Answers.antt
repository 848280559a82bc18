-- `float::max_num` meets its contract: its test picks as `maxNum` does.
use mathlib.Core.Bool.{true, false}
use Rattle.float.proofs.float.Compare.{picked}
use Rattle.float.proofs.float.max_num.Goals as goal

pub returns-then-is_nan-a : goal.returns-then-is_nan-a
returns-then-is_nan-a c = picked c.args.a c.args.b true c.is_nan.ensures.value c.if-is_nan-a.true

pub returns-else-is_nan-a : goal.returns-else-is_nan-a
returns-else-is_nan-a c = picked c.args.a c.args.b false c.is_nan.ensures.value c.if-is_nan-a.false
