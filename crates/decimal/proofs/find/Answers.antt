-- `decimal::find` meets its contract: where the bisection ends, either the number is v, or no number is.
use native.Mathlib.Omega.{arith}
use Rattle.decimal.proofs.Search.{found_here, none_here, none_beyond}
use Rattle.decimal.proofs.find.Goals as goal
use Rattle.decimal.proofs.find.Goals.{else-m-lt1000000000000000-via-then-m-lt1000000000000000+else-read-v, else-m-lt1000000000000000-via-else-m-lt1000000000000000}

pub returns-then-read-v : goal.returns-then-read-v
returns-then-read-v c = found_here c.reach-m.ensures (omega arith) c.read.ensures c.if-read-v.true

pub returns-else-m-lt1000000000000000 : goal.returns-else-m-lt1000000000000000
returns-else-m-lt1000000000000000 c = elim c.else-m-lt1000000000000000.branch [
  | else-m-lt1000000000000000-via-then-m-lt1000000000000000+else-read-v w ↦ none_here c.reach-m.ensures (omega arith) w.read.ensures w.if-read-v.false
  | else-m-lt1000000000000000-via-else-m-lt1000000000000000 w ↦ none_beyond c.reach-m.ensures (omega arith)
]
