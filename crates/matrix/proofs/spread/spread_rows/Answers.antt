-- `spread::spread_rows` meets its contract.
use Rattle.matrix.proofs.matrix.Turns.{vectors_resize, spreading_start, spreading_on, spreading_end}
use native.Mathlib.Omega.{arith}
use borrow.Author.Rules.{rules}
use Rattle.matrix.proofs.spread.spread_rows.Goals as goal

pub loop-row-init : goal.loop-row-init
loop-row-init g c = spreading_start c.wide-lo.ensures

pub spread_row-lo-requires : goal.spread_row-lo-requires
spread_row-lo-requires g c =
    record { vectors_ok = vectors_resize c.requires c.loop-row.invariant.size; row_lt_rows = omega arith; lo_value = c.loop-row.invariant.from }

pub loop-row-preserved : goal.loop-row-preserved
loop-row-preserved g c = spreading_on c.loop-row.invariant (omega arith) c.spread_row-lo.ensures (search rules)

pub returns : goal.returns
returns g c = spreading_end c.loop-row.invariant (omega arith)
