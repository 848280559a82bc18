-- The invariant: the first k of them are written.
use mathlib.Core.List.{[]}
use borrow.Author.Rules.{rules}
use Rattle.record_format.specs.Bytes.{bytes8}
use Rattle.record_format.proofs.Written.{flat_start, flat_on, flat_end}
use Rattle.record_format.proofs.bytes.write_longs.Goals as goal

pub loop-k-init : goal.loop-k-init
loop-k-init c = flat_start bytes8 0 8 _ []

pub loop-k-preserved : goal.loop-k-preserved
loop-k-preserved c = search (flat_on bytes8 0, rules)

pub returns : goal.returns
returns c = search (flat_end bytes8 0)
