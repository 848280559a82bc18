-- The invariant: the first k of them are written.
use mathlib.Core.List.{[]}
use borrow.Author.Rules.{rules}
use Rattle.record_format.specs.Bytes.{bytes4}
use Rattle.record_format.proofs.Written.{flat_start, flat_on, flat_end}
use Rattle.record_format.proofs.bytes.write_words.Goals as goal

pub loop-k-init : goal.loop-k-init
loop-k-init c = flat_start bytes4 0 4 _ []

pub loop-k-preserved : goal.loop-k-preserved
loop-k-preserved c = let w = rw c.from.ensures at c.put_u32.ensures in search (flat_on bytes4 0, rules)

pub returns : goal.returns
returns c = search (flat_end bytes4 0)
