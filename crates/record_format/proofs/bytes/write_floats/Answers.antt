-- The invariant: the first k of them are written.
use mathlib.Core.List.{[]}
use borrow.Author.Rules.{rules}
use lib.Ieee.{nan}
use Rattle.record_format.specs.Bytes.{float_bytes}
use Rattle.record_format.proofs.Written.{flat_start, flat_on, flat_end}
use Rattle.record_format.proofs.bytes.write_floats.Goals as goal

pub loop-k-init : goal.loop-k-init
loop-k-init c = flat_start float_bytes nan 8 _ []

pub loop-k-preserved : goal.loop-k-preserved
loop-k-preserved c = search (flat_on float_bytes nan, rules)

pub returns : goal.returns
returns c = search (flat_end float_bytes nan)
