-- `roots::worked` meets its contract: each check is true, by computing.
use mathlib.Core.Path.{ap, ◌∙◌}
use lib.Ieee.{binary64, of_bits, to_bits, neg}
use borrow.Author.Tests.{eq-eqb}
use Rattle.float.specs.Sqrt.{sqrt_of}
use Rattle.roots.proofs.worked.Goals as goal

pub expect-requires : goal.expect-requires
unfolding of_bits to_bits sqrt_of
expect-requires c =
    eq-eqb c.to_bits.result 0x3ff6_a09e_667f_3bcd (c.to_bits.ensures ∙ ap (to_bits binary64) c.sqrt.ensures)

pub expect-requires-2 : goal.expect-requires-2
unfolding of_bits to_bits sqrt_of
expect-requires-2 c =
    eq-eqb c.to_bits-2.result 0x1e60_0000_0000_0000
    (c.to_bits-2.ensures ∙ ap (to_bits binary64) (c.sqrt-2.ensures ∙ ap sqrt_of c.of_bits.ensures))

pub expect-requires-3 : goal.expect-requires-3
unfolding of_bits to_bits sqrt_of neg
expect-requires-3 c =
    eq-eqb c.to_bits-3.result 0x8000_0000_0000_0000 (c.to_bits-3.ensures ∙ ap (to_bits binary64) c.sqrt-3.ensures)
