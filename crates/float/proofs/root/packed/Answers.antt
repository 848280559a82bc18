-- `root::packed` meets its contract: the bits that it makes are those of the nearest root.
use mathlib.Core.Path.{◌∙◌}
use native.Mathlib.Omega.{arith}
use borrow.Author.Rules.{rules}
use Rattle.float.proofs.root.Pack.{Even, twice, once, short, bits_are, nearest_is, no_nan}
use Rattle.float.proofs.root.packed.Goals as goal
use Rattle.float.proofs.root.packed.Goals.{then-n-eq1, else-n-eq1}

-- What the root is taken of, where the branches join.
even : (c : goal.Joined-n-eq1) → Even c.args.m c.args.n c.if-n-eq1.even
even c =
    elim c.if-n-eq1.branch [
      | then-n-eq1 w ↦ twice c.args.m c.args.n c.if-n-eq1.even c.requires w.if-n-eq1.true w.even-is
      | else-n-eq1 w ↦ once c.args.m c.args.n c.if-n-eq1.even c.requires w.if-n-eq1.false w.even-is
    ]

-- The same behind the call.
even_then : (c : goal.After-root) → Even c.args.m c.args.n c.if-n-eq1.even
even_then c =
    elim c.if-n-eq1.branch [
      | then-n-eq1 w ↦ twice c.args.m c.args.n c.if-n-eq1.even c.requires w.if-n-eq1.true w.even-is
      | else-n-eq1 w ↦ once c.args.m c.args.n c.if-n-eq1.even c.requires w.if-n-eq1.false w.even-is
    ]

pub returns : goal.returns
returns c = bits_are (even_then c) c.root.ensures ∙ nearest_is (even_then c) c.root.ensures

pub root-requires : goal.root-requires
root-requires c = let e = (even c).high in omega arith

pub overflow_add-q : goal.overflow_add-q
overflow_add-q c = let a = short (even_then c) c.root.ensures in omega arith

pub overflow_add-result : goal.overflow_add-result
overflow_add-result c = let a = short (even_then c) c.root.ensures in search rules

pub float_from_bits-result : goal.float_from_bits-result
float_from_bits-result c = no_nan (even_then c) c.root.ensures
