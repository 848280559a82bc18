-- `sound::place::word_at` meets its contract: a word of the store is below 2^32.
use native.Mathlib.Omega.{arith}
use Rattle.index_check.proofs.sound.place.word_at.Goals as goal

pub returns : goal.returns
returns c = record {
  is = c.wide.ensures;
  small = omega
      (arith, c.wide.ensures, c.shared_slice_known-1.given c.args.i);
}
