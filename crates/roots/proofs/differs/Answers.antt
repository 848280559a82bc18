-- `roots::differs` meets its contract, by those of its callees.
use Rattle.roots.specs.Replay.{differs_of}
use Rattle.roots.proofs.Replay.{byte_of_not}
use Rattle.roots.proofs.differs.Goals as goal

pub returns : goal.returns
unfolding differs_of
returns c = rw (c.from.ensures, c.to_bits.ensures, c.sqrt.ensures, c.of_bits.ensures) (byte_of_not _)
