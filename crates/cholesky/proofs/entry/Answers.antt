-- `cholesky::entry` meets its contract.
use native.Mathlib.Omega.{arith}
use Rattle.cholesky.proofs.Entries.{seek_ok, entry_done}
use Rattle.cholesky.proofs.entry.Goals as goal

pub index_at-own-requires : goal.index_at-own-requires
index_at-own-requires c =
    record { k_in_bounds = omega (arith, c.requires.terminal_ok.coupled, c.requires.row_lt_size); k_bound = c.requires.terminal_ok.near _ c.requires.row_lt_size }

pub seek-requires : goal.seek-requires
seek-requires c = search (seek_ok)

pub returns : goal.returns
returns c = search (entry_done)
