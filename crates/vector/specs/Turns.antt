-- Products and norms: the turns of the loops, by the names that proofs have for them. Definitions only.
use Rattle.std.specs.Prelude.{List, ℕ, ◌+◌, ◌*◌, min, Float}
use Rattle.float.specs.Float.{add64, mul64}
use Rattle.store.specs.Region.{at}
use Rattle.vector.specs.declared.vector.Sums.{Sums}
use Rattle.vector.specs.Dot.{block_of}

-- the block from lo on and the next
abbrev pub blocks_of : List Float → List Float → ℕ → Sums
blocks_of u v lo = record { first = block_of u v lo (lo + 1024); second = block_of u v (lo + 1024) (lo + 2048) }

-- one product more
unfoldable pub term_of : List Float → List Float → ℕ → Float → Float
term_of u v k sum = add64 sum (mul64 (at u k) (at v k))

-- block i more: 1,024 products, or what is left of the n
unfoldable pub block_turn : ℕ → List Float → List Float → ℕ → Float → Float
block_turn n u v i sum = add64 sum (block_of u v (i * 1024) (min (i * 1024 + 1024) n))
