-- What the place of a level that its words tell requires. Definitions only.
use Rattle.std.specs.Prelude.{List, ℕ, ◌≤◌, length}
use Rattle.layout.specs.Layout.{locate, words_end}

-- The words of the level at a end in the store, and where its floats end, a factor apart, is an index.
pub record PlaceOk (w : List ℕ) (a b : ℕ) : Type 0 where
  pub words : words_end w a ≤ length w
  pub floats : (locate w a b).factor ≤ 18446744073709551615
