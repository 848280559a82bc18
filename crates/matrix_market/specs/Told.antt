-- What is told of a line that is no entry, where its places are not. Definitions only.
use Rattle.matrix_market.specs.declared.entries.EntryError.{EntryError}
use Rattle.matrix_market.specs.declared.placed.PlacedError.{PlacedError}

-- the same without the places
abbrev pub told_of : PlacedError → EntryError
told_of PlacedError.Malformed = EntryError.Malformed
told_of (PlacedError.BadValue row column) = EntryError.BadValue
