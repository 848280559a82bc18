-- What a caller holds of a store, and what a function that stores one float ensures. Definitions only.
use Rattle.std.specs.Prelude.{◌≡◌, Bool, true, List, ℕ, set, Float}
use Rattle.store.specs.Region.{at}

-- A caller that is near holds what stands at `watched`.
pub record Held (near : Bool) (watched : ℕ) (F : List Float) (held : Float) : Type 0 where
  pub is : near ≡ true → held ≡ at F watched

-- What a function that stores v at i ensures: of F it made G, and r is what a caller that is near then holds.
pub record Put (i : ℕ) (v : Float) (near : Bool) (watched : ℕ) (F G : List Float) (r : Float) : Type 0 where
  pub is : G ≡ set F i v
  pub held : Held near watched G r
