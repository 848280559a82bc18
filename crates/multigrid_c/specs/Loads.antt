-- What the exported load ensures: what the call ensures, and its answer as a struct. Definitions only.
use Rattle.load.specs.declared.loading.Size.{Size}
use Rattle.refusal.specs.declared.Refusal.{Refusal}
use Rattle.std.specs.Prelude.{◌≡◌, List, ℕ, Float, Result, Ok, Err}
use Rattle.refusal.specs.Outcome.{Outcome}
use Rattle.export.specs.Structs.{nothing_refused, refused_by}
use Rattle.load.specs.Load.{Load}
use Rattle.load.specs.Call.{loaded_of, Loading}
use Rattle.multigrid_c.specs.declared.loads.LoadedForC.{LoadedForC}

-- a load's answer: its rows and entries; where it is refused, both are 0
abbrev pub loaded_struct : Result Size Refusal → LoadedForC
loaded_struct (Ok size) = record { answer = nothing_refused; rows = size.rows; entries = size.entries }
loaded_struct (Err q) = record { answer = refused_by q; rows = 0; entries = 0 }

-- What a load ensures: what the call ensures, and its answer as a struct.
pub record LoadExported (o : Outcome Load) (O O' C C' : List ℕ) (F F' : List Float) (r : LoadedForC) : Type 0 where
  pub done : Loading o O O' C C' F F' (loaded_of o)
  pub told : r ≡ loaded_struct (loaded_of o)
