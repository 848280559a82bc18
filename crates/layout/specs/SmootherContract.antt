-- The DIC data of a level at its place: what the function that makes them requires and ensures. Definitions only.
use Rattle.std.specs.Prelude.{Bool, List, ℕ, Float}
use Rattle.refusal.specs.Outcome.{Outcome}
use Rattle.matrix.specs.Kernel.{kernel_at}
use Rattle.dic.specs.Dic.{DicOk}
use Rattle.hierarchy.specs.Steps.{smoother_under}
use Rattle.layout.specs.declared.Place.{Place}
use Rattle.layout.specs.Parts.{kernel_in}

-- The kernel of the level ends below its DIC data, for which there is room.
abbrev pub SmootherOk : List ℕ → ℕ → Place → Type 0
SmootherOk w size p = DicOk w size (kernel_in p) p.dic

-- the DIC data of the level at p where they are needed, else zeros: 16 and 17
abbrev pub smoother_at : Bool → ℕ → List ℕ → List Float → Place → Outcome (List Float)
smoother_at dic level w F p = smoother_under dic level (kernel_at (kernel_in p) w F)
