-- The hierarchy in the stores, as a solve has it. Definitions only.
use Rattle.std.specs.Prelude.{List, ℕ, Float}
use Rattle.options.specs.declared.options.Handle.{Handle}
use Rattle.layout.specs.Layout.{view_of}
use Rattle.iterations.specs.Iteration.{System, system_of}

-- the hierarchy in the stores, as a solve has it
abbrev pub system_at : Handle → List ℕ → List Float → System
system_at h w F = system_of h.options (view_of h.levels w F 0)
