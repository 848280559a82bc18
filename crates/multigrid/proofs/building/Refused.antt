-- A refused build leaves nothing behind.
-- Assumes nothing.
use Rattle.options.specs.declared.options.Handle.{Handle}
use Rattle.std.specs.Prelude.{Result, Err}
use mathlib.Core.Path.{◌≡◌, sym, ap, ◌∙◌}
use mathlib.Core.List.{List}
use Prim.Native.Nat.{ℕ}
use lib.ListN.{length}
use lib.Ieee.{Float}
use Rattle.refusal.specs.declared.Refusal.{Refusal}
use Rattle.hierarchy.specs.Build.{Input, build_of}
use Rattle.solver.specs.declared.statistics.MultigridLevelStatistics.{MultigridLevelStatistics}
use Rattle.build.specs.Built.{lent_of}
use Rattle.multigrid.specs.New.{statistics_of, NewDone}
use Rattle.multigrid.specs.Stores.{Zeroed}
use Rattle.multigrid.proofs.building.Builds.{refused_is}

-- Where a build refuses every word of both stores and every record of the statistics is zero.
pub refused_zeroed : {w z : List ℕ} {F G : List Float} {s t : List MultigridLevelStatistics} {x : Input} {r : Result Handle Refusal} {q : Refusal}
    → NewDone w z F G s t x r → r ≡ Err q → Zeroed w z F G s t
unfolding statistics_of
refused_zeroed {w} {z} {F} {G} {s} {t} {x} {r} {q} d e =
    let none = refused_is x (build_of (lent_of w F (length s)) x) (sym e ∙ d.built.answer) in
    record {
      words = d.built.words q none;
      floats = d.built.floats q none;
      statistics = d.statistics ∙ ap (statistics_of (length s)) none;
    }
