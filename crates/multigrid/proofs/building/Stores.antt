-- A build depends on its input and on how much is lent, and not on what the stores and the statistics held before.
-- Assumes nothing.
use Rattle.refusal.specs.declared.Refusal.{Refusal}
use Rattle.std.specs.Prelude.{Result}
use mathlib.Core.Path.{◌≡◌, sym, ap, ◌∙◌}
use mathlib.Core.List.{List}
use Prim.Native.Nat.{ℕ}
use lib.ListN.{length}
use lib.Ieee.{Float}
use Rattle.options.specs.declared.options.Handle.{Handle}
use Rattle.hierarchy.specs.Build.{Input, build_of}
use Rattle.solver.specs.declared.statistics.MultigridLevelStatistics.{MultigridLevelStatistics}
use Rattle.build.specs.Built.{built_of, lent_of}
use Rattle.multigrid.specs.New.{NewDone}
use Rattle.multigrid.specs.Stores.{Same}
use Rattle.multigrid.proofs.building.Builds.{made_is}

-- Two calls with the same input, in stores and statistics of the same lengths, whatever these held, give the same answer and the same
-- statistics, and where accepted the same hierarchy.
pub build_same : {w z w' z' : List ℕ} {F G F' G' : List Float} {s t s' t' : List MultigridLevelStatistics} {x : Input} {r r' : Result Handle Refusal}
    → NewDone w z F G s t x r → NewDone w' z' F' G' s' t' x r' → length w' ≡ length w → length F' ≡ length F → length s' ≡ length s
    → Same z z' G G' t t' r r'
build_same {w} {z} {w'} {z'} {F} {G} {F'} {G'} {s} {t} {s'} {t'} {x} {r} {r'} d d' words floats records =
    let l = lent_of w F (length s) in
    let same : build_of (lent_of w' F' (length s')) x ≡ build_of l x = rw (words, floats, records) in
    record {
      answer = d'.built.answer ∙ ap (built_of x) same ∙ sym d.built.answer;
      statistics = d'.statistics ∙ rw (same, records) (sym d.statistics);
      view = λ h e.
          let m = made_is x (build_of l x) (sym e ∙ d.built.answer) in
          let levels = ap (λ (k : Handle). k.levels) m.2 in
          rw levels (d'.built.view m.0 (same ∙ m.1) ∙ sym (d.built.view m.0 m.1));
    }
