-- A build whose rows are published in the records of the statistics leaves the statistics of its hierarchy.
-- Assumes nothing.
use Rattle.options.specs.declared.options.Handle.{Handle}
use Rattle.refusal.specs.declared.Refusal.{Refusal}
use Rattle.std.specs.Prelude.{Result}
use mathlib.Core.Path.{◌≡◌, refl, sym, ap, subst, ◌∙◌}
use mathlib.Core.List.{List, [], ◌∷◌}
use mathlib.Core.Logic.{◌⊎◌, inl, inr}
use Prim.Native.Nat.{ℕ, zero, suc, ◌≤◌, ◌<◌}
use native.Mathlib.Omega.{arith}
use lib.ListN.{length, get_or}
use lib.Seq.{ext_get_or}
use lib.Ieee.{Float}
use Rattle.store.specs.Region.{lay}
use Rattle.store.specs.Vector.{filled}
use Rattle.store.proofs.store.Region.{le_or_lt, length_lay}
use Rattle.store.proofs.store.Vector.{length_tab, get_d_tab}
use Rattle.refusal.specs.Outcome.{Outcome, accepted, refused}
use Rattle.hierarchy.specs.Level.{Level, Hierarchy}
use Rattle.hierarchy.specs.Build.{Input, build_of}
use Rattle.solver.specs.declared.answers.BuildRun.{BuildRun}
use Rattle.statistics.specs.Contract.{PublishDone}
use Rattle.solver.specs.declared.statistics.MultigridLevelStatistics.{MultigridLevelStatistics}
use Rattle.solver.specs.Statistics.{unvisited}
use Rattle.statistics.specs.Contract.{Published}
use Rattle.build.specs.Built.{lent_of}
use Rattle.multigrid.specs.New.{unvisited_levels, statistics_of, NewDone}
use Rattle.multigrid.specs.Contract.{cells_of, table_of, table_built, BuildRan}
use Rattle.multigrid.proofs.building.Builds.{levels_few}

-- ---- lists

module _ {A : Type 0} where
  -- What is laid over the start of a list stands there,
  get_laid : (v F : List A) (i : ℕ) (d : A) → i < length v → length v ≤ length F → get_or (lay v F) i d ≡ get_or v i d
  unfolding lay
  get_laid [] F i d few fits = absurd (omega arith)
  get_laid (x ∷ v) [] i d few fits = absurd (omega arith)
  get_laid (x ∷ v) (y ∷ F) zero d few fits = refl
  get_laid (x ∷ v) (y ∷ F) (suc i) d few fits = get_laid v F i d (omega arith) (omega arith)

  -- and behind it the list.
  get_behind : (v F : List A) (i : ℕ) (d : A) → length v ≤ i → get_or (lay v F) i d ≡ get_or F i d
  unfolding lay
  get_behind [] F i d past = refl
  get_behind (x ∷ v) [] i d past = refl
  get_behind (x ∷ v) (y ∷ F) zero d past = absurd (omega arith)
  get_behind (x ∷ v) (y ∷ F) (suc i) d past = get_behind v F i d (omega arith)

  -- Past the end nothing stands.
  get_past : (F : List A) (i : ℕ) (d : A) → length F ≤ i → get_or F i d ≡ d
  get_past [] i d past = refl
  get_past (y ∷ F) zero d past = absurd (omega arith)
  get_past (y ∷ F) (suc i) d past = get_past F i d (omega arith)

  -- A list of one value has that value or nothing.
  get_filled : (n i : ℕ) (d : A) → get_or (filled n d) i d ≡ d
  get_filled n i d = go (le_or_lt n i)
    where
      go : (n ≤ i) ⊎ (i < n) → get_or (filled n d) i d ≡ d
      go (inl past) = let long = length_tab (λ _. d) n in get_past (filled n d) i d (omega arith)
      go (inr few) = get_d_tab (λ _. d) n i d few

-- ---- the records

-- The statistics of levels are as many as the levels,
fresh_long : (levels : List Level) → length (unvisited_levels levels) ≡ length levels
unfolding unvisited_levels
fresh_long [] = refl
fresh_long (l ∷ levels) = omega (arith, fresh_long levels)

-- and so are their rows,
cells_long : (levels : List Level) → length (cells_of levels) ≡ length levels
unfolding cells_of
cells_long [] = refl
cells_long (l ∷ levels) = omega (arith, cells_long levels)

-- which these tell.
fresh_at_lem : (levels : List Level) (i : ℕ) → get_or (unvisited_levels levels) i (unvisited 0) ≡ unvisited (get_or (cells_of levels) i 0)
unfolding unvisited_levels cells_of
fresh_at_lem [] i = refl
fresh_at_lem (l ∷ levels) zero = refl
fresh_at_lem (l ∷ levels) (suc i) = fresh_at_lem levels i

-- The records of levels and zeros behind them are those that the table tells.
laid_at : (levels : List Level) (n i : ℕ) → length levels ≤ n → length levels ≤ 128
    → get_or (lay (unvisited_levels levels) (filled n (unvisited 0))) i (unvisited 0) ≡ unvisited (get_or (table_of (cells_of levels)) i 0)
laid_at levels n i room few = go (le_or_lt (length levels) i)
  where
    go : (length levels ≤ i) ⊎ (i < length levels)
        → get_or (lay (unvisited_levels levels) (filled n (unvisited 0))) i (unvisited 0) ≡ unvisited (get_or (table_of (cells_of levels)) i 0)
    go (inl past) =
        let long = fresh_long levels in
        let wide = cells_long levels in
        get_behind (unvisited_levels levels) (filled n (unvisited 0)) i (unvisited 0) (omega arith) ∙ get_filled n i (unvisited 0)
        ∙ sym (ap unvisited (get_behind (cells_of levels) (filled 128 0) i 0 (omega arith) ∙ get_filled 128 i 0))
    go (inr here) =
        let long = fresh_long levels in
        let wide = cells_long levels in
        let n-long = length_tab (λ _. unvisited 0) n in
        let most = length_tab {A = ℕ} (λ _. 0) 128 in
        get_laid (unvisited_levels levels) (filled n (unvisited 0)) i (unvisited 0) (omega arith) (omega arith) ∙ fresh_at_lem levels i
        ∙ sym (ap unvisited (get_laid (cells_of levels) (filled 128 0) i 0 (omega arith) (omega arith)))

-- A build leaves as many records as there were.
pub build_length : (n : ℕ) (out : Outcome Hierarchy) → length (statistics_of n out) ≡ n
unfolding statistics_of
build_length n (accepted h) = length_lay (unvisited_levels h.levels) (filled n (unvisited 0)) ∙ length_tab (λ _. unvisited 0) n
build_length n (refused q) = length_tab (λ _. unvisited 0) n

-- They are those that the table of the build tells.
told_at : (n i : ℕ) (out : Outcome Hierarchy) → ((k : Hierarchy) → out ≡ accepted k → (length k.levels ≤ 128) × (length k.levels ≤ n))
    → get_or (statistics_of n out) i (unvisited 0) ≡ unvisited (get_or (table_built out) i 0)
unfolding statistics_of table_built
told_at n i (accepted k) few = laid_at k.levels n i (few k refl).1 (few k refl).0
told_at n i (refused q) few = get_filled n i (unvisited 0) ∙ sym (ap unvisited (get_filled 128 i 0))

-- What a build gives, published in the records s, is what its call ensures.
pub new_published : {w z : List ℕ} {F G : List Float} {s t : List MultigridLevelStatistics} {x : Input} {run : BuildRun}
    → BuildRan w z F G (length s) x run → Published run.cells s t → NewDone w z F G s t x run.answer
new_published {w} {z} {F} {G} {s} {t} {x} {run} d p =
    let out = build_of (lent_of w F (length s)) x in
    record {
      built = d.built;
      statistics = ext_get_or (unvisited 0) t (statistics_of (length s) out) (p.as_many ∙ sym (build_length (length s) out)) (λ i h.
          let long = p.as_many in
          p.each i (omega arith) ∙ ap (λ (c : List ℕ). unvisited (get_or c i 0)) d.cells ∙ sym (told_at (length s) i out (levels_few d.built)));
    }

-- So it is where `publish` gives the answer.
pub new_done : {w z : List ℕ} {F G : List Float} {s t : List MultigridLevelStatistics} {x : Input} {run : BuildRun} {r : Result Handle Refusal}
    → BuildRan w z F G (length s) x run → PublishDone run s t r → NewDone w z F G s t x r
new_done {w} {z} {F} {G} {s} {t} {x} d p = subst (λ (r : Result Handle Refusal). NewDone w z F G s t x r) (sym p.answer) (new_published d p.records)
