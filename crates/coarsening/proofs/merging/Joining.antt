-- A merged step after its pairing: what its calls require, and what it leaves.
-- Assumes nothing.
use mathlib.Core.Path.{◌≡◌, ap, ◌∙◌}
use mathlib.Core.Bool.{Bool}
use mathlib.Core.List.{List}
use Prim.Native.Nat.{ℕ, ◌+◌}
use native.Mathlib.Omega.{arith}
use lib.Ieee.{Float}
use Rattle.store.specs.Region.{part, Wrote}
use Rattle.store.proofs.store.Region.{wrote_at, wrote_off, kept_wrote, kept_on, kept_less, kept_part}
use Rattle.vector.specs.Finite.{all_finite}
use Rattle.pattern.specs.Pattern.{entries, compose_of}
use Rattle.pattern.specs.Coarsening.{ComposeOk}
use Rattle.hierarchy.specs.Build.{Mesh}
use Rattle.coarsening.specs.declared.coarsen.Held.{Held}
use Rattle.coarsening.specs.declared.coarsen.Workspace.{Workspace}
use Rattle.coarsening.specs.declared.coarsen.Formation.{Formation}
use Rattle.coarsening.specs.CoarsenContract.{merged_in, coarse_at, StepOk, Stepped}
use Rattle.coarsening.specs.Steps.{JoinOk, JoinDone}

module _ {w : List ℕ} {floats : ℕ} {t : Workspace} {rows map count most joined : ℕ} (ok : JoinOk w floats t rows map count most joined) where
  -- What `compose` requires.
  pub compose_requires : ComposeOk w rows map t.map count
  compose_requires = let p = ok.pair in let k = p.work in
      record { source = omega arith; target = omega arith; clear = omega arith; maps = ok.maps }

  module _ {z : List ℕ} (c : Wrote map rows (compose_of rows (part map rows w) (part t.map count w)) w z) where
    same_offsets : part t.merged_offsets (count + 1) z ≡ part t.merged_offsets (count + 1) w
    same_offsets = let k = ok.pair.work in wrote_off c t.merged_offsets (count + 1) (omega arith)

    same_columns : part t.merged_columns most z ≡ part t.merged_columns most w
    same_columns = let k = ok.pair.work in wrote_off c t.merged_columns most (omega arith)

    same_map : part t.map count z ≡ part t.map count w
    same_map = let k = ok.pair.work in wrote_off c t.map count (omega arith)

    -- What the coarse matrix requires.
    pub step_requires : {m : Held} → m ≡ merged_in t count most → StepOk z floats m t.map joined t
    step_requires e =
        let p = ok.pair in
        let k = p.work in
        let l = c.size in
        rw e (record {
          work = rw l k;
          rows = omega arith;
          most = omega arith;
          offsets = omega arith;
          columns = omega arith;
          above = omega arith;
          values = omega arith;
          weights = omega arith;
          proper = rw (same_offsets, same_columns) p.proper;
          maps = rw same_map ok.joins;
          onto = rw same_map ok.onto;
          fewer = ok.fewer;
        })

    -- What both leave.
    pub join_done : {m : Held} {y : List ℕ} {F G : List Float} {given : Bool} {r : Formation} → m ≡ merged_in t count most
        → Stepped z y F G given m t.map joined t r → JoinDone given w y F G t rows map count most joined r
    join_done {m} {y} {F} {G} {given} {r} e s =
        let p = ok.pair in
        let k = p.work in
        let done : Stepped z y F G given (merged_in t count most) t.map joined t r = rw e at s in
        let same : coarse_at z F given (merged_in t count most) t.map joined ≡ coarse_at w F given (merged_in t count most) t.map joined =
        rw (same_offsets, same_columns, same_map) in
        record {
          found = done.found ∙ ap (λ (m : Mesh). entries m.pattern) same;
          finite = done.finite ∙ ap (λ (m : Mesh). all_finite r.entries m.values) same;
          mesh = done.mesh ∙ same;
          links = kept_part done.words map rows (omega arith) ∙ wrote_at c (omega arith);
          words = kept_on (kept_wrote c (omega arith)) (kept_less done.words (omega arith));
          floats = done.floats;
        }
