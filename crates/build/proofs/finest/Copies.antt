-- Lists copied into a store: the weights, and the matrix in the temporaries.
-- Assumes nothing.
use mathlib.Core.Path.{◌≡◌, ◌∙◌}
use mathlib.Core.Bool.{Bool, false}
use mathlib.Core.List.{List}
use Prim.Native.Nat.{ℕ, ◌+◌}
use native.Mathlib.Omega.{arith}
use lib.ListN.{length}
use lib.Ieee.{Float}
use Rattle.store.specs.Region.{Wrote}
use Rattle.store.proofs.store.Region.{wrote_at, wrote_off, kept_wrote, kept_self, kept_part}
use Rattle.coarsening.specs.declared.coarsen.Workspace.{Workspace}
use Rattle.build.specs.Finest.{WeightsOk, WeightsLoaded, LoadOk, Loaded}

-- Weights that are not given are not copied;
pub weights_none : {F : List Float} {given : Bool} {weights : List Float} {to : ℕ} → given ≡ false → WeightsLoaded F F given weights to
weights_none e = record { wrote = λ t. absurd (let none : ◌≡◌ {A = ℕ} 0 1 = cc in omega arith); kept = kept_self }

-- those that are given are.
pub weights_some : {F G : List Float} {given : Bool} {weights : List Float} {to : ℕ} → Wrote to (length weights) weights F G
    → WeightsLoaded F G given weights to
weights_some {F} {G} {given} {weights} {to} w = record { wrote = λ _. w; kept = kept_wrote w (omega arith) }

-- There is room for them.
pub weights_room : {words floats size : ℕ} {offsets columns : List ℕ} {values : List Float} {given : Bool} {weights : List Float} {t : Workspace}
    → LoadOk words floats offsets columns values given weights t → size ≡ floats → WeightsOk size given weights t.weights
weights_room ok same = let work = ok.work in record { room = λ g. let long = ok.weighed g in omega arith }

-- The arrays stand in the temporaries.
pub loaded : {w u z : List ℕ} {F E G : List Float} {offsets columns : List ℕ} {values : List Float} {given : Bool} {weights : List Float} {t : Workspace}
    → LoadOk (length w) (length F) offsets columns values given weights t
    → Wrote t.offsets (length offsets) offsets w u → Wrote t.columns (length columns) columns u z
    → Wrote t.values (length values) values F E → WeightsLoaded E G given weights t.weights
    → Loaded w z F G offsets columns values given weights t
loaded {w} {u} {z} {F} {E} {G} {offsets} {columns} {values} {given} {weights} {t} ok a b c d =
    let work = ok.work in
    let rowed = ok.rowed in
    let listed = ok.listed in
    let valued = ok.valued in
    let first : Wrote t.offsets (t.rows + 1) offsets w u = rw rowed at a in
    let second : Wrote t.columns t.entries columns u z = rw listed at b in
    let third : Wrote t.values t.entries values F E = rw valued at c in
    let wordsize = a.size in
    let floatsize = c.size in
    record {
      rowed = wrote_off second t.offsets (t.rows + 1) (omega arith) ∙ wrote_at first (omega arith);
      listed = wrote_at second (omega arith);
      valued = kept_part d.kept t.values t.entries (omega arith) ∙ wrote_at third (omega arith);
      weighed = λ g.
          let weighed = ok.weighed g in
          let fourth : Wrote t.weights t.entries weights E G = rw weighed at (d.wrote g) in
          wrote_at fourth (omega arith);
      wordsize = b.size ∙ a.size;
      floatsize = d.kept.size ∙ c.size;
    }
