-- The float work of one level: its coefficients, its DIC data, its factor, and the values of the next level.
-- Assumes nothing.
use Rattle.refusal.specs.declared.Refusal.{Refusal}
use Rattle.std.specs.Prelude.{Option, Some, None, Result, unwrap_or}
use Rattle.std.specs.Option.{ForSome}
use mathlib.Core.Path.{◌≡◌, refl, sym, ap, ◌∙◌, subst}
use mathlib.Core.Bool.{Bool, true, false}
use mathlib.Core.List.{List}
use Prim.Native.Nat.{ℕ, ◌+◌, ◌≤◌}
use native.Mathlib.Omega.{arith}
use lib.ListN.{length}
use lib.Ieee.{Float}
use Rattle.store.specs.Region.{part, Wrote}
use Rattle.store.specs.Vector.{each}
use Rattle.store.proofs.store.Region.{wrote_at, kept_wrote, kept_on}
use Rattle.refusal.specs.Outcome.{Outcome, refused, verdict_of}
use Rattle.refusal.proofs.Outcome.{then_accepted, then_refused, never}
use Rattle.vector.specs.Finite.{all_finite}
use Rattle.matrix.specs.declared.matrix.SymmetricMatrix.{SymmetricMatrix}
use Rattle.matrix.specs.Kernel.{KernelOk}
use Rattle.coefficients.specs.declared.values.entries.Entries.{Entries}
use Rattle.coefficients.specs.Update.{Coefficients}
use Rattle.coefficients.specs.Contract.{update_with, update_at, FacesTaken, UpdateOk, Updated}
use Rattle.galerkin.specs.Values.{sums_of, symmetrize_of}
use Rattle.galerkin.specs.Contract.{FacesOk}
use Rattle.layout.specs.declared.Place.{Place}
use Rattle.layout.specs.Parts.{kernel_in, entries_in}
use Rattle.layout.specs.SmootherContract.{SmootherOk}
use Rattle.update_levels.specs.Standing.{diagonal_stands, diagonals_stand}
use Rattle.update_levels.specs.StandingContract.{bare_at}
use Rattle.update_levels.specs.Level.{LevelOk, LevelReady, CoefficientsOk, FacesReady, coefficients_asked, FactorOk, coarse_at, CoarseDone}
use Rattle.update_levels.proofs.diagonals.Standing.{stand_all, stand_not}

-- ---- values that are given, or none

-- None are given: nothing is required of them.
pub none_given : (P : List Float → Type 0) → ForSome None P
none_given P values e = let no : ◌≡◌ {A = ℕ} 0 1 = cc in absurd (omega arith)

-- These are given.
pub one_given : (P : List Float → Type 0) {given : List Float} → P given → ForSome (Some given) P
one_given P {given} held values e = subst P (ap (λ (o : Option (List Float)). unwrap_or o given) e) held

-- ---- what the calls require

-- Of the last level nothing more is required.
pub ready_last : {w : List ℕ} {size : ℕ} {p : Place} {coupled : ℕ} → LevelOk w size p coupled → LevelReady w size p true coupled
ready_last ok = record { level = ok; none = λ e. let no : ◌≡◌ {A = ℕ} 0 1 = cc in absurd (omega arith) }

module _ {w : List ℕ} {size : ℕ} {p : Place} {coupled : ℕ} (ok : LevelOk w size p coupled) where
  -- What the kernel requires, at or above its DIC data.
  pub kernel_ready : (low : ℕ) → p.dic ≤ low → KernelOk w low (kernel_in p)
  kernel_ready low l =
      let last = ok.faces in
      let h0 = ok.neighbors in
      let h1 = ok.sided in
      let h2 = ok.diagonal in
      let h3 = ok.inverse in
      record {
        starts = ok.starts;
        columns = omega arith;
        own = omega arith;
        recip = omega arith;
        faces = omega arith;
        falls = rw last ok.falls;
        near = rw last ok.near;
      }

  -- What the coefficients require.
  pub coefficients_ready : CoefficientsOk w size p
  coefficients_ready =
      let last = ok.faces in
      let h0 = ok.starts in
      let h1 = ok.uppers in
      let h2 = ok.sided in
      let h3 = ok.inverse in
      let h4 = ok.dic in
      let h5 = ok.room in
      record {
        rows = record { offsets = ok.offsets; columns = ok.columns; diagonals = ok.diagonals; own = ok.own };
        update = record {
          starts = omega arith;
          owns = ok.diagonals;
          sides = omega arith;
          own = ok.own;
          side = rw last ok.sides;
          image = ok.image;
          coefs = omega arith;
          diags = ok.diagonal;
          recips = omega arith;
        };
      }

  -- What the DIC data require.
  pub smoother_ready : SmootherOk w size p
  smoother_ready = let h = ok.dic in let r = ok.room in record { kernel = kernel_ready p.dic (omega arith); fits = omega arith }

  -- What the factor requires.
  pub factor_room : FactorOk w size p coupled
  factor_room =
      let h1 = ok.image in
      let h2 = ok.sided in
      let h3 = ok.diagonal in
      let h4 = ok.inverse in
      let h5 = ok.dic in
      record {
        terminal = record {
          offsets = ok.offsets;
          columns = ok.columns;
          coupled = ok.links;
          values = omega arith;
          factor = ok.room;
          near = ok.coupling;
          ends = ok.ends;
        };
        values = omega arith;
        dic = h5;
      }

-- A level is as ready in a store as large.
pub level_size : {w : List ℕ} {size now : ℕ} {p : Place} {coupled : ℕ} → LevelOk w size p coupled → now ≡ size → LevelOk w now p coupled
level_size {w} {size} {now} {p} {coupled} ok e = subst (λ (n : ℕ). LevelOk w n p coupled) (sym e) ok

-- ---- the coefficients

module _ {w : List ℕ} {size : ℕ} {p : Place} (ok : CoefficientsOk w size p) where
  -- What 12 and 13 require.
  pub update_ready : {k : SymmetricMatrix} {e : Entries} → k ≡ kernel_in p → e ≡ entries_in p → UpdateOk w size k e
  update_ready kernel image = rw (kernel, image) ok.update

  -- The same where the values are given.
  pub given_ready : (given F : List Float) → p.entries ≤ length given → FacesReady w given F p → {k : SymmetricMatrix} {e : Entries} → k ≡ kernel_in p
      → e ≡ entries_in p → UpdateOk w size k e × ((e.entries ≤ length given) × FacesTaken w given F k e)
  given_ready given F many taken kernel image = rw (kernel, image) (ok.update, (many, taken))

module _ (w : List ℕ) (values F : List Float) (p : Place) (level : ℕ) {all : Bool} (asked : all ≡ each (diagonal_stands (bare_at w p)) p.rows) where
  -- what 12 and 13 ask
  abbrev wanted : Outcome Coefficients
  wanted = update_with level (kernel_in p) (entries_in p) w values

  -- Question 11 refuses.
  pub coefficients_no : all ≡ false → {v : Result Unit Refusal} → v ≡ verdict_of (diagonals_stand level (bare_at w p))
      → Updated w (kernel_in p) (coefficients_asked level w values p) F F v
  coefficients_no told e =
      let no = stand_not level w p asked told in
      let refusal : coefficients_asked level w values p ≡ refused no.0 = then_refused (diagonals_stand level (bare_at w p)) (λ _. wanted) no.1 in
      record {
        verdict = e ∙ ap verdict_of no.1 ∙ sym (ap verdict_of refusal);
        holds = λ k e. never refusal e;
        within = record { below = refl; above = refl; size = refl };
      }

  -- It passes.
  through : all ≡ true → {G : List Float} {v : Result Unit Refusal} → Updated w (kernel_in p) wanted F G v
      → Updated w (kernel_in p) (coefficients_asked level w values p) F G v
  through told {G} {v} made =
      let same : coefficients_asked level w values p ≡ wanted =
      then_accepted (diagonals_stand level (bare_at w p)) (λ _. wanted) (stand_all level w p asked told) in
      subst (λ (x : Outcome Coefficients). Updated w (kernel_in p) x F G v) (sym same) made

  -- It passes, and the values are given.
  pub coefficients_given : all ≡ true → {k : SymmetricMatrix} {e : Entries} → k ≡ kernel_in p → e ≡ entries_in p → {G : List Float} {v : Result Unit Refusal}
      → Updated w k (update_with level k e w values) F G v → Updated w (kernel_in p) (coefficients_asked level w values p) F G v
  coefficients_given told kernel image made = through told (rw (kernel, image) at made)

-- It passes, and the values stand in the store.
pub coefficients_made : (w : List ℕ) (F : List Float) (p : Place) (level : ℕ) {all : Bool} → all ≡ each (diagonal_stands (bare_at w p)) p.rows → all ≡ true
    → {k : SymmetricMatrix} {e : Entries} → k ≡ kernel_in p → e ≡ entries_in p → {G : List Float} {v : Result Unit Refusal} → Updated w k (update_at level k e w F) F G v
    → Updated w (kernel_in p) (coefficients_asked level w (part p.values p.entries F) p) F G v
coefficients_made w F p level asked told kernel image made =
    through w (part p.values p.entries F) F p level asked told (rw (kernel, image) at made)

-- ---- the values of the next level

module _ {w : List ℕ} (old : List Float) (p t : Place) {F G : List Float} (ok : FacesOk w (length F) t.faces t.uppers t.lowers t.entries t.values)
    (summed : Wrote t.values t.entries (sums_of t.entries p.entries (part p.positions p.entries w) old) F G) where
  -- What the means require.
  pub means_ready : FacesOk w (length G) t.faces t.uppers t.lowers t.entries t.values
  means_ready = rw summed.size ok

  module _ {H : List Float} (means : Wrote t.values t.entries (symmetrize_of t.faces (part t.uppers t.faces w) (part t.lowers t.faces w)
      (part t.values t.entries G)) G H) where
    -- The values lie in the store.
    pub finite_ready : t.values + t.entries ≤ length H
    finite_ready = let room = ok.room in let s = summed.size in let m = means.size in omega arith

    -- They are the next level's.
    pub coarse_done : {r : Bool} → r ≡ all_finite t.entries (part t.values t.entries H) → CoarseDone w old F H p t r
    coarse_done {r} e =
        let room = ok.room in
        let s = summed.size in
        let first = wrote_at summed room in
        let values : part t.values t.entries H ≡ coarse_at w old p t =
        wrote_at means (omega arith) ∙ ap (symmetrize_of t.faces (part t.uppers t.faces w) (part t.lowers t.faces w)) first in
        record {
          values = values;
          finite = e ∙ ap (all_finite t.entries) values;
          kept = kept_on (kept_wrote summed (omega arith)) (kept_wrote means (omega arith));
        }
