-- The values of a level and its coefficients: questions 12 and 13.
-- Assumes nothing.
use Rattle.refusal.specs.declared.Refusal.{Refusal}
use Rattle.std.specs.Prelude.{Result}
use mathlib.Core.Path.{◌≡◌, ◌∙◌}
use mathlib.Core.List.{List}
use Prim.Native.Nat.{ℕ}
use native.Mathlib.Omega.{arith}
use lib.ListN.{length}
use lib.Ieee.{Float}
use Rattle.store.specs.Region.{part, Wrote}
use Rattle.store.proofs.store.Region.{wrote_at, kept_part}
use Rattle.matrix.specs.declared.matrix.SymmetricMatrix.{SymmetricMatrix}
use Rattle.coefficients.specs.declared.values.entries.Entries.{Entries}
use Rattle.coefficients.specs.Contract.{update_at, UpdateOk, Updated}
use Rattle.coefficients.proofs.values.UpdateLaws.{within_wrote, within_on, within_more, within_kept}
use Rattle.layout.specs.declared.Place.{Place}
use Rattle.layout.specs.Parts.{kernel_in, entries_in}
use Rattle.build_level.specs.Inner.{ValuesOk, update_from, ValuesLaid}

module _ {w : List ℕ} {F G : List Float} {p : Place} {from : ℕ} {k : SymmetricMatrix} {e : Entries} (ok : ValuesOk w (length F) p from)
    (kernel : k ≡ kernel_in p) (image : e ≡ entries_in p) (copied : Wrote p.values p.entries (part from p.entries F) F G) where
  -- The update's needs outlast the copy.
  pub update_ok : UpdateOk w (length G) k e
  update_ok = rw (kernel, image, copied.size) ok.update

  -- What the update leaves.
  pub values_laid : {H : List Float} {level : ℕ} {r : Result Unit Refusal} → Updated w k (update_at level k e w G) G H r
      → ValuesLaid w F H p from level r
  values_laid {H} {level} {r} updated =
      let u : Updated w (kernel_in p) (update_at level (kernel_in p) (entries_in p) w G) G H r = rw (kernel, image) at updated in
      let there = ok.copy.target in
      let order = ok.update.image in
      let values : part p.values p.entries G ≡ part from p.entries F = wrote_at copied there in
      let v : Updated w (kernel_in p) (update_from level w F p from) G H r = rw values at u in
      record {
        verdict = v.verdict;
        values = kept_part (within_kept v.within) p.values p.entries order ∙ values;
        holds = v.holds;
        within = within_on (within_wrote copied (omega arith) (omega (arith, ok.update.coefs, ok.update.diags)))
            (within_more v.within (omega arith) (omega arith));
      }
