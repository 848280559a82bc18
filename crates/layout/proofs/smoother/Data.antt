-- The DIC data of a level at its place: made, or zeros.
-- Assumes nothing.
use Rattle.refusal.specs.declared.Refusal.{Refusal}
use Rattle.std.specs.Prelude.{Result, Ok}
use mathlib.Core.Path.{◌≡◌, ap, ◌∙◌}
use mathlib.Core.Bool.{Bool, true, false, cond}
use mathlib.Core.List.{List}
use Prim.Native.Nat.{ℕ}
use lib.Ieee.{Float}
use Rattle.float.specs.Float.{zero64}
use Rattle.store.specs.Region.{Wrote}
use Rattle.store.specs.Vector.{filled}
use Rattle.refusal.specs.Outcome.{accepted}
use Rattle.matrix.specs.declared.matrix.SymmetricMatrix.{SymmetricMatrix}
use Rattle.matrix.specs.Kernel.{kernel_at}
use Rattle.dic.specs.Dic.{dic_of, settled, Settled, DicOk}
use Rattle.layout.specs.declared.Place.{Place}
use Rattle.layout.specs.Parts.{kernel_in}
use Rattle.layout.specs.SmootherContract.{SmootherOk, smoother_at}

module _ (p : Place) {k : SymmetricMatrix} (is : k ≡ kernel_in p) where
  -- What the DIC diagonal requires.
  pub dic_requires : {w : List ℕ} {size : ℕ} → SmootherOk w size p → DicOk w size k p.dic
  dic_requires ok = rw is ok

  -- The DIC diagonal is made.
  pub smoother_made : (w : List ℕ) {F G : List Float} (needed : Bool) (level : ℕ) {v : Result Unit Refusal} → needed ≡ true
      → Settled p.dic k.rows (dic_of level (kernel_at k w F)) F G v → Settled p.dic p.rows (smoother_at needed level w F p) F G v
  smoother_made w {F} {G} needed level {v} told d =
      let made : Settled p.dic p.rows (dic_of level (kernel_at (kernel_in p) w F)) F G v = rw is at d in
      let own = kernel_at (kernel_in p) w F in
      let same : smoother_at needed level w F p ≡ dic_of level own =
      ap (λ (b : Bool). cond b (dic_of level own) (accepted (filled own.rows zero64))) told in
      record { held = made.held; wrote = made.wrote; is = same ∙ made.is }

-- The smoother needs none.
pub smoother_none : (p : Place) (w : List ℕ) {F G : List Float} (needed : Bool) (level : ℕ) → needed ≡ false → Wrote p.dic p.rows (filled p.rows zero64) F G
    → Settled p.dic p.rows (smoother_at needed level w F p) F G (Ok tt)
unfolding settled kernel_at
smoother_none p w {F} {G} needed level told h =
    let own = kernel_at (kernel_in p) w F in
    record {
      held = filled p.rows zero64;
      wrote = h;
      is = ap (λ (b : Bool). cond b (dic_of level own) (accepted (filled own.rows zero64))) told;
    }
