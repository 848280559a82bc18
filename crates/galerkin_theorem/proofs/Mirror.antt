-- A fine matrix whose mirrored entries are equal is symmetric: an entry has one mirror, whose mirror it is.
-- Assumes nothing.
use mathlib.Core.Path.{◌≡◌, sym, ◌∙◌}
use mathlib.Core.List.{List}
use mathlib.Core.Logic.{◌⊎◌, inl, inr, ⊎_elim}
use Prim.Native.Nat.{ℕ, zero, suc, ◌+◌, ◌-◌, ◌≤◌, ◌<◌}
use native.Mathlib.Omega.{arith}
use lib.IntN.{ℤ}
use lib.Ieee.{Float}
use Rattle.store.proofs.store.Region.{le_or_lt}
use Rattle.galerkin.proofs.exact.Product.{dense_mirror}
use Rattle.pattern.specs.Pattern.{Pattern, entries, row_of, column_of, Valid, Rising, Mirrored}
use Rattle.pattern.proofs.pattern.Row.{row_is, row_in}
use Rattle.galerkin_theorem.specs.Theorem.{WholeValues, fine_matrix}

module _ (p : Pattern) (valid : Valid p) (rising : Rising p) where
  -- An entry between two of one row is of that row.
  row_between : (d e f : ℕ) → d ≤ e → e ≤ f → f < entries p → row_of p d ≡ row_of p f → row_of p e ≡ row_of p f
  row_between d e f h l b same =
      let u = row_in valid d (omega arith) in
      let v = row_in valid f b in
      let lo = rw same at u.1 in
      let hi = v.2 in
      row_is valid (row_of p f) e v.0 (omega arith) (omega arith)

  -- Within a row columns rise.
  pub column_rises : (n d f : ℕ) → f ≡ d + suc n → f < entries p → row_of p d ≡ row_of p f → column_of p d < column_of p f
  column_rises zero d f is h same = let q : f ≡ d + 1 = omega arith in rw q (rising.rising d (omega arith) (rw q at same))
  column_rises (suc n) d f is h same =
      let e = d + suc n in
      let q : f ≡ e + 1 = omega arith in
      let between : row_of p e ≡ row_of p f = row_between d e f (omega arith) (omega arith) h same in
      let first : column_of p d < column_of p e = column_rises n d e (omega arith) (omega arith) (same ∙ sym between) in
      let last : column_of p e < column_of p (e + 1) = rising.rising e (omega arith) (rw q at between) in
      rw q (omega arith)

  -- A row and a column have one entry.
  pub entry_once : (d e : ℕ) → d < entries p → e < entries p → row_of p d ≡ row_of p e → column_of p d ≡ column_of p e → d ≡ e
  entry_once d e h l row column = ⊎_elim
      (λ (w : d ≤ e). ⊎_elim
      (λ (u : e ≤ d). omega arith)
      (λ (u : d < e). absurd (let c = column_rises (e - d - 1) d e (omega arith) l row in omega arith))
      (le_or_lt e d))
      (λ (w : e < d). absurd (let c = column_rises (d - e - 1) e d (omega arith) h (sym row) in omega arith))
      (le_or_lt d e)

  module _ (mirrored : Mirrored p) where
    pick : (e : ℕ) → (entries p ≤ e) ⊎ (e < entries p) → ℕ
    pick e (inl w) = e
    pick e (inr h) = (mirrored.mirror e h).0

    pick_is : (e : ℕ) (w : (entries p ≤ e) ⊎ (e < entries p)) → e < entries p → (pick e w < entries p) × (row_of p (pick e w) ≡ column_of p e) × (column_of p (pick e w) ≡ row_of p e)
    unfolding pick
    pick_is e (inl w) h = absurd (omega arith)
    pick_is e (inr l) h = let d = mirrored.mirror e l in (d.1, d.2, d.3)

    -- the mirror of entry e
    mirror : ℕ → ℕ
    mirror e = pick e (le_or_lt (entries p) e)

    mirror_is : (e : ℕ) → e < entries p → (mirror e < entries p) × (row_of p (mirror e) ≡ column_of p e) × (column_of p (mirror e) ≡ row_of p e)
    unfolding mirror
    mirror_is e h = pick_is e (le_or_lt (entries p) e) h

    -- The fine matrix is symmetric.
    pub fine_symmetric : {values : List Float} {z : ℕ → ℤ} → WholeValues p values z → (i j : ℕ) → fine_matrix p z i j ≡ fine_matrix p z j i
    fine_symmetric {values} {z} w = dense_mirror (entries p) (row_of p) (λ e. column_of p e) z mirror (record {
      inside = λ e h. (mirror_is e h).0;
      back = λ e h.
          let u = mirror_is e h in
          let v = mirror_is (mirror e) u.0 in
          entry_once (mirror (mirror e)) e v.0 h (v.1 ∙ u.2) (v.2 ∙ u.1);
      rows = λ e h. (mirror_is e h).1;
      cols = λ e h. (mirror_is e h).2;
      values = λ e h. let u = mirror_is e h in w.symmetric e (mirror e) h u.0 u.1 u.2;
    })
