-- What a matrix has where its questions passed, and that such a matrix passes.
-- Assumes nothing.
use Rattle.std.specs.Prelude.{Ok}
use mathlib.Core.Path.{◌≡◌, refl, sym, ◌∙◌}
use mathlib.Core.Bool.{Bool, true, false}
use mathlib.Core.List.{List}
use Prim.Native.Nat.{ℕ, ◌+◌, ◌≤◌, ◌<◌}
use native.Mathlib.Omega.{arith}
use lib.Ieee.{Float}
use lib.ListN.{length}
use borrow.Author.Tests.{le-leb}
use Rattle.store.specs.Region.{idx}
use Rattle.refusal.specs.declared.Refusal.{Refusal}
use Rattle.refusal.specs.Refusal.{too_large, bad_offsets, bad_columns}
use Rattle.refusal.specs.Outcome.{Outcome, passed, ask, verdict_of}
use Rattle.pattern.specs.Pattern.{Pattern, row_of, Valid, Rising}
use Rattle.pattern.proofs.pattern.Row.{offset_mono, row_is, row_in}
use Rattle.csr.specs.Questions.{size_ok, offsets_ok, columns_ok, matrix_asked, entry_ok}
use Rattle.csr.specs.Contract.{pattern_of, Sizes}
use Rattle.csr.proofs.csr.Walk.{size_told, offsets_fit, fit_offsets, fit_in, entry_told, told_entry, columns_at_lem, at_columns}

-- Where a question and the rest passed, the question holds and the rest passed.
pub asked_yes : {A : Type 0} (holds : Bool) (q : Refusal) (rest : Outcome A) → verdict_of (ask holds q rest) ≡ Ok tt
    → (holds ≡ true) × (verdict_of rest ≡ Ok tt)
asked_yes true q rest e = (refl, e)
asked_yes false q rest e = let none : ◌≡◌ {A = ℕ} 0 1 = cc in absurd (omega arith)

module _ (rows : ℕ) (offsets columns : List ℕ) (values : List Float) where
  -- A matrix that passed: the three questions hold.
  matrix_holds : verdict_of (matrix_asked rows offsets columns values) ≡ Ok tt
      → (size_ok rows columns ≡ true) × (offsets_ok rows offsets columns values ≡ true) × (columns_ok rows offsets columns ≡ true)
  matrix_holds v =
      let a = asked_yes (size_ok rows columns) too_large
      (ask (offsets_ok rows offsets columns values) bad_offsets (ask (columns_ok rows offsets columns) bad_columns passed)) v in
      let b = asked_yes (offsets_ok rows offsets columns values) bad_offsets
      (ask (columns_ok rows offsets columns) bad_columns passed) a.1 in
      let c = asked_yes (columns_ok rows offsets columns) bad_columns passed b.1 in
      (a.0, b.0, c.0)

  -- A matrix that passed has a valid pattern.
  pub matrix_valid : verdict_of (matrix_asked rows offsets columns values) ≡ Ok tt → Valid (pattern_of rows offsets columns)
  matrix_valid v =
      let t = matrix_holds v in
      let f = offsets_fit rows offsets columns values t.1 in
      record {
        size = f.size;
        first = f.first;
        rises = f.rises;
        last = f.last;
        inside = λ e h.
            let w = fit_in rows offsets columns values f e h in
            (entry_told rows columns (idx offsets (w.0 + 1)) e (columns_at_lem rows offsets columns t.2 w.0 e w.1 w.2 w.3)).0;
      }

  -- Its columns rise strictly within each row.
  pub matrix_rising : verdict_of (matrix_asked rows offsets columns values) ≡ Ok tt → Rising (pattern_of rows offsets columns)
  matrix_rising v =
      let t = matrix_holds v in
      record {
        rising = λ e h same.
            let p = pattern_of rows offsets columns in
            let u = row_in {p = p} (matrix_valid v) e (omega arith) in
            let w = row_in {p = p} (matrix_valid v) (e + 1) h in
            let r = row_of p e in
            (entry_told rows columns (idx offsets (r + 1)) e (columns_at_lem rows offsets columns t.2 r e u.0 u.1 u.2)).1
            (rw (sym same) at w.2);
      }

  -- It has few enough rows and entries, and a value for each entry.
  pub matrix_sizes : verdict_of (matrix_asked rows offsets columns values) ≡ Ok tt → Sizes rows columns values
  matrix_sizes v =
      let t = matrix_holds v in
      let s = size_told rows columns t.0 in
      record {
        few = s.0;
        short = s.1;
        counted = (offsets_fit rows offsets columns values t.1).counted;
      }

-- A matrix that is such passes.
pub valid_matrix : (p : Pattern) (values : List Float) → Valid p → Rising p → Sizes p.rows p.columns values
    → matrix_asked p.rows p.offsets p.columns values ≡ passed
unfolding size_ok
valid_matrix p values valid rising s =
    rw (
      le-leb p.rows 65536 s.few,
      le-leb (length p.columns) 1048576 s.short,
      fit_offsets p.rows p.offsets p.columns values
          (record { size = valid.size; first = valid.first; rises = valid.rises; last = valid.last; counted = s.counted }),
      at_columns p.rows p.offsets p.columns entry,
    )
  where
    entry : (r e : ℕ) → r < p.rows → idx p.offsets r ≤ e → e < idx p.offsets (r + 1)
        → entry_ok p.rows p.columns (idx p.offsets (r + 1)) e ≡ true
    entry r e h lo hi =
        let z = offset_mono valid (r + 1) p.rows (omega arith) (omega arith) in
        let y = valid.last in
        told_entry p.rows p.columns (idx p.offsets (r + 1)) e (valid.inside e (omega arith))
        (λ l. rising.rising e (omega arith) (row_is valid r e h lo hi ∙ sym (row_is valid r (e + 1) h (omega arith) l)))
