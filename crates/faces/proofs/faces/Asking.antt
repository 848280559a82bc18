-- The loop of `diagonals`.
-- Assumes nothing.
use mathlib.Core.Path.{◌≡◌, refl, sym, ap, ◌∙◌}
use mathlib.Core.List.{List}
use Rattle.std.specs.Prelude.{Ok, Err, Some, None}
use Prim.Native.Nat.{ℕ, ◌+◌, ◌≤◌, ◌<◌}
use native.Mathlib.Omega.{arith}
use lib.ListN.{length, set}
use Rattle.refusal.specs.Refusal.{missing_diagonal}
use Rattle.refusal.specs.Outcome.{Outcome, passed, ask, ask_from}
use Rattle.refusal.proofs.Outcome.{ask_yes, ask_no, each_step, each_stop, each_done, verdict_passed, verdict_refused}
use Rattle.store.specs.Region.{part, splice, Kept}
use Rattle.store.specs.Vector.{tab}
use Rattle.store.proofs.store.Region.{splice_nil, part_splice, wrote, kept_wrote}
use Rattle.store.proofs.store.Vector.{length_tab}
use Rattle.pattern.specs.Pattern.{Pattern}
use Rattle.faces.specs.declared.faces.Faces.{Faces}
use Rattle.faces.specs.Faces.{has_entry, stands_at, diagonals_asked, diagonals_of}
use Rattle.faces.specs.Contract.{pattern_at, DiagonalsOk, DiagonalsDone}
use Rattle.faces.specs.Steps.{EntryOk, Entry}
use Rattle.faces.proofs.faces.Pick.{set_tab, wrote_only}
use Rattle.faces.proofs.faces.Finding.{entry_back, entry_there_lem, entry_missing}
use Rattle.faces.proofs.faces.Standing.{ordered_on}

-- the question of row i
abbrev pub asks : ℕ → Pattern → ℕ → Outcome Unit
asks level p i = ask (has_entry p i i) (missing_diagonal level i) passed

-- the diagonal entry of row i
abbrev own : Pattern → ℕ → ℕ
own p i = stands_at p i i

-- The invariant: the questions of the rows from `row` on are left, and the diagonal entries of those before it are written.
pub record Asking (level : ℕ) (F G : List ℕ) (s : Faces) (row : ℕ) : Type 0 where
  pub ok : DiagonalsOk F s
  pub reach : row ≤ s.rows
  pub asked : diagonals_asked level (pattern_at F s) ≡ ask_from row s.rows (asks level (pattern_at F s)) passed
  pub is : G ≡ splice s.diagonals (tab (own (pattern_at F s)) row) F

-- Before the first row.
pub asking_start : {level : ℕ} {F : List ℕ} {s : Faces} → DiagonalsOk F s → Asking level F F s 0
unfolding diagonals_asked tab
asking_start {level} {F} {s} ok = record { ok = ok; reach = omega arith; asked = refl; is = sym (splice_nil s.diagonals F) }

module _ {level : ℕ} {F G : List ℕ} {s : Faces} {row : ℕ} (a : Asking level F G s row) where
  asking_kept : Kept s.starts F G
  asking_kept = kept_wrote (wrote {b = s.diagonals} a.is (length_tab (own (pattern_at F s)) row)) a.ok.below

  -- What `entry_at` requires of the next row.
  pub asking_entry : row < s.rows → EntryOk G s row
  asking_entry h = record { ordered = ordered_on a.ok.ordered asking_kept; near = h }

  -- A row with its diagonal entry.
  pub asking_yes : {e : ℕ} → row < s.rows → Entry G s row row (Some e) → Asking level F (set G (s.diagonals + row) e) s
      (row + 1)
  asking_yes {e} h at =
      let p = pattern_at F s in
      let there = entry_there_lem a.ok.ordered (entry_back a.ok.ordered.standing asking_kept at) in
      record {
        ok = a.ok;
        reach = omega arith;
        asked = a.asked ∙ each_step row s.rows (asks level p) passed h
            (ask_yes (has_entry p row row) (missing_diagonal level row) passed there.0);
        is = rw (a.is, there.1) (set_tab s.diagonals row (own p) F);
      }

  -- A row without it ends the questions.
  pub asking_no : row < s.rows → Entry G s row row None → DiagonalsDone F G s level
      (Err (missing_diagonal level row))
  asking_no h at =
      let p = pattern_at F s in
      let none = entry_missing (entry_back a.ok.ordered.standing asking_kept at) in
      let reach = a.reach in
      record {
        verdict = sym (verdict_refused (diagonals_asked level p) (a.asked ∙ each_stop row s.rows (asks level p) passed h
            (ask_no (has_entry p row row) (missing_diagonal level row) passed none)));
        diagonals = λ t. let z : ◌≡◌ {A = ℕ} 0 1 = cc in absurd (omega arith);
        only = wrote_only s.diagonals s.rows (tab (own p) row) F G a.is (rw (length_tab (own p) row) reach) a.ok.room;
      }

  -- After the last row all have it.
  pub asking_done : s.rows ≤ row → DiagonalsDone F G s level (Ok tt)
  unfolding diagonals_of
  asking_done h =
      let p = pattern_at F s in
      let reach = a.reach in
      let e : row ≡ s.rows = omega arith in
      let is : G ≡ splice s.diagonals (tab (own p) s.rows) F = rw e at a.is in
      let long : length (tab (own p) s.rows) ≡ s.rows = length_tab (own p) s.rows in
      record {
        verdict = sym (verdict_passed (diagonals_asked level p) (a.asked ∙ each_done row s.rows (asks level p) passed h));
        diagonals = λ t. ap (part s.diagonals s.rows) is ∙ part_splice s.diagonals s.rows (tab (own p) s.rows) F long
            a.ok.room;
        only = wrote_only s.diagonals s.rows (tab (own p) s.rows) F G is (omega arith) a.ok.room;
      }
