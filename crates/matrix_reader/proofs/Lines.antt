-- The lines behind the size line, one after the other: what is left to read gives what the whole gives. Assumes nothing.
use mathlib.Core.Path.{◌≡◌, refl, sym, ap, ◌∙◌}
use mathlib.Core.Bool.{Bool, cond}
use mathlib.Core.List.{List, [], ◌∷◌, ◌++◌}
use Prim.Native.Nat.{ℕ, ◌+◌, ◌-◌, ◌≤◌, ◌<◌}
use native.Mathlib.Omega.{arith}
use lib.Dec.{ltb}
use lib.ListN.{length, take, drop}
use lib.Ieee.{Float}
use borrow.Author.Tests.{lt-ltb, le-ltb}
use Rattle.std.specs.Prelude.{None, Result, Ok, Err}
use Rattle.matrix_market.specs.declared.placed.PlacedError.{PlacedError}
use Rattle.matrix_market.specs.declared.lines.Line.{Line}
use Rattle.matrix_market.specs.Lines.{data_of}
use Rattle.matrix_market.specs.Walk.{NextIs, NextLine}
use Rattle.matrix_market.specs.Placed.{placed_in}
use Rattle.coordinate.specs.Coordinate.{Entry}
use Rattle.matrix_reader.specs.declared.head.Head.{Head}
use Rattle.matrix_market.specs.declared.entries.EntryError.{EntryError}
use Rattle.matrix_reader.specs.declared.entries.LinesError.{LinesError}
use Rattle.matrix_reader.specs.Contract.{stated_by}
use Rattle.matrix_reader.specs.Steps.{Pass, malformed, bad_value, pass_line, pass_from, entries_to, LineOk, line_answer, stored_of, LineStored, LinesOk, LinesAre}
use Rattle.matrix_reader.proofs.Stored.{no_entries, entries_length, entries_more}

-- ---- one line

module _ (es : List Entry) (rest : List Entry → Pass) where
  pass_malformed : (p : Result (ℕ × ℕ × Float) PlacedError) → line_answer p ≡ Err EntryError.Malformed → pass_line es rest p ≡ malformed
  pass_malformed (Err PlacedError.Malformed) e = refl
  pass_malformed (Err (PlacedError.BadValue r c)) e = absurd (let w : ◌≡◌ {A = ℕ} 0 1 = cc in omega arith)
  pass_malformed (Ok (r, c, v)) e = absurd (let w : ◌≡◌ {A = ℕ} 0 1 = cc in omega arith)

  pass_bad : (p : Result (ℕ × ℕ × Float) PlacedError) → line_answer p ≡ Err EntryError.BadValue → pass_line es rest p ≡ bad_value (es ++ (stored_of p ∷ []))
  pass_bad (Err PlacedError.Malformed) e = absurd (let w : ◌≡◌ {A = ℕ} 0 1 = cc in omega arith)
  pass_bad (Err (PlacedError.BadValue r c)) e = refl
  pass_bad (Ok (r, c, v)) e = absurd (let w : ◌≡◌ {A = ℕ} 0 1 = cc in omega arith)

  pass_entry : (p : Result (ℕ × ℕ × Float) PlacedError) → line_answer p ≡ Ok tt → pass_line es rest p ≡ rest (es ++ (stored_of p ∷ []))
  pass_entry (Err PlacedError.Malformed) e = absurd (let w : ◌≡◌ {A = ℕ} 0 1 = cc in omega arith)
  pass_entry (Err (PlacedError.BadValue r c)) e = absurd (let w : ◌≡◌ {A = ℕ} 0 1 = cc in omega arith)
  pass_entry (Ok (r, c, v)) e = refl

-- ---- the lines

-- So far m entries stand in the slices, and what is left from `at` on gives what the whole gives.
pub record Reading (t : List ℕ) (h : Head) (R₀ C₀ : List ℕ) (F₀ : List Float) (R C : List ℕ) (F : List Float) (at m : ℕ) : Type 0 where
  pub rows : length R ≡ length R₀
  pub columns : length C ≡ length C₀
  pub values : length F ≡ length F₀
  pub within : at ≤ length t
  pub few : m ≤ h.entries
  pub is : pass_from h.symmetric (stated_by h) (entries_to m R C F) (data_of (drop at t)) ≡ pass_from h.symmetric (stated_by h) [] (data_of (drop h.next t))

pub reading_start : {t : List ℕ} {h : Head} {R C : List ℕ} {F : List Float} → LinesOk t h R C F → Reading t h R C F R C F h.next 0
reading_start {t} {h} {R} {C} {F} o = record {
  rows = refl;
  columns = refl;
  values = refl;
  within = o.next;
  few = omega arith;
  is = ap (λ (es : List Entry). pass_from h.symmetric (stated_by h) es (data_of (drop h.next t))) (no_entries R C F);
}

module _ {t : List ℕ} {h : Head} {R₀ C₀ : List ℕ} {F₀ : List Float} {R C : List ℕ} {F : List Float} {at m : ℕ} (o : LinesOk t h R₀ C₀ F₀) (s : Reading t h R₀ C₀ F₀ R C F at m) where
  ended_is : data_of (drop at t) ≡ [] → LinesAre t h R C F (Ok m)
  unfolding pass_from
  ended_is e = record { is = sym (ap (pass_from h.symmetric (stated_by h) (entries_to m R C F)) e) ∙ s.is; few = s.few }

  -- no further line counts
  pub reading_none : NextLine t at None → LinesAre t h R C F (Ok m)
  reading_none n = ended_is n

  module _ {l : Line} (n : NextIs t at l) where
    abbrev line : List ℕ
    line = take (l.to - l.from) (drop l.from t)

    abbrev rest : List Entry → Pass
    rest es = pass_from h.symmetric (stated_by h) es (data_of (drop l.next t))

    counted : length (entries_to m R C F) ≡ m
    counted = entries_length m R C F (omega (arith, s.few, s.rows, o.rows)) (omega (arith, s.few, s.columns, o.columns)) (omega (arith, s.few, s.values, o.values))

    next_is : cond (ltb m h.entries) (pass_line (entries_to m R C F) rest (placed_in h.symmetric h.rows line)) malformed
        ≡ pass_from h.symmetric (stated_by h) [] (data_of (drop h.next t))
    unfolding pass_from
    next_is =
        sym (ap (λ (k : ℕ). cond (ltb k h.entries) (pass_line (entries_to m R C F) rest (placed_in h.symmetric h.rows line)) malformed) counted)
        ∙ sym (ap (pass_from h.symmetric (stated_by h) (entries_to m R C F)) n.is) ∙ s.is

    -- a surplus line
    pub reading_surplus : h.entries ≤ m → LinesAre t h R C F (Err LinesError.Malformed)
    reading_surplus g = record {
      is = sym (ap (λ (b : Bool). cond b (pass_line (entries_to m R C F) rest (placed_in h.symmetric h.rows line)) malformed) (le-ltb m h.entries g)) ∙ next_is;
      few = omega arith;
    }

    module _ (g : m < h.entries) where
      pub line_ok : LineOk h.rows m R C F
      line_ok = record {
        few = o.few;
        place = record { rows = omega (arith, s.rows, o.rows); columns = omega (arith, s.columns, o.columns); values = omega (arith, s.values, o.values) };
      }

      past : pass_line (entries_to m R C F) rest (placed_in h.symmetric h.rows line) ≡ pass_from h.symmetric (stated_by h) [] (data_of (drop h.next t))
      past = sym (ap (λ (b : Bool). cond b (pass_line (entries_to m R C F) rest (placed_in h.symmetric h.rows line)) malformed) (lt-ltb m h.entries g)) ∙ next_is

      module _ {R' C' : List ℕ} {F' : List Float} {r : Result Unit EntryError} (p : LineStored (placed_in h.symmetric h.rows line) m R C F R' C' F' r) where
        -- a line that is no entry
        pub reading_malformed : r ≡ Err EntryError.Malformed → LinesAre t h R' C' F' (Err LinesError.Malformed)
        reading_malformed e = record {
          is = sym (pass_malformed (entries_to m R C F) rest (placed_in h.symmetric h.rows line) (sym p.answer ∙ e)) ∙ past;
          few = omega arith;
        }

        -- an entry with a bad value
        pub reading_bad : r ≡ Err EntryError.BadValue → LinesAre t h R' C' F' (Err (LinesError.BadValue m))
        reading_bad e = record {
          is =
              ap bad_value (entries_more line_ok.place (p.bad e))
              ∙ sym (pass_bad (entries_to m R C F) rest (placed_in h.symmetric h.rows line) (sym p.answer ∙ e)) ∙ past;
          few = omega arith;
        }

        -- an entry
        pub reading_on : r ≡ Ok tt → length R' ≡ length R → length C' ≡ length C → length F' ≡ length F → Reading t h R₀ C₀ F₀ R' C' F' l.next (m + 1)
        reading_on e x y z = record {
          rows = x ∙ s.rows;
          columns = y ∙ s.columns;
          values = z ∙ s.values;
          within = n.ahead;
          few = omega arith;
          is =
              ap rest (entries_more line_ok.place (p.entry e))
              ∙ sym (pass_entry (entries_to m R C F) rest (placed_in h.symmetric h.rows line) (sym p.answer ∙ e)) ∙ past;
        }
