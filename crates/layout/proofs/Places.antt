-- A place by its equations, and the place that the words of a level tell.
-- Assumes nothing.
use mathlib.Core.Path.{◌≡◌, refl, sym, ap, ◌∙◌}
use mathlib.Core.Bool.{Bool, true, false, cond}
use mathlib.Core.List.{List}
use Prim.Native.Nat.{ℕ, ◌+◌, ◌*◌, ◌≤◌, ◌<◌}
use native.Mathlib.Omega.{arith}
use lib.ListN.{length}
use borrow.Author.Tests.{eq-eqb, ne_eqb}
use Rattle.store.specs.Region.{idx}
use Rattle.store.proofs.store.Region.{get_d_part}
use Rattle.pattern.specs.Pattern.{Pattern, Valid}
use Rattle.faces.specs.Faces.{face_offsets_of}
use Rattle.faces.proofs.faces.Laws.{starts_last}
use Rattle.layout.specs.declared.Place.{Place}
use Rattle.layout.specs.Layout.{place_of, rows_at, last_at, coupled_at, locate, words_end}
use Rattle.layout.specs.Placed.{Placed, Shapes}
use Rattle.layout.specs.PlaceContract.{PlaceOk}

-- The place of so many rows, entries and faces meets the equations.
pub placed : {a b rows entries faces : ℕ} → Placed a b (place_of a b rows entries faces)
placed = record {
  offsets = refl;
  columns = refl;
  starts = refl;
  diagonals = refl;
  neighbors = refl;
  uppers = refl;
  lowers = refl;
  links = refl;
  positions = refl;
  values = refl;
  coefficients = refl;
  diagonal = refl;
  inverse = refl;
  dic = refl;
  factor = refl;
}

-- And no other place does.
pub placed_is : {a b : ℕ} {p : Place} → Placed a b p → p ≡ place_of a b p.rows p.entries p.faces
placed_is {a} {b} {p} h = rw (
  h.factor,
  h.dic,
  h.inverse,
  h.diagonal,
  h.coefficients,
  h.values,
  h.positions,
  h.links,
  h.lowers,
  h.uppers,
  h.neighbors,
  h.diagonals,
  h.starts,
  h.columns,
  h.offsets,
)

-- The words of a level tell its place.
pub located : {w : List ℕ} {a b : ℕ} {p : Place} {q : Pattern} → Placed a b p → Shapes w a p q → Valid q → locate w a b ≡ p
located {w} {a} {b} {p} {q} h s v =
    let rows : rows_at w a ≡ p.rows = s.head in
    let entriesIs : idx w (a + 3 + p.rows) ≡ p.entries =
    ap (idx w) (omega arith) ∙ sym (get_d_part p.offsets (p.rows + 1) w p.rows 0 (omega arith))
    ∙ ap (λ (l : List ℕ). idx l p.rows) s.offsets ∙ ap (idx q.offsets) s.rows ∙ v.last ∙ sym s.most in
    let facesIs : idx w (a + 3 + p.rows + 1 + p.entries + p.rows) ≡ p.faces =
    ap (idx w) (omega arith) ∙ sym (get_d_part p.starts (p.rows + 1) w p.rows 0 (omega arith))
    ∙ ap (λ (l : List ℕ). idx l p.rows) s.starts ∙ ap (idx (face_offsets_of q)) s.rows ∙ starts_last v ∙ sym s.count in
    rw (rows, entriesIs, facesIs) (sym (placed_is h))

-- ---- where the words end

-- where the links of a level of so many rows, entries and faces start
abbrev links_of : ℕ → ℕ → ℕ → ℕ → ℕ
links_of a rows entries faces = a + 5 + 3 * rows + entries + 3 * faces

module _ (w : List ℕ) (a : ℕ) {rows entries faces : ℕ} (r : rows ≡ rows_at w a) (e : entries ≡ idx w (a + 3 + rows))
    (f : faces ≡ idx w (a + 3 + rows + 1 + entries + rows)) where
  -- The end by those sizes.
  ends_at : words_end w a ≡ cond (last_at w a) ((place_of a 0 rows entries faces).links + coupled_at w a) ((place_of a 0 rows entries faces).positions + entries)
  unfolding words_end
  ends_at = rw (← r, ← e, ← f)

  -- The words of the last level end with its coupled rows,
  pub ends_last : {coupled : ℕ} → idx w (a + 1) ≡ 1 → coupled ≡ idx w (a + 2) → links_of a rows entries faces + coupled ≡ words_end w a
  ends_last t c = sym (ends_at ∙ rw (eq-eqb (idx w (a + 1)) 1 t) (omega arith))

  -- those of any other with a position for each entry.
  pub ends_inner : (idx w (a + 1) ≡ 1 → ⊥) → links_of a rows entries faces + rows + entries ≡ words_end w a
  ends_inner t = sym (ends_at ∙ rw (ne_eqb (idx w (a + 1)) 1 t) (omega arith))

  -- All sizes of a level whose words lie in the store are read in it.
  pub ends_above : {size : ℕ} → words_end w a ≤ size → links_of a rows entries faces ≤ size
  ends_above {size} h = go (last_at w a) (rw ends_at at h)
    where
      go : (last : Bool) → cond last ((place_of a 0 rows entries faces).links + coupled_at w a) ((place_of a 0 rows entries faces).positions + entries) ≤ size
          → links_of a rows entries faces ≤ size
      go true h = omega arith
      go false h = omega arith

  -- The sizes of a level whose place may be read fit it,
  pub place_fits : {b : ℕ} → PlaceOk w a b → 4 * length w ≤ 18446744073709551615
      → (a + 4 * rows + entries + 3 * faces + 5 ≤ 18446744073709551615) × (b + 3 * rows + entries + faces ≤ 18446744073709551615)
  place_fits {b} ok h =
      let words = ends_above ok.words in
      let floats : (place_of a b rows entries faces).factor ≤ 18446744073709551615 = rw (← r, ← e, ← f) at ok.floats in
      (omega arith, omega arith)

  -- and tell it.
  pub place_is : {b : ℕ} {p : Place} → p ≡ place_of a b rows entries faces → p ≡ locate w a b
  place_is q = q ∙ rw (← r, ← e, ← f)

-- ---- the place that the words tell

-- Where the words of a level end in the store, its place may be read, its floats starting at 0.
pub words_place : {w : List ℕ} {a : ℕ} → words_end w a ≤ length w → 4 * length w ≤ 18446744073709551615 → PlaceOk w a 0
words_place {w} {a} h fits = record { words = h; floats = omega (arith, ends_above w a refl refl refl h) }

-- Its header lies in the store.
pub head_within : (w : List ℕ) (a : ℕ) → words_end w a ≤ length w → a + 2 < length w
head_within w a h = omega (arith, ends_above w a refl refl refl h)

module _ (w : List ℕ) (a : ℕ) {p : Place} (is : p ≡ locate w a 0) where
  -- The words of the last level end with its coupled rows,
  pub end_last : {coupled : ℕ} → idx w (a + 1) ≡ 1 → coupled ≡ idx w (a + 2) → p.links + coupled ≡ words_end w a
  unfolding words_end
  end_last t c = rw (is, c, eq-eqb (idx w (a + 1)) 1 t)

  -- those of any other with a position for each entry.
  pub end_inner : (idx w (a + 1) ≡ 1 → ⊥) → p.positions + p.entries ≡ words_end w a
  unfolding words_end
  end_inner t = rw (is, ne_eqb (idx w (a + 1)) 1 t)
