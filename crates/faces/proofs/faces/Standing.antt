-- The pattern in the store: its words, and that nothing written from `starts` on changes it.
-- Assumes nothing.
use mathlib.Core.Path.{◌≡◌, refl, sym, ap, ◌∙◌, subst}
use mathlib.Core.List.{List}
use Prim.Native.Nat.{ℕ, ◌+◌, ◌≤◌, ◌<◌}
use native.Mathlib.Omega.{arith}
use Rattle.store.specs.Region.{idx, part, Kept}
use Rattle.store.proofs.store.Region.{length_part, get_d_part, kept_part}
use Rattle.pattern.specs.Pattern.{Pattern, entries, column_of, Valid, Rising, Diagonal}
use Rattle.faces.specs.declared.faces.Faces.{Faces}
use Rattle.faces.specs.Contract.{pattern_at, Standing, Ordered, CoupledOk}
use Rattle.faces.proofs.faces.Entries.{offset_few}

module _ {w : List ℕ} {s : Faces} (stands : Standing w s) where
  -- The pattern has as many entries as the sizes say.
  pub size_at_lem : entries (pattern_at w s) ≡ s.entries
  size_at_lem = let l = stands in length_part s.columns s.entries w (omega arith)

  -- An offset is the word at its place.
  pub offset_at : (i : ℕ) → i ≤ s.rows → idx w (s.offsets + i) ≡ idx (pattern_at w s).offsets i
  offset_at i h = sym (get_d_part s.offsets (s.rows + 1) w i 0 (omega arith))

  -- So is the next one.
  pub next_at : (i : ℕ) → i < s.rows → idx w (s.offsets + i + 1) ≡ idx (pattern_at w s).offsets (i + 1)
  next_at i h = let e : s.offsets + i + 1 ≡ s.offsets + (i + 1) = omega arith in ap (λ (k : ℕ). idx w k) e ∙ offset_at (i + 1)
      (omega arith)

  -- A column is the word at its place.
  pub column_at : (e : ℕ) → e < s.entries → idx w (s.columns + e) ≡ column_of (pattern_at w s) e
  column_at e h = sym (get_d_part s.columns s.entries w e 0 h)

  -- A column is one of the rows.
  pub column_near : (e : ℕ) → e < s.entries → idx w (s.columns + e) < s.rows
  column_near e h = rw (column_at e h) (stands.valid.inside e (rw size_at_lem h))

  -- The next one too.
  pub next_less : (i : ℕ) → i < s.rows → idx w (s.offsets + i + 1) ≤ s.entries
  next_less i h = rw (next_at i h, ← size_at_lem) (offset_few stands.valid (i + 1) (omega arith))

  -- ---- after a write

  module _ {z : List ℕ} (kept : Kept s.starts w z) where
    -- The pattern is the same.
    pub pattern_kept : pattern_at z s ≡ pattern_at w s
    pattern_kept =
        let l = stands in
        let o : part s.offsets (s.rows + 1) z ≡ part s.offsets (s.rows + 1) w = kept_part kept s.offsets (s.rows + 1)
        (omega arith) in
        let c : part s.columns s.entries z ≡ part s.columns s.entries w = kept_part kept s.columns s.entries
        (omega arith) in
        rw (o, c) refl

    -- It stands.
    pub standing_on : Standing z s
    standing_on = let size = kept.size in record {
      few = stands.few;
      less = stands.less;
      offsets = stands.offsets;
      columns = stands.columns;
      inside = omega (arith, stands.inside);
      valid = subst (λ (p : Pattern). Valid p) (sym pattern_kept) stands.valid;
    }

-- It stands in order.
pub ordered_on : {w z : List ℕ} {s : Faces} → Ordered w s → Kept s.starts w z → Ordered z s
ordered_on {w} {z} {s} o k = record {
  standing = standing_on o.standing k;
  rising = subst (λ (p : Pattern). Rising p) (sym (pattern_kept o.standing k)) o.rising;
}

-- It has its diagonal.
pub coupled_on : {w z : List ℕ} {s : Faces} → CoupledOk w s → Kept s.starts w z → CoupledOk z s
coupled_on {w} {z} {s} o k = record {
  ordered = ordered_on o.ordered k;
  diagonal = subst (λ (p : Pattern). Diagonal p) (sym (pattern_kept o.ordered.standing k)) o.diagonal;
}
