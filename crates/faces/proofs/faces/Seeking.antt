-- The loop of `row_from`.
-- Assumes nothing.
use mathlib.Core.Path.{◌≡◌, sym, ◌∙◌}
use mathlib.Core.List.{List}
use mathlib.Core.Logic.{⊎_elim}
use Prim.Native.Nat.{ℕ, ◌+◌, ◌≤◌, ◌<◌}
use native.Mathlib.Omega.{arith}
use Rattle.store.specs.Region.{idx}
use Rattle.store.proofs.store.Region.{le_or_lt}
use Rattle.pattern.specs.Pattern.{row_of}
use Rattle.pattern.proofs.pattern.Row.{offset_mono, row_is, row_in}
use Rattle.faces.specs.declared.faces.Faces.{Faces}
use Rattle.faces.specs.Contract.{pattern_at}
use Rattle.faces.specs.Steps.{SeekOk, Sought}
use Rattle.faces.proofs.faces.Standing.{size_at_lem, next_at}

-- The row at hand is one of the rows.
pub seek_near : {w : List ℕ} {s : Faces} {row e : ℕ} → SeekOk w s row e → row < s.rows
seek_near {w} {s} {row} {e} ok =
    let b = ok.behind in
    let r = (row_in ok.standing.valid e (rw (size_at_lem ok.standing) ok.near)).0 in
    omega arith

-- The invariant: the entry's row is not before `row`, which ends at `end`.
pub record Seeking (w : List ℕ) (s : Faces) (e row end : ℕ) : Type 0 where
  pub ok : SeekOk w s row e
  pub near : row < s.rows
  pub ends : end ≡ idx (pattern_at w s).offsets (row + 1)

-- At the start the row that is given ends there.
pub seek_start : {w : List ℕ} {s : Faces} {e row end : ℕ} → SeekOk w s row e → end ≡ idx w (s.offsets + row + 1) → Seeking w s e row
    end
seek_start {w} {s} {e} {row} {end} ok is = record
    { ok = ok; near = seek_near ok; ends = is ∙ next_at ok.standing row (seek_near ok) }

module _ {w : List ℕ} {s : Faces} {e row end : ℕ} (k : Seeking w s e row end) where
  -- A row that ends at or before the entry is passed.
  pub seek_next : end ≤ e → SeekOk w s (row + 1) e
  seek_next h =
      let ends = k.ends in
      let b = row_in k.ok.standing.valid e (rw (size_at_lem k.ok.standing) k.ok.near) in
      record {
        standing = k.ok.standing;
        near = k.ok.near;
        behind = ⊎_elim
            (λ (v : row_of (pattern_at w s) e ≤ row). let m = offset_mono k.ok.standing.valid (row_of (pattern_at w s) e + 1) (row + 1)
            (omega arith) (omega (arith, k.near)) in
            let u = b.2 in absurd (omega arith))
            (λ (v : row < row_of (pattern_at w s) e). omega arith)
            (le_or_lt (row_of (pattern_at w s) e) row);
      }

  -- The first that does not is the entry's.
  pub seek_done : e < end → Sought w s e row
  seek_done h =
      let ends = k.ends in
      let near = k.near in
      let b = row_in k.ok.standing.valid e (rw (size_at_lem k.ok.standing) k.ok.near) in
      let m = offset_mono k.ok.standing.valid row (row_of (pattern_at w s) e) k.ok.behind (omega (arith, b.0)) in
      let l = b.1 in
      record { row = sym (row_is k.ok.standing.valid row e near (omega arith) (omega arith)) }
