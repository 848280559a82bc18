-- The words of a level that stay: its first word, and each region from its offsets on up to an end.
-- Assumes nothing.
use mathlib.Core.Path.{◌≡◌, ap, ◌∙◌}
use mathlib.Core.List.{List}
use Prim.Native.Nat.{ℕ, ◌+◌, ◌≤◌, ◌<◌}
use native.Mathlib.Omega.{arith}
use lib.ListN.{length}
use Rattle.store.specs.Region.{idx, part, Wrote, Kept}
use Rattle.store.proofs.store.Region.{get_d_splice_below, wrote_off, kept_part, kept_get}
use Rattle.pattern.specs.Pattern.{Pattern}
use Rattle.layout.specs.declared.Place.{Place}
use Rattle.layout.specs.Placed.{Placed, Shapes}
use Rattle.coarsening.specs.declared.coarsen.Workspace.{Workspace}
use Rattle.coarsening.specs.CoarsenContract.{pattern_at}
use Rattle.build_level.specs.LayingContract.{level_in}

-- Of w became z, in which the word at a and each region from a + 3 on that ends at or below `end` are the same.
pub record Same (a end : ℕ) (w z : List ℕ) : Type 0 where
  pub head : idx z a ≡ idx w a
  pub parts : (x n : ℕ) → a + 3 ≤ x → x + n ≤ end → part x n z ≡ part x n w
  pub size : length z ≡ length w

-- The two other words of the header may be written.
pub same_wrote : {a : ℕ} {v w z : List ℕ} → Wrote (a + 1) 2 v w z → (end : ℕ) → Same a end w z
same_wrote {a} {v} {w} {z} h end = record {
  head = ap (λ (l : List ℕ). idx l a) h.is ∙ get_d_splice_below (a + 1) v w a 0 (omega arith);
  parts = λ x n l _. wrote_off h x n (omega arith);
  size = h.size;
}

-- So may what stands above the end.
pub same_kept : {a end : ℕ} {w z : List ℕ} → Kept end w z → a < end → Same a end w z
same_kept {a} {end} {w} {z} k h = record { head = kept_get k a 0 h; parts = λ x n _ l. kept_part k x n l; size = k.size }

-- One after the other.
pub same_on : {a end : ℕ} {w y z : List ℕ} → Same a end w y → Same a end y z → Same a end w z
same_on g h = record { head = h.head ∙ g.head; parts = λ x n a l. h.parts x n a l ∙ g.parts x n a l; size = h.size ∙ g.size }

module _ {a b end : ℕ} {p : Place} {w z : List ℕ} (h : Placed a b p) (k : Same a end w z) (l : p.links ≤ end) where
  -- The pattern of the level is the same,
  pub pattern_same : (t : Workspace) → pattern_at z (level_in t p) ≡ pattern_at w (level_in t p)
  pattern_same t = rw (
    k.parts p.offsets (p.rows + 1) (omega arith) (omega arith),
    k.parts p.columns p.entries (omega arith) (omega arith),
  )

  -- and so are its faces.
  pub shapes_same : {q : Pattern} → Shapes w a p q → Shapes z a p q
  shapes_same s = record {
    rows = s.rows;
    most = s.most;
    count = s.count;
    head = k.head ∙ s.head;
    offsets = k.parts p.offsets (p.rows + 1) (omega arith) (omega arith) ∙ s.offsets;
    columns = k.parts p.columns p.entries (omega arith) (omega arith) ∙ s.columns;
    starts = k.parts p.starts (p.rows + 1) (omega arith) (omega arith) ∙ s.starts;
    diagonals = k.parts p.diagonals p.rows (omega arith) (omega arith) ∙ s.diagonals;
    neighbors = k.parts p.neighbors p.faces (omega arith) (omega arith) ∙ s.neighbors;
    uppers = k.parts p.uppers p.faces (omega arith) (omega arith) ∙ s.uppers;
    lowers = k.parts p.lowers p.faces (omega arith) (omega arith) ∙ s.lowers;
  }
