-- The inner functions' turns as the code has them, the invariants of their loops, and what one requires of the next.
-- Assumes nothing.
use mathlib.Core.Path.{◌≡◌, refl, sym, ap, ◌∙◌}
use mathlib.Core.List.{List}
use Prim.Native.Nat.{ℕ, ◌+◌, ◌≤◌, ◌<◌}
use native.Mathlib.Nat.{add_assoc, add-zero}
use native.Mathlib.Omega.{arith}
use lib.ListN.{length, set, length-set}
use lib.Ieee.{Float}
use Rattle.float.specs.Float.{add64, mul64}
use Rattle.store.specs.Loop.{for}
use Rattle.store.specs.Region.{at, idx}
use Rattle.store.proofs.store.Loop.{for_step, for_done, Left, left_start, left_on, left_end, for_one}
use Rattle.matrix.specs.declared.matrix.SymmetricMatrix.{SymmetricMatrix}
use Rattle.matrix.specs.Contract.{KernelOk}
use Rattle.matrix.specs.Kernel.{Owned}
use Rattle.matrix.specs.Turns.{faces_of, start_of, end_of, VectorsOk, face_turn, row_turn, sum_turn, sum_row_turn, Faced, Rowed, Spread, SumFaced, SumRowed, Summed}

-- ---- layouts

-- A face's neighbour stands in the words, and is a row.
pub neighbor_in : {w : List ℕ} {low : ℕ} {s : SymmetricMatrix} (e : ℕ) → KernelOk w low s → e < faces_of w s
    → (s.neighbors + e < length w) × (idx w (s.neighbors + e) < s.rows)
neighbor_in e ok h = (omega (arith, ok.columns), ok.near e h)

-- The faces of a row are among those of the matrix.
pub row_faces_lem : {w : List ℕ} {low row hi : ℕ} {s : SymmetricMatrix} → KernelOk w low s → row < s.rows → hi ≡ end_of w s row → hi ≤ faces_of w s
row_faces_lem {w} {low} {row} {hi} {s} ok h e = let below : end_of w s row ≤ faces_of w s = ok.falls row h in omega arith

-- The layout holds in a store of the same size.
pub vectors_resize : {w : List ℕ} {size size' u v : ℕ} {s : SymmetricMatrix} → VectorsOk w size s u v → size' ≡ size → VectorsOk w size' s u v
vectors_resize ok e = rw e ok

-- ---- x spread over the faces

module _ (op : Float → Float → Float) (w : List ℕ) (s : SymmetricMatrix) (x out : ℕ) where
  -- The invariant of the loop over a row's faces: what is left to do from e gives what the whole gives.
  pub record Facing (lo hi : ℕ) (own : Float) (F : List Float) (owner : Float) (e : ℕ) (G : List Float) (t : Float) : Type 0 where
    pub size : length G ≡ length F
    pub left : Left (face_turn op w s x out own) e hi (record { vector = G; owner = t }) (for (face_turn op w s x out own) lo hi (record { vector = F; owner = owner }))

  -- The invariant of the loop over the rows: what is left to do gives what the whole gives, and lo is where the faces of the row start.
  pub record Spreading (F : List Float) (row : ℕ) (G : List Float) (lo : ℕ) : Type 0 where
    pub size : length G ≡ length F
    pub left : Left (row_turn op w s x out) row s.rows G (for (row_turn op w s x out) 0 s.rows F)
    pub from : lo ≡ start_of w s row

module _ {op : Float → Float → Float} {w : List ℕ} {s : SymmetricMatrix} {x out : ℕ} where
  -- One face, as the code has it: its neighbour j, the owner's value r and the neighbour's u are known by equations.
  pub faced_one : {e j : ℕ} {own t r u : Float} {F : List Float} → j ≡ idx w (s.neighbors + e)
      → r ≡ op t (mul64 (at F (s.coefficients + e)) (at F (x + j)))
      → u ≡ op (at F (out + j)) (mul64 (at F (s.coefficients + e)) own)
      → Faced op w s x out e (e + 1) own F t (set F (out + j) u) r
  unfolding face_turn
  faced_one {e} {j} {own} {t} {r} {u} {F} h k l =
      record { is = rw (k, l, h) (sym (for_one (face_turn op w s x out own) e (record { vector = F; owner = t }))) }

  module _ {own t r : Float} {F G : List Float} where
    -- What it leaves is a turn of the loop,
    pub faced_turn : {e : ℕ} → Faced op w s x out e (e + 1) own F t G r → record { vector = G; owner = r } ≡ face_turn op w s x out own e (record { vector = F; owner = t })
    faced_turn {e} d = d.is ∙ for_one (face_turn op w s x out own) e (record { vector = F; owner = t })

    -- in a store of the same size.
    pub faced_size : {e : ℕ} → Faced op w s x out e (e + 1) own F t G r → length G ≡ length F
    unfolding face_turn
    faced_size d = ap (λ (a : Owned). length a.vector) (faced_turn d) ∙ length-set F _ _

  -- Two faces, one after the other.
  pub faced_two : {lo : ℕ} {own t m r : Float} {F G H : List Float}
      → Faced op w s x out lo (lo + 1) own F t G m → Faced op w s x out (lo + 1) (lo + 1 + 1) own G m H r → Faced op w s x out lo (lo + 2) own F t H r
  faced_two {lo} {own} {t} {m} {r} {F} {G} {H} a b =
      let turn = face_turn op w s x out own in
      let u : Owned = record { vector = F; owner = t } in
      let first : for turn lo (lo + 2) u ≡ for turn (lo + 1) (lo + 2) (turn lo u) = for_step turn lo (lo + 2) u (omega arith) in
      let second : for turn (lo + 1) (lo + 2) (turn lo u) ≡ for turn (lo + 1 + 1) (lo + 2) (turn (lo + 1) (turn lo u)) = for_step turn (lo + 1) (lo + 2) (turn lo u) (omega arith) in
      let none : for turn (lo + 1 + 1) (lo + 2) (turn (lo + 1) (turn lo u)) ≡ turn (lo + 1) (turn lo u) = for_done turn (lo + 1 + 1) (lo + 2) (turn (lo + 1) (turn lo u)) (omega arith) in
      record { is = faced_turn b ∙ ap (turn (lo + 1)) (faced_turn a) ∙ sym (first ∙ second ∙ none) }

  -- The end of the faces by another name.
  pub faced_upto : {lo hi hi' : ℕ} {own owner r : Float} {F G : List Float} → hi ≡ hi' → Faced op w s x out lo hi own F owner G r → Faced op w s x out lo hi' own F owner G r
  faced_upto e d = rw e at d

  -- At the start the whole is left.
  pub facing_start : {lo hi : ℕ} {own owner : Float} {F : List Float} → Facing op w s x out lo hi own F owner lo F owner
  facing_start = record { size = refl; left = left_start }

  module _ {lo hi e : ℕ} {own owner t : Float} {F G : List Float} (i : Facing op w s x out lo hi own F owner e G t) where
    -- A face.
    pub facing_on : {r : Float} {H : List Float} → e < hi → Faced op w s x out e (e + 1) own G t H r → Facing op w s x out lo hi own F owner (e + 1) H r
    facing_on h d = record { size = faced_size d ∙ i.size; left = left_on i.left h (faced_turn d) }

    -- The end.
    pub facing_end : hi ≤ e → Faced op w s x out lo hi own F owner G t
    facing_end h = record { is = left_end i.left h }

  -- A row: its bounds are known by equations, and the owner's value is stored last.
  pub rowed : {row lo hi : ℕ} {F G : List Float} {r : Float} → lo ≡ start_of w s row → hi ≡ end_of w s row
      → Faced op w s x out lo hi (at F (x + row)) F (at F (out + row)) G r → Rowed op w s x out row F (set G (out + row) r) hi
  unfolding row_turn
  rowed {row} a b e = record { is = ap (λ (t : Owned). set t.vector (out + row) t.owner) (rw (a, b) at e.is); next = rw add_assoc at b }

  -- At the start the whole is left.
  pub spreading_start : {lo : ℕ} {F : List Float} → lo ≡ idx w s.offsets → Spreading op w s x out F 0 F lo
  spreading_start e = record { size = refl; left = left_start; from = rw add-zero e }

  module _ {row lo : ℕ} {F G : List Float} (i : Spreading op w s x out F row G lo) where
    -- A row.
    pub spreading_on : {end : ℕ} {H : List Float} → row < s.rows → Rowed op w s x out row G H end → length H ≡ length G → Spreading op w s x out F (row + 1) H end
    spreading_on h d z = record { size = z ∙ i.size; left = left_on i.left h d.is; from = d.next }

    -- The end.
    pub spreading_end : s.rows ≤ row → Spread op w s x out F G
    spreading_end h = record { is = left_end i.left h }

-- ---- the sums of the rows

module _ (w : List ℕ) (s : SymmetricMatrix) (sums : ℕ) where
  -- A face of the sums: its neighbour j is known by an equation.
  pub sum_on : (row e j : ℕ) (F : List Float) → j ≡ idx w (s.neighbors + e)
      → set (set F (sums + row) (add64 (at F (sums + row)) (at F (s.coefficients + e)))) (sums + j)
      (add64 (at (set F (sums + row) (add64 (at F (sums + row)) (at F (s.coefficients + e)))) (sums + j)) (at F (s.coefficients + e)))
      ≡ sum_turn w s sums row e F
  unfolding sum_turn
  sum_on row e j F h = rw h

module _ {w : List ℕ} {s : SymmetricMatrix} {sums : ℕ} where
  -- A row: its bounds are known by equations.
  pub sum_rowed : {row lo hi : ℕ} {F G : List Float} → lo ≡ start_of w s row → hi ≡ end_of w s row → SumFaced w s sums row lo hi F G → SumRowed w s sums row F G
  unfolding sum_row_turn
  sum_rowed a b e = record { is = e.is ∙ rw (a, b) }

  -- The end of the loop over the rows.
  pub summed : {k : ℕ} {F G : List Float} → Left (sum_row_turn w s sums) k s.rows G (for (sum_row_turn w s sums) 0 s.rows F) → s.rows ≤ k → Summed w s sums F G
  summed l h = record { is = left_end l h }
