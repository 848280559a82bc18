-- The inner functions' turns as the code has them, the invariants of their loops, and what one requires of the next.
-- Assumes nothing.
use mathlib.Core.Path.{◌≡◌, refl, ap, ◌∙◌}
use mathlib.Core.Bool.{Bool}
use mathlib.Core.List.{List}
use Prim.Native.Nat.{ℕ, ◌+◌, ◌-◌, ◌≤◌, ◌<◌}
use native.Mathlib.Omega.{arith}
use lib.ListN.{length, set, length-set}
use lib.Ieee.{Float}
use Rattle.float.specs.Float.{add64, sub64, mul64, zero64}
use Rattle.store.specs.Loop.{for}
use Rattle.store.specs.Region.{at, idx}
use Rattle.store.specs.Held.{Held, Put}
use Rattle.store.proofs.store.Loop.{Left, left_start, left_on, left_end}
use Rattle.matrix.specs.declared.matrix.SymmetricMatrix.{SymmetricMatrix}
use Rattle.matrix.specs.Turns.{start_of, end_of, VectorsOk}
use Rattle.gauss_seidel.specs.Turns.{Stored, Watched, Handed, gather_turn, scatter_turn, cast_turn, fresh_at, forward_turn, backward_turn, lower_turn, upper_at, upper_turn, Gathered, Fresh, Scaled, Upper}

-- ---- layouts

module _ {w : List ℕ} {size u v : ℕ} {s : SymmetricMatrix} (ok : VectorsOk w size s u v) where
  -- The first of two vectors lies in the stores,
  pub first_ok : VectorsOk w size s u u
  first_ok = record { kernel = ok.kernel; us = ok.us; vs = ok.us }

  -- and so does the second, in a store of the same size.
  pub second_ok : {size' : ℕ} → size' ≡ size → VectorsOk w size' s v v
  second_ok e = rw e (record { kernel = ok.kernel; us = ok.vs; vs = ok.vs })

-- ---- rows, one after another

-- The invariant of a loop upward over the rows, in which each row hands on what then stands for the next in the vector at v: what is left to do
-- gives what the whole gives.
pub record Sweeping (turn : ℕ → List Float → List Float) (n v : ℕ) (F : List Float) (row : ℕ) (G : List Float) (start : Float) : Type 0 where
  pub size : length G ≡ length F
  pub left : Left turn row n G (for turn 0 n F)
  pub held : start ≡ at G (v + row)

-- The first float of a vector.
pub first_at : (F : List Float) (v : ℕ) (x : Float) → x ≡ at F v → x ≡ at F (v + 0)
first_at F v x e = let z : v + 0 ≡ v = omega arith in rw z e

-- At the start the whole is left.
pub sweeping_start : (turn : ℕ → List Float → List Float) (n v : ℕ) {F : List Float} {start : Float} → start ≡ at F v → Sweeping turn n v F 0 F start
sweeping_start turn n v {F} {start} e = record { size = refl; left = left_start; held = first_at F v start e }

module _ {turn : ℕ → List Float → List Float} {n v row : ℕ} {F G : List Float} {start : Float} (i : Sweeping turn n v F row G start) where
  -- A row.
  pub sweeping_on : {H : List Float} {r : Float} → row < n → Handed turn row G H (v + (row + 1)) r → length H ≡ length G → Sweeping turn n v F (row + 1) H r
  sweeping_on h d z = record { size = z ∙ i.size; left = left_on i.left h d.is; held = d.held }

  -- The end.
  pub sweeping_end : n ≤ row → Stored turn 0 n F G
  sweeping_end h = record { is = left_end i.left h; size = i.size }

-- The end of a loop over the rows.
pub stored : {turn : ℕ → List Float → List Float} {k lo hi : ℕ} {F G : List Float} → length G ≡ length F → Left turn k hi G (for turn lo hi F) → hi ≤ k
    → Stored turn lo hi F G
stored z l h = record { is = left_end l h; size = z }

-- ---- faces that are gathered

module _ (op : Float → Float → Float) (w : List ℕ) (s : SymmetricMatrix) (v lo hi : ℕ) (start : Float) (F : List Float) where
  -- The invariant of the loop over a row's faces: what is left to do from e gives what the whole gives.
  pub record Gathering (e : ℕ) (value : Float) : Type 0 where
    pub left : Left (gather_turn w s op F v) e hi value (for (gather_turn w s op F v) lo hi start)

  -- At the start the whole is left.
  pub gathering_start : Gathering lo start
  gathering_start = record { left = left_start }

module _ {op : Float → Float → Float} {w : List ℕ} {s : SymmetricMatrix} {v lo hi e : ℕ} {start value : Float} {F : List Float} (i : Gathering op w s v lo hi start F e value) where
  -- A face: its neighbour j is known by an equation, and so is what stands there.
  pub gathering_on : {j : ℕ} {other : Float} → e < hi → j ≡ idx w (s.neighbors + e) → other ≡ at F (v + j)
      → Gathering op w s v lo hi start F (e + 1) (op value (mul64 (at F (s.coefficients + e)) other))
  unfolding gather_turn
  gathering_on h a b = record { left = left_on i.left h (rw (b, a)) }

  -- The end.
  pub gathering_end : hi ≤ e → Gathered op w s v lo hi start F value
  gathering_end h = record { is = left_end i.left h }

-- ---- faces that are scattered

module _ (share : Float → Float) (w : List ℕ) (s : SymmetricMatrix) (v lo hi : ℕ) (near : Bool) (watched : ℕ) (F : List Float) where
  -- The invariant of the loop over a row's faces: what is left to do from e gives what the whole gives, and the float watched is held.
  pub record Scattering (e : ℕ) (G : List Float) (r : Float) : Type 0 where
    pub size : length G ≡ length F
    pub left : Left (scatter_turn w s share v) e hi G (for (scatter_turn w s share v) lo hi F)
    pub held : Held near watched G r

  -- At the start the whole is left.
  pub scattering_start : {r : Float} → Held near watched F r → Scattering lo F r
  scattering_start h = record { size = refl; left = left_start; held = h }

module _ {share : Float → Float} {w : List ℕ} {s : SymmetricMatrix} {v lo hi e : ℕ} {near : Bool} {watched : ℕ} {F G : List Float} {r : Float}
    (i : Scattering share w s v lo hi near watched F e G r) where
  -- A face: its neighbour j is known by an equation.
  pub scattering_on : {j : ℕ} {H : List Float} {t : Float} → e < hi → j ≡ idx w (s.neighbors + e)
      → Put (v + j) (sub64 (at G (v + j)) (share (at G (s.coefficients + e)))) near watched G H t → Scattering share w s v lo hi near watched F (e + 1) H t
  unfolding scatter_turn
  scattering_on h a c = record { size = rw c.is (simp length-set i.size); left = left_on i.left h (c.is ∙ rw a); held = c.held }

  -- The end.
  pub scattering_end : hi ≤ e → Watched (scatter_turn w s share v) lo hi F G near watched r
  scattering_end h = record { is = left_end i.left h; held = i.held }

-- ---- rows

module _ {w : List ℕ} {s : SymmetricMatrix} {row lo hi : ℕ} {F : List Float} {r : Float} where
  -- The new x of a row.
  pub freshed : {x work : ℕ} {start : Float} → lo ≡ start_of w s row → hi ≡ end_of w s row → start ≡ at F (work + row)
      → Gathered sub64 w s x lo hi start F r → Fresh w s x work row F (mul64 r (at F (s.inverse + row)))
  unfolding fresh_at
  freshed a b e g = record { is = rw (g.is, a, b, e) }

  -- The new correction of a row on the way back.
  pub uppered : {dic c : ℕ} → lo ≡ start_of w s row → hi ≡ end_of w s row → Gathered add64 w s c lo hi zero64 F r
      → Upper w s dic c row F (sub64 (at F (c + row)) (mul64 (at F (dic + row)) r))
  unfolding upper_at
  uppered a b g = record { is = rw (g.is, a, b) }

-- A row's correction, scaled.
pub scaled : (dic c row : ℕ) (F : List Float) (start : Float) → start ≡ at F (c + row)
    → Scaled dic c row F (set F (c + row) (mul64 start (at F (dic + row)))) (mul64 start (at F (dic + row)))
scaled dic c row F start e = record { value = rw e; is = refl }

module _ {w : List ℕ} {s : SymmetricMatrix} {row lo hi watched : ℕ} {near : Bool} {F G H : List Float} {value cast r : Float}
    (a : lo ≡ start_of w s row) (b : hi ≡ end_of w s row) where
  -- A row of the forward sweep.
  pub forwarded : {x work : ℕ} {stays : Float} → Fresh w s x work row F value → Watched (cast_turn w s work value) lo hi F G near watched cast
      → Put (x + row) value near watched G H stays → r ≡ at H watched → Handed (forward_turn w s x work) row F H watched r
  unfolding forward_turn
  forwarded {x} e c p held = record { is = p.is ∙ ap (λ (K : List Float). set K (x + row) value) c.is ∙ rw (a, b, ← e.is); held = held }

-- A row of the forward substitution.
pub lowered : (w : List ℕ) (s : SymmetricMatrix) (dic v : ℕ) {row lo hi watched : ℕ} {near : Bool} {F G H : List Float} {value cast r : Float}
    → lo ≡ start_of w s row → hi ≡ end_of w s row → Scaled dic v row F G value → Watched (cast_turn w s v value) lo hi G H near watched cast → r ≡ at H watched
    → Handed (lower_turn w s dic v) row F H watched r
unfolding lower_turn
lowered w s dic v a b e c held = record { is = c.is ∙ rw (a, b, e.is, ← e.value); held = held }

-- Row n - 1 - i of the backward sweep.
pub backward_on : (w : List ℕ) (s : SymmetricMatrix) (x work row i : ℕ) (F : List Float) (value : Float) → Fresh w s x work row F value → row ≡ s.rows - 1 - i
    → set F (x + row) value ≡ backward_turn w s x work i F
unfolding backward_turn
backward_on w s x work row i F value a e = rw (a.is, e)

-- Row n - 1 - i of the backward substitution.
pub upper_on : (w : List ℕ) (s : SymmetricMatrix) (dic x c row i watched : ℕ) (near : Bool) (F G : List Float) (value r : Float)
    → Upper w s dic c row F value → row ≡ s.rows - 1 - i
    → Put (x + row) (add64 (at F (x + row)) value) near watched (set F (c + row) value) G r
    → G ≡ upper_turn w s dic c x i F
unfolding upper_turn
upper_on w s dic x c row i watched near F G value r a e p = p.is ∙ rw (a.is, e)
