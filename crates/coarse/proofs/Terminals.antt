-- The terminal solve: the loops over the store compute the definitions over lists, and the ways out of `solve`.
-- Assumes nothing.
use Rattle.std.specs.Prelude.{Ok, Err}
use mathlib.Core.Path.{◌≡◌, sym, ap, ◌∙◌}
use mathlib.Core.Bool.{Bool, true, false}
use mathlib.Core.List.{List}
use Prim.Native.Nat.{ℕ, ◌+◌, ◌≤◌, ◌<◌}
use native.Mathlib.Omega.{arith}
use lib.Ieee.{Float, nan}
use lib.ListN.{length, set, length-set}
use Rattle.float.specs.Float.{mul64}
use Rattle.refusal.specs.Refusal.{bad_coarse_solution}
use Rattle.store.specs.Loop.{for}
use Rattle.store.specs.Region.{at, idx, part, splice, Wrote}
use Rattle.store.proofs.store.Loop.{for_map, Left, left_end}
use Rattle.store.proofs.store.Region.{length_part, get_d_part, get_d_splice_clear, set_splice, splice_part, wrote, wrote_at, wrote_off}
use Rattle.store.proofs.store.Vector.{length_tab, tab_same, for_each}
use Rattle.vector.specs.Finite.{all_finite}
use Rattle.cholesky.specs.Triangle.{tri}
use Rattle.cholesky.specs.declared.Terminal.{Terminal}
use Rattle.cholesky.specs.Contract.{coupled_at, factor_at}
use Rattle.cholesky.specs.TriangularFactor.{solve_factor_of}
use Rattle.cholesky.specs.TriangularContract.{SolveOk}
use Rattle.coarse.specs.Terminal.{terminal_solution, terminal_of}
use Rattle.coarse.specs.Turns.{diagonal_of, gather_of, scatter_of}
use Rattle.coarse.specs.Contract.{SpreadOk, DiagonalOk, CoupledOk, SolutionOk, Outside, CoupledSolved, Solved}

-- a turn of `diagonal`
unfoldable pub diagonal_turn : ℕ → ℕ → ℕ → ℕ → List Float → List Float
diagonal_turn inverse rhs x row F = set F (x + row) (mul64 (at F (rhs + row)) (at F (inverse + row)))

-- a turn of `gather`
unfoldable pub gather_turn : List ℕ → ℕ → ℕ → ℕ → ℕ → List Float → List Float
gather_turn w coupled rhs u k F = set F (u + k) (at F (rhs + idx w (coupled + k)))

-- a turn of `scatter`
unfoldable pub scatter_turn : List ℕ → ℕ → ℕ → ℕ → ℕ → List Float → List Float
scatter_turn w coupled u x k F = set F (x + idx w (coupled + k)) (at F (u + k))

-- A turn of `gather` as the code has it, the row by its equation.
pub gather_on : (w : List ℕ) (F : List Float) (coupled rhs u k row : ℕ) → row ≡ idx w (coupled + k)
    → set F (u + k) (at F (rhs + row)) ≡ gather_turn w coupled rhs u k F
unfolding gather_turn
gather_on w F coupled rhs u k row e = rw e

-- A turn of `scatter`.
pub scatter_on : (w : List ℕ) (F : List Float) (coupled u x k row : ℕ) → row ≡ idx w (coupled + k)
    → set F (x + row) (at F (u + k)) ≡ scatter_turn w coupled u x k F
unfolding scatter_turn
scatter_on w F coupled u x k row e = rw e

-- A coupled row is below n.
pub near_at : {w : List ℕ} {size n count coupled x u : ℕ} → SpreadOk w size n count coupled x u → (k : ℕ) → k < count → idx w (coupled + k) < n
near_at ok k h = ok.near k h

-- The loop of `diagonal`.
pub diagonal_done : {F G : List Float} {n inverse rhs x k : ℕ} → DiagonalOk (length F) n inverse rhs x
    → Left (diagonal_turn inverse rhs x) k n G (for (diagonal_turn inverse rhs x) 0 n F) → n ≤ k
    → Wrote x n (diagonal_of n (part inverse n F) (part rhs n F)) F G
unfolding diagonal_of diagonal_turn
diagonal_done {F} {G} {n} {inverse} {rhs} {x} ok l h =
    wrote (left_end l h
    ∙ for_each x n F (λ k G. mul64 (at G (rhs + k)) (at G (inverse + k)))
    (λ k b G same. rw (same (rhs + k) nan (omega arith), same (inverse + k) nan (omega arith)))
    ∙ ap (λ (v : List Float). splice x v F) (tab_same _ _ n (λ k b. simp get_d_part))) (length_tab _ n)

-- The loop of `gather`.
pub gather_done : {w : List ℕ} {F G : List Float} {n count coupled rhs u k : ℕ} → SpreadOk w (length F) n count coupled rhs u
    → Left (gather_turn w coupled rhs u) k count G (for (gather_turn w coupled rhs u) 0 count F) → count ≤ k
    → Wrote u count (gather_of count (part coupled count w) (part rhs n F)) F G
unfolding gather_of gather_turn
gather_done {w} {F} {G} {n} {count} {coupled} {rhs} {u} ok l h =
    wrote (left_end l h
    ∙ for_each u count F (λ k G. at G (rhs + idx w (coupled + k)))
    (λ k b G same. let i = ok.near k b in same (rhs + idx w (coupled + k)) nan (omega arith))
    ∙ ap (λ (v : List Float). splice u v F) (tab_same _ _ count
    (λ k b. let i = ok.near k b in rw (get_d_part coupled count w k 0 b) (sym (get_d_part rhs n F (idx w (coupled + k)) nan i))))) (length_tab _ count)

module _ {w : List ℕ} (F : List Float) {n count coupled x u : ℕ} (ok : SpreadOk w (length F) n count coupled x u) where
  scatter_turn_lem : (k : ℕ) → k < count → (v : List Float) → length v ≡ n
      → (length (set v (idx (part coupled count w) k) (at (part u count F) k)) ≡ n)
      × (scatter_turn w coupled u x k (splice x v F) ≡ splice x (set v (idx (part coupled count w) k) (at (part u count F) k)) F)
  unfolding scatter_turn
  scatter_turn_lem k h v q =
      let i = ok.near k h in
      let a = get_d_part coupled count w k 0 h in
      let b = get_d_part u count F k nan h in
      let c = get_d_splice_clear x v F (u + k) nan (omega (arith, q)) in
      (length-set v _ _ ∙ q, rw (a, b, c) (set_splice x v F (idx w (coupled + k)) (at F (u + k)) (omega arith)))

-- The loop of `scatter`.
pub scatter_done : {w : List ℕ} {F G : List Float} {n count coupled u x k : ℕ} → SpreadOk w (length F) n count coupled x u
    → Left (scatter_turn w coupled u x) k count G (for (scatter_turn w coupled u x) 0 count F) → count ≤ k
    → Wrote x n (scatter_of count (part coupled count w) (part u count F) (part x n F)) F G
unfolding scatter_of
scatter_done {w} {F} {G} {n} {count} {coupled} {u} {x} ok l h =
    let law = rw (splice_part x n F) at
    (for_map (λ (v : List Float). splice x v F) (λ (v : List Float). length v ≡ n)
    (λ k v. set v (idx (part coupled count w) k) (at (part u count F) k)) (scatter_turn w coupled u x) 0 count
    (λ k _ b v e. scatter_turn_lem F ok k b v e) (part x n F) (length_part x n F (omega arith))) in
    wrote (left_end l h ∙ law.1) law.0

-- ---- the coupled rows

module _ {w : List ℕ} {size rhs x work : ℕ} {t : Terminal} (ok : CoupledOk w size t rhs x work) where
  -- What `gather` requires.
  pub gather_ok : SpreadOk w size t.rows t.size t.coupled rhs work
  gather_ok = record { rows = ok.rows; near = ok.near; xs = omega (arith, ok.rhss, ok.xs); us = omega (arith, ok.works) }

module _ {w : List ℕ} {F G : List Float} {rhs x work : ℕ} {t : Terminal} (ok : CoupledOk w (length F) t rhs x work)
    (g : Wrote work t.size (gather_of t.size (coupled_at t w) (part rhs t.rows F)) F G) where
  -- What `solve_factor` requires.
  pub factor_ok : SolveOk (length G) t.size t.factor (work + t.size)
  factor_ok = record { ls = omega (arith, ok.factors, ok.rhss, ok.xs); xs = omega (arith, ok.works, g.size) }

  module _ {H : List Float} (h : Wrote (work + t.size) t.size (solve_factor_of t.size (factor_at t G) (part work t.size G)) G H) where
    -- What `scatter` requires.
    pub scatter_ok : SpreadOk w (length H) t.rows t.size t.coupled x (work + t.size)
    scatter_ok = record { rows = ok.rows; near = ok.near; xs = omega (arith, ok.xs); us = omega (arith, ok.works, g.size, h.size) }

    -- The three steps.
    pub coupled_done : {I : List Float}
        → Wrote x t.rows (scatter_of t.size (coupled_at t w) (part (work + t.size) t.size H) (part x t.rows H)) H I
        → CoupledSolved t w rhs x work F I
    coupled_done {I} i =
        let b : t.factor + tri t.size ≤ rhs = ok.factors in
        let c : rhs + t.rows ≤ x = ok.rhss in
        let d : x + t.rows ≤ work = ok.xs in
        let e : work + t.size + t.size ≤ length F = ok.works in
        let u₁ = wrote_at g (omega arith) in
        let l₁ = wrote_off g t.factor (tri t.size) (omega arith) in
        let u₂ = wrote_at h (omega (arith, g.size)) in
        let x₂ = wrote_off h x t.rows (omega arith) ∙ wrote_off g x t.rows (omega arith) in
        let x₃ = wrote_at i (omega (arith, g.size, h.size)) in
        record {
          solution = x₃ ∙ rw (x₂, u₂, u₁, l₁);
          frame = record {
            below = λ a m z y. wrote_off i a m z ∙ wrote_off h a m (omega arith) ∙ wrote_off g a m (omega arith);
            above = λ a m y. wrote_off i a m (omega arith) ∙ wrote_off h a m (omega arith) ∙ wrote_off g a m (omega arith);
            size = i.size ∙ h.size ∙ g.size;
          };
        }

-- ---- the whole

module _ {w : List ℕ} {size inverse rhs x work : ℕ} {t : Terminal} (ok : SolutionOk w size t inverse rhs x work) where
  -- What `diagonal` requires.
  pub diagonal_ok : DiagonalOk size t.rows inverse rhs x
  diagonal_ok =
      let c : rhs + t.rows ≤ x = ok.coupled.rhss in
      let d : x + t.rows ≤ work = ok.coupled.xs in
      let e : work + t.size + t.size ≤ size = ok.coupled.works in
      record { inverses = omega (arith, ok.inverses); rhss = c; xs = omega arith }

module _ {w : List ℕ} {F G : List Float} {inverse rhs x work : ℕ} {t : Terminal} (ok : SolutionOk w (length F) t inverse rhs x work)
    (g : Wrote x t.rows (diagonal_of t.rows (part inverse t.rows F) (part rhs t.rows F)) F G) where
  -- What `solve_coupled` requires.
  pub coupled_ok : CoupledOk w (length G) t rhs x work
  coupled_ok = rw g.size ok.coupled

  module _ {H : List Float} {r : Bool} (h : CoupledSolved t w rhs x work G H) (e : r ≡ all_finite t.rows (part x t.rows H)) where
    solution_is : part x t.rows H
        ≡ terminal_solution t.rows (part inverse t.rows F) t.size (coupled_at t w) (factor_at t F) (part rhs t.rows F)
    unfolding terminal_solution scatter_of gather_of diagonal_of
    solution_is =
        let b : t.factor + tri t.size ≤ rhs = ok.coupled.factors in
        let c : rhs + t.rows ≤ x = ok.coupled.rhss in
        let d : x + t.rows ≤ work = ok.coupled.xs in
        let f : work + t.size + t.size ≤ length F = ok.coupled.works in
        let x₁ = wrote_at g (omega arith) in
        let r₁ = wrote_off g rhs t.rows (omega arith) in
        let l₁ = wrote_off g t.factor (tri t.size) (omega arith) in
        h.solution ∙ rw (x₁, r₁, l₁)

    frame : Outside t.rows x work (work + t.size + t.size) F H
    frame =
        let d : x + t.rows ≤ work = ok.coupled.xs in
        record {
          below = λ a m z y. h.frame.below a m z y ∙ wrote_off g a m z;
          above = λ a m y. h.frame.above a m y ∙ wrote_off g a m (omega arith);
          size = h.frame.size ∙ g.size;
        }

    -- 24 passed.
    pub solve_yes : r ≡ true → Solved t w inverse rhs x work F H (Ok tt)
    unfolding terminal_of
    solve_yes y = let z = rw solution_is at (sym e ∙ y) in record { answer = rw z; solution = solution_is; frame = frame }

    -- 24 refused.
    pub solve_no : r ≡ false → Solved t w inverse rhs x work F H (Err bad_coarse_solution)
    unfolding terminal_of
    solve_no y = let z = rw solution_is at (sym e ∙ y) in record { answer = rw z; solution = solution_is; frame = frame }
