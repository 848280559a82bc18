-- The loops of `gather`, `prolong` and `add_prolonged` over the store: a turn, and what the loop leaves; and `restrict`, a fill and a gather.
-- Assumes nothing.
use mathlib.Core.Path.{◌≡◌, sym, ap, ◌∙◌}
use mathlib.Core.List.{List}
use Prim.Native.Nat.{ℕ, ◌+◌, ◌≤◌, ◌<◌}
use native.Mathlib.Omega.{arith}
use lib.ListN.{length, set, length-set}
use lib.Ieee.{Float, nan}
use Rattle.float.specs.Float.{add64, zero64}
use Rattle.store.specs.Loop.{for}
use Rattle.store.specs.Region.{at, idx, part, splice, Wrote}
use Rattle.store.specs.Vector.{tab, filled}
use Rattle.store.proofs.store.Loop.{for_map, Left, left_on, left_end}
use Rattle.store.proofs.store.Region.{get_d_part, get_d_splice_below, get_d_splice_in, set_splice, splice_part, length_part}
use Rattle.store.proofs.store.Region.{wrote, wrote_at, wrote_off, wrote_again}
use Rattle.store.proofs.store.Vector.{length_tab, get_d_tab, tab_same, for_each}
use Rattle.correction.specs.Correction.{add_plain_of}
use Rattle.correction.specs.Transfer.{gather_turn, gather_of, restrict_of, prolong_of, RestrictOk, ProlongOk}

-- a turn of `gather`, of the store
unfoldable pub gather_step : List ℕ → ℕ → ℕ → ℕ → ℕ → List Float → List Float
gather_step w map residual out row F = set F (out + idx w (map + row)) (add64 (at F (out + idx w (map + row))) (at F (residual + row)))

-- a turn of `prolong`, of the store
unfoldable pub prolong_step : List ℕ → ℕ → ℕ → ℕ → ℕ → List Float → List Float
prolong_step w map coarse out row F = set F (out + row) (at F (coarse + idx w (map + row)))

-- a turn of `add_prolonged`, of the store
unfoldable pub added_step : List ℕ → ℕ → ℕ → ℕ → ℕ → List Float → List Float
added_step w map coarse x row F = set F (x + row) (add64 (at F (x + row)) (at F (coarse + idx w (map + row))))

-- The turns as the code has them: j is the row's aggregate.
pub gather_on : (w : List ℕ) (map residual out row j : ℕ) (F : List Float) → j ≡ idx w (map + row)
    → set F (out + j) (add64 (at F (out + j)) (at F (residual + row))) ≡ gather_step w map residual out row F
unfolding gather_step
gather_on w map residual out row j F e = rw e

pub prolong_on : (w : List ℕ) (map coarse out row j : ℕ) (F : List Float) → j ≡ idx w (map + row)
    → set F (out + row) (at F (coarse + j)) ≡ prolong_step w map coarse out row F
unfolding prolong_step
prolong_on w map coarse out row j F e = rw e

added_on : (w : List ℕ) (map coarse x row j : ℕ) (F : List Float) → j ≡ idx w (map + row)
    → set F (x + row) (add64 (at F (x + row)) (at F (coarse + j))) ≡ added_step w map coarse x row F
unfolding added_step
added_on w map coarse x row j F e = rw e

-- A row's aggregate is one of the `count`.
pub gather_near : (w : List ℕ) (size n count map residual out row : ℕ) → RestrictOk w size n count map residual out → row < n
    → idx w (map + row) < count
gather_near w size n count map residual out row ok h = ok.near row h

pub prolong_near : (w : List ℕ) (size n count map coarse out row : ℕ) → ProlongOk w size n count map coarse out → row < n
    → idx w (map + row) < count
prolong_near w size n count map coarse out row ok h = ok.near row h

module _ {w : List ℕ} (F : List Float) {n count map residual out : ℕ} (ok : RestrictOk w (length F) n count map residual out) where
  gather_turn_lem : (row : ℕ) → row < n → (v : List Float) → length v ≡ count
      → (length (gather_turn (part map n w) (part residual n F) row v) ≡ count)
      × (gather_step w map residual out row (splice out v F) ≡ splice out (gather_turn (part map n w) (part residual n F) row v) F)
  unfolding gather_step gather_turn
  gather_turn_lem row h v l =
      let j : idx w (map + row) < count = ok.near row h in
      let d : idx w (map + row) < length v = omega arith in
      let b : out + idx w (map + row) < length F = omega arith in
      let a : residual + row < out = omega arith in
      (simp (get_d_part, length-set) l, simp (get_d_part, get_d_splice_below, get_d_splice_in, set_splice))

  gather_law : (v : List Float) → length v ≡ count
      → (length (gather_of n (part map n w) (part residual n F) v) ≡ count)
      × (for (gather_step w map residual out) 0 n (splice out v F) ≡ splice out (gather_of n (part map n w) (part residual n F) v) F)
  unfolding gather_of
  gather_law v l =
      for_map (λ (u : List Float). splice out u F) (λ (u : List Float). length u ≡ count) _ _ 0 n
      (λ row _ h u q. gather_turn_lem row h u q) v l

-- `gather` adds each residual to what stood at its aggregate.
pub gather_done : {w : List ℕ} {F G : List Float} {n count map residual out row : ℕ}
    → RestrictOk w (length F) n count map residual out
    → Left (gather_step w map residual out) row n G (for (gather_step w map residual out) 0 n F) → n ≤ row
    → Wrote out count (gather_of n (part map n w) (part residual n F) (part out count F)) F G
gather_done {w} {F} {G} {n} {count} {map} {residual} {out} ok l h =
    let law = gather_law F ok (part out count F) (length_part out count F ok.outs) in
    wrote (left_end l h ∙ ap (for (gather_step w map residual out) 0 n) (sym (splice_part out count F)) ∙ law.1) law.0

-- Zeros and then a gather are `restrict`.
pub restrict_done : {w : List ℕ} {F G H : List Float} {n count map residual out : ℕ}
    → RestrictOk w (length F) n count map residual out
    → Wrote out count (filled count zero64) F G
    → Wrote out count (gather_of n (part map n w) (part residual n G) (part out count G)) G H
    → Wrote out count (restrict_of count n (part map n w) (part residual n F)) F H
unfolding restrict_of gather_of gather_turn
restrict_done {w} {F} {G} {H} {n} {count} {map} {residual} {out} ok z g =
    let a : part residual n G ≡ part residual n F = wrote_off z residual n (omega arith) in
    let b : part out count G ≡ filled count zero64 = wrote_at z ok.outs in
    wrote_again z (rw (a, b) at g)

-- `prolong` writes the coarse solution at each row's aggregate.
pub prolong_done : {w : List ℕ} {F G : List Float} {n count map coarse out row : ℕ}
    → ProlongOk w (length F) n count map coarse out
    → Left (prolong_step w map coarse out) row n G (for (prolong_step w map coarse out) 0 n F) → n ≤ row
    → Wrote out n (prolong_of n (part map n w) (part coarse count F)) F G
unfolding prolong_of prolong_step
prolong_done {w} {F} {G} {n} {count} {map} {coarse} {out} ok l h =
    wrote (left_end l h
    ∙ for_each out n F (λ row H. at H (coarse + idx w (map + row)))
    (λ row b H same. same (coarse + idx w (map + row)) nan (omega arith))
    ∙ ap (λ (v : List Float). splice out v F) (tab_same _ _ n (λ row b. let j : idx w (map + row) < count = ok.near row b in simp get_d_part)))
    (length_tab _ n)

-- ---- the coarse solution, added with no vector between

-- The fast form, each row's sum with the coarse value of its aggregate, is the plain form, the sum with the prolonged coarse solution.
pub fast_is_plain : (n : ℕ) (map : List ℕ) (coarse x : List Float)
    → tab (λ row. add64 (at x row) (at coarse (idx map row))) n ≡ add_plain_of n (prolong_of n map coarse) x
unfolding add_plain_of prolong_of
fast_is_plain n map coarse x = tab_same _ _ n (λ row b. ap (add64 (at x row)) (sym (get_d_tab (λ row. at coarse (idx map row)) n row nan b)))

-- A turn of `add_prolonged`, as the code has it, leaves one fewer.
pub added_left : (w : List ℕ) {f whole : List Float} {n : ℕ} (map coarse x : ℕ) {row : ℕ} (j : ℕ) → Left (added_step w map coarse x) row n f whole → row < n
    → j ≡ idx w (map + row) → Left (added_step w map coarse x) (row + 1) n (set f (x + row) (add64 (at f (x + row)) (at f (coarse + j)))) whole
added_left w {f} map coarse x {row} j l h e = left_on l h (added_on w map coarse x row j f e)

-- `add_prolonged` writes the sums.
pub added_done : {w : List ℕ} {F G : List Float} {n count map coarse x row : ℕ}
    → ProlongOk w (length F) n count map coarse x
    → Left (added_step w map coarse x) row n G (for (added_step w map coarse x) 0 n F) → n ≤ row
    → Wrote x n (add_plain_of n (prolong_of n (part map n w) (part coarse count F)) (part x n F)) F G
unfolding added_step
added_done {w} {F} {G} {n} {count} {map} {coarse} {x} ok l h =
    let whole = add_plain_of n (prolong_of n (part map n w) (part coarse count F)) (part x n F) in
    let fast = tab (λ row. add64 (at (part x n F) row) (at (part coarse count F) (idx (part map n w) row))) n in
    let same : fast ≡ whole = fast_is_plain n (part map n w) (part coarse count F) (part x n F) in
    wrote (left_end l h
    ∙ for_each x n F (λ row H. add64 (at H (x + row)) (at H (coarse + idx w (map + row))))
    (λ row b H same. rw (same (x + row) nan (λ p. omega arith), same (coarse + idx w (map + row)) nan (omega arith)))
    ∙ ap (λ (v : List Float). splice x v F)
    (tab_same _ _ n (λ row b. let j : idx w (map + row) < count = ok.near row b in simp get_d_part) ∙ same))
    (ap length (sym same) ∙ length_tab _ n)
