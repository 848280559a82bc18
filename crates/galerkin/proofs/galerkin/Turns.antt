-- The turns of the loops of this crate as the code has them, and what its functions leave.
-- Assumes nothing.
use mathlib.Core.Path.{◌≡◌, sym, ap, ◌∙◌}
use mathlib.Core.Bool.{true, false}
use mathlib.Core.List.{List}
use Prim.Native.Nat.{ℕ, ◌+◌, ◌≤◌, ◌<◌}
use native.Mathlib.Omega.{arith}
use lib.Dec.{eqb}
use lib.ListN.{length, set}
use lib.Ieee.{Float, nan}
use Rattle.float.specs.Float.{add64, zero64}
use Rattle.store.specs.Loop.{for}
use Rattle.store.specs.Region.{at, idx, part, Wrote}
use Rattle.store.specs.Vector.{filled}
use Rattle.store.proofs.store.Region.{get_d_part, splice_part, wrote, wrote_at, wrote_again}
use borrow.Author.Tests.{eq-eqb, ne_eqb}
use Rattle.galerkin.specs.Values.{sums_of, average_face, symmetrize_of, zero_entry, zero_diagonal_of}
use Rattle.galerkin.specs.Turns.{add_entry, mean_of, zero_entries, zero_row}
use Rattle.galerkin.specs.Contract.{GivenOk, FacesOk, EntriesOk, RowsOk}
use Rattle.galerkin.proofs.galerkin.Region.{Going, going_on, wrote_set}

-- ---- sums by position

-- The invariant of `add_given`: the entries before e have been added.
abbrev pub Giving : List ℕ → List Float → ℕ → ℕ → ℕ → ℕ → ℕ → List Float → List Float → Type 0
Giving w given m positions total out e F G =
    Going (add_entry (part positions m w) given) out total e m (for (add_entry (part positions m w) given) 0 m (part out total F)) F G

-- A position is below total.
pub given_near : {w : List ℕ} {size count m positions total out e : ℕ} → GivenOk w size count m positions total out → e < m → idx w (positions + e) < total
given_near {w} {size} {count} {m} {positions} {total} {out} {e} ok h = rw (get_d_part positions m w e 0 h) at (ok.near e h)

-- One entry more.
pub given_on : {w : List ℕ} (given : List Float) {F G : List Float} {m positions total out e i : ℕ} → GivenOk w (length F) (length given) m positions total out
    → Giving w given m positions total out e F G → e < m → i ≡ idx w (positions + e)
    → Giving w given m positions total out (e + 1) F (set G (out + i) (add64 (at G (out + i)) (at given e)))
unfolding add_entry
given_on {w} given {F} {G} {m} {positions} {total} {out} {e} {i} ok g h is =
    let size : length G ≡ length F = g.written.size in
    let near : idx w (positions + e) < total = given_near ok h in
    let l : i < total = omega arith in
    let p : idx (part positions m w) e ≡ i = get_d_part positions m w e 0 h ∙ sym is in
    let own : at (part out total G) i ≡ at G (out + i) = get_d_part out total G i nan l in
    going_on ok.room g h (rw (p, own) (wrote_set out total i (add64 (at G (out + i)) (at given e)) G (omega arith) l))

-- `sum_given`: entries added to zeros.
pub given_done : {w : List ℕ} (given : List Float) {F G H : List Float} {m positions total out : ℕ} → GivenOk w (length F) (length given) m positions total out
    → Wrote out total (filled total zero64) F G → Wrote out total (for (add_entry (part positions m w) given) 0 m (part out total G)) G H
    → Wrote out total (sums_of total m (part positions m w) given) F H
unfolding sums_of add_entry
given_done given ok z t = rw (wrote_at z ok.room) at (wrote_again z t)

-- ---- half plus half

-- The invariant of `symmetrize`: the faces before k are done.
abbrev pub Averaging : List ℕ → ℕ → ℕ → ℕ → ℕ → ℕ → ℕ → List Float → List Float → Type 0
Averaging w faces upper lower total values k F G =
    Going (average_face (part upper faces w) (part lower faces w)) values total k faces (symmetrize_of faces (part upper faces w) (part lower faces w) (part values total F)) F G

-- A face's entries are below total.
pub upper_near : {w : List ℕ} {size faces upper lower total values k : ℕ} → FacesOk w size faces upper lower total values → k < faces → idx w (upper + k) < total
upper_near {w} {size} {faces} {upper} {lower} {total} {values} {k} ok h = rw (get_d_part upper faces w k 0 h) at (ok.up k h)

pub lower_near : {w : List ℕ} {size faces upper lower total values k : ℕ} → FacesOk w size faces upper lower total values → k < faces → idx w (lower + k) < total
lower_near {w} {size} {faces} {upper} {lower} {total} {values} {k} ok h = rw (get_d_part lower faces w k 0 h) at (ok.low k h)

-- One face more.
pub face_on : {w : List ℕ} {F G : List Float} {faces upper lower total values k i j : ℕ} → FacesOk w (length F) faces upper lower total values
    → Averaging w faces upper lower total values k F G → k < faces → i ≡ idx w (upper + k) → j ≡ idx w (lower + k)
    → Averaging w faces upper lower total values (k + 1) F (set (set G (values + i) (mean_of (at G (values + i)) (at G (values + j)))) (values + j) (mean_of (at G (values + i)) (at G (values + j))))
unfolding average_face
face_on {w} {F} {G} {faces} {upper} {lower} {total} {values} {k} {i} {j} ok g h is js =
    let size : length G ≡ length F = g.written.size in
    let near : idx w (upper + k) < total = upper_near ok h in
    let near' : idx w (lower + k) < total = lower_near ok h in
    let l : i < total = omega arith in
    let l' : j < total = omega arith in
    let p : idx (part upper faces w) k ≡ i = get_d_part upper faces w k 0 h ∙ sym is in
    let q : idx (part lower faces w) k ≡ j = get_d_part lower faces w k 0 h ∙ sym js in
    let u : at (part values total G) i ≡ at G (values + i) = get_d_part values total G i nan l in
    let d : at (part values total G) j ≡ at G (values + j) = get_d_part values total G j nan l' in
    let x = mean_of (at G (values + i)) (at G (values + j)) in
    let fits : values + total ≤ length G = omega arith in
    let one : Wrote values total (set (part values total G) i x) G (set G (values + i) x) = wrote_set values total i x G fits l in
    let size' : length (set G (values + i) x) ≡ length G = one.size in
    let two = wrote_set values total j x (set G (values + i) x) (omega arith) l' in
    going_on ok.room g h (rw (p, q, u, d) (rw (wrote_at one fits) at (wrote_again one two)))

-- ---- weights

-- The invariant of `zero_entries`: the entries before e are done.
abbrev pub Zeroing : List ℕ → ℕ → ℕ → ℕ → ℕ → ℕ → ℕ → ℕ → List Float → List Float → Type 0
Zeroing w row lo hi columns total out e F G =
    Going (zero_entry (part columns total w) row) out total e hi (zero_entries (part columns total w) row lo hi (part out total F)) F G

-- The diagonal entry: r is its column.
pub zero_on : {w : List ℕ} {F G H : List Float} (lo : ℕ) {row hi columns total out e r : ℕ} → EntriesOk w (length F) hi columns total out
    → Zeroing w row lo hi columns total out e F G → e < hi → r ≡ idx w (columns + e) → r ≡ row → H ≡ set G (out + e) zero64
    → Zeroing w row lo hi columns total out (e + 1) F H
unfolding zero_entry
zero_on {w} {F} {G} {H} lo {row} {hi} {columns} {total} {out} {e} {r} ok g h is t s =
    let size : length G ≡ length F = g.written.size in
    let l : e < total = omega arith in
    let c : eqb (idx (part columns total w) e) row ≡ true = eq-eqb _ _ (get_d_part columns total w e 0 l ∙ sym is ∙ t) in
    going_on ok.room g h (rw (c, s) (wrote_set out total e zero64 G (omega arith) l))

-- Any other entry.
pub zero_off : {w : List ℕ} {F G H : List Float} (lo : ℕ) {row hi columns total out e r : ℕ} → EntriesOk w (length F) hi columns total out
    → Zeroing w row lo hi columns total out e F G → e < hi → r ≡ idx w (columns + e) → (r ≡ row → ⊥) → H ≡ G
    → Zeroing w row lo hi columns total out (e + 1) F H
unfolding zero_entry
zero_off {w} {F} {G} {H} lo {row} {hi} {columns} {total} {out} {e} {r} ok g h is t s =
    let l : e < total = omega arith in
    let c : eqb (idx (part columns total w) e) row ≡ false = ne_eqb _ _ (λ q. t (is ∙ sym (get_d_part columns total w e 0 l) ∙ q)) in
    going_on ok.room g h (rw (c, s) (wrote (sym (splice_part out total G)) g.written.long))

-- The invariant of `zero_diagonal`: the rows before `row` are done.
abbrev pub Clearing : List ℕ → ℕ → ℕ → ℕ → ℕ → ℕ → ℕ → List Float → List Float → Type 0
Clearing w count offsets columns total out row F G =
    Going (zero_row (part offsets (count + 1) w) (part columns total w)) out total row count
    (zero_diagonal_of count (part offsets (count + 1) w) (part columns total w) (part out total F)) F G

-- What a row needs.
pub row_ok : {w : List ℕ} {F G : List Float} {count offsets columns total out row hi : ℕ} → RowsOk w (length F) count offsets columns total out
    → Clearing w count offsets columns total out row F G → row < count → hi ≡ idx w (offsets + row + 1) → EntriesOk w (length G) hi columns total out
row_ok {w} {F} {G} {count} {offsets} {columns} {total} {out} {row} {hi} ok g h is =
    let size : length G ≡ length F = g.written.size in
    let l : row + 1 < count + 1 = omega arith in
    let e : offsets + (row + 1) ≡ offsets + row + 1 = omega arith in
    let p : idx (part offsets (count + 1) w) (row + 1) ≡ hi = get_d_part offsets (count + 1) w (row + 1) 0 l ∙ ap (idx w) e ∙ sym is in
    let b : hi ≤ total = rw p at (ok.ends row h) in
    record { table = ok.table; room = omega arith; inside = b }

-- One row more.
pub row_on : {w : List ℕ} {F G H : List Float} {count offsets columns total out row lo hi : ℕ} → RowsOk w (length F) count offsets columns total out
    → Clearing w count offsets columns total out row F G → row < count → lo ≡ idx w (offsets + row) → hi ≡ idx w (offsets + row + 1)
    → Wrote out total (zero_entries (part columns total w) row lo hi (part out total G)) G H
    → Clearing w count offsets columns total out (row + 1) F H
row_on {w} {F} {G} {H} {count} {offsets} {columns} {total} {out} {row} {lo} {hi} ok g h is js t =
    let l : row < count + 1 = omega arith in
    let l' : row + 1 < count + 1 = omega arith in
    let e : offsets + (row + 1) ≡ offsets + row + 1 = omega arith in
    let p : idx (part offsets (count + 1) w) row ≡ lo = get_d_part offsets (count + 1) w row 0 l ∙ sym is in
    let q : idx (part offsets (count + 1) w) (row + 1) ≡ hi = get_d_part offsets (count + 1) w (row + 1) 0 l' ∙ ap (idx w) e ∙ sym js in
    going_on ok.room g h (rw (p, q) t)

-- `restrict_weights`: the sums, then the diagonal.
pub weights_done : {F G H v : List Float} (count : ℕ) (offsets columns : List ℕ) {total out : ℕ} → out + total ≤ length F
    → Wrote out total v F G → Wrote out total (zero_diagonal_of count offsets columns (part out total G)) G H
    → Wrote out total (zero_diagonal_of count offsets columns v) F H
weights_done count offsets columns fits z t = rw (wrote_at z fits) at (wrote_again z t)
