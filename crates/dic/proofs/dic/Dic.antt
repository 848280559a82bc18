-- The DIC diagonal: the loops over the store compute the definitions over lists, and their ways out.
-- Assumes nothing.
use Rattle.std.specs.Prelude.{Result, Ok, Err}
use mathlib.Core.Path.{◌≡◌, refl, sym, ap, ◌∙◌}
use mathlib.Core.Bool.{Bool, true, false, ◌&&◌}
use mathlib.Core.List.{List}
use Prim.Native.Nat.{ℕ, ◌+◌, ◌≤◌, ◌<◌}
use native.Mathlib.Nat.{add_assoc}
use native.Mathlib.Numerals.{add-one}
use native.Mathlib.Omega.{arith}
use lib.ListN.{length, set, length-set}
use lib.Ieee.{Float, nan}
use Rattle.float.specs.Float.{div64, one64, is_finite}
use Rattle.store.specs.Loop.{for}
use Rattle.store.specs.Region.{at, idx, part, splice, Wrote}
use Rattle.store.specs.Vector.{tab}
use Rattle.store.proofs.store.Loop.{for_map, Left, left_on, left_end, left_stop}
use Rattle.store.proofs.store.Region.{length_part, get_d_part, get_d_splice_in, get_d_splice_below, get_d_splice_above, set_splice, set_splice_end, splice_nil, splice_part, wrote, wrote_at, wrote_off, wrote_again, kept_wrote}
use Rattle.store.proofs.store.Vector.{length_tab, get_d_tab, tab_same}
use Rattle.store.proofs.store.Each.{each_at, each_same, Tested, tested_start, tested_on, tested_done}
use Rattle.refusal.specs.declared.Refusal.{Refusal}
use Rattle.refusal.specs.Refusal.{bad_dic_pivot, bad_dic_reciprocal}
use Rattle.refusal.specs.Outcome.{Outcome, accepted, refused, passed, ask, ask_each, ask_from}
use Rattle.refusal.proofs.Outcome.{each_step, each_stop, each_done, each_all, each_alike}
use Rattle.matrix.specs.declared.matrix.SymmetricMatrix.{SymmetricMatrix}
use Rattle.matrix.specs.Kernel.{Kernel, kernel_at}
use Rattle.matrix.specs.Turns.{faces_of, start_of, end_of}
use Rattle.matrix.proofs.matrix.Kernel.{kernel_kept}
use Rattle.gauss_seidel.specs.Sweep.{each_face}
use Rattle.gauss_seidel.specs.Turns.{scatter_turn}
use Rattle.dic.specs.Dic.{is_pivot, pivot_face, pivot_row, pivots_of, dic_of}
use Rattle.dic.specs.Contract.{reciprocal_asked, inverted_of, reciprocals_of, DicOk, settled, Settled, Inverted, ReciprocalsAsked}
use Rattle.dic.specs.Turns.{pivot_turn, PivotRowed}

-- ---- the pivots

-- The invariant of the loop over the rows: the pivots so far, of which what is left makes the whole.
pub record Pivoting (level : ℕ) (w : List ℕ) (s : SymmetricMatrix) (d row : ℕ) (F G : List Float) : Type 0 where
  pub vector : List Float
  pub wrote : Wrote d s.rows vector F G
  pub left : Left (pivot_row level (kernel_at s w F)) row s.rows (accepted vector) (pivots_of level (kernel_at s w F))

-- At the start they are the diagonal.
pub pivots_start : {level : ℕ} {w : List ℕ} {s : SymmetricMatrix} {d : ℕ} {F : List Float} → DicOk w (length F) s d
    → part d s.rows F ≡ part s.diagonal s.rows F → Pivoting level w s d 0 F F
unfolding pivots_of kernel_at
pivots_start {level} {w} {s} {d} {F} ok e =
    record {
      vector = part d s.rows F;
      wrote = wrote (sym (splice_part d s.rows F)) (length_part d s.rows F ok.fits);
      left = record { gives = ap (λ (v : List Float). for (pivot_row level (kernel_at s w F)) 0 s.rows (accepted v)) e };
    }

module _ {w : List ℕ} (F : List Float) {s : SymmetricMatrix} {d : ℕ} (ok : DicOk w (length F) s d) where
  abbrev here : Kernel
  here = kernel_at s w F

  face_turn_lem : (pivot : Float) (e : ℕ) → e < idx w (s.offsets + s.rows) → (v : List Float) → length v ≡ s.rows
      → (length (pivot_face here pivot e v) ≡ s.rows)
      × (pivot_turn w s d pivot e (splice d v F) ≡ splice d (pivot_face here pivot e v) F)
  unfolding scatter_turn pivot_face kernel_at
  face_turn_lem pivot e h v q =
      let k = ok.kernel in
      let j : idx w (s.neighbors + e) < s.rows = k.near e h in
      let b : idx w (s.neighbors + e) < length v = omega arith in
      let i : d + idx w (s.neighbors + e) < length F = omega arith in
      let a : s.coefficients + e < d = omega arith in
      (simp length-set q, simp (get_d_part, get_d_splice_below, get_d_splice_in, set_splice))

  row_turn_lem : (pivot : Float) (row : ℕ) → row < s.rows → (v : List Float) → length v ≡ s.rows
      → (length (each_face here row (pivot_face here pivot) v) ≡ s.rows)
      × (for (pivot_turn w s d pivot) (start_of w s row) (end_of w s row) (splice d v F)
      ≡ splice d (each_face here row (pivot_face here pivot) v) F)
  unfolding kernel_at
  row_turn_lem pivot row h v q =
      let k = ok.kernel in
      let r₀ : row < s.rows + 1 = omega arith in
      let r₁ : row + 1 < s.rows + 1 = omega arith in
      let below : start_of w s (row + 1) ≤ faces_of w s = simp add_assoc at (k.falls row h) in
      let law = for_map (λ (u : List Float). splice d u F) (λ (u : List Float). length u ≡ s.rows) (pivot_face here pivot) (pivot_turn w s d pivot)
      (start_of w s row) (start_of w s (row + 1)) (λ e _ g u p. face_turn_lem pivot e (omega arith) u p) v q in
      simp (get_d_part, add_assoc) law

  module _ {level row : ℕ} {G : List Float} (p : Pivoting level w s d row F G) (h : row < s.rows) where
    read : at G (d + row) ≡ at p.vector row
    read =
        let l = p.wrote.long in
        let b : row < length p.vector = omega arith in
        let i : d + row < length F = omega (arith, ok.fits) in
        rw p.wrote.is (get_d_splice_in d p.vector F row nan b i)

    -- A pivot that is good goes to the row's neighbours.
    pub pivots_on : {H : List Float} {pivot next : Float} {r : Bool} → PivotRowed w s d row pivot G H next → pivot ≡ at G (d + row) → r ≡ is_pivot pivot → r ≡ true
        → Pivoting level w s d (row + 1) F H
    unfolding pivot_row
    pivots_on {H} {pivot} c is e t =
        let good : is_pivot (at p.vector row) ≡ true = rw (is, read) at (sym e ∙ t) in
        let law = row_turn_lem (at p.vector row) row h p.vector p.wrote.long in
        let made : H ≡ for (pivot_turn w s d (at p.vector row)) (start_of w s row) (end_of w s row) (splice d p.vector F) =
        rw (is, read, p.wrote.is) at c.is in
        record {
          vector = each_face here row (pivot_face here (at p.vector row)) p.vector;
          wrote = wrote (made ∙ law.1) law.0;
          left = left_on p.left h (rw good);
        }

    -- Question 16 refuses.
    pub pivots_no : {pivot : Float} {r : Bool} → pivot ≡ at G (d + row) → r ≡ is_pivot pivot → r ≡ false
        → Settled d s.rows (pivots_of level here) F G (Err (bad_dic_pivot level row))
    unfolding pivot_row settled
    pivots_no is e t =
        let bad : is_pivot (at p.vector row) ≡ false = rw (is, read) at (sym e ∙ t) in
        let stop : refused (bad_dic_pivot level row) ≡ pivot_row level here row (accepted p.vector) = rw bad in
        record { held = p.vector; wrote = p.wrote; is = sym (left_stop p.left h stop (λ j. refl)) }

-- Every pivot is good.
pub pivots_done : {level : ℕ} {w : List ℕ} {s : SymmetricMatrix} {d row : ℕ} {F G : List Float} → Pivoting level w s d row F G → s.rows ≤ row
    → Settled d s.rows (pivots_of level (kernel_at s w F)) F G (Ok tt)
unfolding settled
pivots_done p h = record { held = p.vector; wrote = p.wrote; is = sym (left_end p.left h) }

-- ---- the reciprocals

module _ (n d : ℕ) (F : List Float) where
  -- the reciprocals of the first k pivots
  abbrev recips : ℕ → List Float
  recips k = tab (λ r. div64 one64 (at F (d + r))) k

  -- The invariant of `invert`: the reciprocals below `row` are written, and ok tells whether those are finite.
  pub record Inverting (G : List Float) (row : ℕ) (ok : Bool) : Type 0 where
    pub is : G ≡ splice d (recips row) F
    pub tested : Tested (λ r. is_finite (div64 one64 (at F (d + r)))) n row ok

  -- At the start none is written.
  pub inverting_start : Inverting F 0 true
  unfolding tab
  inverting_start = record { is = sym (splice_nil d F); tested = tested_start _ n }

  module _ (G : List Float) (row : ℕ) (is : G ≡ splice d (recips row) F) where
    -- The next pivot still stands.
    unread : at G (d + row) ≡ at F (d + row)
    unread =
        let l : length (recips row) ≡ row = length_tab _ row in
        rw is (get_d_splice_above d (recips row) F (d + row) nan (omega arith))

    -- Its reciprocal is written behind the others.
    written : set G (d + row) (div64 one64 (at G (d + row))) ≡ splice d (recips (row + 1)) F
    unfolding tab
    written =
        let l : row ≡ length (recips row) = sym (length_tab _ row) in
        let v = div64 one64 (at F (d + row)) in
        rw (unread, is, add-one row) (ap (λ (m : ℕ). set (splice d (recips row) F) (d + m) v) l ∙ set_splice_end d (recips row) F v)

  -- A turn writes one more.
  pub invert_on : {G : List Float} {row : ℕ} {ok r : Bool} → Inverting G row ok → row < n → r ≡ is_finite (div64 one64 (at G (d + row)))
      → Inverting (set G (d + row) (div64 one64 (at G (d + row)))) (row + 1) (ok && r)
  invert_on {G} {row} s h e =
      let same = unread G row s.is in
      record { is = written G row s.is; tested = tested_on s.tested h (rw (e, same)) }

  -- At the end every one is written.
  pub inverted : {G : List Float} {row : ℕ} {ok : Bool} → Inverting G row ok → n ≤ row → Inverted n d F G ok
  inverted {G} {row} {ok} s h =
      let reach : row ≤ n = s.tested.within in
      let e : row ≡ n = omega arith in
      let all : G ≡ splice d (recips n) F = rw e at s.is in
      record {
        wrote = wrote (all ∙ ap (λ (v : List Float). splice d v F) (tab_same _ _ n (λ k b. simp get_d_part))) (length_tab _ n);
        all = tested_done s.tested h ∙ each_same _ _ n (λ k b. simp get_d_part);
      }

module _ (level n d : ℕ) (F : List Float) where
  -- the question of a reciprocal that is written
  abbrev asks : ℕ → Outcome Unit
  asks row = ask (is_finite (at F (d + row))) (bad_dic_reciprocal level row) passed

  -- The invariant of the questions: those from `row` on are what is left.
  pub record Asking (row : ℕ) : Type 0 where
    pub left : (v : List Float) → ask_each n asks (accepted v) ≡ ask_from row n asks (accepted v)

  -- At the start all are left.
  pub asking_start : Asking 0
  asking_start = record { left = λ v. refl }

  -- All have passed.
  pub asking_done : {row : ℕ} → Asking row → n ≤ row → ReciprocalsAsked level n d F (Ok tt)
  unfolding settled
  asking_done {row} a h = record { asked = λ v. a.left v ∙ each_done row n asks (accepted v) h }

  module _ {row : ℕ} {r : Bool} (a : Asking row) (h : row < n) (e : r ≡ is_finite (at F (d + row))) where
    -- A reciprocal that is finite: the next row.
    pub asking_on : r ≡ true → Asking (row + 1)
    asking_on t =
        let good : is_finite (at F (d + row)) ≡ true = sym e ∙ t in
        record { left = λ v. a.left v ∙ each_step row n asks (accepted v) h (rw good) }

    -- Question 17 refuses.
    pub asking_no : r ≡ false → ReciprocalsAsked level n d F (Err (bad_dic_reciprocal level row))
    unfolding settled
    asking_no t =
        let bad : is_finite (at F (d + row)) ≡ false = sym e ∙ t in
        record { asked = λ v. a.left v ∙ each_stop row n asks (accepted v) h (rw bad) }

module _ {n d : ℕ} {F G : List Float} {ok : Bool} (fits : d + n ≤ length F) (c : Inverted n d F G ok) where
  -- What is written at a row is its reciprocal.
  inverted_at : (k : ℕ) → k < n → at G (d + k) ≡ div64 one64 (at (part d n F) k)
  inverted_at k h =
      let i : d + k < length F = omega arith in
      let b : k < length (inverted_of n (part d n F)) = rw (length_tab (λ row. div64 one64 (at (part d n F) row)) n) h in
      rw c.wrote.is (simp (get_d_splice_in, get_d_tab))

  -- Every reciprocal is finite.
  pub reciprocals_good : (level : ℕ) → ok ≡ true → Settled d n (reciprocals_of level n (part d n F)) F G (Ok tt)
  unfolding reciprocals_of settled
  reciprocals_good level t = record {
    held = inverted_of n (part d n F);
    wrote = c.wrote;
    is = each_all (reciprocal_asked level (part d n F)) _ n
        (λ k h. let good : is_finite (div64 one64 (at (part d n F) k)) ≡ true = each_at _ n (sym c.all ∙ t) k h in rw good);
  }

  -- Else the questions, asked one by one, give the verdict.
  pub reciprocals_asked : {level : ℕ} {r : Result Unit Refusal} → ReciprocalsAsked level n d G r → Settled d n (reciprocals_of level n (part d n F)) F G r
  unfolding reciprocals_of
  reciprocals_asked {level} {r} a = record {
    held = inverted_of n (part d n F);
    wrote = c.wrote;
    is = each_alike (reciprocal_asked level (part d n F)) _ (asks level n d G) n
        (λ k h. ap (λ (x : Float). ask (is_finite x) (bad_dic_reciprocal level k) passed) (sym (inverted_at k h)))
        ∙ a.asked (inverted_of n (part d n F));
  }

-- ---- the ways out

-- The reciprocals have room.
pub dic_room : {w : List ℕ} {F G H u : List Float} {s : SymmetricMatrix} {d b n : ℕ} {o : Outcome (List Float)} {v : Result Unit Refusal} → DicOk w (length F) s d → Wrote b n u F G
    → Settled d s.rows o G H v → d + s.rows ≤ length H
dic_room ok c p = rw (p.wrote.size, c.size) ok.fits

module _ {w : List ℕ} {F G : List Float} {s : SymmetricMatrix} {d : ℕ} (ok : DicOk w (length F) s d) (c : Wrote d s.rows (part s.diagonal s.rows F) F G) where
  -- After the copy the layout holds.
  pub dic_copied : DicOk w (length G) s d
  dic_copied = rw c.size ok

  -- After the copy the pivots are the diagonal.
  pub dic_same : part d s.rows G ≡ part s.diagonal s.rows G
  dic_same =
      let k = ok.kernel in
      wrote_at c ok.fits ∙ sym (wrote_off c s.diagonal s.rows (omega arith))

  module _ (level : ℕ) {H : List Float} {v : Result Unit Refusal} (p : Settled d s.rows (pivots_of level (kernel_at s w G)) G H v) where
    told : pivots_of level (kernel_at s w F) ≡ settled v p.held
    told = rw (kernel_kept ok.kernel (kept_wrote c (omega arith))) at p.is

    -- A pivot was refused.
    pub dic_refused : {q : Refusal} → v ≡ Err q → Settled d s.rows (dic_of level (kernel_at s w F)) F H (Err q)
    unfolding dic_of settled reciprocals_of
    dic_refused {q} t = record { held = p.held; wrote = wrote_again c p.wrote; is = rw (told, t) }

    -- The pivots passed, and the reciprocals answer.
    pub dic_done : {I : List Float} {r : Result Unit Refusal} → v ≡ Ok tt → Settled d s.rows (reciprocals_of level s.rows (part d s.rows H)) H I r
        → Settled d s.rows (dic_of level (kernel_at s w F)) F I r
    unfolding dic_of settled kernel_at reciprocals_of
    dic_done {I} {r} t q =
        let z : length G ≡ length F = c.size in
        let same : part d s.rows H ≡ p.held = wrote_at p.wrote (omega (arith, ok.fits)) in
        record { held = q.held; wrote = wrote_again (wrote_again c p.wrote) q.wrote; is = rw (told, t) (rw same at q.is) }
