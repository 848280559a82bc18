-- The loops of `update` as the code has them, and the frame `Within`.
-- Assumes nothing.
use Rattle.std.specs.Prelude.{Result, Ok, Err}
use mathlib.Core.Path.{◌≡◌, refl, sym, ap, ◌∙◌}
use mathlib.Core.Bool.{Bool, true, false, ◌&&◌}
use mathlib.Core.List.{List, [], ◌∷◌, ◌++◌}
use Prim.Native.Nat.{ℕ, ◌+◌, ◌-◌, ◌≤◌, ◌<◌}
use native.Mathlib.Numerals.{add-one}
use native.Mathlib.Omega.{arith}
use lib.ListN.{length, set, take, drop, length-drop}
use lib.Seq.{take_all, drop-drop, take-take}
use lib.Ieee.{Float, nan}
use Rattle.float.specs.Float.{div64, one64, is_finite, is_positive}
use Rattle.refusal.specs.declared.Refusal.{Refusal}
use Rattle.refusal.specs.Refusal.{bad_diagonal, bad_reciprocal}
use Rattle.refusal.specs.Outcome.{Outcome, accepted, refused, passed, ask_from, ask_each}
use Rattle.refusal.proofs.Outcome.{each_step, each_stop, each_done, each_all, each_alike}
use Rattle.store.specs.Loop.{for}
use Rattle.store.specs.Region.{at, idx, part, splice, Wrote, Kept}
use Rattle.store.specs.Vector.{tab}
use Rattle.store.proofs.store.Loop.{Left, left_end}
use Rattle.store.proofs.store.Region.{length_part, length_splice, get_d_part, get_d_splice_below, get_d_splice_in, set_splice_end, splice_nil, part_splice_above, wrote, wrote_at, wrote_off, kept_wrote, kept_part}
use Rattle.store.proofs.store.Vector.{length_tab, get_d_tab, tab_same, for_each}
use Rattle.store.proofs.store.Each.{Tested, both_l, both_r, each_at, tested_start, tested_on, tested_done}
use Rattle.matrix.specs.declared.matrix.SymmetricMatrix.{SymmetricMatrix}
use Rattle.coefficients.specs.declared.values.entries.Entries.{Entries}
use Rattle.coefficients.specs.Update.{diagonal_asked, entry_of, Coefficients, kernel_update_of}
use Rattle.coefficients.specs.Contract.{diagonal_good, update_with, update_at, FacesTaken, Within, Holds, UpdateOk, Updated, EntriesOk, GivenOk, pick_turn, Inverted, after, RowsTold, RowsAsked}

-- ---- the frame

-- A write from lo up to hi.
pub within_wrote : {A : Type 0} {lo hi b n : ℕ} {v F G : List A} → Wrote b n v F G → lo ≤ b → b + n ≤ hi → Within lo hi F G
unfolding part
within_wrote {A} {lo} {hi} {b} {n} {v} {F} {G} h l u =
    let long : length v ≡ n = h.long in
    let before : length (drop hi F) ≤ length F = simp length-drop (omega arith) in
    let behind : length (drop hi (splice b v F)) ≤ length F = simp (length-drop, length_splice) (omega arith) in
    record {
      below = (kept_wrote h l).below;
      above = ap (drop hi) h.is ∙ sym (take_all (length F) (drop hi (splice b v F)) behind) ∙ part_splice_above hi (length F) b v F (omega arith) ∙ take_all (length F) (drop hi F) before;
      size = h.size;
    }

-- Frames follow one another.
pub within_on : {A : Type 0} {lo hi : ℕ} {F G H : List A} → Within lo hi F G → Within lo hi G H → Within lo hi F H
within_on g h = record { below = h.below ∙ g.below; above = h.above ∙ g.above; size = h.size ∙ g.size }

-- A wider frame holds too.
pub within_more : {A : Type 0} {lo hi low high : ℕ} {F G : List A} → Within lo hi F G → low ≤ lo → hi ≤ high → Within low high F G
within_more {A} {lo} {hi} {low} {high} {F} {G} h l u =
    let e : high ≡ hi + (high - hi) = omega arith in
    record {
      below = sym (take-take low lo G l) ∙ ap (take low) h.below ∙ take-take low lo F l;
      above = rw e (sym (drop-drop (high - hi) hi G) ∙ ap (drop (high - hi)) h.above ∙ drop-drop (high - hi) hi F);
      size = h.size;
    }

-- What is below is kept.
pub within_kept : {A : Type 0} {lo hi : ℕ} {F G : List A} → Within lo hi F G → Kept lo F G
within_kept h = record { below = h.below; size = h.size }

-- A region from hi on is as it was.
pub within_above : {A : Type 0} {lo hi : ℕ} {F G : List A} → Within lo hi F G → (a m : ℕ) → hi ≤ a → part a m G ≡ part a m F
unfolding part
within_above {A} {lo} {hi} {F} {G} h a m l =
    let e : a ≡ hi + (a - hi) = omega arith in
    rw e (ap (take m) (sym (drop-drop (a - hi) hi G) ∙ ap (drop (a - hi)) h.above ∙ drop-drop (a - hi) hi F))

-- ---- values taken from the entries

-- A position is one of the entries.
pub entry_of_lem : (w : List ℕ) (size n entries places values to k : ℕ) → EntriesOk w size n entries places values to → k < n → idx w (places + k) < entries
entry_of_lem w size n entries places values to k ok h = ok.near k h

-- The loop over them writes their values.
pub picked : {w : List ℕ} {F G : List Float} {n entries places values to k : ℕ} → EntriesOk w (length F) n entries places values to
    → Left (pick_turn w places values to) k n G (for (pick_turn w places values to) 0 n F) → n ≤ k
    → Wrote to n (tab (entry_of (part places n w) (part values entries F)) n) F G
unfolding pick_turn
picked {w} {F} {G} {n} {entries} {places} {values} {to} ok l h =
    let start = for_each to n F (λ k I. at I (values + idx w (places + k)))
    (λ k b I same. let near : idx w (places + k) < entries = ok.near k b in same (values + idx w (places + k)) nan (λ q. omega arith)) in
    let regions = tab_same (λ k. at F (values + idx w (places + k))) (entry_of (part places n w) (part values entries F)) n
    (λ k b. let near : idx w (places + k) < entries = ok.near k b in simp get_d_part) in
    wrote (left_end l h ∙ start ∙ ap (λ (v : List Float). splice to v F) regions) (length_tab _ n)

-- A turn of it: the entry is known by an equation.
pub pick_on : (w : List ℕ) (places values to k entry : ℕ) (F : List Float) → entry ≡ idx w (places + k)
    → set F (to + k) (at F (values + entry)) ≡ pick_turn w places values to k F
unfolding pick_turn
pick_on w places values to k entry F e = rw e

-- The same of values that are given.
pub given_of : (w : List ℕ) (size n count places to k : ℕ) → GivenOk w size n count places to → k < n → idx w (places + k) < count
given_of w size n count places to k ok h = ok.near k h

-- to[k] = the given value of entry k
unfoldable pub give_turn : List ℕ → ℕ → List Float → ℕ → ℕ → List Float → List Float
give_turn w places U to k F = set F (to + k) (at U (idx w (places + k)))

pub given_picked : {w : List ℕ} (U : List Float) {F G : List Float} {n count places to k : ℕ} → GivenOk w (length F) n count places to
    → Left (give_turn w places U to) k n G (for (give_turn w places U to) 0 n F) → n ≤ k
    → Wrote to n (tab (entry_of (part places n w) U) n) F G
unfolding give_turn
given_picked {w} U {F} {G} {n} {count} {places} {to} ok l h =
    let start = for_each to n F (λ k I. at U (idx w (places + k))) (λ k b I same. refl) in
    let regions = tab_same (λ k. at U (idx w (places + k))) (entry_of (part places n w) U) n (λ k b. simp get_d_part) in
    wrote (left_end l h ∙ start ∙ ap (λ (v : List Float). splice to v F) regions) (length_tab _ n)

pub given_on : (w : List ℕ) (places to k entry : ℕ) (U F : List Float) → entry ≡ idx w (places + k)
    → set F (to + k) (at U entry) ≡ give_turn w places U to k F
unfolding give_turn
given_on w places to k entry U F e = rw e

-- ---- the rows

set_end : {A : Type 0} (b k : ℕ) (v F : List A) (a : A) → length v ≡ k → set (splice b v F) (b + k) a ≡ splice b (v ++ (a ∷ [])) F
set_end b k v F a l = ap (λ (m : ℕ). set (splice b v F) (b + m) a) (sym l) ∙ set_splice_end b v F a

module _ (rows diagonal inverse : ℕ) (F : List Float) where
  -- the reciprocals of the first k rows
  abbrev recips : ℕ → List Float
  recips k = tab (λ r. div64 one64 (at F (diagonal + r))) k

  -- The invariant of the pass over the diagonal: the reciprocals below `row` are written, and ok tells whether those rows are good.
  pub record Inverting (G : List Float) (row : ℕ) (ok : Bool) : Type 0 where
    pub is : G ≡ splice inverse (recips row) F
    pub tested : Tested (λ r. diagonal_good (at F (diagonal + r))) rows row ok

  -- At the start none is written.
  pub inverting_start : Inverting F 0 true
  unfolding tab
  inverting_start = record { is = sym (splice_nil inverse F); tested = tested_start _ rows }

  -- At the end every one is.
  pub inverted : {G : List Float} {row : ℕ} {ok : Bool} → Inverting G row ok → rows ≤ row → Inverted rows diagonal inverse F G ok
  inverted {G} {row} {ok} s h =
      let reach : row ≤ rows = s.tested.within in
      let e : row ≡ rows = omega arith in
      record { is = rw e at s.is; all = tested_done s.tested h }

  module _ (G : List Float) (row : ℕ) (l : diagonal + rows ≤ inverse) (is : G ≡ splice inverse (recips row) F) (h : row < rows) where
    read : at G (diagonal + row) ≡ at F (diagonal + row)
    read =
        let b : diagonal + row < inverse = omega arith in
        rw is (simp get_d_splice_below)

    write : set G (inverse + row) (div64 one64 (at G (diagonal + row))) ≡ splice inverse (recips (row + 1)) F
    unfolding tab
    write = rw (read, is, add-one row) (set_end inverse row (recips row) F (div64 one64 (at F (diagonal + row))) (length_tab _ row))

  -- A turn writes one more.
  pub invert_on : {G : List Float} {row : ℕ} {good p q : Bool} → diagonal + rows ≤ inverse → Inverting G row good → row < rows
      → p ≡ is_positive (at G (diagonal + row)) → q ≡ is_finite (div64 one64 (at G (diagonal + row)))
      → Inverting (set G (inverse + row) (div64 one64 (at G (diagonal + row)))) (row + 1) (good && (p && q))
  unfolding diagonal_good
  invert_on {G} {row} l s h e e' =
      let same = read G row l s.is h in
      record { is = write G row l s.is h; tested = tested_on s.tested h (rw (e, e', same)) }

-- ---- the questions of the rows

-- A good row passes both questions.
good_passes : (level row : ℕ) (d : Float) → diagonal_good d ≡ true → diagonal_asked level row d ≡ passed
unfolding diagonal_good diagonal_asked
good_passes level row d e = rw (both_l (is_positive d) (is_finite (div64 one64 d)) e, both_r (is_positive d) (is_finite (div64 one64 d)) e)

module _ (level rows diagonal : ℕ) (F : List Float) where
  abbrev asks : ℕ → Outcome Unit
  asks r = diagonal_asked level r (at F (diagonal + r))

  -- The invariant of the questions: those from `row` on are what is left.
  pub record Asking (row : ℕ) : Type 0 where
    pub left : (rest : Outcome Coefficients) → ask_each rows asks rest ≡ ask_from row rows asks rest

  -- At the start all are left.
  pub asking_start : Asking 0
  asking_start = record { left = λ rest. refl }

  -- All have passed.
  pub asking_done : {row : ℕ} → Asking row → rows ≤ row → RowsAsked level rows diagonal F (Ok tt)
  unfolding after
  asking_done {row} a h = record { asked = λ rest. a.left rest ∙ each_done row rows asks rest h }

  module _ {row : ℕ} {p : Bool} (a : Asking row) (h : row < rows) (e : p ≡ is_positive (at F (diagonal + row))) where
    -- Question 12 refuses.
    pub row_bad : p ≡ false → RowsAsked level rows diagonal F (Err (bad_diagonal level row))
    unfolding after diagonal_asked
    row_bad t =
        let no : is_positive (at F (diagonal + row)) ≡ false = sym e ∙ t in
        record { asked = λ rest. a.left rest ∙ each_stop row rows asks rest h (rw no) }

    module _ {q : Bool} (yes : p ≡ true) (e' : q ≡ is_finite (div64 one64 (at F (diagonal + row)))) where
      -- Question 13 refuses.
      pub row_bad_reciprocal : q ≡ false → RowsAsked level rows diagonal F (Err (bad_reciprocal level row))
      unfolding after diagonal_asked
      row_bad_reciprocal t =
          let good : is_positive (at F (diagonal + row)) ≡ true = sym e ∙ yes in
          let no : is_finite (div64 one64 (at F (diagonal + row))) ≡ false = sym e' ∙ t in
          record { asked = λ rest. a.left rest ∙ each_stop row rows asks rest h (rw (good, no)) }

      -- Both pass: the next row.
      pub row_on : q ≡ true → Asking (row + 1)
      unfolding diagonal_asked
      row_on t =
          let good : is_positive (at F (diagonal + row)) ≡ true = sym e ∙ yes in
          let fine : is_finite (div64 one64 (at F (diagonal + row))) ≡ true = sym e' ∙ t in
          record { left = λ rest. a.left rest ∙ each_step row rows asks rest h (rw (good, fine)) }

module _ {rows diagonal inverse : ℕ} {F G : List Float} {ok : Bool} (l : diagonal + rows ≤ inverse) (s : Inverted rows diagonal inverse F G ok) where
  -- Every row is good.
  pub rows_good : (level : ℕ) → ok ≡ true → RowsTold level rows diagonal inverse F G (Ok tt)
  unfolding after
  rows_good level t = record {
    is = s.is;
    asked = λ rest. each_all (λ r. diagonal_asked level r (at F (diagonal + r))) rest rows
        (λ r h. good_passes level r (at F (diagonal + r)) (each_at _ rows (sym s.all ∙ t) r h));
  }

  -- The reciprocals leave the diagonal.
  diagonal_stays : (r : ℕ) → r < rows → at G (diagonal + r) ≡ at F (diagonal + r)
  diagonal_stays r h =
      let b : diagonal + r < inverse = omega arith in
      rw s.is (simp get_d_splice_below)

  -- Else the questions, asked one by one, give the verdict.
  pub rows_asked : {level : ℕ} {r : Result Unit Refusal} → RowsAsked level rows diagonal G r → RowsTold level rows diagonal inverse F G r
  rows_asked {level} a = record {
    is = s.is;
    asked = λ rest. each_alike (λ k. diagonal_asked level k (at F (diagonal + k))) rest (λ k. diagonal_asked level k (at G (diagonal + k))) rows
        (λ k h. ap (diagonal_asked level k) (sym (diagonal_stays k h))) ∙ a.asked rest;
  }

-- ---- the ways out

-- What the loop over the rows requires.
pub rows_entries : {w : List ℕ} {size : ℕ} {s : SymmetricMatrix} {e : Entries} → UpdateOk w size s e
    → EntriesOk w size s.rows e.entries e.diagonals e.values s.diagonal
rows_entries ok = record { words = ok.owns; near = ok.own; image = omega arith; target = omega arith }

-- Neither changes the size.
told_size : {level rows diagonal inverse b n : ℕ} {F D G v : List Float} {r : Result Unit Refusal} → Wrote b n v F D → RowsTold level rows diagonal inverse D G r
    → length G ≡ length F
told_size d h = ap length h.is ∙ length_splice _ _ _ ∙ d.size

-- What the loop over the faces requires, after both.
pub faces_entries : {w : List ℕ} {F D G v : List Float} {s : SymmetricMatrix} {e : Entries} {level faces b n : ℕ} {r : Result Unit Refusal} → UpdateOk w (length F) s e
    → faces ≡ idx w (s.offsets + s.rows) → Wrote b n v F D → RowsTold level s.rows s.diagonal s.inverse D G r
    → EntriesOk w (length G) faces e.entries e.faces e.values s.coefficients
faces_entries {w} {F} {D} {G} {v} {s} ok i d h =
    let long = told_size d h in
    rw i (record { words = ok.sides; near = ok.side; image = ok.image; target = omega arith })

-- The same where the image is given.
pub rows_given : {w : List ℕ} {size count to : ℕ} {s : SymmetricMatrix} {e : Entries} → UpdateOk w size s e → e.entries ≤ count → to + s.rows ≤ size
    → GivenOk w size s.rows count e.diagonals to
rows_given ok h room = record { words = ok.owns; near = λ k q. let b = ok.own k q in omega arith; target = room }

pub faces_given : {w : List ℕ} {size count faces : ℕ} {s : SymmetricMatrix} {e : Entries} → UpdateOk w size s e → e.entries ≤ count
    → faces ≡ idx w (s.offsets + s.rows) → GivenOk w size faces count e.faces s.coefficients
faces_given ok h i = rw i (record { words = ok.sides; near = λ k q. let b = ok.side k q in omega arith; target = omega arith })

-- The diagonals taken from U, and their reciprocals.
module _ {level : ℕ} {w : List ℕ} (U : List Float) {F D G : List Float} {s : SymmetricMatrix} {e : Entries} {v : Result Unit Refusal} (ok : UpdateOk w (length F) s e)
    (d : Wrote s.diagonal s.rows (tab (entry_of (part e.diagonals s.rows w) U) s.rows) F D)
    (a : RowsTold level s.rows s.diagonal s.inverse D G v) where
  abbrev own : ℕ → Float
  own = entry_of (part e.diagonals s.rows w) U

  here : (r : ℕ) → r < s.rows → at D (s.diagonal + r) ≡ own r
  here r h =
      let b : s.diagonal + r < length F = omega arith in
      let z : r < length (tab own s.rows) = rw (length_tab own s.rows) h in
      rw d.is (simp (get_d_splice_in, get_d_tab))

  second : Wrote s.inverse s.rows (tab (λ row. div64 one64 (own row)) s.rows) D G
  second =
      wrote (a.is ∙ ap (λ (u : List Float). splice s.inverse u D) (tab_same _ _ s.rows (λ r h. ap (div64 one64) (here r h)))) (length_tab _ s.rows)

  asked : (rest : Outcome Coefficients) → ask_each s.rows (λ row. diagonal_asked level row (own row)) rest ≡ after v rest
  asked rest =
      each_alike (λ k. diagonal_asked level k (own k)) rest (λ k. diagonal_asked level k (at D (s.diagonal + k))) s.rows
      (λ k h. ap (diagonal_asked level k) (sym (here k h))) ∙ a.asked rest

  wide : Within s.coefficients (s.inverse + s.rows) F G
  wide = within_on (within_wrote d (omega arith) (omega arith)) (within_wrote second (omega arith) (omega arith))

  -- A row was refused.
  pub refuses : {q : Refusal} → v ≡ Err q → Updated w s (update_with level s e w U) F G (Err q)
  unfolding kernel_update_of after
  refuses {q} t =
      let no : update_with level s e w U ≡ refused q = asked _ ∙ rw t in
      record { verdict = rw no; holds = λ k y. let z : ◌≡◌ {A = ℕ} 0 1 = cc in absurd (omega arith); within = wide }

  -- Every row passed.
  module _ (t : v ≡ Ok tt) where
    abbrev count : ℕ
    count = idx w (s.offsets + s.rows)

    abbrev made : Coefficients
    made = record {
      diagonal = tab own s.rows;
      inverse = tab (λ row. div64 one64 (own row)) s.rows;
      coefficients = tab (entry_of (part e.faces count w) U) (length (part e.faces count w));
    }

    told : update_with level s e w U ≡ accepted made
    unfolding kernel_update_of after
    told = asked _ ∙ rw t

    -- Since then the rows were left alone, and the faces' values stand.
    settled : {H : List Float} → Within s.coefficients (s.inverse + s.rows) F H → part s.diagonal s.rows H ≡ part s.diagonal s.rows G
        → part s.inverse s.rows H ≡ part s.inverse s.rows G → FacesTaken w U H s e → Updated w s (update_with level s e w U) F H (Ok tt)
    settled {H} within diags recips faces =
        let size₁ = d.size in
        let n : length (part e.faces count w) ≡ count = length_part _ _ w ok.sides in
        let holds : Holds w s made H = record {
          diagonal = diags ∙ wrote_off second s.diagonal s.rows (omega arith) ∙ wrote_at d (omega arith);
          inverse = recips ∙ wrote_at second (omega arith);
          coefficients = rw n faces;
        } in
        record { verdict = rw told; holds = λ k y. let same : k ≡ made = cc (told) in rw same holds; within = within }

    -- The faces' values were copied.
    pub accepts : {H : List Float} {faces : ℕ} → faces ≡ count → Wrote s.coefficients faces (tab (entry_of (part e.faces faces w) U) faces) G H
        → Updated w s (update_with level s e w U) F H (Ok tt)
    accepts {H} {faces} i c =
        let size₁ = d.size in
        let size₂ = second.size in
        settled (within_on wide (within_wrote c (omega arith) (omega arith))) (wrote_off c s.diagonal s.rows (omega arith))
        (wrote_off c s.inverse s.rows (omega arith)) (rw i at (wrote_at c (omega arith)))

    -- They stood there before.
    pub stands : FacesTaken w U F s e → Updated w s (update_with level s e w U) F G (Ok tt)
    stands h = settled wide refl refl (wrote_off second s.coefficients count (omega arith) ∙ wrote_off d s.coefficients count (omega arith) ∙ h)

-- The verdict on the rows is that of the whole, where the faces' values stood before.
pub given_told : {level : ℕ} {w : List ℕ} (U : List Float) {F D G : List Float} {s : SymmetricMatrix} {e : Entries} (v : Result Unit Refusal) → UpdateOk w (length F) s e
    → FacesTaken w U F s e → Wrote s.diagonal s.rows (tab (entry_of (part e.diagonals s.rows w) U) s.rows) F D
    → RowsTold level s.rows s.diagonal s.inverse D G v → Updated w s (update_with level s e w U) F G v
given_told U (Ok tt) ok h d a = stands U ok d a refl h
given_told U (Err q) ok h d a = refuses U ok d a refl

-- A copy of the faces' values makes them stand.
pub faces_stand : {w : List ℕ} (U : List Float) {F G : List Float} {faces : ℕ} {s : SymmetricMatrix} {e : Entries} → UpdateOk w (length F) s e
    → faces ≡ idx w (s.offsets + s.rows) → Wrote s.coefficients faces (tab (entry_of (part e.faces faces w) U) faces) F G → FacesTaken w U G s e
faces_stand U ok i c = rw i at (wrote_at c (omega arith))

-- What an update requires holds after it too.
pub stand_ok : {w : List ℕ} {size long : ℕ} {s : SymmetricMatrix} {e : Entries} → UpdateOk w size s e → long ≡ size → UpdateOk w long s e
stand_ok ok same = rw same ok

-- An update after it is one from where it began.
pub stand_updated : {w : List ℕ} (U : List Float) {F D G : List Float} {faces : ℕ} {s : SymmetricMatrix} {e : Entries} {o : Outcome Coefficients} {r : Result Unit Refusal}
    → UpdateOk w (length F) s e → faces ≡ idx w (s.offsets + s.rows) → Wrote s.coefficients faces (tab (entry_of (part e.faces faces w) U) faces) F D
    → Updated w s o D G r → Updated w s o F G r
stand_updated U ok i c u =
    record { verdict = u.verdict; holds = u.holds; within = within_on (within_wrote c (omega arith) (omega arith)) u.within }

-- The image stands below what is written, and so it is the same for the faces.
module _ {level : ℕ} {w : List ℕ} {F D G : List Float} {s : SymmetricMatrix} {e : Entries} {v : Result Unit Refusal} (ok : UpdateOk w (length F) s e)
    (d : Wrote s.diagonal s.rows (tab (entry_of (part e.diagonals s.rows w) (part e.values e.entries F)) s.rows) F D)
    (a : RowsTold level s.rows s.diagonal s.inverse D G v) where
  pub update_no : {q : Refusal} → v ≡ Err q → Updated w s (update_at level s e w F) F G (Err q)
  update_no t = refuses (part e.values e.entries F) ok d a t

  pub update_yes : {H : List Float} {faces : ℕ} → v ≡ Ok tt → faces ≡ idx w (s.offsets + s.rows)
      → Wrote s.coefficients faces (tab (entry_of (part e.faces faces w) (part e.values e.entries G)) faces) G H
      → Updated w s (update_at level s e w F) F H (Ok tt)
  update_yes {H} {faces} t i c =
      let f : part e.values e.entries G ≡ part e.values e.entries F =
      kept_part (within_kept (wide (part e.values e.entries F) ok d a)) e.values e.entries ok.image in
      accepts (part e.values e.entries F) ok d a t i (rw f at c)
