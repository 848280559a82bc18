-- A whole text: the ways in which its reading ends. Assumes nothing.
use Rattle.std.specs.Prelude.{Result, Ok, Err}
use mathlib.Core.Path.{◌≡◌, refl, sym, ap, subst, ◌∙◌}
use mathlib.Core.Bool.{Bool, true, false, not, ◌&&◌}
use mathlib.Core.List.{List, [], map}
use Prim.Native.Nat.{ℕ, ◌+◌, ◌≤◌, ◌<◌}
use native.Mathlib.Omega.{arith}
use lib.Dec.{leb}
use lib.ListN.{length, take}
use lib.Seq.{length-take-le, get_or-take}
use lib.Ieee.{Float}
use borrow.Author.Tests.{leb-true}
use Rattle.refusal.specs.Outcome.{Outcome, refused, ask, ◌>>=◌}
use Rattle.refusal.specs.Refusal.{store_too_small, bad_matrix_file, bad_number}
use Rattle.refusal.specs.declared.Refusal.{Refusal}
use Rattle.refusal.proofs.Outcome.{ask_yes, ask_no, then_accepted, then_refused}
use Rattle.store.specs.Region.{at, idx}
use Rattle.store.specs.Vector.{filled}
use Rattle.matrix_market.specs.Lines.{first_line, data_of}
use Rattle.coordinate.specs.Coordinate.{Entry, repeated, expanded}
use Rattle.coordinate.specs.Contract.{SortOk, Sorted}
use Rattle.coordinate.proofs.Laws.{sorted_columns, sorted_values}
use Rattle.record_format.specs.Format.{Matrix}
use Rattle.matrix_reader.specs.declared.head.Head.{Head}
use Rattle.matrix_reader.specs.declared.entries.LinesError.{LinesError}
use Rattle.matrix_reader.specs.File.{kind_of, sizes_in, entries_from, lines_after, placed_matrix, matrix_from, Slices, slices_of, most_of, has_room, after_sizes, after_kind, file_of, ConvertedIs}
use Rattle.matrix_reader.specs.Contract.{stated_by, HeadIs}
use Rattle.matrix_reader.specs.Steps.{entries_to}
use Rattle.matrix_reader.specs.Writes.{ordered_matrix, FinishOk}
use Rattle.matrix_reader.specs.Whole.{HeadLimits, GatherOk, EntriesPlaced, entries_of_text, GatherIs, SortRoom}
use Rattle.matrix_reader.proofs.Opening.{both_l, both_r}
use Rattle.matrix_reader.proofs.Stored.{entries_length}

-- a refused text leaves the output
refused_is : {o : Outcome Matrix} {q : Refusal} (B : List ℕ) → o ≡ refused q → ConvertedIs o B B (Err q)
refused_is {o} {q} B e = subst (λ (p : Outcome Matrix). ConvertedIs p B B (Err q)) (sym e) (record { answer = refl; bytes = refl })

-- ---- the sort

-- Entries can be sorted by `sort_places`.
pub sort_ok : (n total : ℕ) {R C H S O N : List ℕ} → SortRoom n total R C S O N → length H ≡ 65536 → SortOk n (take total R) (take total C) H S O N
sort_ok n total {R} {C} {H} {S} {O} {N} o h =
    let x : length (take total R) ≡ total = length-take-le total R o.rows in
    let y : length (take total C) ≡ total = length-take-le total C o.columns in
    record {
      many = omega (arith, o.many);
      pairs = y ∙ sym x;
      row = λ k l. let i : k < total = omega arith in subst (λ (v : ℕ). v < n) (sym (get_or-take total R k 0 i)) (o.row k i);
      column = λ k l. let i : k < total = omega arith in subst (λ (v : ℕ). v < n) (sym (get_or-take total C k 0 i)) (o.column k i);
      heads = omega (arith, o.few);
      starts = o.starts;
      order = omega (arith, o.order);
      links = omega (arith, o.links);
    }

matrix_same : {r r' e e' : ℕ} {o o' c c' : List ℕ} {v v' : List Float} → r ≡ r' → e ≡ e' → o ≡ o' → c ≡ c' → v ≡ v'
    → ◌≡◌ {A = Matrix} (record { rows = r; entries = e; offsets = o; columns = c; values = v }) (record { rows = r'; entries = e'; offsets = o'; columns = c'; values = v' })
matrix_same {r} {r'} {e} {e'} {o} {o'} {c} {c'} {v} {v'} x y z w u =
    ap (λ (i : ℕ). with_arrays i e o c v) x ∙ ap (λ (i : ℕ). with_arrays r' i o c v) y ∙ ap (λ (i : List ℕ). with_arrays r' e' i c v) z ∙ ap (λ (i : List ℕ). with_arrays r' e' o' i v) w
    ∙ ap (λ (i : List Float). with_arrays r' e' o' c' i) u
  where
    with_arrays : ℕ → ℕ → List ℕ → List ℕ → List Float → Matrix
    with_arrays r e o c v = record { rows = r; entries = e; offsets = o; columns = c; values = v }

module _ {n m : ℕ} (R C : List ℕ) (F : List Float) {S O T P : List ℕ} {x : Bool} (a : m ≤ length R) (b : m ≤ length C) (c : m ≤ length F) (s : Sorted n (take m R) (take m C) S O T P x) where
  long_rows : length (take m R) ≡ m
  long_rows = length-take-le m R a

  long_values : length (take m F) ≡ length (take m R)
  long_values = length-take-le m F c ∙ sym long_rows

  -- the sort says whether a place is repeated
  sort_says : x ≡ not (repeated (entries_to m R C F))
  unfolding entries_to
  sort_says = s.single (take m F) long_values

  module _ (e : x ≡ true) (few : n ≤ 65536) (many : m ≤ 2097152) (starts : n + 1 ≤ length S) (order : m ≤ length O) where
    pub finish_ok : FinishOk n m (take m C) (take m F) T P
    finish_ok = record {
      columns = λ k h. omega (arith, s.below e k (omega (arith, long_rows)), long_rows, length-take-le m C b);
      values = λ k h. omega (arith, s.below e k (omega (arith, long_rows)), long_rows, length-take-le m F c);
      few = few;
      many = many;
      starts = omega (arith, s.kept);
      order = omega (arith, s.size);
    }

    -- what the sort found is the matrix by place
    ordered_is : ordered_matrix (take m C) (take m F) (take (n + 1) T) (take m P) ≡ placed_matrix n (entries_to m R C F)
    unfolding entries_to
    ordered_is =
        matrix_same
        (omega (arith, length-take-le (n + 1) T (omega (arith, s.kept))))
        (length-take-le m P (omega (arith, s.size)) ∙ sym (entries_length m R C F a b c))
        (s.starts e (take m F) long_values)
        (ap (λ (k : ℕ). map (idx (take m C)) (take k P)) (sym long_rows) ∙ sorted_columns s e (take m F) long_values)
        (ap (λ (k : ℕ). map (at (take m F)) (take k P)) (sym long_rows) ∙ sorted_values s e (take m F) long_values)

-- ---- the text

-- The slices have room for every file with head h.
pub record Roomy (l : Slices) (h : Head) : Type 0 where
  pub rows : most_of h.symmetric h.entries ≤ l.rows
  pub columns : most_of h.symmetric h.entries ≤ l.columns
  pub values : most_of h.symmetric h.entries ≤ l.values
  pub starts : h.rows + 1 ≤ l.starts
  pub order : most_of h.symmetric h.entries ≤ l.order
  pub links : most_of h.symmetric h.entries ≤ l.links

roomy : (l : Slices) (h : Head) → has_room l h.symmetric (stated_by h) ≡ true → Roomy l h
roomy l h e =
    let most : ℕ = most_of h.symmetric h.entries in
    let a = both_r (leb most l.rows) _ e in
    let b = both_r (leb most l.columns) _ a in
    let c = both_r (leb most l.values) _ b in
    let d = both_r (leb (h.rows + 1) l.starts) _ c in
    record {
      rows = leb-true most l.rows (both_l (leb most l.rows) _ e);
      columns = leb-true most l.columns (both_l (leb most l.columns) _ a);
      values = leb-true most l.values (both_l (leb most l.values) _ b);
      starts = leb-true (h.rows + 1) l.starts (both_l (leb (h.rows + 1) l.starts) _ c);
      order = leb-true most l.order (both_l (leb most l.order) _ d);
      links = leb-true most l.links (both_r (leb most l.order) _ d);
    }

-- what the code tests
pub room_is : (l : Slices) (h : Head) {m : ℕ} → m ≡ most_of h.symmetric h.entries
    → (leb m l.rows && (leb m l.columns && (leb m l.values && (leb (h.rows + 1) l.starts && (leb m l.order && leb m l.links))))) ≡ has_room l h.symmetric (stated_by h)
room_is l h e = ap (λ (k : ℕ). leb k l.rows && (leb k l.columns && (leb k l.values && (leb (h.rows + 1) l.starts && (leb k l.order && leb k l.links))))) e

-- no file within the limits has more entries than this
most_limit : (h : Head) → HeadLimits h → most_of h.symmetric h.entries ≤ 2097152
most_limit h o = go h.symmetric
  where
    go : (b : Bool) → most_of b h.entries ≤ 2097152
    go true = omega (arith, o.many)
    go false = omega (arith, o.many)

module _ {t : List ℕ} {r : Result Head Refusal} (i : HeadIs t r) (R₀ C₀ : List ℕ) (F₀ : List Float) (S O N B : List ℕ) where
  abbrev l : Slices
  l = slices_of R₀ C₀ F₀ S O N B

  pub convert_head : (q : Refusal) → r ≡ Err q → ConvertedIs (file_of t l) B B (Err q)
  convert_head q e = refused_is B (i.no q e l)

  module _ (h : Head) (e : r ≡ Ok h) where
    pub head_limits : HeadLimits h
    head_limits = let f = i.yes h e in record { few = f.rows; many = f.entries }

    opened : file_of t l ≡ after_sizes t l h.symmetric (stated_by h)
    opened = then_accepted (kind_of (first_line t)) (after_kind t l) (i.kind h e) ∙ then_accepted (sizes_in (data_of t)) (after_sizes t l h.symmetric) (i.yes h e).sizes

    abbrev following : List Entry → Outcome Matrix
    following es = matrix_from l.out (placed_matrix h.rows es)

    abbrev reading : Outcome Matrix
    reading = ◌>>=◌ (entries_of_text t h) (λ es. following (expanded h.symmetric es))

    module _ {x : Bool} (p : x ≡ has_room l h.symmetric (stated_by h)) where
      pub convert_short : x ≡ false → ConvertedIs (file_of t l) B B (Err store_too_small)
      convert_short g =
          refused_is B
          (opened
          ∙ ask_no (has_room l h.symmetric (stated_by h)) store_too_small
          (◌>>=◌ (entries_from h.symmetric (stated_by h) [] (lines_after (data_of t))) (λ es. following (expanded h.symmetric es))) (sym p ∙ g))

      module _ (g : x ≡ true) where
        past_room : file_of t l ≡ reading
        past_room =
            opened
            ∙ ask_yes (has_room l h.symmetric (stated_by h)) store_too_small
            (◌>>=◌ (entries_from h.symmetric (stated_by h) [] (lines_after (data_of t))) (λ es. following (expanded h.symmetric es))) (sym p ∙ g)
            ∙ ap (λ (d : List (List ℕ)). ◌>>=◌ (entries_from h.symmetric (stated_by h) [] d) (λ es. following (expanded h.symmetric es))) (sym (i.yes h e).rest)

        room : Roomy l h
        room = roomy l h (sym p ∙ g)

        pub gather_ok : GatherOk t h R₀ C₀ F₀
        gather_ok = record { limits = head_limits; next = (i.yes h e).within; rows = room.rows; columns = room.columns; values = room.values }

        module _ {R C : List ℕ} {F : List Float} {k : Result ℕ LinesError} (f : GatherIs t h R C F k) (u : length R ≡ length R₀) (v : length C ≡ length C₀) (w : length F ≡ length F₀) where
          pub convert_malformed : k ≡ Err LinesError.Malformed → ConvertedIs (file_of t l) B B (Err bad_matrix_file)
          convert_malformed j = refused_is B (past_room ∙ then_refused (entries_of_text t h) (λ es. following (expanded h.symmetric es)) (f.malformed j))

          sort_room : (m : ℕ) → EntriesPlaced h.rows (most_of h.symmetric h.entries) m R C → SortRoom h.rows m R C S O N
          sort_room m q = record {
            few = head_limits.few;
            many = omega (arith, q.few, most_limit h head_limits);
            rows = omega (arith, q.few, room.rows);
            columns = omega (arith, q.few, room.columns);
            row = q.row;
            column = q.column;
            starts = room.starts;
            order = omega (arith, q.few, room.order);
            links = omega (arith, q.few, room.links);
          }

          -- a bad value
          module _ (m : ℕ) (j : k ≡ Err (LinesError.BadValue m)) where
            pub bad_few : m + 1 ≤ 2097152
            bad_few = omega (arith, (f.bad m j).placed.few, most_limit h head_limits)

            pub bad_room : SortRoom h.rows (m + 1) R C S O N
            bad_room = sort_room (m + 1) (f.bad m j).placed

            module _ {T P : List ℕ} {y : Bool} (s : Sorted h.rows (take (m + 1) R) (take (m + 1) C) S O T P y) where
              bad_is : file_of t l ≡ ask y bad_matrix_file (refused bad_number)
              bad_is =
                  let z : y ≡ not (repeated (entries_to (m + 1) R C F)) = sort_says R C F bad_room.rows bad_room.columns (omega (arith, (f.bad m j).placed.few, room.values)) s in
                  past_room ∙ ap (λ (o : Outcome (List Entry)). ◌>>=◌ o (λ es. following (expanded h.symmetric es))) ((f.bad m j).is ∙ ap (λ (b : Bool). ask b bad_matrix_file (refused bad_number)) (sym z)) ∙ go y
                where
                  go : (b : Bool) → ◌>>=◌ {A = List Entry} (ask b bad_matrix_file (refused bad_number)) (λ es. following (expanded h.symmetric es)) ≡ ask b bad_matrix_file (refused bad_number)
                  go true = refl
                  go false = refl

              pub convert_bad : y ≡ true → ConvertedIs (file_of t l) B B (Err bad_number)
              convert_bad d = refused_is B (bad_is ∙ ask_yes y bad_matrix_file (refused bad_number) d)

              pub convert_bad_repeated : y ≡ false → ConvertedIs (file_of t l) B B (Err bad_matrix_file)
              convert_bad_repeated d = refused_is B (bad_is ∙ ask_no y bad_matrix_file (refused bad_number) d)

          -- entries alone
          module _ (m : ℕ) (j : k ≡ Ok m) where
            pub all_room : SortRoom h.rows m R C S O N
            all_room = sort_room m (f.all m j).placed

            pub columns_room : m ≤ length C
            columns_room = all_room.columns

            pub values_room_lem : m ≤ length F
            values_room_lem = omega (arith, (f.all m j).placed.few, room.values)

            module _ {T P : List ℕ} {y : Bool} (s : Sorted h.rows (take m R) (take m C) S O T P y) where
              all_is : file_of t l ≡ ask y bad_matrix_file (following (entries_to m R C F))
              all_is =
                  let z : y ≡ not (repeated (entries_to m R C F)) = sort_says R C F all_room.rows all_room.columns values_room_lem s in
                  past_room ∙ (f.all m j).is following ∙ ap (λ (b : Bool). ask b bad_matrix_file (following (entries_to m R C F))) (sym z)

              pub convert_repeated : y ≡ false → ConvertedIs (file_of t l) B B (Err bad_matrix_file)
              convert_repeated d = refused_is B (all_is ∙ ask_no y bad_matrix_file (following (entries_to m R C F)) d)

              module _ (d : y ≡ true) where
                pub finish_room : FinishOk h.rows m (take m C) (take m F) T P
                finish_room = finish_ok R C F all_room.rows all_room.columns values_room_lem s d all_room.few all_room.many all_room.starts all_room.order

                pub convert_finish : {B' : List ℕ} {a : Result ℕ Refusal} → ConvertedIs (matrix_from (length B) (ordered_matrix (take m C) (take m F) (take (h.rows + 1) T) (take m P))) B B' a
                    → ConvertedIs (file_of t l) B B' a
                convert_finish {B'} {a} c =
                    let q : ordered_matrix (take m C) (take m F) (take (h.rows + 1) T) (take m P) ≡ placed_matrix h.rows (entries_to m R C F) =
                    ordered_is R C F all_room.rows all_room.columns values_room_lem s d all_room.few all_room.many all_room.starts all_room.order in
                    subst (λ (o : Outcome Matrix). ConvertedIs o B B' a)
                    (ap (matrix_from (length B)) q ∙ sym (all_is ∙ ask_yes y bad_matrix_file (following (entries_to m R C F)) d)) c

-- ---- zeros first

pub zeroed : (t R C : List ℕ) (F : List Float) (S O N B : List ℕ) {Z Z' : List ℕ} {r : Result ℕ Refusal} → Z ≡ filled (length B) 0 → length Z ≡ length B
    → ConvertedIs (file_of t (slices_of R C F S O N Z)) Z Z' r → ConvertedIs (file_of t (slices_of R C F S O N B)) (filled (length B) 0) Z' r
zeroed t R C F S O N B {Z} {Z'} {r} e s c =
    subst (λ (G : List ℕ). ConvertedIs (file_of t (slices_of R C F S O N B)) G Z' r) e
    (subst
    (λ (k : ℕ). ConvertedIs (file_of t (record { rows = length R; columns = length C; values = length F; starts = length S; order = length O; links = length N; out = k })) Z Z' r)
    s c)
