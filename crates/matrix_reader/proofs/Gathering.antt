-- The entries of a text and their mirrors, once its lines are read. Assumes nothing.
use mathlib.Core.Path.{◌≡◌, refl, sym, ap, subst, ◌∙◌}
use mathlib.Core.Bool.{Bool, true, false, not}
use mathlib.Core.List.{List, [], ◌++◌}
use Prim.Native.Nat.{ℕ, ◌+◌, ◌*◌, ◌≤◌, ◌<◌}
use native.Mathlib.Omega.{arith}
use lib.Dec.{eqb}
use lib.ListN.{length, take, drop}
use lib.Seq.{get_or-take, length-take-le}
use lib.Ieee.{Float}
use borrow.Author.Tests.{eq-eqb, ne_eqb}
use Rattle.refusal.specs.Outcome.{Outcome, accepted, refused, ask, ◌>>=◌}
use Rattle.refusal.specs.Refusal.{bad_matrix_file}
use Rattle.matrix_market.specs.Lines.{data_of}
use Rattle.coordinate.specs.Coordinate.{Entry, repeated, mirrors_of, expanded}
use Rattle.record_format.specs.Format.{Matrix}
use Rattle.matrix_reader.specs.declared.head.Head.{Head}
use Rattle.std.specs.Prelude.{Result, Ok, Err}
use Rattle.matrix_reader.specs.declared.entries.LinesError.{LinesError}
use Rattle.matrix_reader.specs.File.{most_of}
use Rattle.matrix_reader.specs.Contract.{stated_by}
use Rattle.matrix_reader.specs.Steps.{verdict_for, entries_to, LinesOk, pass_told, count_told, LinesAre, MirrorsRoom, MirrorsPut}
use Rattle.matrix_reader.specs.Whole.{GatherOk, EntriesPlaced, entries_of_text, BadGathered, AllGathered, GatherIs}
use Rattle.matrix_reader.proofs.Repeats.{mirrors_repeat}
use Rattle.matrix_reader.proofs.Passing.{pass_is}
use Rattle.matrix_reader.proofs.Stored.{entries_length}
use Rattle.matrix_reader.proofs.Within.{Within, PassWithin, pass_within, within_lower, within_expanded, within_rows}

-- entries in slices have places below n where those of the list do
placed_from_lem : {b : Bool} {n : ℕ} (most m : ℕ) (R C : List ℕ) (F : List Float) → m ≤ most → m ≤ length R → m ≤ length C → m ≤ length F → Within b n (entries_to m R C F) → EntriesPlaced n most m R C
unfolding entries_to
placed_from_lem {b} {n} most m R C F few r c f w =
    let x : length (take m R) ≡ m = length-take-le m R r in
    let y : length (take m C) ≡ m = length-take-le m C c in
    let z : length (take m F) ≡ m = length-take-le m F f in
    let each = within_rows (take m R) (take m C) (take m F) (y ∙ sym x) (z ∙ sym x) w in
    record {
      few = few;
      row = λ k h. let i : k < length (take m R) = omega arith in subst (λ (v : ℕ). v < n) (get_or-take m R k 0 h) (each k i).0;
      column = λ k h. let i : k < length (take m R) = omega arith in subst (λ (v : ℕ). v < n) (get_or-take m C k 0 h) (each k i).1;
    }

repeated_none : repeated [] ≡ false
unfolding repeated
repeated_none = refl

ask_either : {A : Type 0} (t : Bool) → ask {A = A} t bad_matrix_file (refused bad_matrix_file) ≡ refused bad_matrix_file
ask_either true = refl
ask_either false = refl

ask_then : (t : Bool) (es : List Entry) (rest : List Entry → Outcome Matrix) → ◌>>=◌ (ask t bad_matrix_file (accepted es)) rest ≡ ask t bad_matrix_file (rest es)
ask_then true es rest = refl
ask_then false es rest = refl

module _ {t : List ℕ} {h : Head} {R₀ C₀ : List ℕ} {F₀ : List Float} (o : GatherOk t h R₀ C₀ F₀) where
  -- the lines can be read
  pub lines_ok : LinesOk t h R₀ C₀ F₀
  lines_ok = record {
    next = o.next;
    few = o.limits.few;
    many = o.limits.many;
    rows = below h.symmetric h.entries (length R₀) o.rows;
    columns = below h.symmetric h.entries (length C₀) o.columns;
    values = below h.symmetric h.entries (length F₀) o.values;
  }
    where
      below : (b : Bool) (m n : ℕ) → most_of b m ≤ n → m ≤ n
      below true m n g = omega arith
      below false m n g = g

  module _ {R C : List ℕ} {F : List Float} {r : Result ℕ LinesError} (p : LinesAre t h R C F r) (x : length R ≡ length R₀) (y : length C ≡ length C₀) (z : length F ≡ length F₀) where
    read_is : entries_of_text t h ≡ verdict_for (stated_by h) (pass_told r R C F)
    read_is = pass_is h.symmetric (stated_by h) [] (data_of (drop h.next t)) repeated_none ∙ ap (verdict_for (stated_by h)) (sym p.is)

    pass_placed : PassWithin h.symmetric h.rows (pass_told r R C F)
    pass_placed = subst (PassWithin h.symmetric h.rows) (sym p.is) (pass_within h.symmetric (stated_by h) [] (data_of (drop h.next t)) Within.none)

    most_least : (m : ℕ) → m ≤ h.entries → m ≤ most_of h.symmetric h.entries
    most_least m g = go h.symmetric
      where
        go : (b : Bool) → m ≤ most_of b h.entries
        go true = omega arith
        go false = g

    gather_malformed : r ≡ Err LinesError.Malformed → GatherIs t h R C F (Err LinesError.Malformed)
    gather_malformed e = record {
      malformed = λ g. read_is ∙ ap (λ (v : Result ℕ LinesError). verdict_for (stated_by h) (pass_told v R C F)) e;
      bad = λ m g. absurd (let w : ◌≡◌ {A = ℕ} 0 1 = cc in omega arith);
      all = λ m g. absurd (let w : ◌≡◌ {A = ℕ} 0 1 = cc in omega arith);
    }

    gather_bad : (m : ℕ) → r ≡ Err (LinesError.BadValue m) → GatherIs t h R C F (Err (LinesError.BadValue m))
    gather_bad m e =
        let few : m + 1 ≤ h.entries = subst (λ (v : Result ℕ LinesError). count_told v ≤ h.entries) e p.few in
        let w : Within h.symmetric h.rows (entries_to (m + 1) R C F) = subst (λ (v : Result ℕ LinesError). PassWithin h.symmetric h.rows (pass_told v R C F)) e pass_placed in
        let l = lines_ok in
        let found : BadGathered t h R C F m = record {
          placed = placed_from_lem (most_of h.symmetric h.entries) (m + 1) R C F (most_least (m + 1) few) (omega (arith, l.rows)) (omega (arith, l.columns)) (omega (arith, l.values)) w;
          is = read_is ∙ ap (λ (v : Result ℕ LinesError). verdict_for (stated_by h) (pass_told v R C F)) e;
        } in
        record {
          malformed = λ g. absurd (let w : ◌≡◌ {A = ℕ} 0 1 = cc in omega arith);
          bad = λ k g. let i : m ≡ k = cc in subst (BadGathered t h R C F) i found;
          all = λ k g. absurd (let w : ◌≡◌ {A = ℕ} 0 1 = cc in omega arith);
        }

    -- what is wrong with the lines is handed on
    pub gather_stopped : (q : LinesError) → r ≡ Err q → GatherIs t h R C F (Err q)
    gather_stopped LinesError.Malformed e = gather_malformed e
    gather_stopped (LinesError.BadValue m) e = gather_bad m e

    module _ (m : ℕ) (e : r ≡ Ok m) where
      count_few : m ≤ h.entries
      count_few = subst (λ (v : Result ℕ LinesError). count_told v ≤ h.entries) e p.few

      counted : length (entries_to m R C F) ≡ m
      counted = let l = lines_ok in entries_length m R C F (omega (arith, l.rows, count_few)) (omega (arith, l.columns, count_few)) (omega (arith, l.values, count_few))

      ended_is : entries_of_text t h ≡ ask (not (repeated (entries_to m R C F))) bad_matrix_file (ask (eqb (length (entries_to m R C F)) h.entries) bad_matrix_file (accepted (entries_to m R C F)))
      ended_is = read_is ∙ ap (λ (v : Result ℕ LinesError). verdict_for (stated_by h) (pass_told v R C F)) e

      within_is : Within h.symmetric h.rows (entries_to m R C F)
      within_is = subst (λ (v : Result ℕ LinesError). PassWithin h.symmetric h.rows (pass_told v R C F)) e pass_placed

      -- entries are missing
      pub gather_missing : (m ≡ h.entries → ⊥) → GatherIs t h R C F (Err LinesError.Malformed)
      gather_missing n = record {
        malformed = λ g.
            ended_is
            ∙ ap (λ (v : Bool). ask (not (repeated (entries_to m R C F))) bad_matrix_file (ask v bad_matrix_file (accepted (entries_to m R C F))))
            (ne_eqb (length (entries_to m R C F)) h.entries (λ (i : length (entries_to m R C F) ≡ h.entries). n (sym counted ∙ i)))
            ∙ ask_either (not (repeated (entries_to m R C F)));
        bad = λ k g. absurd (let w : ◌≡◌ {A = ℕ} 0 1 = cc in omega arith);
        all = λ k g. absurd (let w : ◌≡◌ {A = ℕ} 0 1 = cc in omega arith);
      }

      module _ (n : m ≡ h.entries) where
        -- all are there
        all_is : (rest : List Entry → Outcome Matrix)
            → ◌>>=◌ (entries_of_text t h) (λ es. rest (expanded h.symmetric es)) ≡ ask (not (repeated (entries_to m R C F))) bad_matrix_file (rest (expanded h.symmetric (entries_to m R C F)))
        all_is rest =
            ap (λ (v : Outcome (List Entry)). ◌>>=◌ v (λ es. rest (expanded h.symmetric es)))
            (ended_is
            ∙ ap (λ (v : Bool). ask (not (repeated (entries_to m R C F))) bad_matrix_file (ask v bad_matrix_file (accepted (entries_to m R C F))))
            (eq-eqb (length (entries_to m R C F)) h.entries (counted ∙ n)))
            ∙ ask_then (not (repeated (entries_to m R C F))) (entries_to m R C F) (λ es. rest (expanded h.symmetric es))

        told_all : {R' C' : List ℕ} {F' : List Float} {k : ℕ} → AllGathered t h R' C' F' k → GatherIs t h R' C' F' (Ok k)
        told_all {R'} {C'} {F'} {k} found = record {
          malformed = λ g. absurd (let w : ◌≡◌ {A = ℕ} 0 1 = cc in omega arith);
          bad = λ j g. absurd (let w : ◌≡◌ {A = ℕ} 0 1 = cc in omega arith);
          all = λ j g. let i : k ≡ j = cc in subst (AllGathered t h R' C' F') i found;
        }

        pub gather_general : h.symmetric ≡ false → GatherIs t h R C F (Ok m)
        gather_general s =
            let l = lines_ok in
            told_all (record {
              placed = placed_from_lem (most_of h.symmetric h.entries) m R C F (most_least m count_few) (omega (arith, l.rows, count_few)) (omega (arith, l.columns, count_few)) (omega (arith, l.values, count_few)) within_is;
              is = λ rest. all_is rest ∙ ap (λ (b : Bool). ask (not (repeated (entries_to m R C F))) bad_matrix_file (rest (expanded b (entries_to m R C F)))) s;
            })

        module _ (s : h.symmetric ≡ true) where
          most_twice : most_of h.symmetric h.entries ≡ 2 * h.entries
          most_twice = ap (λ (b : Bool). most_of b h.entries) s

          pub mirrors_room : MirrorsRoom m R C F
          mirrors_room = record {
            few = omega (arith, count_few, o.limits.many);
            rows = omega (arith, most_twice, o.rows, count_few);
            columns = omega (arith, most_twice, o.columns, count_few);
            values = omega (arith, most_twice, o.values, count_few);
          }

          pub gather_mirrors : {R' C' : List ℕ} {F' : List Float} {k : ℕ} → MirrorsPut m R C F R' C' F' k → length R' ≡ length R₀ → length C' ≡ length C₀ → length F' ≡ length F₀
              → GatherIs t h R' C' F' (Ok k)
          gather_mirrors {R'} {C'} {F'} {k} q a b c =
              let few : k ≤ most_of h.symmetric h.entries = omega (arith, most_twice, q.high, count_few) in
              let w : Within false h.rows (entries_to k R' C' F') = subst (Within false h.rows) (sym q.is) (within_expanded within_is) in
              let same : repeated (entries_to k R' C' F') ≡ repeated (entries_to m R C F) =
              ap repeated q.is ∙ mirrors_repeat (within_lower (subst (λ (v : Bool). Within v h.rows (entries_to m R C F)) s within_is)) in
              told_all (record {
                placed = placed_from_lem (most_of h.symmetric h.entries) k R' C' F' few (omega (arith, o.rows)) (omega (arith, o.columns)) (omega (arith, o.values)) w;
                is = λ rest.
                    all_is rest
                    ∙ ap (λ (v : Bool). ask (not (repeated (entries_to m R C F))) bad_matrix_file (rest (expanded v (entries_to m R C F)))) s
                    ∙ ap (λ (v : Bool). ask (not v) bad_matrix_file (rest (entries_to m R C F ++ mirrors_of (entries_to m R C F)))) (sym same)
                    ∙ ap (λ (v : List Entry). ask (not (repeated (entries_to k R' C' F'))) bad_matrix_file (rest v)) (sym q.is);
              })
