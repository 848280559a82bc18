-- The words of the last level: its header and its coupled rows.
-- Assumes nothing.
use mathlib.Core.Path.{◌≡◌, refl, sym, ap, ◌∙◌, subst}
use mathlib.Core.List.{List, [], ◌∷◌}
use Prim.Native.Nat.{ℕ, ◌+◌, ◌≤◌}
use native.Mathlib.Omega.{arith}
use lib.ListN.{length, set}
use Rattle.store.specs.Region.{idx, part, splice, Kept}
use Rattle.store.proofs.store.Region.{splice_nil, set_splice_end, get_d_part, wrote, wrote_at, wrote_off, kept_wrote, kept_on, kept_less, kept_get}
use Rattle.pattern.specs.Pattern.{Pattern, Valid, Rising, Diagonal}
use Rattle.faces.specs.declared.faces.Faces.{Faces}
use Rattle.faces.specs.Faces.{coupled_count_of, coupled_rows_of}
use Rattle.faces.specs.Contract.{pattern_at, CoupledOk, CoupledCount, CoupledRowsOk, CoupledRows}
use Rattle.layout.specs.declared.Place.{Place}
use Rattle.layout.specs.Parts.{faces_in}
use Rattle.build_level.specs.Steps.{Marked, ListOk, Listed}

-- What the count of coupled rows requires.
pub count_ready : {w : List ℕ} {x y : Faces} → CoupledOk w y → x ≡ y → CoupledOk w x
count_ready {w} ok is = subst (λ (s : Faces). CoupledOk w s) (sym is) ok

-- What it tells.
pub count_is : {w : List ℕ} {x y : Faces} {coupled : ℕ} → CoupledCount w x coupled → x ≡ y → coupled ≡ coupled_count_of (pattern_at w y)
count_is {w} done is = done.count ∙ ap (λ (s : Faces). coupled_count_of (pattern_at w s)) is

-- Two words, one after the other.
pub mark_done : (w : List ℕ) (a coupled : ℕ) → Marked w (set (set w (a + 1) 1) (a + 2) coupled) a coupled
mark_done w a coupled =
    let z : a + 1 ≡ a + 1 + 0 = omega arith in
    let n : a + 2 ≡ a + 1 + 1 = omega arith in
    let one : set w (a + 1) 1 ≡ splice (a + 1) (1 ∷ []) w =
    ap (λ (v : List ℕ). set v (a + 1) 1) (sym (splice_nil (a + 1) w))
    ∙ ap (λ (i : ℕ). set (splice (a + 1) [] w) i 1) z ∙ set_splice_end (a + 1) [] w 1 in
    let two : set (set w (a + 1) 1) (a + 2) coupled ≡ splice (a + 1) (1 ∷ coupled ∷ []) w =
    ap (λ (v : List ℕ). set v (a + 2) coupled) one
    ∙ ap (λ (i : ℕ). set (splice (a + 1) (1 ∷ []) w) i coupled) n ∙ set_splice_end (a + 1) (1 ∷ []) w coupled in
    record { wrote = wrote two refl }

module _ {w y : List ℕ} {a coupled : ℕ} {p : Place} (ok : ListOk w a p coupled) (marked : Marked w y a coupled) where
  -- The header leaves the pattern.
  pattern_marked : pattern_at y (faces_in p) ≡ pattern_at w (faces_in p)
  pattern_marked =
      let h1 : part p.offsets (p.rows + 1) y ≡ part p.offsets (p.rows + 1) w =
      wrote_off marked.wrote p.offsets (p.rows + 1) (omega (arith, ok.offsets)) in
      let h2 : part p.columns p.entries y ≡ part p.columns p.entries w =
      wrote_off marked.wrote p.columns p.entries (omega (arith, ok.columns)) in
      rw (h1, h2) refl

  rows_ready : CoupledRowsOk y (faces_in p) p.links
  rows_ready =
      let size = marked.wrote.size in
      let same = sym pattern_marked in
      let o = ok.level.ordered in
      record {
        coupled = record {
          ordered = record {
            standing = record {
              few = o.standing.few;
              less = o.standing.less;
              offsets = o.standing.offsets;
              columns = o.standing.columns;
              inside = omega (arith, o.standing.inside);
              valid = subst (λ (q : Pattern). Valid q) same o.standing.valid;
            };
            rising = subst (λ (q : Pattern). Rising q) same o.rising;
          };
          diagonal = subst (λ (q : Pattern). Diagonal q) same ok.level.diagonal;
        };
        below = ok.below;
        room = let e = ok.count ∙ ap coupled_count_of same in omega (arith, ok.room);
      }

  rows_done : {z : List ℕ} → CoupledRows y z (faces_in p) p.links → Listed w z a p coupled
  rows_done {z} done =
      let h = done.wrote in
      let m = marked.wrote in
      let above : a + 3 ≤ p.links = omega (arith, ok.offsets, ok.below, ok.level.ordered.standing.offsets) in
      let fits : p.links + coupled ≤ length w = ok.room in
      let counted : coupled ≡ coupled_count_of (pattern_at y (faces_in p)) = ok.count ∙ ap coupled_count_of (sym pattern_marked) in
      let head : part (a + 1) 2 y ≡ 1 ∷ coupled ∷ [] = wrote_at m (omega arith) in
      let k : Kept p.links y z = kept_wrote h (omega arith) in
      let n : a + 1 + 0 ≡ a + 1 = omega arith in
      let n' : a + 1 + 1 ≡ a + 2 = omega arith in
      record {
        last = kept_get k (a + 1) 0 (omega arith) ∙ ap (idx y) (sym n) ∙ sym (get_d_part (a + 1) 2 y 0 0 (omega arith)) ∙ ap (λ (v : List ℕ). idx v 0) head;
        count = kept_get k (a + 2) 0 (omega arith) ∙ ap (idx y) (sym n') ∙ sym (get_d_part (a + 1) 2 y 1 0 (omega arith)) ∙ ap (λ (v : List ℕ). idx v 1) head;
        rows = ap (λ (c : ℕ). part p.links c z) counted ∙ wrote_at h (omega (arith, m.size)) ∙ ap coupled_rows_of pattern_marked;
        between = λ b l u v. wrote_off h b l (omega arith) ∙ wrote_off m b l (omega arith);
        kept = kept_on (kept_wrote m (omega arith)) (kept_less k (omega arith));
      }

  -- What the coupled rows require.
  pub list_ready : {level : Faces} → level ≡ faces_in p → CoupledRowsOk y level p.links
  list_ready is = subst (λ (x : Faces). CoupledRowsOk y x p.links) (sym is) rows_ready

  -- The header and the coupled rows are there.
  pub list_done : {z : List ℕ} {level : Faces} → level ≡ faces_in p → CoupledRows y z level p.links → Listed w z a p coupled
  list_done {z} is done = rows_done (subst (λ (x : Faces). CoupledRows y z x p.links) is done)
