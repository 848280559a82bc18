-- Loops over the entries: what `fill_faces` and `mirrors` have in common, and each by itself.
-- Assumes nothing.
use mathlib.Core.Path.{◌≡◌, refl, sym, ap, ◌∙◌}
use mathlib.Core.Bool.{Bool, true, false, cond}
use mathlib.Core.List.{List}
use Rattle.std.specs.Prelude.{Some, None}
use mathlib.Core.Logic.{⊎_elim}
use Prim.Native.Nat.{ℕ, ◌+◌, ◌≤◌, ◌<◌}
use native.Mathlib.Omega.{arith}
use lib.Dec.{ltb}
use lib.ListN.{length, set}
use Rattle.store.specs.Region.{idx, part, splice, Wrote, Kept}
use Rattle.store.proofs.store.Each.{Passed, passed_start, passed_on, passed_no, passed_yes}
use Rattle.store.proofs.store.Region.{set_splice_below, wrote_at, wrote_off, kept_self, kept_on, kept_wrote}
use Rattle.pattern.specs.Pattern.{how_many, Pattern, entries, column_of, row_of}
use Rattle.pattern.proofs.pattern.Number.{bool?, many_lt, many_mono}
use Rattle.faces.specs.declared.faces.Faces.{Faces}
use Rattle.faces.specs.Faces.{above, faces_of, uppers_of, neighbors_of, has_entry, mirror_of, mirrored_of, lowers_of}
use Rattle.faces.specs.Contract.{pattern_at, Standing, FillOk, Filled, MirrorsOk, MirrorsDone}
use Rattle.faces.specs.Steps.{SeekOk, Sought, Entry, MirrorOk, PushOk, Pushed}
use Rattle.faces.proofs.faces.Pick.{picked, length_picked, picked_self, many_few, Picking, picking_start, picking_on, picking_wrote, picking_all, wrote_only}
use Rattle.faces.proofs.faces.Counting.{above_is}
use Rattle.faces.proofs.faces.Entries.{row_mono}
use Rattle.faces.proofs.faces.Finding.{entry_back, entry_there_lem, entry_missing}
use Rattle.faces.proofs.faces.Standing.{size_at_lem, column_at, column_near, pattern_kept, standing_on, ordered_on}

-- The walk has come to entry e, whose row is not before `row`; nothing below `starts` has changed.
pub record Walking (F G : List ℕ) (s : Faces) (row e : ℕ) : Type 0 where
  pub standing : Standing F s
  pub kept : Kept s.starts F G
  pub reach : e ≤ s.entries
  pub behind : row ≤ row_of (pattern_at F s) e

-- Before the first entry.
walking_start : {F : List ℕ} {s : Faces} → Standing F s → Walking F F s 0 0
walking_start stands = record { standing = stands; kept = kept_self; reach = omega arith; behind = omega arith }

module _ {F G : List ℕ} {s : Faces} {row e : ℕ} (k : Walking F G s row e) (h : e < s.entries) where
  -- What `row_from` requires of the next entry.
  pub walking_seek : SeekOk G s row e
  walking_seek = record {
    standing = standing_on k.standing k.kept;
    near = h;
    behind = rw (pattern_kept k.standing k.kept) k.behind;
  }

  -- The column's place lies in the store, and the column is one of the rows.
  pub walking_column : (s.columns + e < length G) × (idx G (s.columns + e) < s.rows)
  walking_column =
      let stands = standing_on k.standing k.kept in
      (omega (arith, stands.columns, stands.inside), column_near stands e h)

  module _ {r column : ℕ} (sought : Sought G s e r) (is : column ≡ idx G (s.columns + e)) where
    -- The row that was found.
    row_of_lem : r ≡ row_of (pattern_at F s) e
    row_of_lem = sought.row ∙ ap (λ (p : Pattern). row_of p e) (pattern_kept k.standing k.kept)

    -- The column that was read.
    column_of_lem : column ≡ column_of (pattern_at F s) e
    column_of_lem = is ∙ column_at (standing_on k.standing k.kept) e h ∙ ap (λ (p : Pattern). column_of p e)
        (pattern_kept k.standing k.kept)

    -- Whether the entry stands above the diagonal.
    test_of : ltb r column ≡ above (pattern_at F s) e
    test_of = sym (above_is (pattern_at F s) e r column (sym row_of_lem) (sym column_of_lem))

    -- An entry more.
    walking_on : {H : List ℕ} → Kept s.starts F H → Walking F H s r (e + 1)
    walking_on kept = record {
      standing = k.standing;
      kept = kept;
      reach = omega arith;
      behind = rw row_of_lem (row_mono (pattern_at F s) e (e + 1) (omega arith));
    }

-- A face before the last entry is not the last.
face_room : {F : List ℕ} {s : Faces} {e face : ℕ} → Standing F s → s.faces ≡ faces_of (pattern_at F s)
    → face ≡ how_many (above (pattern_at F s)) e → e < s.entries → above (pattern_at F s) e ≡ true → face < s.faces
unfolding faces_of
face_room {F} {s} {e} {face} stands all count h t =
    let size = size_at_lem stands in
    let m = many_lt (above (pattern_at F s)) e (entries (pattern_at F s)) (omega arith) t in
    omega arith

-- ---- mirrors

-- whether entry e has its mirror
abbrev has_mirror : Pattern → ℕ → Bool
has_mirror p e = has_entry p (column_of p e) (row_of p e)

-- The invariant: the entries before e have their mirrors, and those of the faces among them have been pushed.
pub record Mirroring (F G : List ℕ) (s : Faces) (row face e : ℕ) : Type 0 where
  pub ok : MirrorsOk F s
  pub walking : Walking F G s row e
  pub passed : Passed (has_mirror (pattern_at F s)) s.entries e
  pub picking : Picking (mirror_of (pattern_at F s)) (above (pattern_at F s)) s.lowers e face F G

-- Before the first entry.
pub mirroring_start : {F : List ℕ} {s : Faces} → MirrorsOk F s → Mirroring F F s 0 0 0
mirroring_start {F} {s} ok = record {
  ok = ok;
  walking = walking_start ok.ordered.standing;
  passed = passed_start (has_mirror (pattern_at F s)) s.entries;
  picking = picking_start;
}

module _ {F G : List ℕ} {s : Faces} {row face e : ℕ} (m : Mirroring F G s row face e) where
  -- No more than the faces have been pushed.
  face_few : face ≤ s.faces
  unfolding faces_of
  face_few =
      let stands = m.ok.ordered.standing in
      let size = size_at_lem stands in
      let reach = m.walking.reach in
      let l = many_mono (above (pattern_at F s)) e (entries (pattern_at F s)) (omega arith) in
      let count = m.picking.count in
      let all = m.ok.count in
      omega arith

  -- Only the mirrors' region has changed.
  mirrors_only : Wrote s.lowers s.faces (part s.lowers s.faces G) F G
  mirrors_only =
      let p = pattern_at F s in
      let long : length (picked (mirror_of p) (above p) e) ≡ how_many (above p) e = length_picked (mirror_of p) (above p) e in
      let count = m.picking.count in
      let few = face_few in
      wrote_only s.lowers s.faces (picked (mirror_of p) (above p) e) F G m.picking.is (omega arith) m.ok.room

  module _ (h : e < s.entries) {r column : ℕ} (sought : Sought G s e r) (is : column ≡ idx G (s.columns + e)) where
    -- What `mirror_at` requires of the next entry.
    pub mirroring_entry : MirrorOk G s r column e
    mirroring_entry =
        let o = ordered_on m.ok.ordered m.walking.kept in
        record { ordered = o; near = h; is = sought.row; stands = is ∙ column_at o.standing e h }

    module _ {mirror : ℕ} (at : Entry G s column r (Some mirror)) where
      -- The answer of `mirror_at`, of the pattern at the start.
      at_first : Entry F s (column_of (pattern_at F s) e) (row_of (pattern_at F s) e) (Some mirror)
      at_first = rw (row_of_lem m.walking h sought is, column_of_lem m.walking h sought is) at
          (entry_back m.ok.ordered.standing m.walking.kept at)

      -- A face has room for its mirror.
      pub mirroring_room : PushOk (length G) s.lowers face mirror (ltb r column)
      mirroring_room =
          let l = (entry_there_lem m.ok.ordered at_first).2 in
          let stands = m.ok.ordered.standing in
          let less = stands.less in
          let few = many_few (above (pattern_at F s)) e in
          let count = m.picking.count in
          let size = m.walking.kept.size in
          let room = m.ok.room in
          record {
            small = omega arith;
            less = omega arith;
            room = λ t. let f = face_room stands m.ok.count count h (sym (test_of m.walking h sought is) ∙ t) in omega arith;
          }

      -- An entry with its mirror.
      pub mirroring_on : {H : List ℕ} {more : ℕ} → Pushed G H s.lowers face mirror (ltb r column) more
          → Mirroring F H s r more (e + 1)
      mirroring_on {H} {more} u =
          let there = entry_there_lem m.ok.ordered at_first in
          let picking = picking_on m.picking u there.1 (test_of m.walking h sought is) in
          record {
            ok = m.ok;
            walking = walking_on m.walking h sought is (kept_wrote (picking_wrote picking) m.ok.lowers);
            passed = passed_on m.passed h refl there.0;
            picking = picking;
          }

    -- An entry without its mirror.
    pub mirroring_no : Entry G s column r None → MirrorsDone F G s false
    unfolding mirrored_of
    mirroring_no at =
        let first : Entry F s (column_of (pattern_at F s) e) (row_of (pattern_at F s) e) None =
        rw (row_of_lem m.walking h sought is, column_of_lem m.walking h sought is) at
        (entry_back m.ok.ordered.standing m.walking.kept at) in
        record {
          answer = rw (size_at_lem m.ok.ordered.standing)
              (passed_no (has_mirror (pattern_at F s)) s.entries e false h (sym (entry_missing first)) refl);
          lowers = λ t. let z : ◌≡◌ {A = ℕ} 0 1 = cc in absurd (omega arith);
          only = mirrors_only;
        }

  -- After the last entry each has its mirror.
  pub mirroring_done : s.entries ≤ e → MirrorsDone F G s true
  unfolding mirrored_of lowers_of faces_of uppers_of picked
  mirroring_done h =
      let reach = m.walking.reach in
      let size = size_at_lem m.ok.ordered.standing in
      let same : e ≡ entries (pattern_at F s) = omega arith in
      record {
        answer = rw (size_at_lem m.ok.ordered.standing) (passed_yes m.passed h);
        lowers = λ t. wrote_at (picking_all m.picking same m.ok.count) m.ok.room;
        only = mirrors_only;
      }

-- ---- fill_faces

-- The invariant: the faces among the entries before e have been pushed, their columns to the store that `middle` is.
pub record Filling (F G : List ℕ) (s : Faces) (row face e : ℕ) : Type 0 where
  pub ok : FillOk F s
  pub walking : Walking F G s row e
  pub middle : List ℕ
  pub columns : Picking (λ d. column_of (pattern_at F s) d) (above (pattern_at F s)) s.neighbors e face F middle
  pub uppers : Picking (λ d. d) (above (pattern_at F s)) s.uppers e face middle G

-- Before the first entry.
pub filling_start : {F : List ℕ} {s : Faces} → FillOk F s → Filling F F s 0 0 0
filling_start {F} ok = record {
  ok = ok;
  walking = walking_start ok.standing;
  middle = F;
  columns = picking_start;
  uppers =
      picking_start;
}

-- A store below a list that is written is one in the store under it.
push_below : (b : ℕ) (v M : List ℕ) (i x : ℕ) (wanted : Bool) → i < b
    → cond wanted (set (splice b v M) i x) (splice b v M) ≡ splice b v (cond wanted (set M i x) M)
push_below b v M i x true h = set_splice_below b v M i x h
push_below b v M i x false h = refl

module _ {F G : List ℕ} {s : Faces} {row face e : ℕ} (f : Filling F G s row face e) (h : e < s.entries)
    {r column : ℕ} (sought : Sought G s e r) (is : column ≡ idx G (s.columns + e)) where
  -- A face has room.
  filling_near : ltb r column ≡ true → face < s.faces
  filling_near t = face_room f.ok.standing f.ok.count f.columns.count h (sym (test_of f.walking h sought is) ∙ t)

  -- There are few faces, and few rows.
  filling_few : (face ≤ 1048576) × (column ≤ 1048576)
  filling_few =
      let stands = f.ok.standing in
      let few = many_few (above (pattern_at F s)) e in
      let count = f.columns.count in
      let near = (walking_column f.walking h).1 in
      let less = stands.less in
      let rows = stands.few in
      (omega arith, omega arith)

  -- Its column has room.
  pub filling_room : PushOk (length G) s.neighbors face column (ltb r column)
  filling_room =
      let few = filling_few in
      let size = f.walking.kept.size in
      let uppers = f.ok.uppers in
      let room = f.ok.room in
      record { small = few.1; less = few.0; room = λ t. let l = filling_near t in omega arith }

  module _ {H : List ℕ} {other : ℕ} (u : Pushed G H s.neighbors face column (ltb r column) other) where
    -- the store under the entries, with the column pushed
    abbrev under : List ℕ
    under = cond (ltb r column) (set f.middle (s.neighbors + face) column) f.middle

    columns_on : Picking (λ d. column_of (pattern_at F s) d) (above (pattern_at F s)) s.neighbors (e + 1) other F under
    columns_on = picking_on {v = column} {wanted = ltb r column} f.columns (record { next = u.next; is = refl })
        (column_of_lem f.walking h sought is) (test_of f.walking h sought is)

    uppers_over : Picking (λ d. d) (above (pattern_at F s)) s.uppers e face under H
    uppers_over =
        let v = picked (λ d. d) (above (pattern_at F s)) e in
        record {
          is = u.is ∙ rw f.uppers.is (⊎_elim
              (λ (t : ltb r column ≡ true). let l = filling_near t in push_below s.uppers v f.middle (s.neighbors + face) column
              (ltb r column) (omega (arith, f.ok.uppers)))
              (λ (t : ltb r column ≡ false). rw t refl)
              (bool? (ltb r column)));
          count = f.uppers.count;
        }

    -- Its entry has room.
    pub filling_room_2 : PushOk (length H) s.uppers face e (ltb r column)
    filling_room_2 =
        let few = filling_few in
        let size : length H ≡ length F = (picking_wrote uppers_over).size ∙ (picking_wrote columns_on).size in
        let room = f.ok.room in
        let less = f.ok.standing.less in
        record { small = omega arith; less = few.0; room = λ t. let l = filling_near t in omega arith }

    -- An entry more.
    pub filling_on : {I : List ℕ} {more : ℕ} → Pushed H I s.uppers face e (ltb r column) more → Filling F I s r more (e + 1)
    filling_on {I} {more} v =
        let up = picking_on uppers_over v refl (test_of f.walking h sought is) in
        let order : s.starts ≤ s.uppers = omega (arith, f.ok.uppers, f.ok.neighbors) in
        record {
          ok = f.ok;
          walking = walking_on f.walking h sought is
              (kept_on (kept_wrote (picking_wrote columns_on) f.ok.neighbors) (kept_wrote (picking_wrote up) order));
          middle = under;
          columns = record { is = columns_on.is; count = v.next ∙ sym u.next ∙ columns_on.count };
          uppers = up;
        }

-- What has been pushed, at the end.
filled_columns : {F G : List ℕ} {s : Faces} {row face e : ℕ} (f : Filling F G s row face e) → s.entries ≤ e
    → Wrote s.neighbors s.faces (neighbors_of (pattern_at F s)) F f.middle
unfolding neighbors_of uppers_of faces_of picked
filled_columns {F} {G} {s} {row} {face} {e} f h =
    let reach = f.walking.reach in
    let size = size_at_lem f.ok.standing in
    let same : e ≡ entries (pattern_at F s) = omega arith in
    picking_all f.columns same f.ok.count

filled_uppers : {F G : List ℕ} {s : Faces} {row face e : ℕ} (f : Filling F G s row face e) → s.entries ≤ e
    → Wrote s.uppers s.faces (uppers_of (pattern_at F s)) f.middle G
unfolding uppers_of faces_of
filled_uppers {F} {G} {s} {row} {face} {e} f h =
    let reach = f.walking.reach in
    let size = size_at_lem f.ok.standing in
    let same : e ≡ entries (pattern_at F s) = omega arith in
    rw picked_self at (picking_all f.uppers same f.ok.count)

-- After the last entry all faces are written.
pub filling_done : {F G : List ℕ} {s : Faces} {row face e : ℕ} → Filling F G s row face e → s.entries ≤ e → Filled F G s
filling_done {F} {G} {s} f h =
    let first = filled_columns f h in
    let last = filled_uppers f h in
    let room = f.ok.room in
    let between = f.ok.uppers in
    let long : length f.middle ≡ length F = first.size in
    record {
      neighbors = wrote_off last s.neighbors s.faces (omega arith) ∙ wrote_at first (omega arith);
      uppers = wrote_at last (omega arith);
      kept = kept_on (kept_wrote first (omega arith)) (kept_wrote last (omega arith));
      behind = λ a m l. wrote_off last a m (omega arith) ∙ wrote_off first a m (omega arith);
    }
