-- A level that is laid: what its steps require and what they leave together.
-- Assumes nothing.
use Rattle.std.specs.Prelude.{Result, Ok, Err}
use mathlib.Core.Path.{◌≡◌, refl, sym, ap, ◌∙◌}
use mathlib.Core.Bool.{Bool}
use mathlib.Core.List.{List}
use Prim.Native.Nat.{ℕ, ◌+◌, ◌*◌, ◌≤◌, ◌<◌}
use native.Mathlib.Omega.{arith}
use lib.ListN.{length}
use lib.Ieee.{Float}
use Rattle.store.specs.Region.{idx, part, Kept}
use Rattle.store.proofs.store.Region.{length_part, get_d_part, kept_on, kept_less, kept_self, kept_part, kept_get}
use Rattle.options.specs.declared.options.MultigridOptions.{MultigridOptions}
use Rattle.refusal.specs.declared.Refusal.{Refusal}
use Rattle.refusal.specs.Outcome.{Outcome, accepted, refused, verdict_of}
use Rattle.refusal.proofs.Outcome.{passes, refuses}
use Rattle.coefficients.specs.Update.{Coefficients}
use Rattle.coefficients.specs.Contract.{UpdateOk, Holds}
use Rattle.coefficients.proofs.values.UpdateLaws.{within_kept, within_above}
use Rattle.pattern.specs.Pattern.{Pattern, Valid}
use Rattle.faces.specs.Faces.{faces_of, face_offsets_of, neighbors_of, uppers_of, lowers_of, diagonals_of, diagonals_asked}
use Rattle.faces.proofs.faces.Laws.{diagonal_is, diagonal_entry, upper_entry, starts_last}
use Rattle.hierarchy.specs.Proper.{Proper}
use Rattle.hierarchy.specs.Build.{Mesh}
use Rattle.layout.specs.declared.Place.{Place}
use Rattle.layout.specs.Parts.{kernel_in, entries_in}
use Rattle.layout.specs.Placed.{Placed, Shapes}
use Rattle.layout.proofs.Places.{placed, placed_is}
use Rattle.coarsening.specs.declared.coarsen.Workspace.{Workspace}
use Rattle.coarsening.specs.CoarsenContract.{pattern_at}
use Rattle.build_level.specs.declared.laying.Frontier.{Frontier}
use Rattle.build_level.specs.LayingContract.{frontier_at, level_in, RoomOk, FrontierOk, laid_of, laying_of, StandsFor, Laid}
use Rattle.build_level.specs.Inner.{new_pattern, place_in, WordsOk, WordsLaid, FacesLaid, ValuesOk, update_from, ValuesLaid}

-- ---- a level at its place

-- The last face offset at p is the number of faces.
pub faces_at_lem : {z : List ℕ} {a : ℕ} {p : Place} {q : Pattern} → Shapes z a p q → Valid q → idx z (p.starts + p.rows) ≡ p.faces
faces_at_lem {z} {a} {p} {q} s v =
    sym (get_d_part p.starts (p.rows + 1) z p.rows 0 (omega arith)) ∙ ap (λ (l : List ℕ). idx l p.rows) s.starts
    ∙ ap (idx (face_offsets_of q)) s.rows ∙ starts_last v ∙ sym s.count

-- The coefficients of a level that stands at p may be taken from its values.
pub update_ready : {z : List ℕ} {a b size : ℕ} {p : Place} {q : Pattern} → Placed a b p → Shapes z a p q → Proper q
    → p.lowers + p.faces ≤ length z → p.inverse + p.rows ≤ size → UpdateOk z size (kernel_in p) (entries_in p)
update_ready {z} {a} {b} {size} {p} {q} h s proper inside room =
    let faces = faces_at_lem s proper.valid in
    let own : (k : ℕ) → k < p.rows → idx z (p.diagonals + k) < p.entries = λ k l.
    let at = sym (get_d_part p.diagonals p.rows z k 0 l) ∙ ap (λ (v : List ℕ). idx v k) s.diagonals in
    let near = (diagonal_entry proper.valid proper.rising proper.diagonal k (omega (arith, s.rows))).0 in
    omega (arith, at, near, s.most) in
    let side : (k : ℕ) → k < p.faces → idx z (p.uppers + k) < p.entries = λ k l.
    let at = sym (get_d_part p.uppers p.faces z k 0 l) ∙ ap (λ (v : List ℕ). idx v k) s.uppers in
    let near = upper_entry q k (omega (arith, s.count)) in
    omega (arith, at, near, s.most) in
    record {
      starts = omega arith;
      owns = omega arith;
      sides = rw faces (omega arith);
      own = own;
      side = rw faces side;
      image = omega arith;
      coefs = rw faces (omega arith);
      diags = omega arith;
      recips = room;
    }

-- ---- the room

module _ {words size : ℕ} {o : MultigridOptions} {t : Workspace} {s : Frontier} (room : RoomOk words size o t s) where
  -- A level's words end at or below the temporaries,
  pub words_below : s.a + (5 * s.rows + 4 * s.entries + 8) ≤ t.offsets
  words_below = omega (arith, room.ends, room.below, room.heldwords)

  -- and so do its floats.
  pub floats_below : s.b + (3 * s.rows + 2 * s.entries) ≤ t.values
  floats_below = omega (arith, room.tops, room.under, room.heldfloats)

-- What the words require.
pub words_ok : {w : List ℕ} {size : ℕ} {o : MultigridOptions} {t : Workspace} {s : Frontier} → FrontierOk w size o t s
    → size ≤ 18446744073709551615 → WordsOk w t s
words_ok {w} {size} {o} {t} {s} ok high =
    let room = ok.room in
    let work = room.work in
    let below = words_below room in
    let under = floats_below room in
    record {
      few = omega arith;
      less = omega arith;
      below = below;
      offsets = omega arith;
      columns = omega arith;
      under = omega arith;
      valid = ok.valid;
      rising = ok.rising;
      mirrored = ok.mirrored;
    }

-- The positions of the place do not wrap.
pub place_room : {w y : List ℕ} {size : ℕ} {o : MultigridOptions} {t : Workspace} {s : Frontier} {n : ℕ} → FrontierOk w size o t s
    → length w ≤ 18446744073709551615 → size ≤ 18446744073709551615 → WordsLaid w y t s n
    → (s.a + 4 * s.rows + s.entries + 3 * n + 5 ≤ 18446744073709551615) × (s.b + 3 * s.rows + s.entries + n ≤ 18446744073709551615)
place_room {w} {y} {size} {o} {t} {s} {n} ok long high l =
    let words = words_ok ok high in
    (omega arith, omega arith)

-- ---- the level once its faces are laid

module _ {w y z : List ℕ} {t : Workspace} {s : Frontier} {n level : ℕ} {v : Result Unit Refusal} (ok : WordsOk w t s) (l : WordsLaid w y t s n)
    (d : FacesLaid y z (place_in s n) level v) where
  -- the pattern out of the temporaries
  abbrev q : Pattern
  q = new_pattern w t s

  verdict : v ≡ verdict_of (diagonals_asked level q)
  verdict = d.verdict ∙ ap (λ (r : Pattern). verdict_of (diagonals_asked level r)) l.laid.pattern

  kept : Kept s.a w z
  kept = kept_on l.laid.kept (kept_less d.kept (omega arith))

  module _ (told : v ≡ Ok tt) where
    shapes : Shapes z s.a (place_in s n) q
    shapes =
        let p = place_in s n in
        let at = l.laid.pattern in
        record {
          rows = refl;
          most = sym (length_part t.columns s.entries w ok.columns);
          count = l.found;
          head = kept_get d.kept s.a 0 (omega arith) ∙ l.laid.head;
          offsets = kept_part d.kept p.offsets (p.rows + 1) (omega arith) ∙ ap (λ (r : Pattern). r.offsets) at;
          columns = kept_part d.kept p.columns p.entries (omega arith) ∙ ap (λ (r : Pattern). r.columns) at;
          starts = kept_part d.kept p.starts (p.rows + 1) (omega arith) ∙ l.starts;
          diagonals = d.diagonals told ∙ ap diagonals_of at;
          neighbors = d.neighbors ∙ ap neighbors_of at;
          uppers = d.uppers ∙ ap uppers_of at;
          lowers = d.lowers ∙ ap lowers_of at;
        }

    proper : Proper q
    proper = record {
      valid = ok.valid;
      rising = ok.rising;
      mirrored = ok.mirrored;
      diagonal = diagonal_is level ok.valid (sym verdict ∙ told);
    }

-- ---- what the steps require, as the code has their places

module _ {w y z : List ℕ} {size : ℕ} {o : MultigridOptions} {t : Workspace} {s : Frontier} {n : ℕ} {p : Place} {v : Result Unit Refusal}
    (ok : FrontierOk w size o t s) (high : size ≤ 18446744073709551615) (l : WordsLaid w y t s n) (at : p ≡ place_in s n)
    (d : FacesLaid y z p s.level v) where
  faced : FacesLaid y z (place_in s n) s.level v
  faced = rw at at d

  -- The values may be laid.
  pub values_ok_lem : v ≡ Ok tt → ValuesOk z size p t.values
  values_ok_lem told =
      let room = ok.room in
      let work = room.work in
      let below = words_below room in
      let under = floats_below room in
      let half = l.half in
      let words = words_ok ok high in
      let length-is = (kept words l faced).size in
      rw at (record {
        copy = record { source = omega arith; target = omega arith; clear = omega arith };
        update = update_ready placed (shapes words l faced told) (proper words l faced told) (omega arith) (omega arith);
      })

  -- Question 11 refuses.
  pub laid_incomplete : {F : List Float} {given : Bool} {refusal : Refusal} → v ≡ Err refusal
      → Laid w z F F given t s (Err refusal)
  laid_incomplete {F} {given} {refusal} told =
      let words = words_ok ok high in
      let asked = refuses (diagonals_asked s.level (new_pattern w t s)) (verdict words l faced) told in
      let outcome : laid_of s.level (frontier_at w F given t s) ≡ refused refusal = rw asked in
      record {
        answer = rw outcome;
        stands = λ c p' e. let z : ◌≡◌ {A = ℕ} 0 1 = cc in absurd (omega arith);
        words = kept words l faced;
        floats = kept_self;
      }

  module _ {F G : List Float} {r : Result Unit Refusal} (given : Bool) (told : v ≡ Ok tt) (e : ValuesLaid z F G p t.values s.level r) where
    valued : ValuesLaid z F G (place_in s n) t.values s.level r
    valued = rw at at e

    -- the matrix out of the temporaries
    abbrev m : Mesh
    m = frontier_at w F given t s

    -- the update that was asked is that of the definition
    updated : update_from s.level z F (place_in s n) t.values ≡ laid_of s.level m
    updated =
        let words = words_ok ok high in
        let sh = shapes words l faced told in
        let asked = passes (diagonals_asked s.level (new_pattern w t s)) (verdict words l faced) told in
        rw (asked, faces_at_lem sh ok.valid, sh.diagonals, sh.uppers)

    -- Question 12 or 13 refuses.
    pub laid_refused : {refusal : Refusal} → r ≡ Err refusal → Laid w z F G given t s (Err refusal)
    laid_refused {refusal} bad =
        let words = words_ok ok high in
        let outcome = refuses (laid_of s.level m) (valued.verdict ∙ ap verdict_of updated) bad in
        record {
          answer = rw outcome;
          stands = λ c p' e. let z : ◌≡◌ {A = ℕ} 0 1 = cc in absurd (omega arith);
          words = kept words l faced;
          floats = within_kept valued.within;
        }

    stands_for : (c : Coefficients) → laid_of s.level m ≡ accepted c → StandsFor z G given t s.a s.b (place_in s n) m c
    stands_for c good =
        let words = words_ok ok high in
        let sh = shapes words l faced told in
        let room = ok.room in
        let work = room.work in
        let under = floats_below room in
        let half = l.half in
        let faces = faces_at_lem sh ok.valid in
        let pattern : pattern_at z (level_in t (place_in s n)) ≡ new_pattern w t s = rw (sh.offsets, sh.columns) in
        let weights : part t.weights s.entries G ≡ part t.weights s.entries F =
        within_above valued.within t.weights s.entries (omega arith) in
        let holds : Holds z (kernel_in (place_in s n)) c G = valued.holds c (updated ∙ good) in
        let h1 = holds.diagonal in
        let h2 = holds.inverse in
        let h3 = rw faces at holds.coefficients in
        record {
          stands = record { placed = placed; shapes = rw pattern sh; proper = rw pattern (proper words l faced told) };
          mesh = rw (pattern, valued.values, weights);
          coefficients = rw (h1, h2, h3);
        }

    done : (k : Outcome Coefficients) → verdict_of k ≡ Ok tt → laying_of m k ≡ Ok (faces_of m.pattern)
    done (accepted c) h = refl
    done (refused x) h = let none : ◌≡◌ {A = ℕ} 0 1 = cc in absurd (omega arith)

    -- All three pass.
    pub laid_done : r ≡ Ok tt → Laid w z F G given t s (Ok n)
    laid_done good =
        let words = words_ok ok high in
        record {
          answer = ap Ok l.found ∙ sym (done (laid_of s.level m) (sym (ap verdict_of updated) ∙ sym valued.verdict ∙ good));
          stands = λ c p' e' h rows most count.
              let is : p' ≡ place_in s n = placed_is h ∙ rw (rows, most, count, l.found) in
              rw is (stands_for c e');
          words = kept words l faced;
          floats = within_kept valued.within;
        }
