-- The first level of an accepted build in the stores: its kernel, and the row sums behind the levels.
-- Assumes nothing.
use mathlib.Core.Path.{◌≡◌, refl, sym, ap, ◌∙◌}
use mathlib.Core.Bool.{Bool, true, false, cond}
use mathlib.Core.List.{List, [], ◌∷◌}
use Prim.Native.Nat.{ℕ, zero, suc, ◌+◌, ◌≤◌, ◌<◌}
use native.Mathlib.Numerals.{add-one}
use native.Mathlib.Omega.{arith}
use lib.ListN.{length}
use lib.Ieee.{Float}
use borrow.Author.Tests.{leb-true}
use Rattle.store.specs.Region.{idx, part}
use Rattle.store.proofs.store.Region.{get_d_part, wrote_at, kept_wrote, kept_self, le_or_lt}
use Rattle.store.proofs.store.Each.{both_l}
use mathlib.Core.Logic.{⊎_elim}
use Rattle.float.specs.Float.{zero64}
use Rattle.store.specs.Vector.{filled}
use Rattle.options.specs.declared.options.MultigridOptions.{MultigridOptions}
use Rattle.refusal.specs.Outcome.{accepted}
use Rattle.matrix.specs.Kernel.{kernel_at, row_sums_of, KernelOk}
use Rattle.pattern.specs.Pattern.{Pattern, entries, Valid}
use Rattle.faces.specs.Faces.{faces_of, face_offsets_of, neighbors_of}
use Rattle.faces.proofs.faces.Laws.{faces_few, near, starts_rise, starts_last}
use Rattle.hierarchy.specs.Level.{Level, Hierarchy}
use Rattle.hierarchy.specs.Refresh.{needs_sums, with_sums}
use Rattle.hierarchy.specs.Steps.{sums_of}
use Rattle.hierarchy.specs.Build.{Charge, Mesh, last_shape, inner_shape, grow_of}
use Rattle.hierarchy.proofs.Accepted.{grow_keeps}
use Rattle.hierarchy.proofs.Depth.{head_is}
use Rattle.layout.specs.declared.Place.{Place}
use Rattle.layout.specs.Layout.{rows_at, entries_at, faces_at, last_at, coupled_at, locate, level_at, levels_at, words_end, floats_end, image_end, words_fit, view_of}
use Rattle.layout.specs.Parts.{kernel_in}
use Rattle.layout.proofs.Views.{floats_to, levels_kept, fit_to, finest_rows_lem}
use Rattle.build.specs.Finest.{SumsOk, Summed}

-- There is a first level, whose pattern and faces are those of p.
pub record Leading (p : Pattern) (levels : List Level) : Type 0 where
  pub level : Level
  pub rest : List Level
  pub is : levels ≡ level ∷ rest
  pub pattern : level.shape.pattern ≡ p
  pub starts : level.shape.starts ≡ face_offsets_of p
  pub neighbors : level.shape.neighbors ≡ neighbors_of p

-- The levels of an accepted build lead with that of the matrix.
pub grow_leading : (o : MultigridOptions) (given : Bool) (stores : Charge) (more level stage : ℕ) (used : Charge) (m : Mesh) {levels : List Level}
    → grow_of o given stores more level stage used m ≡ accepted levels → Leading m.pattern levels
grow_leading o given stores = grow_keeps o given stores (λ _ _ _ m levels. Leading m.pattern levels)
    (λ more level stage m levels _ l. record {
      level = record { shape = last_shape m.pattern; numbers = l.numbers };
      rest = [];
      is = sym l.is;
      pattern = refl;
      starts = refl;
      neighbors = refl;
    })
    (λ more level stage used m levels _ _ i _. record {
      level = record { shape = inner_shape m.pattern i.state.map i.state.mesh.pattern.rows; numbers = i.numbers };
      rest = i.rest;
      is = sym i.is;
      pattern = refl;
      starts = refl;
      neighbors = refl;
    })

-- What never falls up to n is at most what it is at n.
rise_to : (f : ℕ → ℕ) (n : ℕ) → ((i : ℕ) → i < n → f i ≤ f (i + 1)) → (i : ℕ) → i ≤ n → f i ≤ f n
rise_to f zero rises i h = let z : i ≡ 0 = omega arith in rw z (omega arith)
rise_to f (suc n) rises i h =
    ⊎_elim (λ (q : suc n ≤ i). let z : i ≡ suc n = omega arith in rw z (omega arith))
    (λ (q : i < suc n).
    let a : f i ≤ f n = rise_to f n (λ k l. rises k (omega arith)) i (omega arith) in
    let b : f n ≤ f (suc n) = rw (add-one n) at (rises n (omega arith)) in
    omega arith)
    (le_or_lt (suc n) i)

head_at_lem : (z : List ℕ) (G : List Float) (l : Level) (rest : List Level) → levels_at (length (l ∷ rest)) z G 0 0 ≡ l ∷ rest
    → level_at z G 0 0 ≡ l
unfolding levels_at
head_at_lem z G l rest e = head_is e

fit_first : (z : List ℕ) (k : ℕ) → words_fit (suc k) z 0 ≡ true → words_end z 0 ≤ length z
unfolding words_fit
fit_first z k t = leb-true (words_end z 0) (length z) (both_l _ _ t)

links_before : (z : List ℕ) → (locate z 0 0).links ≤ words_end z 0
unfolding words_end
links_before z = go (last_at z 0)
  where
    go : (last : Bool)
        → (locate z 0 0).links ≤ cond last ((locate z 0 0).links + coupled_at z 0) ((locate z 0 0).positions + (locate z 0 0).entries)
    go true = omega arith
    go false = omega arith

factor_before : (z : List ℕ) (k : ℕ) → (locate z 0 0).factor ≤ image_end (suc k) z 0 0
unfolding image_end floats_end
factor_before z k = omega (arith, floats_to k z (words_end z 0) (floats_end z 0 0))

with_sums_lem : (o : MultigridOptions) {l : Level} {rest levels : List Level} {sums : List Float} → levels ≡ l ∷ rest → sums ≡ sums_of o l
    → ◌≡◌ {A = Hierarchy} (record { levels = levels; sums = sums }) (with_sums o (l ∷ rest))
unfolding with_sums
with_sums_lem o a b = rw (a, b)

module _ (z : List ℕ) (H : List Float) {p : Pattern} {ls : List Level} (valid : Valid p) (leading : Leading p ls)
    (view : levels_at (length ls) z H 0 0 ≡ ls) (fits : words_fit (length ls) z 0 ≡ true) where
  abbrev l : Level
  l = leading.level

  abbrev own : Place
  own = locate z 0 0

  -- The first level in the stores is the first level.
  first_is : level_at z H 0 0 ≡ l
  first_is = head_at_lem z H l leading.rest (rw leading.is at view)

  tall : rows_at z 0 ≡ p.rows
  unfolding level_at
  tall = ap (λ (k : Level). k.shape.pattern.rows) first_is ∙ ap (λ (q : Pattern). q.rows) leading.pattern

  offsets_at_lem : part own.offsets (rows_at z 0 + 1) z ≡ p.offsets
  unfolding level_at
  offsets_at_lem = ap (λ (k : Level). k.shape.pattern.offsets) first_is ∙ ap (λ (q : Pattern). q.offsets) leading.pattern

  starts_at : part own.starts (rows_at z 0 + 1) z ≡ face_offsets_of p
  unfolding level_at
  starts_at = ap (λ (k : Level). k.shape.starts) first_is ∙ leading.starts

  neighbors_at : part own.neighbors (faces_at z 0) z ≡ neighbors_of p
  unfolding level_at
  neighbors_at = ap (λ (k : Level). k.shape.neighbors) first_is ∙ leading.neighbors

  most : entries_at z 0 ≡ entries p
  most = sym (get_d_part own.offsets (rows_at z 0 + 1) z (rows_at z 0) 0 (omega arith))
      ∙ ap (λ (v : List ℕ). idx v (rows_at z 0)) offsets_at_lem ∙ ap (idx p.offsets) tall ∙ valid.last

  start_is : (i : ℕ) → i ≤ rows_at z 0 → idx z (own.starts + i) ≡ idx (face_offsets_of p) i
  start_is i h = sym (get_d_part own.starts (rows_at z 0 + 1) z i 0 (omega arith)) ∙ ap (λ (v : List ℕ). idx v i) starts_at

  many : faces_at z 0 ≡ faces_of p
  many = start_is (rows_at z 0) (omega arith) ∙ ap (idx (face_offsets_of p)) tall ∙ starts_last valid

  start_few : (i : ℕ) → i ≤ p.rows → idx (face_offsets_of p) i ≤ faces_of p
  start_few i h = rw (starts_last valid) at (rise_to (idx (face_offsets_of p)) p.rows (λ k b. starts_rise valid k b) i h)

  ends : (words_end z 0 ≤ length z) × (own.factor ≤ image_end (length ls) z 0 0)
  ends = rw leading.is (fit_first z (length leading.rest) (rw leading.is at fits), factor_before z (length leading.rest))

  kernel_ok : KernelOk z (image_end (length ls) z 0 0) (kernel_in own)
  kernel_ok =
      let e = ends in
      let b = links_before z in
      let rows = tall in
      record {
        starts = omega (arith, e.0);
        columns = omega (arith, e.0);
        own = omega (arith, e.1);
        recip = omega (arith, e.1);
        faces = omega (arith, e.1);
        falls = λ k h.
            let up : own.starts + k + 1 ≡ own.starts + (k + 1) = omega arith in
            let here : idx z (own.starts + k + 1) ≡ idx (face_offsets_of p) (k + 1) = ap (idx z) up ∙ start_is (k + 1) (omega arith) in
            let less : idx (face_offsets_of p) (k + 1) ≤ faces_of p = start_few (k + 1) (omega arith) in
            let last : idx z (own.starts + rows_at z 0) ≡ faces_of p = many in
            omega arith;
        near = λ k h.
            let few : k < faces_of p = rw many at h in
            let here : idx z (own.neighbors + k) ≡ idx (neighbors_of p) k = sym (get_d_part own.neighbors (faces_at z 0) z k 0 h)
            ∙ ap (λ (v : List ℕ). idx v k) neighbors_at in
            let below : idx (neighbors_of p) k < p.rows = near valid k few in
            omega arith;
      }

  -- What the row sums require.
  pub sums_ok : {rows size end count : ℕ} → p.rows ≡ rows → entries p ≡ count → rows ≤ 65536 → count ≤ 1048576
      → end ≡ image_end (length ls) z 0 0
      → end + rows ≤ size → SumsOk z size end rows count
  sums_ok {rows} {size} {end} {count} r e few less is room =
      let faces = many in
      let entriesIs = most in
      record {
        first = record { few = few; less = less; tall = tall ∙ r; most = most ∙ e; faces = omega (arith, faces_few p); inside = kernel_ok.starts };
        kernel = rw is kernel_ok;
        room = room;
      }

  -- Its row sums are those of its kernel in the stores.
  sums_is : (o : MultigridOptions) {rows : ℕ} → p.rows ≡ rows
      → cond (needs_sums o.residual_norm) (row_sums_of (kernel_at (kernel_in own) z H)) (filled rows zero64) ≡ sums_of o l
  unfolding kernel_at level_at
  sums_is o r = ap (λ (n : ℕ). cond (needs_sums o.residual_norm) (row_sums_of (kernel_at (kernel_in own) z H)) (filled n zero64)) (sym (tall ∙ r))
      ∙ ap (sums_of o) first_is

  -- The stores hold the levels with the row sums.
  pub viewed : {G : List Float} {o : MultigridOptions} {end rows : ℕ} → p.rows ≡ rows → end ≡ image_end (length ls) z 0 0
      → end + rows ≤ length H
      → Summed z H G o end rows → view_of (length ls) z G 0 ≡ with_sums o ls
  unfolding view_of
  viewed {G} {o} {end} {rows} r is room s =
      let kept = levels_kept (length ls) 0 0 {e = length z} {e' = end} kept_self (kept_wrote s.wrote (omega arith))
      (fit_to (length ls) z 0 (omega arith) fits) (omega arith) (omega arith) (omega arith) in
      let read : part (image_end (length ls) z 0 0) (rows_at z 0) G
      ≡ cond (needs_sums o.residual_norm) (row_sums_of (kernel_at (kernel_in own) z H)) (filled rows zero64) =
      ap (λ (n : ℕ). part n (rows_at z 0) G) (sym is) ∙ ap (λ (n : ℕ). part end n G) (tall ∙ r) ∙ wrote_at s.wrote room in
      let some : 1 ≤ length ls = rw leading.is (omega arith) in
      let counted = ap (λ (n : ℕ). part (image_end (length ls) z 0 0) n G) (finest_rows_lem (length ls) z some) in
      with_sums_lem o (kept.0 ∙ view ∙ leading.is) (counted ∙ read ∙ sums_is o r) ∙ ap (with_sums o) (sym leading.is)
