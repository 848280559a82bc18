-- The sum of a row's entries by its faces: the diagonal, the faces of the row and those that end there. Assumes nothing.
use mathlib.Core.Path.{◌≡◌, refl, sym, ap, ap₂, ◌∙◌}
use mathlib.Core.Bool.{Bool, true, false, cond}
use mathlib.Core.List.{[], ◌∷◌, ◌++◌}
use mathlib.Core.Logic.{⊎_elim}
use Prim.Native.Nat.{ℕ, zero, suc, ◌+◌, ◌≤◌, ◌<◌}
use native.Mathlib.Omega.{arith}
use lib.Dec.{eqb, ltb}
use lib.IntN.{ℤ, pos, ◌+ℤ◌, +ℤ_idl, +ℤ_idr, +ℤ_assoc, +ℤ_comm}
use lib.ListN.{get_or-append}
use lib.Seq.{get_or_at}
use borrow.Author.Tests.{eq-eqb, ne_eqb, lt-ltb, le-ltb}
use Rattle.store.specs.Region.{idx}
use Rattle.store.proofs.store.Region.{le_or_lt}
use Rattle.galerkin.specs.Product.{Σℤ, when}
use Rattle.galerkin.proofs.exact.Sums.{Σ-same, Σ-one, Σ-mirror}
use Rattle.pattern.specs.Pattern.{how_many, those, Pattern, entries, column_of, row_of, Valid, Rising, Mirrored, Diagonal}
use Rattle.pattern.proofs.pattern.Number.{same?}
use Rattle.pattern.proofs.pattern.Place.{length_those}
use Rattle.galerkin_theorem.proofs.Mirror.{entry_once}
use Rattle.faces.specs.Faces.{above, faces_of, uppers_of, mirror_of, diagonals_of}
use Rattle.faces.proofs.faces.Laws.{diagonal_entry}
use Rattle.faces.proofs.faces.Entries.{has_at, stands_there}

-- ---- sums

four : (a b c d : ℤ) → (a +ℤ b) +ℤ (c +ℤ d) ≡ (a +ℤ c) +ℤ (b +ℤ d)
four a b c d =
    +ℤ_assoc a b (c +ℤ d)
    ∙ ap (λ (x : ℤ). a +ℤ x) (sym (+ℤ_assoc b c d) ∙ ap (λ (x : ℤ). x +ℤ d) (+ℤ_comm b c) ∙ +ℤ_assoc c b d)
    ∙ sym (+ℤ_assoc a c (b +ℤ d))

-- A sum of sums.
Σ-add : (n : ℕ) (g h : ℕ → ℤ) → Σℤ n (λ i. g i +ℤ h i) ≡ Σℤ n g +ℤ Σℤ n h
unfolding Σℤ
Σ-add zero g h = refl
Σ-add (suc n) g h = ap (λ (x : ℤ). x +ℤ (g n +ℤ h n)) (Σ-add n g h) ∙ four (Σℤ n g) (Σℤ n h) (g n) (h n)

-- A sum over those that pass is one over all, where the others count nothing.
Σ-those : (t : ℕ → Bool) (n : ℕ) (h : ℕ → ℤ) → Σℤ (how_many t n) (λ k. h (idx (those t n) k)) ≡ Σℤ n (λ e. when (t e) (h e))
unfolding Σℤ how_many those
Σ-those t zero h = refl
Σ-those t (suc n) h = go (t n) (Σ-those t n h)
  where
    go : (b : Bool) → Σℤ (how_many t n) (λ k. h (idx (those t n) k)) ≡ Σℤ n (λ e. when (t e) (h e)) → Σℤ (how_many t n + cond b 1 0) (λ k. h (idx (those t n ++ cond b (n ∷ []) []) k)) ≡ Σℤ n (λ e. when (t e) (h e)) +ℤ when b (h n)
    go true on =
        let one : how_many t n + 1 ≡ suc (how_many t n) = omega arith in
        ap (λ (j : ℕ). Σℤ j (λ k. h (idx (those t n ++ (n ∷ [])) k))) one
        ∙ ap₂ ◌+ℤ◌
        (Σ-same (how_many t n) (λ k. h (idx (those t n ++ (n ∷ [])) k)) (λ k. h (idx (those t n) k))
        (λ k l. ap h (get_or-append (those t n) (n ∷ []) 0 k (omega (arith, length_those t n))))
        ∙ on)
        (ap h (get_or_at (those t n) n [] 0 (how_many t n) (length_those t n)))
    go false on =
        let none : how_many t n + 0 ≡ how_many t n = omega arith in
        ap (λ (j : ℕ). Σℤ j (λ k. h (idx (those t n ++ []) k))) none
        ∙ Σ-same (how_many t n) (λ k. h (idx (those t n ++ []) k)) (λ k. h (idx (those t n) k))
        (λ k l. ap h (get_or-append (those t n) [] 0 k (omega (arith, length_those t n))))
        ∙ on ∙ sym (+ℤ_idr (Σℤ n (λ e. when (t e) (h e))))

-- ---- the entries of a row

module _ {p : Pattern} (valid : Valid p) (rising : Rising p) (mirrored : Mirrored p) (diagonal : Diagonal p) (z : ℕ → ℤ)
    (symmetric : (e d : ℕ) → e < entries p → d < entries p → row_of p d ≡ column_of p e → column_of p d ≡ row_of p e → z d ≡ z e) where
  -- what face k adds to row r: to its own row and to its neighbour's
  abbrev pub added : ℕ → ℕ → ℤ
  added r k =
      let q = idx (uppers_of p) k in
      when (eqb (row_of p q) r) (z q) +ℤ when (eqb (column_of p q) r) (z q)

  -- The mirror of an entry.
  mirror_there : (e : ℕ) → e < entries p
      → (mirror_of p e < entries p) × (row_of p (mirror_of p e) ≡ column_of p e) × (column_of p (mirror_of p e) ≡ row_of p e)
  mirror_there e h =
      let d = mirrored.mirror e h in
      stands_there valid rising (column_of p e) (row_of p e) (has_at p (column_of p e) (row_of p e) d.0 d.1 d.2 d.3)

  mirror_back : (e : ℕ) → e < entries p → mirror_of p (mirror_of p e) ≡ e
  mirror_back e h =
      let u = mirror_there e h in
      let v = mirror_there (mirror_of p e) u.0 in
      entry_once p valid rising (mirror_of p (mirror_of p e)) e v.0 h (v.1 ∙ u.2) (v.2 ∙ u.1)

  -- What the faces that end in a row add are its entries below the diagonal.
  lower_half : (r : ℕ) → Σℤ (entries p) (λ e. when (above p e) (when (eqb (column_of p e) r) (z e)))
      ≡ Σℤ (entries p) (λ e. when (ltb (column_of p e) (row_of p e)) (when (eqb (row_of p e) r) (z e)))
  unfolding above
  lower_half r =
      let f : ℕ → ℤ = λ e. when (ltb (column_of p e) (row_of p e)) (when (eqb (row_of p e) r) (z e)) in
      Σ-same (entries p) (λ e. when (ltb (row_of p e) (column_of p e)) (when (eqb (column_of p e) r) (z e))) (λ e. f (mirror_of p e))
      (λ e h.
      let u = mirror_there e h in
      let s : z (mirror_of p e) ≡ z e = symmetric e (mirror_of p e) h u.0 u.1 u.2 in
      let r' : row_of p (mirror_of p e) ≡ column_of p e = u.1 in
      let c' : column_of p (mirror_of p e) ≡ row_of p e = u.2 in
      sym (ap₂ (λ (x y : ℕ). when (ltb x y) (when (eqb y r) (z (mirror_of p e)))) c' r'
      ∙ ap (λ (v : ℤ). when (ltb (row_of p e) (column_of p e)) (when (eqb (column_of p e) r) v)) s))
      ∙ Σ-mirror (entries p) (mirror_of p) (λ e h. (mirror_there e h).0) mirror_back f

  -- The diagonal entry of a row.
  middle : (r : ℕ) → r < p.rows → Σℤ (entries p) (λ e. when (eqb (row_of p e) (column_of p e)) (when (eqb (row_of p e) r) (z e))) ≡ z (idx (diagonals_of p) r)
  middle r h =
      let d = diagonal_entry valid rising diagonal r h in
      let q = idx (diagonals_of p) r in
      Σ-same (entries p) (λ e. when (eqb (row_of p e) (column_of p e)) (when (eqb (row_of p e) r) (z e))) (λ e. when (eqb q e) (z e))
      (λ e l. ⊎_elim
      (λ (w : (q ≡ e) × (eqb q e ≡ true)).
      let a : row_of p e ≡ r = ap (row_of p) (sym w.0) ∙ d.1 in
      let b : column_of p e ≡ r = ap (λ (x : ℕ). column_of p x) (sym w.0) ∙ d.2 in
      rw (eq-eqb (row_of p e) (column_of p e) (a ∙ sym b), eq-eqb (row_of p e) r a, w.1) refl)
      (λ (w : (q ≡ e → ⊥) × (eqb q e ≡ false)).
      rw w.1 (⊎_elim
      (λ (s : (row_of p e ≡ column_of p e) × (eqb (row_of p e) (column_of p e) ≡ true)). ⊎_elim
      (λ (t : (row_of p e ≡ r) × (eqb (row_of p e) r ≡ true)).
      absurd (w.0 (entry_once p valid rising q e d.0 l (d.1 ∙ sym t.0) (d.2 ∙ sym t.0 ∙ s.0))))
      (λ (t : (row_of p e ≡ r → ⊥) × (eqb (row_of p e) r ≡ false)). rw (s.1, t.1) refl)
      (same? (row_of p e) r))
      (λ (s : (row_of p e ≡ column_of p e → ⊥) × (eqb (row_of p e) (column_of p e) ≡ false)). rw s.1 refl)
      (same? (row_of p e) (column_of p e))))
      (same? q e))
      ∙ Σ-one (entries p) q z d.0

  -- An entry stands on the diagonal, above it or below it.
  three_ways : (a b : ℕ) (x : ℤ) → x ≡ when (eqb a b) x +ℤ (when (ltb a b) x +ℤ when (ltb b a) x)
  three_ways a b x = ⊎_elim
      (λ (l : a ≤ b). ⊎_elim
      (λ (k : b ≤ a). let e : a ≡ b = omega arith in rw (eq-eqb a b e, le-ltb a b (omega arith), le-ltb b a (omega arith)) (sym (+ℤ_idr x)))
      (λ (k : a < b). rw (ne_eqb a b (λ e. omega arith), lt-ltb a b k, le-ltb b a (omega arith)) (sym (+ℤ_idl (x +ℤ pos 0) ∙ +ℤ_idr x)))
      (le_or_lt b a))
      (λ (l : b < a). rw (ne_eqb a b (λ e. omega arith), le-ltb a b (omega arith), lt-ltb b a l) (sym (+ℤ_idl (pos 0 +ℤ x) ∙ +ℤ_idl x)))
      (le_or_lt a b)

  when_add : (b : Bool) (x y : ℤ) → when b (x +ℤ y) ≡ when b x +ℤ when b y
  when_add true x y = refl
  when_add false x y = refl

  -- The entries of a row sum to its diagonal and what all faces add to it.
  pub by_faces : (r : ℕ) → r < p.rows
      → z (idx (diagonals_of p) r) +ℤ Σℤ (faces_of p) (added r) ≡ Σℤ (entries p) (λ e. when (eqb (row_of p e) r) (z e))
  unfolding faces_of uppers_of above
  by_faces r h =
      let n = entries p in
      let x : ℕ → ℤ = λ e. when (eqb (row_of p e) r) (z e) in
      let y : ℕ → ℤ = λ e. when (eqb (column_of p e) r) (z e) in
      let over : ℕ → Bool = λ e. ltb (row_of p e) (column_of p e) in
      let faces : Σℤ (faces_of p) (added r) ≡ Σℤ n (λ e. when (over e) (x e)) +ℤ Σℤ n (λ e. when (ltb (column_of p e) (row_of p e)) (x e)) =
      Σ-those (above p) n (λ q. x q +ℤ y q)
      ∙ Σ-same n (λ e. when (over e) (x e +ℤ y e)) (λ e. when (over e) (x e) +ℤ when (over e) (y e)) (λ e l. when_add (over e) (x e) (y e))
      ∙ Σ-add n (λ e. when (over e) (x e)) (λ e. when (over e) (y e))
      ∙ ap (λ (v : ℤ). Σℤ n (λ e. when (over e) (x e)) +ℤ v) (lower_half r) in
      sym (Σ-same n x (λ e. when (eqb (row_of p e) (column_of p e)) (x e) +ℤ (when (over e) (x e) +ℤ when (ltb (column_of p e) (row_of p e)) (x e)))
      (λ e l. three_ways (row_of p e) (column_of p e) (x e))
      ∙ Σ-add n (λ e. when (eqb (row_of p e) (column_of p e)) (x e)) (λ e. when (over e) (x e) +ℤ when (ltb (column_of p e) (row_of p e)) (x e))
      ∙ ap₂ ◌+ℤ◌ (middle r h) (Σ-add n (λ e. when (over e) (x e)) (λ e. when (ltb (column_of p e) (row_of p e)) (x e)) ∙ sym faces))
