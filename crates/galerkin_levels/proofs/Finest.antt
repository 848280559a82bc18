-- Galerkin products one after the other are one, with the composed map.
-- Assumes nothing.
use mathlib.Core.Path.{◌≡◌, refl, sym, ap, ◌∙◌, subst, fun_ext}
use mathlib.Core.List.{List, [], ◌∷◌}
use Prim.Native.Nat.{ℕ, zero, suc, ◌<◌}
use native.Mathlib.Omega.{arith}
use lib.Dec.{eqb}
use lib.IntN.{ℤ}
use lib.ListN.{drop}
use Rattle.store.specs.Region.{idx}
use Rattle.galerkin.specs.Product.{when, dense, galerkin_product}
use Rattle.galerkin.proofs.exact.Sums.{Σ-same}
use Rattle.galerkin.proofs.exact.Product.{entry_sum, product_is}
use Rattle.pattern.specs.Pattern.{coarse, Pattern, entries, row_of, column_of, Valid, Maps, compose_of}
use Rattle.pattern.proofs.pattern.Row.{row_in}
use Rattle.galerkin_theorem.specs.Theorem.{fine_matrix, coarse_matrix}
use Rattle.hierarchy.specs.Level.{Shape, Level}
use Rattle.hierarchy.proofs.Twice.{compose_at}
use Rattle.build_sound.specs.Laid.{Laid}
use Rattle.galerkin_levels.specs.Levels.{MatrixIs, Galerkin, composed}
use Rattle.galerkin_levels.specs.Steps.{Matrix, product_of}

-- The Galerkin product of entries is the matrix of the same entries between the aggregates of their rows and columns.
pub product_dense : (n m : ℕ) (map row column : ℕ → ℕ) (z : ℕ → ℤ) → ((e : ℕ) → e < m → row e < n) → ((e : ℕ) → e < m → column e < n)
    → galerkin_product n map (dense m row column z) ≡ dense m (λ e. map (row e)) (λ e. map (column e)) z
unfolding entry_sum dense
product_dense n m map row column z rows columns = fun_ext (λ c. fun_ext (λ d. product_is n m map row column z rows columns c d))

-- Entries in the same rows and columns are the same matrix.
dense_same : (m : ℕ) (row row' column column' : ℕ → ℕ) (z : ℕ → ℤ) → ((e : ℕ) → e < m → row e ≡ row' e) → ((e : ℕ) → e < m → column e ≡ column' e)
    → dense m row column z ≡ dense m row' column' z
unfolding dense
dense_same m row row' column column' z rows columns = fun_ext (λ i. fun_ext (λ j.
    Σ-same m (λ e. when (eqb (row e) i) (when (eqb (column e) j) (z e))) (λ e. when (eqb (row' e) i) (when (eqb (column' e) j) (z e)))
    (λ e h. rw (rows e h, columns e h))))

-- Two Galerkin products one after the other are one, with the map of the first followed by that of the second.
pub product_twice : {p : Pattern} {map : List ℕ} {count : ℕ} → Valid p → Maps map p.rows count → (next : List ℕ) (z : ℕ → ℤ)
    → galerkin_product count (idx next) (coarse_matrix p map z) ≡ coarse_matrix p (compose_of p.rows map next) z
product_twice {p} {map} {count} valid maps next z =
    let m = entries p in
    let rows : (e : ℕ) → e < m → row_of p e < p.rows = λ e h. (row_in valid e h).0 in
    let both = compose_of p.rows map next in
    ap (galerkin_product count (idx next)) (product_dense p.rows m (idx map) (row_of p) (λ e. column_of p e) z rows valid.inside)
    ∙ product_dense count m (idx next) (λ e. idx map (row_of p e)) (λ e. idx map (column_of p e)) z
    (λ e h. maps.below (row_of p e) (rows e h)) (λ e h. maps.below (column_of p e) (valid.inside e h))
    ∙ dense_same m (λ e. idx next (idx map (row_of p e))) (λ e. idx both (row_of p e)) (λ e. idx next (idx map (column_of p e))) (λ e. idx both (column_of p e)) z
    (λ e h. sym (compose_at p.rows map next (row_of p e) (rows e h))) (λ e h. sym (compose_at p.rows map next (column_of p e) (valid.inside e h)))
    ∙ sym (product_dense p.rows m (idx both) (row_of p) (λ e. column_of p e) z rows valid.inside)

-- The first level's matrix.
galerkin_head : {A : Matrix} {levels : List Level} → Galerkin A levels → {l : Level} {rest : List Level} → levels ≡ l ∷ rest → MatrixIs l A
galerkin_head {A} (Galerkin.last own) e = subst (λ (l : Level). MatrixIs l A) (cc) own
galerkin_head {A} (Galerkin.inner own more) e = subst (λ (l : Level). MatrixIs l A) (cc) own

-- There are no levels after none.
drop_none : (k : ℕ) {l : Level} {rest : List Level} → drop k [] ≡ l ∷ rest → ⊥
drop_none zero e = let z : ◌≡◌ {A = ℕ} 0 1 = cc in omega arith
drop_none (suc k) e = let z : ◌≡◌ {A = ℕ} 0 1 = cc in omega arith

-- The levels after the first.
galerkin_tail : {A : Matrix} {levels : List Level} → Galerkin A levels → {l : Level} {rest : List Level} → levels ≡ l ∷ rest
    → (rest ≡ [] → ⊥) → Galerkin (product_of l A) rest
galerkin_tail (Galerkin.last own) e some = absurd (some (cc))
galerkin_tail {A} (Galerkin.inner {l = k} {next = next} {rest = tail} own more) {l} {rest} e some =
    let same : k ≡ l = cc in
    let after : next ∷ tail ≡ rest = cc in
    subst (λ (j : Level). Galerkin (product_of j A) rest) same (subst (Galerkin (product_of k A)) after more)

-- Laid levels are some.
laid_some : {most : ℕ} {p : Pattern} {levels : List Level} → Laid most p levels → levels ≡ [] → ⊥
laid_some (Laid.last small few is) e = let z : ◌≡◌ {A = ℕ} 0 1 = cc in omega arith
laid_some (Laid.inner small maps is on) e = let z : ◌≡◌ {A = ℕ} 0 1 = cc in omega arith

-- Where each level is the Galerkin product of the level above, the matrix of level k is that of the entries of the first between the
-- aggregates of the composed map.
composed_dense : {most : ℕ} {p : Pattern} {levels : List Level} → Laid most p levels → (m : ℕ) (row column : ℕ → ℕ) (z : ℕ → ℤ)
    → ((e : ℕ) → e < m → row e < p.rows) → ((e : ℕ) → e < m → column e < p.rows) → Galerkin (dense m row column z) levels
    → (k : ℕ) (l : Level) (rest : List Level) → drop k levels ≡ l ∷ rest
    → MatrixIs l (dense m (λ e. composed k levels (row e)) (λ e. composed k levels (column e)) z)
unfolding composed
composed_dense laid m row column z rows columns g zero l rest at = galerkin_head g at
composed_dense (Laid.last small few is) m row column z rows columns g (suc k) l rest at = absurd (drop_none k at)
composed_dense {p = p} (Laid.inner {l = first} {rest = after} {map = map} {count = count} small maps is on) m row column z rows columns g (suc k) l rest at =
    let links : first.shape.links ≡ map = ap (λ (s : Shape). s.links) is in
    let tall : first.shape.pattern.rows ≡ p.rows = ap (λ (s : Shape). s.pattern.rows) is in
    let to : ℕ → ℕ = idx first.shape.links in
    let product : product_of first (dense m row column z) ≡ dense m (λ e. to (row e)) (λ e. to (column e)) z =
    product_dense first.shape.pattern.rows m to row column z (λ e h. rw tall (rows e h)) (λ e h. rw tall (columns e h)) in
    composed_dense {p = coarse p map count} on m (λ e. to (row e)) (λ e. to (column e)) z
    (λ e h. rw links (maps.below (row e) (rows e h))) (λ e h. rw links (maps.below (column e) (columns e h)))
    (subst (λ (A : Matrix). Galerkin A after) product (galerkin_tail g refl (laid_some on))) k l rest at

-- So level k is the Galerkin product of the finest with the composed map.
pub galerkin_finest : {most : ℕ} {p : Pattern} {levels : List Level} (z : ℕ → ℤ) → Valid p → Laid most p levels → Galerkin (fine_matrix p z) levels
    → (k : ℕ) (l : Level) (rest : List Level) → drop k levels ≡ l ∷ rest → MatrixIs l (galerkin_product p.rows (composed k levels) (fine_matrix p z))
galerkin_finest {p = p} {levels = levels} z valid laid g k l rest at =
    let rows : (e : ℕ) → e < entries p → row_of p e < p.rows = λ e h. (row_in valid e h).0 in
    subst (MatrixIs l) (sym (product_dense p.rows (entries p) (composed k levels) (row_of p) (λ e. column_of p e) z rows valid.inside))
    (composed_dense laid (entries p) (row_of p) (λ e. column_of p e) z rows valid.inside g k l rest at)
