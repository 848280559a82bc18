-- Half plus half over the faces of a pattern, one after the other in place, gives each pair the mean of its first values.
-- Assumes nothing.
use mathlib.Core.Path.{◌≡◌, refl, sym, ap, ◌∙◌}
use mathlib.Core.List.{List}
use mathlib.Core.Logic.{⊎_elim}
use Prim.Native.Nat.{ℕ, suc, ◌≤◌, ◌<◌, zero-le}
use native.Mathlib.Omega.{arith}
use lib.ListN.{length, set, length-set}
use lib.Seq.{get_or-set_same, get_or-set_other}
use lib.Ieee.{Float, nan}
use Rattle.store.specs.Region.{at, idx}
use Rattle.store.proofs.store.Loop.{for_count}
use Rattle.store.proofs.store.Region.{le_or_lt}
use Rattle.pattern.specs.Pattern.{Pattern, entries, row_of, column_of, Valid, Rising}
use Rattle.galerkin.specs.Values.{average_face, symmetrize_of}
use Rattle.galerkin.specs.Turns.{mean_of}
use Rattle.galerkin_theorem.specs.Theorem.{FacesOf, Symmetrized}
use Rattle.galerkin_theorem.proofs.Mirror.{entry_once}

module _ (p : Pattern) (valid : Valid p) (rising : Rising p) (faces : ℕ) (upper lower : List ℕ) (of : FacesOf p faces upper lower)
    (v : List Float) (long : length v ≡ entries p) where
  -- No two faces have the same mirror.
  lowers_apart : (j k : ℕ) → j < k → k < faces → idx lower j ≡ idx lower k → ⊥
  lowers_apart j k h l e =
      let pairs = of.pairs in
      let i : j < faces = omega arith in
      of.once j k h l (entry_once p valid rising (idx upper j) (idx upper k) (pairs.uppers j i) (pairs.uppers k l)
      (sym (pairs.columns j i) ∙ ap (λ (q : ℕ). column_of p q) e ∙ pairs.columns k l)
      (sym (pairs.rows j i) ∙ ap (row_of p) e ∙ pairs.rows k l))

  -- No face is a mirror: it stands above the diagonal.
  never : (j k : ℕ) → j < faces → k < faces → idx upper j ≡ idx lower k → ⊥
  never j k h l e =
      let a : row_of p (idx lower k) < column_of p (idx lower k) = rw e at (of.above j h) in
      let b = of.above k l in
      let r = of.pairs.rows k l in
      let s = of.pairs.columns k l in
      omega arith

  -- the mean of the first values of face k
  abbrev mean : ℕ → Float
  mean k = mean_of (at v (idx upper k)) (at v (idx lower k))

  record Done (k : ℕ) (u : List Float) : Type 0 where
    pub size : length u ≡ length v
    pub uppers : (j : ℕ) → j < k → at u (idx upper j) ≡ mean j
    pub lowers : (j : ℕ) → j < k → at u (idx lower j) ≡ mean j
    pub others : (i : ℕ) → ((j : ℕ) → j < k → (i ≡ idx upper j → ⊥) × (i ≡ idx lower j → ⊥)) → at u i ≡ at v i

  done_on : (k : ℕ) → k < faces → (u : List Float) → Done k u → Done (suc k) (average_face upper lower k u)
  unfolding average_face
  done_on k h u d =
      let size : length u ≡ length v = d.size in
      let i = idx upper k in
      let j = idx lower k in
      let x = mean k in
      let up : at u i ≡ at v i = d.others i (λ n l. ((λ e. of.once n k l h (sym e)), (λ e. never k n h (omega arith) e))) in
      let low : at u j ≡ at v j = d.others j (λ n l. ((λ e. never n k (omega arith) h (sym e)), (λ e. lowers_apart n k l h (sym e)))) in
      let ui = of.pairs.uppers k h in
      let lj = of.pairs.lowers k h in
      let size' : length (set u i x) ≡ length v = length-set u i x ∙ size in
      rw (up, low) (record {
        size = length-set (set u i x) j x ∙ size';
        uppers = λ n l. ⊎_elim
            (λ (w : k ≤ n). let e : n ≡ k = omega arith in rw e (get_or-set_other (set u i x) j i x nan (never k k h h) ∙ get_or-set_same u i x nan (omega arith)))
            (λ (w : n < k). get_or-set_other (set u i x) j (idx upper n) x nan (λ e. never n k (omega arith) h e) ∙ get_or-set_other u i (idx upper n) x nan (λ e. of.once n k w h e) ∙ d.uppers n w)
            (le_or_lt k n);
        lowers = λ n l. ⊎_elim
            (λ (w : k ≤ n). let e : n ≡ k = omega arith in rw e (get_or-set_same (set u i x) j x nan (omega arith)))
            (λ (w : n < k). get_or-set_other (set u i x) j (idx lower n) x nan (λ e. lowers_apart n k w h e) ∙ get_or-set_other u i (idx lower n) x nan (λ e. never k n h (omega arith) (sym e)) ∙ d.lowers n w)
            (le_or_lt k n);
        others = λ q n.
            let here = n k (omega arith) in
            get_or-set_other (set u i x) j q x nan here.1 ∙ get_or-set_other u i q x nan here.0 ∙ d.others q (λ m l. n m (omega arith));
      })

  done : Done faces (symmetrize_of faces upper lower v)
  unfolding symmetrize_of
  done = for_count (λ (k : ℕ) (u : List Float). Done k u) (average_face upper lower) 0 faces zero-le (λ k _ h u d. done_on k h u d) v
      (record { size = refl; uppers = λ j l. absurd (omega arith); lowers = λ j l. absurd (omega arith); others = λ i _. refl })

  -- Half plus half makes the values symmetric.
  pub symmetrized : Symmetrized p v (symmetrize_of faces upper lower v)
  symmetrized = record {
    diagonal = λ q h same. done.others q (λ k l. (
      (λ e. let a = of.above k l in let r = rw (← e) at a in omega arith),
      (λ e. let a = of.above k l in let r = of.pairs.rows k l in let c = of.pairs.columns k l in let s = rw e at same in omega arith),
    ));
    mirrored = λ q d h l above rows columns.
        let f = of.all q h above in
        let k = f.0 in
        let up : idx upper k ≡ q = f.2 in
        let r : row_of p (idx lower k) ≡ column_of p q = of.pairs.rows k f.1 ∙ ap (λ (i : ℕ). column_of p i) up in
        let c : column_of p (idx lower k) ≡ row_of p q = of.pairs.columns k f.1 ∙ ap (row_of p) up in
        let low : idx lower k ≡ d = entry_once p valid rising (idx lower k) d (of.pairs.lowers k f.1) l (r ∙ sym rows) (c ∙ sym columns) in
        (rw (up, low) at (done.uppers k f.1), rw (up, low) at (done.lowers k f.1));
  }
