-- Laws of `tab`: its length and elements, and that a loop of stores makes it.
-- Assumes nothing.
use mathlib.Core.Path.{◌≡◌, refl, sym, ap, ◌∙◌}
use mathlib.Core.List.{List, [], ◌∷◌, ◌++◌, append-nil}
use mathlib.Core.Logic.{⊎_elim}
use Prim.Native.Nat.{ℕ, zero, suc, ◌+◌, ◌≤◌, ◌<◌, zero-le}
use native.Mathlib.Nat.{le_refl, not-suc-le-zero}
use native.Mathlib.Omega.{arith}
use lib.ListN.{length, get_or, set, drop, length-append, drop_of_length-le, get_or-append}
use lib.Seq.{drop-cons, set_at, append_snoc, get_or-append_seam, ext_get_or}
use Rattle.store.specs.Loop.{for}
use Rattle.store.specs.Region.{Clear, splice}
use Rattle.store.specs.Vector.{tab}
use Rattle.store.proofs.store.Loop.{for_count}
use Rattle.store.proofs.store.Region.{le_or_lt, get_d_splice_clear, set_splice_end, splice_nil}

module _ {A : Type 0} where
  -- `tab g n` has n elements.
  pub length_tab : (g : ℕ → A) (n : ℕ) → length (tab g n) ≡ n
  unfolding tab
  length_tab g zero = refl
  length_tab g (suc n) = length-append (tab g n) (g n ∷ []) ∙ omega (arith, length_tab g n)

  -- Element k of `tab g n` is g k.
  pub get_d_tab : (g : ℕ → A) (n k : ℕ) (d : A) → k < n → get_or (tab g n) k d ≡ g k
  unfolding tab
  get_d_tab g zero k d h = absurd (not-suc-le-zero h)
  get_d_tab g (suc n) k d h =
      let l : length (tab g n) ≡ n = length_tab g n in
      ⊎_elim (λ (q : n ≤ k). let z : k ≡ length (tab g n) = omega arith in
      ap (λ (j : ℕ). get_or (tab g n ++ (g n ∷ [])) j d) z ∙ get_or-append_seam (tab g n) (g n) [] d ∙ ap g (sym (z ∙ l)))
      (λ q. get_or-append (tab g n) (g n ∷ []) d k (omega arith) ∙ get_d_tab g n k d q) (le_or_lt n k)

  -- Functions that agree below n make the same list.
  pub tab_same : (g h : ℕ → A) (n : ℕ) → ((k : ℕ) → k < n → g k ≡ h k) → tab g n ≡ tab h n
  unfolding tab
  tab_same g h zero e = refl
  tab_same g h (suc n) e = rw (tab_same g h n (λ k l. e k (omega arith)), e n (le_refl (suc n)))

  -- A loop that stores g k at each k makes the list of g.
  pub for_tab : (g : ℕ → A) (n : ℕ) (v : List A) → length v ≡ n → for (λ k u. set u k (g k)) 0 n v ≡ tab g n
  unfolding tab
  for_tab g n v l =
      for_count (λ (k : ℕ) (u : List A). u ≡ tab g k ++ drop k v) (λ k u. set u k (g k)) 0 n zero-le
      (λ k _ h u e. let b : k < length v = omega arith in
      rw (e, drop-cons v k (g k) b, set_at (tab g k) (get_or v k (g k)) (drop (suc k) v) (g k) k (length_tab g k)) (sym (append_snoc (tab g k) (g k) (drop (suc k) v))))
      v refl
      ∙ ap (λ (r : List A). tab g n ++ r) (drop_of_length-le v {i = n} (omega arith))
      ∙ append-nil (tab g n)

  -- A loop that stores g k at out + k, where g k reads nothing that the turns before it have written, splices the list of g.
  pub for_each : (out n : ℕ) (F : List A) (g : ℕ → List A → A)
      → ((k : ℕ) → k < n → (G : List A) → ((i : ℕ) (d : A) → (out ≤ i → out + k ≤ i) → get_or G i d ≡ get_or F i d) → g k G ≡ g k F)
      → for (λ k G. set G (out + k) (g k G)) 0 n F ≡ splice out (tab (λ k. g k F) n) F
  unfolding tab
  for_each out n F g same =
      for_count (λ (k : ℕ) (G : List A). G ≡ splice out (tab (λ j. g j F) k) F) (λ k G. set G (out + k) (g k G)) 0 n zero-le
      (λ k _ h G e.
      let l : length (tab (λ j. g j F) k) ≡ k = length_tab (λ j. g j F) k in
      let s : g k G ≡ g k F = same k h G (λ i d b. ap (λ (H : List A). get_or H i d) e ∙ get_d_splice_clear out (tab (λ j. g j F) k) F i d (clear i k b l)) in
      rw (s, e) (ap (λ (m : ℕ). set (splice out (tab (λ j. g j F) k) F) (out + m) (g k F)) (sym l) ∙ set_splice_end out (tab (λ j. g j F) k) F (g k F)))
      F (sym (splice_nil out F))
    where
      clear : (i k : ℕ) → (out ≤ i → out + k ≤ i) → length (tab (λ j. g j F) k) ≡ k → Clear i 1 out (length (tab (λ j. g j F) k))
      clear i k b l = rw l (⊎_elim (λ p. let q : out + k ≤ i = b p in omega arith) (λ q. omega arith) (le_or_lt out i))

  -- A list is the list of its elements.
  pub tab_get_d : (d : A) (v : List A) (n : ℕ) → length v ≡ n → tab (λ k. get_or v k d) n ≡ v
  tab_get_d d v n e =
      ext_get_or d (tab (λ k. get_or v k d) n) v (length_tab (λ k. get_or v k d) n ∙ sym e)
      (λ i h. get_d_tab (λ k. get_or v k d) n i d (rw (length_tab (λ k. get_or v k d) n) at h))
