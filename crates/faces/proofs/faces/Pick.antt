-- Lists of what passes a test: f c for each c below n that passes, rising, as `push_if` builds them, one number after the other.
-- Assumes nothing.
use mathlib.Core.Path.{◌≡◌, refl, sym, ap, ◌∙◌}
use mathlib.Core.Bool.{Bool, true, false, cond, ◌&&◌, ◌||◌, not, or-true}
use mathlib.Core.List.{List, [], ◌∷◌, ◌++◌}
use mathlib.Core.Logic.{inl, inr, ⊎_elim}
use Prim.Native.Nat.{ℕ, zero, suc, ◌+◌, ◌-◌, ◌≤◌, ◌<◌}
use native.Mathlib.Numerals.{add-one}
use native.Mathlib.Omega.{arith}
use lib.Dec.{eqb}
use borrow.Author.Tests.{eq-eqb, ne_eqb}
use lib.ListN.{length, set, get_or-append}
use lib.Seq.{ext_get_or}
use Rattle.store.specs.Region.{idx, Clear, part, splice, Wrote}
use Rattle.store.specs.Vector.{tab}
use Rattle.store.proofs.store.Region.{le_or_lt, splice_nil, length_splice, length_part, get_d_part, get_d_splice_in, get_d_splice_clear, set_splice_end, wrote}
use Rattle.store.proofs.store.Vector.{length_tab, tab_same, tab_get_d}
use Rattle.pattern.specs.Pattern.{how_many, those}
use Rattle.pattern.proofs.pattern.Number.{bool?, Same, same?, many_step, many_zero, many_which, many_same, many_more}
use Rattle.pattern.proofs.pattern.Place.{length_those, those_at}
use Rattle.faces.specs.Steps.{Pushed}

-- f c for each c below n that passes q
unfoldable pub picked : (ℕ → ℕ) → (ℕ → Bool) → ℕ → List ℕ
picked f q n = tab (λ k. f (idx (those q n) k)) (how_many q n)

-- No more pass than there are.
pub many_few : (q : ℕ → Bool) (n : ℕ) → how_many q n ≤ n
unfolding how_many
many_few q zero = omega arith
many_few q (suc n) = go (q n) (many_few q n)
  where
    go : (b : Bool) → how_many q n ≤ n → how_many q n + cond b 1 0 ≤ suc n
    go true h = omega arith
    go false h = omega arith

-- Of two tests that never both hold, no more pass than there are numbers.
pub many_apart : (q r : ℕ → Bool) (n : ℕ) → ((k : ℕ) → q k ≡ true → r k ≡ false) → how_many q n + how_many r n ≤ n
unfolding how_many
many_apart q r zero apart = omega arith
many_apart q r (suc n) apart = go (q n) (r n) (apart n) (many_apart q r n apart)
  where
    go : (a b : Bool) → (a ≡ true → b ≡ false) → how_many q n + how_many r n ≤ n → how_many q n + cond a 1 0 + (how_many r n + cond b 1 0) ≤
        suc n
    go true b f h = rw (f refl) (omega arith)
    go false true f h = omega arith
    go false false f h = omega arith

-- Where f takes those that pass q to different ones that pass r, no more pass q.
pub many_into : (f : ℕ → ℕ) (q r : ℕ → Bool) (n m : ℕ) → ((c : ℕ) → c < n → q c ≡ true → (f c < m) × (r (f c) ≡ true))
    → ((c d : ℕ) → c < d → d < n → q c ≡ true → q d ≡ true → f c ≡ f d → ⊥) → how_many q n ≤ how_many r m
many_into f q r zero m to apart = omega (arith, many_zero q)
many_into f q r (suc n) m to apart = ⊎_elim
    (λ (t : q n ≡ true).
    let b = f n in
    let here = to n (omega arith) t in
    let rest : ℕ → Bool = λ d. r d && not (eqb b d) in
    let gone : rest b ≡ false = rw (eq-eqb b b refl, here.1) refl in
    let less = many_into f q rest n m
    (λ c l u. let v = to c (omega arith) u in (v.0, rw (v.1, ne_eqb b (f c) (λ e. apart c n l (omega arith) u t (sym e))) refl))
    (λ c d l k. apart c d l (omega arith)) in
    let more = many_more rest b m gone here.0 in
    let all = many_same r (λ d. rest d || eqb b d) m (λ k l. with_it k here.1 (same? b k)) in
    let step : how_many q (suc n) ≡ how_many q n + 1 = many_step q n ∙ rw t refl in
    omega arith)
    (λ (t : q n ≡ false).
    let less = many_into f q r n m (λ c l u. to c (omega arith) u) (λ c d l k. apart c d l (omega arith)) in
    let step : how_many q (suc n) ≡ how_many q n + 0 = many_step q n ∙ rw t refl in
    omega arith)
    (bool? (q n))
  where
    with_it : (k : ℕ) → r (f n) ≡ true → Same (f n) k → r k ≡ ((r k && not (eqb (f n) k)) || eqb (f n) k)
    with_it k t (inl e) = rw (e.1, or-true (r k && false)) (ap r (sym e.0) ∙ t)
    with_it k t (inr e) = rw e.1 (keep (r k))
      where
        keep : (x : Bool) → x ≡ ((x && true) || false)
        keep true = refl
        keep false = refl

-- Number k of those that pass.
pub those_which : (q : ℕ → Bool) (n k : ℕ) → k < how_many q n → (c : ℕ) × (c < n) × (q c ≡ true) × (how_many q c ≡ k) ×
    (idx (those q n) k ≡ c)
those_which q n k h =
    let v = many_which q n k h in
    (v.0, v.1, v.2, v.3, rw v.3 at (those_at q n v.0 v.1 v.2))

module _ (f : ℕ → ℕ) (q : ℕ → Bool) where
  -- As many are picked as pass.
  pub length_picked : (n : ℕ) → length (picked f q n) ≡ how_many q n
  unfolding picked
  length_picked n = length_tab (λ k. f (idx (those q n) k)) (how_many q n)

  picked_none : picked f q 0 ≡ []
  unfolding picked tab how_many
  picked_none = refl

  those_more : (n k : ℕ) → k < how_many q n → idx (those q (suc n)) k ≡ idx (those q n) k
  unfolding those
  those_more n k h =
      let e : length (those q n) ≡ how_many q n = length_those q n in
      get_or-append (those q n) (cond (q n) (n ∷ []) []) 0 k (omega arith)

  picked_yes : (n : ℕ) → q n ≡ true → picked f q (suc n) ≡ picked f q n ++ (f n ∷ [])
  unfolding picked tab
  picked_yes n t =
      let new : ℕ → ℕ = λ k. f (idx (those q (suc n)) k) in
      let old : ℕ → ℕ = λ k. f (idx (those q n) k) in
      let e : how_many q (suc n) ≡ suc (how_many q n) = many_step q n ∙ rw t (omega arith) in
      ap (tab new) e
      ∙ ap (λ (v : List ℕ). v ++ (new (how_many q n) ∷ [])) (tab_same new old (how_many q n) (λ k h. ap f (those_more n k h)))
      ∙ ap (λ (x : ℕ). tab old (how_many q n) ++ (f x ∷ [])) (those_at q (suc n) n (omega arith) t)

  picked_no : (n : ℕ) → q n ≡ false → picked f q (suc n) ≡ picked f q n
  unfolding picked
  picked_no n t =
      let e : how_many q (suc n) ≡ how_many q n = many_step q n ∙ rw t (omega arith) in
      ap (tab (λ k. f (idx (those q (suc n)) k))) e
      ∙ tab_same (λ k. f (idx (those q (suc n)) k)) (λ k. f (idx (those q n) k)) (how_many q n) (λ k h. ap f (those_more n k h))

-- What passes, itself.
pub picked_self : (q : ℕ → Bool) (n : ℕ) → picked (λ c. c) q n ≡ those q n
unfolding picked
picked_self q n = tab_get_d 0 (those q n) (how_many q n) (length_those q n)

-- ---- the invariant of a loop that pushes

-- Of F the store G, where the k that pass among the first n have been pushed to the list at `to`.
pub record Picking (f : ℕ → ℕ) (q : ℕ → Bool) (to n k : ℕ) (F G : List ℕ) : Type 0 where
  pub is : G ≡ splice to (picked f q n) F
  pub count : k ≡ how_many q n

module _ {f : ℕ → ℕ} {q : ℕ → Bool} where
  -- At the start nothing has been pushed.
  pub picking_start : {to : ℕ} {F : List ℕ} → Picking f q to 0 0 F F
  picking_start {to} {F} = record {
    is = sym (ap (λ (v : List ℕ). splice to v F) (picked_none f q) ∙ splice_nil to F);
    count = sym
        (many_zero q);
  }

  -- The next number is pushed, if it passes.
  pub picking_on : {to n k v r : ℕ} {F G H : List ℕ} {wanted : Bool} → Picking f q to n k F G → Pushed G H to k v wanted r
      → v ≡ f n → wanted ≡ q n → Picking f q to (n + 1) r F H
  picking_on {to} {n} {k} {v} {r} {F} {G} {H} {wanted} p u e t = rw add-one (⊎_elim
      (λ (y : q n ≡ true).
      let w : wanted ≡ true = t ∙ y in
      let long : k ≡ length (picked f q n) = p.count ∙ sym (length_picked f q n) in
      record {
        is = rw w at u.is ∙ rw (p.is, long, e) (set_splice_end to (picked f q n) F (f n)) ∙ ap (λ (x : List ℕ). splice to x F)
            (sym (picked_yes f q n y));
        count = u.next ∙ rw (w, p.count) (sym (many_step q n ∙ rw y refl));
      })
      (λ (y : q n ≡ false).
      let w : wanted ≡ false = t ∙ y in
      record {
        is = rw w at u.is ∙ p.is ∙ ap (λ (x : List ℕ). splice to x F) (sym (picked_no f q n y));
        count = u.next ∙ rw (w, p.count) (sym (many_step q n ∙ rw y refl));
      })
      (bool? (q n)))

  -- What has been pushed is written.
  pub picking_wrote : {to n k : ℕ} {F G : List ℕ} → Picking f q to n k F G → Wrote to (how_many q n) (picked f q n) F G
  picking_wrote {to} {n} p = wrote p.is (length_picked f q n)

  -- At the end all c of the m numbers that pass are.
  pub picking_all : {to n k m c : ℕ} {F G : List ℕ} → Picking f q to n k F G → n ≡ m → c ≡ how_many q m → Wrote to c (picked f q m) F G
  picking_all {to} {n} {k} {m} {c} {F} {G} p e all =
      wrote (p.is ∙ ap (λ (i : ℕ). splice to (picked f q i) F) e) (length_picked f q m ∙ sym all)

-- ---- one region, written in part

-- One element more of a list that is written.
pub set_tab : (b k : ℕ) (g : ℕ → ℕ) (F : List ℕ) → set (splice b (tab g k) F) (b + k) (g k) ≡ splice b (tab g (k + 1)) F
unfolding tab
set_tab b k g F =
    rw add-one (ap (λ (m : ℕ). set (splice b (tab g k) F) (b + m) (g k)) (sym (length_tab g k)) ∙ set_splice_end b (tab g k) F (g k))

-- A list laid over the start of a region changes that region alone.
pub wrote_only : (b n : ℕ) (v F G : List ℕ) → G ≡ splice b v F → length v ≤ n → b + n ≤ length F → Wrote b n (part b n G) F G
wrote_only b n v F G is l fits =
    let size : length G ≡ length F = ap length is ∙ length_splice b v F in
    let long : length (part b n G) ≡ n = length_part b n G (omega arith) in
    wrote (ext_get_or 0 G (splice b (part b n G) F) (size ∙ sym (length_splice b (part b n G) F)) (λ i h. ⊎_elim
    (λ (w : b ≤ i). ⊎_elim
    (λ (u : b + n ≤ i). outside i (omega arith) (omega arith))
    (λ (u : i < b + n).
    let e : i ≡ b + (i - b) = omega arith in
    rw e (sym (get_d_splice_in b (part b n G) F (i - b) 0 (omega arith) (omega arith) ∙ get_d_part b n G (i - b) 0 (omega arith))))
    (le_or_lt (b + n) i))
    (λ (w : i < b). outside i (omega arith) (omega arith))
    (le_or_lt b i))) long
  where
    outside : (i : ℕ) → Clear i 1 b (length v) → Clear i 1 b (length (part b n G)) → idx G i ≡ idx (splice b (part b n G) F) i
    outside i c d = ap (λ (H : List ℕ). idx H i) is ∙ get_d_splice_clear b v F i 0 c ∙ sym (get_d_splice_clear b (part b n G) F i 0 d)
