-- Repeated places: with one entry more, and with mirrors. Assumes nothing.
use mathlib.Core.Path.{◌≡◌, refl, sym, ap, ◌∙◌}
use mathlib.Core.Bool.{Bool, true, false, not, cond, ◌&&◌, ◌||◌}
use mathlib.Core.List.{List, [], ◌∷◌, ◌++◌}
use mathlib.Core.Logic.{⊎_elim}
use Prim.Native.Nat.{ℕ, suc, ◌≤◌, ◌<◌}
use native.Mathlib.Omega.{arith}
use lib.Dec.{eqb, ltb}
use lib.ListN.{length}
use borrow.Author.Tests.{eq-eqb, ne_eqb, eqb-true, lt-ltb}
use Rattle.store.proofs.store.Region.{le_or_lt}
use Rattle.coordinate.specs.Coordinate.{Entry, is_at, entries_there, repeated, mirrors_of}
use Rattle.matrix_reader.specs.File.{is_free}

-- whether an entry stands at (r, c)
abbrev pub stands : ℕ → ℕ → List Entry → Bool
stands r c es = ltb 0 (length (entries_there r c es))

-- ---- one place

module _ (r c : ℕ) where
  pub stands_more : (e : Entry) (es : List Entry) → stands r c (e ∷ es) ≡ (is_at r c e || stands r c es)
  unfolding entries_there
  stands_more e es = go (is_at r c e)
    where
      go : (t : Bool) → ltb 0 (length (cond t (e ∷ entries_there r c es) (entries_there r c es))) ≡ (t || stands r c es)
      go true = lt-ltb 0 (suc (length (entries_there r c es))) (omega arith)
      go false = refl

  pub stands_append : (es fs : List Entry) → stands r c (es ++ fs) ≡ (stands r c es || stands r c fs)
  unfolding entries_there
  stands_append [] fs = refl
  stands_append (e ∷ es) fs =
      stands_more e (es ++ fs) ∙ ap (λ (t : Bool). is_at r c e || t) (stands_append es fs) ∙ go (is_at r c e) (stands r c es) (stands r c fs)
      ∙ ap (λ (t : Bool). t || stands r c fs) (sym (stands_more e es))
    where
      go : (x y z : Bool) → (x || (y || z)) ≡ ((x || y) || z)
      go true y z = refl
      go false y z = refl

  pub free_not : (es : List Entry) → is_free r c es ≡ not (stands r c es)
  free_not es = go (length (entries_there r c es))
    where
      go : (n : ℕ) → eqb n 0 ≡ not (ltb 0 n)
      go n = ⊎_elim
          (λ (h : n ≤ 0). let e : n ≡ 0 = omega arith in ap (λ (m : ℕ). eqb m 0) e ∙ sym (ap (λ (m : ℕ). not (ltb 0 m)) e))
          (λ (h : 0 < n). ne_eqb n 0 (λ (e : n ≡ 0). none n h e) ∙ sym (ap not (lt-ltb 0 n h)))
          (le_or_lt n 0)
        where
          none : (n : ℕ) → 0 < n → n ≡ 0 → ⊥
          none n h e = omega arith

eqb_turn : (a b : ℕ) → eqb a b ≡ eqb b a
eqb_turn a b = go (eqb a b) refl
  where
    differ : eqb a b ≡ false → b ≡ a → ⊥
    differ e f = clash (sym (eq-eqb a b (sym f)) ∙ e)
      where
        clash : true ≡ false → ⊥
        clash z = let w : ◌≡◌ {A = ℕ} 0 1 = cc in omega arith

    go : (t : Bool) → eqb a b ≡ t → eqb a b ≡ eqb b a
    go true e = e ∙ sym (eq-eqb b a (sym (eqb-true a b e)))
    go false e = e ∙ sym (ne_eqb b a (differ e))

-- two entries are at one place, either way round
at_turn : (e f : Entry) → is_at e.row e.column f ≡ is_at f.row f.column e
at_turn e f = ap (λ (t : Bool). t && eqb f.column e.column) (eqb_turn f.row e.row) ∙ ap (λ (t : Bool). eqb e.row f.row && t) (eqb_turn f.column e.column)

-- ---- one entry more

stands_none : (r c : ℕ) → stands r c [] ≡ false
unfolding entries_there
stands_none r c = refl

stands_one : (r c : ℕ) (e : Entry) → stands r c (e ∷ []) ≡ is_at r c e
stands_one r c e = stands_more r c e [] ∙ ap (λ (t : Bool). is_at r c e || t) (stands_none r c) ∙ go (is_at r c e)
  where
    go : (x : Bool) → (x || false) ≡ x
    go true = refl
    go false = refl

pub repeated_more : (es : List Entry) (e : Entry) → repeated (es ++ (e ∷ [])) ≡ (repeated es || stands e.row e.column es)
unfolding repeated entries_there
repeated_more [] e = refl
repeated_more (f ∷ es) e =
    ap (λ (t : Bool). t || repeated (es ++ (e ∷ []))) (stands_append f.row f.column es (e ∷ []) ∙ ap (λ (t : Bool). stands f.row f.column es || t) (stands_one f.row f.column e ∙ at_turn f e))
    ∙ ap (λ (t : Bool). (stands f.row f.column es || is_at e.row e.column f) || t) (repeated_more es e)
    ∙ go (stands f.row f.column es) (is_at e.row e.column f) (repeated es) (stands e.row e.column es)
    ∙ ap (λ (t : Bool). (stands f.row f.column es || repeated es) || t) (sym (stands_more e.row e.column f es))
  where
    go : (w x y z : Bool) → ((w || x) || (y || z)) ≡ ((w || y) || (x || z))
    go true x y z = refl
    go false true true z = refl
    go false true false z = refl
    go false false y z = refl

-- ---- mirrors

-- Each entry is on or below the diagonal,
pub data Lower : List Entry → Type 0 where
  none : Lower []
  one : {e : Entry} {es : List Entry} → e.column ≤ e.row → Lower es → Lower (e ∷ es)

-- or above it.
pub data Upper : List Entry → Type 0 where
  none : Upper []
  one : {e : Entry} {es : List Entry} → e.row < e.column → Upper es → Upper (e ∷ es)

mirrors_upper : {es : List Entry} → Lower es → Upper (mirrors_of es)
unfolding mirrors_of
mirrors_upper Lower.none = Upper.none
mirrors_upper (Lower.one {e} {es} h l) = go (eqb e.row e.column) refl (mirrors_upper l)
  where
    go : (t : Bool) → eqb e.row e.column ≡ t → Upper (mirrors_of es) → Upper (cond t (mirrors_of es) (record { row = e.column; column = e.row; value = e.value } ∷ mirrors_of es))
    go true x u = u
    go false x u = Upper.one (below e.column e.row h x) u
      where
        below : (a b : ℕ) → a ≤ b → eqb b a ≡ false → a < b
        below a b h x = ⊎_elim (λ (g : b ≤ a). let z : b ≡ a = omega arith in absurd (clash (sym (eq-eqb b a z) ∙ x))) (λ (g : a < b). g) (le_or_lt b a)
          where
            clash : true ≡ false → ⊥
            clash z = let w : ◌≡◌ {A = ℕ} 0 1 = cc in omega arith

-- nothing above the diagonal stands on or below it
upper_not : (r c : ℕ) → c ≤ r → {es : List Entry} → Upper es → stands r c es ≡ false
unfolding entries_there
upper_not r c h Upper.none = refl
upper_not r c h (Upper.one {e} {es} g u) = stands_more r c e es ∙ ap (λ (t : Bool). is_at r c e || t) (upper_not r c h u) ∙ go (eqb e.row r) (eqb e.column c) refl refl
  where
    go : (x y : Bool) → eqb e.row r ≡ x → eqb e.column c ≡ y → ((x && y) || false) ≡ false
    go true true p q = absurd (never (eqb-true e.row r p) (eqb-true e.column c q) g)
      where
        never : e.row ≡ r → e.column ≡ c → e.row < e.column → ⊥
        never a b k = omega arith
    go true false p q = refl
    go false y p q = refl

repeated_both : {es fs : List Entry} → Lower es → Upper fs → repeated (es ++ fs) ≡ (repeated es || repeated fs)
unfolding repeated
repeated_both Lower.none u = refl
repeated_both {fs = fs} (Lower.one {e} {es} h l) u =
    ap (λ (t : Bool). t || repeated (es ++ fs)) (stands_append e.row e.column es fs ∙ ap (λ (t : Bool). stands e.row e.column es || t) (upper_not e.row e.column h u))
    ∙ ap (λ (t : Bool). (stands e.row e.column es || false) || t) (repeated_both l u)
    ∙ go (stands e.row e.column es) (repeated es) (repeated fs)
  where
    go : (x y z : Bool) → ((x || false) || (y || z)) ≡ ((x || y) || z)
    go true y z = refl
    go false y z = refl

clash : true ≡ false → ⊥
clash z = let w : ◌≡◌ {A = ℕ} 0 1 = cc in omega arith

neither_l : (x y : Bool) → (x || y) ≡ false → x ≡ false
neither_l true y h = h
neither_l false y h = refl

neither_r : (x y : Bool) → (x || y) ≡ false → y ≡ false
neither_r true y h = absurd (clash h)
neither_r false y h = h

turn : (x y : Bool) → (y && x) ≡ (x && y)
turn true true = refl
turn true false = refl
turn false true = refl
turn false false = refl

-- a mirror stands where its entry does, mirrored
mirror_free : (r c : ℕ) (es : List Entry) → stands r c es ≡ false → stands c r (mirrors_of es) ≡ false
unfolding mirrors_of entries_there
mirror_free r c [] h = refl
mirror_free r c (e ∷ es) h =
    let k : (is_at r c e || stands r c es) ≡ false = sym (stands_more r c e es) ∙ h in
    go (neither_l (is_at r c e) (stands r c es) k) (mirror_free r c es (neither_r (is_at r c e) (stands r c es) k)) (eqb e.row e.column)
  where
    go : is_at r c e ≡ false → stands c r (mirrors_of es) ≡ false → (t : Bool) → stands c r (cond t (mirrors_of es) (record { row = e.column; column = e.row; value = e.value } ∷ mirrors_of es)) ≡ false
    go p on true = on
    go p on false =
        stands_more c r (record { row = e.column; column = e.row; value = e.value }) (mirrors_of es)
        ∙ ap (λ (b : Bool). b || stands c r (mirrors_of es)) (turn (eqb e.row r) (eqb e.column c) ∙ p) ∙ on

mirrors_single : (es : List Entry) → repeated es ≡ false → repeated (mirrors_of es) ≡ false
unfolding mirrors_of repeated
mirrors_single [] h = refl
mirrors_single (e ∷ es) h =
    go (neither_l (stands e.row e.column es) (repeated es) h) (mirrors_single es (neither_r (stands e.row e.column es) (repeated es) h)) (eqb e.row e.column)
  where
    go : stands e.row e.column es ≡ false → repeated (mirrors_of es) ≡ false → (t : Bool) → repeated (cond t (mirrors_of es) (record { row = e.column; column = e.row; value = e.value } ∷ mirrors_of es)) ≡ false
    go p on true = on
    go p on false = ap (λ (b : Bool). b || repeated (mirrors_of es)) (mirror_free e.row e.column es p) ∙ on

-- entries on or below the diagonal are repeated where they are with their mirrors
pub mirrors_repeat : {es : List Entry} → Lower es → repeated (es ++ mirrors_of es) ≡ repeated es
mirrors_repeat {es} l = repeated_both l (mirrors_upper l) ∙ go (repeated es) (mirrors_single es)
  where
    go : (t : Bool) → (t ≡ false → repeated (mirrors_of es) ≡ false) → (t || repeated (mirrors_of es)) ≡ t
    go true on = refl
    go false on = on refl
