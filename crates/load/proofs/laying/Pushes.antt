-- Entries pushed one after the other, and mirrors read. Assumes nothing.
use Rattle.std.proofs.Common.{◌≡◌, ℕ, zero, suc, ◌+◌, ◌-◌, ◌<◌, ◌≤◌, Bool, true, false, cond, List, [], ◌∷◌, ◌++◌, length, set, sym, refl, ap, ◌∙◌, suc-add, zero-add, arith, length-append, length-set}
use mir.Val.{bool_byte}
use lib.Ieee.{Float}
use Rattle.store.specs.Region.{at, idx, lay, splice}
use Rattle.store.proofs.store.Region.{splice_nil}
use Rattle.load.specs.Steps.{optional, one, MirrorOk, mirror_at, Pushed}

-- ---- laying lists one behind the other

-- Nothing more is laid past the end of a store.
lay_lay : {A : Type 0} (l m F : List A) → splice (length l) m (lay l F) ≡ lay (l ++ m) F
unfolding splice lay
lay_lay [] m F = refl
lay_lay (x ∷ l) m [] = refl
lay_lay (x ∷ l) m (y ∷ F) = ap (λ (v : List _). x ∷ v) (lay_lay l m F)

-- A list laid behind another is both of them laid.
pub splice_on : {A : Type 0} (p : ℕ) (l m F : List A) → splice (p + length l) m (splice p l F) ≡ splice p (l ++ m) F
unfolding splice
splice_on zero l m F = rw (zero-add (length l)) (lay_lay l m F)
splice_on (suc p) l m [] = rw (suc-add p (length l)) refl
splice_on (suc p) l m (y ∷ F) = rw (suc-add p (length l)) (ap (λ (v : List _). y ∷ v) (splice_on p l m F))

-- One element laid is one set.
pub set_splice_one : {A : Type 0} (p : ℕ) (x : A) (F : List A) → set F p x ≡ splice p (x ∷ []) F
unfolding splice lay
set_splice_one zero x [] = refl
set_splice_one zero x (y ∷ F) = refl
set_splice_one (suc p) x [] = refl
set_splice_one (suc p) x (y ∷ F) = ap (λ (v : List _). y ∷ v) (set_splice_one p x F)

-- ---- pushes

-- An entry that is there.
pub pushed_one : {there : Bool} (p column : ℕ) (value : Float) (C : List ℕ) (F : List Float) → there ≡ true
    → Pushed p (optional there column) (optional there value) C (set C p column) F (set F p value) (p + 1)
pushed_one {there} p column value C F here = rw here (record {
  columns = set_splice_one p column C;
  values = set_splice_one p value F;
  end = refl;
  same = refl;
  size_c = length-set C p column;
  size_f = length-set F p value;
})

-- One that is not.
pub pushed_none : {there : Bool} (p column : ℕ) (value : Float) (C : List ℕ) (F : List Float) → there ≡ false
    → Pushed p (optional there column) (optional there value) C C F F p
pushed_none {there} p column value C F none = rw none (record {
  columns = sym (splice_nil p C);
  values = sym (splice_nil p F);
  end = omega arith;
  same = refl;
  size_c = refl;
  size_f = refl;
})

-- Entries pushed behind others.
pub pushed_on : {p q r : ℕ} {l m : List ℕ} {v u : List Float} {C C' C'' : List ℕ} {F F' F'' : List Float}
    → Pushed p l v C C' F F' q → Pushed q m u C' C'' F' F'' r → Pushed p (l ++ m) (v ++ u) C C'' F F'' r
pushed_on {p} {q} {r} {l} {m} {v} {u} {C} {C'} {C''} {F} {F'} {F''} a b =
    let e : q ≡ p + length l = a.end in
    let k : q ≡ p + length v = omega (arith, a.same) in
    record {
      columns = b.columns ∙ ap (λ (D : List ℕ). splice q m D) a.columns ∙ ap (λ (x : ℕ). splice x m (splice p l C)) e ∙ splice_on p l m C;
      values = b.values ∙ ap (λ (D : List Float). splice q u D) a.values ∙ ap (λ (x : ℕ). splice x u (splice p v F)) k ∙ splice_on p v u F;
      end = omega (arith, b.end, length-append l m);
      same = omega (arith, a.same, b.same, length-append l m, length-append v u);
      size_c = b.size_c ∙ a.size_c;
      size_f = b.size_f ∙ a.size_f;
    }

-- ---- counts

-- As many stand in an optional entry as there are.
pub length_optional : {A : Type 0} (there : Bool) (x : A) → length (optional there x) ≡ one there
length_optional true x = refl
length_optional false x = refl

-- Three pushes one behind the other, their columns named.
pub pushed_three : {p q r s : ℕ} {l m n l' m' n' : List ℕ} {v u t : List Float} {C C' C'' C3 : List ℕ} {F F' F'' F3 : List Float}
    → Pushed p l v C C' F F' q → Pushed q m u C' C'' F' F'' r → Pushed r n t C'' C3 F'' F3 s → l ≡ l' → m ≡ m' → n ≡ n'
    → Pushed p (l' ++ (m' ++ n')) (v ++ (u ++ t)) C C3 F F3 s
pushed_three x y z a b c = rw (← a, ← b, ← c) (pushed_on x (pushed_on y z))

-- A row: what stands behind the diagonal, the diagonal, and what stands ahead.
pub pushed_row : {p q r s i : ℕ} {l n : List ℕ} {v t : List Float} {x y : Float} {C C' C'' C3 : List ℕ} {F F' F'' F3 : List Float}
    → Pushed p l v C C' F F' q → Pushed q (i ∷ []) (x ∷ []) C' C'' F' F'' r → Pushed r n t C'' C3 F'' F3 s → x ≡ y
    → Pushed p (l ++ (i ∷ n)) (v ++ (y ∷ t)) C C3 F F3 s
pushed_row a b c e = rw (← e) (pushed_on a (pushed_on b c))

-- At most one.
pub one_small : (there : Bool) → one there ≤ 1
one_small true = omega arith
one_small false = omega arith

-- Three optional entries, counted.
pub length_three : {A : Type 0} (a b c : Bool) (x y z : A) → length (optional a x ++ (optional b y ++ optional c z)) ≡ one a + one b + one c
length_three a b c x y z =
    let u = length-append (optional a x) (optional b y ++ optional c z) in
    let v = length-append (optional b y) (optional c z) in
    omega (arith, length_optional a x, length_optional b y, length_optional c z)

-- The number of a cell behind is the column of an entry that is there.
pub behind_column : (there : Bool) (i stride r : ℕ) → r ≡ cond there (i - stride) 0 → optional there r ≡ optional there (i - stride)
behind_column true i stride r e = ap (λ (x : ℕ). x ∷ []) e
behind_column false i stride r e = refl

-- ---- mirrors

-- The place of a mirror that is there.
pub record MirrorIn (i stride back : ℕ) (offsets : List ℕ) (size : ℕ) : Type 0 where
  pub behind : stride ≤ i
  pub near : i - stride + 1 < length offsets
  pub from : back ≤ idx offsets (i - stride + 1)
  pub to : idx offsets (i - stride + 1) ≤ size
  pub some : 0 < back

pub mirror_in_lem : {there : Bool} {i stride back : ℕ} {offsets : List ℕ} {size : ℕ} → MirrorOk there i stride back offsets size → there ≡ true
    → MirrorIn i stride back offsets size
mirror_in_lem m t = record { behind = m.behind t; near = m.near t; from = m.from t; to = m.to t; some = m.some }

-- Its value.
pub mirror_is : {there : Bool} (i stride back end : ℕ) (offsets : List ℕ) (values : List Float) → there ≡ true
    → end ≡ idx offsets (i - stride + 1) → at values (end - back) ≡ mirror_at there i stride back offsets values
mirror_is i stride back end offsets values t e = rw (t, e) refl

-- A yes or no as a number.
pub byte_one : (there : Bool) → bool_byte there ≡ one there
byte_one true = refl
byte_one false = refl
