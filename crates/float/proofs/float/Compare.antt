-- What the library's tests of floats decide: whether x is a NaN, whether it is finite, which of two is larger. Assumes nothing.
use mathlib.Core.Path.{◌≡◌, refl, sym, ap, ◌∙◌, subst}
use mathlib.Core.Bool.{Bool, true, false, not, cond, ◌&&◌, ◌||◌, false≢true}
use Prim.Native.Nat.{ℕ, ◌*◌}
use lib.Dec.{T, eqb, eqb_refl}
use lib.Ieee.{Float, nan, inf, fin, up, down, lt, ne, is_nan}
use lib.Ieee.Bits.{is_true}
use Rattle.float.specs.Float.{is_finite, max_num}

-- A number equals itself in size.
same_size : (n : ℕ) → not (eqb n n && true) ≡ false
same_size n = ap (λ (t : Bool). not (t && true)) (is_true (eqb n n) (eqb_refl n))

-- `x != x` asks whether x is a NaN.
pub ne_self : (x : Float) → ne x x ≡ is_nan x
unfolding ne is_nan
ne_self nan = refl
ne_self (inf true) = refl
ne_self (inf false) = refl
ne_self (fin true m e) = same_size (m * up e * down e)
ne_self (fin false m e) = same_size (m * up e * down e)

-- Where the test says that x is no NaN, it is none.
pub no_nan : {t : Bool} (x : Float) → t ≡ is_nan x → t ≡ false → T (not (is_nan x))
no_nan x e f = subst (λ (t : Bool). T (not t)) (sym f ∙ e) tt

-- There is one NaN.
pub only_nan : (x : Float) → is_nan x ≡ true → x ≡ nan
unfolding is_nan
only_nan nan h = refl
only_nan (inf s) h = absurd (false≢true h)
only_nan (fin s m e) h = absurd (false≢true h)

-- Where the test says that x is a NaN, it is the NaN.
pub is_nan_lem : {t : Bool} (x : Float) → t ≡ is_nan x → t ≡ true → x ≡ nan
is_nan_lem x e f = only_nan x (sym e ∙ f)

-- Between the two infinities lie the finite values.
pub between : (x : Float) → (lt (inf true) x && lt x (inf false)) ≡ is_finite x
unfolding lt is_finite
between nan = refl
between (inf true) = refl
between (inf false) = refl
between (fin s m e) = refl

-- `max_num`'s test picks as `maxNum` does.
pub picked : (a b : Float) {n : Bool} (t : Bool) → n ≡ is_nan a → (n || lt a b) ≡ t → cond t b a ≡ max_num a b
unfolding max_num
picked a b t e f = ap (λ (u : Bool). cond u b a) (sym f ∙ ap (λ (u : Bool). u || lt a b) e)
