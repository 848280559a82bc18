-- What is to be done next, by the way that the code takes to it. Assumes nothing.
use Rattle.std.specs.Prelude.{Option, Some, None, Result, Ok, Err}
use Rattle.refusal.specs.declared.Refusal.{Refusal}
use mathlib.Core.Path.{◌≡◌, sym, subst, ◌∙◌}
use mathlib.Core.Bool.{Bool, true, false, cond, ◌&&◌}
use mathlib.Core.List.{List}
use Prim.Native.Nat.{ℕ, ◌+◌, ◌*◌, ◌-◌, ◌≤◌, ◌<◌}
use borrow.Author.Tests.{lt-ltb, le-ltb, eq-eqb, ne_eqb}
use lib.Dec.{leb}
use lib.ListN.{length}
use Rattle.record_format.specs.Bytes.{u32_at}
use Rattle.record_format.specs.Format.{bad_record, sizes_ok, matrix_length}
use Rattle.record_format.specs.Steps.{WordIs}
use Rattle.record_format.specs.declared.marks.Mark.{Mark}
use Rattle.record_order.specs.declared.Came.{Came}
use Rattle.record_order.specs.declared.Next.{Next}
use Rattle.record_order.specs.Order.{allowed, head_length, record_size, named_of, until_of, sized_of, what_next}

-- the size of an MX record whose rows and entries were read
pub matrix_size_is : {b : List ℕ} {rows entries : ℕ} → WordIs b 2 rows → WordIs b 6 entries → leb rows 64 && leb entries 320 ≡ true
    → 14 + 4 * rows + 12 * entries ≡ cond (sizes_ok (u32_at b 2) (u32_at b 6)) (matrix_length (u32_at b 2) (u32_at b 6)) 0
matrix_size_is r n e = rw (← r.is, ← n.is, e)

pub matrix_size_none : {b : List ℕ} {rows entries : ℕ} → WordIs b 2 rows → WordIs b 6 entries → leb rows 64 && leb entries 320 ≡ false
    → 0 ≡ cond (sizes_ok (u32_at b 2) (u32_at b 6)) (matrix_length (u32_at b 2) (u32_at b 6)) 0
matrix_size_none r n e = rw (← r.is, ← n.is, e)

module _ (c : Came) (b : List ℕ) (m : Mark) where
  -- what tells the size is not there yet
  pub sized_read : {h : ℕ} → h ≡ head_length m → length b < h → Ok (Next.Read (h - length b)) ≡ sized_of c b m
  unfolding sized_of
  sized_read {h} e l =
      let l' : length b < head_length m = subst (λ (k : ℕ). length b < k) e l in
      rw (e, lt-ltb (length b) (head_length m) l')

  -- the size is too large
  pub sized_bad : {h s : ℕ} → h ≡ head_length m → h ≤ length b → s ≡ record_size c b m → s ≡ 0 → Err bad_record ≡ sized_of c b m
  unfolding sized_of
  sized_bad {h} {s} e l f z =
      let l' : head_length m ≤ length b = subst (λ (k : ℕ). k ≤ length b) e l in
      rw (le-ltb (length b) (head_length m) l', eq-eqb (record_size c b m) 0 (sym f ∙ z))

  -- the size is known
  pub sized_until : {h s : ℕ} {r : Next} → h ≡ head_length m → h ≤ length b → s ≡ record_size c b m → (s ≡ 0 → ⊥) → r ≡ until_of m s (length b) → Ok r ≡ sized_of c b m
  unfolding sized_of
  sized_until {h} {s} {r} e l f z g =
      let l' : head_length m ≤ length b = subst (λ (k : ℕ). k ≤ length b) e l in
      rw (le-ltb (length b) (head_length m) l', ne_eqb (record_size c b m) 0 (λ y. z (f ∙ y)), ← f) cc

-- the mark is not there yet
pub next_short : (c : Came) (b : List ℕ) → length b < 2 → Ok (Next.Read (2 - length b)) ≡ what_next c b
unfolding what_next
next_short c b l = rw (lt-ltb (length b) 2 l)

-- a mark that may come
pub next_sized : (c : Came) (b : List ℕ) (m : Mark) {n : Option Mark} {t : Bool} {r : Result Next Refusal} → 2 ≤ length b → n ≡ named_of b → n ≡ Some m → t ≡ allowed c m → t ≡ true
    → r ≡ sized_of c b m → r ≡ what_next c b
unfolding what_next
next_sized c b m l e known f may g = rw (le-ltb (length b) 2 l, sym e ∙ known, sym f ∙ may) g

-- a mark that may not
pub next_misplaced : (c : Came) (b : List ℕ) (m : Mark) {n : Option Mark} {t : Bool} → 2 ≤ length b → n ≡ named_of b → n ≡ Some m → t ≡ allowed c m → t ≡ false
    → Err bad_record ≡ what_next c b
unfolding what_next
next_misplaced c b m l e known f never = rw (le-ltb (length b) 2 l, sym e ∙ known, sym f ∙ never)

-- no mark
pub next_unknown : (c : Came) (b : List ℕ) {n : Option Mark} → 2 ≤ length b → n ≡ named_of b → n ≡ None → Err bad_record ≡ what_next c b
unfolding what_next
next_unknown c b l e none = rw (le-ltb (length b) 2 l, sym e ∙ none)
