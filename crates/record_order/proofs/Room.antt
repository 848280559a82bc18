-- No record asks for more than 4,110 bytes, those of an MX record of 64 rows and 320 entries. Assumes nothing.
use Rattle.std.specs.Prelude.{Option, Some, None, Result, Ok, Err}
use Rattle.refusal.specs.declared.Refusal.{Refusal}
use mathlib.Core.Path.{◌≡◌, refl}
use mathlib.Core.Bool.{Bool, true, false, cond}
use mathlib.Core.List.{List}
use Prim.Native.Nat.{ℕ, ◌+◌, ◌-◌, ◌≤◌}
use native.Mathlib.Omega.{arith}
use borrow.Author.Tests.{ltb-true, leb-true}
use lib.Dec.{eqb, leb, ltb}
use lib.ListN.{length}
use Rattle.store.proofs.store.Each.{both_l, both_r}
use Rattle.record_format.specs.Bytes.{u32_at}
use Rattle.record_format.specs.Format.{bad_record, sizes_ok, matrix_length, values_length, solve_length}
use Rattle.record_format.specs.declared.marks.Mark.{Mark}
use Rattle.record_order.specs.declared.Came.{Came}
use Rattle.record_order.specs.declared.Next.{Next}
use Rattle.record_order.specs.Order.{allowed, head_length, record_size, named_of, until_of, sized_of, judged_of, what_next, WithinRoom}

-- a choice has room where each way that is taken has
room_if : (t : Bool) (x y : Result Next Refusal) (h : ℕ) → (t ≡ true → WithinRoom h x) → (t ≡ false → WithinRoom h y) → WithinRoom h (cond t x y)
room_if true x y h p q = p refl
room_if false x y h p q = q refl

-- and so has a choice of what is missing or whole, where there is room for what is missing
room_until : (t : Bool) (n : ℕ) (m : Mark) (h : ℕ) → (t ≡ true → h + n ≤ 4110) → WithinRoom h (Ok (cond t (Next.Read n) (Next.Whole m)))
room_until true n m h p = p refl
room_until false n m h p = tt

small_if : (t : Bool) (n : ℕ) → (t ≡ true → n ≤ 4110) → cond t n 0 ≤ 4110
small_if true n p = p refl
small_if false n p = omega arith

-- the size of a record
pub size_small : (c : Came) (b : List ℕ) (m : Mark) → record_size c b m ≤ 4110
unfolding record_size
size_small c b Mark.Controls = omega arith
size_small c b Mark.Matrix =
    small_if (sizes_ok (u32_at b 2) (u32_at b 6)) (matrix_length (u32_at b 2) (u32_at b 6))
    (λ e. let few : u32_at b 2 ≤ 64 = leb-true (u32_at b 2) 64 (both_l (leb (u32_at b 2) 64) (leb (u32_at b 6) 320) e) in
    let small : u32_at b 6 ≤ 320 = leb-true (u32_at b 6) 320 (both_r (leb (u32_at b 2) 64) (leb (u32_at b 6) 320) e) in omega arith)
size_small c b Mark.Weights = small_if (leb c.entries 320) (values_length c.entries) (λ e. omega (arith, leb-true c.entries 320 e))
size_small c b Mark.Update = small_if (leb c.entries 320) (values_length c.entries) (λ e. omega (arith, leb-true c.entries 320 e))
size_small c b Mark.Solve = small_if (leb c.rows 64) (solve_length c.rows) (λ e. omega (arith, leb-true c.rows 64 e))

head_small : (m : Mark) → head_length m ≤ 4110
unfolding head_length
head_small Mark.Controls = omega arith
head_small Mark.Matrix = omega arith
head_small Mark.Weights = omega arith
head_small Mark.Update = omega arith
head_small Mark.Solve = omega arith

sized_room : (c : Came) (b : List ℕ) (m : Mark) → WithinRoom (length b) (sized_of c b m)
unfolding sized_of until_of
sized_room c b m =
    room_if (ltb (length b) (head_length m)) (Ok (Next.Read (head_length m - length b))) (cond (eqb (record_size c b m) 0) (Err bad_record) (Ok (until_of m (record_size c b m) (length b)))) (length b)
    (λ e. omega (arith, ltb-true (length b) (head_length m) e, head_small m))
    (λ _. room_if (eqb (record_size c b m) 0) (Err bad_record) (Ok (until_of m (record_size c b m) (length b))) (length b) (λ _. tt)
    (λ _. room_until (ltb (length b) (record_size c b m)) (record_size c b m - length b) m (length b)
    (λ e. omega (arith, ltb-true (length b) (record_size c b m) e, size_small c b m))))

judged_room : (c : Came) (b : List ℕ) (n : Option Mark) → WithinRoom (length b) (judged_of c b n)
judged_room c b (Some m) = room_if (allowed c m) (sized_of c b m) (Err bad_record) (length b) (λ _. sized_room c b m) (λ _. tt)
judged_room c b None = tt

-- Whatever has come and whatever has been read, what is to be read next ends by byte 4,110.
pub next_room : (c : Came) (b : List ℕ) → WithinRoom (length b) (what_next c b)
unfolding what_next
next_room c b =
    room_if (ltb (length b) 2) (Ok (Next.Read (2 - length b))) (judged_of c b (named_of b)) (length b) (λ e. omega (arith, ltb-true (length b) 2 e)) (λ _. judged_room c b (named_of b))
