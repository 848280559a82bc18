-- How answers cross the boundary: as numbers, and as words of a lent slice. Definitions only.
use Rattle.refusal.specs.declared.Refusal.{Refusal}
use Rattle.std.specs.Prelude.{Bool, cond, List, ◌≡◌, ℕ, Float, set, Result, Ok, Err, Option, Some, None}

-- yes is 1, no is 0
abbrev pub flag : Bool → ℕ
flag b = cond b 1 0

-- whether a product is finite
abbrev pub flag_of : Option Float → ℕ
flag_of (Some x) = 1
flag_of None = 0

-- a finite product stands at the front of `out`; one that is not writes nothing
abbrev pub written_of : Option Float → List Float → List Float
written_of (Some x) out = set out 0 x
written_of None out = out

-- the number of the question that refused, or zero
abbrev pub answer_of : Result Unit Refusal → ℕ
answer_of (Ok tt) = 0
answer_of (Err q) = q.number

-- the level and the row of a refusal stand at the front of `place`; a verdict that passed writes nothing
abbrev pub placed_of : Result Unit Refusal → List ℕ → List ℕ
placed_of (Ok tt) place = place
placed_of (Err q) place = set (set place 0 q.level) 1 q.row

-- a verdict as a number, with its place
pub record Told (v : Result Unit Refusal) (P Q : List ℕ) (r : ℕ) : Type 0 where
  pub is : r ≡ answer_of v
  pub place : Q ≡ placed_of v P
