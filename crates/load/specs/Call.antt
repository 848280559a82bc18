-- What a call answers, and what it leaves of the slices that are lent. Definitions only.
use Rattle.load.specs.declared.loading.Size.{Size}
use Rattle.refusal.specs.declared.Refusal.{Refusal}
use Rattle.std.specs.Prelude.{◌≡◌, ℕ, List, length, Float, Result, Ok, Err}
use Rattle.refusal.specs.Outcome.{Outcome, accepted, refused}
use Rattle.store.specs.Region.{splice}
use Rattle.pattern.specs.Pattern.{entries}
use Rattle.load.specs.Load.{Load, Room}

-- the lengths of slices
abbrev pub room_of : List ℕ → List ℕ → List Float → Room
room_of O C F = record { offsets = length O; columns = length C; values = length F }

-- what a call answers: the rows and entries of the load, or the refusal
abbrev pub loaded_of : Outcome Load → Result Size Refusal
loaded_of (accepted l) = Ok (record { rows = l.pattern.rows; entries = entries l.pattern })
loaded_of (refused q) = Err q

-- what it leaves of a slice: the load over its start, and the rest as it was
abbrev pub leaves_of : {A : Type 0} → (Load → List A) → Outcome Load → List A → List A
leaves_of part (accepted l) F = splice 0 (part l) F
leaves_of part (refused q) F = F

-- A call: its answer, and what it leaves of the three slices.
pub record Loading (o : Outcome Load) (O O' C C' : List ℕ) (F F' : List Float) (r : Result Size Refusal) : Type 0 where
  pub answer : r ≡ loaded_of o
  pub offsets : O' ≡ leaves_of (λ l. l.pattern.offsets) o O
  pub columns : C' ≡ leaves_of (λ l. l.pattern.columns) o C
  pub values : F' ≡ leaves_of (λ l. l.values) o F
