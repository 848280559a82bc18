-- Computations that may refuse: a chain of questions, which the first "no" ends. Definitions only.
use Rattle.std.specs.Prelude.{Bool, true, false, ℕ, zero, suc, ◌+◌, ◌-◌, Result, Ok, Err}
use Rattle.refusal.specs.declared.Refusal.{Refusal}

-- a result, or the first refusal
pub data Outcome (A : Type 0) : Type 0 where
  accepted : A → Outcome A
  refused : Refusal → Outcome A

-- the outcome of questions alone
abbrev pub passed : Outcome Unit
passed = accepted tt

-- a question: where it holds, the rest; else the refusal
abbrev pub ask : {A : Type 0} → Bool → Refusal → Outcome A → Outcome A
ask true q rest = rest
ask false q rest = refused q

-- a computation that may refuse, then the rest with its result
abbrev pub ◌>>=◌ : {A B : Type 0} → Outcome A → (A → Outcome B) → Outcome B
◌>>=◌ (accepted a) rest = rest a
◌>>=◌ (refused q) rest = refused q

-- questions, then the rest: `do` writes a chain as the Rust does, a line for each question or computation
abbrev pub ◌>>◌ : {A : Type 0} → (Outcome A → Outcome A) → Outcome A → Outcome A
◌>>◌ questions rest = questions rest

-- as many rows as `fuel` says, from `row` on
unfoldable pub ask_rows : {A : Type 0} → ℕ → ℕ → (ℕ → Outcome Unit) → Outcome A → Outcome A
ask_rows zero row asked rest = rest
ask_rows (suc fuel) row asked rest = do
  _ ← asked row
  ask_rows fuel (row + 1) asked rest

-- the rows from `row` up to `rows`, in order
abbrev pub ask_from : {A : Type 0} → ℕ → ℕ → (ℕ → Outcome Unit) → Outcome A → Outcome A
ask_from row rows asked rest = ask_rows (rows - row) row asked rest

-- every row in order: the first refusal among them, else the rest
abbrev pub ask_each : {A : Type 0} → ℕ → (ℕ → Outcome Unit) → Outcome A → Outcome A
ask_each rows asked rest = ask_from 0 rows asked rest

-- what a function that only asks questions answers
abbrev pub verdict_of : {A : Type 0} → Outcome A → Result Unit Refusal
verdict_of (accepted a) = Ok tt
verdict_of (refused q) = Err q

-- whether a question refused
abbrev pub is_refused : Result Unit Refusal → Bool
is_refused (Ok tt) = false
is_refused (Err q) = true
