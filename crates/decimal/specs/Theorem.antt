-- What is proved of writing (proofs/Laws.antt, proofs/Ties.antt, proofs/Signs.antt). Definitions only.
use Rattle.std.specs.Prelude.{Bool, true, false, ◌≡◌, ℕ, ◌^◌, ◌≤◌, ◌<◌, Float}
use Rattle.decimal.specs.Decimal.{gives}

-- No number of at most 15 digits with the power q, above or below zero, gives v.
abbrev pub No : Float → ℕ → Type 0
No v q = (s : Bool) (k : ℕ) → k < 10 ^ 15 → gives v s q k ≡ false

-- m is read as v with the power q, or where n with -q, and no power nearer zero gives v.
pub record Nearest (v : Float) (m : ℕ) (n : Bool) (q : ℕ) : Type 0 where
  pub digits : m < 10 ^ 15
  pub power : q ≤ 22
  pub value : gives v n q m ≡ true
  pub nearer : (j : ℕ) → j < q → No v j
