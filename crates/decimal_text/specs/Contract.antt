-- What functions over digits and over text ask and ensure. Definitions only.
use Rattle.std.specs.Prelude.{Option, Some, None, ◌≡◌, Bool, true, List, ℕ, ◌+◌, ◌-◌, ◌*◌, ◌≤◌, ◌<◌, length, take, Float}
use Rattle.store.specs.Region.{splice}
use Rattle.decimal.specs.Decimal.{write_of, is_minus, magnitude_of}
use Rattle.decimal_text.specs.Field.{all_digits, number_of}
use Rattle.decimal_text.specs.Figures.{number_text, value_text}

-- l is digits, and has n of them or more
pub record DigitsTo (n : ℕ) (l : List ℕ) : Type 0 where
  pub within : n ≤ length l
  pub digits : all_digits l ≡ true

-- d is the last of the first n digits of l
pub record LastDigit (n : ℕ) (l : List ℕ) (d : ℕ) : Type 0 where
  pub small : d < 10
  pub is : number_of (take n l) ≡ number_of (take (n - 1) l) * 10 + d

-- Of F it made G, which has the text from `at` on, as far as F goes; r is where the text ends.
pub record Laid (text : List ℕ) (at : ℕ) (F G : List ℕ) (r : ℕ) : Type 0 where
  pub is : G ≡ splice at text F
  pub next : r ≡ at + length text

-- where the text of a value that was placed at `at` ends
abbrev pub placed_of : ℕ → Bool → Option (ℕ × Bool × ℕ) → Option ℕ
placed_of at minus (Some (m, negative, power)) = Some (at + length (number_text minus m negative power))
placed_of at minus None = None

-- Of F it made G, which has the text of the value v from `at` on, if v can be written.
pub record PlacedValue (v : Float) (at : ℕ) (F G : List ℕ) (r : Option ℕ) : Type 0 where
  pub is : G ≡ splice at (value_text v) F
  pub next : r ≡ placed_of at (is_minus v) (write_of (magnitude_of v))
