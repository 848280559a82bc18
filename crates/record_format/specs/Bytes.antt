-- Numbers as bytes, the least byte first: where they stand in a list of bytes, and the bytes of each. Definitions only.
use Rattle.std.specs.Prelude.{List, [], ◌∷◌, ◌++◌, ℕ, ◌+◌, ◌*◌, ◌/◌, ◌%◌, get_or, Float}
use Rattle.std.specs.Float.{binary64}
use Rattle.std.specs.Float.Ieee.{of_bits, to_bits}
use Rattle.store.specs.Vector.{tab}

-- ---- reading

-- the byte at a place; 0 past the end
abbrev pub byte_at : List ℕ → ℕ → ℕ
byte_at b at = get_or b at 0

-- the u32 whose four bytes start at a place
unfoldable pub u32_at : List ℕ → ℕ → ℕ
u32_at b at = byte_at b at + 256 * byte_at b (at + 1) + 65536 * byte_at b (at + 2) + 16777216 * byte_at b (at + 3)

-- the u64 whose eight bytes start at a place
unfoldable pub u64_at : List ℕ → ℕ → ℕ
u64_at b at = u32_at b at + 4294967296 * u32_at b (at + 4)

-- the float whose bits are the u64 at a place
abbrev pub float_at : List ℕ → ℕ → Float
float_at b at = of_bits binary64 (u64_at b at)

-- n numbers of four bytes each, one behind another
abbrev pub words_at : List ℕ → ℕ → ℕ → List ℕ
words_at b at n = tab (λ k. u32_at b (at + 4 * k)) n

-- n floats, one behind another
abbrev pub floats_at : List ℕ → ℕ → ℕ → List Float
floats_at b at n = tab (λ k. float_at b (at + 8 * k)) n

-- ---- writing

-- the four bytes of a u32
unfoldable pub bytes4 : ℕ → List ℕ
bytes4 v = v % 256 ∷ v / 256 % 256 ∷ v / 65536 % 256 ∷ v / 16777216 % 256 ∷ []

-- the eight bytes of a u64
unfoldable pub bytes8 : ℕ → List ℕ
bytes8 v = bytes4 (v % 4294967296) ++ bytes4 (v / 4294967296)

-- the eight bytes of a float's bits; those of a NaN are 7ff8000000000000
abbrev pub float_bytes : Float → List ℕ
float_bytes x = bytes8 (to_bits binary64 x)

-- the bytes of numbers or floats, one behind another
unfoldable pub flat : {A : Type 0} → (A → List ℕ) → List A → List ℕ
flat f [] = []
flat f (x ∷ rest) = f x ++ flat f rest
