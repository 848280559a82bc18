-- Regions of a store: reading one, laying a list over one, and what a function that writes one ensures. Definitions only.
-- `splice` never changes the length: what would stand past the end of the store is lost, so most laws ask nothing of it.
use Rattle.std.specs.Prelude.{◌≡◌, List, [], ◌∷◌, ℕ, zero, suc, ◌+◌, ◌-◌, ◌≤◌, min, length, get_or, take, drop, Float}
use Rattle.std.specs.Float.{nan}

-- the float at index i of a store; past its end a NaN, which no proved function reads
abbrev pub at : List Float → ℕ → Float
at F i = get_or F i nan

-- the number at index i of a table
abbrev pub idx : List ℕ → ℕ → ℕ
idx w i = get_or w i 0

-- The n elements at a and the m at b do not meet: a + n ≤ b or b + m ≤ a, in a form that `omega` reads and proves.
abbrev pub Clear : ℕ → ℕ → ℕ → ℕ → Type 0
Clear a n b m = min (a + n - b) (b + m - a) ≡ 0

-- the n elements of F from b on
unfoldable pub part : {A : Type 0} → ℕ → ℕ → List A → List A
part b n F = take n (drop b F)

-- F with v laid over its start
unfoldable pub lay : {A : Type 0} → List A → List A → List A
lay [] F = F
lay (x ∷ v) [] = []
lay (x ∷ v) (y ∷ F) = x ∷ lay v F

-- F with v laid over what stands from b on
unfoldable pub splice : {A : Type 0} → ℕ → List A → List A → List A
splice zero v F = lay v F
splice (suc b) v [] = []
splice (suc b) v (y ∷ F) = y ∷ splice b v F

-- What a function that writes one region ensures: of F it made G, which has v, of n elements, at b and is otherwise F.
pub record Wrote {A : Type 0} (b n : ℕ) (v F G : List A) : Type 0 where
  pub is : G ≡ splice b v F
  pub long : length v ≡ n
  pub size : length G ≡ length F

-- The frame of a function that writes only from p on: below p, G is F.
pub record Kept {A : Type 0} (p : ℕ) (F G : List A) : Type 0 where
  pub below : take p G ≡ take p F
  pub size : length G ≡ length F

-- n elements at `from` and n at `to`, which do not meet, in a store of that size
pub record CopyOk (size n from to : ℕ) : Type 0 where
  pub source : from + n ≤ size
  pub target : to + n ≤ size
  pub clear : Clear from n to n
