-- The draws of a seed. Definitions only.
use Rattle.std.specs.Prelude.{ℕ, zero, suc, ◌+◌, ◌*◌, ◌/◌, ◌%◌, ◌^◌, bit_xor}

-- s xor s shifted left by k bits; bits beyond 64 fall off
abbrev pub shifted_left : ℕ → ℕ → ℕ
shifted_left k s = bit_xor s (s * 2 ^ k % 2 ^ 64)

-- s xor s shifted right by k bits
abbrev pub shifted_right : ℕ → ℕ → ℕ
shifted_right k s = bit_xor s (s / 2 ^ k)

-- the state after one draw: xor left 13, right 7, left 17
unfoldable pub next_of : ℕ → ℕ
next_of s = shifted_left 17 (shifted_right 7 (shifted_left 13 s))

-- the state after k draws: it starts at the seed
unfoldable pub state_of : ℕ → ℕ → ℕ
state_of seed zero = seed
state_of seed (suc k) = next_of (state_of seed k)

-- what a draw that leaves the state s gives: s plus the seed, modulo 2^64
abbrev pub drawn_of : ℕ → ℕ → ℕ
drawn_of seed s = (s + seed) % 2 ^ 64

-- draw k of a seed, counted from 0
unfoldable pub draw_of : ℕ → ℕ → ℕ
draw_of seed k = drawn_of seed (state_of seed (suc k))
