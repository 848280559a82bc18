-- Worked examples: small texts, and what is read of them or why they are refused. They hold by computing. Assumes nothing.
use mathlib.Core.Path.{◌≡◌, refl}
use mathlib.Core.Bool.{Bool, true, false}
use mathlib.Core.List.{List, [], ◌∷◌, ◌++◌}
use Prim.Native.Nat.{ℕ}
use lib.Ieee.{binary64, of_bits, round, neg}
use Rattle.refusal.specs.Outcome.{Outcome, accepted, refused}
use Rattle.store.specs.Vector.{tab}
use Rattle.decimal_text.specs.Field.{all_digits, number_from, place_of}
use Rattle.matrix_market.specs.Lines.{pieces_of, kept}
use Rattle.coordinate.specs.Coordinate.{entries_there, joined, mirrors_of}
use Rattle.record_format.specs.Format.{Matrix}
use Rattle.matrix_reader.specs.File.{header_of, same_bytes, entries_from, Slices, file_of}

-- slices with room for eight entries of four rows, and an output of that many bytes
slices : ℕ → Slices
slices out = record { rows = 8; columns = 8; values = 8; starts = 5; order = 8; links = 8; out = out }

-- a symmetric or general text with these bytes behind its header and a line feed
file : Bool → List ℕ → List ℕ
file symmetric rest = header_of symmetric ++ (10 ∷ rest)

-- the number of the refusal; 0 where a text is read
number_for : ℕ → List ℕ → ℕ
number_for out text = go (file_of text (slices out))
  where
    go : Outcome Matrix → ℕ
    go (accepted m) = 0
    go (refused q) = q.number

-- the small matrix, one triangle of it, with carriage returns, a comment and blank lines
symmetric : file_of (file true (37 ∷ 10 ∷ 13 ∷ 10 ∷ 50 ∷ 9 ∷ 50 ∷ 32 ∷ 51 ∷ 32 ∷ 13 ∷ 10 ∷ 50 ∷ 32 ∷ 49 ∷ 32 ∷ 45 ∷ 50 ∷ 10 ∷ 32 ∷ 9 ∷ 10 ∷ 49 ∷ 32 ∷ 49 ∷ 32 ∷ 52 ∷ 13 ∷ 10 ∷ 50 ∷ 32 ∷ 50 ∷ 32 ∷ 50 ∷ [])) (slices 200) ≡ accepted (record {
  rows = 2;
  entries = 4;
  offsets = 0 ∷ 2 ∷ 4 ∷ [];
  columns = 0 ∷ 1 ∷ 0 ∷ 1 ∷ [];
  values = of_bits binary64 0x4010000000000000 ∷ of_bits binary64 0xc000000000000000 ∷ of_bits binary64 0xc000000000000000 ∷ of_bits binary64 0x4000000000000000 ∷ [];
})
unfolding slices file same_bytes entries_from kept pieces_of all_digits number_from place_of entries_there joined mirrors_of tab round neg of_bits
symmetric = refl

-- the same, all of it, in another order
general : file_of (file false (50 ∷ 32 ∷ 50 ∷ 32 ∷ 52 ∷ 10 ∷ 50 ∷ 32 ∷ 50 ∷ 32 ∷ 50 ∷ 10 ∷ 49 ∷ 32 ∷ 50 ∷ 32 ∷ 45 ∷ 50 ∷ 46 ∷ 10 ∷ 50 ∷ 32 ∷ 49 ∷ 32 ∷ 45 ∷ 50 ∷ 101 ∷ 48 ∷ 10 ∷ 49 ∷ 32 ∷ 49 ∷ 32 ∷ 46 ∷ 52 ∷ 69 ∷ 43 ∷ 49 ∷ 10 ∷ [])) (slices 200) ≡ accepted (record {
  rows = 2;
  entries = 4;
  offsets = 0 ∷ 2 ∷ 4 ∷ [];
  columns = 0 ∷ 1 ∷ 0 ∷ 1 ∷ [];
  values = of_bits binary64 0x4010000000000000 ∷ of_bits binary64 0xc000000000000000 ∷ of_bits binary64 0xc000000000000000 ∷ of_bits binary64 0x4000000000000000 ∷ [];
})
unfolding slices file same_bytes entries_from kept pieces_of all_digits number_from place_of entries_there joined mirrors_of tab round neg of_bits
general = refl

-- no rows
empty : file_of (file true (48 ∷ 32 ∷ 48 ∷ 48 ∷ 48 ∷ 48 ∷ 48 ∷ 48 ∷ 48 ∷ 48 ∷ 48 ∷ 48 ∷ 48 ∷ 48 ∷ 48 ∷ 48 ∷ 48 ∷ 48 ∷ 48 ∷ 48 ∷ 48 ∷ 48 ∷ 48 ∷ 48 ∷ 48 ∷ 48 ∷ 32 ∷ 48 ∷ 10 ∷ [])) (slices 200) ≡ accepted (record {
  rows = 0;
  entries = 0;
  offsets = 0 ∷ [];
  columns = [];
  values = [];
})
unfolding slices file same_bytes entries_from kept pieces_of all_digits number_from place_of entries_there joined mirrors_of tab round neg of_bits
empty = refl

-- nothing
no_text : number_for 200 ([]) ≡ 38
unfolding slices file same_bytes entries_from kept pieces_of all_digits number_from place_of entries_there joined mirrors_of tab round neg number_for
no_text = refl

-- a line before the header
blank_first : number_for 200 (10 ∷ file true (48 ∷ 32 ∷ 48 ∷ 32 ∷ 48 ∷ [])) ≡ 38
unfolding slices file same_bytes entries_from kept pieces_of all_digits number_from place_of entries_there joined mirrors_of tab round neg number_for
blank_first = refl

-- a carriage return may end the header
header_return : number_for 200 (header_of false ++ (13 ∷ 10 ∷ 48 ∷ 32 ∷ 48 ∷ 32 ∷ 48 ∷ [])) ≡ 0
unfolding slices file same_bytes entries_from kept pieces_of all_digits number_from place_of entries_there joined mirrors_of tab round neg number_for
header_return = refl

-- a space behind the header
header_space : number_for 200 (header_of false ++ (32 ∷ 10 ∷ 48 ∷ 32 ∷ 48 ∷ 32 ∷ 48 ∷ [])) ≡ 38
unfolding slices file same_bytes entries_from kept pieces_of all_digits number_from place_of entries_there joined mirrors_of tab round neg number_for
header_space = refl

-- no size line
header_alone : number_for 200 (header_of true) ≡ 38
unfolding slices file same_bytes entries_from kept pieces_of all_digits number_from place_of entries_there joined mirrors_of tab round neg number_for
header_alone = refl

-- not as many columns as rows
not_square : number_for 200 (file false (50 ∷ 32 ∷ 51 ∷ 32 ∷ 48 ∷ 10 ∷ [])) ≡ 38
unfolding slices file same_bytes entries_from kept pieces_of all_digits number_from place_of entries_there joined mirrors_of tab round neg number_for
not_square = refl

-- a size line of two numbers
two_sizes : number_for 200 (file false (50 ∷ 32 ∷ 50 ∷ 10 ∷ 49 ∷ 32 ∷ 49 ∷ 32 ∷ 49 ∷ 10 ∷ [])) ≡ 38
unfolding slices file same_bytes entries_from kept pieces_of all_digits number_from place_of entries_there joined mirrors_of tab round neg number_for
two_sizes = refl

-- sizes of 30 digits
long_sizes : number_for 200 (file false (57 ∷ 57 ∷ 57 ∷ 57 ∷ 57 ∷ 57 ∷ 57 ∷ 57 ∷ 57 ∷ 57 ∷ 57 ∷ 57 ∷ 57 ∷ 57 ∷ 57 ∷ 57 ∷ 57 ∷ 57 ∷ 57 ∷ 57 ∷ 57 ∷ 57 ∷ 57 ∷ 57 ∷ 57 ∷ 57 ∷ 57 ∷ 57 ∷ 57 ∷ 57 ∷ 32 ∷ 57 ∷ 57 ∷ 57 ∷ 57 ∷ 57 ∷ 57 ∷ 57 ∷ 57 ∷ 57 ∷ 57 ∷ 57 ∷ 57 ∷ 57 ∷ 57 ∷ 57 ∷ 57 ∷ 57 ∷ 57 ∷ 57 ∷ 57 ∷ 57 ∷ 57 ∷ 57 ∷ 57 ∷ 57 ∷ 57 ∷ 57 ∷ 57 ∷ 57 ∷ 57 ∷ 32 ∷ 48 ∷ 10 ∷ [])) ≡ 1
unfolding slices file same_bytes entries_from kept pieces_of all_digits number_from place_of entries_there joined mirrors_of tab round neg number_for
long_sizes = refl

-- sizes of 30 digits that differ in the last
long_unequal : number_for 200 (file false (57 ∷ 57 ∷ 57 ∷ 57 ∷ 57 ∷ 57 ∷ 57 ∷ 57 ∷ 57 ∷ 57 ∷ 57 ∷ 57 ∷ 57 ∷ 57 ∷ 57 ∷ 57 ∷ 57 ∷ 57 ∷ 57 ∷ 57 ∷ 57 ∷ 57 ∷ 57 ∷ 57 ∷ 57 ∷ 57 ∷ 57 ∷ 57 ∷ 57 ∷ 57 ∷ 32 ∷ 57 ∷ 57 ∷ 57 ∷ 57 ∷ 57 ∷ 57 ∷ 57 ∷ 57 ∷ 57 ∷ 57 ∷ 57 ∷ 57 ∷ 57 ∷ 57 ∷ 57 ∷ 57 ∷ 57 ∷ 57 ∷ 57 ∷ 57 ∷ 57 ∷ 57 ∷ 57 ∷ 57 ∷ 57 ∷ 57 ∷ 57 ∷ 57 ∷ 57 ∷ 56 ∷ 32 ∷ 48 ∷ 10 ∷ [])) ≡ 38
unfolding slices file same_bytes entries_from kept pieces_of all_digits number_from place_of entries_there joined mirrors_of tab round neg number_for
long_unequal = refl

-- a count of 30 digits, before an entry that is none
long_count : number_for 200 (file false (49 ∷ 32 ∷ 49 ∷ 32 ∷ 57 ∷ 57 ∷ 57 ∷ 57 ∷ 57 ∷ 57 ∷ 57 ∷ 57 ∷ 57 ∷ 57 ∷ 57 ∷ 57 ∷ 57 ∷ 57 ∷ 57 ∷ 57 ∷ 57 ∷ 57 ∷ 57 ∷ 57 ∷ 57 ∷ 57 ∷ 57 ∷ 57 ∷ 57 ∷ 57 ∷ 57 ∷ 57 ∷ 57 ∷ 57 ∷ 10 ∷ 49 ∷ 32 ∷ 49 ∷ 32 ∷ 120 ∷ 10 ∷ [])) ≡ 1
unfolding slices file same_bytes entries_from kept pieces_of all_digits number_from place_of entries_there joined mirrors_of tab round neg number_for
long_count = refl

-- a row too many
many_rows : number_for 200 (file false (54 ∷ 53 ∷ 53 ∷ 51 ∷ 55 ∷ 32 ∷ 54 ∷ 53 ∷ 53 ∷ 51 ∷ 55 ∷ 32 ∷ 49 ∷ 10 ∷ 120 ∷ 10 ∷ [])) ≡ 1
unfolding slices file same_bytes entries_from kept pieces_of all_digits number_from place_of entries_there joined mirrors_of tab round neg number_for
many_rows = refl

-- five entries and their mirrors have no room, whatever the entries are
no_room : number_for 200 (file true (50 ∷ 32 ∷ 50 ∷ 32 ∷ 53 ∷ 10 ∷ 120 ∷ 10 ∷ [])) ≡ 9
unfolding slices file same_bytes entries_from kept pieces_of all_digits number_from place_of entries_there joined mirrors_of tab round neg number_for
no_room = refl

-- an entry more than stated
surplus : number_for 200 (file false (50 ∷ 32 ∷ 50 ∷ 32 ∷ 49 ∷ 10 ∷ 49 ∷ 32 ∷ 49 ∷ 32 ∷ 49 ∷ 10 ∷ 50 ∷ 32 ∷ 50 ∷ 32 ∷ 49 ∷ 10 ∷ [])) ≡ 38
unfolding slices file same_bytes entries_from kept pieces_of all_digits number_from place_of entries_there joined mirrors_of tab round neg number_for
surplus = refl

-- a surplus entry with a bad value
surplus_bad : number_for 200 (file false (50 ∷ 32 ∷ 50 ∷ 32 ∷ 49 ∷ 10 ∷ 49 ∷ 32 ∷ 49 ∷ 32 ∷ 49 ∷ 10 ∷ 50 ∷ 32 ∷ 50 ∷ 32 ∷ 120 ∷ 10 ∷ [])) ≡ 38
unfolding slices file same_bytes entries_from kept pieces_of all_digits number_from place_of entries_there joined mirrors_of tab round neg number_for
surplus_bad = refl

-- a bad value before a surplus entry
bad_surplus : number_for 200 (file false (50 ∷ 32 ∷ 50 ∷ 32 ∷ 49 ∷ 10 ∷ 49 ∷ 32 ∷ 49 ∷ 32 ∷ 120 ∷ 10 ∷ 50 ∷ 32 ∷ 50 ∷ 32 ∷ 49 ∷ 10 ∷ [])) ≡ 39
unfolding slices file same_bytes entries_from kept pieces_of all_digits number_from place_of entries_there joined mirrors_of tab round neg number_for
bad_surplus = refl

-- an entry less than stated
missing : number_for 200 (file false (50 ∷ 32 ∷ 50 ∷ 32 ∷ 51 ∷ 10 ∷ 49 ∷ 32 ∷ 49 ∷ 32 ∷ 49 ∷ 10 ∷ 50 ∷ 32 ∷ 50 ∷ 32 ∷ 49 ∷ 10 ∷ [])) ≡ 38
unfolding slices file same_bytes entries_from kept pieces_of all_digits number_from place_of entries_there joined mirrors_of tab round neg number_for
missing = refl

-- a bad value and a missing entry
bad_missing : number_for 200 (file false (50 ∷ 32 ∷ 50 ∷ 32 ∷ 50 ∷ 10 ∷ 49 ∷ 32 ∷ 49 ∷ 32 ∷ 120 ∷ 10 ∷ [])) ≡ 39
unfolding slices file same_bytes entries_from kept pieces_of all_digits number_from place_of entries_there joined mirrors_of tab round neg number_for
bad_missing = refl

-- a repeated entry before a bad value
repeat_bad : number_for 200 (file false (50 ∷ 32 ∷ 50 ∷ 32 ∷ 51 ∷ 10 ∷ 49 ∷ 32 ∷ 49 ∷ 32 ∷ 49 ∷ 10 ∷ 49 ∷ 32 ∷ 49 ∷ 32 ∷ 49 ∷ 10 ∷ 50 ∷ 32 ∷ 50 ∷ 32 ∷ 120 ∷ 10 ∷ [])) ≡ 38
unfolding slices file same_bytes entries_from kept pieces_of all_digits number_from place_of entries_there joined mirrors_of tab round neg number_for
repeat_bad = refl

-- a bad value before a repeated entry
bad_repeat : number_for 200 (file false (50 ∷ 32 ∷ 50 ∷ 32 ∷ 51 ∷ 10 ∷ 49 ∷ 32 ∷ 49 ∷ 32 ∷ 49 ∷ 10 ∷ 50 ∷ 32 ∷ 50 ∷ 32 ∷ 120 ∷ 10 ∷ 49 ∷ 32 ∷ 49 ∷ 32 ∷ 49 ∷ 10 ∷ [])) ≡ 39
unfolding slices file same_bytes entries_from kept pieces_of all_digits number_from place_of entries_there joined mirrors_of tab round neg number_for
bad_repeat = refl

-- a repeated entry with a bad value
both : number_for 200 (file false (50 ∷ 32 ∷ 50 ∷ 32 ∷ 50 ∷ 10 ∷ 49 ∷ 32 ∷ 49 ∷ 32 ∷ 49 ∷ 10 ∷ 49 ∷ 32 ∷ 49 ∷ 32 ∷ 120 ∷ 10 ∷ [])) ≡ 38
unfolding slices file same_bytes entries_from kept pieces_of all_digits number_from place_of entries_there joined mirrors_of tab round neg number_for
both = refl

-- an entry at the place of a bad value
bad_then_same : number_for 200 (file false (50 ∷ 32 ∷ 50 ∷ 32 ∷ 50 ∷ 10 ∷ 49 ∷ 32 ∷ 49 ∷ 32 ∷ 120 ∷ 10 ∷ 49 ∷ 32 ∷ 49 ∷ 32 ∷ 49 ∷ 10 ∷ [])) ≡ 39
unfolding slices file same_bytes entries_from kept pieces_of all_digits number_from place_of entries_there joined mirrors_of tab round neg number_for
bad_then_same = refl

-- an entry above the diagonal, with a bad value
above : number_for 200 (file true (50 ∷ 32 ∷ 50 ∷ 32 ∷ 49 ∷ 10 ∷ 49 ∷ 32 ∷ 50 ∷ 32 ∷ 120 ∷ 10 ∷ [])) ≡ 38
unfolding slices file same_bytes entries_from kept pieces_of all_digits number_from place_of entries_there joined mirrors_of tab round neg number_for
above = refl

-- four fields
four_fields : number_for 200 (file false (50 ∷ 32 ∷ 50 ∷ 32 ∷ 49 ∷ 10 ∷ 49 ∷ 32 ∷ 49 ∷ 32 ∷ 49 ∷ 32 ∷ 49 ∷ 10 ∷ [])) ≡ 38
unfolding slices file same_bytes entries_from kept pieces_of all_digits number_from place_of entries_there joined mirrors_of tab round neg number_for
four_fields = refl

-- a carriage return inside a line is a byte of a field
inner_return : number_for 200 (file false (50 ∷ 32 ∷ 50 ∷ 32 ∷ 49 ∷ 10 ∷ 49 ∷ 32 ∷ 49 ∷ 32 ∷ 49 ∷ 13 ∷ 13 ∷ 10 ∷ [])) ≡ 39
unfolding slices file same_bytes entries_from kept pieces_of all_digits number_from place_of entries_there joined mirrors_of tab round neg number_for
inner_return = refl

-- a place of 0
place_zero : number_for 200 (file false (50 ∷ 32 ∷ 50 ∷ 32 ∷ 49 ∷ 10 ∷ 48 ∷ 32 ∷ 49 ∷ 32 ∷ 49 ∷ 10 ∷ [])) ≡ 38
unfolding slices file same_bytes entries_from kept pieces_of all_digits number_from place_of entries_there joined mirrors_of tab round neg number_for
place_zero = refl

-- a record of 34 bytes, and one less
short_output : number_for 33 (file false (50 ∷ 32 ∷ 50 ∷ 32 ∷ 49 ∷ 10 ∷ 50 ∷ 32 ∷ 49 ∷ 32 ∷ 53 ∷ 10 ∷ [])) ≡ 9
unfolding slices file same_bytes entries_from kept pieces_of all_digits number_from place_of entries_there joined mirrors_of tab round neg number_for
short_output = refl

-- the same with room
just_enough : number_for 34 (file false (50 ∷ 32 ∷ 50 ∷ 32 ∷ 49 ∷ 10 ∷ 50 ∷ 32 ∷ 49 ∷ 32 ∷ 53 ∷ 10 ∷ [])) ≡ 0
unfolding slices file same_bytes entries_from kept pieces_of all_digits number_from place_of entries_there joined mirrors_of tab round neg number_for
just_enough = refl

-- a bad value is told before the output
short_and_bad : number_for 0 (file false (50 ∷ 32 ∷ 50 ∷ 32 ∷ 49 ∷ 10 ∷ 50 ∷ 32 ∷ 49 ∷ 32 ∷ 120 ∷ 10 ∷ [])) ≡ 39
unfolding slices file same_bytes entries_from kept pieces_of all_digits number_from place_of entries_there joined mirrors_of tab round neg number_for
short_and_bad = refl
