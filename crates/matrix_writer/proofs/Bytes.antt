-- Numbers that stand in the bytes of a record are those of its arrays. Assumes nothing.
use mathlib.Core.Path.{◌≡◌, sym, ap, ◌∙◌}
use mathlib.Core.List.{List}
use Prim.Native.Nat.{ℕ, ◌+◌, ◌*◌, ◌<◌}
use lib.Ieee.{Float, binary64, of_bits, nan}
use Rattle.store.specs.Region.{at}
use Rattle.store.proofs.store.Vector.{get_d_tab}
use Rattle.record_format.specs.Bytes.{u32_at, float_at, words_at, floats_at}
use Rattle.record_format.specs.Steps.{WordIs}
use Rattle.record_format.proofs.Reading.{long_is}
use Rattle.matrix_writer.specs.Contract.{WordOf}

-- A word at its place is that of the list of words.
pub word_in : (b : List ℕ) (start n k : ℕ) {r : ℕ} → WordIs b (start + 4 * k) r → k < n → WordOf (words_at b start n) k r
word_in b start n k w h = record { is = w.is ∙ sym (get_d_tab (λ i. u32_at b (start + 4 * i)) n k 0 h); small = w.small }

-- Two words at the place of a float are its bits.
pub float_in : (b : List ℕ) (start n k : ℕ) {low high : ℕ} {x : Float} → WordIs b (start + 8 * k) low → WordIs b (start + 8 * k + 4) high → k < n
    → x ≡ of_bits binary64 (low + 4294967296 * high) → x ≡ at (floats_at b start n) k
float_in b start n k p q h e = e ∙ ap (of_bits binary64) (long_is p q) ∙ sym (get_d_tab (λ i. float_at b (start + 8 * i)) n k nan h)
