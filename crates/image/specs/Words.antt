-- Bytes as big-endian words of 32 bits.
use Rattle.std.specs.Prelude.{ℕ, ◌+◌, ◌-◌, ◌*◌, ◌/◌, ◌%◌, ◌^◌, ◌<◌, List, slice_index, slice_set}

-- the byte k of a word, from 0, the most significant
abbrev pub byte_of : ℕ → ℕ → ℕ
byte_of w k = w / 256 ^ (3 - k) % 256

-- the word with the number i, from 0
abbrev pub word_at : List ℕ → ℕ → ℕ
word_at bytes i =
    slice_index bytes (4 * i) * 2 ^ 24 + slice_index bytes (4 * i + 1) * 2 ^ 16 + slice_index bytes (4 * i + 2) * 2 ^ 8 + slice_index bytes (4 * i + 3)

-- the bytes with another word there
abbrev pub put_word : List ℕ → ℕ → ℕ → List ℕ
put_word bytes i w =
    slice_set (slice_set (slice_set (slice_set bytes (4 * i) (byte_of w 0)) (4 * i + 1) (byte_of w 1)) (4 * i + 2) (byte_of w 2)) (4 * i + 3) (byte_of w 3)

-- every number of the list is a word
abbrev pub AllWords : List ℕ → Type 0
AllWords ws = (k : ℕ) → slice_index ws k < 2 ^ 32
