-- Where n data words stand in the bytes of an image, f being the first of their blocks.
use Rattle.std.specs.Prelude.{◌≡◌, ℕ, ◌+◌, ◌-◌, ◌*◌, ◌/◌, ◌%◌, ◌<◌, Bool, false, if◌then◌else◌, ◌&&◌, ◌||◌, List, map, length, Ok, ◌==◌, nat_le, nat_lt, slice_index}
use Rattle.std.specs.List.{range_with_len}
use Rattle.image.specs.Words.{put_word}
use Rattle.image.specs.Blocks.{check, block_word, pages}
use Rattle.image.specs.Format.{Contents, data_block, words_from}
use Rattle.image.specs.Opening.{Opening}

-- the block of data word p, and its place in that block
abbrev pub block_of : ℕ → ℕ → ℕ
block_of f p = f + p / 126

abbrev pub place_of : ℕ → ℕ
place_of p = 1 + p % 126

-- whether word i of block b is a data word
abbrev pub is_data : ℕ → ℕ → ℕ → ℕ → Bool
is_data f n b i = nat_le f b && (nat_lt 0 i && (nat_lt i 127 && nat_lt (126 * (b - f) + (i - 1)) n))

-- whether word i of block b is the check of a data block
abbrev pub is_check : ℕ → ℕ → ℕ → ℕ → Bool
is_check f n b i = nat_le f b && (nat_lt b (f + pages n) && i == 127)

-- whether a write may change word k of the bytes: a data word, or the check of its block
abbrev pub is_open : ℕ → ℕ → ℕ → Bool
is_open f n k = is_data f n (k / 128) (k % 128) || is_check f n (k / 128) (k % 128)

-- the other bytes, in their places among zeros
abbrev pub others : ℕ → ℕ → List ℕ → List ℕ
others f n bytes = map (λ k. if is_open f n (k / 4) then 0 else slice_index bytes k) (range_with_len 0 (length bytes))

-- the checks of the data blocks are right
abbrev pub Checked : ℕ → ℕ → List ℕ → Type 0
Checked f n bytes = (b : ℕ) → b < pages n → block_word bytes (f + b) 127 ≡ check (block_word bytes (f + b))

-- the bytes with word i of block b changed and the block's check made right
abbrev pub rewritten : List ℕ → ℕ → ℕ → ℕ → List ℕ
rewritten bytes b i w = put_word (put_word bytes (128 * b + i) w) (128 * b + 127) (check (block_word (put_word bytes (128 * b + i) w) b))

-- the same image with other data words: as long, these words in their places under right checks, every other byte as it was
pub record SameImage (f : ℕ) (before after words : List ℕ) : Type 0 where
  pub long : length after ≡ length before
  pub data_words : words_from after f (length words) ≡ words
  pub checked : Checked f (length words) after
  pub rest : (k : ℕ) → is_open f (length words) (k / 4) ≡ false → slice_index after k ≡ slice_index before k

-- what an image holds, with other data words
abbrev pub with_words : Contents → List ℕ → Contents
with_words c ws = record { program = c.program; words = ws; depth = c.depth }

-- an image with other data words, as many, opens, and holds what it held but for these
abbrev pub OpensWith : Type 0
OpensWith =
    (before after words : List ℕ) (c : Contents) → Opening before (Ok c) → length words ≡ length c.words
    → SameImage (data_block before) before after words → Opening after (Ok (with_words c words))

-- every number of the list is a byte
abbrev pub Bytes : List ℕ → Type 0
Bytes bytes = (k : ℕ) → slice_index bytes k < 256

-- 'the same image with these data words' leaves no byte open
abbrev pub Pinned : Type 0
Pinned =
    (f : ℕ) (before after other words : List ℕ) → Bytes after → Bytes other → SameImage f before after words → SameImage f before other words
    → after ≡ other
