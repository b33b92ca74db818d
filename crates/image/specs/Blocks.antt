-- Blocks of 128 words: word 0 the block's number, words 1 to 126 content, word 127 the check.
use Rattle.std.specs.Prelude.{◌≡◌, ℕ, zero, suc, ◌+◌, ◌*◌, ◌/◌, ◌%◌, ◌^◌, ◌<◌, List, length}
use Rattle.image.specs.Words.{word_at}

-- the sum over i below n of (2 i + 1) times word i
abbrev pub weighted : (ℕ → ℕ) → ℕ → ℕ
weighted words zero = 0
weighted words (suc n) = weighted words n + (2 * n + 1) * words n

-- the check of a block, given its words
unfoldable pub check : (ℕ → ℕ) → ℕ
check words = weighted words 127 % 2 ^ 32

-- word i of block b
abbrev pub block_word : List ℕ → ℕ → ℕ → ℕ
block_word bytes b i = word_at bytes (128 * b + i)

-- the words of a block whose number and check are right
pub record RightMarks (words : ℕ → ℕ) (b : ℕ) : Type 0 where
  pub number : words 0 ≡ b
  pub checked : words 127 ≡ check words

-- block b has a right number and a right check
abbrev pub Sound : List ℕ → ℕ → Type 0
Sound bytes b = RightMarks (block_word bytes b) b

-- how many blocks there are
abbrev pub block_count : List ℕ → ℕ
block_count bytes = length bytes / 512

-- the first n blocks are sound
abbrev pub SoundBelow : List ℕ → ℕ → Type 0
SoundBelow bytes n = (b : ℕ) → b < n → Sound bytes b

-- every block is sound
abbrev pub AllSound : List ℕ → Type 0
AllSound bytes = SoundBelow bytes (block_count bytes)

-- how many blocks hold a number of words, 126 to a block
abbrev pub pages : ℕ → ℕ
pages n = (n + 125) / 126

-- the number of the word that holds word p of a list of words, whose first block is b
abbrev pub place_from : ℕ → ℕ → ℕ
place_from b p = 128 * (b + p / 126) + (1 + p % 126)
