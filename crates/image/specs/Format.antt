-- The format: what stands in each word of an image.
use Rattle.std.specs.Prelude.{ℕ, ◌+◌, ◌-◌, ◌*◌, ◌/◌, ◌%◌, ◌≤◌, if◌then◌else◌, List, [], ◌∷◌, map, length, ◌==◌, nat_lt, slice_index}
use Rattle.std.specs.List.{range_with_len}
use Rattle.image.specs.Words.{byte_of, word_at}
use Rattle.image.specs.Blocks.{check, pages, place_from}

-- what an image holds: a program, data words and a depth
pub record Contents : Type 0 where
  pub program : List ℕ
  pub words : List ℕ
  pub depth : ℕ

-- a depth that an image can have
abbrev pub Deep : ℕ → Type 0
Deep d = (1 ≤ d) × (d ≤ 8)

-- block 0, then the blocks of the program, then those of the data words
abbrev pub blocks_for : ℕ → ℕ → ℕ
blocks_for l s = 1 + pages l + pages s

-- how many blocks an image of these contents has
abbrev pub blocks_of : Contents → ℕ
blocks_of c = blocks_for (length c.program) (length c.words)

-- the first block of the data words
abbrev pub data_block_of : Contents → ℕ
data_block_of c = 1 + pages (length c.program)

-- word j of page p of some words, 126 to a page, 0 beyond the last
abbrev pub page_word : List ℕ → ℕ → ℕ → ℕ
page_word ws p j = slice_index ws (126 * p + j)

-- content word j of block b: block 0 holds the two lengths and the depth, and unused content is 0
abbrev pub content : Contents → ℕ → ℕ → ℕ
content c b j =
    if b == 0 then slice_index (length c.program ∷ length c.words ∷ c.depth ∷ []) j
    else if nat_lt (b - 1) (pages (length c.program)) then page_word c.program (b - 1) j
    else page_word c.words (b - 1 - pages (length c.program)) j

-- word i of block b, but for the check
abbrev pub unchecked_word : Contents → ℕ → ℕ → ℕ
unchecked_word c b i = if i == 0 then b else content c b (i - 1)

-- word i of block b
unfoldable pub image_word : Contents → ℕ → ℕ → ℕ
image_word c b i = if i == 127 then check (unchecked_word c b) else unchecked_word c b i

-- word i of the image
abbrev pub whole_word : Contents → ℕ → ℕ
whole_word c i = image_word c (i / 128) (i % 128)

-- byte k of the image
abbrev pub image_byte : Contents → ℕ → ℕ
image_byte c k = byte_of (whole_word c (k / 4)) (k % 4)

-- the bytes of the image
unfoldable pub image_of : Contents → List ℕ
image_of c = map (image_byte c) (range_with_len 0 (512 * blocks_of c))

-- what bytes hold, read as an image: the program's length, the number of data words, the depth
abbrev pub length_in : List ℕ → ℕ
length_in bytes = word_at bytes 1

abbrev pub size_in : List ℕ → ℕ
size_in bytes = word_at bytes 2

abbrev pub depth_in : List ℕ → ℕ
depth_in bytes = word_at bytes 3

-- word p of those whose first block is b
abbrev pub word_from : List ℕ → ℕ → ℕ → ℕ
word_from bytes b p = word_at bytes (place_from b p)

-- the first n of those
abbrev pub words_from : List ℕ → ℕ → ℕ → List ℕ
words_from bytes b n = map (word_from bytes b) (range_with_len 0 n)

-- the first block of the data words
abbrev pub data_block : List ℕ → ℕ
data_block bytes = 1 + pages (length_in bytes)

-- the program, the data words, and all together
abbrev pub program_in : List ℕ → List ℕ
program_in bytes = words_from bytes 1 (length_in bytes)

abbrev pub data_in : List ℕ → List ℕ
data_in bytes = words_from bytes (data_block bytes) (size_in bytes)

abbrev pub contents_in : List ℕ → Contents
contents_in bytes = record { program = program_in bytes; words = data_in bytes; depth = depth_in bytes }
