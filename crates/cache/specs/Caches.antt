-- A cache by its lines and by what the memory below means.
use Rattle.std.specs.Prelude.{◌≡◌, ℕ, ◌<◌, IsTrue, List, length}
use Rattle.cache.specs.declared.cache.Cache.{Cache}
use Rattle.cache.specs.Lines.{over, line_of, holds, laid, yielded}

-- the words of the memory below
abbrev pub words_below : {M : Type 0} → (M → List ℕ) → Cache M → List ℕ
words_below words c = words c.below.now

-- the words that a cache means
abbrev pub words_of : {M : Type 0} → (M → List ℕ) → Cache M → List ℕ
words_of words c = over c.lines (words_below words c)

-- what no call changes: the loan of the memory below, and what no call changes of that
abbrev pub frame_of : {M F : Type 0} → (M → F) → Cache M → ℕ × F
frame_of frame c = (c.below.ghost_name, frame c.below.now)

-- a cache before and after an access to an address that leaves a word there
pub record Accessed {M : Type 0} (words : M → List ℕ) (before after : Cache M) (a w : ℕ) : Type 0 where
  -- the line of the address holds it and the word, and the others stay
  pub lines : a < length (words_below words before) → after.lines ≡ laid before.lines a w
  -- what that line held of another address is written down
  pub below : a < length (words_below words before) → words_below words after ≡ yielded (line_of before.lines a) a (words_below words before)
  -- where the line held the address, the memory below is left alone
  pub hit : IsTrue (holds (line_of before.lines a) a) → after.below ≡ before.below

-- a cache before and after held words are written down, and the words that this leaves below
pub record WritesDown {M F : Type 0} (words : M → List ℕ) (frame : M → F) (before after : Cache M) (left : List ℕ) : Type 0 where
  pub lines : after.lines ≡ before.lines
  pub below : words_below words after ≡ left
  pub held : frame_of frame after ≡ frame_of frame before
