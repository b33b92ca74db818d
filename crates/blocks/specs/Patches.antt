-- One data word of an image replaced.
use Rattle.std.specs.Prelude.{◌≡◌, ℕ, List, Ok, Err, Result, slice_set}
use Rattle.refusal.specs.Refusals.{Declined}
use Rattle.memory.specs.Words.{reading}
use Rattle.image.specs.Format.{Contents, data_block}
use Rattle.image.specs.Opening.{Opening}
use Rattle.blocks.specs.Layout.{SameImage, with_words}
use Rattle.blocks.specs.Ranges.{data_of}

-- bytes before and after the data word at address a is replaced by w, and what is answered
pub record Replaced (before after : List ℕ) (a w : ℕ) (answer : Result ℕ Declined) : Type 0 where
  -- the word that stood there, or refusal 13; bytes that do not open have no words
  pub told : (x : Result Contents Declined) → Opening before x → answer ≡ reading (data_of x) a
  -- an image stays the same image with this data word, and opens
  pub image : (c : Contents) → Opening before (Ok c) → SameImage (data_block before) before after (slice_set c.words a w)
  pub opens : (c : Contents) → Opening before (Ok c) → Opening after (Ok (with_words c (slice_set c.words a w)))
  -- bytes that do not open stay
  pub closed : (d : Declined) → Opening before (Err d) → after ≡ before
