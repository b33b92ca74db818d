-- The data words of bytes that may be an image.
use Rattle.std.specs.Prelude.{◌≡◌, ℕ, ◌+◌, ◌*◌, ◌≤◌, List, [], length, Ok, Err, Result}
use Rattle.refusal.specs.Refusals.{Declined}
use Rattle.image.specs.Blocks.{pages}
use Rattle.image.specs.Format.{Contents, data_block, size_in}
use Rattle.image.specs.Opening.{Opening}
use Rattle.blocks.specs.Layout.{Checked}

-- the data words that an answer of opening gives: none where the bytes do not open
abbrev pub data_of : Result Contents Declined → List ℕ
data_of (Ok c) = c.words
data_of (Err d) = []

-- where the data words stand: n of them from block f on, and none in bytes that do not open
pub record Range (bytes : List ℕ) (f n : ℕ) : Type 0 where
  pub few : n ≤ 4096
  pub within : 512 * (f + pages n) ≤ length bytes
  pub checked : Checked f n bytes
  pub opened : (c : Contents) → Opening bytes (Ok c) → (f ≡ data_block bytes) × (n ≡ size_in bytes)
  pub refused : (d : Declined) → Opening bytes (Err d) → n ≡ 0
