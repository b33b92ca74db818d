-- Which bytes are an image.
use Rattle.std.specs.Prelude.{◌≡◌, ℕ, ◌*◌, ◌%◌, ◌<◌, ◌≤◌, List, length}
use Rattle.isa.specs.Programs.{LawfulProgram}
use Rattle.image.specs.Blocks.{AllSound}
use Rattle.image.specs.Format.{blocks_for, length_in, size_in, depth_in, program_in}

-- 1 to 43 whole blocks
pub record RightLength (bytes : List ℕ) : Type 0 where
  pub some : 0 < length bytes
  pub most : length bytes ≤ 22016
  pub whole : length bytes % 512 ≡ 0

-- the lengths and the depth in range, and as many blocks as they ask for
pub record RightCounts (bytes : List ℕ) : Type 0 where
  pub short : length_in bytes ≤ 1024
  pub small : size_in bytes ≤ 4096
  pub deep : 1 ≤ depth_in bytes
  pub shallow : depth_in bytes ≤ 8
  pub blocks : length bytes ≡ 512 * blocks_for (length_in bytes) (size_in bytes)

-- all that an image asks of its bytes
pub record IsWhole (bytes : List ℕ) : Type 0 where
  pub long : RightLength bytes
  pub sound : AllSound bytes
  pub counts : RightCounts bytes
  pub program : LawfulProgram (program_in bytes)
