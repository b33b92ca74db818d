-- Texts of at most 512 bytes.
use Rattle.std.specs.Prelude.{ℕ, List, take}

-- what fits
unfoldable pub clipped : List ℕ → List ℕ
clipped bytes = take 512 bytes
