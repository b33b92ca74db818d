-- What block 0 says.
use Rattle.std.specs.Prelude.{ℕ, List}
use Rattle.image.specs.declared.layout.Header.{Header}
use Rattle.image.specs.Format.{length_in, size_in, depth_in}

-- the two lengths and the depth that bytes name
abbrev pub header_in : List ℕ → Header
header_in bytes = record { program_len = length_in bytes; data_size = size_in bytes; depth = depth_in bytes }
