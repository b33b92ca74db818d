use Rattle.std.proofs.Common.{arith, length-take}
use Rattle.memory.proofs.flat.FlatMemoryDataMemory.size.Goals as goal

pub returns : goal.returns
returns c = simp length-take (omega arith)
