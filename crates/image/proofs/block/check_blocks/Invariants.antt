use Rattle.image.specs.Blocks.{SoundBelow}
use Rattle.image.proofs.block.check_blocks.Given as goal

abbrev pub invariant-loop-position : goal.invariant-loop-position
invariant-loop-position l = SoundBelow l.bytes l.position
