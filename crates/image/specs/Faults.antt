-- The numbers and figures of the refusals about images.
use Rattle.std.specs.Prelude.{[], ◌∷◌}
use Rattle.refusal.specs.Refusals.{Declined, refused}
use Rattle.isa.specs.Refusals.{of_program}
use Rattle.image.specs.declared.block.BlockFault.{BlockFault}
use Rattle.image.specs.declared.fault.ImageFault.{ImageFault}
use Rattle.image.specs.declared.fault.ImageFault.TheVariants.{Length, Block, Counts, Program}

-- 15: a block's number or check is wrong; the figure is its position
abbrev pub of_block : BlockFault → Declined
of_block f = refused 15 (f.block ∷ [])

-- 14: the length; 16: the counts; a fault of the program keeps its number and figures
abbrev pub of_image : ImageFault → Declined
of_image Length = refused 14 []
of_image (Block f) = of_block f
of_image Counts = refused 16 []
of_image (Program f) = of_program f
