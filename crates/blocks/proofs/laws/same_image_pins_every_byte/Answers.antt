use Rattle.blocks.proofs.Images.{pinned}
use Rattle.blocks.proofs.laws.same_image_pins_every_byte.Goals as goal

pub returns : goal.returns
returns c = pinned
