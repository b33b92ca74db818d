use Rattle.std.proofs.Common.{rules}
use Rattle.isa.specs.Words.{lawful}
use Rattle.isa.proofs.Registers.{same_register}
use Rattle.image.specs.Blocks.{check}
use Rattle.image.specs.Format.{image_word}
use Rattle.examples.proofs.examples_stand.Goals as goal

pub returns : goal.returns
unfolding lawful check image_word
returns c = search (rules, same_register)
