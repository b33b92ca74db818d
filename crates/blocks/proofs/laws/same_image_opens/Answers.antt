use Rattle.blocks.proofs.Images.{still_opens}
use Rattle.blocks.proofs.laws.same_image_opens.Goals as goal

pub returns : goal.returns
returns c = still_opens
