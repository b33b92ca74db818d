use Rattle.std.proofs.Common.{rules}
use Rattle.blocks.proofs.Patched.{replaced}
use Rattle.blocks.proofs.patch.replace_in_image.Goals as goal

pub returns : goal.returns
returns c =
    let made = c.new-memory.ensures in
    replaced _ _ c.new-memory.result c.replace.new.memory _ _ _ made.bytes (λ loan. search rules) made.words made.stands c.replace.ensures.replaced
