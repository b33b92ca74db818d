use Rattle.std.proofs.Common.{rules}
use Rattle.blocks.proofs.Patched.{replaced}
use Rattle.host.proofs.pile.replace_data_word.Goals as goal

pub returns : goal.returns
returns c =
    let made = c.new-memory.ensures in
    replaced _ _ c.new-memory.result c.replace_through.new.memory _ _ _ made.bytes (λ loan. search rules) made.words made.stands c.replace_through.ensures
