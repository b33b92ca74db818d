use Rattle.std.proofs.Common.{sym, refl, ◌∙◌, arith}
use Rattle.memory.proofs.Words.{reads_inside}
use Rattle.image.proofs.Contents.{word_here}
use Rattle.blocks.proofs.Standing.{words_counted}
use Rattle.blocks.proofs.block_memory.access.BlockMemoryDataMemory.read.Goals as goal

pub returns : goal.returns
returns c =
    let m = c.args.self.now in
    let a = c.args.address in
    let h = c.in_ok-check_address.ensures.inside in
    let word = word_here m.bytes.now m.first m.size a (omega (arith, words_counted m, h)) in
    reads_inside _ _ m m a _ h (c.data_word.ensures ∙ sym word) refl refl
