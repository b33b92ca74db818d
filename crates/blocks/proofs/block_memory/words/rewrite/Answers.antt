use Rattle.std.proofs.Common.{◌∙◌, arith}
use Rattle.blocks.proofs.Checks.{rewritten_so}
use Rattle.blocks.proofs.block_memory.words.rewrite.Goals as goal

pub returns : goal.returns
returns c =
    rewritten_so c.args.bytes.now c.write_word.new.bytes c.write_word-2.new.bytes c.args.block c.args.i c.args.word c.read_word-old.result c.read_word.result c.updated_check-check.result
    c.requires.inside
    c.requires.within
    c.ranges.word.fits
    (omega (arith, c.read_word-old.type_inv))
    c.read_word-old.ensures
    (c.read_word.ensures ∙ c.requires.checked)
    c.updated_check-check.ensures
    c.write_word.ensures
    c.write_word-2.ensures
