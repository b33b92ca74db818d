use Rattle.std.proofs.Common.{◌/◌, length, ◌∙◌, arith}
use Rattle.image.proofs.Chunked.{word_of_four}
use Rattle.image.proofs.words.read_word.Goals as goal

pub returns : goal.returns
returns c =
    let s = c.args.bytes.now in
    rw c.as_chunks.ensures.front at c.from_be_bytes.ensures ∙ word_of_four s (length s / 4) c.args.i (omega arith)
