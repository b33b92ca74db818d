use Rattle.std.proofs.Common.{◌/◌, length, arith, below_more}
use Rattle.std.proofs.lemmas.Result.{err_from_is_err_and}
use Rattle.image.proofs.Chunked.{sound_chunk, chunk_sound}
use Rattle.image.proofs.block.check_blocks.Goals as goal

pub loop-position-preserved : goal.loop-position-preserved
loop-position-preserved c =
    let s = c.args.bytes.now in
    let marks = rw c.as_chunks.ensures.front at c.in_ok-check_block.ensures in
    below_more _ _ c.loop-position.invariant (sound_chunk s (length s / 512) c.loop-position.position (omega arith) marks)

pub returns-in_err-check_block : goal.returns-in_err-check_block
returns-in_err-check_block c =
    let s = c.args.bytes.now in
    let b = rw c.as_chunks.ensures.front at c.in_err-check_block.ensures in
    let p = err_from_is_err_and c.from_residual.result c.from_residual.ensures.1 in
    rw (p.1, p.2, b.0) (omega arith, λ h. b.1 (chunk_sound s (length s / 512) c.loop-position.position (omega arith) h))
