use Rattle.std.proofs.Common.{◌∙◌, arith}
use Rattle.image.specs.Opening.{contents_of}
use Rattle.image.proofs.Openings.{says}
use Rattle.blocks.proofs.Ranges.{whole_range, no_range, contents_size, contents_block}
use Rattle.blocks.proofs.block_memory.opening.data_range.Goals as goal

pub overflow_cast-result : goal.overflow_cast-result
overflow_cast-result c =
    let s = says c.args.bytes.now c.in-Ok.ensures in
    let n = c.data_size.ensures ∙ contents_size c.args.bytes.now (contents_of c.in-Ok.image) s.1 in
    let w = s.0.counts.small in
    omega arith

pub returns-in-Ok : goal.returns-in-Ok
returns-in-Ok c =
    let s = says c.args.bytes.now c.in-Ok.ensures in
    let n = c.data_size.ensures ∙ contents_size c.args.bytes.now (contents_of c.in-Ok.image) s.1 in
    let f = c.data_block.ensures ∙ contents_block c.args.bytes.now (contents_of c.in-Ok.image) s.1 in
    rw (n, f) (whole_range c.args.bytes.now s.0)

pub returns-in-Err : goal.returns-in-Err
returns-in-Err c = no_range c.args.bytes.now (says c.args.bytes.now c.in-Err.ensures)
