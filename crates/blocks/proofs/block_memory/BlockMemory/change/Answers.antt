use Rattle.blocks.proofs.Changes.{write_changed, checked_changed}
use Rattle.blocks.proofs.block_memory.BlockMemory.change.Goals as goal

pub invariant_of-self : goal.invariant_of-self
invariant_of-self c =
    let m = c.args.self.now in
    let e = rw (c.block_of-block.ensures, c.place_of.ensures) at c.rewrite.ensures in
    let d = write_changed m.bytes.now c.rewrite.new.bytes m.first m.size c.args.place c.args.word c.requires m.within c.ranges.word.fits e in
    record {
      few = m.few;
      within = rw d.long m.within;
      checked = checked_changed m.bytes.now c.rewrite.new.bytes m.first m.size c.args.place c.args.word c.requires d m.checked;
    }
