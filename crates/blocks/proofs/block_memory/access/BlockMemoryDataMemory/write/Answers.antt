use Rattle.std.proofs.Common.{◌<◌, sym, refl, arith}
use Rattle.std.proofs.Math.Seq.{set_out}
use Rattle.memory.proofs.Words.{writes_inside}
use Rattle.blocks.specs.Memories.{words_of}
use Rattle.blocks.proofs.Standing.{words_counted, stands_written, change_words, change_frame}
use Rattle.blocks.proofs.block_memory.access.BlockMemoryDataMemory.write.Goals as goal

pub returns-in_err-check_address-clause-image : goal.returns-in_err-check_address-clause-image
returns-in_err-check_address-clause-image c =
    let m = c.args.self.now in
    let a = c.args.address in
    let w = c.args.word in
    stands_written m m a w refl (sym (set_out (words_of m) a w c.in_err-check_address.ensures.outside))

pub returns : goal.returns
returns c =
    let m = c.args.self.now in
    let k = c.change.new.self in
    let a = c.args.address in
    let w = c.args.word in
    let h = c.in_ok-check_address.ensures.inside in
    let e = c.change.ensures in
    let l : a < m.size = omega (arith, words_counted m, h) in
    let small = c.ranges.word.fits in
    let left = change_words m k a w l small e.first e.size e.bytes in
    let held = change_frame m k a w l small e.first e.size e.bytes e.loan in
    record { written = writes_inside _ _ m k a w h left held; bytes = λ _. e.bytes; image = stands_written m k a w held left }
