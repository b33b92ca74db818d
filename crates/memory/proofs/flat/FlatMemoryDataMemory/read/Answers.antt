use Rattle.std.proofs.Common.{◌<◌, length, sym, refl, arith, length-take, get_or-take}
use Rattle.memory.specs.Flats.{first_words}
use Rattle.memory.proofs.Words.{reads_inside, reads_outside}
use Rattle.memory.proofs.flat.FlatMemoryDataMemory.read.Goals as goal

pub returns-in_err-check_address : goal.returns-in_err-check_address
returns-in_err-check_address c = reads_outside _ _ _ c.args.address c.from_residual.result c.from_residual.ensures.0 c.in_err-check_address.ensures.outside

pub bounds-self-address : goal.bounds-self-address
bounds-self-address c = omega (arith, length-take 4096 c.args.self.now.words.now, c.in_ok-check_address.ensures.inside)

pub returns : goal.returns
returns c =
    let ws = c.args.self.now.words.now in
    let a = c.args.address in
    let h : a < length (first_words ws) = c.in_ok-check_address.ensures.inside in
    let word = get_or-take 4096 ws a 0 (omega (arith, length-take 4096 ws)) in
    reads_inside _ _ _ _ a _ h (sym word) refl refl
